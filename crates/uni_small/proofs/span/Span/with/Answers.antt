use Rattle.uni_small.proofs.Vocabulary.{IsOutside, arith, inl, inr, ◌*◌, ℕ}
use Rattle.uni_small.proofs.span.Span.with.Goals as goal

-- of rows of one word the word is the process
of_one : (from to q : ℕ) → IsOutside from to q → IsOutside (from * 1) (to * 1) q
of_one from to q outside = elim outside [ inl sooner ↦ inl (omega (arith, sooner)) | inr after ↦ inr (omega (arith, after)) ]

one_of : (from to q : ℕ) → IsOutside (from * 1) (to * 1) q → IsOutside from to q
one_of from to q outside = elim outside [ inl sooner ↦ inl (omega (arith, sooner)) | inr after ↦ inr (omega (arith, after)) ]

pub returns-clause-beside : goal.returns-clause-beside
returns-clause-beside c q beside =
    let both = c.join.ensures.beside 1 q (of_one c.join.result.from c.join.result.to q beside) in (
      one_of c.args.self.from c.args.self.to q both.0,
      (λ same. elim both.1 [ inl sooner ↦ omega (arith, sooner, same) | inr after ↦ omega (arith, after, same) ]),
    )
