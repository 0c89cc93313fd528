use Rattle.uni_small.proofs.Vocabulary.{IsOutside, ap, arith, inl, inr, lt_cases, mul-le-mul_right, ◌*◌, ◌≡◌, ◌≤◌, ℕ}
use Rattle.uni_small.proofs.span.Span.join.Goals as goal

-- where there is none, each word is outside
none_there : (from to wide i : ℕ) → from ≡ to → IsOutside (from * wide) (to * wide) i
none_there from to wide i none = elim (lt_cases i (from * wide)) [
  | inl less ↦ inl less.0
  | inr more ↦ inr (let m = more.0 in let e : from * wide ≡ to * wide = ap (λ k. k * wide) none in omega (arith, m, e))
]

further : (from to less more wide i : ℕ) → less ≤ from → to ≤ more → IsOutside (less * wide) (more * wide) i → IsOutside (from * wide) (to * wide) i
further from to less more wide i before after outside = elim outside [
  | inl sooner ↦ inl (let h : less * wide ≤ from * wide = mul-le-mul_right wide before in omega (arith, sooner, h))
  | inr later ↦ inr (let h : to * wide ≤ more * wide = mul-le-mul_right wide after in omega (arith, later, h))
]

pub returns-clause-beside : goal.returns-clause-beside
returns-clause-beside c wide i outside =
    let low = c.min.ensures in
    let high = c.max.ensures in (
      further c.args.self.from c.args.self.to c.min.result c.max.result wide i (omega (arith, low)) (omega (arith, high)) outside,
      further c.args.more.from c.args.more.to c.min.result c.max.result wide i (omega (arith, low)) (omega (arith, high)) outside,
    )

pub returns-then-self-clause-beside : goal.returns-then-self-clause-beside
returns-then-self-clause-beside c wide i outside = (none_there c.args.self.from c.args.self.to wide i c.if-self.true, outside)

pub returns-then-more-clause-beside : goal.returns-then-more-clause-beside
returns-then-more-clause-beside c wide i outside = (outside, none_there c.args.more.from c.args.more.to wide i c.if-more.true)
