use Rattle.uni_words.proofs.Vocabulary.{IsFirstOther, IsRight, Some, ap, arith, entry_shown, inl, inr, length, map, refl, subst, sym, ℕ, ◌∙◌}
use Rattle.uni_words.proofs.Comparing.{listed-start, listed-further, agrees-all, other-differs, slice_get-map, slice_get-index, length-mapped}
use Rattle.uni_words.proofs.compare.differs.Given.{Over}
use Rattle.uni_words.proofs.compare.differs.Goals as goal

pub loop-process-init : goal.loop-process-init
loop-process-init g c =
    (c.first_wrong.ensures.none c.in_default.is, listed-start (g.O.WordObject.sequential c.args.object.now) (map entry_shown c.args.entries.now) (map (λ own. own.items) c.args.lists.now))

pub returns-in-Some-clause-agrees : goal.returns-in-Some-clause-agrees
returns-in-Some-clause-agrees g c =
    let wrong = c.in-Some.ensures.some in
    (λ none. absurd (cc), λ agrees. absurd (wrong.wrong (rw length-mapped at (agrees.right wrong.place))))

pub returns-in-Some-clause-first : goal.returns-in-Some-clause-first
returns-in-Some-clause-first g c = inl (rw length-mapped c.in-Some.ensures.some)

-- the list that the loop stands at is not what the log has
other-here : (g : Over) (c : goal.In-Some-first_other g)
    → IsFirstOther (map entry_shown c.args.entries.now) (map (λ own. own.items) c.args.lists.now) (record { process = c.loop-process.process; nth = c.in-Some-first_other.place })
other-here g c = record {
  own = c.deref.result.now;
  here = slice_get-map (λ own. own.items) c.args.lists.now c.loop-process.process c.index-lists-process.result
      (slice_get-index c.args.lists.now c.loop-process.process c.index-lists-process.result c.loop-process-test.true ∙ ap Some (sym c.index-lists-process.is))
      ∙ ap Some (sym c.deref.ensures.value);
  other = c.in-Some-first_other.ensures.some;
  before = c.loop-process.invariant.1;
}

pub returns-in-Some-first_other-clause-agrees : goal.returns-in-Some-first_other-clause-agrees
returns-in-Some-first_other-clause-agrees g c = (
  λ none. absurd (cc),
  λ agrees. absurd (other-differs (g.O.WordObject.sequential c.args.object.now) (map entry_shown c.args.entries.now) (map (λ own. own.items) c.args.lists.now) _ (other-here g c) agrees),
)

-- as many lists as the code has
right-counted : (g : Over) (c : goal.In-Some-first_other g) → (place : ℕ)
    → IsRight (g.O.WordObject.sequential c.args.object.now) (map entry_shown c.args.entries.now) (length (map (λ own. own.items) c.args.lists.now)) place
right-counted g c = subst (λ k. (place : ℕ) → IsRight (g.O.WordObject.sequential c.args.object.now) (map entry_shown c.args.entries.now) k place)
    (sym (length-mapped (λ own. own.items) c.args.lists.now)) c.loop-process.invariant.0

pub returns-in-Some-first_other-clause-first : goal.returns-in-Some-first_other-clause-first
returns-in-Some-first_other-clause-first g c = inr (right-counted g c, other-here g c)

pub loop-process-preserved : goal.loop-process-preserved
loop-process-preserved g c = (
  c.loop-process.invariant.0,
  listed-further (g.O.WordObject.sequential c.args.object.now) (map entry_shown c.args.entries.now) (map (λ own. own.items) c.args.lists.now) c.loop-process.process c.loop-process.invariant.1
      c.deref.result.now
      (slice_get-map (λ own. own.items) c.args.lists.now c.loop-process.process c.index-lists-process.result
      (slice_get-index c.args.lists.now c.loop-process.process c.index-lists-process.result c.loop-process-test.true ∙ ap Some (sym c.index-lists-process.is))
      ∙ ap Some (sym c.deref.ensures.value))
      (c.first_other.ensures.none c.in_default-first_other.is),
)

pub returns-clause-agrees : goal.returns-clause-agrees
returns-clause-agrees g c =
    let counted = sym (length-mapped (λ own. own.items) c.args.lists.now) in
    let all = agrees-all (g.O.WordObject.sequential c.args.object.now) (map entry_shown c.args.entries.now) (map (λ own. own.items) c.args.lists.now)
    (subst (λ k. (place : ℕ) → IsRight (g.O.WordObject.sequential c.args.object.now) (map entry_shown c.args.entries.now) k place) counted c.loop-process.invariant.0)
    c.loop-process.process (let t = c.loop-process-test.false in let l = counted in omega arith) c.loop-process.invariant.1 in
    (λ none. all, λ agrees. refl)
