use Rattle.unibench_run.proofs.Vocabulary.{List, [], ap, append_assoc, into_iter_items, map, sym, ◌++◌, ◌∙◌, ◌∷◌, ◌≡◌}
use Rattle.unibench_run.proofs.threads.parted.Goals as goal

-- one more has been taken, and its part pushed
further : {D A : Type 0} (part : D → A) (all was now : List D) (one : D) (parts more : List A) → was ≡ one ∷ now → more ≡ parts ++ part one ∷ []
    → map part all ≡ parts ++ map part was → map part all ≡ more ++ map part now
further part all was now one parts more taken pushed before =
    before ∙ ap (λ l. parts ++ map part l) taken ∙ sym (append_assoc parts (part one ∷ []) (map part now)) ∙ ap (λ l. l ++ map part now) (sym pushed)

pub loop-one-preserved : goal.loop-one-preserved
loop-one-preserved g c =
    let was = into_iter_items c.loop-one.one-iterator in
    let now = into_iter_items c.next.new.self in (
      further (λ one. one.seat) _ was now c.in-Some.one c.loop-one.seats.items _ c.in-Some.ensures.steps.0 c.in_ok-push.ensures.items c.loop-one.invariant.0,
      further (λ one. one.told) _ was now c.in-Some.one c.loop-one.lists.items _ c.in-Some.ensures.steps.0 c.in_ok-push-2.ensures.items c.loop-one.invariant.1,
    )
