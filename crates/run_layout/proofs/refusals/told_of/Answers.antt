use Rattle.run_layout.proofs.Vocabulary.{[], ap, drop, label_after, length, map, rules, sym, take, take_rest, times_after, told_shown, ◌++◌, ◌+◌, ◌-◌, ◌∙◌, ◌∷◌, ◌≡◌}
use Rattle.run_layout.proofs.Adding.{labels_more, labels_none, added_first, added_all}
use Rattle.run_layout.proofs.refusals.told_of.Goals as goal

pub loop-place-preserved : goal.loop-place-preserved
loop-place-preserved c =
    let remarks = c.args.remarks.now in
    let place = c.loop-place.place in
    let times = c.loop-place.times in
    let one = c.index-remarks-place.result in
    let now = map told_shown c.loop-place.told.items in
    let rest = drop (place + 1) remarks in
    let whole : take (length remarks - (place + 1)) rest ≡ rest = take_rest remarks (place + 1) in
    let next = labels_more times c.in_ok-times.times place remarks one c.loop-place-test.true c.index-remarks-place.is (c.in_ok-times.ensures.times ∙ ap (times_after times one) whole) in
    record {
      small = search rules;
      count = search rules;
      rest = added_first now _ (label_after times one (drop (place + 1) remarks) ∷ []) _ _ (ap (λ l. now ++ l) (sym next) ∙ c.loop-place.invariant.rest) (c.in_ok-times.ensures.label ∙ ap (λ l. now ++ label_after times one l ∷ []) whole);
    }

pub returns-clause-labels : goal.returns-clause-labels
returns-clause-labels c = added_all _ _ _ c.loop-place.invariant.rest (labels_none c.loop-place.times c.loop-place.place c.args.remarks.now c.loop-place-test.false)
