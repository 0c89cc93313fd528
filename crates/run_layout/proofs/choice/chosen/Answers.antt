use Rattle.run_layout.proofs.Vocabulary.{ap, era_in, filter, map, marks_are, marks_shown, meets, refl, rules, ◌∙◌}
use Rattle.run_layout.proofs.choice.chosen.Goals as goal

pub returns-clause-chosen : goal.returns-clause-chosen
returns-clause-chosen c =
    let range = c.args.range in
    marks_are _ _ refl c.count.ensures.count (search rules) c.in_ok-bars_in.ensures (search rules) (search rules)
    (c.in_ok-eras.ensures ∙ ap (λ dots. map (era_in range dots) (filter (λ era. meets range era.from era.last) (marks_shown c.args.marks).eras)) c.deref.ensures.value)
