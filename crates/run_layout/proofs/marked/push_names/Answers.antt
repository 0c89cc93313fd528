use Rattle.run_layout.proofs.Vocabulary.{Name, [], ap, arith, at, map, name_text, sign_shown, sym, ◌++◌, ◌+◌, ◌-◌, ◌∙◌, ◌∷◌}
use Rattle.run_layout.proofs.Adding.{names_from-more, names_from-none, added_first, added_all}
use Rattle.run_layout.proofs.marked.push_names.Goals as goal

pub loop-process-preserved : goal.loop-process-preserved
loop-process-preserved c =
    let process = c.loop-process.process in
    let now = map sign_shown c.loop-process.signs.items in
    let next = names_from-more c.args.event process (c.args.to - process) (c.args.to - (process + 1)) (omega arith) in
    added_first now _ (at Name c.args.event process (name_text process) ∷ []) _ _ (ap (λ l. now ++ l) (sym next) ∙ c.loop-process.invariant)
    (c.in_ok-push_at.ensures ∙ ap (λ t. now ++ at Name c.args.event process t ∷ []) c.in_ok-name_of.ensures)

pub returns : goal.returns
returns c = added_all _ _ _ c.loop-process.invariant (names_from-none _ _ _ (omega arith))
