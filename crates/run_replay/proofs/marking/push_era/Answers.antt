use Rattle.run_replay.proofs.Vocabulary.{[], ap, append-nil, append_assoc, box_of, boxes_from, cell_shown, drop, drop_all, entry_shown, era_shown, log, map, map-append, name_in, option_map, seq_of, state_settled_at, sym, world_of, ◌++◌, ◌+◌, ◌∙◌, ◌∷◌, ◌≡◌}
use Rattle.run_replay.proofs.Boxed.{boxes_more}
use Rattle.run_replay.proofs.marking.push_era.Goals as goal

pub loop-place-preserved : goal.loop-place-preserved
loop-place-preserved g c =
    let l = g.O.Spoken.language in
    let text = g.O.Spoken.state_text in
    let w = world_of c.args.world.now in
    let place = c.loop-place.place in
    let entries = c.deref-entry-items.result.now in
    let entry = c.entry-item.result in
    let made = map cell_shown c.loop-place.cells.items in
    let rest = boxes_from l text w (place + 1 + 1) (map entry_shown (drop (place + 1) entries)) in
    let state : option_map (λ t. t.items) c.in_ok-state.state ≡ option_map text (state_settled_at w (place + 1)) =
    c.in_ok-state.ensures ∙ ap (option_map text) (c.state_at.ensures.settled ∙ ap (λ v. state_settled_at (world_of v) (place + 1)) c.of-log.ensures) in
    let box : cell_shown c.in_ok-cell_of.field-0 ≡ box_of l (option_map text (state_settled_at w (place + 1))) (entry_shown entry) = c.in_ok-cell_of.ensures ∙ ap (λ s. box_of l s (entry_shown entry)) state in
    ap (λ m. m ++ rest) (ap (map cell_shown) c.in_ok-push.ensures.items ∙ map-append cell_shown c.loop-place.cells.items (c.in_ok-cell_of.field-0 ∷ []) ∙ ap (λ b. made ++ b ∷ []) box)
    ∙ append_assoc made (box_of l (option_map text (state_settled_at w (place + 1))) (entry_shown entry) ∷ []) rest
    ∙ ap (λ r. made ++ r) (sym (boxes_more l text w place entries entry c.loop-place-test.true c.entry-item.is))
    ∙ c.loop-place.invariant

pub returns : goal.returns
returns g c =
    let w = world_of c.args.world.now in
    let boxes : map cell_shown c.loop-place.cells.items ≡ boxes_from g.O.Spoken.language g.O.Spoken.state_text w 1 (log w) =
    sym (append-nil (map cell_shown c.loop-place.cells.items))
    ∙ (rw (drop_all c.loop-place.place c.deref-entry-items.result.now c.loop-place-test.false, c.deref-entry-items.ensures.value, c.in_ok-entries.ensures.log, c.of-log.ensures) at c.loop-place.invariant) in
    let anchor = c.seq.ensures ∙ ap (λ i. seq_of w.memory (name_in w i)) c.anchor.ensures in
    ap (map era_shown) c.in_ok-push-2.ensures.items ∙ map-append era_shown c.args.eras.now.items _
    ∙ (λ i. map era_shown c.args.eras.now.items ++ record { from = c.args.from; last = c.args.last; processes = c.processes.ensures i; anchor = anchor i; cells = boxes i } ∷ [])
