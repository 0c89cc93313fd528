use Rattle.run_tell.proofs.Vocabulary.{ap, append_assoc, drop, flat_map, remark_told, scene_shown, slice_get, take, ◌++◌, ◌∙◌}
use Rattle.run_tell.proofs.order.push_event.Goals as goal

pub returns-clause-text : goal.returns-clause-text
returns-clause-text g c =
    let words = g.T.Telling.wording in
    let remarks = c.args.remarks.now in
    let text = c.args.text.now.items in
    let told = flat_map (remark_told words c.args.range) in
    let event = words.event c.args.event (slice_get c.args.lines.now c.args.event) (scene_shown c.args.scene.now) in
    c.in_ok-push_scene.ensures ∙ ap (λ line. c.push_remarks.new.text.items ++ words.event c.args.event line (scene_shown c.args.scene.now)) c.line_of.ensures
    ∙ ap (λ l. l ++ event) (c.in_ok-push_remarks.ensures ∙ ap (λ some. text ++ told some) (c.split_at.ensures.front ∙ ap (λ n. take n remarks) c.told_before.ensures.count))
    ∙ append_assoc text _ event

pub returns-clause-left : goal.returns-clause-left
returns-clause-left g c = c.split_at.ensures.back ∙ ap (λ n. drop n c.args.remarks.now) c.told_before.ensures.count
