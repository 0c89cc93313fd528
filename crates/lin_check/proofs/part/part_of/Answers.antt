use Rattle.std.proofs.lemmas.Bool.Decides.{nat_tests}
use Rattle.std.proofs.lemmas.List.{append-nil}
use Rattle.lin_check.proofs.Vocabulary.{[], ap, arith, false, length, process_of, subst, sym, true, ◌++◌, ◌<◌, ◌∙◌, ◌∷◌}
use Rattle.lin_check.proofs.Cutting.{cut_on, many_after}
use Rattle.lin_check.proofs.part.part_of.Goals as goal
use Rattle.lin_check.proofs.part.part_of.Goals.{then-pass_part-part+in_ok-copied+in_ok-push, else-pass_part-part}

pub loop-event-preserved : goal.loop-event-preserved
loop-event-preserved g c =
    let part = g.O.Checkable.part in
    let at = c.loop-event.event-index in
    let within = c.loop-event-test.true in
    let latest = c.loop-event.latest.items in
    let before = c.loop-event.events.items in
    let small = subst (λ e. process_of e < c.args.n) (sym c.event-item.is) (c.requires at c.event-item.result within) in
    let many = ap length c.pass_part.ensures.latest ∙ many_after part c.args.part _ latest ∙ c.loop-event.invariant.many in
    elim c.if-pass_part-part.branch [
      | then-pass_part-part+in_ok-copied+in_ok-push w ↦
          record {
            many = many;
            events = cut_on part c.args.part c.args.history.now at c.args.n c.event-item.result latest c.pass_part.new.latest.items before c.if-pass_part-part.events.items _ true c.event-item.is within small c.loop-event.invariant.many
                (let told = c.pass_part.ensures.part in let same = w.if-pass_part-part.true in grind (arith, nat_tests))
                (ap (λ v. v.items) w.events-is ∙ w.in_ok-push.ensures.items ∙ ap (λ e. before ++ e ∷ []) w.in_ok-copied.ensures)
                c.pass_part.ensures.latest c.loop-event.invariant.events;
          }
      | else-pass_part-part w ↦
          record {
            many = many;
            events = cut_on part c.args.part c.args.history.now at c.args.n c.event-item.result latest c.pass_part.new.latest.items before c.if-pass_part-part.events.items _ false c.event-item.is within small c.loop-event.invariant.many
                (let told = c.pass_part.ensures.part in let other = w.if-pass_part-part.false in grind (arith, nat_tests))
                (ap (λ v. v.items) w.events-is ∙ sym (append-nil before))
                c.pass_part.ensures.latest c.loop-event.invariant.events;
          }
    ]
