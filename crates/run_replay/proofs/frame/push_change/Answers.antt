use Rattle.run_replay.proofs.Vocabulary.{change_shown, map-append, refl, sym, ◌∙◌}
use Rattle.run_replay.proofs.frame.push_change.Goals as goal

pub returns : goal.returns
returns c =
    let differs = sym (rw (c.as_slice.ensures.value, c.as_slice-2.ensures.value) at c.eq.ensures) ∙ c.if-eq.false in
    rw (c.in_ok-push.ensures.items, map-append change_shown c.args.changes.now.items, c.in_ok-from_slice.ensures.items, c.in_ok-from_slice-2.ensures.items, c.in_ok-from_slice-3.ensures.items, c.deref.ensures.value, c.deref-2.ensures.value, c.deref-3.ensures.value, differs) refl
