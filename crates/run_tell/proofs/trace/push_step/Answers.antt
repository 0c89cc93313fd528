use Rattle.run_tell.proofs.Vocabulary.{on_ok_weaker, refl, step_members, ◌∙◌}
use Rattle.run_tell.proofs.trace.push_step.Goals as goal

pub returns : goal.returns
unfolding step_members
returns c =
    on_ok_weaker c.push_line_with.result
    (λ h. h
    ∙ rw (c.from.ensures, c.letter_of.ensures, c.as_bytes.ensures.value, c.as_bytes-2.ensures.value, c.meaning_of.ensures, c.access_of.ensures)
    (rw (c.is_any.ensures, c.deref-2.ensures.value, c.deref-3.ensures.value, c.deref-4.ensures.value, c.deref-5.ensures.value)
    (rw (c.deref-6.ensures.value, c.deref-7.ensures.value, c.in_ok-json.ensures, c.deref.ensures.value)
    (rw (c.in_ok-call.ensures, c.in_ok-proposed.ensures, c.in_ok-next.ensures, c.in_ok-changes.ensures) refl))))
    c.push_line_with.ensures
