use Rattle.run_tell.proofs.Vocabulary.{on_ok_weaker, refl, ◌∙◌}
use Rattle.run_tell.proofs.trace.push_begun.Goals as goal

pub returns : goal.returns
returns c =
    on_ok_weaker c.push_line_with.result
    (λ h. h ∙ rw (c.from.ensures, c.is_any.ensures, c.deref-2.ensures.value, c.deref-3.ensures.value, c.deref-4.ensures.value, c.deref-5.ensures.value, c.deref-6.ensures.value, c.deref-7.ensures.value, c.deref-8.ensures.value, c.in_ok-json.ensures, c.deref.ensures.value, c.in_ok-call.ensures, c.in_ok-changes.ensures) refl)
    c.push_line_with.ensures
