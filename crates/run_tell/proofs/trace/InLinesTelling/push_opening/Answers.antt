use Rattle.run_tell.proofs.Vocabulary.{on_ok_weaker, refl, ◌∙◌}
use Rattle.run_tell.proofs.trace.InLinesTelling.push_opening.Goals as goal

pub returns-in_ok-json-in-Some : goal.returns-in_ok-json-in-Some
returns-in_ok-json-in-Some g c =
    on_ok_weaker c.push_line_with.result
    (λ h. h ∙ rw (c.as_bytes.ensures.value, c.as_slice.ensures.value, c.deref.ensures.value, c.in_ok-json-in-Some.ensures, c.in-Some.is) refl)
    c.push_line_with.ensures

pub returns-in-None : goal.returns-in-None
returns-in-None g c =
    on_ok_weaker c.push_line_with-in-None.result (λ h. h ∙ rw (c.as_bytes.ensures.value, c.as_slice.ensures.value, c.in-None.is) refl) c.push_line_with-in-None.ensures
