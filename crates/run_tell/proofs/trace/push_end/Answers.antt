use Rattle.run_tell.proofs.Vocabulary.{on_ok_weaker, refl, ◌∙◌}
use Rattle.run_tell.proofs.trace.push_end.Goals as goal

pub returns : goal.returns
returns c = on_ok_weaker c.push_line_with.result (λ h. h ∙ rw (c.as_bytes.ensures.value, c.end_word.ensures, c.deref.ensures.value) refl) c.push_line_with.ensures
