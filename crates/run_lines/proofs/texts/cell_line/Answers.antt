use Rattle.run_lines.proofs.Vocabulary.{append_assoc, ◌∙◌}
use Rattle.run_lines.proofs.texts.cell_line.Goals as goal

pub returns : goal.returns
returns c =
    c.in_ok-push_state.ensures
    ∙ rw (c.in_ok-extend_from_slice-3.ensures.items, c.in_ok-push.ensures.items, c.in_ok-extend_from_slice-2.ensures.items, c.in_ok-extend_from_slice.ensures.items, c.deref.ensures.value, c.deref-2.ensures.value, c.in_ok-cell_name.ensures, c.in_ok-cell_words.ensures, c.in_ok-cell_state.ensures, c.new-line.ensures.items) (simp append_assoc)
