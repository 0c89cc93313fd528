use Rattle.run_lines.proofs.Vocabulary.{append_assoc, ◌∙◌}
use Rattle.run_lines.proofs.sheet.text_of.Goals as goal

pub returns : goal.returns
returns c = record {
  legend = c.in_ok-legend.legend.items;
  parts = c.in_ok-extend_from_slice.ensures.items
      ∙ rw (c.deref-10.ensures.value, c.in_ok-push_eras.ensures, c.in_ok-push_notes.ensures, c.in_ok-push.ensures.items, c.in_ok-push_blocks.ensures, c.in_ok-push_headings.ensures, c.in_ok-push_wrapped.ensures, c.new-text.ensures.items, c.deref-3.ensures.value, c.in_ok-rows.ensures, c.deref-2.ensures.value, c.deref-4.ensures.value, c.deref-5.ensures.value, c.deref-6.ensures.value, c.deref.ensures.value, c.in_ok-title_of.ensures)
      (simp append_assoc);
}
