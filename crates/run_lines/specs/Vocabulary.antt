-- The names of other crates, and of the declared types, that the definitions of this crate share.
pub use Rattle.run_layout.specs.Choice.{chosen, chosen_remarks}
pub use Rattle.run_layout.specs.Marked.{Adds, Sign, after_events, part, sign_shown, signs_of}
pub use Rattle.run_layout.specs.Subject.{HasRangeFault, HasRangeFaultOf, IsSubjectOf, marks_of_own, marks_of_session}
pub use Rattle.run_layout.specs.Vocabulary.{After, Cell, DecideAfter, Dot, EraMarks, Fault, Global, HasFault, Heading, IsFaultOfScript, Kind, Look, Meaning, Note, PlacedRemark, Remark, RunMarks, StepKind, cell_shown, decimal, era_shown, filter, flat_map, marks_shown, meaning, option_map_or, own_scripts_of, scripts_of, spoken}
unfoldable pub use Rattle.run_layout.specs.Vocabulary.{digits}
pub use Rattle.run_layout.specs.declared.choice.Range.{Range}
pub use Rattle.run_layout.specs.declared.choice.RangeFault.{RangeFault}
pub use Rattle.run_layout.specs.declared.marked.Mark.{Mark}
pub use Rattle.run_layout.specs.Wording.{cell_name, cell_state, cell_words, letter_of, lines_of, name_text, title_text}
pub use Rattle.run_lines.specs.declared.canvas.Ink.{Ink}
pub use Rattle.run_lines.specs.declared.canvas.Ink.TheVariants.{Arrow, Bar, Line, Text}
pub use Rattle.run_lines.specs.declared.canvas.Stroke.{Stroke}
pub use Rattle.run_lines.specs.declared.parts.Numbering.{Numbering}
pub use Rattle.run_lines.specs.declared.sheet.Block.{Block}
pub use Rattle.signs.specs.Signs.{AreApart, AreShown, Outline, Places, places_shown}
pub use Rattle.std.specs.List.{range_with_len, suffix_len}
