-- The names of other crates, and of the declared types, that the definitions of this crate share.
pub use Rattle.run_layout.specs.Choice.{chosen, chosen_remarks}
pub use Rattle.run_layout.specs.Marked.{Adds, Sign, part, part_in, sign_shown, signs_of}
pub use Rattle.run_layout.specs.Subject.{HasRangeFault, HasRangeFaultOf, IsSubjectOf, marks_of_own, marks_of_session}
pub use Rattle.run_layout.specs.Vocabulary.{Cell, Dot, EraMarks, Fault, HasFault, IsFaultOfScript, Kind, Look, Meaning, PlacedRemark, RunMarks, cell_shown, decimal, era_shown, flat_map, marks_shown, meaning, option_map_or, own_scripts_of, scripts_of, spoken}
pub use Rattle.run_layout.specs.declared.choice.Range.{Range}
pub use Rattle.run_layout.specs.declared.choice.RangeFault.{RangeFault}
pub use Rattle.run_layout.specs.declared.marked.Mark.{Mark}
pub use Rattle.run_layout.specs.Wording.{cell_name, cell_state, cell_words, letter_of, title_text}
pub use Rattle.signs.specs.Signs.{AreApart, AreClear, AreFrom, AreHighEnough, AreInSight, AreShown, AreWithin, Fills, Places, outline_of, places_shown}
pub use Rattle.svg_text.specs.Svg.{svg_text}
pub use Rattle.svg_text.specs.declared.shape.Drawing.{Drawing}
