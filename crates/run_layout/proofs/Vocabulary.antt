-- The names that the proofs of this crate share.
unfoldable pub use Rattle.run_layout.specs.Choice.{range_fault}
pub use Rattle.run_layout.specs.Choice.{all_events, bar_in, chosen, chosen_remarks, count_in, end_in, era_in, is_bar_in, is_by, is_heading, is_in, links_outside, meets}
pub use Rattle.run_layout.specs.Marked.{arrow_signs, at, bar_sign, dot_sign, line_sign, new_names, refusal_signs, sign_shown, step_sign, text_signs}
unfoldable pub use Rattle.run_layout.specs.Marked.{names_from}
pub use Rattle.run_layout.specs.Subject.{HasRangeFault, HasRangeFaultOf, IsSubject, IsSubjectOf, events_of_record, marks_of_own, marks_of_record, marks_of_session}
unfoldable pub use Rattle.run_layout.specs.Subject.{marks_of_events}
pub use Rattle.run_layout.specs.Vocabulary.{Called, Cell, Dot, End, EraLine, EraMarks, Event, Kind, PastEnd, PlacedRemark, Queue, Range, RangeFault, RunMarks, ScriptRecord, ScriptSession, SpokenObject, StepMark, TooManyEvents, bar_shown, cell_shown, era_shown, events_shown, filter, flat_map, list_any, marks_shown, option_map_or, own_scripts_of, remark_at, remarks_of_script, scripts_of, spoken}
pub use Rattle.run_layout.specs.Wording.{after_space, fitting_len, label_after, labels_of, last_space, name_text, times_after, told_shown}
unfoldable pub use Rattle.run_layout.specs.Wording.{labels_from, lines_of}
pub use Rattle.run_layout.specs.declared.marked.Mark.TheVariants.{Name}
pub use Rattle.run_replay.proofs.Replayed.{map-kept, marks_are}
pub use Rattle.std.proofs.Common.{Bool, List, None, Option, Some, [], ap, append_assoc, arith, drop, false, get_or, if◌then◌else◌, length, map, nat_le, nat_lt, not, refl, rules, subst, suc, sym, take, true, zero, ℕ, ◌++◌, ◌+◌, ◌-◌, ◌<◌, ◌&&◌, ◌||◌, ◌∙◌, ◌∷◌, ◌≡◌, ◌≢◌, ◌≤◌}
pub use Rattle.std.proofs.lemmas.Bool.{ltb-false}
pub use Rattle.std.proofs.lemmas.Bool.Decides.{nat_tests}
pub use Rattle.std.proofs.lemmas.List.{append-nil, drop_all, drop_more, map-append, take_rest}
pub use Rattle.std.specs.Prelude.{option_and_then}
pub use Rattle.uni_record.specs.Recorded.{Recording}
pub use Rattle.uni_script.specs.Meaning.{Session}
pub use Rattle.uni_script.specs.ScriptRun.{HasRunWhole, IsOwnRunOf, IsRunOf, IsScriptRun, session_of_record}
pub use Rattle.uni_script.specs.Remarks.{Heard}
pub use Rattle.uni_script.specs.Scripts.{own_scripts}
pub use Rattle.uni_script.specs.declared.grammar.Version.{Version}
pub use Rattle.uni_script.specs.declared.options.Echo.TheVariants.{Off}
pub use Rattle.uni_script.specs.declared.options.Options.{Options}
pub use Rattle.uni_script.specs.declared.script_run.ScriptRun.{ScriptRun}
