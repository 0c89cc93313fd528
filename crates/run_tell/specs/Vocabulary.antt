-- The names of other crates that the definitions, the contracts and the proofs of this crate share.
unfoldable pub use Rattle.std.specs.Fmt.{digits}
pub use Rattle.std.specs.Io.KnownBytes.{Appends}
pub use Rattle.std.specs.List.{AllByRecursion, prefix_len}
pub use Rattle.std.specs.Option.{option_map_or}
pub use Rattle.ready_objects.specs.Spoken.{Language}
pub use Rattle.run_layout.specs.Choice.{all_events, count_in, is_told_in, range_fault}
pub use Rattle.run_layout.specs.Subject.{HasRangeFault, IsOfRange, events_of_record, state_text_of}
pub use Rattle.run_layout.specs.Wording.{counted_text, lane_of, letter_of, meaning_of, name_text, refusal_words}
pub use Rattle.run_layout.specs.declared.choice.Range.{Range}
pub use Rattle.run_layout.specs.declared.choice.RangeFault.{RangeFault}
pub use Rattle.run_replay.specs.Scenes.{Begins, Begun, Ended, Ends, Frame, Stepped, Steps}
pub use Rattle.run_replay.specs.Held.{Change, Field, Held, alone, cell_text, changes_between}
pub use Rattle.run_replay.specs.Scenes.{Scene, Start, excerpt_of}
pub use Rattle.run_replay.specs.Scenes.{begun_shown, change_shown, end_shown, field_shown, frame_shown, held_shown, scene_shown, start_shown, step_shown}
pub use Rattle.seq_object.specs.Sequential.{Sequential}
pub use Rattle.uni_core.specs.declared.stage.StepKind.{StepKind}
pub use Rattle.uni_model.specs.AtomicObject.{Act}
pub use Rattle.uni_model.specs.AtomicObject.Act.{Invoke, Linearize, Respond}
pub use Rattle.uni_model.specs.Linearizable.{IsLinearizableHistory, observed_in}
pub use Rattle.uni_model.specs.Worlds.{AreAccepted, Event, opened_world}
pub use Rattle.uni_record.specs.Event.{events_shown}
pub use Rattle.uni_record.specs.Recorded.{Recording}
pub use Rattle.uni_script.specs.Ends.{AppendsPrefix, Moves}
pub use Rattle.uni_script.specs.Objects.{SpokenObject, spoken, spoken_of}
pub use Rattle.uni_script.specs.Replay.{HasFault, IsFaultOfScript, IsInput, fault_of_script}
pub use Rattle.uni_script.specs.Schedules.{word_of_object}
pub use Rattle.uni_script.specs.ScriptRun.{session_of_record}
pub use Rattle.uni_script.specs.Scripts.{ScriptSession, scripts_of}
pub use Rattle.uni_script.specs.declared.answer.Refusal.{Refusal}
pub use Rattle.uni_script.specs.declared.answer.Refusal.TheVariants.{Count, Idle, Sequence}
pub use Rattle.uni_script.specs.declared.fault.BenchFault.{BenchFault}
pub use Rattle.uni_script.specs.declared.grammar.Version.{Version}
pub use Rattle.uni_script.specs.declared.remarks.PlacedRemark.{PlacedRemark}
pub use Rattle.uni_script.specs.declared.remarks.Remark.{Remark}
pub use Rattle.uni_script.specs.declared.remarks.Remark.TheVariants.{Heading, Note, Refused}
