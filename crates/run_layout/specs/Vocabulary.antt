-- The names of other crates, and of the declared types, that the definitions of this crate share.
pub use Rattle.ready_objects.specs.Directory.{pairs_text}
pub use Rattle.ready_objects.specs.Number.{numbers_text}
pub use Rattle.ready_objects.specs.Sticky.{sticky_text}
pub use Rattle.run_layout.specs.declared.axis.Stretch.{Stretch}
pub use Rattle.run_layout.specs.declared.choice.Range.{Range}
pub use Rattle.run_layout.specs.declared.choice.RangeFault.{RangeFault}
pub use Rattle.run_layout.specs.declared.choice.RangeFault.TheVariants.{PastEnd, TooManyEvents}
pub use Rattle.run_layout.specs.declared.marked.Mark.{Mark}
pub use Rattle.run_layout.specs.declared.refusals.Told.{Told}
pub use Rattle.run_layout.specs.declared.subject.PictureFault.{PictureFault}
pub use Rattle.run_layout.specs.declared.subject.PictureFault.TheVariants.{Misdrawn, Range as OfRange, Script}
pub use Rattle.run_replay.specs.Marks.{Called, Cell, End, EraMarks, RunMarks, bar_shown, cell_shown, end_shown, era_shown, lanes_of, marks_of_run, marks_shown}
pub use Rattle.run_replay.specs.Vocabulary.{Event, SpokenObject, StepKind, events_shown, flat_map, opened_world, option_map_or, spoken}
pub use Rattle.run_replay.specs.declared.marks.Dot.{Dot}
pub use Rattle.run_replay.specs.declared.marks.EraEnd.{EraEnd}
pub use Rattle.run_replay.specs.declared.marks.EraEnd.TheVariants.{Reshape, Trim}
pub use Rattle.run_replay.specs.declared.marks.EraLine.{EraLine}
pub use Rattle.run_replay.specs.declared.marks.StepMark.{StepMark}
pub use Rattle.signs.specs.Signs.{Meaning, meaning}
pub use Rattle.signs.specs.declared.sign.Edge.{Edge}
pub use Rattle.signs.specs.declared.sign.Edge.TheVariants.{After, Before, Start}
pub use Rattle.signs.specs.declared.sign.Look.{Look}
pub use Rattle.std.specs.Cmp.Lexicographic.{pointwise}
pub use Rattle.std.specs.Fmt.{decimal}
unfoldable pub use Rattle.std.specs.Fmt.{digits}
pub use Rattle.std.specs.List.{filter, find, list_any}
pub use Rattle.std.specs.declared.alloc.Global.{Global}
pub use Rattle.uni_core.specs.declared.stage.StepKind.TheVariants.{Announce, DecideAfter, DecideNew, Finish, ReadAnnounce, ReadHelpSeq, ScanHead, ScanSeq, Test, WriteBefore, WriteHead, WriteScan, WriteSeq}
pub use Rattle.uni_script.specs.Answer.{call_text}
pub use Rattle.uni_script.specs.Fault.{fault_text}
pub use Rattle.uni_script.specs.Objects.{InvOf, StateOf, spoken_of}
pub use Rattle.uni_script.specs.Outcome.{Kind, outcome_of_script}
pub use Rattle.uni_script.specs.Remarks.{remark_at, remarks_of_script}
pub use Rattle.uni_script.specs.Replay.{HasFault, IsFaultOfScript, IsInput, fault_of_script}
pub use Rattle.uni_script.specs.Schedules.{word_of_object}
pub use Rattle.uni_script.specs.Scripts.{OwnSession, ScriptSession, own_scripts_of, scripts_of}
pub use Rattle.uni_script.specs.declared.answer.Refusal.{Refusal}
pub use Rattle.uni_script.specs.declared.answer.Refusal.TheVariants.{Busy, Count, History, Idle, Pending, Process, Row, Sequence}
pub use Rattle.uni_script.specs.declared.fault.BenchFault.{BenchFault as Fault}
pub use Rattle.uni_script.specs.declared.grammar.ObjectName.{ObjectName}
pub use Rattle.uni_script.specs.declared.remarks.PlacedRemark.{PlacedRemark, PlacedRemark as Placed}
pub use Rattle.uni_script.specs.declared.remarks.Remark.{Remark}
pub use Rattle.uni_script.specs.declared.remarks.Remark.TheVariants.{Heading, Note, Refused}
pub use Rattle.uni_script.specs.declared.script_run.ScriptRecord.{ScriptRecord}
pub use Rattle.uni_script.specs.declared.script_run.ScriptRecord.TheVariants.{Book, Directory, Queue, Sticky}
