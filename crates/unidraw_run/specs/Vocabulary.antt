-- The names of other crates that the definitions, the contracts and the proofs of this crate share.
pub use Rattle.clap.specs.Values.{kind_of}
pub use Rattle.clap.specs.Words.{App, HasKind, IsAmong, Kinds, Row, Rule, Text, app_of, fault_of, found_of, matches_of, new_app, new_rule, rows_of, rule_of, with_rule}
pub use Rattle.clap.specs.declared.builder.command.Command.TheViews.{out-Command}
pub use Rattle.clap.specs.declared.error.kind.ErrorKind.TheVariants.{ArgumentConflict, DisplayHelp, DisplayVersion}
pub use Rattle.command_line.specs.Flags.{flag, is_set, versioned}
pub use Rattle.run_layout.specs.Choice.{all_events}
pub use Rattle.run_layout.specs.Subject.{HasRangeFault, picture_fault_text, too_many_text}
pub use Rattle.run_layout.specs.declared.choice.Range.{Range}
pub use Rattle.run_layout.specs.declared.choice.RangeFault.{RangeFault}
pub use Rattle.run_layout.specs.declared.choice.RangeFault.TheVariants.{PastEnd, TooManyEvents}
pub use Rattle.run_layout.specs.declared.subject.PictureFault.{PictureFault}
pub use Rattle.run_layout.specs.declared.subject.PictureFault.TheVariants.{Misdrawn, Range as OfRange, Script}
pub use Rattle.run_lines.specs.Lines.{IsLines}
pub use Rattle.run_picture.specs.Picture.{IsPicture}
pub use Rattle.run_tell.specs.Page.{IsPage}
pub use Rattle.run_tell.specs.Told.{IsTold, Writes, WritesPart, WritesSuch}
pub use Rattle.uni_script.specs.Replay.{HasFault, IsFaultOfScript}
pub use Rattle.uni_script.specs.Scripts.{scripts_of}
pub use Rattle.uni_script.specs.Statuses.{IsStatusOf, TellsLine, status_of}
pub use Rattle.uni_script.specs.declared.fault.BenchFault.{BenchFault}
pub use Rattle.uni_script.specs.declared.fault.BenchFault.TheVariants.{Memory, Write}
