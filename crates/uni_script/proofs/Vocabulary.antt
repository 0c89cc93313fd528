-- The names that the proofs of this crate share.
pub use Rattle.std.proofs.Common.{Bool, Err, IfErr, IfNone, IfOk, IfSome, IsSome, List, None, Ok, OnOk, Option, Result, Some, [], ap, append-nil, append_assoc, arith, cond, drop, false, if◌then◌else◌, inl, inr, is_none, length, map, nat_le, nat_lt, not, option_and_then, option_map, refl, replicate, rules, slice_get, subst, suc, sym, take, take-append-drop, true, zero, ℕ, ◌&&◌, ◌*◌, ◌++◌, ◌+◌, ◌-◌, ◌<◌, ◌==◌, ◌^◌, ◌↔◌, ◌∙◌, ◌∷◌, ◌≡◌, ◌≢◌, ◌≤◌, ◌⊎◌}
pub use Rattle.std.proofs.KnownBytes.{Appends-nil, Appends-trans, Consumes-kept, Consumes-trans}
pub use Rattle.std.proofs.lemmas.Bool.Decides.{nat_tests}
pub use Rattle.std.proofs.lemmas.List.{drop-drop, drop-take, length-append, length-drop, length-map, length-take-le, map-append, replicate-append-replicate, take_all}
pub use Rattle.std.proofs.lemmas.List.Folds.{concat-append, list_all-append}
pub use Rattle.std.specs.Io.KnownBytes.{Appends, Consumes, IsAtEnd, Keeps}
pub use Rattle.std.specs.List.{concat, list_all, position, position_or_len}
pub use Rattle.std.specs.Option.{option_map_or}
pub use Rattle.ready_objects.specs.Words.{bytes_of, text_of_words, words_of_text}
pub use Rattle.seq_object.specs.Sequential.{Sequential}
pub use Rattle.uni_core.specs.World.{current_of, progress_of, world_of}
pub use Rattle.uni_log.proofs.Along.{all-taken, taken-more, within-at}
pub use Rattle.uni_model.proofs.Bounded.{HelpingInvariant-opened_world, HelpingInvariant-world_after, HelpingInvariant-world_after_all, IsBounded-held}
pub use Rattle.uni_model.proofs.Counted.{CountsSteps-opened_world, CountsSteps-world_after}
pub use Rattle.uni_model.specs.Bound.{IsWithinBound, most_steps}
pub use Rattle.uni_model.specs.Helping.{HelpingInvariant}
pub use Rattle.uni_model.specs.History.{log}
pub use Rattle.uni_model.specs.Laws.{IsReached}
pub use Rattle.uni_model.specs.Places.{Name, head_seq, seq_of}
pub use Rattle.uni_model.specs.Worlds.{Event, IsQuiescent, WorldOf, calls_in_era, opened_world, response_of_step, world_after, world_after_all, world_after_step}
pub use Rattle.uni_model.specs.Worlds.Event.{Call, Reshape, Step, Trim}
pub use Rattle.uni_record.specs.Event.{event_shown, events_shown}
pub use Rattle.uni_record.specs.Recorded.{IsRecording, KeepsOpening, Recording, meaning}
pub use Rattle.uni_record.specs.Refusals.{CanBegin, CanEnd, IsBeginRefused, IsEndRefused, IsReshapeRefused, standing_of}
pub use Rattle.uni_script.specs.Answer.{called_text, end_text, entry_text, numbers_text, reshaped_text, trimmed_text}
pub use Rattle.uni_script.specs.Commands.{answer_text}
pub use Rattle.uni_script.specs.Ends.{AppendsPrefix, IsWritten, Moves}
pub use Rattle.uni_script.specs.Grammar.{Cut, after_byte, command_of_words, cut, is_note, is_plain_byte, last_line, lines_of, with_first}
pub use Rattle.uni_script.specs.Lines.{EndsAs, FaultsAfter, GoesOn, HasBounds, HasEnded, HasFaultAfter, HasRun, HasStopped, HasTaken, IsHeld, IsRead, ReadsOn, Stop, StopsAt, StopsWith, TakesOn, WritesAs, fault_of_stop, line_of, lines_of_read, outcome_of_read, outcome_of_stop, rest_of}
pub use Rattle.uni_script.specs.Lines.Stop.{End, Failed, TooLong, TooMany}
pub use Rattle.uni_script.specs.Meaning.{CommandResult, LastStep, Session, is_full, last_step, latest, least_pending, opened_session, refusal_of_call, refusal_of_command, refusal_of_end, refusal_of_reshape, refusal_of_step, refused, response_after, result_of_call, result_of_command, result_of_reshape, result_of_steps, result_of_trim, session_after, session_of, steps_of, steps_taken, text_of_steps}
pub use Rattle.uni_script.specs.Objects.{SpokenObject, spoken, spoken_of}
pub use Rattle.uni_script.specs.Outcome.{Answered, Kind, Outcome, and_then, and_then_from, echo_of, echoed, echoed_from, outcome_of_echoed_line, outcome_of_end, outcome_of_fault, outcome_of_line, outcome_of_lines, outcome_of_script, outcome_of_short_line, outcome_of_text, outcome_of_words}
pub use Rattle.uni_script.specs.Promises.{IsPromised, IsPromisedSession}
pub use Rattle.uni_script.specs.Remarks.{Heard, HeardGrows, RemarkAt, RemarkText, heading_of_line, heard_events, heard_of_line, heard_of_lines, heard_of_script, heard_remarks, heard_then, nothing, remark_at, remark_of_line, remarks_after, remarks_of_line, remarks_of_note, without}
pub use Rattle.uni_script.specs.Remarks.RemarkText.{Refused}
pub use Rattle.uni_script.specs.Schedules.{event_line, event_lines, finish_lines, words_of_event, words_of_events}
pub use Rattle.uni_script.specs.ScriptRun.{HasRunWhole, IsOwnRan, IsRan, IsRanAs, IsSummaryOf}
pub use Rattle.uni_script.specs.Scripts.{IsAbout, answered, own_scripts, own_session, refusal_of_words, script_session, scripts}
pub use Rattle.uni_script.specs.Summary.{summary_of, summary_of_session}
pub use Rattle.uni_script.specs.declared.answer.Refusal.{Refusal}
pub use Rattle.uni_script.specs.declared.answer.Refusal.TheVariants.{Busy, Count, History, Idle, Pending, Process, Row, Sequence}
pub use Rattle.uni_script.specs.declared.fault.BenchFault.{BenchFault}
pub use Rattle.uni_script.specs.declared.fault.BenchFault.TheVariants.{Audit, BadByte, BadHeader, BadLine, Memory, NoHeader, Read, Write}
pub use Rattle.uni_script.specs.declared.lines.Lines.{Lines}
pub use Rattle.uni_script.specs.declared.lines.Source.TheVariants.{Ended, Open}
