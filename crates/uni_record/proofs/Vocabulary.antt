-- The names that the proofs of this crate share.
pub use Rattle.std.proofs.Common.{Bool, Err, IfSome, IsSome, List, None, Option, Some, [], ap, append_assoc, arith, cond, count_by, drop, eq-eqb, eqb, false, find, get_or, if◌then◌else◌, inl, inr, length, length-append, map, nat_eq, nat_lt, not, option_and_then, option_map, option_to_list, position, refl, rules, set, slice_get, subst, suc, sym, take, true, zero, ℕ, ◌&&◌, ◌*◌, ◌++◌, ◌+◌, ◌-◌, ◌<◌, ◌==◌, ◌||◌, ◌↔◌, ◌∙◌, ◌∷◌, ◌≡◌, ◌≢◌, ◌≤◌}
pub use Rattle.std.proofs.lemmas.Bool.{cases_lt, eqb-false, eqb-true, le-ltb, lt-ltb, ne_eqb, not-false, not-true, or_from, or_parts}
pub use Rattle.std.proofs.lemmas.List.{append-nil, at_drop_all, at_drop_more, drop-append-le, get_or-set_other, get_or-set_same, length-drop, length-map, map-append, take-map, take_all, take_at, take_more}
pub use Rattle.std.proofs.lemmas.List.Folds.{find_at, list_any-append, position_or_len_push}
pub use Rattle.std.proofs.lemmas.List.Sums.{prefix_len-le-length, sum_by-append, sum_by-cons}
pub use Rattle.std.proofs.lemmas.Option.{slice_get-map, slice_get_past, slice_get_read}
pub use Rattle.std.proofs.lemmas.Result.{IfOk-weaker, err_from_is_err_and}
pub use Rattle.std.specs.List.{list_any, position_or_len, sum_by}
pub use Rattle.std.specs.Option.{is_some, option_map_or, option_or}
pub use Rattle.std.specs.Ordering.{match_ordering, nat_cmp}
pub use Rattle.seq_object.specs.History.{IsLegal}
pub use Rattle.seq_object.specs.Sequential.{Sequential}
pub use Rattle.seq_object.specs.declared.call_id.CallId.{CallId}
pub use Rattle.uni_core.proofs.Runs.{current_none, current_some, done_some, going_none, memory_needed}
pub use Rattle.uni_core.specs.Ends.{NumbersFit, last_number}
pub use Rattle.uni_core.specs.Refusals.{CanCall, CanGo, IsOpenRefused}
pub use Rattle.uni_core.specs.World.{IsProgress, current_of, progress_of, world_of}
pub use Rattle.uni_log.proofs.Along.{all-taken, drop-at, taken-more, within-at}
pub use Rattle.uni_log.specs.Entry.{call_shown, entry_shown}
pub use Rattle.uni_log.specs.declared.entry.Entry.{Entry}
pub use Rattle.uni_model.proofs.Kept.{Invariant-opened_world, Invariant-world_after, idle_when_quiescent}
pub use Rattle.uni_model.proofs.LawProofs.{AreAccepted-take, set_at_elsewhere}
pub use Rattle.uni_model.proofs.Runs.{AreAccepted-snoc, world_after_all-append, world_after_all-snoc}
pub use Rattle.uni_model.specs.AtomicObject.{Act, Invoked, set_at}
pub use Rattle.uni_model.specs.AtomicObject.Act.{Invoke, Linearize, Respond}
pub use Rattle.uni_model.specs.Bound.{IsBounded}
pub use Rattle.uni_model.specs.Eras.{JoinedLogGrows, JoinsLegalLogs}
pub use Rattle.uni_model.specs.History.{acts_of, history_of, log, log_of_run, logged_call, responses_of}
pub use Rattle.uni_model.specs.Invariant.{Invariant}
pub use Rattle.uni_model.specs.Places.{Content, Memory, Name, inv_of, new_of, seq_of}
pub use Rattle.uni_model.specs.Responses.{HoldsResponses, LogsResponses, calls_among}
pub use Rattle.uni_model.specs.Stages.{Pending, Stage}
pub use Rattle.uni_model.specs.Transition.{response_after, stage_after}
pub use Rattle.uni_model.specs.Worlds.{AreAccepted, Event, IsAccepted, IsQuiescent, WorldOf, anchor_memory, calls_in_era, last_cell, opened_world, response_of_step, sum_below, without_trims, world_after, world_after_all, world_after_call, world_after_era, world_after_step}
pub use Rattle.uni_model.specs.Worlds.Event.{Call, Reshape, Step, Trim}
pub use Rattle.uni_audit.specs.Audited.{IsAudited}
pub use Rattle.uni_audit.specs.CallPlaces.{AreMarked, HasGoneOver, IsTable, entry_place, mark_at, place_of, room_of, row_of}
pub use Rattle.uni_record.specs.Event.{Completed, calls_in, completed_by, completed_in, ended_log, event_shown, events_shown, log_ended_by, responses_in}
pub use Rattle.uni_record.specs.Packed.{ArePacked, HasCode, asked_by, asking, asking_in, call_with, code_of, event_with, unpacked}
pub use Rattle.uni_record.specs.Recorded.{HasRoom, IsPromised, IsRecording, KeepsOpening, Recording, meaning, opening, owed, owed_by, pending_count, set_aside, share, untrimmed_world}
pub use Rattle.uni_record.specs.Refusals.{CanBegin, CanEnd, IsBeginRefused, IsEndRefused, IsStepRefused, Standing, standing_of}
pub use Rattle.uni_record.specs.Run.{AreAnswersUntrimmed, AreOutcomes, IsAnswerIn, IsOutcome, TakesCommand, event_of, events_of, standing_after}
pub use Rattle.uni_audit.specs.Verdict.{count_calls_of, entries_verdict, entry_verdict, first, has_returned, reply_to, return_verdict, returns_verdict, same_call, verdict_of}
pub use Rattle.uni_record.specs.declared.command.Command.{Command}
pub use Rattle.uni_record.specs.declared.command.Outcome.{Outcome}
pub use Rattle.uni_record.specs.declared.command.Outcome.TheVariants.{Called, Refused, Reshaped, Returned, Trimmed, Went}
pub use Rattle.uni_audit.specs.declared.verdict.Return.{Return}
pub use Rattle.uni_audit.specs.declared.verdict.Verdict.{Verdict}
pub use Rattle.uni_audit.specs.declared.verdict.Verdict.TheVariants.{Agrees, BadCall, BadReply, BadReturn, Missing, Twice}
