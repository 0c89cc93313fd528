-- The names that the proofs of this crate share.
pub use Rattle.std.proofs.Common.{All, Bool, Contains, Err, Global, IfOk, IsOk, IsSome, List, None, Ok, OnOk, Option, Result, Some, Vec, [], add-zero, ap, append_assoc, ap₂, arith, codes, cond, drop, false, flat_map, if◌then◌else◌, inl, inr, length, length-append, map, nat_lt, option_and_then, option_map, refl, rules, slice_get, slice_index_or, subst, suc, sym, true, vec_len, zero, zero-add, ℕ, ◌%◌, ◌*◌, ◌++◌, ◌+◌, ◌-◌, ◌<◌, ◌==◌, ◌^◌, ◌||◌, ◌↔◌, ◌∙◌, ◌∷◌, ◌≡◌, ◌≢◌, ◌≤◌, ◌⊎◌}
pub use Rattle.std.proofs.lemmas.List.{get_or-map, length-map, map-append}
pub use Rattle.std.proofs.lemmas.List.Elements.{All-map, All-same, Contains-append_left, Contains-append_right}
pub use Rattle.std.proofs.lemmas.List.FromFn.{length-map-range_with_len, map-range_with_len_more}
pub use Rattle.std.proofs.lemmas.List.Sums.{sum_by-cons, sum_by-le}
pub use Rattle.std.proofs.lemmas.Result.{IfOk-weaker}
pub use Rattle.std.specs.Io.KnownBytes.{Appends}
pub use Rattle.std.specs.List.{count_by, range_with_len, sum_by}
pub use Rattle.std.specs.Vec.Iter.{into_iter_items}
pub use Rattle.std.specs.declared.alloc.AllocError.{AllocError}
pub use Rattle.clap.specs.Words.{App, HasKind, Row, Text, app_of, fault_of, first_of, first_value, found_of, is_simple, is_simple_and_free, rows_of, subcommand_of, with_rule, with_subcommand}
pub use Rattle.command_line.proofs.Digits.{value_in-range, value_of-text}
pub use Rattle.command_line.specs.Numbers.{in_range, number_in, value_of}
pub use Rattle.seq_object.specs.Sequential.{Sequential}
pub use Rattle.small_objects.specs.Placed.{placed}
pub use Rattle.told_order.specs.Replay.{IsReplayed}
pub use Rattle.told_order.specs.declared.in_place.InPlace.{InPlace}
pub use Rattle.uni_record.specs.Recorded.{IsPromised, Recording}
pub use Rattle.uni_record.specs.Refusals.{IsHistoryLimit}
pub use Rattle.uni_script.specs.Ends.{AppendsPrefix}
pub use Rattle.uni_script.specs.Grammar.{object_of_word}
pub use Rattle.uni_script.specs.Replay.{IsFaultOfScript, IsReplay}
pub use Rattle.uni_script.specs.Schedules.{IsPlan, xoshiro_word}
pub use Rattle.uni_script.specs.Scripts.{scripts}
pub use Rattle.uni_shared.specs.Agreement.{IsClosed}
pub use Rattle.uni_shared.specs.Seat.{HasEnded, SeatOf, first_seat, first_seats}
pub use Rattle.uni_small.specs.Belongs.{calls_of, invocation_width_of, known_calls, processes_of, reply_width_of}
pub use Rattle.uni_small.specs.Final.{HasHistory}
pub use Rattle.uni_words.proofs.Agreeing.{at_of_map}
pub use Rattle.uni_words.proofs.Comparing.{slice_get-index, slice_get-map}
pub use Rattle.uni_words.specs.Belongs.{AreAllSeats, AreFirstSeats, IsFreshSeat, IsSeatOf, calls_made, log_in, own_calls, process_of, row_of}
pub use Rattle.uni_words.specs.Compare.{Agrees}
pub use Rattle.unibench_run.specs.CommandLine.{asked_of, faults_of_words, replay_in, request_in, unibench}
pub use Rattle.unibench_run.specs.Draws.{asked_in, below_1000, call_in, drawn_by, drawn_from, seed_of, seeded_word}
pub use Rattle.unibench_run.specs.Request.{echo_in, form_named, object_named, options_of, plan_of, plan_with, random_of, random_with, subject_named, subject_of}
pub use Rattle.unibench_run.specs.Runs.{IsInRange, IsRunOf, IsThreadsRun}
pub use Rattle.unibench_run.specs.Small.{AreCalls, HasMadeSmall, HasSmallRun, IsDrawnList, IsSmallRun, IsWide, in_words_of, read_in_place}
pub use Rattle.unibench_run.specs.Statuses.{EndsThreads, IsStatusOfThreads, Tells, TellsThreadsFault, status_of_threads}
pub use Rattle.unibench_run.specs.Threads.{AreDone, AreJobsDone, HasMadeWords, IsDone, IsJobOf, IsLockedRun, IsRunOfThreads, IsThreadsPlan, MakesCalls, OfAgreed, are_too_many, asked_by, events_of, has_form, line_of_fault, refusal_of, told_to}
pub use Rattle.unibench_run.specs.declared.request.Plan.{Plan}
pub use Rattle.unibench_run.specs.declared.request.Request.{Request}
pub use Rattle.unibench_run.specs.declared.request.Request.TheVariants.{Explained, Language, Random, Replay, Threads}
pub use Rattle.unibench_run.specs.declared.threads.Done.{Done}
pub use Rattle.unibench_run.specs.declared.threads.Job.{Job}
pub use Rattle.unibench_run.specs.declared.threads.ThreadsFault.{ThreadsFault}
pub use Rattle.unibench_run.specs.declared.threads.ThreadsFault.TheVariants.{Audit, CallsTooMany, Memory, NoSuchObject, Write}
