-- The names that the proofs of this crate share.
pub use Rattle.std.proofs.Common.{All, Bool, Contains, IsSome, List, None, Option, Some, [], ap, append-nil, append_assoc, arith, cond, drop, eqb, false, flat_map, get_or-set_other, get_or-set_same, if◌then◌else◌, inl, inr, length, length-append, length-set, map, mul-le-mul_right, nat_lt, option_and_then, option_map, refl, replicate, rules, set, slice_get, slice_index, slice_index_or, slice_set, subst, suc, suc-mul, sym, take, true, zero, ℕ, ⊎_elim, ◌%◌, ◌*◌, ◌++◌, ◌+◌, ◌-◌, ◌/◌, ◌<◌, ◌==◌, ◌^◌, ◌∙◌, ◌∷◌, ◌≡◌, ◌≢◌, ◌≤◌, ◌⊎◌}
pub use Rattle.std.proofs.lemmas.List.{drop_all, length-map, length-replicate, map-append, nil_from_length, set-get_or, take_all}
pub use Rattle.std.proofs.lemmas.List.Elements.{All-append, All-contains, All-head, All-map, All-same, All-tail, Contains-append_cases, Contains-append_left, Contains-append_right, Contains-get_or, Contains-push, Contains-push_cases}
pub use Rattle.std.proofs.lemmas.Nat.{div-add-mod', div-mul-add, mod-mul-add, mod_below}
pub use Rattle.std.specs.Option.{option_map_or, option_or}
pub use Rattle.std.specs.Vec.Iter.{into_iter_items}
pub use Rattle.atomic_table.proofs.Lists.{at_set, at_snoc, exchanged, set_else}
pub use Rattle.atomic_table.specs.Table.{Allows, Final, Joins, Me, Splits, State, keeps, opening, step}
pub use Rattle.seq_object.specs.History.{IsLegal, response_at, state_after}
pub use Rattle.seq_object.specs.Sequential.{Sequential}
pub use Rattle.seq_object.specs.declared.call_id.CallId.{CallId}
pub use Rattle.uni_model.proofs.Bounded.{HelpingInvariant-begun, HelpingInvariant-opened_world, HelpingInvariant-world_after_step, at_its_cell, turns_bounded}
pub use Rattle.uni_model.proofs.Counted.{CountsSteps-opened_world, CountsSteps-world_after, IsCounted-pending}
pub use Rattle.uni_model.proofs.Eras.{entry_at, number_of_entry}
pub use Rattle.uni_model.proofs.Indices.{name_of-index_of}
pub use Rattle.uni_model.proofs.Joined.{IsRun-opened_world, begun_run, map-logged_call, prefixes_run}
pub use Rattle.uni_model.proofs.Kept.{Invariant-begun, Invariant-world_after_step}
pub use Rattle.uni_model.proofs.LawProofs.{set_at_elsewhere}
pub use Rattle.uni_model.proofs.Ranges.{after_cell, announced_cell, before_cell, head_cell, seq_bound, sum_below-bound}
pub use Rattle.uni_model.proofs.Runs.{AreAccepted-snoc, AreAccepted-split, history_of-snoc, world_after_all-snoc}
pub use Rattle.uni_model.proofs.SamePlace.{Grows-same, place_eq_false}
pub use Rattle.uni_model.proofs.Simulation.{enough, set_at_same}
pub use Rattle.uni_model.proofs.Steps.{head_number, linked_call}
pub use Rattle.uni_model.proofs.Written.{lt_cases, new_of-memory_with, number_cases, place_eq_true, written_same}
pub use Rattle.uni_model.specs.AtomicObject.{AcceptsAll, Act, Atomic, Invoked, at_start, set_at}
pub use Rattle.uni_model.specs.AtomicObject.Act.{Invoke, Linearize, Respond}
pub use Rattle.uni_model.specs.Chain.{Entry, cells_from, entries_from, invoked_at, response_in}
pub use Rattle.uni_model.specs.Counting.{CountsSteps, era_calls}
pub use Rattle.uni_model.specs.Effects.{Effect, call_after, effect_in}
pub use Rattle.uni_model.specs.Eras.{HasReturned, StandsAt}
pub use Rattle.uni_model.specs.Growth.{EndNoEra, EndsNoEra, IsPrefixOf}
pub use Rattle.uni_model.specs.History.{acts_of, log, log_of_run, logged_call, responses_of}
pub use Rattle.uni_model.specs.Indices.{index_of, name_of}
pub use Rattle.uni_model.specs.Invariant.{Has, IsNumbered, IsSound, Stands}
pub use Rattle.uni_model.specs.Places.{Content, Memory, Name, Place, after_of, announce_of, before_of, head_of, inv_of, invocation_in, memory_with, new_of, place_eq, seq_of, settled_in}
pub use Rattle.uni_model.specs.Places.Content.{CellName, Link, Number, Settled}
pub use Rattle.uni_model.specs.Places.Name.{Anchor, Of}
pub use Rattle.uni_model.specs.Places.Place.{AfterOf, Announced, BeforeOf, HeadOf, InvOf, NewOf, SeqOf}
pub use Rattle.uni_model.specs.ProcessCalls.{ProcessCalls, acts_by, sequential_acts}
pub use Rattle.uni_model.specs.Settled.{Grows}
pub use Rattle.uni_model.specs.Stages.{Pending, Stage}
pub use Rattle.uni_model.specs.Stages.Stage.{Announce, DecideAfter, DecideNew, Finish, ReadAnnounce, ReadHelpSeq, ScanHead, ScanSeq, Test, WriteBefore, WriteHead, WriteScan, WriteSeq}
pub use Rattle.uni_model.specs.Transition.{content_after, place_of, response_after, stage_after, turn_of, value_after}
pub use Rattle.uni_model.specs.Worlds.{AreAccepted, Event, IsAccepted, WorldOf, anchor_memory, calls_in_era, chain, world_after, world_after_all, world_after_call, world_after_step}
pub use Rattle.uni_model.specs.Worlds.Event.{Call, Reshape, Step, Trim}
pub use Rattle.uni_words.specs.Belongs.{AreAllSeats, AreFirstSeats, IsFreshSeat, IsSeatOf, calls_of, count_in, known_calls, log_in, own_calls, row_in, seen_by, words_in}
pub use Rattle.uni_words.specs.Compare.{Agrees, DiffersFirstAt, IsFirstOther, IsFirstWrong, IsRight, invocations_of}
pub use Rattle.uni_words.specs.Laws.{IsLoad, Leads, LoadEnds, StoreEnds, WordStepMoves, after_join, after_split, after_word}
pub use Rattle.uni_words.specs.Log.{AreAnswered, AreCallCells, AreCallsOf, IsChained, IsInOrder, IsLogged, LastHasNumber, calls_by, entry_shown, is_call_cell, log_of, replied, told_memory}
pub use Rattle.uni_words.specs.Rule.{Rule}
pub use Rattle.uni_words.specs.Run.{HasSeen, IsLogOfRun, IsLogOfSeenRun, StandInLog, opened, run_history}
pub use Rattle.uni_words.specs.Seats.{EndsCall, HasAsked, HasBegun, HasCall, HasFinished, HasLooked, HasMoved, IsWithin, Moved, TellsReply, TellsState, calls_in_view, first_alone, first_view, logged_in_view, nobody, others, took_in}
pub use Rattle.uni_words.specs.Ran.{HasRun, ShowsRun}
pub use Rattle.uni_words.specs.Shown.{HasOutcome, HasRead, IsAmong, IsLocal, IsShown, IsTaken, IsUnderway, LeadsTo, Tells, acts_in_view, last_number, pending_acts, pending_count}
pub use Rattle.uni_words.specs.Standing.{GetsOn, GoesBy, IsAtStage, IsIdle, cell_at, head_at, scan_stage}
pub use Rattle.uni_words.specs.View.{FirstCalls, Known, Process, Reading, Seen, all_of, asked_of, begun_by, finished_by, looked_at, moved_at, no_calls, nobody_called, number_of, own_of, seen_of, stage_found, told_by, up_to}
pub use Rattle.uni_words.specs.View.Reading.{Applied, Invocation, Nothing, Reply}
pub use Rattle.uni_words.specs.Words.{IsShared, cells_of, column_of, content_of, first_words, index_in, link_of, memory_of, offset_of, reply_at, reply_in, settled_at, settled_word, start_of, state_in, word_at, word_of, words_of}
pub use Rattle.uni_words.specs.declared.log.WordLog.{WordLog}
pub use Rattle.uni_words.specs.declared.rule.Setup.{Setup}
pub use Rattle.uni_words.specs.declared.seat.WordSeat.{WordSeat}
pub use Rattle.uni_words.specs.declared.view.View.{View}
pub use lib.ListN.{get_elem?}
pub use mathlib.Core.Option.{none, some, some-injective, some-ne-none}
pub use prog.Atomic.{either}
