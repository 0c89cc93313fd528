-- The names that the proofs of this crate share.
pub use Rattle.std.proofs.Common.{Bool, Contains, IfSome, IsSome, List, None, Option, Some, [], ap, arith, cond, count_by, drop, eq-eqb, false, filter, if◌then◌else◌, inl, inr, length, map, max, nat_eq, nat_lt, option_and_then, option_map, refl, slice_get, subst, suc, sym, take, true, unwrap_or, zero, ℕ, ◌%◌, ◌&&◌, ◌*◌, ◌++◌, ◌+◌, ◌-◌, ◌/◌, ◌<◌, ◌==◌, ◌||◌, ◌∙◌, ◌∷◌, ◌≡◌, ◌≢◌, ◌≤◌, ◌⊎◌}
pub use Rattle.std.proofs.Math.Nat.{add-mod_right, le-max_left, le-max_right, max-le, mod-add-div', mod-eq_of_lt, mul-le-mul_right}
pub use Rattle.std.proofs.lemmas.Bool.{cases_lt}
pub use Rattle.std.proofs.lemmas.Bool.Decides.{nat_tests}
pub use Rattle.std.proofs.lemmas.List.{append-nil, append_assoc, length-append, length-map, map-append, take-append-le, take-map, take_all}
pub use Rattle.std.proofs.lemmas.List.Elements.{All-contains, All-from_recursion, Contains-append_cases, Contains-append_left, Contains-append_right, Contains-push, filter-append}
pub use Rattle.std.proofs.lemmas.List.Sums.{count_by_more_yes, sum_by-cons, sum_by-take-le, sum_by_push}
pub use Rattle.std.proofs.lemmas.Option.{get_or_from_slice_get, slice_get-get_or, slice_get-map, slice_get_cases, slice_get_within}
pub use Rattle.std.specs.List.{AllByRecursion, list_any}
pub use Rattle.std.specs.Option.{IsSomeAnd, option_map_or, option_or}
pub use Rattle.seq_object.specs.History.{IsLegal, response_at, state_after}
pub use Rattle.seq_object.specs.Sequential.{Sequential}
pub use Rattle.uni_model.specs.AtomicObject.{Accepts, AcceptsAll, Act, Atomic, Invoked, at_start, set_at}
pub use Rattle.uni_model.specs.AtomicObject.Act.{Invoke, Linearize, Respond}
pub use Rattle.uni_model.specs.Bound.{IsBounded, IsWithinBound}
pub use Rattle.uni_model.specs.Chain.{Entry, cells_from, entries_from, invoked_at, last_of, response_in}
pub use Rattle.uni_model.specs.Counting.{CountsSteps, HasTurns, IsCounted, era_calls, steps_at}
pub use Rattle.uni_model.specs.Effects.{Effect, call_after, effect_of}
pub use Rattle.uni_model.specs.Eras.{EraLeaves, EraOfRunLeaves, HasReturned, JoinedLogGrows, JoinsLegalLogs, KeepsRealTime, StandsAt}
pub use Rattle.uni_model.specs.Frontier.{announces, announces_at, floor_of, frontier, greatest_below}
pub use Rattle.uni_model.specs.Growth.{EndNoEra, EndsNoEra, GetsResponse, IsPrefixOf}
pub use Rattle.uni_model.specs.Helping.{Announces, CountsOwnHead, Finds, HelpingInvariant, Helps, IsAhead, IsFair, IsFairToAll, IsHelped, OfConsidered, SomeHead}
pub use Rattle.uni_model.specs.HerlihyWing.{AgreesInOrder, AgreesWithCompletion, AreInTurn, IsLinearizedByCompletion, IsResponse, IsWellFormed, ObservesCompletion, Precedes, is_by, is_kept, of_process, one_by_one}
pub use Rattle.uni_model.specs.History.{RunShows, Shows, acts_of, calls_of, history_of, invocations_of, log, log_of_run, logged_call, open_at, responses_of}
pub use Rattle.uni_model.specs.Invariant.{AreCalls, AtHead, Has, HasBest, HasValues, Invariant, IsCellOf, IsNumbered, IsPast, IsSound, LeadsBack, Stands, can_be_linked}
pub use Rattle.uni_model.specs.Laws.{BoundedAlong, HasFloorOnceAnnounced, IsLinearizable, IsLinkedSoon, IsReached, LinksSoon, SettledStays, Simulates, StepIsLocal}
pub use Rattle.uni_model.specs.Linearizable.{IsLinearizableHistory, IsLinearizedAs, ObservesLinearizable, observed, observed_at, observed_in}
pub use Rattle.uni_model.specs.Locality.{IsLocal, of_object, together}
pub use Rattle.uni_model.specs.Places.{Content, Memory, Name, Place, after_of, announce_of, before_of, head_of, head_seq, inv_of, invocation_in, link_in, memory_with, name_eq, new_of, number_in, place_eq, seq_of, settled_in}
pub use Rattle.uni_model.specs.Places.Content.{CellName, Invocation, Link, Number, Settled}
pub use Rattle.uni_model.specs.Places.Name.{Anchor, Of}
pub use Rattle.uni_model.specs.Places.Place.{AfterOf, Announced, BeforeOf, HeadOf, InvOf, NewOf, SeqOf}
pub use Rattle.uni_model.specs.Settled.{AreSettledPlaces, ChangesOnly, Grows, SeesOnly, PlacesBesideAreSettled}
pub use Rattle.uni_model.specs.Stages.{Pending, Stage}
pub use Rattle.uni_model.specs.Stages.Stage.{Announce, DecideAfter, DecideNew, Finish, ReadAnnounce, ReadHelpSeq, ScanHead, ScanSeq, Test, WriteBefore, WriteHead, WriteScan, WriteSeq}
pub use Rattle.uni_model.specs.Tight.{BoundIsMet, EndsAtItsCell, MeetsBound, TakesOneTurn}
pub use Rattle.uni_model.specs.Transition.{content_after, next_in_scan, place_of, places_beside, response_after, stage_after, stage_after_scan, turn_of, value_after}
pub use Rattle.uni_model.specs.Untrimmed.{ShowsSame, ShowsSameUntrimmed, TrimsChangeNothing, kind_of}
pub use Rattle.uni_model.specs.Worlds.{AreAccepted, Event, IsAccepted, IsQuiescent, WorldOf, anchor_memory, calls_in_era, chain, last_cell, opened_world, sum_below, without_trims, world_after, world_after_all, world_after_call, world_after_era, world_after_step}
pub use Rattle.uni_model.specs.Worlds.Event.{Call, Reshape, Step, Trim}
