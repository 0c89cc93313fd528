-- The names that the proofs of this crate share.
pub use Rattle.std.proofs.Common.{Bool, Err, IfOk, IfSome, IsSome, IsSomeAnd, IsTrue, List, None, Ok, OnErr, Option, Result, Some, [], ap, append_assoc, arith, cond, false, get_or, if◌then◌else◌, inl, inr, is_some, length, length-append, nat_eq, nat_lt, not, option_map, refl, replicate, rules, slice_get, slice_index_or, slice_set, subst, suc, sym, take, true, unwrap_or, vec_capacity, zero, ℕ, ◌%◌, ◌&&◌, ◌*◌, ◌++◌, ◌+◌, ◌-◌, ◌/◌, ◌<◌, ◌==◌, ◌^◌, ◌↔◌, ◌∙◌, ◌∷◌, ◌≡◌, ◌≢◌, ◌≤◌, ◌⊎◌}
pub use Rattle.std.proofs.lemmas.Bool.{cases_lt, le-ltb, lt-ltb}
pub use Rattle.std.proofs.lemmas.List.{append-nil, ext_get_or, length-replicate}
pub use Rattle.std.proofs.lemmas.Nat.{mod_below}
pub use Rattle.std.proofs.lemmas.Option.{slice_get_past, slice_get_read}
pub use Rattle.std.specs.Option.{option_copied, option_map_or, option_or}
pub use Rattle.cell_arena.proofs.Lists.{slice_get-set_other, slice_get-set_same}
pub use Rattle.cell_arena.specs.Arena.{Arena, cell_of, made_of, processes_of}
pub use Rattle.cell_arena.specs.CellRecord.{CellRecord, ChangesOnly, HasOnlyAnchor, anchor_for, anchor_with, fresh, index_of, settled, with_after, with_before, with_new, with_seq}
pub use Rattle.seq_object.specs.Sequential.{Sequential}
pub use Rattle.seq_object.specs.declared.call_id.CallId.{CallId}
pub use Rattle.uni_core.specs.Local.{new_local}
pub use Rattle.uni_core.specs.Refusals.{CanGo, IsBeginRefused, IsStepRefused}
pub use Rattle.uni_core.specs.Same.{Outline, Standing, outline, standing_of, without_counts}
pub use Rattle.uni_core.specs.SharedEntries.{HasShapeOf, IsRenewed, SharedEntries, cell_named, entry_name, first_of, memory_at, memory_of, named}
pub use Rattle.uni_core.specs.Stage.{CanStep, ChangesAt, IsThere, MayBeRefused, Takes, effect_at, pending_of, stage_left, stage_of, turns_to}
pub use Rattle.uni_core.specs.World.{CountsNone, Follows, IsWorld, KeepsFixed, MayNeedMemory, MayNeedMemoryAt, IsSimulated, WorldParts, call_at, current_of, name_in, progress_of, world_at, world_of}
pub use Rattle.uni_core.specs.declared.fault.Progress.TheVariants.{Done, Going}
pub use Rattle.uni_core.specs.declared.local.Local.{Local}
pub use Rattle.uni_core.specs.declared.stage.Pending.{Pending}
pub use Rattle.uni_core.specs.declared.stage.Stage.{Stage}
pub use Rattle.uni_core.specs.declared.stage.Stage.TheVariants.{Announce, DecideAfter, DecideNew, Finish, ReadAnnounce, ReadHelpSeq, ScanHead, ScanSeq, Test, WriteBefore, WriteHead, WriteScan, WriteSeq}
pub use Rattle.uni_model.proofs.Bounded.{HelpingInvariant-opened_world, HelpingInvariant-world_after, IsBounded-held}
pub use Rattle.uni_model.proofs.Counted.{CountsSteps-opened_world, CountsSteps-world_after}
pub use Rattle.uni_model.proofs.Indices.{index_of-name, name_from-index_of, same_index_from}
pub use Rattle.uni_model.proofs.Kept.{Invariant-world_after_step, idle_when_quiescent, last_cell_threaded}
pub use Rattle.uni_model.proofs.LawProofs.{AcceptsAll-append, IsBounded-along}
pub use Rattle.uni_model.proofs.OneLists.{HasLegalLog-held, HasOneList-held, length-chain, number-last_of}
pub use Rattle.uni_model.proofs.Ranges.{sum_below-bound}
pub use Rattle.uni_model.proofs.Simulation.{call_accepted, enough, step_accepted}
pub use Rattle.uni_model.proofs.Written.{lt_cases, name_cases, number_cases, written_same}
pub use Rattle.uni_model.specs.AtomicObject.{Act, set_at}
pub use Rattle.uni_model.specs.Bound.{IsBounded, IsWithinBound}
pub use Rattle.uni_model.specs.Chain.{cells_from, last_of, response_in}
pub use Rattle.uni_model.specs.Counting.{CountsSteps, era_calls}
pub use Rattle.uni_model.specs.Helping.{HelpingInvariant}
pub use Rattle.uni_model.specs.Indices.{name_from}
pub use Rattle.uni_model.specs.Invariant.{AtHead, Has, Invariant, IsAfter, IsCellOf, Stands}
pub use Rattle.uni_model.specs.Places.{Content, Memory, Name, Place, after_of, announce_of, before_of, head_of, head_seq, inv_of, invocation_in, link_in, memory_with, name_eq, new_of, number_in, seq_of, settled_in}
pub use Rattle.uni_model.specs.Places.Content.{CellName, Invocation, Link, Number, Settled}
pub use Rattle.uni_model.specs.Places.Name.{Anchor, Of}
pub use Rattle.uni_model.specs.Places.Place.{AfterOf, Announced, BeforeOf, HeadOf, InvOf, NewOf, SeqOf}
pub use Rattle.uni_model.specs.Settled.{Grows, PlacesBesideAreSettled}
pub use Rattle.uni_model.specs.Transition.{place_of, response_after, stage_after, stage_after_scan, turn_of, value_after}
pub use Rattle.uni_model.specs.Worlds.{AreAccepted, Event, IsAccepted, IsQuiescent, WorldOf, anchor_memory, calls_in_era, chain, last_cell, opened_world, response_of_step, world_after, world_after_all, world_after_call, world_after_era, world_after_step}
pub use Rattle.uni_model.specs.Worlds.Event.{Call, Reshape, Step}
