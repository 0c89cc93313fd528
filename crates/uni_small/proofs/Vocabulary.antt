-- The names that the proofs of this crate share.
pub use Rattle.std.proofs.Common.{get_or-drop, get_or-take, take-add, All, Bool, Contains, List, None, Option, Some, [], ap, append-nil, append_assoc, arith, cond, drop, eqb, false, flat_map, get_or-set_other, get_or-set_same, if◌then◌else◌, inl, inr, length, length-append, length-set, length-take-le, map, mul-le-mul_right, nat_eq, nat_le, nat_lt, not, refl, replicate, rules, set, slice_get, slice_index, slice_index_or, slice_set, subst, suc, suc-mul, sym, take, true, zero, ℕ, ⊎_elim, ◌%◌, ◌*◌, ◌++◌, ◌+◌, ◌-◌, ◌/◌, ◌<◌, ◌==◌, ◌∙◌, ◌∷◌, ◌≡◌, ◌≢◌, ◌≤◌, ◌⊎◌}
pub use Rattle.std.proofs.Math.Seq.{take-length, take-suc-set}
pub use Rattle.std.proofs.lemmas.Grind.{get_or_default_zero}
pub use Rattle.std.proofs.lemmas.List.{drop-append-le, drop-drop, drop-take, drop_all, drop_at, drop_more, get_or-append-add, get_or-map, get_or-replicate, get_or_append_left, length-drop, length-map, length-replicate, map-append, map_push, nil_from_length, replicate-append-replicate, same_from_push, set-get_or, take-append-drop, take_all, take_at, take_more, take_more_set, with_items_is}
pub use Rattle.std.proofs.lemmas.List.Elements.{All-contains, All-head, All-same, All-set, All-tail, Contains-append_cases, Contains-append_left, Contains-append_right, Contains-push}
pub use Rattle.std.proofs.lemmas.Option.{get_or_from_slice_get, slice_get_within}
pub use Rattle.std.specs.List.{fold, sum}
pub use Rattle.std.specs.Mem.Slots.{slots_items}
pub use Rattle.std.specs.Vec.Iter.{into_iter_items}
pub use Rattle.atomic_table.proofs.Lists.{at_set, exchanged, set_else}
pub use Rattle.atomic_table.specs.Table.{Allows, Joins, Me, Splits, State, Step, keeps, opening, step}
pub use Rattle.seq_object.specs.History.{response_at, state_after}
pub use Rattle.seq_object.specs.Sequential.{Sequential}
pub use Rattle.uni_model.proofs.Appended.{response_at-append, slice_get-append_left, slice_get-append_right, state_after-append}
pub use Rattle.uni_model.proofs.LawProofs.{AcceptsAll-append, set_at_elsewhere}
pub use Rattle.uni_model.proofs.Simulation.{set_at_same}
pub use Rattle.uni_model.proofs.Written.{lt_cases, number_cases, set_at-cases}
pub use Rattle.uni_model.specs.AtomicObject.{AcceptsAll, Act, Atomic, Invoked, at_start, set_at}
pub use Rattle.uni_model.specs.AtomicObject.Act.{Invoke, Linearize, Respond}
pub use Rattle.uni_model.specs.ProcessCalls.{acts_by, sequential_acts}
pub use Rattle.uni_small.specs.Belongs.{AreFirstSeats, IsFreshSeat, IsSeatOf, known_calls}
pub use Rattle.uni_small.specs.Kept.{BuffersAgree, AreBuffers, SpareHas, HasInvocation, HasRoom, IsOutsideBoth, IsOutsideRows, IsKept, IsOutside, IsQuietOutside, IsUntouchedByBoth, all_seen, image_in, image_of_rows, seen_in, word_held}
pub use Rattle.uni_small.specs.Board.{Board, announce_word, argument_word, buffer_in, buffer_word, current_word, in_of, opened, version_in, words_before, words_of}
pub use Rattle.uni_small.specs.Final.{HasHistory}
pub use Rattle.uni_small.specs.Image.{AreWhole, AreWidths, HasRows, Image, IsReached, IsSteady, Meaning, buffer_words, calls_seen, due_at, first_held, first_image, held_place, image_from, joined, read_image, reply_of, reply_place, rows, spell, state_place, taken_in, with_row, with_seen}
pub use Rattle.uni_small.specs.Invariant.{AreHeld, AreIn, HasSeen, HasTaken, IfFresh, IsAt, IsAttempted, IsAttemptAt, IsPending, IsBeginning, IsBoard, IsCallAt, IsClosed, IsOpen, IsSound, MayBeWritten, most_calls}
pub use Rattle.uni_small.specs.Laws.{Moves, begins, ends, nothing, takes_effect, takes_effect_own}
pub use Rattle.uni_small.specs.Order.{IsOrdered, StandsIn}
pub use Rattle.uni_small.specs.Plays.{HasConfirmed, HasRecalled, HasRecounted, HasReread, HasRestarted, begun_by, has_begun, restarted, rests, spare_at}
pub use Rattle.uni_small.specs.Plays.{Goes, HasAnnounced, HasAsked, HasBegun, HasBrought, HasBroughtOwn, HasChecked, HasCheckedOwn, HasCopied, HasFollowed, HasLoaded, HasLooked, HasReplied, HasStarted, HasStored, HasTurned, HasWritten, IsGood, IsLeft, IsNamed, begun, brought, brought_own, checked, checked_own, first_alone, first_view, looked, nobody, others, own_in_view, stage_of, took_in, with_local, words_held}
pub use Rattle.uni_small.specs.Rule.{Rule}
pub use Rattle.uni_small.specs.Shown.{AreWords, IsShown, IsTaken, ShowsBoard, Tells}
pub use Rattle.uni_small.specs.Standing.{AreApplied, CallEnds, HasComeTo, IsWrittenTo, EndsWithin, GoesBy, GoesWithin, HasWrittenAll, HasWrittenOwn, IsAnnounced, IsDirect, IsWritten, IsAsking, IsCopying, IsEnd, IsLoading, IsLooking, IsOf, IsStoring, IsWriting, ReadsWithin, ReplyEnds, TriesWithin, WritesWithin, after_read, announced_steps, attempt_steps, call_steps, end_of, local_of, read_steps, read_then, tried_directly, went}
pub use Rattle.uni_small.specs.View.{Local, ProcessReturned, Read, Returned, Stage, announces, at_rest, begins_directly, brings, brings_own, confirms, ending, goes, knows, plain, recalls, returns, written_to, wrote}
pub use Rattle.uni_small.specs.View.Stage.{Idle, Last, Reading, Ready, Writing}
pub use Rattle.uni_small.specs.declared.rule.Setup.{Setup}
pub use Rattle.uni_small.specs.declared.seat.Buffers.{Buffers}
pub use Rattle.uni_small.specs.declared.seat.Room.{Room}
pub use Rattle.uni_small.specs.declared.seat.Seen.{Seen}
pub use Rattle.uni_small.specs.declared.sizes.Sizes.{Sizes}
pub use Rattle.uni_small.specs.declared.view.View.{View}
pub use borrow.Rule.Slice.PartMut.{put_mid}
pub use lib.ListN.{get_elem?}
pub use mathlib.Core.Option.{none, some, some-injective, some-ne-none}
pub use prog.Atomic.{either}
