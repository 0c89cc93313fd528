-- The names that the proofs of this crate share.
pub use Rattle.std.proofs.Common.{Bool, IsSome, IsTrue, List, None, Option, Some, [], ap, arith, cond, drop, false, get_or, inl, inr, length, map, nat_eq, option_map, refl, rules, slice_get, subst, suc, sym, take, true, zero, ℕ, ◌++◌, ◌+◌, ◌-◌, ◌<◌, ◌==◌, ◌∙◌, ◌∷◌, ◌≡◌, ◌≢◌, ◌≤◌, ◌⊎◌}
pub use Rattle.std.proofs.lemmas.List.{append-nil, append_assoc, drop_more, length-map, take-append-drop, take-map, take_all, take_more}
pub use Rattle.std.proofs.lemmas.List.Elements.{All-contains, All-more, Contains-get_or, filter-append, filter_map-append}
pub use Rattle.std.proofs.lemmas.Option.{IfSome_then, slice_get_cases}
pub use Rattle.std.specs.List.{All, Contains, cons_option, filter, filter_map, range_with_len}
pub use Rattle.std.specs.Option.{IfSome}
pub use Rattle.seq_object.specs.Sequential.{Sequential}
pub use Rattle.uni_core.specs.World.{current_of, world_of}
pub use Rattle.uni_model.proofs.Written.{number_cases}
pub use Rattle.uni_model.specs.Worlds.{IsQuiescent, WorldOf, world_after, world_after_call}
pub use Rattle.uni_record.specs.Event.{Completed, completed_in, event_lent, events_shown}
pub use Rattle.uni_record.specs.Recorded.{Recording, meaning, opening}
pub use Rattle.uni_record.specs.declared.counts.Counts.{Counts}
pub use Rattle.uni_shared.specs.Agreement.{Agrees, DiffersFirstAt, IsBusy, IsClosed, IsFaultOfClosing, IsLeast, IsMismatchOf, IsMissing, IsSameAt, SeatAgrees, completed_of, completed_of_process, invocation_by, seats_of}
pub use Rattle.uni_shared.specs.Seat.{SeatOf, first_seat}
pub use Rattle.uni_shared.specs.declared.receipt.Receipt.{Receipt}
pub use borrow.Author.Count.{below_more}
