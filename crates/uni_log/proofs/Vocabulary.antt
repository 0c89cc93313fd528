-- The names that the proofs of this crate share.
pub use Rattle.std.proofs.Common.{Bor, IfSome, IsSome, List, None, Option, Some, [], ap, append_assoc, arith, drop, length, length-append, map, option_and_then, option_map, position, refl, reverse, slice_get, subst, suc, sym, take, true, zero, ℕ, ◌++◌, ◌+◌, ◌-◌, ◌<◌, ◌^◌, ◌∙◌, ◌∷◌, ◌≡◌, ◌≤◌}
pub use Rattle.std.proofs.lemmas.List.{append-nil, length-map, map-append, reverse-append}
pub use Rattle.std.specs.Option.{IsSomeAnd, option_copied, option_map_or}
pub use Rattle.cell_arena.specs.Arena.{cell_of}
pub use Rattle.seq_object.specs.History.{IsLegal, state_after}
pub use Rattle.seq_object.specs.Sequential.{Sequential}
pub use Rattle.uni_core.specs.World.{name_in, world_of}
pub use Rattle.uni_log.specs.Entry.{call_shown, entry_shown}
pub use Rattle.uni_model.proofs.Logged.{legal_from, settled_from, state_after-from}
pub use Rattle.uni_model.proofs.Simulation.{calls_of-calls_at, enough}
pub use Rattle.uni_model.specs.Chain.{Entry, cells_from, invoked_at, response_in}
pub use Rattle.uni_model.specs.Counting.{era_calls}
pub use Rattle.uni_model.specs.History.{invocations_of, log, logged_call}
pub use Rattle.uni_model.specs.Invariant.{Has, Invariant, IsNumbered}
pub use Rattle.uni_model.specs.Places.{Memory, Name, after_of, before_of, inv_of, name_eq, new_of, seq_of}
pub use Rattle.uni_model.specs.Places.Name.{Anchor, Of}
pub use Rattle.uni_model.specs.Worlds.{WorldOf, chain}
