-- The names that the proofs of this crate share.
pub use Rattle.std.proofs.Common.{Bool, IfSome, IsSome, List, None, Option, Some, [], ap, arith, drop, false, get_or, if◌then◌else◌, inl, inr, length, length-append, nat_lt, refl, slice_get, subst, suc, sym, true, zero, ℕ, ◌%◌, ◌*◌, ◌++◌, ◌+◌, ◌-◌, ◌/◌, ◌<◌, ◌∙◌, ◌∷◌, ◌≡◌, ◌≤◌, ◌⊎◌}
pub use Rattle.std.proofs.Math.Nat.{div-lt_iff_lt-mul}
pub use Rattle.std.proofs.lemmas.Bool.{cases_eq, cases_lt}
pub use Rattle.std.proofs.lemmas.Bool.Decides.{nat_tests}
pub use Rattle.std.proofs.lemmas.Nat.{div-mul-add, mod-mul-add}
pub use Rattle.std.proofs.lemmas.Option.{slice_get_past, slice_get_read}
pub use Rattle.std.specs.Option.{option_map_or}
pub use Rattle.std.specs.Prelude.{Vec, option_and_then, option_map, slice_index_or}
pub use Rattle.std.specs.declared.alloc.Global.{Global}
pub use Rattle.run_graph.specs.AtHand.{AreAtHand, IsKept, IsTaken, IsTold, list_at}
pub use Rattle.run_graph.specs.Graph.{HasEachWorld, IsEdge, IsGraph, IsMore, IsPart, LeadsTo, path_of, shown_at}
pub use Rattle.run_graph.specs.Schedule.{Plan, along, call_in, event_from, moved, plan_of, shown, world_at}
pub use Rattle.seq_object.specs.Sequential.{Sequential}
pub use Rattle.uni_core.specs.Same.{without_counts}
pub use Rattle.uni_core.specs.World.{WorldParts, world_of}
pub use Rattle.uni_model.specs.Places.{new_of}
pub use Rattle.uni_model.specs.Places.Name.{Anchor}
pub use Rattle.uni_model.specs.Worlds.{Event, IsAccepted, WorldOf, calls_in_era, opened_world, world_after, world_after_step}
pub use Rattle.uni_model.specs.Worlds.Event.{Call, Step}
