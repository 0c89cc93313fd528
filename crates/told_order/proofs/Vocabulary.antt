-- The names that the proofs of this crate share.
pub use Rattle.std.proofs.Common.{Global, IsSome, List, None, Option, Some, Vec, [], ap, append-nil, arith, inl, inr, length, length-append, length-set, map, option_and_then, refl, replicate, slice_get, slice_index, slice_set, subst, suc, sym, take, vec_len, zero, ℕ, ◌++◌, ◌+◌, ◌<◌, ◌∙◌, ◌∷◌, ◌≡◌, ◌≢◌, ◌≤◌, ◌⊎◌}
pub use Rattle.std.proofs.lemmas.List.{get_or-set_other, get_or-set_same, length-map, length-replicate, map-append, take_all}
pub use Rattle.std.proofs.lemmas.List.Sums.{sum_by-cons, sum_by-set}
pub use Rattle.std.specs.List.{sum, sum_by}
pub use Rattle.seq_object.specs.History.{state_after}
pub use Rattle.seq_object.specs.Sequential.{Sequential}
pub use Rattle.told_order.specs.Replay.{AreAnswered, ArePlaced, IsBegun, IsFirstDifference, IsReplayed, Made, NoneTellsPlace, asked_in, calls_by, next_of}
pub use Rattle.told_order.specs.declared.in_place.InPlace.{InPlace}
pub use Rattle.uni_model.proofs.Appended.{slice_get-append_cases, state_after-append}
pub use Rattle.uni_model.proofs.Written.{number_cases}
