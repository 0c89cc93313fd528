-- The names that the proofs of this crate share.
pub use Rattle.std.proofs.Common.{List, None, Option, Some, [], ap, arith, false, get_or-set_other, get_or-set_same, inl, inr, length, length-set, map, mul-le-mul_right, refl, replicate, set, set-set, slice_index, slice_set, subst, suc, suc-mul, sym, true, zero, ℕ, ⊎_elim, ◌%◌, ◌*◌, ◌++◌, ◌+◌, ◌-◌, ◌<◌, ◌∙◌, ◌∷◌, ◌≡◌, ◌≢◌, ◌≤◌, ◌⊎◌}
pub use Rattle.std.proofs.lemmas.List.{length-replicate, map-set, set-get_or}
pub use Rattle.atomic_table.proofs.Lists.{at_map, at_set, set_else, set_here}
pub use Rattle.atomic_table.specs.Table.{Act, Allows, Me, State, Step, Valid, carried_after, chain, gives, homes_after, keeps, put_back, rest, step, takes}
pub use Rattle.uni_model.proofs.LawProofs.{set_at_elsewhere}
pub use Rattle.uni_model.proofs.Simulation.{set_at_same}
pub use Rattle.uni_model.proofs.Written.{lt_cases, number_cases, set_at-cases}
pub use Rattle.uni_model.specs.AtomicObject.{set_at}
pub use Rattle.triple_buffers.specs.Buffer.{AreEnds, AreSlots, AreThree, AreWords, Fits, HasOut, IsSmall, Keeps, ShowsContents, Side, Side.Back, Side.Front, Tells, client_of, end_in, end_of, owner, slot_at, word_at, word_of}
pub use Rattle.triple_buffers.specs.Contents.{AllowsChange, AllowsSplit, AllowsTake, AllowsWrite, Contents, opening, with_value}
pub use Rattle.triple_buffers.specs.Parties.{AreOf, Carries, IsAlone, IsPartyOf}
pub use Rattle.triple_buffers.specs.Seats.{HasLooked, HasOpened, HasStepped, HasTaken, HasWritten, Mine, back_slot, first_alone, first_ends, first_sight, goes, others, settled, with_back, with_front, with_out}
pub use Rattle.triple_buffers.specs.declared.layout.Layout.{Layout}
pub use Rattle.triple_buffers.specs.declared.rule.Ends.{Ends}
pub use Rattle.triple_buffers.specs.declared.rule.Sight.{Sight}
pub use lib.ListN.{get_elem?}
pub use mathlib.Core.Option.{none, some, some-injective, some-ne-none}
pub use mathlib.Core.Option as maybe
