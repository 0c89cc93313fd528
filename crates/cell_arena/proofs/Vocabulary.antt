-- The names that the proofs of this crate share.
pub use Rattle.std.proofs.Common.{Bool, IsSome, IsSomeAnd, List, None, Option, Some, [], ap, arith, eq-eqb, get_or, get_or-set_other, get_or-set_same, if◌then◌else◌, inl, inr, is_some, length, length-append, map, option_map, refl, replicate, rules, slice_get, slice_index_or, slice_set, suc, sym, true, zero, ℕ, ◌%◌, ◌*◌, ◌++◌, ◌+◌, ◌-◌, ◌/◌, ◌<◌, ◌==◌, ◌↔◌, ◌∙◌, ◌∷◌, ◌≡◌, ◌≢◌, ◌≤◌, ◌⊎◌}
pub use Rattle.std.proofs.Math.ListN.{length-set}
pub use Rattle.std.proofs.lemmas.Bool.{cases_eq, cases_lt, cond-false, cond-true, ne_eqb}
pub use Rattle.std.proofs.lemmas.List.{ext_get_or, get_or-replicate, get_or_default, get_or_past, length-map, length-replicate}
pub use Rattle.std.proofs.lemmas.List.FromFn.{get_or-map-range_with_len, length-map-range_with_len}
pub use Rattle.std.proofs.lemmas.Nat.{div-add-mod', div-mul-add, le-div, mod-mul-add, mul-add-lt, same_from_place}
pub use Rattle.std.proofs.lemmas.Option.{slice_get_past, slice_get_read}
pub use Rattle.cell_arena.specs.Arena.{cell_of, made_of, processes_of}
pub use Rattle.cell_arena.specs.CellRecord.{CellRecord, ChangesOnly, HasOnlyAnchor, anchor_for, anchor_with, fresh, index_of, nth_of, owner_of, settled, with_after, with_before, with_new, with_seq}
pub use Rattle.cell_arena.specs.ColumnCells.{Flat, IsFlat, at, made_by_owner, made_cell, made_cells}
pub use Rattle.cell_arena.specs.Columns.{AreEven, Fields, Reserved, blank, cell_in, cells_in, filled}
pub use Rattle.cell_arena.specs.Lending.{with_cell}
pub use Rattle.cell_arena.specs.Rows.{AreEmpty, AreRows, Rows, arena_of, cell_at, cells_of, rows_of}
