-- The names that the proofs of this crate share.
pub use Rattle.run_lines.specs.Canvas.{letter_after, letter_in, letter_seen, row_of}
unfoldable pub use Rattle.run_lines.specs.Canvas.{letter_at, rows_of}
pub use Rattle.run_lines.specs.Lines.{AreSide, bottom_row, cell_text, ended, eras_from, headings_text, notes_from, rows_text}
unfoldable pub use Rattle.run_lines.specs.Lines.{block_text}
pub use Rattle.run_lines.specs.Parts.{is_arrow, no_notes, numbers_from, parts_of}
pub use Rattle.run_lines.specs.Vocabulary.{Block, Ink, Sign, Stroke, cell_shown, era_shown, filter, flat_map, meaning, range_with_len, sign_shown, suffix_len}
pub use Rattle.signs.proofs.Rest.{more_at, none}
pub use Rattle.std.proofs.Common.{List, [], ap, append-nil, append_assoc, arith, drop, get_or, length, map, replicate, rules, sym, take, ℕ, ◌++◌, ◌+◌, ◌-◌, ◌<◌, ◌==◌, ◌∙◌, ◌∷◌, ◌≡◌, ◌≤◌}
pub use Rattle.std.proofs.lemmas.Grind.{common_steps, fold-append}
pub use Rattle.std.proofs.lemmas.List.{drop_all, get_or-replicate, map-append, take-map, take_all, take_more}
pub use Rattle.std.proofs.lemmas.List.FromFn.{fill_by_all, map-range_with_len_more}
pub use Rattle.std.specs.List.{fold}
pub use Rattle.std.specs.Prelude.{if◌then◌else◌, nat_le, nat_lt, not, ◌&&◌}
