-- The names that the proofs of this crate share.
pub use Rattle.std.proofs.Common.{List, drop, map, take, ℕ, ◌++◌, ◌≡◌, ◌↔◌}
pub use Rattle.std.specs.List.{flat_map}
pub use Rattle.signs.specs.Signs.{meaning}
pub use Rattle.history_picture.specs.Parts.{bar_parts, line_part, names_from}
pub use Rattle.history_picture.specs.Picture.{AreInTurn, red_outline}
pub use Rattle.history_picture.specs.declared.picture.Red.{Red}
