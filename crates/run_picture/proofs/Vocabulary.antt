-- The names that the proofs of this crate share.
pub use Rattle.run_picture.specs.Parts.{anywhere, cells_from, eras_from, parts_of}
pub use Rattle.run_picture.specs.Picture.{IsDrawingOf, IsSvgOf}
pub use Rattle.run_picture.specs.Vocabulary.{Drawing, PlacedRemark, RunMarks, cell_shown, era_shown, flat_map, meaning, sign_shown, svg_text}
pub use Rattle.signs.specs.declared.sign.Look.TheVariants.{Text}
pub use Rattle.std.proofs.Common.{List, drop, map, subst, take, ℕ, ◌++◌, ◌-◌, ◌∙◌, ◌≡◌}
