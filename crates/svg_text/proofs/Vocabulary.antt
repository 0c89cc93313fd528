-- The names that the proofs of this crate share.
pub use Rattle.std.proofs.Common.{ap, append_assoc, arith, suc, sym, take, zero, ◌%◌, ◌++◌, ◌/◌, ◌<◌, ◌∙◌, ◌≡◌}
pub use Rattle.std.proofs.lemmas.Bool.{and_from}
pub use Rattle.std.proofs.lemmas.Bool.Decides.{nat_tests}
pub use Rattle.std.proofs.lemmas.List.Concat.{flat_map-append}
pub use Rattle.std.specs.Fmt.{decimal, digit_glyph, digits_onto}
unfoldable pub use Rattle.std.specs.Fmt.{digits}
pub use Rattle.std.specs.List.{AllByRecursion, flat_map}
pub use Rattle.std.specs.Prelude.{List, None, [], codes, false, if◌then◌else◌, refl, true, ℕ, ◌==◌, ◌∷◌}
pub use Rattle.svg_text.specs.declared.shape.Anchor.{Anchor}
pub use Rattle.svg_text.specs.declared.shape.Drawing.{Drawing}
pub use Rattle.svg_text.specs.declared.shape.Shape.{Shape}
pub use Rattle.svg_text.specs.declared.shape.Shape.TheVariants.{Dot, Line, Rect, Text, Tip, Titled, View}
pub use Rattle.svg_text.specs.Svg.{anchor_name, shape_node, lines, strip_node, svg_node}
pub use Rattle.svg_text.specs.Xml.{IsNoMarkup, are_well_named, escaped, escaped_byte, is_well_named, read_on, unescaped}
