use Rattle.std.proofs.Common.{ap, ◌∙◌, map}
use Rattle.std.proofs.Math.ListN.{set}
use Rattle.std.proofs.lemmas.List.{map-set}
use Rattle.std.specs.Arc.{arc_value}
use Rattle.parted_map.proofs.Copies.{same_values}
use Rattle.parted_map.proofs.MapState.with_part.Goals as goal

pub returns : goal.returns
returns c =
    let at = c.args.at in
    let parts = c.in_ok-parts.parts.items in
    let part = c.in_ok-parts-2.field-0 in
    let copied = same_values arc_value c.deref.result.now.items parts c.in_ok-parts.ensures.cases.0 in
    ap (λ v. map arc_value v.items) c.in_ok-new.ensures.ok
    ∙ map-set arc_value parts at part
    ∙ ap (λ all. set all at (arc_value part)) (copied ∙ ap (λ v. map arc_value v.items) c.deref.ensures ∙ c.self.view_is)
    ∙ ap (λ p. set c.args.self.now at p) c.in_ok-parts-2.ensures.ok
