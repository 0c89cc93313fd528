use Rattle.std.proofs.Common.{ap, sym, ◌∙◌, Some, slice_index_or}
use Rattle.std.specs.Str.{bytes_eq}
use Rattle.ready_objects.proofs.DirectoryPlaces.{first_of, lookup-first, lookup-none, none_of}
use Rattle.parted_map.proofs.Part.number_of.Goals as goal

pub returns-in-Some : goal.returns-in-Some
returns-in-Some c =
    let text = c.args.text.now in
    let place = c.in-Some.place in
    let pair = c.index.result.now in
    let there = ap (λ pairs. slice_index_or pairs place pair) (sym c.self.view_is) ∙ sym c.index.ensures in
    let first = first_of (λ pair. bytes_eq text pair.0) c.args.self.now place (sym c.in-Some.ensures.place) in
    ap (λ p. Some p.1) (c.behind-self.view_is ∙ sym there)
    ∙ sym (lookup-first (bytes_eq text) c.args.self.now place pair first)

pub returns-in-None : goal.returns-in-None
returns-in-None c =
    let text = c.args.text.now in
    sym (lookup-none (bytes_eq text) c.args.self.now
    (none_of (λ pair. bytes_eq text pair.0) c.args.self.now (sym c.in-None.ensures.place)))
