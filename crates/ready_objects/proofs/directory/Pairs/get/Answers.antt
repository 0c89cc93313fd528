use Rattle.ready_objects.proofs.Vocabulary.{Some, ap, arc_value, bytes_eq, map, named, position, sym, value_answer, value_of, ◌∙◌, ◌≡◌}
use Rattle.ready_objects.proofs.DirectoryPlaces.{value_of-place, value_of-no_place}
use Rattle.ready_objects.proofs.directory.Pairs.get.Goals as goal

pub returns-in-Some : goal.returns-in-Some
returns-in-Some c =
    let names = (arc_value c.self.inside.names).keys in
    let at : position (λ pair. bytes_eq c.args.name.now pair.0) (map (named names) c.self.inside.pairs.items) ≡ Some c.in-Some.place = cc (c.in-Some.ensures.place, c.self.view_is) in
    let value = value_of-place names c.self.inside.pairs.items c.args.name.now c.in-Some.place at c.index.result.now c.index.ensures in
    ap value_answer (sym value ∙ ap (λ pairs. value_of pairs c.args.name.now) c.self.view_is)

pub returns-in-None : goal.returns-in-None
returns-in-None c = ap value_answer (sym (value_of-no_place c.args.self.now c.args.name.now (sym c.in-None.ensures.place)))
