use Rattle.ready_objects.proofs.Vocabulary.{Some, ap, arc_value, bytes_eq, map, named, position, remove_entry, sym, value_answer, value_of, ◌∙◌, ◌≡◌}
use Rattle.ready_objects.proofs.DirectoryPlaces.{value_of-place, value_of-no_place, remove_entry-place, remove_entry-no_place}
use Rattle.ready_objects.proofs.directory.Pairs.del.Goals as goal

pub returns-in-Some-clause-pairs : goal.returns-in-Some-clause-pairs
returns-in-Some-clause-pairs c =
    let names = (arc_value c.self.inside.names).keys in
    let at : position (λ pair. bytes_eq c.args.name.now pair.0) (map (named names) c.self.inside.pairs.items) ≡ Some c.in-Some.place = cc (c.in-Some.ensures.place, c.self.view_is) in
    ap (map (named names)) c.remove.ensures.items
    ∙ remove_entry-place names c.self.inside.pairs.items c.args.name.now c.in-Some.place at
    ∙ ap (remove_entry (bytes_eq c.args.name.now)) c.self.view_is

pub returns-in-Some-clause-response : goal.returns-in-Some-clause-response
returns-in-Some-clause-response c =
    let names = (arc_value c.self.inside.names).keys in
    let at : position (λ pair. bytes_eq c.args.name.now pair.0) (map (named names) c.self.inside.pairs.items) ≡ Some c.in-Some.place = cc (c.in-Some.ensures.place, c.self.view_is) in
    let value = value_of-place names c.self.inside.pairs.items c.args.name.now c.in-Some.place at c.remove.result c.remove.ensures.value in
    ap value_answer (sym value ∙ ap (λ pairs. value_of pairs c.args.name.now) c.self.view_is)

pub returns-in-None-clause-pairs : goal.returns-in-None-clause-pairs
returns-in-None-clause-pairs c = sym (remove_entry-no_place c.args.self.now c.args.name.now (sym c.in-None.ensures.place))

pub returns-in-None-clause-response : goal.returns-in-None-clause-response
returns-in-None-clause-response c = ap value_answer (sym (value_of-no_place c.args.self.now c.args.name.now (sym c.in-None.ensures.place)))
