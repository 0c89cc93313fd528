use Rattle.ready_objects.proofs.Vocabulary.{Some, ap, arc_value, bytes_eq, map, named, position, set_value, sym, value_of, ◌∙◌, ◌≡◌}
use Rattle.ready_objects.proofs.DirectoryPlaces.{value_of-place, value_of-no_place, set_value-place, set_value-no_place}
use Rattle.ready_objects.proofs.directory.Pairs.replace.Goals as goal

pub returns-in_err-place-clause-pairs : goal.returns-in_err-place-clause-pairs
returns-in_err-place-clause-pairs c = sym (set_value-no_place c.args.self.now c.args.name.now (sym c.in_err-place.ensures.place) c.args.value)

pub returns-in_err-place-clause-before : goal.returns-in_err-place-clause-before
returns-in_err-place-clause-before c = c.from_residual.ensures ∙ sym (value_of-no_place c.args.self.now c.args.name.now (sym c.in_err-place.ensures.place))

pub returns-clause-pairs : goal.returns-clause-pairs
returns-clause-pairs c =
    let names = (arc_value c.self.inside.names).keys in
    let items = c.self.inside.pairs.items in
    let at : position (λ pair. bytes_eq c.args.name.now pair.0) (map (named names) items) ≡ Some c.in_ok-place.place = cc (c.in_ok-place.ensures.place, c.self.view_is) in
    set_value-place names items c.args.name.now c.in_ok-place.place at c.index_mut-pair.result.now c.args.value c.index_mut-pair.ensures.value
    ∙ ap (λ pairs. set_value (bytes_eq c.args.name.now) pairs c.args.value) c.self.view_is

pub returns-clause-before : goal.returns-clause-before
returns-clause-before c =
    let names = (arc_value c.self.inside.names).keys in
    let items = c.self.inside.pairs.items in
    let at : position (λ pair. bytes_eq c.args.name.now pair.0) (map (named names) items) ≡ Some c.in_ok-place.place = cc (c.in_ok-place.ensures.place, c.self.view_is) in
    sym (value_of-place names items c.args.name.now c.in_ok-place.place at c.index_mut-pair.result.now c.index_mut-pair.ensures.value)
    ∙ ap (λ pairs. value_of pairs c.args.name.now) c.self.view_is
