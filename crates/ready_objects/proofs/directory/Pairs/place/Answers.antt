use Rattle.ready_objects.proofs.Vocabulary.{None, Some, ap, arc_value, bytes_eq, position, rules, sym, tests, ◌==◌, ◌∙◌, ◌≡◌}
use Rattle.std.proofs.lemmas.Iterator.{YieldsList-from_slice}
use Rattle.std.proofs.lemmas.Iterator.Search.{position_from_yields_List}
use Rattle.ready_objects.proofs.DirectoryPlaces.{place_at_index, no_place}
use Rattle.ready_objects.proofs.directory.Pairs.place.Goals as goal

pub returns-in_err-index-clause-place : goal.returns-in_err-index-clause-place
returns-in_err-index-clause-place c =
    let names = (arc_value c.self.inside.names).keys in
    let none : position (bytes_eq c.args.name.now) names ≡ None = cc (c.get_index_of.ensures.index, c.in_err-index.was, c.deref.ensures) in
    let no = no_place names c.self.inside.pairs.items c.self.invariant c.args.name.now none in
    cc (c.from_residual.ensures, no, c.self.view_is)

pub returns-clause-place : goal.returns-clause-place
returns-clause-place c =
    let names = (arc_value c.self.inside.names).keys in
    let index : position (bytes_eq c.args.name.now) names ≡ Some c.in_ok-index.index = cc (c.get_index_of.ensures.index, c.in_ok-index.was, c.deref.ensures) in
    let same = place_at_index names c.self.inside.pairs.items c.self.invariant c.args.name.now c.in_ok-index.index index in
    let found : c.position.result ≡ position (λ pair. pair.name == c.in_ok-index.index) c.self.inside.pairs.items =
    position_from_yields_List (λ pair. pair.name == c.in_ok-index.index) _ _ c.position.result c.position.ensures.ran (YieldsList-from_slice c.self.inside.pairs.items cc) (λ x b q k. search (rules, tests)) in
    found ∙ sym same ∙ ap (position (λ pair. bytes_eq c.args.name.now pair.0)) c.self.view_is
