use Rattle.ready_objects.proofs.Vocabulary.{[], ap, arc_value, map, named, ◌++◌, ◌∙◌, ◌∷◌}
use Rattle.ready_objects.proofs.DirectoryPlaces.{AreNamed-push, named-push}
use Rattle.ready_objects.proofs.directory.Pairs.push.Goals as goal

pub invariant_of-self-2 : goal.invariant_of-self-2
invariant_of-self-2 c =
    let before = (arc_value c.self.inside.names).keys in
    let later = (arc_value c.in_ok-names.names).keys in
    rw c.in_ok-push.ensures.items
    (AreNamed-push before later c.args.name.now c.in_ok-names.name c.in_ok-names.ensures c.self.inside.pairs.items c.args.value c.self.invariant)

pub returns-clause-pairs : goal.returns-clause-pairs
returns-clause-pairs c =
    let before = (arc_value c.self.inside.names).keys in
    let later = (arc_value c.in_ok-names.names).keys in
    ap (map (named later)) c.in_ok-push.ensures.items
    ∙ named-push before later c.args.name.now c.in_ok-names.name c.in_ok-names.ensures c.self.inside.pairs.items c.args.value c.self.invariant
    ∙ ap (λ pairs. pairs ++ (c.args.name.now, c.args.value) ∷ []) (c.self.view_is ∙ c.limit_names.ensures)
