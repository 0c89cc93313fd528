use Rattle.ready_objects.proofs.Vocabulary.{Some, [], ap, arc_value, get_or, get_or_from_slice_get, map, map_more, named, slice_get, sym, take, ◌++◌, ◌∙◌, ◌∷◌, ◌≡◌}
use Rattle.ready_objects.proofs.DirectoryPlaces.{AreNamed-push, named-push}
use Rattle.ready_objects.proofs.directory.Pairs.collected.Goals as goal

pub loop-pair-preserved : goal.loop-pair-preserved
loop-pair-preserved c =
    let names = (arc_value c.self.inside.names).keys in
    let items = c.deref-pair-items.result.now in
    let item = c.pair-item.result in
    let before = c.loop-pair.names.keys in
    let later = c.add_name.new.names.keys in
    let at : slice_get names item.name ≡ Some c.index.result.now = cc (c.index.ensures, c.deref.ensures) in
    let name : c.index.result.now ≡ get_or names item.name [] = sym (get_or_from_slice_get names item.name c.index.result.now [] at) in
    let are = AreNamed-push before later c.index.result.now c.in_ok-name.name c.in_ok-name.ensures c.loop-pair.pairs.items item.value c.loop-pair.invariant.0 in
    let shown = named-push before later c.index.result.now c.in_ok-name.name c.in_ok-name.ensures c.loop-pair.pairs.items item.value c.loop-pair.invariant.0 in
    let more = map_more (named names) items c.loop-pair.pair-index item c.loop-pair-test.true in
    rw c.in_ok-push.ensures.items
    (are, shown ∙ (λ j. c.loop-pair.invariant.1 j ++ (name j, item.value) ∷ []) ∙ ap (λ p. map (named names) (take c.loop-pair.pair-index items) ++ named names p ∷ []) c.pair-item.is ∙ sym more)
