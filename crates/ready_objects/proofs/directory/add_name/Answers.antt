use Rattle.ready_objects.proofs.Vocabulary.{AddsName, subst}
use Rattle.ready_objects.proofs.DirectoryPlaces.{AddsName-inserted}
use Rattle.ready_objects.proofs.directory.add_name.Goals as goal

pub returns : goal.returns
returns c =
    let stored = c.in_ok-index.ensures.stored in
    let old = c.args.names.now.keys in
    let new = c.insert_full.new.self.keys in
    subst (λ name. AddsName old new name c.in_ok-index.index) c.in_ok-clone.ensures.cases
    (AddsName-inserted old new c.in_ok-clone.field-0 stored.0 c.in_ok-index.index c.in_ok-index.ensures.keys c.insert_full.ensures.unique stored.1 stored.2)
