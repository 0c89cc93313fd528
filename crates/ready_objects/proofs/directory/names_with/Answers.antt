use Rattle.ready_objects.proofs.Vocabulary.{Some, arc_value, bytes_eq, position, same_from_all_zip, ◌≡◌}
use Rattle.ready_objects.proofs.DirectoryPlaces.{AddsName-there}
use Rattle.ready_objects.proofs.directory.names_with.Goals as goal

pub returns-in-Some : goal.returns-in-Some
returns-in-Some c =
    let names = (arc_value c.args.names.now).keys in
    let at : position (bytes_eq c.args.name.now) names ≡ Some c.in-Some.index = cc (c.in-Some.ensures.index, c.deref-shared.ensures) in
    rw c.in_ok-try_clone.ensures (AddsName-there names c.args.name.now c.in-Some.index c.requires at)

pub returns : goal.returns
returns c =
    let copied : c.in_ok-longer.longer.keys ≡ c.deref-shared.result.now.keys =
    same_from_all_zip (λ name copy. copy ≡ name) c.deref-shared.result.now.keys c.in_ok-longer.longer.keys c.in_ok-longer.ensures.cases (λ name copy same. same) in
    rw (c.in_ok-new.ensures.ok, ← c.deref-shared.ensures, ← copied) c.in_ok-index.ensures
