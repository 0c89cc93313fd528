use Rattle.std.proofs.Common.{◌≡◌, ◌==◌, ◌&&◌, rules}
use Rattle.std.proofs.lemmas.Slice.Eq.{slice_eq-Decides}
use Rattle.std.specs.Bool.{Decides}
use Rattle.judged_objects.specs.declared.entries.Entry.{Entry}
use Rattle.judged_objects.proofs.map.MapCheckable.is_same.Goals as goal

decides : (a b : Entry) → Decides ((a.key == b.key) && (a.value == b.value)) (a ≡ b)
decides a b = search rules

pub returns : goal.returns
returns c =
    let same = slice_eq-Decides decides c.as_slice.result.now c.as_slice-2.result.now c.eq.result c.eq.ensures in
    rw (c.as_slice.ensures, c.as_slice-2.ensures) at same
