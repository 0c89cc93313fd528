use Rattle.unibench_run.proofs.Vocabulary.{Done, into_iter_items, map, ◌++◌, ◌≡◌}
use Rattle.unibench_run.proofs.threads.parted.Given as goal

-- what was taken so far is parted
abbrev pub invariant-loop-one : goal.invariant-loop-one
invariant-loop-one g l =
    let seat_in = λ (one : Done g.row.S.Denot g.row.A.Denot). one.seat in
    let list_in = λ (one : Done g.row.S.Denot g.row.A.Denot). one.told in
    (map seat_in (into_iter_items l.initial.one-iterator) ≡ l.seats.items ++ map seat_in (into_iter_items l.one-iterator))
    × (map list_in (into_iter_items l.initial.one-iterator) ≡ l.lists.items ++ map list_in (into_iter_items l.one-iterator))
