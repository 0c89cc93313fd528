use Rattle.cell_arena.proofs.Vocabulary.{anchor_with, arith, length, length-replicate, rules, ◌≡◌}
use Rattle.cell_arena.proofs.FlatArena.{HasOnlyAnchor-alone, IsFlat-begun, get_or-zero}
use Rattle.cell_arena.proofs.column_cells.ColumnCells.opened.Goals as goal

pub invariant_of-result : goal.invariant_of-result
invariant_of-result g c =
    let zeros = c.in_ok-made.ensures.items_if_clones_equal (λ y h. search rules) in
    let few : length c.in_ok-made.made.items ≡ c.args.n = rw zeros (length-replicate _ _) in
    rw (c.begin.ensures, c.in_ok-columns.ensures) (IsFlat-begun _ _ _ _ (rw few c.requires.processes) c.requires.row.1 (rw few (omega arith)) (λ p. rw zeros (get_or-zero _ p)))

pub returns-clause-cell : goal.returns-clause-cell
returns-clause-cell g c = rw c.begin.ensures (HasOnlyAnchor-alone (anchor_with c.args.state c.args.seq))

pub returns-clause-made : goal.returns-clause-made
returns-clause-made g c p =
    rw (c.in_ok-made.ensures.items_if_clones_equal (λ y h. search rules)) (get_or-zero _ p)
