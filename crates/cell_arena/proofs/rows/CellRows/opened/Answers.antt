use Rattle.cell_arena.proofs.ArenaOf.{HasOnlyAnchor-empty, made_of-empty}
use Rattle.cell_arena.proofs.rows.CellRows.opened.Goals as goal

pub returns-clause-cell : goal.returns-clause-cell
returns-clause-cell g c =
    rw (← c.anchor.ensures)
    (HasOnlyAnchor-empty (record { row = c.args.k; anchor = c.anchor.result; rows = c.in_ok-rows.rows.items }) c.in_ok-rows.ensures.empty
    (rw c.in_ok-rows.ensures.len c.requires.processes) c.requires.row.1)

pub returns-clause-made : goal.returns-clause-made
returns-clause-made g c =
    made_of-empty (record { row = c.args.k; anchor = c.anchor.result; rows = c.in_ok-rows.rows.items }) c.in_ok-rows.ensures.empty
