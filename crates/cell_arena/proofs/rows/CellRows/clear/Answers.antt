use Rattle.cell_arena.proofs.ArenaOf.{HasOnlyAnchor-empty, made_of-empty}
use Rattle.cell_arena.proofs.rows.CellRows.clear.Goals as goal

pub returns-clause-cell : goal.returns-clause-cell
returns-clause-cell g c =
    rw (← c.anchor.ensures)
    (HasOnlyAnchor-empty (record { row = c.self.inside.row; anchor = c.anchor.result; rows = c.empty.new.rows.items }) c.empty.ensures.empty
    (rw c.empty.ensures.len c.self.invariant.rows) c.self.invariant.row)

pub returns-clause-made : goal.returns-clause-made
returns-clause-made g c =
    made_of-empty (record { row = c.self.inside.row; anchor = c.anchor.result; rows = c.empty.new.rows.items }) c.empty.ensures.empty
