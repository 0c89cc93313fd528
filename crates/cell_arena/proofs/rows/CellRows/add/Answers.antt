use Rattle.cell_arena.proofs.Vocabulary.{Rows, arith, fresh}
use Rattle.std.proofs.lemmas.Result.{on_ok_weaker}
use Rattle.cell_arena.proofs.ArenaOf.{ChangesOnly-by_row, made_of-by_row, processes_of-arena_of, made_of-arena_of}
use Rattle.cell_arena.proofs.rows.CellRows.add.Goals as goal

pub returns-clause-cell : goal.returns-clause-cell
returns-clause-cell g c =
    let a : Rows g.row.S.Denot g.row.I.Denot g.row.R.Denot = record { row = c.self.inside.row; anchor = c.self.inside.anchor; rows = c.self.inside.rows.items } in
    let within = rw (← c.self.view_is) at c.requires.process in
    let room = rw (← c.self.view_is) at c.requires.room in
    rw (← c.self.view_is)
    (on_ok_weaker c.add.result (ChangesOnly-by_row a c.self.invariant c.args.p c.index_mut-row.result.now c.add.new.self (fresh c.args.inv)
    (omega (arith, processes_of-arena_of a, within)) (omega (arith, made_of-arena_of a c.args.p, room)) c.index_mut-row.ensures.value) c.add.ensures.added)

pub returns-clause-made : goal.returns-clause-made
returns-clause-made g c =
    let a : Rows g.row.S.Denot g.row.I.Denot g.row.R.Denot = record { row = c.self.inside.row; anchor = c.self.inside.anchor; rows = c.self.inside.rows.items } in
    let within = rw (← c.self.view_is) at c.requires.process in
    rw (← c.self.view_is)
    (on_ok_weaker c.add.result (made_of-by_row a c.args.p c.index_mut-row.result.now c.add.new.self (fresh c.args.inv)
    (omega (arith, processes_of-arena_of a, within)) c.index_mut-row.ensures.value) c.add.ensures.added)
