use Rattle.cell_arena.proofs.Vocabulary.{IsSome, Rows, arena_of, arith, cell_of, length, refl, rows_of, rules, slice_get_read, ◌<◌, ◌∙◌, ◌≡◌}
use Rattle.std.proofs.lemmas.Grind.{common_steps}
use Rattle.cell_arena.proofs.ArenaOf.{is_stored}
use Rattle.cell_arena.proofs.rows.CellRows.cell.Goals as goal

pub index-requires : goal.index-requires
index-requires g c =
    let place = c.in-Made.ensures in
    let a : Rows g.row.S.Denot g.row.I.Denot g.row.R.Denot = record { row = c.self.inside.row; anchor = c.self.inside.anchor; rows = c.self.inside.rows.items } in
    let there : IsSome (cell_of (arena_of a) c.args.id) = rw (← c.self.view_is) at c.requires in
    let few : c.len.result ≡ rows_of a = search rules in
    let stored = is_stored a c.self.invariant c.len.result c.args.id c.in-Made.owner c.in-Made.nth c.index-row.result.now few place.0 place.1 place.2 c.index-row.ensures there in
    let within : c.in-Made.nth < length c.row.inside.cells.items = rw (← c.row.view_is) at stored.0 in
    grind (arith, common_steps)

pub returns-in-Made : goal.returns-in-Made
returns-in-Made g c =
    let place = c.in-Made.ensures in
    let a : Rows g.row.S.Denot g.row.I.Denot g.row.R.Denot = record { row = c.self.inside.row; anchor = c.self.inside.anchor; rows = c.self.inside.rows.items } in
    let there : IsSome (cell_of (arena_of a) c.args.id) = rw (← c.self.view_is) at c.requires in
    let few : c.len.result ≡ rows_of a = search rules in
    let stored = is_stored a c.self.invariant c.len.result c.args.id c.in-Made.owner c.in-Made.nth c.index-row.result.now few place.0 place.1 place.2 c.index-row.ensures there in
    rw (← c.self.view_is) (stored.1 ∙ rw (← c.row.view_is) (slice_get_read c.row.inside.cells.items (length c.row.inside.cells.items) c.in-Made.nth c.index.result.now refl (rw (← c.row.view_is) at stored.0) c.index.ensures))
