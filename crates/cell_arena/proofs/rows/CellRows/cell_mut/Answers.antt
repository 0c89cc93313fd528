use Rattle.cell_arena.proofs.Vocabulary.{IsSome, Rows, Some, arena_of, cell_of, refl, rows_of, rules, sym, ◌∙◌, ◌≡◌}
use Rattle.cell_arena.proofs.ArenaOf.{is_stored, cell_of-arena_of, with_cell-read}
use Rattle.cell_arena.proofs.rows.CellRows.cell_mut.Goals as goal

pub cell_mut-requires : goal.cell_mut-requires
cell_mut-requires g c =
    let place = c.in-Made.ensures in
    let a : Rows g.row.S.Denot g.row.I.Denot g.row.R.Denot = record { row = c.self.inside.row; anchor = c.self.inside.anchor; rows = c.self.inside.rows.items } in
    let there : IsSome (cell_of (arena_of a) c.args.id) = rw (← c.self.view_is) at c.requires in
    let few : c.len.result ≡ rows_of a = search rules in
    (is_stored a c.self.invariant c.len.result c.args.id c.in-Made.owner c.in-Made.nth c.index_mut.result.now few place.0 place.1 place.2 c.index_mut.ensures.value there).0

pub returns-in-Made : goal.returns-in-Made
returns-in-Made g c =
    let place = c.in-Made.ensures in
    let a : Rows g.row.S.Denot g.row.I.Denot g.row.R.Denot = record { row = c.self.inside.row; anchor = c.self.inside.anchor; rows = c.self.inside.rows.items } in
    let there : IsSome (cell_of (arena_of a) c.args.id) = rw (← c.self.view_is) at c.requires in
    let few : c.len.result ≡ rows_of a = search rules in
    let stored = is_stored a c.self.invariant c.len.result c.args.id c.in-Made.owner c.in-Made.nth c.index_mut.result.now few place.0 place.1 place.2 c.index_mut.ensures.value there in
    let found : cell_of (arena_of a) c.args.id ≡ Some c.cell_mut.result.now = stored.1 ∙ c.cell_mut.ensures.cell in
    rw (← c.self.view_is) (
      (refl, λ w. with_cell-read a c.self.invariant c.len.result c.args.id c.in-Made.owner c.in-Made.nth c.index_mut.result.now w few place.0 place.1 place.2 c.index_mut.ensures.value),
      record { cell = found; stored = sym (cell_of-arena_of a c.self.invariant c.args.id) ∙ found; shape = c.self.invariant; writes_back = tt },
    )
