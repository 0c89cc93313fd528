use Rattle.cell_arena.proofs.Vocabulary.{Flat, ap, arith, blank, fresh, get_or_default, index_of, length, refl, rules, slice_index_or, ◌<◌, ◌∙◌, ◌≡◌}
use Rattle.cell_arena.proofs.FlatArena.{ChangesOnly-made, IsFlat-made, at-unmade, index_of-within}
use Rattle.cell_arena.proofs.column_cells.ColumnCellsCells.make.Goals as goal

pub make-requires : goal.make-requires
make-requires g c =
    let a : Flat g.row.S.Denot g.row.I.Denot g.row.R.Denot = record { row = c.self.inside.row; made = c.self.inside.made.items; columns = c.self.inside.columns } in
    let among : c.args.p < length a.made = rw (← c.self.view_is) at c.requires in
    let room : c.index-nth.result.now < a.row = omega (arith, c.self.invariant.made c.args.p, c.index-nth.ensures ∙ get_or_default a.made c.args.p _ 0 among) in
    let few : c.len.result ≡ length a.made = search rules in
    index_of-within a c.self.invariant c.args.p c.index-nth.result.now c.index.result among room (rw (← few) (c.index.ensures ∙ c.of-id.ensures))

pub invariant_of-self : goal.invariant_of-self
invariant_of-self g c =
    let a : Flat g.row.S.Denot g.row.I.Denot g.row.R.Denot = record { row = c.self.inside.row; made = c.self.inside.made.items; columns = c.self.inside.columns } in
    let among : c.args.p < length a.made = rw (← c.self.view_is) at c.requires in
    let nth_is : c.index-nth.result.now ≡ slice_index_or a.made c.args.p 0 = c.index-nth.ensures ∙ get_or_default a.made c.args.p _ 0 among in
    let room : c.index-nth.result.now < a.row = omega (arith, c.self.invariant.made c.args.p) in
    let few : c.len.result ≡ length a.made = search rules in
    let place : c.index.result ≡ index_of (length a.made) c.args.p c.index-nth.result.now = rw (← few) (c.index.ensures ∙ c.of-id.ensures) in
    rw c.make.ensures (IsFlat-made a c.self.invariant c.args.p c.index.result c.index-nth.result.now _ among nth_is room place refl)

pub returns-clause-cell : goal.returns-clause-cell
returns-clause-cell g c =
    let a : Flat g.row.S.Denot g.row.I.Denot g.row.R.Denot = record { row = c.self.inside.row; made = c.self.inside.made.items; columns = c.self.inside.columns } in
    let among : c.args.p < length a.made = rw (← c.self.view_is) at c.requires in
    let nth_is : c.index-nth.result.now ≡ slice_index_or a.made c.args.p 0 = c.index-nth.ensures ∙ get_or_default a.made c.args.p _ 0 among in
    let room : c.index-nth.result.now < a.row = omega (arith, c.self.invariant.made c.args.p) in
    let few : c.len.result ≡ length a.made = search rules in
    let place : c.index.result ≡ index_of (length a.made) c.args.p c.index-nth.result.now = rw (← few) (c.index.ensures ∙ c.of-id.ensures) in
    let empty : slice_index_or a.columns.cells c.index.result blank ≡ blank = ap (λ i. slice_index_or a.columns.cells i blank) place ∙ at-unmade a c.self.invariant c.args.p c.index-nth.result.now among (omega arith) in
    rw (← c.self.view_is, ← c.index.ensures, c.make.ensures, empty)
    (ChangesOnly-made a.columns c.index.result (fresh c.args.inv) c.self.invariant.anchor refl)
