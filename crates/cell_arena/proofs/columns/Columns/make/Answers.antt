use Rattle.cell_arena.proofs.Vocabulary.{Some, ap, arith, blank, cases_lt, filled, inl, inr, length, slice_index_or, sym, ◌+◌, ◌∙◌, ◌≡◌}
use Rattle.cell_arena.specs.Columns.{with_cell}
use Rattle.cell_arena.proofs.CellsIn.{filled-full, filled-more, get_or-filled, length-cells_in, length-filled}
use Rattle.cell_arena.proofs.columns.Columns.make.Goals as goal

pub loop-init : goal.loop-init
loop-init g c =
    let same : c.len-counter.result ≡ length c.args.self.now.cells = rw (← c.self.view_is) (omega (arith, c.len-counter.ensures, c.self.inside.seq.ok.0, length-cells_in (record { inv = c.self.inside.inv.items; seq = c.self.inside.seq.items; before = c.self.inside.before.items; after = c.self.inside.after.items; new = c.self.inside.state.items }))) in
    record { filled_so_far = filled-full c.args.self.now c.len-counter.result (omega (arith, same)); full = λ past. same }

pub push_blank-requires : goal.push_blank-requires
push_blank-requires g c =
    let same : c.len-counter.result ≡ length c.args.self.now.cells = rw (← c.self.view_is) (omega (arith, c.len-counter.ensures, c.self.inside.seq.ok.0, length-cells_in (record { inv = c.self.inside.inv.items; seq = c.self.inside.seq.items; before = c.self.inside.before.items; after = c.self.inside.after.items; new = c.self.inside.state.items }))) in
    rw c.loop.invariant.filled_so_far (omega (arith, length-filled c.args.self.now c.loop.counter, c.loop-test.true, c.requires, c.loop.auto.counter, same))

pub loop-preserved : goal.loop-preserved
loop-preserved g c =
    let same : c.len-counter.result ≡ length c.args.self.now.cells = rw (← c.self.view_is) (omega (arith, c.len-counter.ensures, c.self.inside.seq.ok.0, length-cells_in (record { inv = c.self.inside.inv.items; seq = c.self.inside.seq.items; before = c.self.inside.before.items; after = c.self.inside.after.items; new = c.self.inside.state.items }))) in
    record {
      filled_so_far = c.push_blank.ensures ∙ ap (λ s. filled s (length s.cells + 1)) c.loop.invariant.filled_so_far ∙ filled-more c.args.self.now c.loop.counter (omega (arith, c.loop.auto.counter, same));
      full = λ past. absurd (omega (arith, c.loop-test.true));
    }

pub set_inv-requires : goal.set_inv-requires
set_inv-requires g c =
    let final : c.loop.self ≡ filled c.args.self.now (c.args.at + 1) = c.loop.invariant.filled_so_far ∙ elim (cases_lt (c.args.at + 1) c.loop.counter) [
      | inl past ↦ let full = c.loop.invariant.full past in sym (filled-full c.args.self.now c.loop.counter (omega arith)) ∙ filled-full c.args.self.now (c.args.at + 1) (omega arith)
      | inr within ↦ ap (λ n. filled c.args.self.now n) (let last : c.loop.counter ≡ c.args.at + 1 = omega (arith, c.loop-test.false) in last)
    ] in
    rw final (omega (arith, length-filled c.args.self.now (c.args.at + 1)))

pub returns : goal.returns
returns g c =
    let final : c.loop.self ≡ filled c.args.self.now (c.args.at + 1) = c.loop.invariant.filled_so_far ∙ elim (cases_lt (c.args.at + 1) c.loop.counter) [
      | inl past ↦ let full = c.loop.invariant.full past in sym (filled-full c.args.self.now c.loop.counter (omega arith)) ∙ filled-full c.args.self.now (c.args.at + 1) (omega arith)
      | inr within ↦ ap (λ n. filled c.args.self.now n) (let last : c.loop.counter ≡ c.args.at + 1 = omega (arith, c.loop-test.false) in last)
    ] in
    c.set_inv.ensures ∙ ap (λ s. with_cell s c.args.at (record (slice_index_or s.cells c.args.at blank) { inv = Some c.args.inv })) final
    ∙ ap (λ x. with_cell (filled c.args.self.now (c.args.at + 1)) c.args.at (record x { inv = Some c.args.inv })) (get_or-filled c.args.self.now (c.args.at + 1) c.args.at)
