use Rattle.uni_core.proofs.Vocabulary.{arith, cell_of, length-replicate, processes_of, rules, slice_index_or, sym, ◌∙◌}
use Rattle.uni_core.proofs.SharedPlaces.{memory_at-opened_world}
use Rattle.uni_core.proofs.shared.SharedEntries.opened.Goals as goal

pub returns-clause-memory : goal.returns-clause-memory
returns-clause-memory g c =
    rw (c.in_ok-vec.ensures.items_if_clones_equal (λ y h. sym h.3 ∙ (h.4 ∙ h.2)), c.in_ok-vec-2.ensures.items_if_clones_equal (λ y h. sym h.3 ∙ (h.4 ∙ h.2)), c.new-entry.ensures, c.anchor.ensures)
    (memory_at-opened_world (processes_of c.in_ok-cells.cells) (λ p. slice_index_or c.in_ok-vec-3.field-0.items p 0) (cell_of c.in_ok-cells.cells) c.args.state c.args.seq c.in_ok-cells.ensures.cell c.args.n c.args.n)

pub returns-clause-first : goal.returns-clause-first
returns-clause-first g c = c.in_ok-vec-3.ensures.items_if_clones_equal (λ y h. search rules)

pub invariant_of-result : goal.invariant_of-result
invariant_of-result g c =
    let processes = sym c.in_ok-cells.ensures.shape.0 in (
      rw (c.in_ok-vec.ensures.items_if_clones_equal (λ y h. sym h.3 ∙ (h.4 ∙ h.2))) (length-replicate c.args.n _ ∙ processes),
      rw (c.in_ok-vec-2.ensures.items_if_clones_equal (λ y h. sym h.3 ∙ (h.4 ∙ h.2))) (length-replicate c.args.n _ ∙ processes),
      rw (c.in_ok-vec-3.ensures.items_if_clones_equal (λ y h. search rules), length-replicate, ← processes) (omega arith),
    )
