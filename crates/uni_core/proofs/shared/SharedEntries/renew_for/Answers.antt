use Rattle.uni_core.proofs.Vocabulary.{IsRenewed, SharedEntries, cell_of, length-replicate, memory_of, processes_of, rules, slice_index_or, subst, sym, ◌∙◌}
use Rattle.uni_core.proofs.SharedPlaces.{memory_at-renewed}
use Rattle.uni_core.proofs.shared.SharedEntries.renew_for.Goals as goal

pub returns-clause-memory : goal.returns-clause-memory
returns-clause-memory g c = subst (λ (v : SharedEntries g.row.S.Denot g.row.I.Denot g.row.R.Denot). IsRenewed (cell_of v.cells c.args.last)
    (memory_of (record { cells = c.clear_for.new.self; announce = c.in_ok-announce.announce.items; heads = c.in_ok-heads.heads.items; first = c.take_begun.new.first.items }))) c.self.view_is
    (rw (c.in_ok-announce.ensures.items_if_clones_equal (λ y h. sym h.3 ∙ (h.4 ∙ h.2)), c.in_ok-heads.ensures.items_if_clones_equal (λ y h. sym h.3 ∙ (h.4 ∙ h.2)), c.new-entry.ensures, c.anchor.ensures)
    (memory_at-renewed (processes_of c.clear_for.new.self) (λ p. slice_index_or c.take_begun.new.first.items p 0) (cell_of c.clear_for.new.self) c.args.m c.args.m
    (cell_of c.self.inside.cells c.args.last) c.in_ok-clear_for.ensures.cell))

pub invariant_of-self-2 : goal.invariant_of-self-2
invariant_of-self-2 g c =
    let processes = sym c.in_ok-clear_for.ensures.shape.0 in (
      rw (c.in_ok-announce.ensures.items_if_clones_equal (λ y h. sym h.3 ∙ (h.4 ∙ h.2))) (length-replicate c.args.m _ ∙ processes),
      rw (c.in_ok-heads.ensures.items_if_clones_equal (λ y h. sym h.3 ∙ (h.4 ∙ h.2))) (length-replicate c.args.m _ ∙ processes),
      rw (c.take_begun.ensures.long, c.in_ok-first.ensures.items_if_clones_equal (λ y h. search rules), length-replicate, ← processes) c.requires.locals,
    )
