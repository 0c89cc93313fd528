use Rattle.uni_core.proofs.Vocabulary.{IsRenewed, SharedEntries, cell_of, memory_of, processes_of, slice_index_or, subst, sym, ◌∙◌}
use Rattle.uni_core.proofs.SharedPlaces.{memory_at-renewed}
use Rattle.uni_core.proofs.shared.SharedEntries.renew.Goals as goal

pub returns-clause-memory : goal.returns-clause-memory
returns-clause-memory g c = subst (λ (v : SharedEntries g.row.S.Denot g.row.I.Denot g.row.R.Denot). IsRenewed (cell_of v.cells c.args.last)
    (memory_of (record { cells = c.clear_to.new.self; announce = c.fill.new.self.items; heads = c.fill-2.new.self.items; first = c.take_begun.new.first.items }))) c.self.view_is
    (rw (c.fill.ensures.items (λ y h. sym h.3 ∙ (h.4 ∙ h.2)), c.fill-2.ensures.items (λ y h. sym h.3 ∙ (h.4 ∙ h.2)), c.new-entry.ensures, c.anchor.ensures)
    (memory_at-renewed (processes_of c.clear_to.new.self) (λ p. slice_index_or c.take_begun.new.first.items p 0) (cell_of c.clear_to.new.self) _ _
    (cell_of c.self.inside.cells c.args.last) c.clear_to.ensures.cell))
