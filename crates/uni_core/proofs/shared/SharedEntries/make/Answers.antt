use Rattle.uni_core.proofs.Vocabulary.{processes_of, subst, sym, ◌<◌}
use Rattle.uni_core.proofs.SharedPlaces.{made_written}
use Rattle.uni_core.proofs.shared.SharedEntries.make.Goals as goal

pub returns-clause-memory : goal.returns-clause-memory
returns-clause-memory g c = made_written (record { cells = c.self.inside.cells; announce = c.self.inside.announce.items; heads = c.self.inside.heads.items; first = c.self.inside.first.items }) _ c.self.view_is
    c.make.new.self c.shape.ensures.processes.0 c.in-Ok.ensures.shape.0 c.args.p c.requires.process (c.shape.ensures.cells c.args.p _ (subst (λ v. c.args.p < processes_of v.cells) (sym c.self.view_is) c.requires.process)).0 c.args.inv c.in-Ok.id c.in-Ok.ensures.id c.in-Ok.ensures.cell
