use Rattle.uni_core.proofs.SharedPlaces.{before_written}
use Rattle.uni_core.proofs.shared.SharedEntries.set_before.Goals as goal

pub returns-clause-memory : goal.returns-clause-memory
returns-clause-memory g c = before_written (record { cells = c.self.inside.cells; announce = c.self.inside.announce.items; heads = c.self.inside.heads.items; first = c.self.inside.first.items }) _ c.self.view_is c.set_before.new.self c.shape.ensures.processes.0 c.set_before.ensures.shape.0 c.args.id c.requires c.args.before c.set_before.ensures.cell
