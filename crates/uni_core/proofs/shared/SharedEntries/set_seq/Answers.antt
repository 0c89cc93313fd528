use Rattle.uni_core.proofs.SharedPlaces.{seq_written}
use Rattle.uni_core.proofs.shared.SharedEntries.set_seq.Goals as goal

pub returns-clause-memory : goal.returns-clause-memory
returns-clause-memory g c = seq_written (record { cells = c.self.inside.cells; announce = c.self.inside.announce.items; heads = c.self.inside.heads.items; first = c.self.inside.first.items }) _ c.self.view_is c.set_seq.new.self c.shape.ensures.processes.0 c.set_seq.ensures.shape.0 c.args.id c.requires c.args.seq c.set_seq.ensures.cell
