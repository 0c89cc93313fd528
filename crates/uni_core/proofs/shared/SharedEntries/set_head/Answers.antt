use Rattle.uni_core.proofs.SharedPlaces.{head_written}
use Rattle.uni_core.proofs.shared.SharedEntries.set_head.Goals as goal

pub returns-clause-memory : goal.returns-clause-memory
returns-clause-memory g c = rw c.write.ensures (head_written (record { cells = c.self.inside.cells; announce = c.self.inside.announce.items; heads = c.self.inside.heads.items; first = c.self.inside.first.items }) _ c.self.view_is c.args.p c.args.id c.requires c.self.invariant.1)
