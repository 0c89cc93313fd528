use Rattle.uni_core.proofs.SharedPlaces.{after_answered, after_written}
use Rattle.uni_core.proofs.shared.SharedEntries.decide_after.Goals as goal

pub returns-clause-answer : goal.returns-clause-answer
returns-clause-answer g c = after_answered (record { cells = c.self.inside.cells; announce = c.self.inside.announce.items; heads = c.self.inside.heads.items; first = c.self.inside.first.items }) _ c.self.view_is c.decide_after.new.self c.shape.ensures.processes.0 c.decide_after.ensures.shape.0 c.args.id c.requires c.args.next c.decide_after.result c.decide_after.ensures.answer

pub returns-clause-memory : goal.returns-clause-memory
returns-clause-memory g c = after_written (record { cells = c.self.inside.cells; announce = c.self.inside.announce.items; heads = c.self.inside.heads.items; first = c.self.inside.first.items }) _ c.self.view_is c.decide_after.new.self c.shape.ensures.processes.0 c.decide_after.ensures.shape.0 c.args.id c.requires c.args.next c.decide_after.result c.decide_after.ensures.answer c.decide_after.ensures.cell
