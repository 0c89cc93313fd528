use Rattle.uni_core.proofs.SharedPlaces.{new_written}
use Rattle.uni_core.proofs.shared.SharedEntries.decide_new.Goals as goal

pub returns-clause-memory : goal.returns-clause-memory
returns-clause-memory g c =
    let ends = c.decide_new.follows.holds-at-none in
    new_written (record { cells = c.self.inside.cells; announce = c.self.inside.announce.items; heads = c.self.inside.heads.items; first = c.self.inside.first.items }) _ c.self.view_is
    c.decide_new.follows.lender-at-none c.shape.ensures.processes.0 ends.2 c.args.id c.requires c.args.new ends.0
