use Rattle.std.proofs.Common.{refl, arith}
use Rattle.uni_core.proofs.Reading.{first_now, named-counted}
use Rattle.uni_core.proofs.world.World.cell_of.Goals as goal

pub returns-clause-name : goal.returns-clause-name
returns-clause-name g c = named-counted _ _ c.self.view_is _ c.args.call.process _ c.args.call.nth _ _ c.first-first.ensures c.if-call-first.false c.of.ensures c.processes-2.ensures c.from-p.ensures (omega arith)

pub returns-clause-index : goal.returns-clause-index
returns-clause-index g c =
    rw (c.of.ensures, c.processes-2.ensures, c.from-p.ensures, first_now _ _ c.self.view_is c.args.call.process _ _ c.first-first.ensures c.from-p.ensures) refl
