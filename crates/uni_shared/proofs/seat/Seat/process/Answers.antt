use Rattle.std.proofs.Common.{rules, ap}
use Rattle.uni_shared.proofs.seat.Seat.process.Goals as goal

pub returns-clause-value : goal.returns-clause-value
returns-clause-value g c = ap (λ v. v.process) c.self.view_is

pub returns-clause-few : goal.returns-clause-few
returns-clause-few g c = search rules
