use Rattle.std.proofs.Common.{rules}
use Rattle.uni_shared.proofs.seat.Seat.receipts.Goals as goal

pub returns : goal.returns
returns g c = search rules
