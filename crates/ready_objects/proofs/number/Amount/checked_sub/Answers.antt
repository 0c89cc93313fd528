use Rattle.std.proofs.Common.{rules}
use Rattle.ready_objects.proofs.number.Amount.checked_sub.Goals as goal

pub returns-in_err-checked_sub : goal.returns-in_err-checked_sub
returns-in_err-checked_sub g = search rules

pub returns : goal.returns
returns g = search rules
