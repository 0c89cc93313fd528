use Rattle.std.proofs.Common.{rules}
use Rattle.ready_objects.specs.Number.{number_below}
use Rattle.stack.proofs.value_of.Goals as goal

pub returns : goal.returns
unfolding number_below
returns c = search rules

pub returns-in_err-read : goal.returns-in_err-read
unfolding number_below
returns-in_err-read c = search rules
