use Rattle.program_object.proofs.Ending.{call_ends}
use Rattle.program_object.proofs.step.every_call_ends.Goals as goal

pub returns : goal.returns
returns c = call_ends
