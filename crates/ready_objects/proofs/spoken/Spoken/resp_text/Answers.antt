use Rattle.std.proofs.Common.{rules}
use Rattle.ready_objects.proofs.spoken.Spoken.resp_text.Goals as goal

pub returns : goal.returns
returns g c = search rules
