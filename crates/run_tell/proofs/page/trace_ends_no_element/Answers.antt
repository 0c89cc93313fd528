use Rattle.run_tell.proofs.Escapes.{escaped_plain}
use Rattle.run_tell.proofs.page.trace_ends_no_element.Goals as goal

pub returns : goal.returns
returns c = escaped_plain
