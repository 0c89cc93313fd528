use Rattle.uni_script.proofs.Vocabulary.{ap, events_shown}
use Rattle.uni_script.proofs.Stepping.{session_is}
use Rattle.uni_script.proofs.commands.open.Goals as goal

pub returns-in-Ok-clause-session : goal.returns-in-Ok-clause-session
returns-in-Ok-clause-session g c = session_is _ _ c.in-Ok.ensures.opened.processes c.in-Ok.ensures.opened.first c.in-Ok.ensures.opened.row c.in-Ok.ensures.opened.limit (ap events_shown c.in-Ok.ensures.opened.events) c.in-Ok.ensures.opened.world
