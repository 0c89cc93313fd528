use Rattle.uni_model.proofs.Growing.{log-world_after, log-prefixes}
use Rattle.uni_model.proofs.laws.log_only_grows.Goals as goal

pub returns-clause-event : goal.returns-clause-event
returns-clause-event g c object w e ok inv stays = log-world_after (g.O.SeqObject.sequential object) w e inv ok stays

pub returns-clause-events : goal.returns-clause-events
returns-clause-events g c object w es ok inv stay = log-prefixes (g.O.SeqObject.sequential object) w es inv ok stay
