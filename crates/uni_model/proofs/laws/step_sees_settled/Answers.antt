use Rattle.uni_model.proofs.Seen.{PlacesBesideAreSettled-held, SeesOnly-holds}
use Rattle.uni_model.proofs.laws.step_sees_settled.Goals as goal

pub returns-clause-settled : goal.returns-clause-settled
returns-clause-settled g c object w p inv = PlacesBesideAreSettled-held (g.O.SeqObject.sequential object) w inv p

pub returns-clause-only : goal.returns-clause-only
returns-clause-only g c object m later mine stage = SeesOnly-holds (g.O.SeqObject.sequential object) m later mine stage
