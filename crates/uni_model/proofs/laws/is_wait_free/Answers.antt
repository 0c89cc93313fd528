use Rattle.uni_model.proofs.WaitFree.{NeverBlocks-holds, CallIsWaitFree-holds, CallEndsAlone-holds}
use Rattle.uni_model.proofs.laws.is_wait_free.Goals as goal

pub returns-clause-steps : goal.returns-clause-steps
returns-clause-steps g c w p call is = NeverBlocks-holds w p call is

pub returns-clause-returns : goal.returns-clause-returns
returns-clause-returns g c object w p i later = CallIsWaitFree-holds (g.O.SeqObject.sequential object) w p i later

pub returns-clause-alone : goal.returns-clause-alone
returns-clause-alone g c object w p reached call is = CallEndsAlone-holds (g.O.SeqObject.sequential object) w p reached call is
