use Rattle.unicheck_run.proofs.Saying.{first_bad}
use Rattle.unicheck_run.proofs.judging.judge.Goals as goal

pub good_prefix-requires : goal.good_prefix-requires
good_prefix-requires g c = rw c.in-NotLinearizable.is at c.in_ok-verdict.ensures

pub returns-in_ok-first-in-NotLinearizable : goal.returns-in_ok-first-in-NotLinearizable
returns-in_ok-first-in-NotLinearizable g c = (
  rw c.in-NotLinearizable.is at c.in_ok-verdict.ensures,
  first_bad (g.O.SeqObject.sequential c.args.object.now) c.args.history.now c.in_ok-first-in-NotLinearizable.first c.in_ok-first-in-NotLinearizable.ensures.within c.in_ok-first-in-NotLinearizable.ensures.good c.in_ok-first-in-NotLinearizable.ensures.bad,
)
