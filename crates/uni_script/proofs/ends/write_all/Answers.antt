use Rattle.std.proofs.Common.{◌∙◌, arith}
use Rattle.std.proofs.lemmas.Grind.{common_steps}
use Rattle.uni_script.proofs.Written.{IsWritten-write}
use Rattle.uni_script.proofs.ends.write_all.Goals as goal

pub loop-rest-preserved : goal.loop-rest-preserved
loop-rest-preserved g c =
    (c.in_ok-taken.ensures.ok ∙ c.loop-rest.invariant.0, IsWritten-write _ _ _ _ c.loop-rest.rest.now _ c.in_ok-taken.taken c.loop-rest.invariant.1 c.in_ok-taken.ensures.bytes (grind (arith, common_steps)))
