use Rattle.uni_core.proofs.Vocabulary.{arith, ext_get_or}
use Rattle.uni_core.proofs.shared.same_names.Goals as goal

pub returns : goal.returns
returns c = λ same. ext_get_or 0 _ _ c.loop-i.invariant.0 (λ k below. c.loop-i.invariant.1 k (omega arith))
