use Rattle.uni_small.proofs.Vocabulary.{length, local_of, refl, ◌+◌}
use Rattle.uni_small.proofs.Exchange.{brings_in_own}
use Rattle.uni_small.proofs.laws.direct_exchange_linearizes.Goals as goal

pub returns : goal.returns
returns g c o sizes id s to image seen its st me few single direct whole room stage written word said =
    brings_in_own g.O.SmallObject.meaning o sizes id few st me single (g.met.O.SmallObject.steady o) direct s (length (local_of me).own + 1) its.invocation.items whole refl room (image, (seen, to, stage, written)) word its said refl
