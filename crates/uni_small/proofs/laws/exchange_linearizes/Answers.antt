use Rattle.uni_small.proofs.Exchange.{brings_in}
use Rattle.uni_small.proofs.laws.exchange_linearizes.Goals as goal

pub returns : goal.returns
returns g c o sizes id tries s to image seen st me few single announced stage written word =
    brings_in g.O.SmallObject.meaning o sizes id few st me single (g.met.O.SmallObject.steady o) announced tries s (image, (seen, to, stage, written)) word
