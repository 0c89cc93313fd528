use Rattle.std.proofs.Common.{arith}
use Rattle.std.proofs.lemmas.Grind.{common_steps}
use Rattle.word_objects.proofs.Entries.{entry_below}
use Rattle.word_objects.proofs.machine.WordMachineWordObject.next.Goals as goal

pub returns-clause-fits : goal.returns-clause-fits
returns-clause-fits c =
    let below = entry_below c.self.inside.states c.self.inside.next.items c.index_of-index.result c.self.invariant.some c.self.invariant.next in
    let few = c.self.invariant.few in
    grind (arith, common_steps, below, few)
