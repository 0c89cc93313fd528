use Rattle.std.proofs.Common.{arith, ◌^◌, lit<}
use Rattle.std.proofs.lemmas.Grind.{common_steps}
use Rattle.word_objects.proofs.Entries.{entry_below}
use Rattle.word_objects.proofs.machine.WordMachineWordObject.answer.Goals as goal

pub returns-clause-fits : goal.returns-clause-fits
returns-clause-fits c =
    let below = entry_below (2 ^ 31) c.self.inside.reply.items c.index_of-index.result (lit< tt) c.self.invariant.reply in
    grind (arith, common_steps, below)
