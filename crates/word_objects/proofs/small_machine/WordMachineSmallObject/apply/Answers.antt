use Rattle.std.proofs.Common.{◌≡◌, ◌∙◌, ap, arith, subst}
use Rattle.small_objects.specs.Encoding.{one_word}
use Rattle.small_objects.proofs.Short.{one_set}
use Rattle.word_objects.specs.Tables.{AreSound, Tables}
use Rattle.word_objects.proofs.Entries.{state_below}
use Rattle.word_objects.proofs.small_machine.WordMachineSmallObject.apply.Goals as goal

pub prove-unreachable-requires : goal.prove-unreachable-requires
prove-unreachable-requires c =
    let below = state_below c.args.self.now (subst AreSound c.self.view_is c.self.invariant) c.args.state.now c.requires.reached in
    let same : c.self.inside.states ≡ c.args.self.now.states = ap (λ (t : Tables). t.states) c.self.view_is in
    omega (arith, below, same, c.if-prove.true)

pub returns-clause-reply : goal.returns-clause-reply
returns-clause-reply c = one_set c.args.reply.now c.answer.result c.requires.reply ∙ ap one_word c.answer.ensures.value
