use Rattle.small_objects.proofs.Vocabulary.{ap, get_or_past, one_word, slice_index, sym, ◌∙◌}
use Rattle.small_objects.specs.declared.counters.CountersCall.{CountersCall}
use Rattle.small_objects.proofs.Short.{one_set}
use Rattle.small_objects.proofs.counters.SmallCountersSmallObject.apply.Goals as goal

pub returns-then-i-state-clause-reply : goal.returns-then-i-state-clause-reply
returns-then-i-state-clause-reply c =
    one_set c.args.reply.now 0 c.requires.reply
    ∙ ap one_word (sym (ap (λ (call : CountersCall). slice_index c.args.state.now call.counter) (sym c.load-counter.ensures) ∙ get_or_past c.args.state.now c.load-counter.result.counter 0 c.if-i-state.true))
