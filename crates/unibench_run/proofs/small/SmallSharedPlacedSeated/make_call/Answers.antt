use Rattle.unibench_run.proofs.Vocabulary.{[], ap, length-append, sym, ◌+◌, ◌∙◌, ◌∷◌}
use Rattle.unibench_run.proofs.ToldSmall.{told_more}
use Rattle.unibench_run.proofs.small.SmallSharedPlacedSeated.make_call.Goals as goal

pub returns-clause-made : goal.returns-clause-made
returns-clause-made g c = λ p told made.
    let its = c.make_call.ensures in record {
      is_seat = its.kept.0;
      process = its.kept.1 ∙ made.process;
      own = told_more g.O.Call.Words.encode g.O.Reply.Words.decode told _ _ _ its.told.0 made.own its.told.1 its.told.2;
      made = its.made ∙ ap (λ n. n + 1) made.made ∙ sym (length-append told ((c.drawn_call-call.result, c.make_call.result) ∷ []));
    }
