use Rattle.unibench_run.proofs.Vocabulary.{ap, map, refl, suc, sym, ◌∙◌}
use Rattle.unibench_run.proofs.small.run_small.Goals as goal

pub make_all_calls-requires-clause-fit : goal.make_all_calls-requires-clause-fit
make_all_calls-requires-clause-fit g c κs within = (
  c.requires.plan.3,
  ap (λ s. s.invocation) c.in-Ok.ensures.shape ∙ ap (λ o. (g.O.SmallObject.meaning o).invocation) c.new.ensures ∙ c.requires.words.0,
  ap (λ s. s.reply) c.in-Ok.ensures.shape ∙ ap (λ o. suc (g.O.SmallObject.meaning o).reply) c.new.ensures ∙ ap suc c.requires.words.1,
)

pub make_all_calls-requires-clause-fresh : goal.make_all_calls-requires-clause-fresh
make_all_calls-requires-clause-fresh g c κs within = λ p seat at.
    let fresh = c.in-Ok.ensures.seats.each p seat at in
    record { is_seat = fresh.own; process = fresh.process; own = ap (map _) (sym fresh.calls); made = fresh.made }

pub returns-clause-run : goal.returns-clause-run
returns-clause-run g c = (refl, (_, c.in_ok-close_small.ensures.told))
