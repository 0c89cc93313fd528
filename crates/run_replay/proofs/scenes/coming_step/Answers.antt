use Rattle.run_replay.proofs.Vocabulary.{arith, rules, sym, world_of, ◌∙◌}
use Rattle.run_replay.proofs.Telling.{coming_is}
use Rattle.run_replay.proofs.scenes.coming_step.Goals.{in-Some, in-None}
use Rattle.run_replay.proofs.scenes.coming_step.Goals as goal

pub returns-clause-coming : goal.returns-clause-coming
returns-clause-coming g c =
    coming_is (world_of c.args.world.now) c.args.process _ (omega arith) (sym c.in_ok-call.was ∙ c.current.ensures) (sym c.in_ok-kind.was ∙ c.next_kind.ensures) c.in_ok-place.ensures.place
    (elim c.match-next_proposal.branch [ in-Some w ↦ search rules | in-None w ↦ search rules ])
