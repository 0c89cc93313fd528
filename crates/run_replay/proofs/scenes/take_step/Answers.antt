use Rattle.run_replay.proofs.Vocabulary.{subst, sym, world_of, ◌<◌, ◌∙◌}
use Rattle.run_replay.proofs.Telling.{AreNoOthers, AreThere, there_still}
use Rattle.run_replay.proofs.Replayed.{kept_by_step}
use Rattle.run_replay.proofs.scenes.take_step.Goals as goal

pub returns-clause-cells : goal.returns-clause-cells
returns-clause-cells g c =
    let object = g.O.SeqObject.sequential c.args.replay.now.object in
    let kept = kept_by_step object (world_of c.args.replay.now) (world_of c.step.new.self) c.args.process c.in-Ok.ensures.step in
    there_still c.args.replay.now.shared.cells c.step.new.self.shared.cells kept.0
    (λ q below. c.shape.ensures.made q below ∙ (kept.1 q ∙ sym (c.shape-3.ensures.made q (subst (λ k. q < k) kept.0 below))))
    c.shape-3.ensures.anchor (subst AreNoOthers c.cells.ensures c.shape-2.ensures.no_others) (subst AreThere c.cells-2.ensures c.shape-4.ensures.cells)
