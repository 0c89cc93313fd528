use Rattle.run_play.proofs.Vocabulary.{AreAtHand, None, edge_text, length, plan_of, slice_index_or, text_at, ℕ, ◌<◌, ◌≡◌}
use Rattle.run_play.proofs.edges.edge_texts.Given as goal

-- the texts so far
abbrev pub invariant-loop-target : goal.invariant-loop-target
invariant-loop-target g l =
    let plan = plan_of (g.O.SeqObject.sequential l.plan.object) l.plan.processes l.plan.row l.plan.calls.items in
    record {
      count : length l.texts.items ≡ l.target-index;
      at_hand : AreAtHand l.plan.object plan l.graph.paths.items l.worlds.items;
      each : (k : ℕ) → k < l.target-index
          → text_at l.texts.items k ≡ edge_text plan g.O.Spoken.language g.O.Spoken.state_text l.graph.paths.items k (slice_index_or l.graph.targets.items k None);
    }
