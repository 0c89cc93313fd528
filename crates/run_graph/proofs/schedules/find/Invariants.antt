use Rattle.run_graph.proofs.schedules.find.Given as goal

abbrev pub invariant-loop : goal.invariant-loop
invariant-loop g l = Unit {0}
