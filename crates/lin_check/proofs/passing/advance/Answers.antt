use Rattle.lin_check.proofs.Vocabulary.{arith, inr, sym, length}
use Rattle.lin_check.proofs.Passed.{round_dies, round_passes, round_ready, round_stops, still_many}
use Rattle.lin_check.proofs.passing.advance.Goals as goal

pub loop-node-preserved : goal.loop-node-preserved
loop-node-preserved g c = record {
  passes = round_passes (g.O.SeqObject.sequential c.args.object.now) c.args.history.now c.args.node.now (length c.args.node.now.slots.items) c.loop-node.node.at c.loop-node.node.slots c.pass.new.slots c.loop-node.node.state c.index-history-node.result
      c.loop-node.invariant.passes c.loop-node-test.true c.index-history-node.is c.requires.within c.loop-node.invariant.many c.pass.ensures.slots (sym c.in-Passed.ensures.passing);
  bound = (let b = c.loop-node-test.true in omega arith);
  many = still_many (g.O.SeqObject.sequential c.args.object.now) c.args.history.now c.args.node.now (length c.args.node.now.slots.items) c.loop-node.node.at c.loop-node.node.slots c.pass.new.slots c.loop-node.node.state c.index-history-node.result
      c.loop-node.invariant.passes c.loop-node-test.true c.index-history-node.is c.requires.within c.loop-node.invariant.many c.pass.ensures.slots;
}

pub returns-in-Stops-clause-passes : goal.returns-in-Stops-clause-passes
returns-in-Stops-clause-passes g c = λ _.
    round_stops (g.O.SeqObject.sequential c.args.object.now) c.args.history.now c.args.node.now (length c.args.node.now.slots.items) c.loop-node.node.at c.loop-node.node.slots c.pass.new.slots c.loop-node.node.state c.index-history-node.result
    c.loop-node.invariant.passes c.loop-node-test.true c.index-history-node.is c.requires.within c.loop-node.invariant.many c.pass.ensures.slots (sym c.in-Stops.ensures.passing)

pub returns-in-Stops-clause-ready : goal.returns-in-Stops-clause-ready
returns-in-Stops-clause-ready g c = λ _. inr
    (round_ready (g.O.SeqObject.sequential c.args.object.now) c.args.history.now c.args.node.now (length c.args.node.now.slots.items) c.loop-node.node.at c.loop-node.node.slots c.pass.new.slots c.loop-node.node.state c.index-history-node.result
    c.loop-node.invariant.passes c.loop-node-test.true c.index-history-node.is c.requires.within c.loop-node.invariant.many c.pass.ensures.slots (sym c.in-Stops.ensures.passing))

pub returns-in-Dead-clause-dead : goal.returns-in-Dead-clause-dead
returns-in-Dead-clause-dead g c = λ _.
    round_dies (g.O.SeqObject.sequential c.args.object.now) c.args.history.now c.args.node.now (length c.args.node.now.slots.items) c.loop-node.node.at c.loop-node.node.slots c.pass.new.slots c.loop-node.node.state c.index-history-node.result
    c.loop-node.invariant.passes c.loop-node-test.true c.index-history-node.is c.requires.within c.loop-node.invariant.many c.pass.ensures.slots (sym c.in-Dead.ensures.passing)
