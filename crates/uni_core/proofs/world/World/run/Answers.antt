use Rattle.uni_core.proofs.Vocabulary.{IsBounded-along, arith, length, length-append, refl, world_of, ◌+◌, ◌∙◌, ◌≡◌}
use Rattle.uni_core.proofs.Runs.{Leads-nothing, Leads-next, Ran-all, EndNoEra-events_of}
use Rattle.uni_model.proofs.Growing.{log-prefixes}
use Rattle.uni_core.proofs.world.World.run.Goals as goal

pub loop-command-init : goal.loop-command-init
loop-command-init g c = record {
  counted = rw c.in_ok-outcomes.ensures.items refl;
  has_room = c.in_ok-outcomes.ensures.capacity;
  fixed = record { object = refl; row = refl };
  leads = rw c.in_ok-outcomes.ensures.items (Leads-nothing _ _ (world_of c.args.self.now));
}

pub loop-command-preserved : goal.loop-command-preserved
loop-command-preserved g c =
    let takes = rw (c.loop-command.invariant.fixed.object, c.loop-command.invariant.fixed.row) at c.take-outcome.ensures.takes in
    let longer : length c.push_reserved.new.self.items ≡ length c.loop-command.outcomes.items + 1 = rw c.push_reserved.ensures.items (length-append _ _) in
    record {
      counted = omega arith;
      has_room = rw c.push_reserved.ensures.capacity c.loop-command.invariant.has_room;
      fixed = record { object = c.take-outcome.ensures.fixed.object ∙ c.loop-command.invariant.fixed.object; row = c.take-outcome.ensures.fixed.row ∙ c.loop-command.invariant.fixed.row };
      leads = rw c.push_reserved.ensures.items
          (Leads-next _ _ (world_of c.args.self.now) (world_of c.loop-command.self) (world_of c.take-outcome.new.self) c.args.commands.now c.loop-command.command-index c.loop-command.outcomes.items c.command-item.result c.take-outcome.result
          c.loop-command-test.true c.command-item.is c.loop-command.invariant.leads takes);
    }

pub returns-clause-outcomes : goal.returns-clause-outcomes
returns-clause-outcomes g c = (Ran-all _ _ (world_of c.args.self.now) (world_of c.loop-command.self) c.args.commands.now c.loop-command.command-index c.loop-command.outcomes.items
    (omega arith) c.loop-command-test.false c.loop-command.invariant.leads).are

pub returns-clause-ran : goal.returns-clause-ran
returns-clause-ran g c = (Ran-all _ _ (world_of c.args.self.now) (world_of c.loop-command.self) c.args.commands.now c.loop-command.command-index c.loop-command.outcomes.items
    (omega arith) c.loop-command-test.false c.loop-command.invariant.leads).ran

pub returns-clause-simulated : goal.returns-clause-simulated
returns-clause-simulated g c = (Ran-all _ _ (world_of c.args.self.now) (world_of c.loop-command.self) c.args.commands.now c.loop-command.command-index c.loop-command.outcomes.items
    (omega arith) c.loop-command-test.false c.loop-command.invariant.leads).accepted

pub returns-clause-accepted : goal.returns-clause-accepted
returns-clause-accepted g c = (Ran-all _ _ (world_of c.args.self.now) (world_of c.loop-command.self) c.args.commands.now c.loop-command.command-index c.loop-command.outcomes.items
    (omega arith) c.loop-command-test.false c.loop-command.invariant.leads).events

pub returns-clause-log : goal.returns-clause-log
returns-clause-log g c =
    let ran = Ran-all _ _ (world_of c.args.self.now) (world_of c.loop-command.self) c.args.commands.now c.loop-command.command-index c.loop-command.outcomes.items
    (omega arith) c.loop-command-test.false c.loop-command.invariant.leads in
    log-prefixes _ (world_of c.args.self.now) _ c.shape.ensures.sound ran.events (EndNoEra-events_of c.args.commands.now c.loop-command.outcomes.items)

pub returns-clause-bounded : goal.returns-clause-bounded
returns-clause-bounded g c =
    let ran = Ran-all _ _ (world_of c.args.self.now) (world_of c.loop-command.self) c.args.commands.now c.loop-command.command-index c.loop-command.outcomes.items
    (omega arith) c.loop-command-test.false c.loop-command.invariant.leads in
    IsBounded-along _ (world_of c.args.self.now) _ ran.events c.shape.ensures.counts c.shape.ensures.helping
