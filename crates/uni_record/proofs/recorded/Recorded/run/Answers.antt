use Rattle.std.proofs.Common.{◌≡◌, ◌+◌, length, length-append, arith}
use Rattle.uni_record.proofs.Commanded.{Leads-next, AreOutcomes-all}
use Rattle.uni_record.proofs.Untrimmed.{AreAnswersUntrimmed-record}
use Rattle.uni_record.proofs.recorded.Recorded.run.Goals as goal

pub loop-command-preserved : goal.loop-command-preserved
loop-command-preserved g c =
    let longer : length c.push_reserved.new.self.items ≡ length c.loop-command.outcomes.items + 1 = rw c.push_reserved.ensures.items (length-append _ _) in
    let counted = c.loop-command.invariant.counted in
    record {
      counted = omega (arith, longer, counted);
      has_room = rw c.push_reserved.ensures.capacity c.loop-command.invariant.has_room;
      leads = rw c.push_reserved.ensures.items
          (Leads-next g.O.SeqObject.sequential c.args.self.now c.loop-command.self c.take-outcome.new.self c.args.commands.now c.loop-command.command-index c.loop-command.outcomes.items c.command-item.result c.take-outcome.result
          c.loop-command-test.true c.command-item.is c.loop-command.invariant.leads c.take-outcome.ensures.takes);
    }

pub returns-clause-outcomes : goal.returns-clause-outcomes
returns-clause-outcomes g c = (AreOutcomes-all g.O.SeqObject.sequential c.args.self.now c.loop-command.self c.args.commands.now c.loop-command.command-index c.loop-command.outcomes.items
    c.loop-command.auto.command-index-end c.loop-command-test.false c.loop-command.invariant.leads).0

pub returns-clause-events : goal.returns-clause-events
returns-clause-events g c = (AreOutcomes-all g.O.SeqObject.sequential c.args.self.now c.loop-command.self c.args.commands.now c.loop-command.command-index c.loop-command.outcomes.items
    c.loop-command.auto.command-index-end c.loop-command-test.false c.loop-command.invariant.leads).1

pub returns-clause-untrimmed : goal.returns-clause-untrimmed
returns-clause-untrimmed g c = AreAnswersUntrimmed-record g.O.SeqObject.sequential c.args.self.now c.promise.ensures.recording (c.trims_change_nothing.ensures _) c.args.commands.now c.loop-command.outcomes.items
    (AreOutcomes-all g.O.SeqObject.sequential c.args.self.now c.loop-command.self c.args.commands.now c.loop-command.command-index c.loop-command.outcomes.items
    c.loop-command.auto.command-index-end c.loop-command-test.false c.loop-command.invariant.leads).0
