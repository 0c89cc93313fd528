use Rattle.uni_core.proofs.Vocabulary.{IsBeginRefused, subst, world_of}
use Rattle.uni_core.proofs.Runs.{TakesCommand-refused}
use Rattle.uni_core.proofs.world.World.take_call.Goals as goal

pub returns-in-Ok-clause-takes : goal.returns-in-Ok-clause-takes
returns-in-Ok-clause-takes g c = record {
  is = (c.in-Ok.ensures.allowed, λ i. record { process = c.in-Ok.ensures.id.0 i; nth = c.in-Ok.ensures.id.1 i });
  left = c.in-Ok.ensures.begun;
  accepted = c.in-Ok.ensures.simulated;
}

pub returns-in-Err-BadProcess-clause-takes : goal.returns-in-Err-BadProcess-clause-takes
returns-in-Err-BadProcess-clause-takes g c = TakesCommand-refused _ c.args.self.now c.begin.new.self _ _ _ c.in-Err-BadProcess.ensures.unchanged
    (subst (IsBeginRefused (world_of c.args.self.now) c.args.self.now.row c.args.p) c.in-Err-BadProcess.field-0-is c.in-Err-BadProcess.ensures.refused)

pub returns-in-Err-Busy-clause-takes : goal.returns-in-Err-Busy-clause-takes
returns-in-Err-Busy-clause-takes g c = TakesCommand-refused _ c.args.self.now c.begin.new.self _ _ _ c.in-Err-Busy.ensures.unchanged
    (subst (IsBeginRefused (world_of c.args.self.now) c.args.self.now.row c.args.p) c.in-Err-Busy.field-0-is c.in-Err-Busy.ensures.refused)

pub returns-in-Err-RowFull-clause-takes : goal.returns-in-Err-RowFull-clause-takes
returns-in-Err-RowFull-clause-takes g c = TakesCommand-refused _ c.args.self.now c.begin.new.self _ _ _ c.in-Err-RowFull.ensures.unchanged
    (subst (IsBeginRefused (world_of c.args.self.now) c.args.self.now.row c.args.p) c.in-Err-RowFull.field-0-is c.in-Err-RowFull.ensures.refused)

pub returns-in-Err-Memory-clause-takes : goal.returns-in-Err-Memory-clause-takes
returns-in-Err-Memory-clause-takes g c = TakesCommand-refused _ c.args.self.now c.begin.new.self _ _ _ c.in-Err-Memory.ensures.unchanged
    (subst (IsBeginRefused (world_of c.args.self.now) c.args.self.now.row c.args.p) c.in-Err-Memory.field-0-is c.in-Err-Memory.ensures.refused)
