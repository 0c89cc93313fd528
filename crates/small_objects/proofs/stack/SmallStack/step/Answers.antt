use Rattle.std.proofs.Common.{arith}
use Rattle.small_objects.proofs.Rows.{put_on, put_on_full, taken_off, taken_off_none}
use Rattle.small_objects.proofs.stack.SmallStack.step.Goals as goal

pub returns-then-count-eq0 : goal.returns-then-count-eq0
returns-then-count-eq0 c =
    let r = taken_off_none c.requires c.args.inv c.if-inv-eq0.true c.if-count-eq0.true in
    record { state = r.0; reply = r.1 }

pub returns-then-inv-eq0 : goal.returns-then-inv-eq0
returns-then-inv-eq0 c =
    let r = taken_off c.requires c.args.inv c.if-inv-eq0.true c.if-count-eq0.false in
    record { state = r.0; reply = r.1 }

pub returns-then-count-self : goal.returns-then-count-self
returns-then-count-self c =
    let r = put_on_full c.requires c.args.inv c.if-inv-eq0.false c.if-count-self.true in
    record { state = r.0; reply = r.1 }

pub returns : goal.returns
returns c =
    let t = c.if-count-self.false in
    let r = put_on c.requires c.args.inv c.if-inv-eq0.false (omega arith) in
    record { state = r.0; reply = r.1 }
