use Rattle.std.proofs.Common.{arith}
use Rattle.small_objects.proofs.Pairs.{added, refused, replaced}
use Rattle.small_objects.proofs.map.SmallMap.insert.Goals as goal

pub returns-in-Some : goal.returns-in-Some
returns-in-Some c =
    let r = replaced c.requires c.in-Some.ensures.first c.args.value in
    record { state = r.0; reply = r.1 }

pub returns-then-count-self : goal.returns-then-count-self
returns-then-count-self c =
    let r = refused c.requires c.in_default.ensures.absent c.args.value c.if-count-self.true in
    record { state = r.0; reply = r.1 }

pub returns : goal.returns
returns c =
    let t = c.if-count-self.false in
    let r = added c.requires c.in_default.ensures.absent c.args.value (omega arith) in
    record { state = r.0; reply = r.1 }
