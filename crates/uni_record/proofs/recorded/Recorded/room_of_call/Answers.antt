use Rattle.uni_record.proofs.Vocabulary.{CanBegin, IsBeginRefused, arith, set_aside, share, standing_of, subst, world_of, ◌*◌, ◌+◌, ◌≤◌}
use Rattle.uni_record.specs.declared.fault.RecordBeginFault.TheVariants.{HistoryFull}
use Rattle.uni_record.proofs.Begun.{can_call_now}
use Rattle.uni_record.proofs.Owed.{set_aside-le}
use Rattle.uni_record.proofs.recorded.Recorded.room_of_call.Goals as goal

pub returns-then-self-stored-clause-refused : goal.returns-then-self-stored-clause-refused
returns-then-self-stored-clause-refused g c =
    let can = can_call_now (world_of c.self.inside.world) c.self.inside.world.row c.args.p c.current.result c.calls_in_era.result c.row.result (rw c.processes-n.ensures at c.if-p-n.false)
    c.current.ensures c.if-is_some.ensures c.calls_in_era.ensures c.row.ensures (c.shape.ensures.room c.args.p) c.if-calls_in_era-row.false in
    let sum = c.set_aside.ensures.sum in
    let n = c.processes-n.ensures in
    let len = c.len-stored.ensures in
    let past = c.if-self-stored.true in
    subst (λ r. IsBeginRefused (standing_of r) c.args.p HistoryFull) c.self.view_is (can, omega (arith, sum, n, len, past))

pub returns-then-stored-most-2-clause-allowed : goal.returns-then-stored-most-2-clause-allowed
returns-then-stored-most-2-clause-allowed g c =
    let can = can_call_now (world_of c.self.inside.world) c.self.inside.world.row c.args.p c.current.result c.calls_in_era.result c.row.result (rw c.processes-n.ensures at c.if-p-n.false)
    c.current.ensures c.if-is_some.ensures c.calls_in_era.ensures c.row.ensures (c.shape.ensures.room c.args.p) c.if-calls_in_era-row.false in
    let few = set_aside-le (world_of c.self.inside.world) in
    let len = c.len-stored.ensures in
    let fits = rw c.processes-n.ensures at c.if-stored-most.true in
    subst (λ r. CanBegin (standing_of r) c.args.p) c.self.view_is (can, omega (arith, few, len, fits))

pub returns-then-stored-most-2-clause-room : goal.returns-then-stored-most-2-clause-room
returns-then-stored-most-2-clause-room g c =
    let few = set_aside-le (world_of c.self.inside.world) in
    subst (λ r. set_aside (world_of r.world) + share (world_of r.world).n ≤ c.processes-n.result * (10 * c.processes-n.result + 12) + 10 * c.processes-n.result + 13) c.self.view_is
    (rw c.processes-n.ensures (omega (arith, few)))

pub returns-clause-allowed : goal.returns-clause-allowed
returns-clause-allowed g c =
    let can = can_call_now (world_of c.self.inside.world) c.self.inside.world.row c.args.p c.current.result c.calls_in_era.result c.row.result (rw c.processes-n.ensures at c.if-p-n.false)
    c.current.ensures c.if-is_some.ensures c.calls_in_era.ensures c.row.ensures (c.shape.ensures.room c.args.p) c.if-calls_in_era-row.false in
    let sum = c.set_aside.ensures.sum in
    let n = c.processes-n.ensures in
    let len = c.len-stored.ensures in
    let fits = c.if-self-stored.false in
    subst (λ r. CanBegin (standing_of r) c.args.p) c.self.view_is (can, omega (arith, sum, n, len, fits))

pub returns-clause-room : goal.returns-clause-room
returns-clause-room g c = subst (λ r. set_aside (world_of r.world) + share (world_of r.world).n ≤ c.set_aside.result + 10 * c.processes-n.result + 13) c.self.view_is
    (let sum = c.set_aside.ensures.sum in let n = c.processes-n.ensures in omega (arith, sum, n))
