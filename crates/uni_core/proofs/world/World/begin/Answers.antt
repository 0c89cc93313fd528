use Rattle.std.proofs.Common.{refl, sym}
use Rattle.uni_core.proofs.Begin.{inside_count, inside_view, no_call, no_call_now, some_call_now, full_now, less_now, room_left, IsWorld-call, world_of-call, Follows-call, begun_now, idle_now}
use Rattle.uni_core.proofs.world.World.begin.Goals as goal

pub make-mine-requires-clause-room : goal.make-mine-requires-clause-room
make-mine-requires-clause-room g c = room_left _ _ _ c.room.ensures c.if-room-eq0.false

pub invariant_of-self : goal.invariant_of-self
invariant_of-self g c = IsWorld-call _ _ _ c.self.view_is c.self.invariant c.args.p c.index.result.now (inside_count _ _ c.args.p c.processes-n.ensures c.if-p-n.false) c.index.ensures
    c.make-mine.new.self c.in-Ok.inv c.args.inv.now c.in-Ok.ensures c.make-mine.result c.is_some.result c.is_some.ensures c.if-is_some.false (room_left _ _ _ c.room.ensures c.if-room-eq0.false)
    c.make-mine.ensures.id c.make-mine.ensures.memory c.make-mine.ensures.shape c.make-mine.ensures.made c.processes-n.result c.processes-n.ensures

pub returns-clause-begun : goal.returns-clause-begun
returns-clause-begun g c = world_of-call _ _ _ c.self.view_is c.self.invariant c.args.p c.index.result.now (inside_count _ _ c.args.p c.processes-n.ensures c.if-p-n.false) c.index.ensures
    c.make-mine.new.self c.in-Ok.inv c.args.inv.now c.in-Ok.ensures c.make-mine.result c.is_some.result c.is_some.ensures c.if-is_some.false (room_left _ _ _ c.room.ensures c.if-room-eq0.false)
    c.make-mine.ensures.id c.make-mine.ensures.memory c.make-mine.ensures.shape c.make-mine.ensures.made c.processes-n.result c.processes-n.ensures

pub returns-clause-simulated : goal.returns-clause-simulated
returns-clause-simulated g c = Follows-call _ _ _ c.self.view_is c.self.invariant c.args.p c.index.result.now (inside_count _ _ c.args.p c.processes-n.ensures c.if-p-n.false) c.index.ensures
    c.make-mine.new.self c.in-Ok.inv c.args.inv.now c.in-Ok.ensures c.make-mine.result c.is_some.result c.is_some.ensures c.if-is_some.false (room_left _ _ _ c.room.ensures c.if-room-eq0.false)
    c.make-mine.ensures.id c.make-mine.ensures.memory c.make-mine.ensures.shape c.make-mine.ensures.made c.processes-n.result c.processes-n.ensures

pub returns-clause-id : goal.returns-clause-id
returns-clause-id g c = (refl, begun_now _ _ _ c.self.view_is c.self.invariant c.args.p c.index.result.now (inside_count _ _ c.args.p c.processes-n.ensures c.if-p-n.false) c.index.ensures)

pub returns-clause-allowed : goal.returns-clause-allowed
returns-clause-allowed g c = (
  inside_view _ _ c.args.p (sym c.self.view_is) (inside_count _ _ c.args.p c.processes-n.ensures c.if-p-n.false),
  idle_now _ _ _ c.self.view_is c.self.invariant c.args.p c.index.result.now (inside_count _ _ c.args.p c.processes-n.ensures c.if-p-n.false) c.index.ensures
      c.make-mine.new.self c.in-Ok.inv c.args.inv.now c.in-Ok.ensures c.make-mine.result c.is_some.result c.is_some.ensures c.if-is_some.false (room_left _ _ _ c.room.ensures c.if-room-eq0.false)
      c.make-mine.ensures.id c.make-mine.ensures.memory c.make-mine.ensures.shape c.make-mine.ensures.made c.processes-n.result c.processes-n.ensures,
  less_now _ _ _ c.self.view_is c.self.invariant c.args.p c.index.result.now (inside_count _ _ c.args.p c.processes-n.ensures c.if-p-n.false) c.index.ensures c.room.result c.room.ensures c.if-room-eq0.false,
)

pub returns-then-is_some-clause-refused : goal.returns-then-is_some-clause-refused
returns-then-is_some-clause-refused g c = (
  refl,
  inside_view _ _ c.args.p (sym c.self.view_is) (inside_count _ _ c.args.p c.processes-n.ensures c.if-p-n.false),
  some_call_now _ _ _ c.self.view_is c.self.invariant c.args.p c.index.result.now (inside_count _ _ c.args.p c.processes-n.ensures c.if-p-n.false) c.index.ensures c.is_some.result c.is_some.ensures c.if-is_some.true,
)

pub returns-then-room-eq0-clause-refused : goal.returns-then-room-eq0-clause-refused
returns-then-room-eq0-clause-refused g c = (
  refl,
  inside_view _ _ c.args.p (sym c.self.view_is) (inside_count _ _ c.args.p c.processes-n.ensures c.if-p-n.false),
  no_call_now _ _ _ c.self.view_is c.self.invariant c.args.p c.index.result.now (inside_count _ _ c.args.p c.processes-n.ensures c.if-p-n.false) c.index.ensures
      (no_call _ _ _ c.self.view_is c.self.invariant c.args.p c.index.result.now (inside_count _ _ c.args.p c.processes-n.ensures c.if-p-n.false) c.index.ensures _ (sym c.is_some.ensures) c.if-is_some.false),
  full_now _ _ _ c.self.view_is c.self.invariant c.args.p c.index.result.now (inside_count _ _ c.args.p c.processes-n.ensures c.if-p-n.false) c.index.ensures c.room.result c.room.ensures c.if-room-eq0.true,
)

pub returns-in_default-clause-refused : goal.returns-in_default-clause-refused
returns-in_default-clause-refused g c = (
  inside_view _ _ c.args.p (sym c.self.view_is) (inside_count _ _ c.args.p c.processes-n.ensures c.if-p-n.false),
  no_call_now _ _ _ c.self.view_is c.self.invariant c.args.p c.index.result.now (inside_count _ _ c.args.p c.processes-n.ensures c.if-p-n.false) c.index.ensures
      (no_call _ _ _ c.self.view_is c.self.invariant c.args.p c.index.result.now (inside_count _ _ c.args.p c.processes-n.ensures c.if-p-n.false) c.index.ensures _ (sym c.is_some.ensures) c.if-is_some.false),
  less_now _ _ _ c.self.view_is c.self.invariant c.args.p c.index.result.now (inside_count _ _ c.args.p c.processes-n.ensures c.if-p-n.false) c.index.ensures c.room.result c.room.ensures c.if-room-eq0.false,
)
