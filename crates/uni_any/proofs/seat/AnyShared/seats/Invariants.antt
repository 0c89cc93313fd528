use Rattle.std.specs.Prelude.{◌≡◌, ◌-◌, ◌≤◌}
use Rattle.triple_buffers.specs.Parties.{AreOf, many, next_of, view_of_all}
use Rattle.uni_any.specs.Seats.{AreFirstSeats, object_of, processes_of, rest_of}
use Rattle.uni_any.proofs.seat.AnyShared.seats.Given as goal

abbrev pub invariant-loop-p : goal.invariant-loop-p
invariant-loop-p g l = record {
  parties : AreOf l.fn.self.buffers l.parties;
  next : next_of l.parties ≡ l.p;
  many : many l.parties ≡ processes_of l.fn.self - l.p;
  view : view_of_all l.parties ≡ rest_of g.O.SeqObject.sequential (object_of l.fn.self) (processes_of l.fn.self) l.p;
  far : l.p ≤ processes_of l.fn.self;
  seats : AreFirstSeats l.fn.self l.p l.seats.items;
}
