use Rattle.uni_small.proofs.Vocabulary.{AreFirstSeats, Some, [], at_rest, first_held, ◌-◌, ◌≡◌}
use Rattle.uni_small.proofs.log.SmallShared.seats.Given as goal

abbrev pub invariant-loop-p : goal.invariant-loop-p
invariant-loop-p g l =
    (l.rest.table_id ≡ l.fn.self.table.shared.table_id)
    × (l.rest.me ≡ (
      record {
        marker = record {};
        known = record { sizes = l.fn.self.setup.sizes; first = l.p; count = l.fn.self.setup.sizes.processes - l.p; local = at_rest (first_held (g.O.SmallObject.meaning l.fn.self.setup.object).object l.fn.self.setup.sizes); taken = [] };
        object = Some l.fn.self.setup.object;
      },
      [],
    ))
    × AreFirstSeats l.fn.self l.p l.seats.items
