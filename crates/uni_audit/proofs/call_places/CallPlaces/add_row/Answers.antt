use Rattle.uni_audit.proofs.Vocabulary.{arith, nat_cmp}
use Rattle.std.specs.Prelude.{vec_capacity}
use Rattle.uni_audit.proofs.Rooms.{sum_by-insert_entry}
use Rattle.uni_audit.proofs.call_places.CallPlaces.add_row.Goals as goal

pub returns-clause-room : goal.returns-clause-room
returns-clause-room c =
    let entries = c.in_ok-insert.ensures.entries in
    let row = c.in_ok-with_capacity.ensures.exact in
    rw entries (let more = sum_by-insert_entry vec_capacity nat_cmp c.args.self.now.rows.entries c.args.process c.in_ok-with_capacity.field-0 in omega arith)
