use Rattle.uni_small.proofs.Vocabulary.{WritesWithin, held_place, length, take, with_row, ◌≡◌}
use Rattle.uni_small.proofs.log.SmallShared.write_words.Given as goal

abbrev pub invariant-loop-i : goal.invariant-loop-i
invariant-loop-i g l =
    (l.seat.table_id ≡ l.fn.seat.table_id) × (l.seat.id ≡ l.fn.seat.id)
    × WritesWithin l.fn.seat.me l.from (length (take l.i l.row)) l.own.held.items l.seat.me
    × (l.own.held.items ≡ with_row l.fn.own.held.items (held_place l.fn.self.setup.sizes l.fn.own.spare l.from) (take l.i l.row))
    × (l.own.spare ≡ l.fn.own.spare)
