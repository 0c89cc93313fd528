use Rattle.std.proofs.Common.{refl}
use Rattle.uni_words.proofs.Allowed.{cell_word, few_turns, fresh_then, goes_one, own_cell, may_load, stands_next, within_here}
use Rattle.uni_words.proofs.log.WordLog.test.Goals as goal

pub load-requires : goal.load-requires
load-requires g c =
    let log = c.args.self.now in
    may_load g.O.WordObject.sequential log c.args.seat.now.id c.args.seat.now.me _ _ _ c.seq_word.result c.requires.stands tt
    (cell_word log.setup.n log.setup.k 3 c.args.at.cell _ log.few.0 c.requires.cursor.cell c.seq_word.ensures) c.requires.table (λ found seen. refl)

pub returns : goal.returns
returns g c =
    let moved = c.load.ensures.2 _ c.requires.stands.call in
    let next = stands_next _ _ _ _ _ _ _ _ _ c.requires.stands moved refl in
    record { same = (c.load.ensures.0, c.load.ensures.1); stands = next; fresh = fresh_then _ _ _ _ moved; goes = goes_one _ _ _ _ _ moved refl; within = within_here _ _ _ _ _ _ _ _ moved c.requires.stands; bound = few_turns _ _ _ _ _ _ _ _ moved c.requires.stands; own_cell = own_cell _ _ _ _ _ _ _ _ _ moved c.requires.stands next }
