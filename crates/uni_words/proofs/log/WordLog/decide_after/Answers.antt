use Rattle.std.proofs.Common.{◌+◌, refl}
use Rattle.uni_words.proofs.Allowed.{cell_word, fresh_then, goes_one, link_decided, may_propose, stands_next, within_here}
use Rattle.uni_words.proofs.log.WordLog.decide_after.Goals as goal

pub compare_exchange-requires : goal.compare_exchange-requires
compare_exchange-requires g c =
    let log = c.args.self.now in
    may_propose g.O.WordObject.sequential log c.args.seat.now.id c.args.seat.now.me _ _ _ c.after_word.result c.requires.stands tt
    (cell_word log.setup.n log.setup.k 5 c.args.at.head _ log.few.0 c.requires.cursor.head c.after_word.ensures) c.requires.table (c.args.prefer + 1) (λ found seen. link_decided log.setup.n c.args.prefer found)

pub returns : goal.returns
returns g c =
    let moved = c.compare_exchange.ensures.2 _ c.requires.stands.call in
    record { same = (c.compare_exchange.ensures.0, c.compare_exchange.ensures.1); stands = stands_next _ _ _ _ _ _ _ _ _ c.requires.stands moved refl; fresh = fresh_then _ _ _ _ moved; goes = goes_one _ _ _ _ _ moved refl; within = within_here _ _ _ _ _ _ _ _ moved c.requires.stands }
