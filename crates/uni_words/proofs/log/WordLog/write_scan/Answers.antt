use Rattle.std.proofs.Common.{refl}
use Rattle.uni_words.proofs.Allowed.{first_word, goes_one, may_store, stands_next}
use Rattle.uni_words.proofs.log.WordLog.write_scan.Goals as goal

pub store-requires : goal.store-requires
store-requires g c =
    let log = c.args.self.now in
    may_store g.O.WordObject.sequential log c.args.seat.now.id c.args.seat.now.me _ _ _ c.head_word.result c.requires.stands tt
    (first_word log.setup.n log.setup.k 1 c.args.seat.now.me.0.known.first c.args.at.process _ c.requires.cursor.process c.requires.stands.first c.head_word.ensures) c.requires.table c.args.at.head (λ found seen. refl) (λ found. refl)

pub returns : goal.returns
returns g c =
    let moved = c.store.ensures.2 _ c.requires.stands.call in
    record { same = (c.store.ensures.0, c.store.ensures.1); stands = stands_next _ _ _ _ _ _ _ _ _ c.requires.stands moved refl; goes = goes_one _ _ _ _ _ moved refl }
