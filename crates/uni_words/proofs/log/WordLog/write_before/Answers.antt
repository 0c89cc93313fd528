use Rattle.std.proofs.Common.{◌+◌, refl}
use Rattle.uni_words.proofs.Allowed.{cell_word, goes_one, link_is, may_store, stands_next}
use Rattle.uni_words.proofs.log.WordLog.write_before.Goals as goal

pub store-requires : goal.store-requires
store-requires g c =
    let log = c.args.self.now in
    may_store g.O.WordObject.sequential log c.args.seat.now.id c.args.seat.now.me _ _ _ c.before_word.result c.requires.stands tt
    (cell_word log.setup.n log.setup.k 4 c.args.d _ log.few.0 c.requires.inside c.before_word.ensures) c.requires.table (1 + c.args.at.head) (λ found seen. link_is log.setup.n c.args.at.head) (λ found. refl)

pub returns : goal.returns
returns g c =
    let moved = c.store.ensures.2 _ c.requires.stands.call in
    record { same = (c.store.ensures.0, c.store.ensures.1); stands = stands_next _ _ _ _ _ _ _ _ _ c.requires.stands moved refl; goes = goes_one _ _ _ _ _ moved refl }
