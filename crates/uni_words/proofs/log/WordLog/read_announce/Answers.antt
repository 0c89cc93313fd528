use Rattle.uni_words.proofs.Vocabulary.{mod_below, refl, ◌%◌}
use Rattle.uni_words.proofs.Allowed.{goes_one, may_load, process_word, stands_next, within_here}
use Rattle.uni_words.proofs.log.WordLog.read_announce.Goals as goal

pub load-requires : goal.load-requires
load-requires g c =
    let log = c.args.self.now in
    may_load g.O.WordObject.sequential log c.args.seat.now.id c.args.seat.now.me _ _ _ c.announce_word.result c.requires.stands tt
    (process_word log.setup.n log.setup.k 0 (c.args.at.number % log.setup.n) _ (mod_below c.args.at.number log.setup.n log.few.0) c.announce_word.ensures) c.requires.table (λ found seen. refl)

pub returns : goal.returns
returns g c =
    let moved = c.load.ensures.2 _ c.requires.stands.call in
    record { same = (c.load.ensures.0, c.load.ensures.1); stands = stands_next _ _ _ _ _ _ _ _ _ c.requires.stands moved refl; goes = goes_one _ _ _ _ _ moved refl; within = within_here _ _ _ _ _ _ _ _ moved c.requires.stands }
