use Rattle.uni_words.proofs.Vocabulary.{Moved, NewOf, either, eqb, name_of, none, refl, step, ◌*◌, ◌+◌}
use Rattle.uni_words.proofs.Allowed.{may_step, cell_word, stands_next, goes_one}
use Rattle.uni_words.proofs.Decides.{decides_word}
use Rattle.uni_words.proofs.log.WordLog.decide_new.Goals as goal

pub compare_exchange-requires : goal.compare_exchange-requires
compare_exchange-requires g c =
    let log = c.args.self.now in
    let id = c.args.seat.now.id in
    let me = c.args.seat.now.me in
    let i = c.new_word.result in
    let word = cell_word log.setup.n log.setup.k 6 c.args.d i log.few.0 c.requires.inside.0 c.new_word.ensures in
    may_step g.O.WordObject.sequential log id me i (λ found. either (eqb found 0) (1 + 2 * c.answer-reply.result + 4294967296 * c.next-next.result) found) (λ found me'. Moved (step log.table.shared.table_id.slots i 0 (1 + 2 * c.answer-reply.result + 4294967296 * c.next-next.result) none) me found me') (NewOf (name_of log.setup.n c.args.d)) word c.requires.table
    (decides_word (g.O.WordObject.sequential log.setup.object) log.setup.k log.setup.n log.table.shared.table_id.slots id i (step log.table.shared.table_id.slots i 0 (1 + 2 * c.answer-reply.result + 4294967296 * c.next-next.result) none) me c.requires.stands.alone (name_of log.setup.n c.args.at.cell) (name_of log.setup.n c.args.at.head) (name_of log.setup.n c.args.d) c.args.at.number c.args.inv c.args.state c.next-next.result c.answer-reply.result c.requires.stands.call c.requires.read c.next-next.ensures.value c.next-next.ensures.fits c.answer-reply.ensures.value c.answer-reply.ensures.fits word)

pub returns-clause-stands : goal.returns-clause-stands
returns-clause-stands g c = stands_next _ _ _ _ _ _ _ _ _ c.requires.stands (c.compare_exchange.ensures.2 _ c.requires.stands.call) refl

pub returns-clause-goes : goal.returns-clause-goes
returns-clause-goes g c = goes_one _ _ _ _ _ (c.compare_exchange.ensures.2 _ c.requires.stands.call) refl
