use Rattle.uni_words.proofs.Vocabulary.{EndsCall, HeadOf, none, step}
use Rattle.uni_words.proofs.Allowed.{may_step, first_word}
use Rattle.uni_words.proofs.Finishes.{ends}
use Rattle.uni_words.proofs.log.WordLog.finish.Goals as goal

pub store-requires : goal.store-requires
store-requires g c =
    let log = c.args.self.now in
    let id = c.args.seat.now.id in
    let me = c.args.seat.now.me in
    let i = c.head_word.result in
    let word = first_word log.setup.n log.setup.k 1 me.0.known.first c.args.at.process i c.requires.cursor.process c.requires.stands.first c.head_word.ensures in
    may_step g.O.WordObject.sequential log id me i (λ x. c.args.at.cell) (λ x me'. EndsCall (step log.table.shared.table_id.slots i c.args.at.cell 0 none) me x me') (HeadOf me.0.known.first) word c.requires.table
    (ends (g.O.WordObject.sequential log.setup.object) log.setup.k log.setup.n log.table.shared.table_id.slots id i me c.requires.stands.alone c.args.at.cell c.args.at.number c.args.mine_seq c.args.reply c.requires.stands.call c.requires.read c.requires.later word)

pub returns-clause-finished : goal.returns-clause-finished
returns-clause-finished g c = c.store.ensures.2 _ c.requires.read
