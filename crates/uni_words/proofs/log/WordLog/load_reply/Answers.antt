use Rattle.uni_words.proofs.Vocabulary.{NewOf, TellsReply, name_of, none, step}
use Rattle.uni_words.proofs.Allowed.{may_step, cell_word}
use Rattle.uni_words.proofs.Finishes.{told_reply}
use Rattle.uni_words.proofs.log.WordLog.load_reply.Goals as goal

pub load-requires : goal.load-requires
load-requires g c =
    let log = c.args.self.now in
    let id = c.args.seat.now.id in
    let me = c.args.seat.now.me in
    let i = c.new_word.result in
    let word = cell_word log.setup.n log.setup.k 6 c.args.at.cell i log.few.0 c.requires.cursor.cell c.new_word.ensures in
    may_step g.O.WordObject.sequential log id me i (λ x. x) (λ x me'. TellsReply (step log.table.shared.table_id.slots i 0 0 none) me x me') (NewOf (name_of log.setup.n c.args.at.cell)) word c.requires.table
    (told_reply (g.O.WordObject.sequential log.setup.object) log.setup.k log.setup.n log.table.shared.table_id.slots id i (step log.table.shared.table_id.slots i 0 0 none) me c.requires.stands.alone (name_of log.setup.n c.args.at.cell) c.args.at.number c.args.mine_seq c.requires.stands.call c.requires.fresh word)

pub returns-clause-looked : goal.returns-clause-looked
returns-clause-looked g c = (c.load.ensures.2 _ _ _ c.requires.stands.call).0

pub returns-clause-finished : goal.returns-clause-finished
returns-clause-finished g c = (c.load.ensures.2 _ _ _ c.requires.stands.call).1
