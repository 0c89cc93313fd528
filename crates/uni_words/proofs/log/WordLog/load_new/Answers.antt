use Rattle.uni_words.proofs.Vocabulary.{NewOf, TellsState, name_of, none, step}
use Rattle.uni_words.proofs.Allowed.{may_step, cell_word, stands_still, goes_still, read_is}
use Rattle.uni_words.proofs.Looks.{told_state}
use Rattle.uni_words.proofs.log.WordLog.load_new.Goals as goal

pub load-requires : goal.load-requires
load-requires g c =
    let log = c.args.self.now in
    let id = c.args.seat.now.id in
    let me = c.args.seat.now.me in
    let i = c.new_word.result in
    let word = cell_word log.setup.n log.setup.k 6 c.args.at.head i log.few.0 c.requires.cursor.head c.new_word.ensures in
    may_step g.O.WordObject.sequential log id me i (λ x. x) (λ x me'. TellsState (step log.table.shared.table_id.slots i 0 0 none) me x me') (NewOf (name_of log.setup.n c.args.at.head)) word c.requires.table
    (told_state (g.O.WordObject.sequential log.setup.object) log.setup.k log.setup.n log.table.shared.table_id.slots id i (step log.table.shared.table_id.slots i 0 0 none) me c.requires.stands.alone (name_of log.setup.n c.args.at.cell) (name_of log.setup.n c.args.at.head) (name_of log.setup.n c.args.d) c.args.at.number c.requires.stands.call c.args.inv c.requires.read word)

pub returns-clause-stands : goal.returns-clause-stands
returns-clause-stands g c = stands_still _ _ _ _ _ _ _ _ c.requires.stands (c.load.ensures.2 _ c.requires.read).0

pub returns-clause-read : goal.returns-clause-read
returns-clause-read g c = read_is _ c.args.seat.now.me c.load.new.seat.me (c.load.ensures.2 _ c.requires.read).0

pub returns-clause-goes : goal.returns-clause-goes
returns-clause-goes g c = goes_still _ _ _ (c.load.ensures.2 _ c.requires.read).0

pub returns-clause-fits : goal.returns-clause-fits
returns-clause-fits g c = (c.load.ensures.2 _ c.requires.read).1
