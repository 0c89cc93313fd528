use Rattle.uni_words.proofs.Vocabulary.{HasLooked, InvOf, Invocation, name_of}
use Rattle.uni_words.proofs.Allowed.{may_step, cell_word, stands_still, goes_still, read_is}
use Rattle.uni_words.proofs.Looks.{looks_inv}
use Rattle.uni_words.proofs.log.WordLog.load_inv.Goals as goal

pub load-requires : goal.load-requires
load-requires g c =
    let log = c.args.self.now in
    let id = c.args.seat.now.id in
    let me = c.args.seat.now.me in
    let i = c.inv_word.result in
    let word = cell_word log.setup.n log.setup.k 2 c.args.d i log.few.0 c.requires.inside c.inv_word.ensures in
    may_step g.O.WordObject.sequential log id me i (λ x. x) (λ x me'. HasLooked me (Invocation x) me') (InvOf (name_of log.setup.n c.args.d)) word c.requires.table
    (looks_inv (g.O.WordObject.sequential log.setup.object) log.setup.k log.setup.n log.table.shared.table_id.slots id i me c.requires.stands.alone (name_of log.setup.n c.args.at.cell) (name_of log.setup.n c.args.at.head) (name_of log.setup.n c.args.d) c.args.at.number c.requires.stands.call c.requires.fresh word)

pub returns-clause-stands : goal.returns-clause-stands
returns-clause-stands g c = stands_still _ _ _ _ _ _ _ _ c.requires.stands c.load.ensures.2

pub returns-clause-read : goal.returns-clause-read
returns-clause-read g c = read_is _ c.args.seat.now.me c.load.new.seat.me c.load.ensures.2

pub returns-clause-goes : goal.returns-clause-goes
returns-clause-goes g c = goes_still _ _ _ c.load.ensures.2
