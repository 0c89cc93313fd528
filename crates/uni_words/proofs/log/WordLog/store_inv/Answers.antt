use Rattle.uni_words.proofs.Vocabulary.{HasBegun, InvOf, Of, ap, arith, none, step, ◌*◌, ◌+◌, ◌∙◌}
use Rattle.uni_words.proofs.Allowed.{may_step, called_word, stands_begun}
use Rattle.uni_words.proofs.Begins.{begins}
use Rattle.uni_words.proofs.log.WordLog.store_inv.Goals as goal

pub store-requires : goal.store-requires
store-requires g c =
    let log = c.args.self.now in
    let id = c.args.seat.now.id in
    let me = c.args.seat.now.me in
    let i = c.inv_word.result in
    let word = called_word log.setup.n log.setup.k me.0.known.first me.0.known.its.begun c.args.at.process c.args.nth i c.requires.cursor.process c.requires.inside c.requires.idle.2 c.requires.idle.4 (c.inv_word.ensures ∙ ap (λ x. 2 * log.setup.n + 0 * (log.setup.n * log.setup.k + 1) + x) c.requires.cell) in
    may_step g.O.WordObject.sequential log id me i (λ x. c.args.inv) (λ x me'. HasBegun (step log.table.shared.table_id.slots i c.args.inv 0 none) me c.args.inv me') (InvOf (Of me.0.known.first me.0.known.its.begun)) word c.requires.table
    (begins (g.O.WordObject.sequential log.setup.object) log.setup.k log.setup.n log.table.shared.table_id.slots id i (step log.table.shared.table_id.slots i c.args.inv 0 none) me c.args.inv (let narrow = c.ranges.inv.fits in omega (arith, narrow)) c.requires.idle.3 c.requires.idle.5 (let e = c.requires.idle.4 in let b = c.requires.inside in omega arith) word)

pub returns-clause-stands : goal.returns-clause-stands
returns-clause-stands g c = stands_begun _ _ _ _ _ _ c.args.seat.now.me c.store.new.seat.me c.requires.cursor.process c.requires.cell c.requires.idle c.store.ensures.2
