use Rattle.uni_words.proofs.Vocabulary.{HasAsked, Of, SeqOf, Some, ap, arith, name_of, name_of-index_of, none, refl, step, subst, word_of, ◌∙◌, ◌≡◌}
use Rattle.uni_words.proofs.Allowed.{may_step, cell_word}
use Rattle.uni_words.proofs.Asking.{asks}
use Rattle.uni_words.proofs.seat.WordSeat.follows.Goals as goal

pub load-requires : goal.load-requires
load-requires g c =
    let log = c.args.log.now in
    let slots = log.table.shared.table_id.slots in
    let mine = c.args.self.now in
    let id = mine.seat.id in
    let me = mine.seat.me in
    let call = c.args.call in
    let i = c.seq_word-word.result in
    let st = step slots i 0 0 none in
    let inside = c.if-process-self.false in
    let processes = c.requires.seat.processes in
    let calls = c.requires.seat.calls in
    let word : word_of log.setup.n log.setup.k (SeqOf (Of call.process call.nth)) ≡ Some i
    = subst (λ x. word_of log.setup.n log.setup.k (SeqOf x) ≡ Some i) (ap (name_of log.setup.n) c.cell.ensures.0 ∙ name_of-index_of log.setup.n call.process call.nth (omega arith)) (cell_word log.setup.n log.setup.k 3 c.cell.result i log.few.0 c.cell.ensures.1 c.seq_word-word.ensures) in
    may_step g.O.WordObject.sequential log id me i (λ x. x) (λ x me'. HasAsked st me x me') (SeqOf (Of call.process call.nth)) word c.requires.seat.table
    (asks (g.O.WordObject.sequential log.setup.object) log.setup.k log.setup.n slots id i st me (mine.idle.0 ∙ processes) (mine.idle.1 ∙ calls) mine.idle.3 mine.idle.5 refl call word)
