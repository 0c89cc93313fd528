use Rattle.uni_small.proofs.Vocabulary.{HasRecounted, ap, announce_word, arith, none, nothing, step, sym, ◌∙◌}
use Rattle.uni_small.proofs.Allowed.{by_key}
use Rattle.uni_small.proofs.Rejoining.{recounts}
use Rattle.uni_small.proofs.log.SmallShared.recount.Goals as goal

pub load-requires : goal.load-requires
load-requires g c =
    let shared = c.args.self.now in
    let sizes = shared.setup.sizes in
    let o = shared.setup.object in
    let meaning = g.O.SmallObject.meaning in
    let slots = shared.table.shared.table_id.slots in
    let id = c.args.seat.now.id in
    let me = c.args.seat.now.me in
    let i = c.announce_word.result in
    let st = step slots i 0 0 none in (
      c.requires.table,
      (let q0 = c.announce_word.ensures in let q1 = c.requires.inside in let q2 = shared.sized in omega arith),
      by_key meaning shared.table.shared.key shared.setup shared.same slots id me i (announce_word me.0.known.first) (c.announce_word.ensures ∙ ap announce_word (sym c.requires.of.first)) (λ x. x) (λ x me'. HasRecounted st me x me')
          nothing
          (recounts meaning o sizes id shared.few.1 st me c.requires.of.alone),
    )
