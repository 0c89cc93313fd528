use Rattle.uni_small.proofs.Vocabulary.{HasAnnounced, announce_word, ap, arith, begins, none, step, sym, ◌∙◌}
use Rattle.uni_small.proofs.Allowed.{by_key}
use Rattle.uni_small.proofs.Stores.{announced}
use Rattle.uni_small.proofs.log.SmallShared.announce.Goals as goal

pub store-requires : goal.store-requires
store-requires g c =
    let shared = c.args.self.now in
    let sizes = shared.setup.sizes in
    let o = shared.setup.object in
    let meaning = g.O.SmallObject.meaning in
    let slots = shared.table.shared.table_id.slots in
    let id = c.args.seat.now.id in
    let me = c.args.seat.now.me in
    let i = c.announce_word.result in
    let st = step slots i c.args.number 0 none in (
      c.requires.table,
      (let q0 = c.announce_word.ensures in let q1 = c.requires.inside in let q2 = shared.sized in omega arith),
      by_key meaning shared.table.shared.key shared.setup shared.same slots id me i (announce_word me.0.known.first) (c.announce_word.ensures ∙ ap announce_word (sym c.requires.of.first)) (λ x. c.args.number) (λ x me'. HasAnnounced st me c.args.number me')
          (begins me.0.known.local me.0.known.first c.requires.stage.0)
          (announced meaning o sizes id st me c.requires.of.alone c.args.number c.requires.stage.0 c.requires.number.0 c.requires.number.1 c.requires.stage.1 c.requires.stage.2),
    )
