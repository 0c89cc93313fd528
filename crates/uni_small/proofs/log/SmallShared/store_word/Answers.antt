use Rattle.uni_small.proofs.Vocabulary.{HasStored, ap, argument_word, arith, none, nothing, step, sym, ◌∙◌}
use Rattle.uni_small.proofs.Allowed.{by_key}
use Rattle.uni_small.proofs.Stores.{stores}
use Rattle.uni_small.proofs.Words.{argument_in_table}
use Rattle.uni_small.proofs.log.SmallShared.store_word.Goals as goal

pub store-requires : goal.store-requires
store-requires g c =
    let shared = c.args.self.now in
    let sizes = shared.setup.sizes in
    let o = shared.setup.object in
    let meaning = g.O.SmallObject.meaning in
    let slots = shared.table.shared.table_id.slots in
    let id = c.args.seat.now.id in
    let me = c.args.seat.now.me in
    let i = c.argument_word.result in
    let st = step slots i c.args.x 0 none in (
      c.requires.table,
      (let q0 = c.argument_word.ensures in let q1 = argument_in_table sizes c.args.p c.args.k c.requires.inside.0 c.requires.inside.1 in let q2 = shared.sized in omega arith),
      by_key meaning shared.table.shared.key shared.setup shared.same slots id me i (argument_word sizes me.0.known.first c.args.k) (c.argument_word.ensures ∙ ap (λ q. argument_word sizes q c.args.k) (sym c.requires.of.first)) (λ x. c.args.x) (λ x me'. HasStored st me c.args.x me')
          nothing
          (stores meaning o sizes id st me c.requires.of.alone c.args.k c.args.x c.requires.stage c.requires.inside.1 (let r = c.requires.room in omega arith)),
    )
