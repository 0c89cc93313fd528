use Rattle.uni_small.proofs.Vocabulary.{HasLoaded, ap, arith, buffer_in, buffer_word, none, nothing, reply_place, step, sym, ◌∙◌}
use Rattle.uni_small.proofs.Allowed.{by_key}
use Rattle.uni_small.proofs.Reply.{loads}
use Rattle.uni_small.proofs.Words.{reply_in_table}
use Rattle.uni_small.proofs.log.SmallShared.load_word.Goals as goal

pub load-requires : goal.load-requires
load-requires g c =
    let shared = c.args.self.now in
    let sizes = shared.setup.sizes in
    let o = shared.setup.object in
    let meaning = g.O.SmallObject.meaning in
    let slots = shared.table.shared.table_id.slots in
    let id = c.args.seat.now.id in
    let me = c.args.seat.now.me in
    let i = c.reply_word.result in
    let st = step slots i 0 0 none in (
      c.requires.table,
      (let q = c.reply_word.ensures in let r = reply_in_table sizes (buffer_in c.args.s) c.args.p c.args.k c.requires.named c.requires.inside.0 (let a = c.requires.inside.1 in omega arith) in let t = shared.sized in omega arith),
      by_key meaning shared.table.shared.key shared.setup shared.same slots id me i (buffer_word sizes (buffer_in c.args.s) (reply_place sizes me.0.known.first c.args.k))
          (c.reply_word.ensures ∙ ap (λ q. buffer_word sizes (buffer_in c.args.s) (reply_place sizes q c.args.k)) (sym c.requires.of.first)) (λ x. x) (λ x me'. HasLoaded st me x me')
          nothing
          (loads meaning o sizes id st me c.requires.of.alone c.args.s c.args.k c.requires.stage c.requires.inside.1 c.requires.named),
    )
