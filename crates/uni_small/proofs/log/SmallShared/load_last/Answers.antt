use Rattle.uni_small.proofs.Vocabulary.{HasReplied, arith, buffer_in, buffer_word, ends, length, none, reply_place, step, sym, ◌∙◌}
use Rattle.uni_small.proofs.Allowed.{by_key}
use Rattle.uni_small.proofs.Reply.{replies}
use Rattle.uni_small.proofs.Words.{reply_in_table}
use Rattle.uni_small.proofs.log.SmallShared.load_last.Goals as goal

pub load-requires : goal.load-requires
load-requires g c =
    let shared = c.args.self.now in
    let sizes = shared.setup.sizes in
    let o = shared.setup.object in
    let meaning = g.O.SmallObject.meaning in
    let slots = shared.table.shared.table_id.slots in
    let id = c.args.seat.now.id in
    let me = c.args.seat.now.me in
    let i = c.reply_word.result in
    let st = step slots i 0 0 none in (
      c.requires.table,
      (let q = c.reply_word.ensures in let r = reply_in_table sizes (buffer_in c.args.s) c.args.p c.args.k c.requires.named c.requires.inside.0 (let a = c.requires.inside.1 in omega arith) in let t = shared.sized in omega arith),
      by_key meaning shared.table.shared.key shared.setup shared.same slots id me i (buffer_word sizes (buffer_in c.args.s) (reply_place sizes me.0.known.first (length c.requires.stage.0)))
          (c.reply_word.ensures ∙ (λ j. buffer_word sizes (buffer_in c.args.s) (reply_place sizes (sym c.requires.of.first j) (sym c.requires.stage.2 j)))) (λ x. x) (λ x me'. HasReplied st me x me')
          (ends me.0.known.local me.0.known.first c.requires.stage.0)
          (replies meaning o sizes id st me c.requires.of.alone c.args.s c.requires.stage.0 c.requires.stage.1 (let a = c.requires.inside.1 in let b = c.requires.stage.2 in omega arith) c.requires.named),
    )

pub returns-clause-later : goal.returns-clause-later
returns-clause-later g c = (c.load.ensures.2 c.args.s c.requires.stage.0 c.requires.stage.1).1
