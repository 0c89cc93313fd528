use Rattle.uni_small.proofs.Vocabulary.{HasCopied, arith, buffer_in, buffer_word, none, nothing, step}
use Rattle.uni_small.proofs.Allowed.{by_key}
use Rattle.uni_small.proofs.Loads.{copies}
use Rattle.uni_small.proofs.Words.{buffer_inside}
use Rattle.uni_small.proofs.log.SmallShared.copy_word.Goals as goal

pub load-requires : goal.load-requires
load-requires g c =
    let shared = c.args.self.now in
    let sizes = shared.setup.sizes in
    let o = shared.setup.object in
    let meaning = g.O.SmallObject.meaning in
    let slots = shared.table.shared.table_id.slots in
    let id = c.args.seat.now.id in
    let me = c.args.seat.now.me in
    let i = c.buffer_word.result in
    let st = step slots i 0 0 none in (
      c.requires.table,
      (let q = c.buffer_word.ensures in let r = buffer_inside sizes (buffer_in c.args.s) c.args.i c.requires.named c.requires.inside.1 in let t = shared.sized in omega arith),
      by_key meaning shared.table.shared.key shared.setup shared.same slots id me i (buffer_word sizes (buffer_in c.args.s) c.args.i) c.buffer_word.ensures (λ x. x) (λ x me'. HasCopied st me x me')
          nothing
          (copies meaning o sizes id shared.few.1 st me c.requires.of.alone c.args.tries c.args.s c.args.i c.requires.stage c.requires.inside.1 c.requires.named),
    )
