use Rattle.uni_small.proofs.Vocabulary.{HasReread, ap, arith, buffer_word, none, nothing, step, sym, ◌*◌, ◌+◌, ◌∙◌, ◌≡◌}
use Rattle.uni_small.proofs.Allowed.{by_key}
use Rattle.uni_small.proofs.Rejoining.{rereads}
use Rattle.uni_small.proofs.Words.{buffer_inside}
use Rattle.uni_small.proofs.log.SmallShared.reread.Goals as goal

pub load-requires : goal.load-requires
load-requires g c =
    let shared = c.args.self.now in
    let sizes = shared.setup.sizes in
    let o = shared.setup.object in
    let meaning = g.O.SmallObject.meaning in
    let slots = shared.table.shared.table_id.slots in
    let id = c.args.seat.now.id in
    let me = c.args.seat.now.me in
    let i = c.buffer_word.result in
    let is : i ≡ buffer_word sizes (2 * me.0.known.first + c.args.which) c.args.i =
    c.buffer_word.ensures ∙ ap (λ q. buffer_word sizes (2 * q + c.args.which) c.args.i) (sym c.requires.of.first) in
    let st = step slots i 0 0 none in (
      c.requires.table,
      (let q = c.buffer_word.ensures in let r = buffer_inside sizes (2 * c.args.p + c.args.which) c.args.i (let a = c.requires.inside in omega arith) c.requires.inside.2 in let t = shared.sized in omega arith),
      by_key meaning shared.table.shared.key shared.setup shared.same slots id me i (buffer_word sizes (2 * me.0.known.first + c.args.which) c.args.i) is (λ x. x) (λ x me'. HasReread st me x me')
          nothing
          (rereads meaning o sizes id shared.few.1 st me c.requires.of.alone c.args.which c.args.i c.requires.inside.1 c.requires.inside.2 is),
    )
