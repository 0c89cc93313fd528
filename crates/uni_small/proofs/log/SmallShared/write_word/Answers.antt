use Rattle.uni_small.proofs.Vocabulary.{HasWritten, arith, buffer_word, held_place, local_of, none, nothing, step, sym, with_local, wrote, ◌*◌, ◌+◌, ◌∙◌}
use Rattle.uni_small.proofs.Allowed.{by_key}
use Rattle.uni_small.proofs.Stores.{writes}
use Rattle.uni_small.proofs.Words.{buffer_inside}
use Rattle.uni_small.proofs.log.SmallShared.write_word.Goals as goal

pub store-requires : goal.store-requires
store-requires g c =
    let shared = c.args.self.now in
    let sizes = shared.setup.sizes in
    let o = shared.setup.object in
    let meaning = g.O.SmallObject.meaning in
    let slots = shared.table.shared.table_id.slots in
    let id = c.args.seat.now.id in
    let me = c.args.seat.now.me in
    let i = c.buffer_word.result in
    let st = step slots i c.args.x 0 none in
    let word = c.buffer_word.ensures ∙ (λ k. buffer_word sizes (2 * sym c.requires.of.first k + sym c.requires.spare.0 k) c.args.i) in (
      c.requires.table,
      (let q = c.buffer_word.ensures in let r = buffer_inside sizes (2 * c.args.p + c.args.spare) c.args.i (let a = c.requires.inside.0 in let b = c.requires.spare.1 in omega arith) c.requires.inside.1 in let t = shared.sized in omega arith),
      by_key meaning shared.table.shared.key shared.setup shared.same slots id me i (buffer_word sizes (2 * me.0.known.first + me.0.known.local.spare) c.args.i) word (λ x. c.args.x) (λ x me'. HasWritten st me c.args.x me')
          nothing
          (writes meaning o sizes id st me c.requires.of.alone c.args.i c.args.x c.requires.stage c.requires.inside.1 word),
    )

pub returns-clause-left : goal.returns-clause-left
returns-clause-left g c =
    let me = c.args.seat.now.me in
    let of = c.requires.of in
    let spare = c.requires.spare.0 in
    c.store.ensures.2 c.args.i (c.buffer_word.ensures ∙ (λ k. buffer_word (sym of.sizes k) (2 * sym of.first k + sym spare k) c.args.i))
    ∙ (λ k. (with_local me.0 (wrote (local_of me) c.args.i (held_place (of.sizes k) (spare k) c.args.i) c.args.x), me.1))
