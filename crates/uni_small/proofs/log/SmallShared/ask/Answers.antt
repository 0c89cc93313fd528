use Rattle.uni_small.proofs.Vocabulary.{HasAsked, argument_word, arith, none, nothing, step}
use Rattle.uni_small.proofs.Allowed.{by_key}
use Rattle.uni_small.proofs.Loads.{asks}
use Rattle.uni_small.proofs.Words.{argument_in_table}
use Rattle.uni_small.proofs.log.SmallShared.ask.Goals as goal

pub load-requires : goal.load-requires
load-requires g c =
    let shared = c.args.self.now in
    let sizes = shared.setup.sizes in
    let o = shared.setup.object in
    let meaning = g.O.SmallObject.meaning in
    let slots = shared.table.shared.table_id.slots in
    let id = c.args.seat.now.id in
    let me = c.args.seat.now.me in
    let i = c.argument_word.result in
    let st = step slots i 0 0 none in (
      c.requires.table,
      (let q0 = c.argument_word.ensures in let q1 = argument_in_table sizes c.args.r c.args.k c.requires.inside.1 c.requires.inside.2 in let q2 = shared.sized in omega arith),
      by_key meaning shared.table.shared.key shared.setup shared.same slots id me i (argument_word sizes c.args.r c.args.k) c.argument_word.ensures (λ x. x) (λ x me'. HasAsked st me x me')
          nothing
          (asks meaning o sizes id shared.few.1 st me c.requires.of.alone c.args.tries c.args.s c.args.r c.args.k c.requires.stage c.requires.inside.1 c.requires.inside.2),
    )
