use Rattle.uni_small.proofs.Vocabulary.{HasBegun, arith, none, nothing, refl, step, ℕ}
use Rattle.uni_small.proofs.Allowed.{by_key}
use Rattle.uni_small.proofs.Loads.{begins_own}
use Rattle.uni_small.proofs.log.SmallShared.begin.Goals as goal

pub load-requires : goal.load-requires
load-requires g c =
    let shared = c.args.self.now in
    let sizes = shared.setup.sizes in
    let o = shared.setup.object in
    let meaning = g.O.SmallObject.meaning in
    let slots = shared.table.shared.table_id.slots in
    let id = c.args.seat.now.id in
    let me = c.args.seat.now.me in
    let i : ℕ = 0 in
    let st = step slots 0 0 0 none in (
      c.requires.table,
      (let q0 = shared.sized in omega arith),
      by_key meaning shared.table.shared.key shared.setup shared.same slots id me i 0 refl (λ x. x) (λ x me'. HasBegun st me x me')
          nothing
          (begins_own meaning o sizes id shared.few.1 st me c.requires.of.alone c.requires.stage c.requires.untried (let r = c.requires.room in omega arith)),
    )
