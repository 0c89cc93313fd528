use Rattle.uni_small.proofs.Vocabulary.{HasRestarted, arith, false, none, nothing, refl, restarted, step, with_local, ℕ, ◌∙◌}
use Rattle.uni_small.proofs.Allowed.{by_key}
use Rattle.uni_small.proofs.Rejoining.{restarts}
use Rattle.uni_small.proofs.log.SmallShared.abandon.Goals as goal

pub load-requires : goal.load-requires
load-requires g c =
    let shared = c.args.self.now in
    let sizes = shared.setup.sizes in
    let o = shared.setup.object in
    let meaning = g.O.SmallObject.meaning in
    let slots = shared.table.shared.table_id.slots in
    let id = c.args.seat.now.id in
    let me = c.args.seat.now.me in
    let i : ℕ = 0 in
    let st = step slots i 0 0 none in (
      c.requires.table,
      (let q0 = shared.sized in omega arith),
      by_key meaning shared.table.shared.key shared.setup shared.same slots id me i 0 refl (λ x. x) (λ x me'. HasRestarted st me x me')
          nothing
          (restarts meaning o sizes id shared.few.1 st me c.requires.of.alone),
    )

pub returns-clause-left : goal.returns-clause-left
returns-clause-left g c =
    let me = c.args.seat.now.me in
    let of = c.requires.of in
    c.load.ensures.2 false c.requires.none ∙ (λ k. (with_local me.0 (restarted me.0.known.local (of.first k) c.load.result false), me.1))
