use Rattle.uni_small.proofs.Vocabulary.{HasCheckedOwn, IsGood, Some, arith, checked_own, goes, none, nothing, read_image, refl, step, subst, with_local, ℕ, ◌∙◌, ◌≡◌}
use Rattle.uni_small.proofs.Allowed.{by_key}
use Rattle.uni_small.proofs.Loads.{checks_own}
use Rattle.uni_small.proofs.log.SmallShared.check_own.Goals as goal

pub load-requires : goal.load-requires
load-requires g c =
    let shared = c.args.self.now in
    let sizes = shared.setup.sizes in
    let o = shared.setup.object in
    let meaning = g.O.SmallObject.meaning in
    let slots = shared.table.shared.table_id.slots in
    let id = c.args.seat.now.id in
    let me = c.args.seat.now.me in
    let i : ℕ = 0 in
    let st = step slots 0 0 0 none in (
      c.requires.table,
      (let q0 = shared.sized in omega arith),
      by_key meaning shared.table.shared.key shared.setup shared.same slots id me i 0 refl (λ x. x) (λ x me'. (q : _) → me.0.object ≡ Some q → HasCheckedOwn (meaning q) st me x me')
          nothing
          (checks_own meaning o sizes id shared.few.1 st me c.requires.of.alone c.args.s c.requires.stage c.requires.direct (g.met.O.SmallObject.steady o)),
    )

pub returns-clause-left : goal.returns-clause-left
returns-clause-left g c copy seen stage =
    let me = c.args.seat.now.me in
    let sizes = c.args.self.now.setup.sizes in
    let of = c.requires.of in
    let told = c.load.ensures.2 c.args.self.now.setup.object of.object c.args.s copy seen stage in (
      told.0 ∙ (λ k. (with_local me.0 (goes me.0.known.local (checked_own (of.sizes k) c.args.s copy seen c.load.result)), me.1)),
      λ same. subst (λ k. IsGood (g.O.SmallObject.meaning c.args.self.now.setup.object) k (read_image k copy)) of.sizes (told.1 same),
    )
