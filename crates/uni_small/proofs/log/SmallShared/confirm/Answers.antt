use Rattle.uni_small.proofs.Vocabulary.{AreWidths, HasConfirmed, Some, arith, none, nothing, read_image, refl, step, subst, version_in, [], ℕ, ◌∷◌, ◌≡◌, Sizes, IsLeft, local_of, confirms}
use Rattle.uni_small.proofs.Allowed.{by_key}
use Rattle.uni_small.proofs.Loads.{reads}
use Rattle.uni_small.specs.Final.{IsVersion}
use Rattle.uni_small.proofs.log.SmallShared.confirm.Goals as goal

pub load-requires : goal.load-requires
load-requires g c =
    let shared = c.args.self.now in
    let sizes = shared.setup.sizes in
    let o = shared.setup.object in
    let meaning = g.O.SmallObject.meaning in
    let slots = shared.table.shared.table_id.slots in
    let id = c.args.seat.now.id in
    let me = c.args.seat.now.me in
    let i : ℕ = 0 in
    let st = step slots 0 0 0 none in (
      c.requires.table,
      (let q0 = shared.sized in omega arith),
      by_key meaning shared.table.shared.key shared.setup shared.same slots id me i 0 refl (λ x. x) (λ x me'. (q : _) → me.0.object ≡ Some q → HasConfirmed (meaning q) st me x me')
          nothing
          (reads meaning o sizes id shared.few.1 st me c.requires.of.alone c.args.s c.requires.stage c.requires.direct),
    )

pub returns-clause-left : goal.returns-clause-left
returns-clause-left g c copy stage =
    let me = c.args.seat.now.me in
    subst (λ (z : Sizes). IsLeft me (confirms (local_of me) c.args.s (read_image z copy).state c.load.result) c.load.new.seat.me) c.requires.of.sizes
    (c.load.ensures.2 c.args.self.now.setup.object c.requires.of.object c.args.s copy stage).0

pub returns-clause-later : goal.returns-clause-later
returns-clause-later g c same = ((c.load.ensures.2 c.args.self.now.setup.object c.requires.of.object c.args.s c.requires.stage.0 c.requires.stage.1).1 same).1

pub returns-clause-widths : goal.returns-clause-widths
returns-clause-widths g c same =
    let of = c.requires.of in
    subst (λ z. AreWidths (g.O.SmallObject.meaning c.args.self.now.setup.object) z) of.sizes
    ((c.load.ensures.2 c.args.self.now.setup.object of.object c.args.s c.requires.stage.0 c.requires.stage.1).1 same).0

pub returns-clause-told : goal.returns-clause-told
returns-clause-told g c copy stage same =
    let of = c.requires.of in
    let own = c.args.seat.now.me.0.known.local.own in
    let object = (g.O.SmallObject.meaning c.args.self.now.setup.object).object in
    let told = ((c.load.ensures.2 c.args.self.now.setup.object of.object c.args.s copy stage).1 same).2 in
    subst (λ q. IsVersion object c.args.self.now.setup.sizes.processes (record { process = q; calls = own } ∷ []) (version_in c.args.s) (read_image c.args.self.now.setup.sizes copy).state) of.first
    (subst (λ z. IsVersion object z.processes (record { process = c.args.seat.now.me.0.known.first; calls = own } ∷ []) (version_in c.args.s) (read_image z copy).state) of.sizes told)
