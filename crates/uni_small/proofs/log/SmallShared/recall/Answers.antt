use Rattle.uni_small.proofs.Vocabulary.{AreWidths, HasRecalled, Some, arith, none, nothing, read_image, refl, step, subst, version_in, [], ℕ, ◌∷◌, ◌≡◌, Read, Sizes, sym, ◌∙◌}
use Rattle.uni_small.proofs.Allowed.{by_key}
use Rattle.uni_small.proofs.Loads.{recalls_on}
use Rattle.uni_small.specs.Final.{IsVersion}
use Rattle.uni_small.proofs.log.SmallShared.recall.Goals as goal

pub load-requires : goal.load-requires
load-requires g c =
    let shared = c.args.self.now in
    let sizes = shared.setup.sizes in
    let o = shared.setup.object in
    let meaning = g.O.SmallObject.meaning in
    let slots = shared.table.shared.table_id.slots in
    let id = c.args.seat.now.id in
    let me = c.args.seat.now.me in
    let i : ℕ = 0 in
    let st = step slots 0 0 0 none in (
      c.requires.table,
      (let q0 = shared.sized in omega arith),
      by_key meaning shared.table.shared.key shared.setup shared.same slots id me i 0 refl (λ x. x) (λ x me'. (q : _) → me.0.object ≡ Some q → HasRecalled (meaning q) st me x me')
          nothing
          (recalls_on meaning o sizes id shared.few.1 st me c.requires.of.alone (record { version = c.args.version; state = c.requires.read.0 }) c.requires.stage c.requires.read.1),
    )

pub returns-clause-left : goal.returns-clause-left
returns-clause-left g c =
    (c.load.ensures.2 c.args.self.now.setup.object c.requires.of.object (record { version = c.args.version; state = c.requires.read.0 }) c.requires.stage c.requires.read.1).0

pub returns-clause-later : goal.returns-clause-later
returns-clause-later g c same =
    ((c.load.ensures.2 c.args.self.now.setup.object c.requires.of.object (record { version = c.args.version; state = c.requires.read.0 }) c.requires.stage c.requires.read.1).1 same).1

pub returns-clause-widths : goal.returns-clause-widths
returns-clause-widths g c same =
    let of = c.requires.of in
    subst (λ z. AreWidths (g.O.SmallObject.meaning c.args.self.now.setup.object) z) of.sizes
    ((c.load.ensures.2 c.args.self.now.setup.object of.object (record { version = c.args.version; state = c.requires.read.0 }) c.requires.stage c.requires.read.1).1 same).0

pub returns-clause-told : goal.returns-clause-told
returns-clause-told g c read had same =
    let of = c.requires.of in
    let own = c.args.seat.now.me.0.known.local.own in
    let object = (g.O.SmallObject.meaning c.args.self.now.setup.object).object in
    let first : Read = record { version = c.args.version; state = c.requires.read.0 } in
    let e : Some first ≡ Some read = sym c.requires.read.1 ∙ had in
    let is : first ≡ read = cc in
    let told = ((c.load.ensures.2 c.args.self.now.setup.object of.object first c.requires.stage c.requires.read.1).1 same).2 in
    subst (λ (r : Read). IsVersion object c.args.self.now.setup.sizes.processes (record { process = c.args.p; calls = own } ∷ []) c.args.version r.state) is
    (subst (λ q. IsVersion object c.args.self.now.setup.sizes.processes (record { process = q; calls = own } ∷ []) c.args.version c.requires.read.0) of.first
    (subst (λ (z : Sizes). IsVersion object z.processes (record { process = c.args.seat.now.me.0.known.first; calls = own } ∷ []) c.args.version c.requires.read.0) of.sizes told))
