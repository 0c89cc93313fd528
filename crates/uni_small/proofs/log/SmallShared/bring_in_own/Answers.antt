use Rattle.uni_small.proofs.Vocabulary.{HasBroughtOwn, arith, current_word, either, eqb, refl, step, sym, takes_effect_own, local_of, length, refl, some, version_in, ℕ, ◌*◌, ◌+◌, ◌∙◌}
use Rattle.uni_small.proofs.Allowed.{by_key}
use Rattle.uni_small.proofs.Exchange.{brings_in_own}
use Rattle.uni_small.proofs.log.SmallShared.bring_in_own.Goals as goal

pub compare_exchange_with-requires : goal.compare_exchange_with-requires
compare_exchange_with-requires g c =
    let shared = c.args.self.now in
    let sizes = shared.setup.sizes in
    let o = shared.setup.object in
    let meaning = g.O.SmallObject.meaning in
    let slots = shared.table.shared.table_id.slots in
    let id = c.args.seat.now.id in
    let me = c.args.seat.now.me in
    let i : ℕ = 0 in
    let st = step slots 0 c.args.s c.args.new (some c.args.own.now) in
    let inv = c.args.own.now.invocation.items in (
      c.requires.table,
      (let q0 = shared.sized in omega arith),
      by_key meaning shared.table.shared.key shared.setup shared.same slots id me i 0 refl (λ found. either (eqb found c.args.s) c.args.new found) (λ x me'. HasBroughtOwn st me x me')
          (takes_effect_own (local_of me) me.0.known.first inv c.args.s c.requires.stage.1.0)
          (brings_in_own meaning o sizes id shared.few.1 st me c.requires.of.alone (g.met.O.SmallObject.steady o) c.requires.direct c.args.s (length (local_of me).own + 1) inv c.requires.whole refl c.requires.room c.requires.stage
          (c.requires.word ∙ (λ k. current_word (version_in c.args.s + 1) (2 * sym c.requires.of.first k + sym c.requires.spare.0 k))) c.args.own.now refl refl),
    )
