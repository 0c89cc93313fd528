use Rattle.uni_small.proofs.Vocabulary.{HasBrought, arith, current_word, either, eqb, none, refl, step, sym, takes_effect, version_in, ℕ, ◌*◌, ◌+◌, ◌∙◌}
use Rattle.uni_small.proofs.Allowed.{by_key}
use Rattle.uni_small.proofs.Exchange.{brings_in}
use Rattle.uni_small.proofs.log.SmallShared.bring_in.Goals as goal

pub compare_exchange-requires : goal.compare_exchange-requires
compare_exchange-requires g c =
    let shared = c.args.self.now in
    let sizes = shared.setup.sizes in
    let o = shared.setup.object in
    let meaning = g.O.SmallObject.meaning in
    let slots = shared.table.shared.table_id.slots in
    let id = c.args.seat.now.id in
    let me = c.args.seat.now.me in
    let i : ℕ = 0 in
    let st = step slots 0 c.args.s c.args.new none in (
      c.requires.table,
      (let q0 = shared.sized in omega arith),
      by_key meaning shared.table.shared.key shared.setup shared.same slots id me i 0 refl (λ found. either (eqb found c.args.s) c.args.new found) (λ x me'. HasBrought st me x me')
          (takes_effect c.args.s c.requires.stage.1.0)
          (brings_in meaning o sizes id shared.few.1 st me c.requires.of.alone (g.met.O.SmallObject.steady o) c.requires.announced c.args.tries c.args.s c.requires.stage (c.requires.word ∙ (λ k. current_word (version_in c.args.s + 1) (2 * sym c.requires.of.first k + sym c.requires.spare.0 k)))),
    )
