use Rattle.triple_buffers.proofs.Vocabulary.{Allows, HasStepped, ShowsContents, arith, none, step, subst, sym}
use Rattle.std.specs.Bool.{◌==◌}
use Rattle.triple_buffers.proofs.Stepping.{steps}
use Rattle.triple_buffers.proofs.rule.Buffers.compare_exchange.Goals as goal
use prog.Atomic.{either}

pub compare_exchange-requires : goal.compare_exchange-requires
compare_exchange-requires g c =
    let shared = c.args.self.now in
    let seat = c.args.party.now.seat in
    let party = c.requires.party in
    let slots = shared.table.shared.table_id.slots in
    let i = c.args.word in
    let old = c.args.old in
    let new = c.args.new in (
      party.table,
      (let w = shared.wide in let i = c.requires.word in omega arith),
      subst (λ key. Allows (ShowsContents key.layout (g.P.BufferRule.holds key.about)) slots seat.id seat.me i (λ n. either (n == old) new n) (HasStepped g.M.WordPlay.then (step slots i old new none) seat.me)) (sym shared.same)
          (steps shared.setup.layout (g.P.BufferRule.holds shared.setup.about) seat.id c.args.party.now.number seat.me party.own slots i (λ n. either (n == old) new n) old new g.M.WordPlay.then c.requires.word c.requires.rule),
    )
