use Rattle.triple_buffers.proofs.Vocabulary.{Allows, HasStepped, ShowsContents, arith, none, step, subst, sym}
use Rattle.triple_buffers.proofs.Stepping.{steps}
use Rattle.triple_buffers.proofs.rule.Buffers.load.Goals as goal

pub load-requires : goal.load-requires
load-requires g c =
    let shared = c.args.self.now in
    let seat = c.args.party.now.seat in
    let party = c.requires.party in
    let slots = shared.table.shared.table_id.slots in
    let i = c.args.word in (
      party.table,
      (let w = shared.wide in let i = c.requires.word in omega arith),
      subst (λ key. Allows (ShowsContents key.layout (g.P.BufferRule.holds key.about)) slots seat.id seat.me i (λ n. n) (HasStepped g.M.WordPlay.then (step slots i 0 0 none) seat.me)) (sym shared.same)
          (steps shared.setup.layout (g.P.BufferRule.holds shared.setup.about) seat.id c.args.party.now.number seat.me party.own slots i (λ n. n) 0 0 g.M.WordPlay.then c.requires.word c.requires.rule),
    )
