use Rattle.triple_buffers.proofs.Vocabulary.{ShowsContents, arith, first_alone, others, subst, sym}
use Rattle.atomic_table.specs.Table.{Splits}
use Rattle.triple_buffers.proofs.Opening.{splits}
use Rattle.triple_buffers.proofs.Places.{place_inside}
use Rattle.triple_buffers.proofs.rule.Buffers.next_party.Goals as goal

pub split_seat-seat-requires : goal.split_seat-seat-requires
split_seat-seat-requires g c =
    let shared = c.args.self.now in
    let seat = c.args.parties.now.seat in
    let layout = shared.setup.layout in
    let left = g.M.Split.left seat.me.0.client in
    let right = g.M.Split.right seat.me.0.client in (
      c.requires.parties.table,
      (let w = shared.wide in let s = shared.small.0 in let a = place_inside layout 0 0 (omega (arith, s)) (omega (arith, s)) in omega arith),
      subst (λ key. Splits (ShowsContents key.layout (g.P.BufferRule.holds key.about)) seat.id seat.me.0 (others seat.me.0 left) (first_alone seat.me.0 right)) (sym shared.same)
          (splits layout (g.P.BufferRule.holds shared.setup.about) seat.id seat.me.0 left right (let m = c.requires.parties.many in let s = c.requires.some in omega arith) c.requires.rule),
    )
