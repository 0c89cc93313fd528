use Rattle.uni_small.proofs.Vocabulary.{Joins, Rule, arith, nobody, subst, sym, took_in}
use Rattle.uni_small.proofs.Joining.{joins}
use Rattle.uni_small.proofs.seat.SmallSeat.take_in.Goals as goal

pub join_seat-requires : goal.join_seat-requires
join_seat-requires g c =
    let shared = c.args.shared.now in
    let mine = c.args.self.now.seat in
    let other = c.args.other.seat in (
      c.requires.seats.0.table,
      c.requires.seats.1.table,
      c.args.other.stands.2,
      (let a = shared.sized in omega arith),
      subst (λ key. Joins (Rule g.O.SmallObject.meaning key) mine.id mine.me.0 other.id other.me.0 (took_in mine.me.0 other.me.0) nobody) (sym shared.same)
          (joins g.O.SmallObject.meaning shared.setup.object shared.setup.sizes mine.id mine.me.0 other.id other.me.0 (let a = c.args.self.now.stands.1 in omega arith) c.args.other.stands.1 c.args.other.idle),
    )
