use Rattle.uni_words.proofs.Vocabulary.{Joins, Rule, arith, nobody, subst, sym, took_in}
use Rattle.uni_words.proofs.Joining.{joins}
use Rattle.uni_words.proofs.seat.WordSeat.take_in.Goals as goal

pub join_seat-requires : goal.join_seat-requires
join_seat-requires g c =
    let log = c.args.log.now in
    let seat = c.args.self.now.seat in
    let other = c.args.other.seat in (
      c.requires.seats.0.table,
      c.requires.seats.1.table,
      c.args.other.idle.6,
      (let a = log.sized in omega arith),
      subst (λ key. Joins (Rule g.O.WordObject.sequential key) seat.id seat.me.0 other.id other.me.0 (took_in seat.me.0 other.me.0) nobody) (sym log.same)
          (joins (g.O.WordObject.sequential log.setup.object) log.setup.k seat.id seat.me.0 (let one = c.args.self.now.idle.3 in omega arith) c.args.self.now.idle.5 other.id other.me.0 c.args.other.idle.3 c.args.other.idle.5 log.setup.n),
    )
