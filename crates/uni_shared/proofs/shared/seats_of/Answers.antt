use Rattle.uni_shared.proofs.Vocabulary.{arith, first_seat, map, range_with_len, subst, sym, ◌≡◌}
use Rattle.std.proofs.lemmas.List.FromFn.{map-range_with_len_more}
use Rattle.uni_shared.proofs.shared.seats_of.Goals as goal

pub loop-p-preserved : goal.loop-p-preserved
loop-p-preserved g c =
    rw (c.in_ok-push.ensures.items, c.loop-p.invariant, c.new.ensures) (sym (map-range_with_len_more (first_seat c.args.n) 0 c.loop-p.p c.loop-p.p (omega arith)))

pub returns : goal.returns
returns g c =
    let end : c.loop-p.p ≡ c.args.n = omega arith in
    subst (λ k. c.loop-p.seats.items ≡ map (first_seat c.args.n) (range_with_len 0 k)) end c.loop-p.invariant
