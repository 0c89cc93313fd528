use Rattle.uni_small.proofs.Vocabulary.{All-contains, All-head, All-same, All-tail, Contains, Contains-append_left, Contains-push, IsSeatOf, [], ap, append-nil, append_assoc, flat_map, into_iter_items, known_calls, nil_from_length, subst, sym, ◌++◌, ◌∙◌, ◌∷◌, ◌≡◌}
use Rattle.std.proofs.Common.{rules, arith}
use Rattle.uni_small.specs.Ended.{HasRunTo}
use Rattle.uni_small.proofs.Closing.{final_of_fewer, ran_of_fewer}
use Rattle.uni_small.proofs.Seating.{All-each, known_last}
use Rattle.uni_small.proofs.log.SmallShared.close_all.Goals as goal

pub loop-seat-init : goal.loop-seat-init
loop-seat-init g c =
    let P = IsSeatOf c.args.self in
    let rest = into_iter_items c.into_iter-seat-iterator.result in
    let same : rest ≡ c.pop.new.self.items = c.into_iter-seat-iterator.ensures.into_iter_gives.0 in
    let all : c.args.seats.items ≡ rest ++ c.in-Some.first ∷ [] = subst (λ l. c.args.seats.items ≡ l ++ c.in-Some.first ∷ []) (sym same) c.in-Some.ensures.items in
    let each = All-same P _ _ (sym all) c.requires.seats in (
      All-contains P _ c.in-Some.first each (Contains-push rest c.in-Some.first),
      All-each P rest (λ x has. All-contains P _ x each (Contains-append_left rest _ x has)),
      known_last c.args.seats.items rest c.in-Some.first all,
    )

pub take_in-requires : goal.take_in-requires
take_in-requires g c =
    let P = IsSeatOf c.args.self in
    record { seats = (c.loop-seat.invariant.0, All-head P c.in-Some-seat.seat (into_iter_items c.next.new.self) (All-same P _ _ (sym c.in-Some-seat.ensures.steps.0) c.loop-seat.invariant.1)) }

pub loop-seat-preserved : goal.loop-seat-preserved
loop-seat-preserved g c =
    let P = IsSeatOf c.args.self in
    let steps = c.in-Some-seat.ensures.steps.0 in
    let rest = into_iter_items c.next.new.self in (
      c.take_in.ensures.kept.0,
      All-tail P c.in-Some-seat.seat rest (All-same P _ _ (sym steps) c.loop-seat.invariant.1),
      λ its has. subst (λ l. Contains l its)
          (ap (λ l. known_calls c.loop-seat.first ++ flat_map known_calls l) steps
          ∙ sym (append_assoc (known_calls c.loop-seat.first) (known_calls c.in-Some-seat.seat) (flat_map known_calls rest))
          ∙ ap (λ l. l ++ flat_map known_calls rest) (sym c.take_in.ensures.known))
          (c.loop-seat.invariant.2 its has),
    )

pub close_with-requires : goal.close_with-requires
close_with-requires g c = record { seat = c.loop-seat.invariant.0; wide = c.requires.wide }

pub returns-clause-told : goal.returns-clause-told
returns-clause-told g c =
    let none = nil_from_length _ (sym c.loop-seat.seat-iterator.rest.ok.0 ∙ c.in-None.ensures.steps.0) in
    final_of_fewer (g.O.SmallObject.meaning c.args.self.setup.object).object c.args.self.setup.sizes.processes (known_calls c.loop-seat.first) (flat_map known_calls c.args.seats.items) c.close_with.new.state
    (λ its has. subst (λ l. Contains l its) (ap (λ l. known_calls c.loop-seat.first ++ flat_map known_calls l) none ∙ append-nil (known_calls c.loop-seat.first)) (c.loop-seat.invariant.2 its has)) c.close_with.ensures.told

pub returns-clause-ran : goal.returns-clause-ran
returns-clause-ran g c =
    let none = nil_from_length _ (sym c.loop-seat.seat-iterator.rest.ok.0 ∙ c.in-None.ensures.steps.0) in
    ran_of_fewer (g.O.SmallObject.meaning c.args.self.setup.object).object c.args.self.setup.sizes (known_calls c.loop-seat.first) (flat_map known_calls c.args.seats.items) c.close_with.new.state
    (λ its has. subst (λ l. Contains l its) (ap (λ l. known_calls c.loop-seat.first ++ flat_map known_calls l) none ∙ append-nil (known_calls c.loop-seat.first)) (c.loop-seat.invariant.2 its has)) c.close_with.ensures.ran

pub returns-in_default-clause-ran : goal.returns-in_default-clause-ran
returns-in_default-clause-ran g c =
    let empty : c.args.seats.items ≡ [] = first_of (search rules, grind (arith, rules)) in
    subst (λ l. HasRunTo (g.O.SmallObject.meaning c.args.self.setup.object).object c.args.self.setup.sizes (flat_map known_calls l) c.close.new.state) (sym empty) c.close.ensures.ran
