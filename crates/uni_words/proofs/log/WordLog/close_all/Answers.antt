use Rattle.uni_words.proofs.Vocabulary.{All-contains, All-head, All-same, All-tail, Contains-append_left, Contains-push, HasSeen, IsInOrder, IsLogged, IsSeatOf, List, ProcessCalls, WordSeat, [], acts_by, calls_of, into_iter_items, known_calls, log_in, nil_from_length, run_history, sequential_acts, subst, sym, ℕ, ◌++◌, ◌∙◌, ◌∷◌, ◌≡◌}
use Rattle.uni_words.proofs.Agreeing.{agrees_all}
use Rattle.uni_words.proofs.Accounted.{accounted_first, accounted_more, accounted_all, known_calls_of, known_seen}
use Rattle.uni_words.proofs.Views.{All-each}
use Rattle.uni_words.proofs.log.WordLog.close_all.Goals as goal

pub loop-seat-init : goal.loop-seat-init
loop-seat-init g c =
    let P : WordSeat → Type 0 = IsSeatOf c.args.self in
    let rest : List WordSeat = into_iter_items c.into_iter-seat-iterator.result in
    let same : rest ≡ c.pop.new.self.items = c.into_iter-seat-iterator.ensures.into_iter_gives.0 in
    let all : c.args.seats.items ≡ rest ++ c.in-Some.first ∷ [] = subst (λ l. c.args.seats.items ≡ l ++ c.in-Some.first ∷ []) (sym same) c.in-Some.ensures.items in
    let each = All-same P _ _ (sym all) c.requires.seats in (
      All-contains P _ c.in-Some.first each (Contains-push rest c.in-Some.first),
      All-each P rest (λ x has. All-contains P _ x each (Contains-append_left rest _ x has)),
      accounted_first c.args.seats.items rest c.in-Some.first all,
    )

pub take_in-requires : goal.take_in-requires
take_in-requires g c =
    let P : WordSeat → Type 0 = IsSeatOf c.args.self in
    record { seats = (c.loop-seat.invariant.0, All-head P c.in-Some-seat.seat (into_iter_items c.next.new.self) (All-same P _ _ (sym c.in-Some-seat.ensures.steps.0) c.loop-seat.invariant.1)) }

pub loop-seat-preserved : goal.loop-seat-preserved
loop-seat-preserved g c =
    let P : WordSeat → Type 0 = IsSeatOf c.args.self in (
      c.take_in.ensures.kept.0,
      All-tail P c.in-Some-seat.seat (into_iter_items c.next.new.self) (All-same P _ _ (sym c.in-Some-seat.ensures.steps.0) c.loop-seat.invariant.1),
      accounted_more c.args.seats.items _ (into_iter_items c.next.new.self) c.loop-seat.first c.take_in.new.self c.in-Some-seat.seat _ c.in-Some-seat.ensures.steps.0 c.take_in.ensures.known c.take_in.ensures.seen c.loop-seat.invariant.2,
    )

pub close_with-requires : goal.close_with-requires
close_with-requires g c = record { seat = c.loop-seat.invariant.0 }

pub returns-clause-known : goal.returns-clause-known
returns-clause-known g c =
    let P : ProcessCalls ℕ ℕ → Type 0 = IsLogged (log_in c.close_with.result) in
    let known = accounted_all c.args.seats.items _ c.loop-seat.first (nil_from_length _ (sym c.loop-seat.seat-iterator.rest.ok.0 ∙ c.in-None.ensures.steps.0)) c.loop-seat.invariant.2 in
    All-each (λ x. P (calls_of x)) c.args.seats.items
    (λ x has. All-contains P (known_calls c.loop-seat.first) (calls_of x) c.close_with.ensures.known (known x has).0)

pub returns-clause-execution : goal.returns-clause-execution
returns-clause-execution g c =
    let run = c.close_with.ensures.execution.0.0 in
    let object = g.O.WordObject.sequential c.args.self.setup.object in
    let known = accounted_all c.args.seats.items _ c.loop-seat.first (nil_from_length _ (sym c.loop-seat.seat-iterator.rest.ok.0 ∙ c.in-None.ensures.steps.0)) c.loop-seat.invariant.2 in (
      (
        record {
          events = run.events;
          accepted = run.accepted;
          one_era = run.one_era;
          universal = run.universal;
          real_time = run.real_time;
          responses = run.responses;
          joined = run.joined;
          acts = known_calls_of (λ its. acts_by its.process (run_history object c.args.self.setup.n run.events) ≡ sequential_acts its.process 0 its.calls) c.args.seats.items c.loop-seat.first known run.acts;
        },
        known_seen (HasSeen object c.args.self.setup.n run.events) c.args.seats.items c.loop-seat.first known c.close_with.ensures.execution.0.1,
      ),
      c.close_with.ensures.execution.1,
    )

pub returns-clause-seen : goal.returns-clause-seen
returns-clause-seen g c = (returns-clause-execution g c).0

pub returns-clause-run : goal.returns-clause-run
returns-clause-run g c = (returns-clause-seen g c).0

pub returns-clause-order : goal.returns-clause-order
returns-clause-order g c =
    let known = accounted_all c.args.seats.items _ c.loop-seat.first (nil_from_length _ (sym c.loop-seat.seat-iterator.rest.ok.0 ∙ c.in-None.ensures.steps.0)) c.loop-seat.invariant.2 in
    known_seen (IsInOrder (log_in c.close_with.result)) c.args.seats.items c.loop-seat.first known c.close_with.ensures.order

pub returns-clause-agrees : goal.returns-clause-agrees
returns-clause-agrees g c all =
    agrees_all c.args.self (g.O.WordObject.sequential c.args.self.setup.object) _ c.args.seats.items all c.close_with.ensures.legal c.close_with.ensures.inside (returns-clause-known g c)
