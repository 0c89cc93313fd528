use Rattle.uni_any.proofs.Vocabulary.{View, ap, arith, others, subst, sym, ◌+◌, ◌-◌, ◌<◌, ◌∙◌, ◌≡◌}
use Rattle.uni_any.specs.Seats.{AreFirstSeats, object_of, processes_of, rest_of}
use Rattle.uni_any.proofs.Seating.{no_seat, one_more}
use Rattle.uni_any.proofs.seat.AnyShared.seats.Goals as goal

pub loop-p-init : goal.loop-p-init
loop-p-init g c =
    let shared = c.args.self.now in
    let n = processes_of shared in
    let all : n ≡ n - 0 = omega arith in
    record {
      parties = c.requires.parties.0;
      next = c.requires.parties.1;
      many = c.requires.parties.2 ∙ all;
      view = c.requires.view ∙ (λ k. record { object = object_of shared; known = record { processes = n; first = 0; count = all k; local = (rest_of g.O.SeqObject.sequential (object_of shared) n 0).known.local } });
      far = omega arith;
      seats = subst (λ xs. AreFirstSeats shared 0 xs) (sym c.in_ok-seats.ensures.items) (no_seat shared);
    }

pub seat-requires-clause-parties : goal.seat-requires-clause-parties
seat-requires-clause-parties g c = c.loop-p.invariant.parties

pub seat-requires-clause-next : goal.seat-requires-clause-next
seat-requires-clause-next g c =
    let i = c.loop-p.invariant in
    let below : c.loop-p.p < processes_of c.args.self.now = subst (λ k. c.loop-p.p < k) (ap (λ k. k.processes) c.key.ensures) c.loop-p-test.true in
    (i.next, (let m = i.many in omega (arith, below)), below)

pub seat-requires-clause-view : goal.seat-requires-clause-view
seat-requires-clause-view g c = c.loop-p.invariant.view

pub loop-p-preserved : goal.loop-p-preserved
loop-p-preserved g c =
    let shared = c.args.self.now in
    let n = processes_of shared in
    let p = c.loop-p.p in
    let i = c.loop-p.invariant in
    let s = c.in_ok-seat.ensures in
    let below : p < n = subst (λ k. p < k) (ap (λ k. k.processes) c.key.ensures) c.loop-p-test.true in
    let less : n - p - 1 ≡ n - (p + 1) = omega arith in
    record {
      parties = s.rest.0;
      next = s.rest.1;
      many = s.rest.2 ∙ ap (λ k. k - 1) i.many ∙ less;
      view = s.rest.3 ∙ ap (λ (z : View _ _ _ _). others z) i.view ∙ (λ k. record { object = object_of shared; known = record { processes = n; first = p + 1; count = less k; local = (rest_of g.O.SeqObject.sequential (object_of shared) n p).known.local } });
      far = omega (arith, below);
      seats = one_more g.O.SeqObject.sequential shared p c.loop-p.seats.items c.push.new.self.items c.in_ok-seat.seat i.seats c.in_ok-push.ensures.items s.seat;
    }

pub returns : goal.returns
returns g c =
    let shared = c.args.self.now in
    let whole : c.loop-p.p ≡ processes_of shared = (let e = ap (λ k. k.processes) c.key.ensures in let t = c.loop-p-test.false in let a = c.loop-p.invariant.far in omega (arith, e)) in
    subst (λ k. AreFirstSeats shared k c.loop-p.seats.items) whole c.loop-p.invariant.seats
