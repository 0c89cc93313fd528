-- Threads under a lock whose calls are made: their seats, and what the record has.
use Rattle.unibench_run.proofs.Vocabulary.{AreJobsDone, Err, IfOk, IsClosed, IsJobOf, IsLockedRun, IsPromised, Job, List, MakesCalls, Ok, OnOk, Recording, Result, SeatOf, Sequential, Some, ap, arith, asked_by, drawn_by, first_seat, first_seats, length, length-map-range_with_len, refl, seed_of, slice_get, slice_get-index, slice_get-map, slice_index_or, subst, suc, sym, zero, zero-add, ℕ, ◌<◌, ◌∙◌, ◌≡◌, ◌≤◌}
use Rattle.std.specs.List.{All}
use Rattle.unibench_run.proofs.DrawnBy.{at_of_range, none_is}
use Rattle.unibench_run.proofs.Told.{at_below}

-- a fact of a value, and others that hold where there is one
pub on_ok_of : {T E A B : Type 0} {P Q : T → Type 0} (r : Result T E) → IfOk r P → OnOk r A → OnOk r B → ((x : T) → P x → A → B → Q x) → IfOk r Q
on_ok_of (Ok x) p a b step = step x p a b
on_ok_of (Err e) p a b step = tt

pub on_ok : {T E P : Type 0} (r : Result T E) → P → OnOk r P
on_ok (Ok x) p = p
on_ok (Err e) p = tt

-- the seat of a process's job is its first one
pub first_at : {I R : Type 0} (n seed p : ℕ) (seats : List (SeatOf I R)) → seats ≡ first_seats n → (job : Job (SeatOf I R)) → IsJobOf seats seed p job
    → job.seat ≡ first_seat n p
first_at n seed p seats are job is = at_of_range (first_seat n) 0 n p job.seat (subst (λ l. slice_get l p ≡ Some job.seat) are is.0) ∙ ap (first_seat n) (zero-add p)

module _ {I R : Type 0} (read : ℕ → I) where
  -- the seats of so many processes, in order, each with receipts of the first calls that are drawn from its seed
  pub record AreCalled (n calls seed : ℕ) (seats : List (SeatOf I R)) : Type 0 where
    pub many : length seats ≡ n
    pub each : (p : ℕ) (seat : SeatOf I R) → slice_get seats p ≡ Some seat
        → (seat.process ≡ p) × (length seat.receipts ≤ calls) × (asked_by seat ≡ drawn_by read (seed_of seed p) (length seat.receipts))

  -- what came of the jobs of the first seats
  pub all_called : (n calls seed : ℕ) (seats done : List (SeatOf I R)) → seats ≡ first_seats n → AreJobsDone (λ job. MakesCalls read job calls) seats seed done
      → AreCalled n calls seed done
  all_called n calls seed seats done first are = record {
    many = are.many ∙ ap length first ∙ length-map-range_with_len (first_seat n) 0 n;
    each = λ p seat at.
        let its = are.each p seat at in (
          its.2.process ∙ ap (λ s. s.process) (first_at n seed p seats first its.0 its.1),
          its.2.few,
          its.2.asked ∙ ap (λ s. drawn_by read s (length seat.receipts)) its.1.1,
        );
  }

  module _ (n calls seed : ℕ) (seats : List (SeatOf I R)) (are : AreCalled n calls seed seats) where
    pub no_more : All (λ (seat : SeatOf I R). length seat.receipts ≤ calls) seats
    no_more = λ k d below. (are.each k (slice_index_or seats k d) (slice_get-index seats k d below)).1

    module _ {O S : Type 0} (sequential : O → Sequential S I R) (recorded : Recording O S I R) (closed : IsClosed sequential recorded seats) where
      -- the record has as many processes
      at_least : (m : ℕ) → n ≡ suc m → n ≤ recorded.processes
      at_least m is =
          let below : m < length seats = (let many = are.many in omega arith) in
          let seat = slice_index_or seats m (first_seat n m) in
          let its : seat.process ≡ m = (are.each m seat (slice_get-index seats m (first_seat n m) below)).0 in
          let less : seat.process < recorded.processes = closed.only m (first_seat n m) below in
          omega arith

      no_less : (m : ℕ) → n ≡ m → n ≤ recorded.processes
      no_less zero is = omega arith
      no_less (suc m) is = at_least m is

      at_most : ¬ (n < recorded.processes)
      at_most less =
          let one = closed.each n less in
          let none = none_is (λ (s : SeatOf I R). s.process) n seats
          (λ i s at. let its = (are.each i s at).0 in let below = at_below seats i s at in let many = are.many in omega arith) in
          omega (arith, one, none)

      pub processes_are : recorded.processes ≡ n
      processes_are = let low = no_less n refl in let high = at_most in omega arith

      -- where all calls are made, that is a run of the threads
      pub locked_run : All (λ (seat : SeatOf I R). length seat.receipts ≡ calls) seats → IsPromised sequential recorded → IsLockedRun sequential read n calls seed
      locked_run whole promised = record {
        recorded = recorded;
        seats = seats;
        many = are.many;
        each = λ p seat at.
            let its = are.each p seat at in
            let below = at_below seats p seat at in
            let here : slice_index_or seats p seat ≡ seat = (let e = sym (slice_get-index seats p seat below) ∙ at in cc) in
            let all : length seat.receipts ≡ calls = subst (λ (s : SeatOf I R). length s.receipts ≡ calls) here (whole p seat below) in
            (its.0, its.2 ∙ ap (drawn_by read (seed_of seed p)) all);
        processes = processes_are;
        closed = closed;
        promised = promised;
      }
