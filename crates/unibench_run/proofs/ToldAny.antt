-- Threads on any object whose calls are all made: their seats, and what they were told.
use Rattle.unibench_run.proofs.Vocabulary.{All-map, AreDone, Done, Global, InPlace, List, None, Sequential, Some, Vec, [], ap, arith, asked_in, at_of_map, call_in, drawn_by, length, length-map, map, map-append, seed_of, slice_get, slice_get-index, slice_get-map, slice_index_or, subst, sum_by, sum_by-le, sym, vec_len, ℕ, ◌*◌, ◌++◌, ◌+◌, ◌<◌, ◌^◌, ◌∙◌, ◌∷◌, ◌≡◌, ◌≤◌}
use Rattle.uni_any.specs.Seats.{IsSeatOf, known_calls, own_calls, pending_call, process_of}
use Rattle.uni_any.specs.declared.seat.AnySeat.{AnySeat}
use Rattle.uni_any.specs.declared.seat.AnyShared.{AnyShared}
use Rattle.uni_any.specs.declared.view.Returned.{Returned}
use Rattle.unibench_run.specs.Any.{HasClosed, HasMadeAny, IsAnyRun, told_of}

-- one call more is told as it was kept
pub any_told_more : {I R : Type 0} (own : List (I × InPlace R)) (call : I × InPlace R) (its all : List (Returned I (InPlace R))) (after version : ℕ) → own ≡ told_of its
    → all ≡ its ++ record { inv = call.0; reply = call.1; after = after; version = version } ∷ [] → own ++ call ∷ [] ≡ told_of all
any_told_more {I} {R} own call its all after version before are =
    ap (λ l. l ++ call ∷ []) before
    ∙ sym (map-append (λ (one : Returned I (InPlace R)). (one.inv, one.reply)) its (record { inv = call.0; reply = call.1; after = after; version = version } ∷ []))
    ∙ ap told_of (sym are)

module _ {O S I R : Type 0} (shared : AnyShared O S I (InPlace R)) where
  abbrev Seat : Type 0
  Seat = AnySeat O S I (InPlace R)

  module _ (read : ℕ → I) where
    abbrev DoneOf : Type 0
    DoneOf = Done Seat (I × InPlace R)

    abbrev pub any_seat_done : DoneOf → Seat
    any_seat_done one = one.seat

    abbrev pub any_list_done : DoneOf → Vec (I × InPlace R) Global
    any_list_done one = one.told

    abbrev items_of : Vec (I × InPlace R) Global → List (I × InPlace R)
    items_of own = own.items

    module _ (threads calls seed : ℕ) (done : List DoneOf) (are : AreDone (HasMadeAny shared) call_in read threads calls seed done) where
      pub any_few_told : threads ≤ 64 → calls ≤ 10000000
          → (length (map any_list_done done) < 2 ^ 32) × (sum_by vec_len (map any_list_done done) < 2 ^ 64)
      any_few_told few short =
          let many : length (map any_list_done done) ≡ threads = length-map done any_list_done ∙ are.many in
          let each = All-map (λ told. vec_len told ≤ 10000000) any_list_done done (λ k d below.
          let all = (are.each k (slice_index_or done k d) (slice_get-index done k d below)).many in omega (arith, all, short)) in
          let sum = sum_by-le vec_len 10000000 (map any_list_done done) each in
          (omega (arith, many, few), omega (arith, sum, many, few))

      pub any_long : length (map any_seat_done done) ≡ threads
      any_long = length-map done any_seat_done ∙ are.many

      -- the seat of process 0, with which the object is closed
      any_first : (seat : Seat) → 1 ≤ threads → seat ≡ slice_index_or (map any_seat_done done) 0 seat
          → (one : DoneOf) × (slice_get done 0 ≡ Some one) × (one.seat ≡ seat)
      any_first seat some is =
          at_of_map any_seat_done done 0 seat (slice_get-index (map any_seat_done done) 0 seat (let many = any_long in omega (arith, many, some)) ∙ ap Some (sym is))

      pub any_first_seat : (seat : Seat) → 1 ≤ threads → seat ≡ slice_index_or (map any_seat_done done) 0 seat → IsSeatOf shared seat
      any_first_seat seat some is = let first = any_first seat some is in subst (IsSeatOf shared) first.2 (are.each 0 first.0 first.1).made.is_seat

      -- the closed object's calls, and their replay, are those of a run of the threads
      pub any_run : {T : Type 0} (object : Sequential T I R) (text : T → List ℕ) (seat : Seat) → 1 ≤ threads
          → seat ≡ slice_index_or (map any_seat_done done) 0 seat
          → HasClosed object text threads (threads * calls) (known_calls seat) (map items_of (map any_list_done done))
          → IsAnyRun object read text threads calls seed (map items_of (map any_list_done done))
      any_run object text seat some is closed =
          let first = any_first seat some is in
          let its = (are.each 0 first.0 first.1).made in
          let process : process_of seat ≡ 0 = subst (λ s. process_of s ≡ 0) first.2 its.process in
          let own : slice_get (map items_of (map any_list_done done)) 0 ≡ Some (told_of (own_calls seat)) =
          slice_get-map items_of (map any_list_done done) 0 first.0.told (slice_get-map any_list_done done 0 first.0 first.1)
          ∙ ap Some (its.own ∙ ap (λ s. told_of (own_calls s)) first.2) in
          record {
            many = length-map (map any_list_done done) items_of ∙ length-map done any_list_done ∙ are.many;
            each = λ p own at.
                let list = at_of_map items_of (map any_list_done done) p own at in
                let one = at_of_map any_list_done done p list.0 list.1 in
                subst (λ l. asked_in l ≡ drawn_by read (seed_of seed p) calls) (ap items_of one.2 ∙ list.2) (are.each p one.0 one.1).asked;
            closing = known_calls seat;
            own = subst (λ q. slice_get (map items_of (map any_list_done done)) q ≡ Some (told_of (own_calls seat))) (sym process) own;
            idle = subst (λ s. pending_call s ≡ None) first.2 its.idle;
            closed = closed;
          }
