-- Threads on an object of several words whose calls are all made: their seats, and what they were told.
use Rattle.unibench_run.proofs.Vocabulary.{All, All-map, AreDone, Contains, Contains-append_left, Contains-append_right, Done, Global, HasMadeSmall, InPlace, IsDrawnList, HasHistory, IsReplayed, IsSmallRun, List, Some, Vec, [], ap, arith, at_of_map, call_in, calls_of, drop, flat_map, in_words_of, known_calls, length, length-map, map, map-append, placed, read_in_place, seed_of, slice_get, slice_get-index, slice_get-map, slice_index_or, subst, suc, sum_by, sum_by-le, sym, vec_len, zero, ℕ, ◌++◌, ◌+◌, ◌<◌, ◌^◌, ◌∙◌, ◌∷◌, ◌≡◌, ◌≤◌}
use Rattle.uni_small.specs.Belongs.{IsSeatOf}
use Rattle.uni_small.specs.Image.{Meaning}
use Rattle.uni_small.specs.View.{ProcessReturned, Returned}
use Rattle.uni_small.specs.declared.log.SmallShared.{SmallShared}
use Rattle.uni_small.specs.declared.seat.SmallSeat.{SmallSeat}
use Rattle.uni_words.proofs.Views.{first_there}

-- one call more is told as it was kept
pub told_more : {C R : Type 0} (asks : C → List ℕ) (reads : List ℕ → R) (own : List (C × InPlace R)) (call : C × InPlace R) (its all : List Returned) (returned : Returned)
    → map (in_words_of asks) own ≡ map (read_in_place reads) its → all ≡ its ++ returned ∷ [] → in_words_of asks call ≡ read_in_place reads returned
    → map (in_words_of asks) (own ++ call ∷ []) ≡ map (read_in_place reads) all
told_more asks reads own call its all returned before are kept =
    map-append (in_words_of asks) own (call ∷ []) ∙ ap (λ l. l ++ in_words_of asks call ∷ []) before
    ∙ ap (λ x. map (read_in_place reads) its ++ x ∷ []) kept ∙ sym (map-append (read_in_place reads) its (returned ∷ [])) ∙ ap (map (read_in_place reads)) (sym are)

module _ {O : Type 0} (shared : SmallShared O) where
  module _ {C R : Type 0} (asks : C → List ℕ) (reads : List ℕ → R) (read : ℕ → C) where
    abbrev DoneOf : Type 0
    DoneOf = Done (SmallSeat O) (C × InPlace R)

    abbrev pub seat_done : DoneOf → SmallSeat O
    seat_done one = one.seat

    abbrev pub list_done : DoneOf → Vec (C × InPlace R) Global
    list_done one = one.told

    abbrev pub told_done : DoneOf → ProcessReturned
    told_done one = calls_of one.seat

    abbrev items_of : Vec (C × InPlace R) Global → List (C × InPlace R)
    items_of own = own.items

    -- what a seat was told is among what the seats know
    known_there : (done : List DoneOf) (its : ProcessReturned) → Contains (map told_done done) its → Contains (flat_map known_calls (map seat_done done)) its
    known_there [] its has = absurd (let none = has.1 in omega (arith, none))
    known_there (one ∷ done) its (zero, below, is) =
        Contains-append_left (known_calls one.seat) (flat_map known_calls (map seat_done done)) its (subst (Contains (known_calls one.seat)) is (first_there (calls_of one.seat) one.seat.seat.me.0.known.taken))
    known_there (one ∷ done) its (suc i, below, is) =
        Contains-append_right (known_calls one.seat) (flat_map known_calls (map seat_done done)) its (known_there done its (i, omega (arith, below), is))

    module _ (threads calls seed : ℕ) (done : List DoneOf) (are : AreDone (HasMadeSmall shared asks reads) call_in read threads calls seed done) where
      pub small_seats : All (IsSeatOf shared) (map seat_done done)
      small_seats = All-map (IsSeatOf shared) seat_done done (λ k d below. (are.each k (slice_index_or done k d) (slice_get-index done k d below)).made.is_seat)

      pub few_told : threads ≤ 64 → calls ≤ 10000000 → (length (map list_done done) < 2 ^ 32) × (sum_by vec_len (map list_done done) < 2 ^ 64)
      few_told few short =
          let many : length (map list_done done) ≡ threads = length-map done list_done ∙ are.many in
          let each = All-map (λ told. vec_len told ≤ 10000000) list_done done (λ k d below.
          let whole = (are.each k (slice_index_or done k d) (slice_get-index done k d below)).many in omega (arith, whole, short)) in
          let sum = sum_by-le vec_len 10000000 (map list_done done) each in
          (omega (arith, many, few), omega (arith, sum, many, few))

      -- the closed object's calls, and their replay, are those of a run of the threads
      pub small_run : (meaning : Meaning) (tells : R → List ℕ) (last : List ℕ)
          → HasHistory (placed meaning).object threads (flat_map known_calls (map seat_done done)) last
          → IsReplayed meaning.object asks tells (map items_of (map list_done done)) (drop 1 last)
          → IsSmallRun meaning asks tells reads read threads calls seed (map items_of (map list_done done))
      small_run meaning tells last final replayed = record {
        told = map told_done done;
        many = length-map done told_done ∙ are.many;
        each = λ p its at.
            let one = at_of_map told_done done p its at in
            let made = are.each p one.0 one.1 in
            let own : slice_get (map items_of (map list_done done)) p ≡ Some one.0.told.items =
            slice_get-map items_of (map list_done done) p one.0.told (slice_get-map list_done done p one.0 one.1) in (
              one.0.told.items,
              own,
              subst (λ k. IsDrawnList asks reads read calls (seed_of seed p) p k one.0.told.items) one.2
                  (record { process = made.made.process; told = made.made.own; asked = made.asked }),
            );
        last = last;
        final = record {
          acts = final.acts;
          atomic = final.atomic;
          accepted = final.accepted;
          linearized = final.linearized;
          state = final.state;
          inside = final.inside;
          own = λ its has. final.own its (known_there done its has);
          calls_in_version = final.calls_in_version;
          rising = final.rising;
          stand = λ its has. final.stand its (known_there done its has);
        };
        replayed = replayed;
      }
