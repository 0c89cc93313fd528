-- Threads whose calls are all made: their seats, and what they were told.
use Rattle.unibench_run.proofs.Vocabulary.{Agrees, All, All-map, AreAllSeats, AreDone, Done, Global, HasMadeWords, IsRunOfThreads, IsSeatOf, List, None, Sequential, Some, Vec, [], ap, arith, asked_in, at_of_map, below_1000, call_in, length, length-map, map, own_calls, process_of, refl, slice_get, slice_get-index, slice_index_or, subst, suc, sym, told_to, vec_len, zero, ℕ, ◌<◌, ◌∙◌, ◌∷◌, ◌≡◌}
use Rattle.uni_model.specs.Chain.{Entry}
use Rattle.uni_words.specs.Belongs.{calls_of, processes_of}
use Rattle.uni_words.specs.Run.{IsLogOfRun}
use Rattle.uni_model.specs.ProcessCalls.{ProcessCalls}
use Rattle.uni_words.specs.declared.log.WordLog.{WordLog}
use Rattle.uni_words.specs.declared.seat.WordSeat.{WordSeat}

pub at_below : {A : Type 0} (l : List A) (i : ℕ) (a : A) → slice_get l i ≡ Some a → i < length l
at_below [] i a e = absurd (let f : None ≡ Some a = e in cc)
at_below (x ∷ xs) zero a e = omega arith
at_below (x ∷ xs) (suc i) a e = let h = at_below xs i a e in omega arith

-- functions that give the same of each element
pub map-same : {A B : Type 0} (f g : A → B) (xs : List A) → ((i : ℕ) (x : A) → slice_get xs i ≡ Some x → f x ≡ g x) → map f xs ≡ map g xs
map-same f g [] each = refl
map-same f g (x ∷ xs) each = ap (λ y. y ∷ map f xs) (each 0 x refl) ∙ ap (λ l. g x ∷ l) (map-same f g xs (λ i y at. each (suc i) y at))

pub map-map : {A B C : Type 0} (f : A → B) (g : B → C) (xs : List A) → map g (map f xs) ≡ map (λ x. g (f x)) xs
map-map f g [] = refl
map-map f g (x ∷ xs) = ap (λ l. g (f x) ∷ l) (map-map f g xs)

abbrev pub seat_in : Done WordSeat (ℕ × ℕ) → WordSeat
seat_in one = one.seat

abbrev pub list_in : Done WordSeat (ℕ × ℕ) → Vec (ℕ × ℕ) Global
list_in one = one.told

module _ {O : Type 0} (log : WordLog O) (threads calls seed : ℕ) (done : List (Done WordSeat (ℕ × ℕ)))
    (are : AreDone (HasMadeWords log) call_in below_1000 threads calls seed done) where
  pub done_seats : All (IsSeatOf log) (map seat_in done)
  done_seats = All-map (IsSeatOf log) seat_in done (λ k d below. (are.each k (slice_index_or done k d) (slice_get-index done k d below)).made.is_seat)

  pub all_seats : processes_of log ≡ threads → AreAllSeats log (map seat_in done)
  all_seats processes = record {
    many = length-map done seat_in ∙ are.many ∙ sym processes;
    each = λ p seat at. let one = at_of_map seat_in done p seat at in ap process_of (sym one.2) ∙ (are.each p one.0 one.1).made.process;
  }

  -- the calls of the seats are what their threads were told
  pub seats_told : map calls_of (map seat_in done) ≡ map told_to done
  seats_told = map-map seat_in calls_of done
      ∙ map-same (λ one. calls_of one.seat) told_to done (λ i one at. ap (λ (own : List (ℕ × ℕ)). record { process = process_of one.seat; calls = own }) (sym (are.each i one at).made.own))

  -- the lists that they were told
  pub lists_are : map own_calls (map seat_in done) ≡ map (λ (own : Vec (ℕ × ℕ) Global). own.items) (map list_in done)
  lists_are = map-map seat_in own_calls done ∙ map-same (λ one. own_calls one.seat) (λ one. one.told.items) done (λ i one at. sym (are.each i one at).made.own)
      ∙ sym (map-map list_in (λ (own : Vec (ℕ × ℕ) Global). own.items) done)

  pub lists_whole : All (λ told. vec_len told ≡ calls) (map list_in done)
  lists_whole = All-map (λ told. vec_len told ≡ calls) list_in done (λ k d below. (are.each k (slice_index_or done k d) (slice_get-index done k d below)).many)

  lists_told : map own_calls (map seat_in done) ≡ map (λ (its : ProcessCalls ℕ ℕ). its.calls) (map told_to done)
  lists_told = sym (map-map calls_of (λ (its : ProcessCalls ℕ ℕ). its.calls) (map seat_in done)) ∙ ap (map (λ (its : ProcessCalls ℕ ℕ). its.calls)) seats_told

  pub told_lists : map (λ (its : ProcessCalls ℕ ℕ). its.calls) (map told_to done) ≡ map (λ (own : Vec (ℕ × ℕ) Global). own.items) (map list_in done)
  told_lists = sym lists_told ∙ lists_are

  -- a log of a run of the seats' calls, with which they agree, is that of a run of the threads
  pub run_of_threads : (object : Sequential ℕ ℕ ℕ) (entries : List (Entry ℕ ℕ)) (seats : List WordSeat) → seats ≡ map seat_in done → IsLogOfRun object threads entries (map calls_of seats)
      → Agrees object entries (map own_calls seats) → IsRunOfThreads object threads calls seed (map told_to done)
  run_of_threads object entries seats seats_are run agrees = record {
    many = length-map done told_to ∙ are.many;
    each = λ p its at.
        let one = at_of_map told_to done p its at in
        let made = are.each p one.0 one.1 in
        (ap (λ (k : ProcessCalls ℕ ℕ). k.process) (sym one.2) ∙ made.made.process, ap (λ (k : ProcessCalls ℕ ℕ). asked_in k.calls) (sym one.2) ∙ made.asked);
    log = entries;
    run = subst (IsLogOfRun object threads entries) (ap (map calls_of) seats_are ∙ seats_told) run;
    agrees = subst (Agrees object entries) (ap (map own_calls) seats_are ∙ lists_told) agrees;
  }
