-- A log in which each process's calls are those that its seat was told agrees with the seats.
use Rattle.uni_words.proofs.Vocabulary.{Agrees, All, All-contains, AreAllSeats, AreCallsOf, Contains, Entry, IsLegal, IsLogged, List, None, Option, Sequential, Some, WordLog, WordSeat, [], ap, calls_by, calls_of, inl, inr, length, length-map, logged_call, map, map-logged_call, number_cases, own_calls, refl, replied, response_at, slice_get, subst, suc, sym, zero, ℕ, ◌<◌, ◌∙◌, ◌∷◌, ◌≡◌}
use Rattle.seq_object.proofs.Legality.{IsLegalByPlaces-from_IsLegal}
use Rattle.uni_words.proofs.Comparing.{slice_get-map}
use Rattle.uni_words.proofs.Views.{first_there, later_there}
use Rattle.uni_words.proofs.Underway.{there_below}

Contains-at : {A : Type 0} (xs : List A) (i : ℕ) (x : A) → slice_get xs i ≡ Some x → Contains xs x
Contains-at [] i x e = absurd (let f : None ≡ Some x = e in cc)
Contains-at (y ∷ ys) zero x e = let same : y ≡ x = (let f : Some y ≡ Some x = e in cc) in subst (Contains (y ∷ ys)) same (first_there y ys)
Contains-at (y ∷ ys) (suc i) x e = later_there y ys x (Contains-at ys i x e)

pub at_of_map : {A B : Type 0} (f : A → B) (xs : List A) (i : ℕ) (b : B) → slice_get (map f xs) i ≡ Some b → (a : A) × (slice_get xs i ≡ Some a) × (f a ≡ b)
at_of_map f [] i b e = absurd (let g : None ≡ Some b = e in cc)
at_of_map f (x ∷ xs) zero b e = (x, refl, (let g : Some (f x) ≡ Some b = e in cc))
at_of_map f (x ∷ xs) (suc i) b e = at_of_map f xs i b e

-- an entry of a process whose calls have all their replies has its reply
responded : (p : ℕ) (log : List (Entry ℕ ℕ)) (own : List (ℕ × ℕ)) (place : ℕ) (e : Entry ℕ ℕ) → slice_get log place ≡ Some e → e.call.process ≡ p → calls_by p log ≡ map replied own → (r : ℕ) × (e.response ≡ Some r)
responded p [] own place e at same calls = absurd (let g : None ≡ Some e = at in cc)
responded p (x ∷ xs) own zero e at same calls = elim (number_cases x.call.process p) [
  | inl mine ↦ by_own own (rw mine.1 at calls)
  | inr other ↦ absurd (let here : x ≡ e = (let g : Some x ≡ Some e = at in cc) in other.0 (ap (λ (y : Entry ℕ ℕ). y.call.process) here ∙ same))
] where
  by_own : (own : List (ℕ × ℕ)) → (x.call.inv, x.response) ∷ calls_by p xs ≡ map replied own → (r : ℕ) × (e.response ≡ Some r)
  by_own [] f = absurd (cc)
  by_own (c ∷ cs) f =
      let here : x ≡ e = (let g : Some x ≡ Some e = at in cc) in
      let first : (x.call.inv, x.response) ≡ replied c = cc in
      (c.1, ap (λ (y : Entry ℕ ℕ). y.response) (sym here) ∙ ap (λ (y : ℕ × Option ℕ). y.1) first)
responded p (x ∷ xs) own (suc place) e at same calls = elim (number_cases x.call.process p) [
  | inl mine ↦ by_own (λ cs rest. responded p xs cs place e at same rest) own (rw mine.1 at calls)
  | inr other ↦ responded p xs own place e at same (rw other.1 at calls)
] where
  by_own : ((cs : List (ℕ × ℕ)) → calls_by p xs ≡ map replied cs → (r : ℕ) × (e.response ≡ Some r)) → (own : List (ℕ × ℕ)) → (x.call.inv, x.response) ∷ calls_by p xs ≡ map replied own → (r : ℕ) × (e.response ≡ Some r)
  by_own later [] f = absurd (cc)
  by_own later (c ∷ cs) f = let rest : calls_by p xs ≡ map replied cs = cc in later cs rest

pub agrees_all : {O : Type 0} (log : WordLog O) (object : Sequential ℕ ℕ ℕ) (entries : List (Entry ℕ ℕ)) (seats : List WordSeat) → AreAllSeats log seats
    → IsLegal object object.initial (map logged_call entries) → AreCallsOf log.setup.n entries
    → All (λ seat. IsLogged entries (calls_of seat)) seats → Agrees object entries (map own_calls seats)
agrees_all log object entries seats all legal inside told = record {
  right = λ place e at.
      let below : e.call.process < length seats = subst (λ k. e.call.process < k) (sym all.many) (inside place e at) in
      let seat = there_below seats e.call.process below in
      let given = responded e.call.process entries (own_calls seat.0) place e at refl (its e.call.process seat.0 seat.1) in
      let right = IsLegalByPlaces-from_IsLegal object object.initial (map logged_call entries) legal place (logged_call e) given.0 (slice_get-map logged_call entries place e at) given.1 in (
        given.1 ∙ sym right ∙ ap (λ is. response_at object object.initial is place) (map-logged_call entries),
        subst (λ k. e.call.process < k) (sym (length-map seats own_calls)) below,
      );
  calls = λ p own at.
      let seat = at_of_map own_calls seats p own at in
      its p seat.0 seat.1 ∙ ap (map replied) seat.2;
} where
  its : (p : ℕ) (seat : WordSeat) → slice_get seats p ≡ Some seat → calls_by p entries ≡ map replied (own_calls seat)
  its p seat at = subst (λ q. calls_by q entries ≡ map replied (own_calls seat)) (all.each p seat at)
      (All-contains (λ seat. IsLogged entries (calls_of seat)) seats seat told (Contains-at seats p seat at)).calls
