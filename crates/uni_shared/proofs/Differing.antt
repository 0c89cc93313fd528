-- Two lists that differ at a place.
use Rattle.uni_shared.proofs.Vocabulary.{Bool, DiffersFirstAt, IfSome, IsMismatchOf, IsSameAt, List, None, Option, Receipt, Recording, SeatOf, Sequential, Some, [], ap, arith, completed_in, completed_of, completed_of_process, cond, drop, drop_more, events_shown, filter, filter-append, filter_map, get_or, inl, inr, invocation_by, length, map, meaning, nat_eq, number_cases, opening, refl, slice_get, slice_get_cases, subst, suc, sym, take, take-append-drop, true, zero, ℕ, ◌++◌, ◌+◌, ◌<◌, ◌∙◌, ◌∷◌, ◌≡◌, ◌≢◌, ◌≤◌, ◌⊎◌}
use Rattle.std.proofs.Common.{append-nil}
use Rattle.uni_record.specs.declared.event.Event.{Event as Stored}

-- a list up to a place, and then another one
before_place : {A : Type 0} (xs ys : List A) (n j : ℕ) → j < n → n ≤ length xs → slice_get (take n xs ++ ys) j ≡ slice_get xs j
before_place [] ys n j less h = absurd (omega arith)
before_place (x ∷ xs) ys zero j less h = absurd (omega arith)
before_place (x ∷ xs) ys (suc n) zero less h = refl
before_place (x ∷ xs) ys (suc n) (suc j) less h = before_place xs ys n j (omega arith) (omega arith)

at_place : {A : Type 0} (xs ys : List A) (n : ℕ) → n ≤ length xs → slice_get (take n xs ++ ys) n ≡ slice_get ys 0
at_place [] ys zero h = refl
at_place [] ys (suc n) h = absurd (omega arith)
at_place (x ∷ xs) ys zero h = refl
at_place (x ∷ xs) ys (suc n) h = at_place xs ys n (omega arith)

module _ {A : Type 0} (xs ys : List A) (n : ℕ) where
  -- the other list goes on with something else
  pub DiffersFirstAt-other : (x : A) (rest : List A) → n ≤ length xs → take n xs ++ x ∷ rest ≡ ys → slice_get xs n ≢ Some x → DiffersFirstAt xs ys n
  DiffersFirstAt-other x rest within is not = (
    λ same. not (same ∙ (ap (λ l. slice_get l n) (sym is) ∙ at_place xs (x ∷ rest) n within)),
    λ j less. sym (ap (λ l. slice_get l j) (sym is) ∙ before_place xs (x ∷ rest) n j less within),
  )

  -- the other list ends
  pub DiffersFirstAt-longer : n < length xs → take n xs ≡ ys → DiffersFirstAt xs ys n
  DiffersFirstAt-longer longer is =
      let whole : take n xs ++ [] ≡ ys = append-nil (take n xs) ∙ is in
      let none : slice_get ys n ≡ None = ap (λ l. slice_get l n) (sym whole) ∙ at_place xs [] n (omega arith) in (
        λ same. elim (slice_get_cases xs n).1 [
          | inl there ↦ (let some = there.2 in cc)
          | inr past ↦ (let p = past.0 in omega arith)
        ],
        λ j less. sym (ap (λ l. slice_get l j) (sym whole) ∙ before_place xs [] n j less (omega arith)),
      )

-- what a list comes to, split at an element that is kept
pub filter-split : {A : Type 0} (q : A → Bool) (xs : List A) (n : ℕ) (x : A) → n < length xs → x ≡ get_or xs n x → q x ≡ true → filter q (take n xs) ++ x ∷ filter q (drop (n + 1) xs) ≡ filter q xs
filter-split q xs n x there is kept =
    let rest = filter q (drop (n + 1) xs) in
    sym (ap (filter q) (sym (take-append-drop n xs)) ∙ filter-append q (take n xs) (drop n xs)
    ∙ ap (λ l. filter q (take n xs) ++ filter q l) (drop_more xs n x there)
    ∙ ap (λ y. filter q (take n xs) ++ cond (q y) (y ∷ rest) rest) (sym is)
    ∙ ap (λ b. filter q (take n xs) ++ cond b (x ∷ rest) rest) kept)

pub nat_eq-same : (n m : ℕ) → n ≡ m → nat_eq n m ≡ true
nat_eq-same n m is = elim (number_cases n m) [
  | inl same ↦ same.1
  | inr apart ↦ absurd (apart.0 is)
]

module _ {A B : Type 0} (xs ys : List A) (us vs : List B) where
  -- the first place at which one pair of lists differs
  abbrev pub DifferFirstAt : ℕ → Type 0
  DifferFirstAt j = ¬ (IsSameAt xs ys j × IsSameAt us vs j) × ((i : ℕ) → i < j → IsSameAt xs ys i × IsSameAt us vs i)

  pub DifferFirstAt-one : (j : ℕ) → DiffersFirstAt xs ys j → us ≡ vs → DifferFirstAt j
  DifferFirstAt-one j one other = (λ same. one.0 same.0, λ i less. (one.1 i less, ap (λ l. slice_get l i) other))

  pub DifferFirstAt-other : (j : ℕ) → xs ≡ ys → DiffersFirstAt us vs j → DifferFirstAt j
  DifferFirstAt-other j one other = (λ same. other.0 same.1, λ i less. (ap (λ l. slice_get l i) one, other.1 i less))

  pub DifferFirstAt-both : (a b j : ℕ) → DiffersFirstAt xs ys a → DiffersFirstAt us vs b → j ≤ a → j ≤ b → (j ≡ a) ⊎ (j ≡ b) → DifferFirstAt j
  DifferFirstAt-both a b j one other to_a to_b either = (
    elim either [
      | inl is ↦ λ same. one.0 (subst (IsSameAt xs ys) is same.0)
      | inr is ↦ λ same. other.0 (subst (IsSameAt us vs) is same.1)
    ],
    λ i less. (one.1 i (omega arith), other.1 i (omega arith)),
  )

  pub DifferFirstAt-found : (o p : Option ℕ) (j : ℕ) → (o ≡ None → xs ≡ ys) → IfSome o (DiffersFirstAt xs ys) → (p ≡ None → us ≡ vs) → IfSome p (DiffersFirstAt us vs)
      → ((a : ℕ) → o ≡ Some a → j ≤ a) → ((b : ℕ) → p ≡ Some b → j ≤ b) → (o ≡ Some j) ⊎ (p ≡ Some j) → DifferFirstAt j
  DifferFirstAt-found None None j same one same_other other to_a to_b either = elim either [
    | inl is ↦ absurd (cc)
    | inr is ↦ absurd (cc)
  ]
  DifferFirstAt-found (Some a) None j same one same_other other to_a to_b either = elim either [
    | inl is ↦ (let at : a ≡ j = cc in subst DifferFirstAt at (DifferFirstAt-one a one (same_other refl)))
    | inr is ↦ absurd (cc)
  ]
  DifferFirstAt-found None (Some b) j same one same_other other to_a to_b either = elim either [
    | inl is ↦ absurd (cc)
    | inr is ↦ (let at : b ≡ j = cc in subst DifferFirstAt at (DifferFirstAt-other b (same refl) other))
  ]
  DifferFirstAt-found (Some a) (Some b) j same one same_other other to_a to_b either = DifferFirstAt-both a b j one other (to_a a refl) (to_b b refl) (elim either [
    | inl is ↦ inl (let at : j ≡ a = cc in at)
    | inr is ↦ inr (let at : j ≡ b = cc in at)
  ])

-- what differs from the events of a seat's process is a mismatch of the seat
pub IsMismatchOf-differing : {O S I R : Type 0} (sequential : O → Sequential S I R) (recorded : Recording O S I R) (seat : SeatOf I R) (p nth : ℕ) (events : List (Stored I)) (receipts : List (Receipt I R))
    → seat.process ≡ p → events ≡ recorded.events → receipts ≡ seat.receipts
    → DifferFirstAt (map (λ (r : Receipt I R). r.inv) receipts) (filter_map (invocation_by p) events) (map completed_of receipts)
    (completed_of_process p (completed_in (meaning sequential recorded) (opening sequential recorded) (events_shown recorded.events))) nth
    → IsMismatchOf sequential recorded seat (record { process = p; nth = nth })
IsMismatchOf-differing {I = I} {R = R} sequential recorded seat p nth events receipts own stored held differ =
    let calls = completed_in (meaning sequential recorded) (opening sequential recorded) (events_shown recorded.events) in
    let of_events = subst (λ e. DifferFirstAt (map (λ (r : Receipt I R). r.inv) receipts) (filter_map (invocation_by p) e) (map completed_of receipts) (completed_of_process p calls) nth) stored differ in
    let of_seat = subst (λ l. DifferFirstAt (map (λ (r : Receipt I R). r.inv) l) (filter_map (invocation_by p) recorded.events) (map completed_of l) (completed_of_process p calls) nth) held of_events in
    let of_process = subst (λ q. DifferFirstAt (map (λ (r : Receipt I R). r.inv) seat.receipts) (filter_map (invocation_by q) recorded.events) (map completed_of seat.receipts) (completed_of_process q calls) nth) (sym own) of_seat in
    record { process = own; differs = of_process.0; same = of_process.1 }
