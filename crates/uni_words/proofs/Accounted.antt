-- Seats that are taken in one after another.
use Rattle.uni_words.proofs.Vocabulary.{All, All-append, All-contains, All-head, All-map, All-tail, Contains, Contains-append_left, Contains-append_right, Contains-push_cases, List, ProcessCalls, Seen, WordSeat, [], arith, calls_of, flat_map, inl, inr, known_calls, map, seen_by, subst, sym, ℕ, ◌++◌, ◌∷◌, ◌≡◌, ◌⊎◌}
use Rattle.uni_words.proofs.Views.{All-each, first_or, first_there}

-- what holds of each element of each list
All-flat_map : {A B : Type 0} (P : B → Type 0) (f : A → List B) (xs : List A) → All (λ x. All P (f x)) xs → All P (flat_map f xs)
All-flat_map P f [] all = λ k d inside. absurd (omega arith)
All-flat_map P f (x ∷ xs) all = All-append P (f x) (flat_map f xs) (All-head (λ x. All P (f x)) x xs all) (All-flat_map P f xs (All-tail (λ x. All P (f x)) x xs all))

-- another seat knows the calls of a seat, and has seen what it saw
abbrev pub IsKnown : (first x : WordSeat) → Type 0
IsKnown first x = Contains (known_calls first) (calls_of x) × ((t : Seen) → Contains (seen_by x) t → Contains (seen_by first) t)

-- the seat is still to be taken in, or it is known
abbrev pub IsAccounted : (rest : List WordSeat) (first x : WordSeat) → Type 0
IsAccounted rest first x = Contains rest x ⊎ IsKnown first x

pub accounted_first : (all rest : List WordSeat) (first : WordSeat) → all ≡ rest ++ first ∷ [] → All (IsAccounted rest first) all
accounted_first all rest first is = All-each (IsAccounted rest first) all (λ x has. elim (Contains-push_cases rest first x (subst (λ l. Contains l x) is has)) [
  | inl old ↦ inl old
  | inr same ↦ inr (subst (IsKnown first) same (first_there _ _, λ t has. has))
])

pub accounted_more : (all rest rest' : List WordSeat) (first first' seat : WordSeat) (more : List Seen) → rest ≡ seat ∷ rest' → known_calls first' ≡ known_calls first ++ known_calls seat → seen_by first' ≡ seen_by first ++ (seen_by seat ++ more) → All (IsAccounted rest first) all → All (IsAccounted rest' first') all
accounted_more all rest rest' first first' seat more is known seen were = All-each (IsAccounted rest' first') all (λ x has. elim (All-contains (IsAccounted rest first) all x were has) [
  | inl left ↦ elim (first_or seat rest' x (subst (λ l. Contains l x) is left)) [
    | inl same ↦ inr (subst (IsKnown first') same (
      subst (λ l. Contains l (calls_of seat)) (sym known) (Contains-append_right (known_calls first) (known_calls seat) (calls_of seat) (first_there _ _)),
      λ t has. subst (λ l. Contains l t) (sym seen) (Contains-append_right (seen_by first) (seen_by seat ++ more) t (Contains-append_left (seen_by seat) more t has)),
    ))
    | inr later ↦ inl later
  ]
  | inr there ↦ inr (
    subst (λ l. Contains l (calls_of x)) (sym known) (Contains-append_left (known_calls first) (known_calls seat) (calls_of x) there.0),
    λ t has. subst (λ l. Contains l t) (sym seen) (Contains-append_left (seen_by first) (seen_by seat ++ more) t (there.1 t has)),
  )
])

pub accounted_all : (all rest : List WordSeat) (first : WordSeat) → rest ≡ [] → All (IsAccounted rest first) all → (x : WordSeat) → Contains all x → IsKnown first x
accounted_all all rest first is are x has = elim (All-contains (IsAccounted rest first) all x are has) [
  | inl left ↦ absurd (let none : Contains [] x = subst (λ l. Contains l x) is left in let k = none.1 in omega arith)
  | inr there ↦ there
]

-- what is so of all that one seat knows and has seen is so of all seats that it knows
pub known_calls_of : (P : ProcessCalls ℕ ℕ → Type 0) (all : List WordSeat) (first : WordSeat) → ((x : WordSeat) → Contains all x → IsKnown first x)
    → ((c : ProcessCalls ℕ ℕ) → Contains (known_calls first) c → P c) → (c : ProcessCalls ℕ ℕ) → Contains (map calls_of all) c → P c
known_calls_of P all first known each c has = All-contains P (map calls_of all) c (All-map P calls_of all (All-each (λ x. P (calls_of x)) all (λ x there. each (calls_of x) (known x there).0))) has

pub known_seen : (P : Seen → Type 0) (all : List WordSeat) (first : WordSeat) → ((x : WordSeat) → Contains all x → IsKnown first x) → All P (seen_by first) → All P (flat_map seen_by all)
known_seen P all first known each = All-flat_map P seen_by all (All-each (λ x. All P (seen_by x)) all
    (λ x there. All-each P (seen_by x) (λ t has. All-contains P (seen_by first) t each ((known x there).1 t has))))
