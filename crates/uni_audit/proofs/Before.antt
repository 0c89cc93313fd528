-- Each element of a list, beside those before it.
use Rattle.uni_audit.proofs.Vocabulary.{Bool, List, Some, [], append-nil, append_assoc, arith, cond, count_by, false, list_any, or_from, or_parts, refl, slice_get, subst, suc, sum_by-cons, sym, take, true, zero, ℕ, ◌++◌, ◌+◌, ◌<◌, ◌∷◌, ◌≡◌}

module _ {X : Type 0} where
  -- P holds of each later element and those before it, the earlier ones among them
  abbrev pub EachAfter : (P : List X → X → Type 0) → (earlier later : List X) → Type 0
  EachAfter P earlier later = (i : ℕ) (x : X) → slice_get later i ≡ Some x → P (earlier ++ take i later) x

  pub EachAfter-none : (P : List X → X → Type 0) (earlier : List X) → EachAfter P earlier []
  EachAfter-none P earlier i x at = absurd (cc)

  pub EachAfter-cons : (P : List X → X → Type 0) (earlier : List X) (x : X) (later : List X) → P earlier x → EachAfter P (earlier ++ x ∷ []) later → EachAfter P earlier (x ∷ later)
  EachAfter-cons P earlier x later here rest zero y at =
      let same : x ≡ y = cc in
      subst (λ z. P (earlier ++ []) z) same (subst (λ xs. P xs x) (sym (append-nil earlier)) here)
  EachAfter-cons P earlier x later here rest (suc i) y at = subst (λ xs. P xs y) (append_assoc earlier (x ∷ []) (take i later)) (rest i y at)

  pub EachAfter-parts : (P : List X → X → Type 0) (earlier : List X) (x : X) (later : List X) → EachAfter P earlier (x ∷ later) → P earlier x × EachAfter P (earlier ++ x ∷ []) later
  EachAfter-parts P earlier x later each = (
    subst (λ xs. P xs x) (append-nil earlier) (each zero x refl),
    λ i y at. subst (λ xs. P xs y) (sym (append_assoc earlier (x ∷ []) (take i later))) (each (suc i) y at),
  )

  -- none of the first j elements passes a test
  pub none_before : (p : X → Bool) (xs : List X) (i j : ℕ) (x : X) → i < j → slice_get xs i ≡ Some x → list_any p (take j xs) ≡ false → p x ≡ false
  none_before p [] i j x less at none = absurd (cc)
  none_before p (y ∷ ys) i zero x less at none = absurd (omega arith)
  none_before p (y ∷ ys) zero (suc j) x less at none =
      let same : y ≡ x = cc in
      subst (λ z. p z ≡ false) same (or_parts (p y) (list_any p (take j ys)) none).0
  none_before p (y ∷ ys) (suc i) (suc j) x less at none = none_before p ys i j x (omega arith) at (or_parts (p y) (list_any p (take j ys)) none).1

  pub none_of_first : (p : X → Bool) (xs : List X) (j : ℕ) → ((i : ℕ) (x : X) → i < j → slice_get xs i ≡ Some x → p x ≡ false) → list_any p (take j xs) ≡ false
  none_of_first p [] zero none = refl
  none_of_first p [] (suc j) none = refl
  none_of_first p (y ∷ ys) zero none = refl
  none_of_first p (y ∷ ys) (suc j) none =
      or_from (p y) (list_any p (take j ys)) (none zero y (omega arith) refl) (none_of_first p ys j (λ i x less at. none (suc i) x (omega arith) at))

  -- an element that passes counts from its place on
  pub count_by-before : (p : X → Bool) (xs : List X) (i j : ℕ) (x : X) → i < j → slice_get xs i ≡ Some x → p x ≡ true → count_by p (take i xs) < count_by p (take j xs)
  count_by-before p [] i j x less at passes = absurd (cc)
  count_by-before p (y ∷ ys) i zero x less at passes = absurd (omega arith)
  count_by-before p (y ∷ ys) zero (suc j) x less at passes =
      let same : y ≡ x = cc in
      let counts : cond {A = ℕ} (p y) 1 0 ≡ 1 = rw (same, passes) refl in
      let none : count_by p (take zero (y ∷ ys)) ≡ 0 = refl in
      let more : count_by p (take (suc j) (y ∷ ys)) ≡ cond (p y) 1 0 + count_by p (take j ys) = sum_by-cons (λ z. cond (p z) 1 0) y (take j ys) in
      omega arith
  count_by-before p (y ∷ ys) (suc i) (suc j) x less at passes =
      let rest : count_by p (take i ys) < count_by p (take j ys) = count_by-before p ys i j x (omega arith) at passes in
      let low : count_by p (take (suc i) (y ∷ ys)) ≡ cond (p y) 1 0 + count_by p (take i ys) = sum_by-cons (λ z. cond (p z) 1 0) y (take i ys) in
      let high : count_by p (take (suc j) (y ∷ ys)) ≡ cond (p y) 1 0 + count_by p (take j ys) = sum_by-cons (λ z. cond (p z) 1 0) y (take j ys) in
      omega arith
