-- Lists with one element changed, or added.
use Rattle.cell_arena.proofs.Vocabulary.{AreEmpty, IsSome, List, Some, [], ap, arith, length, refl, slice_get, slice_index_or, slice_set, suc, zero, ℕ, ◌++◌, ◌<◌, ◌∷◌, ◌≡◌, ◌≢◌}

module _ {A : Type 0} where
  pub slice_get-set_same : (xs : List A) (i : ℕ) (x : A) → i < length xs → slice_get (slice_set xs i x) i ≡ Some x
  slice_get-set_same [] i x within = absurd (omega arith)
  slice_get-set_same (y ∷ ys) zero x within = refl
  slice_get-set_same (y ∷ ys) (suc i) x within = slice_get-set_same ys i x (omega arith)

  pub slice_get-set_other : (xs : List A) (i j : ℕ) (x : A) → j ≢ i → slice_get (slice_set xs i x) j ≡ slice_get xs j
  slice_get-set_other [] i j x other = refl
  slice_get-set_other (y ∷ ys) zero zero x other = absurd (other refl)
  slice_get-set_other (y ∷ ys) zero (suc j) x other = refl
  slice_get-set_other (y ∷ ys) (suc i) zero x other = refl
  slice_get-set_other (y ∷ ys) (suc i) (suc j) x other = slice_get-set_other ys i j x (λ same. other (ap suc same))

  pub slice_get-append_same : (xs : List A) (x : A) → slice_get (xs ++ x ∷ []) (length xs) ≡ Some x
  slice_get-append_same [] x = refl
  slice_get-append_same (y ∷ ys) x = slice_get-append_same ys x

  pub slice_get-append_other : (xs : List A) (x : A) (j : ℕ) → j ≢ length xs → slice_get (xs ++ x ∷ []) j ≡ slice_get xs j
  slice_get-append_other [] x zero other = absurd (other refl)
  slice_get-append_other [] x (suc j) other = refl
  slice_get-append_other (y ∷ ys) x zero other = refl
  slice_get-append_other (y ∷ ys) x (suc j) other = slice_get-append_other ys x j (λ same. other (ap suc same))

  -- what is there is within
  pub slice_get-within : (xs : List A) (i : ℕ) → IsSome (slice_get xs i) → i < length xs
  slice_get-within [] i there = absurd (cc)
  slice_get-within (y ∷ ys) zero there = omega arith
  slice_get-within (y ∷ ys) (suc i) there = let rest = slice_get-within ys i there in omega arith

  pub slice_get-there : (xs : List A) (i : ℕ) → i < length xs → IsSome (slice_get xs i)
  slice_get-there [] i within = absurd (omega arith)
  slice_get-there (y ∷ ys) zero within = refl
  slice_get-there (y ∷ ys) (suc i) within = slice_get-there ys i (omega arith)

  -- a row that isn't empty is one of the rows
  pub slice_index_or-within : (rows : List (List A)) (p k : ℕ) → k < length (slice_index_or rows p []) → p < length rows
  slice_index_or-within [] p k within = absurd (omega arith)
  slice_index_or-within (row ∷ rows) zero k within = omega arith
  slice_index_or-within (row ∷ rows) (suc p) k within = let rest = slice_index_or-within rows p k within in omega arith

  -- empty rows, and one more
  pub AreEmpty-append : (rows : List (List A)) → AreEmpty rows → AreEmpty (rows ++ [] ∷ [])
  AreEmpty-append [] empty zero within = refl
  AreEmpty-append [] empty (suc p) within = refl
  AreEmpty-append (row ∷ rows) empty zero within = empty 0 (omega arith)
  AreEmpty-append (row ∷ rows) empty (suc p) within = AreEmpty-append rows (λ q among. empty (suc q) (omega arith)) p (omega arith)
