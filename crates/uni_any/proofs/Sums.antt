-- How many calls are in, of all processes.
use Rattle.uni_any.proofs.Vocabulary.{◌-◌, zero, List, Row, [], applied_of, arith, blank, fold, length, map, slice_index_or, suc, suc-mul, sum, ℕ, ◌*◌, ◌+◌, ◌<◌, ◌∷◌, ◌≡◌, ◌≤◌}

pub rows_most : {R : Type 0} (m : ℕ) (rows : List (Row R)) → ((i : ℕ) → i < length rows → (slice_index_or rows i blank).applied ≤ m) → sum (map applied_of rows) ≤ length rows * m
rows_most {R} m rows h = (let all : sum (map applied_of rows) ≤ 0 + length rows * m = from 0 rows h in omega arith) where
  from : (a : ℕ) (ys : List (Row R)) → ((i : ℕ) → i < length ys → (slice_index_or ys i blank).applied ≤ m) → fold (λ b x. b + x) a (map applied_of ys) ≤ a + length ys * m
  from a [] k = omega arith
  from a (y ∷ ys) k =
      let here : y.applied ≤ m = k 0 (omega arith) in
      let more : fold (λ b x. b + x) (a + y.applied) (map applied_of ys) ≤ (a + y.applied) + length ys * m = from (a + y.applied) ys (λ i below. k (suc i) (omega arith)) in
      let all : suc (length ys) * m ≡ length ys * m + m = suc-mul (length ys) m in
      omega arith

-- where no count falls and one rises, so does the sum
pub rows_rise : {R : Type 0} (xs ys : List (Row R)) (p : ℕ) → length xs ≡ length ys → p < length xs
    → ((i : ℕ) → i < length xs → (slice_index_or xs i blank).applied ≤ (slice_index_or ys i blank).applied) → (slice_index_or xs p blank).applied < (slice_index_or ys p blank).applied
    → sum (map applied_of xs) + 1 ≤ sum (map applied_of ys)
rows_rise {R} xs ys p long inside h rises = (let all : sum (map applied_of xs) + 1 ≤ sum (map applied_of ys) + (0 - 0) = from 0 0 xs ys p long inside h rises (omega arith) in omega arith) where
  same : (a b : ℕ) (xs ys : List (Row R)) → length xs ≡ length ys → ((i : ℕ) → i < length xs → (slice_index_or xs i blank).applied ≤ (slice_index_or ys i blank).applied) → a ≤ b
      → fold (λ b x. b + x) a (map applied_of xs) + (b - a) ≤ fold (λ b x. b + x) b (map applied_of ys)
  same a b [] [] long h less = omega arith
  same a b [] (y ∷ ys) long h less = absurd (omega arith)
  same a b (x ∷ xs) [] long h less = absurd (omega arith)
  same a b (x ∷ xs) (y ∷ ys) long h less =
      let here : x.applied ≤ y.applied = h 0 (omega arith) in
      let more = same (a + x.applied) (b + y.applied) xs ys (omega arith) (λ i below. h (suc i) (omega arith)) (omega arith) in
      omega arith

  from : (a b : ℕ) (xs ys : List (Row R)) (p : ℕ) → length xs ≡ length ys → p < length xs → ((i : ℕ) → i < length xs → (slice_index_or xs i blank).applied ≤ (slice_index_or ys i blank).applied)
      → (slice_index_or xs p blank).applied < (slice_index_or ys p blank).applied → a ≤ b → fold (λ b x. b + x) a (map applied_of xs) + 1 ≤ fold (λ b x. b + x) b (map applied_of ys) + (0 - 0)
  from a b [] ys p long inside h rises less = absurd (omega arith)
  from a b (x ∷ xs) [] p long inside h rises less = absurd (omega arith)
  from a b (x ∷ xs) (y ∷ ys) zero long inside h rises less =
      let more = same (a + x.applied) (b + y.applied) xs ys (omega arith) (λ i below. h (suc i) (omega arith)) (omega arith) in
      omega (arith, rises)
  from a b (x ∷ xs) (y ∷ ys) (suc p) long inside h rises less =
      let here : x.applied ≤ y.applied = h 0 (omega arith) in
      from (a + x.applied) (b + y.applied) xs ys p (omega arith) (omega arith) (λ i below. h (suc i) (omega arith)) rises (omega arith)
