-- Lists that are appended: their places, what the object makes of them, and legal histories.
use Rattle.uni_model.proofs.Vocabulary.{IsLegal, List, Sequential, Some, [], ap, arith, inl, inr, length, map, refl, response_at, slice_get, state_after, suc, take, zero, ℕ, ◌++◌, ◌+◌, ◌<◌, ◌∙◌, ◌∷◌, ◌≡◌, ◌≤◌, ◌⊎◌}
use Rattle.seq_object.specs.History.{Call}

module _ {A : Type 0} where
  pub slice_get-append_left : (xs ys : List A) (j : ℕ) (x : A) → slice_get xs j ≡ Some x → slice_get (xs ++ ys) j ≡ Some x
  slice_get-append_left [] ys j x at = cc
  slice_get-append_left (x ∷ xs) ys zero y at = at
  slice_get-append_left (x ∷ xs) ys (suc j) y at = slice_get-append_left xs ys j y at

  pub slice_get-append_right : (xs ys : List A) (j : ℕ) → slice_get (xs ++ ys) (length xs + j) ≡ slice_get ys j
  slice_get-append_right [] ys j = let e : 0 + j ≡ j = omega arith in ap (slice_get ys) e
  slice_get-append_right (x ∷ xs) ys j =
      let e : length (x ∷ xs) + j ≡ suc (length xs + j) = omega arith in
      ap (slice_get (x ∷ xs ++ ys)) e ∙ slice_get-append_right xs ys j

  -- a place is in the first part, or after it
  pub slice_get-append_cases : (xs ys : List A) (j : ℕ) (x : A) → slice_get (xs ++ ys) j ≡ Some x
      → (slice_get xs j ≡ Some x) ⊎ ((k : ℕ) × (j ≡ length xs + k) × (slice_get ys k ≡ Some x))
  slice_get-append_cases [] ys j x at = inr (j, (let e : j ≡ 0 + j = omega arith in e), at)
  slice_get-append_cases (x ∷ xs) ys zero y at = inl at
  slice_get-append_cases (x ∷ xs) ys (suc j) y at = elim (slice_get-append_cases xs ys j y at) [
    | inl prefix ↦ inl prefix
    | inr behind ↦ inr (behind.0, (let e = behind.1 in let f : suc j ≡ length (x ∷ xs) + behind.0 = omega arith in f), behind.2)
  ]

module _ {S I R : Type 0} (object : Sequential S I R) where
  pub state_after-append : (s : S) (is js : List I) → state_after object s (is ++ js) ≡ state_after object (state_after object s is) js
  state_after-append s [] js = refl
  state_after-append s (i ∷ is) js = state_after-append (object.next s i) is js

  pub response_at-append : (s : S) (is js : List I) (place : ℕ) → response_at object s (is ++ js) (length is + place) ≡ response_at object (state_after object s is) js place
  response_at-append s [] js place = let e : 0 + place ≡ place = omega arith in ap (response_at object s js) e
  response_at-append s (i ∷ is) js place =
      let e : length (i ∷ is) + place ≡ suc (length is + place) = omega arith in
      ap (response_at object s (i ∷ is ++ js)) e ∙ response_at-append (object.next s i) is js place

  -- a legal history, and a legal one from the state after it
  pub IsLegal-append : (s : S) (xs ys : List (Call I R)) → IsLegal object s xs → IsLegal object (state_after object s (map (λ (c : Call I R). c.inv) xs)) ys → IsLegal object s (xs ++ ys)
  IsLegal-append s [] ys first rest = rest
  IsLegal-append s (x ∷ xs) ys first rest = (first.0, IsLegal-append (object.next s x.inv) xs ys first.1 rest)

module _ {A : Type 0} where
  -- lists with the same elements at the same places
  same_elements : (xs ys : List A) → length xs ≡ length ys → ((j : ℕ) (y : A) → slice_get ys j ≡ Some y → slice_get xs j ≡ Some y) → xs ≡ ys
  same_elements [] [] long same = refl
  same_elements [] (y ∷ ys) long same = absurd (omega arith)
  same_elements (x ∷ xs) [] long same = absurd (omega arith)
  same_elements (x ∷ xs) (y ∷ ys) long same =
      let first : x ≡ y = (let e : Some x ≡ Some y = same 0 y refl in cc) in
      rw first (ap (λ zs. y ∷ zs) (same_elements xs ys (omega arith) (λ j z at. same (suc j) z at)))

  -- a list is a prefix and what stands behind it
  pub take-split : (k : ℕ) (xs ys : List A) → length xs ≡ k + length ys → ((j : ℕ) (y : A) → slice_get ys j ≡ Some y → slice_get xs (k + j) ≡ Some y) → xs ≡ take k xs ++ ys
  take-split zero xs ys long same = same_elements xs ys (omega arith) (λ j y at. let e : j ≡ 0 + j = omega arith in ap (slice_get xs) e ∙ same j y at)
  take-split (suc k) [] ys long same = absurd (omega arith)
  take-split (suc k) (x ∷ xs) ys long same =
      ap (λ zs. x ∷ zs) (take-split k xs ys (omega arith) (λ j y at. let e : suc (k + j) ≡ suc k + j = omega arith in ap (slice_get (x ∷ xs)) e ∙ same j y at))

  pub take-same : (k : ℕ) (xs ys : List A) → k ≤ length xs → k ≤ length ys → ((j : ℕ) (x : A) → j < k → slice_get xs j ≡ Some x → slice_get ys j ≡ Some x) → take k xs ≡ take k ys
  take-same zero xs ys long_x long_y same = refl
  take-same (suc k) [] ys long_x long_y same = absurd (omega arith)
  take-same (suc k) (x ∷ xs) [] long_x long_y same = absurd (omega arith)
  take-same (suc k) (x ∷ xs) (y ∷ ys) long_x long_y same =
      let first : y ≡ x = (let e : Some y ≡ Some x = same 0 x (omega arith) refl in cc) in
      rw first (ap (λ zs. x ∷ zs) (take-same k xs ys (omega arith) (omega arith) (λ j z less at. same (suc j) z (omega arith) at)))
