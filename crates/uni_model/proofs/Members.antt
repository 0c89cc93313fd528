-- Elements of lists by their places.
use Rattle.uni_model.proofs.Vocabulary.{Contains, List, None, Some, [], ap, get_or_from_slice_get, slice_get, slice_get-get_or, slice_get_within, suc, zero, ℕ, ◌++◌, ◌∙◌, ◌∷◌, ◌≡◌}

module _ {A : Type 0} where
  pub member : (xs : List A) (j : ℕ) (x : A) → slice_get xs j ≡ Some x → Contains xs x
  member xs j x at = (j, slice_get_within xs j x at, get_or_from_slice_get xs j x x at)

  pub place_of_member : (xs : List A) (x : A) → Contains xs x → (j : ℕ) × (slice_get xs j ≡ Some x)
  place_of_member xs x there = (there.0, slice_get-get_or xs there.0 x there.1 ∙ ap Some there.2)

  -- a list is split at an element
  pub split_at : (xs : List A) (j : ℕ) (x : A) → slice_get xs j ≡ Some x → (before : List A) × (after : List A) × (xs ≡ before ++ x ∷ after)
  split_at [] j x at = absurd (let e : None ≡ Some x = at in cc)
  split_at (y ∷ ys) zero x at = ([], ys, (let e : y ≡ x = (let f : Some y ≡ Some x = at in cc) in ap (λ z. z ∷ ys) e))
  split_at (y ∷ ys) (suc j) x at = let rest = split_at ys j x at in (y ∷ rest.0, rest.1, ap (λ zs. y ∷ zs) rest.2)
