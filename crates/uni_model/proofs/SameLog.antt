-- Two memories with the same chain, calls and settled values have the same log.
use Rattle.uni_model.proofs.Vocabulary.{IsNumbered, Memory, Name, None, Option, Some, [], after_of, arith, cells_from, entries_from, invoked_at, option_map_or, refl, response_in, suc, zero, ℕ, ◌+◌, ◌∷◌, ◌≡◌, ◌≤◌}

module _ {S I R : Type 0} (m m' : Memory S I R) (num : Name → ℕ) (last : ℕ) (numbered : IsNumbered m num last)
    (calls : (x : Name) → 1 ≤ num x → invoked_at m' x ≡ invoked_at m x) (responses : (x : Name) → 1 ≤ num x → response_in m' x ≡ response_in m x) where
  pub entries_from-same : (most number : ℕ) (x : Name) → entries_from m' number (cells_from most m x) ≡ entries_from m number (cells_from most m x)
  entries_from-same zero number x = refl
  entries_from-same (suc most) number x = by_after (λ y. entries_from-same most (number + 1) y) (after_of m x) refl where
    by_after : ((y : Name) → entries_from m' (number + 1) (cells_from most m y) ≡ entries_from m (number + 1) (cells_from most m y)) → (o : Option Name) → after_of m x ≡ o
        → entries_from m' number (option_map_or (λ y. y ∷ cells_from most m y) o []) ≡ entries_from m number (option_map_or (λ y. y ∷ cells_from most m y) o [])
    by_after rest None e = refl
    by_after rest (Some y) e =
        let n : num y ≡ num x + 1 = (numbered.link x y e).1 in
        let linked : 1 ≤ num y = omega arith in
        rw (calls y linked, responses y linked, rest y) refl
