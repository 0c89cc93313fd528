-- The element at a place of a list, after one more element, and the place of the first that passes a test.
use Rattle.uni_audit.proofs.Vocabulary.{Bool, List, None, Some, [], ap, arith, cond, eqb, false, find, find_at, length, nat_lt, not, option_and_then, option_or, position, position_or_len, position_or_len_push, prefix_len-le-length, refl, slice_get, slice_get_past, suc, true, zero, ℕ, ◌++◌, ◌+◌, ◌∙◌, ◌∷◌, ◌≡◌, ◌≢◌, ◌≤◌}
use Rattle.std.proofs.lemmas.List.{length-append}
use Rattle.std.proofs.lemmas.Bool.Decides.{nat_tests}

-- the first place that passes among n elements, and among one more
more_place : (first n later longer : ℕ) (t : Bool) → first ≤ n → later ≡ cond (eqb first n) (n + cond t 0 1) first → longer ≡ n + 1
    → cond (nat_lt later longer) (Some later) None ≡ option_or (cond (nat_lt first n) (Some first) None) (cond t (Some n) None)
more_place first n later longer true within at long = grind (arith, nat_tests)
more_place first n later longer false within at long = grind (arith, nat_tests)

module _ {X : Type 0} where
  pub slice_get-more_last : (xs : List X) (x : X) → slice_get (xs ++ x ∷ []) (length xs) ≡ Some x
  slice_get-more_last [] x = refl
  slice_get-more_last (y ∷ ys) x = slice_get-more_last ys x

  pub slice_get-more_other : (xs : List X) (x : X) (i : ℕ) → i ≢ length xs → slice_get (xs ++ x ∷ []) i ≡ slice_get xs i
  slice_get-more_other [] x zero other = absurd (other refl)
  slice_get-more_other [] x (suc i) other = refl
  slice_get-more_other (y ∷ ys) x zero other = refl
  slice_get-more_other (y ∷ ys) x (suc i) other = slice_get-more_other ys x i (λ e. other (ap (λ n. suc n) e))

  -- the first that passes is at the first place that passes
  pub find_place : (test : X → Bool) (xs : List X) → find test xs ≡ option_and_then (slice_get xs) (position test xs)
  find_place test xs = find_at test xs ∙ by_within (nat_lt (position_or_len test xs) (length xs)) refl where
    by_within : (t : Bool) → nat_lt (position_or_len test xs) (length xs) ≡ t
        → slice_get xs (position_or_len test xs) ≡ option_and_then (slice_get xs) (cond t (Some (position_or_len test xs)) None)
    by_within true is = refl
    by_within false is = slice_get_past xs (position_or_len test xs) (grind (arith, nat_tests))

  -- one more element leaves that place, where there is one
  pub position-more : (test : X → Bool) (xs : List X) (x : X) → position test (xs ++ x ∷ []) ≡ option_or (position test xs) (cond (test x) (Some (length xs)) None)
  position-more test xs x =
      more_place (position_or_len test xs) (length xs) _ _ (test x) (prefix_len-le-length (λ y. not (test y)) xs) (position_or_len_push test xs x) (length-append xs (x ∷ []))
