-- A word before the words of a state, and of a reply.
use Rattle.small_objects.proofs.Vocabulary.{IsReached, List, Meaning, [], ap, append-nil, arith, drop, drop_all, length, refl, slice_set, state_after, sym, take, take_all, ℕ, ◌++◌, ◌+◌, ◌<◌, ◌∙◌, ◌∷◌, ◌≡◌, ◌≤◌}
use borrow.Rule.Slice.PartMut.{put_mid}
use Rattle.small_objects.specs.Placed.{placed}

-- what is written behind the first word, which is written too
pub put_behind : (xs ys : List ℕ) (n k : ℕ) → 0 < length xs → length xs ≤ k + 1 → put_mid 1 k (slice_set xs 0 n) ys ≡ n ∷ ys
put_behind [] ys n k some whole = absurd (omega arith)
put_behind (x ∷ xs) ys n k some whole = ap (λ l. n ∷ (ys ++ l)) (drop_all k xs (omega (arith, whole))) ∙ ap (λ l. n ∷ l) (append-nil ys)

-- what stands behind it stays
pub kept_behind : (xs : List ℕ) (n k : ℕ) → length xs ≤ k + 1 → take k (drop 1 (slice_set xs 0 n)) ≡ drop 1 xs
kept_behind [] n k whole = take_all k [] (omega arith)
kept_behind (x ∷ xs) n k whole = take_all k xs (omega (arith, whole))

module _ (meaning : Meaning) where
  -- behind the count is the object's state
  state_behind : (state : List ℕ) (is : List (List ℕ)) → drop 1 (state_after (placed meaning).object state is) ≡ state_after meaning.object (drop 1 state) is
  state_behind state [] = refl
  state_behind state (i ∷ is) = state_behind ((placed meaning).object.next state i) is

  pub reached_behind : (state : List ℕ) → IsReached (placed meaning).object state → IsReached meaning.object (drop 1 state)
  reached_behind state reached = (reached.0, sym (state_behind (0 ∷ meaning.object.initial) reached.0) ∙ ap (drop 1) reached.1)
