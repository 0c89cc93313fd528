-- A cursor along the list stands at a cell by its place.
use Rattle.uni_log.proofs.Vocabulary.{Anchor, Entry, Has, Invariant, List, Name, None, Option, Sequential, Some, WorldOf, [], after_of, ap, arith, chain, drop, invoked_at, length, log, refl, response_in, seq_of, slice_get, subst, suc, sym, take, zero, ℕ, ◌++◌, ◌+◌, ◌<◌, ◌^◌, ◌∙◌, ◌∷◌, ◌≡◌}
use Rattle.uni_model.proofs.Growing.{slice_get-log}
use Rattle.uni_log.proofs.Walk.{IsAlong, IsAlong-anchor, along-low, along-call, along-end, along-next}

module _ {A : Type 0} where
  -- what stands at a place is the first of what is left from there on
  pub drop-at : (xs : List A) (j : ℕ) (x : A) → slice_get xs j ≡ Some x → drop j xs ≡ x ∷ drop (suc j) xs
  drop-at [] j x at = absurd (cc)
  drop-at (y ∷ xs) zero x at = let same : y ≡ x = cc in ap (λ z. z ∷ xs) same
  drop-at (y ∷ xs) (suc j) x at = drop-at xs j x at

  -- what stands at a place is within the list, and is taken next
  pub within-at : (xs : List A) (j : ℕ) (x : A) → slice_get xs j ≡ Some x → j < length xs
  within-at [] j x at = absurd (cc)
  within-at (y ∷ xs) zero x at = omega arith
  within-at (y ∷ xs) (suc j) x at = let rest = within-at xs j x at in omega arith

  pub taken-more : (xs : List A) (j : ℕ) (x : A) → slice_get xs j ≡ Some x → take (j + 1) xs ≡ take j xs ++ x ∷ []
  taken-more xs j x at = let next : j + 1 ≡ suc j = omega arith in ap (λ k. take k xs) next ∙ taken xs j at where
    taken : (xs : List A) (j : ℕ) → slice_get xs j ≡ Some x → take (suc j) xs ≡ take j xs ++ x ∷ []
    taken [] j at = absurd (cc)
    taken (y ∷ xs) zero at = let same : y ≡ x = cc in ap (λ z. z ∷ []) same
    taken (y ∷ xs) (suc j) at = ap (λ ys. y ∷ ys) (taken xs j at)

  -- where nothing stands, all are taken
  pub all-taken : (xs : List A) (j : ℕ) → slice_get xs j ≡ None → take j xs ≡ xs
  all-taken [] zero none = refl
  all-taken [] (suc j) none = refl
  all-taken (y ∷ xs) zero none = absurd (cc)
  all-taken (y ∷ xs) (suc j) none = ap (λ ys. y ∷ ys) (all-taken xs j none)

  -- where nothing is left, nothing stands
  none-at : (xs : List A) (j : ℕ) → drop j xs ≡ [] → slice_get xs j ≡ None
  none-at [] j end = refl
  none-at (y ∷ xs) zero end = absurd (cc)
  none-at (y ∷ xs) (suc j) end = none-at xs j end

  -- before a place there is another
  earlier-at : (xs : List A) (first : A) (j : ℕ) (x : A) → slice_get xs j ≡ Some x → (y : A) × (slice_get (first ∷ xs) j ≡ Some y)
  earlier-at xs first zero x at = (first, refl)
  earlier-at [] first (suc j) x at = absurd (cc)
  earlier-at (z ∷ xs) first (suc j) x at = earlier-at xs z j x at

module _ {S I R : Type 0} (object : Sequential S I R) (w : WorldOf S I R) (inv : Invariant object w) (fits : seq_of w.memory Anchor + length (chain w) < 2 ^ 48) where
  -- a cell at a place has the number of that place, and after it comes what is left of the list
  pub along-at : (place : ℕ) (x : Name) → slice_get (Anchor ∷ chain w) place ≡ Some x → IsAlong w x (seq_of w.memory Anchor + place) (drop place (chain w))
  along-at zero x at =
      let same : Anchor ≡ x = cc in
      subst (λ y. IsAlong w y (seq_of w.memory Anchor + 0) (chain w)) same (IsAlong-anchor w object inv fits (seq_of w.memory Anchor + 0) (omega arith))
  along-at (suc place) x at =
      let before = earlier-at (chain w) Anchor place x at in
      let here = along-at place before.0 before.1 in
      let left = drop-at (chain w) place x at in
      by_after before.0 here left (after_of w.memory before.0) refl where
        by_after : (y : Name) → IsAlong w y (seq_of w.memory Anchor + place) (drop place (chain w)) → drop place (chain w) ≡ x ∷ drop (suc place) (chain w)
            → (o : Option Name) → after_of w.memory y ≡ o → IsAlong w x (seq_of w.memory Anchor + suc place) (drop (suc place) (chain w))
        by_after y here left None none = let end = along-end w y _ _ here none in absurd (cc)
        by_after y here left (Some z) after =
            let on = along-next w y _ _ here z after in
            let same : z ∷ on.0 ≡ x ∷ drop (suc place) (chain w) = sym on.1 ∙ left in
            let cell : z ≡ x = cc in
            let rest : on.0 ≡ drop (suc place) (chain w) = cc in
            let number : seq_of w.memory Anchor + place + 1 ≡ seq_of w.memory Anchor + suc place = omega arith in
            subst (λ n. IsAlong w x n (drop (suc place) (chain w))) number
            (subst (λ r. IsAlong w x (seq_of w.memory Anchor + place + 1) r) rest (subst (λ c. IsAlong w c (seq_of w.memory Anchor + place + 1) on.0) cell on.2))

  module _ (place : ℕ) (x : Name) (at : slice_get (Anchor ∷ chain w) place ≡ Some x) where
    -- the log has no entry at the place of the last cell
    pub cursor-end : after_of w.memory x ≡ None → None ≡ slice_get (log w) place
    cursor-end none =
        let end : slice_get (chain w) place ≡ None = none-at (chain w) place (along-end w x _ _ (along-at place x at) none) in
        sym (slice_get-log object w inv.0 inv.1 inv.2 place ∙ rw end refl)

    -- its number is within the limit
    pub along-number : seq_of w.memory Anchor + place < 2 ^ 48
    along-number = along-low w x _ _ (along-at place x at)

    module _ (y : Name) (after : after_of w.memory x ≡ Some y) where
      pub cursor-call : Has (invoked_at w.memory y)
      cursor-call = along-call w x _ _ (along-at place x at) y after

      -- the cell after it stands at the next place
      cursor-cell : slice_get (chain w) place ≡ Some y
      cursor-cell =
          let on = along-next w x _ _ (along-at place x at) y after in
          first-at (chain w) place on.0 on.1 where
            first-at : (xs : List Name) (j : ℕ) (later : List Name) → drop j xs ≡ y ∷ later → slice_get xs j ≡ Some y
            first-at [] zero later is = absurd (cc)
            first-at [] (suc j) later is = absurd (cc)
            first-at (z ∷ xs) zero later is = let same : z ≡ y = cc in ap (λ n. Some n) same
            first-at (z ∷ xs) (suc j) later is = first-at xs j later is

      pub cursor-next : slice_get (Anchor ∷ chain w) (place + 1) ≡ Some y
      cursor-next = let more : place + 1 ≡ suc place = omega arith in rw more cursor-cell

      -- and its entry is that of the log
      pub cursor-entry : (e : Entry I R) → e.number ≡ seq_of w.memory Anchor + place + 1 → invoked_at w.memory y ≡ Some e.call → e.response ≡ response_in w.memory y
          → Some e ≡ slice_get (log w) place
      cursor-entry e number call response =
          let same : seq_of w.memory Anchor + 1 + place ≡ e.number = omega (arith, number) in
          sym (slice_get-log object w inv.0 inv.1 inv.2 place ∙ rw (cursor-cell, call, ← response, same) refl)
