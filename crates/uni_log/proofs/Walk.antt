-- The walk along the chain, cell by cell.
use Rattle.uni_log.proofs.Vocabulary.{Anchor, Has, Invariant, IsNumbered, List, Name, None, Of, Sequential, Some, WorldOf, [], after_of, ap, append_assoc, arith, cells_from, chain, enough, era_calls, inv_of, invoked_at, length, refl, seq_of, suc, sym, zero, ℕ, ◌++◌, ◌+◌, ◌<◌, ◌^◌, ◌∙◌, ◌∷◌, ◌≡◌, ◌≤◌}
use Rattle.uni_model.proofs.Chains.{invoked_past_anchor}
use Rattle.uni_model.proofs.OneLists.{length-chain}

-- The walk stands at a cell of the chain, with its number, and these cells come after it.
pub record IsAlong {S I R : Type 0} (w : WorldOf S I R) (at : Name) (seq : ℕ) (rest : List Name) : Type 0 where
  pub num : Name → ℕ
  pub last : ℕ
  pub numbered : IsNumbered w.memory num last
  pub calls : (p k : ℕ) → 1 ≤ num (Of p k) → Has (inv_of w.memory (Of p k))
  pub low : last < 2 ^ 48
  pub linked : 1 ≤ num at
  pub number : seq ≡ num at
  pub most : ℕ
  pub enough : last ≤ num at + most
  pub rest_is : rest ≡ cells_from most w.memory at

-- what was gone through, with what comes after it, stays the whole
pub walked-further : {A : Type 0} {all : List A} (so_far rest later : List A) (y : A) → rest ≡ y ∷ later → so_far ++ rest ≡ all → (so_far ++ y ∷ []) ++ later ≡ all
walked-further so_far rest later y rest_is whole = append_assoc so_far (y ∷ []) later ∙ ap (λ xs. so_far ++ xs) (sym rest_is) ∙ whole

module _ {S I R : Type 0} (w : WorldOf S I R) where
  -- it begins at the anchor
  pub IsAlong-anchor : (object : Sequential S I R) → Invariant object w → seq_of w.memory Anchor + length (chain w) < 2 ^ 48 → (seq : ℕ) → seq ≡ seq_of w.memory Anchor → IsAlong w Anchor seq (chain w)
  IsAlong-anchor object inv fits seq is = record {
    num = inv.0;
    last = inv.1;
    numbered = inv.2.numbered;
    calls = inv.2.calls.linked;
    low =
        let end : inv.0 Anchor + length (chain w) ≡ inv.1 = length-chain object w inv.0 inv.1 inv.2 in
        let anchor : inv.0 Anchor ≡ seq_of w.memory Anchor = inv.2.numbered.anchor in
        omega arith;
    linked = inv.2.numbered.first;
    number = is ∙ sym inv.2.numbered.anchor;
    most = era_calls w;
    enough = enough object w inv.0 inv.1 inv.2;
    rest_is = refl;
  }

  module _ (at : Name) (seq : ℕ) (rest : List Name) (along : IsAlong w at seq rest) where
    -- its number is within the limit
    pub along-low : seq < 2 ^ 48
    along-low =
        let at_is : seq ≡ along.num at = along.number in
        let greatest : along.num at ≤ along.last = along.numbered.greatest at in
        let low : along.last < 2 ^ 48 = along.low in
        omega arith

    -- where nothing is settled after the cell, the walk has come to the end
    pub along-end : after_of w.memory at ≡ None → rest ≡ []
    along-end none = along.rest_is ∙ nothing along.most where
      nothing : (most : ℕ) → cells_from most w.memory at ≡ []
      nothing zero = refl
      nothing (suc most) = rw none refl

    module _ (y : Name) (after : after_of w.memory at ≡ Some y) where
      -- the number of the cell after it
      along-number : (along.num y ≡ seq + 1) × (along.num y ≤ along.last)
      along-number =
          let at_is : seq ≡ along.num at = along.number in
          let n : along.num y ≡ along.num at + 1 = (along.numbered.link at y after).1 in
          (omega arith, along.numbered.greatest y)

      -- the call of the cell after it
      pub along-call : Has (invoked_at w.memory y)
      along-call =
          let at_is : seq ≡ along.num at = along.number in
          let n = along-number in
          let least : along.num Anchor ≤ along.num at = along.numbered.least at along.linked in
          invoked_past_anchor w.memory along.num along.last along.numbered along.calls y (omega arith)

      -- it goes on to that cell
      pub along-next : (later : List Name) × (rest ≡ y ∷ later) × IsAlong w y (seq + 1) later
      along-next = by_most along.most along.enough along.rest_is where
        by_most : (most : ℕ) → along.last ≤ along.num at + most → rest ≡ cells_from most w.memory at → (later : List Name) × (rest ≡ y ∷ later) × IsAlong w y (seq + 1) later
        by_most zero bound rest_is = absurd (let n = along-number in let at_is : seq ≡ along.num at = along.number in omega arith)
        by_most (suc most) bound rest_is = (
          cells_from most w.memory y,
          rest_is ∙ rw after refl,
          record {
            num = along.num;
            last = along.last;
            numbered = along.numbered;
            calls = along.calls;
            low = along.low;
            linked = let n = along-number in omega arith;
            number = sym along-number.0;
            most = most;
            enough = let n = along-number in let at_is : seq ≡ along.num at = along.number in omega arith;
            rest_is = refl;
          },
        )
