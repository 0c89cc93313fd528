-- Every world that has the invariant has one list, and its log is a legal history.
use Rattle.uni_model.proofs.Vocabulary.{Anchor, Invariant, Invoked, IsSound, Name, None, Of, Option, Sequential, Some, WorldOf, [], after_of, ap, arith, before_of, cases_lt, cells_from, chain, era_calls, inl, inr, last_cell, last_of, length, map, new_of, option_map, option_map_or, refl, response_at, seq_of, slice_get, slice_get-map, state_after, subst, suc, sym, take, zero, ℕ, ◌+◌, ◌-◌, ◌∙◌, ◌∷◌, ◌≡◌, ◌≤◌}
use Rattle.uni_model.specs.OneList.{value_at, IsOneList, HasOneList, IsLegalLog, HasLegalLog}
use Rattle.uni_model.proofs.Chains.{calls_at, number_at, slice_get-cells_from, length-cells_from, slice_get-calls_at, invoked_past_anchor, response_at-calls_at}
use Rattle.uni_model.proofs.Simulation.{enough, calls_of-calls_at}
use Rattle.uni_model.proofs.Logged.{state_after-from, legal_from, settled_from}

module _ {S I R : Type 0} (object : Sequential S I R) (w : WorldOf S I R) (num : Name → ℕ) (last : ℕ) (sound : IsSound object w num last) where
  -- the number of the cell at a place
  number_at_place : (j : ℕ) (x : Name) → slice_get (Anchor ∷ chain w) j ≡ Some x → num x ≡ num Anchor + j
  number_at_place zero x at = let same : Anchor ≡ x = cc in let number : num Anchor ≡ num x = ap num same in omega arith
  number_at_place (suc j) x at = let number = number_at w.memory num last sound.numbered (era_calls w) Anchor x j at in omega arith

  -- the cell with a number stands at its place
  place_of_number : (j : ℕ) (x : Name) → num x ≡ num Anchor + j → slice_get (Anchor ∷ chain w) j ≡ Some x
  place_of_number zero x number =
      let first : 1 ≤ num Anchor = sound.numbered.first in
      ap (λ y. Some y) (sound.numbered.one_each Anchor x first (omega arith))
  place_of_number (suc j) x number =
      let top : num x ≤ last = sound.numbered.greatest x in
      let bound : last ≤ num Anchor + era_calls w = enough object w num last sound in
      slice_get-cells_from w.memory num last sound.numbered (era_calls w) Anchor x j sound.numbered.first (omega arith) (omega arith)

  -- each cell that has a number stands somewhere
  place_of_linked : (x : Name) → 1 ≤ num x → (j : ℕ) × (slice_get (Anchor ∷ chain w) j ≡ Some x)
  place_of_linked x linked =
      let least : num Anchor ≤ num x = sound.numbered.least x linked in
      (num x - num Anchor, place_of_number (num x - num Anchor) x (omega arith))

  pub length-chain : num Anchor + length (chain w) ≡ last
  length-chain = length-cells_from w.memory num last sound.numbered (era_calls w) Anchor sound.numbered.first (enough object w num last sound)

  -- the last cell has the last number
  pub number-last_of : (most : ℕ) (x : Name) → 1 ≤ num x → last ≤ num x + most → num (last_of x (cells_from most w.memory x)) ≡ last
  number-last_of zero x linked bound = let top : num x ≤ last = sound.numbered.greatest x in omega arith
  number-last_of (suc most) x linked bound = by_after (λ y h b. number-last_of most y h b) (after_of w.memory x) refl where
    by_after : ((y : Name) → 1 ≤ num y → last ≤ num y + most → num (last_of y (cells_from most w.memory y)) ≡ last) → (o : Option Name) → after_of w.memory x ≡ o
        → num (last_of x (option_map_or (λ y. y ∷ cells_from most w.memory y) o [])) ≡ last
    by_after rest None e = elim (cases_lt (num x) last) [
      | inl before ↦ absurd (let more = sound.numbered.goes_on x linked before in let f = more.1 in cc)
      | inr at_end ↦ let top : num x ≤ last = sound.numbered.greatest x in omega arith
    ]
    by_after rest (Some y) e = let n : num y ≡ num x + 1 = (sound.numbered.link x y e).1 in rest y (omega arith) (omega arith)

  nothing_after_last : after_of w.memory (last_cell w) ≡ None
  nothing_after_last = by_after (after_of w.memory (last_cell w)) refl where
    by_after : (o : Option Name) → after_of w.memory (last_cell w) ≡ o → o ≡ None
    by_after None e = refl
    by_after (Some y) e = absurd (
        let number : num (last_cell w) ≡ last = number-last_of (era_calls w) Anchor sound.numbered.first (enough object w num last sound) in
        let n : num y ≡ num (last_cell w) + 1 = (sound.numbered.link (last_cell w) y e).1 in
        let top : num y ≤ last = sound.numbered.greatest y in
        omega arith)

  -- the cell before a threaded one
  before_at : (j : ℕ) (x : Name) → num x ≡ num Anchor + j + 1 → 1 ≤ seq_of w.memory x → before_of w.memory x ≡ slice_get (Anchor ∷ chain w) j
  before_at j Anchor number threaded = absurd (omega arith)
  before_at j (Of p k) number threaded =
      let back = sound.back.threaded p k threaded in
      let link = sound.back.link back.0 (Of p k) back.1 in
      let n : num (Of p k) ≡ num back.0 + 1 = (sound.numbered.link back.0 (Of p k) link).1 in
      back.1 ∙ sym (place_of_number j back.0 (omega arith))

  module _ (start : S) (anchor : new_of w.memory Anchor ≡ Some (start, None)) where
    -- what is settled at a place is the value there
    value_settled : (j : ℕ) (x : Name) (v : S × Option R) → slice_get (chain w) j ≡ Some x → new_of w.memory x ≡ Some v
        → value_at object start (map (λ (c : Invoked I). c.inv) (calls_at w.memory (chain w))) j ≡ Some v
    value_settled j x v at settled =
        let number : num x ≡ num Anchor + (j + 1) = number_at w.memory num last sound.numbered (era_calls w) Anchor x j at in
        let top : num x ≤ last = sound.numbered.greatest x in
        let bound : last ≤ num Anchor + era_calls w = enough object w num last sound in
        let call = invoked_past_anchor w.memory num last sound.numbered sound.calls.linked x (omega arith) in
        let stands = slice_get-calls_at w.memory num last sound.numbered sound.calls.linked (era_calls w) Anchor x j sound.numbered.first number (omega arith) in
        let asked : slice_get (map (λ (c : Invoked I). c.inv) (calls_at w.memory (chain w))) j ≡ Some call.0.inv
        = slice_get-map (λ (c : Invoked I). c.inv) (calls_at w.memory (chain w)) j ∙ ap (option_map (λ (c : Invoked I). c.inv)) (stands ∙ call.1) in
        let state : v.0 ≡ state_after object start (take (suc j) (map (λ (c : Invoked I). c.inv) (calls_at w.memory (chain w))))
        = state_after-from object w num last sound (era_calls w) Anchor x (suc j) (start, None) v sound.numbered.first at anchor settled in
        let response : response_at object start (map (λ (c : Invoked I). c.inv) (calls_at w.memory (chain w))) j ≡ v.1
        = response_at-calls_at w.memory num last sound.numbered sound.calls.linked object sound.values sound.calls.anchor (era_calls w) Anchor x j
        (start, None) v sound.numbered.first number (omega arith) anchor settled in
        let more : j + 1 ≡ suc j = omega arith in
        rw asked (ap (λ s. Some (s, Some (object.answer (state_after object start (take j (map (λ (c : Invoked I). c.inv) (calls_at w.memory (chain w))))) call.0.inv)))
        (ap (λ k. state_after object start (take k (map (λ (c : Invoked I). c.inv) (calls_at w.memory (chain w))))) more ∙ sym state)
        ∙ ap (λ r. Some (v.0, r)) (rw asked at response))

    pub IsOneList-sound : IsOneList object w start
    IsOneList-sound = record {
      anchor = anchor;
      once = λ i j x at_i at_j. let a = number_at_place i x at_i in let b = number_at_place j x at_j in omega arith;
      end = nothing_after_last;
      number = λ j x at threaded.
          let number : seq_of w.memory x ≡ num x = sound.numbered.seq x threaded in
          let first : num Anchor ≡ seq_of w.memory Anchor = sound.numbered.anchor in
          let place = number_at w.memory num last sound.numbered (era_calls w) Anchor x j at in
          omega arith;
      written = λ j x at inside.
          let place = number_at w.memory num last sound.numbered (era_calls w) Anchor x j at in
          let all : num Anchor + length (chain w) ≡ last = length-chain in
          let number : seq_of w.memory x ≡ num x = sound.numbered.threaded x (omega arith) (omega arith) in
          omega arith;
      only = λ x threaded. place_of_linked x (subst (λ k. 1 ≤ k) (sound.numbered.seq x threaded) threaded);
      settled = λ j x at threaded. sound.values.threaded x threaded;
      value = λ j x v at settled. ap (λ cs. value_at object start (map (λ (c : Invoked I). c.inv) cs) j) (calls_of-calls_at w) ∙ value_settled j x v at settled;
      before = λ j x at threaded. before_at j x (let place = number_at w.memory num last sound.numbered (era_calls w) Anchor x j at in omega arith) threaded;
    }

    pub IsLegalLog-sound : IsLegalLog object w start
    IsLegalLog-sound = record {
      anchor = anchor;
      legal = legal_from object w num last sound (era_calls w) Anchor _ (start, None) sound.numbered.first anchor;
      answered = λ j e at inside. rw at at (settled_from object w num last sound (era_calls w) Anchor _ j sound.numbered.first inside);
    }

module _ {S I R : Type 0} (object : Sequential S I R) (w : WorldOf S I R) (inv : Invariant object w) where
  pub HasOneList-held : HasOneList object w
  HasOneList-held = let anchor = inv.2.values.anchor in (anchor.0, IsOneList-sound object w inv.0 inv.1 inv.2 anchor.0 anchor.1)

  pub HasLegalLog-held : HasLegalLog object w
  HasLegalLog-held = let anchor = inv.2.values.anchor in (anchor.0, IsLegalLog-sound object w inv.0 inv.1 inv.2 anchor.0 anchor.1)
