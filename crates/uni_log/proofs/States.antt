-- The state that is settled at a place of the list.
use Rattle.uni_log.proofs.Vocabulary.{Anchor, Bor, IfSome, Invariant, List, Name, None, Option, Sequential, Some, WorldOf, [], ap, arith, calls_of-calls_at, chain, era_calls, invocations_of, map, new_of, option_and_then, option_copied, option_map, refl, slice_get, state_after, state_after-from, suc, sym, take, ℕ, ◌+◌, ◌-◌, ◌<◌, ◌∙◌, ◌∷◌, ◌≡◌}
use Rattle.uni_model.specs.AtomicObject.{Invoked}
use Rattle.uni_log.specs.Log.{state_settled_at}

-- a state that is settled at a place of the list is the object's after so many invocations
state_folded : {S I R : Type 0} (object : Sequential S I R) (w : WorldOf S I R) → Invariant object w → (place : ℕ) (state : S) → state_settled_at w place ≡ Some state
    → (start : S) → new_of w.memory Anchor ≡ Some (start, None) → state ≡ state_after object start (take place (invocations_of w))
state_folded {S} {I} {R} object w inv place state is start at_start = by_cell (slice_get (Anchor ∷ chain w) place) refl is where
  by_new : (y : Name) → slice_get (Anchor ∷ chain w) place ≡ Some y → (o : Option (S × Option R)) → new_of w.memory y ≡ o → option_map (λ (new : S × Option R). new.0) o ≡ Some state
      → state ≡ state_after object start (take place (invocations_of w))
  by_new y at None e h = cc
  by_new y at (Some v) e h =
      let value : state ≡ v.0 = cc in
      value ∙ state_after-from object w inv.0 inv.1 inv.2 (era_calls w) Anchor y place (start, None) v inv.2.numbered.first at at_start e
      ∙ ap (λ cs. state_after object start (take place (map (λ (c : Invoked I). c.inv) cs))) (sym (calls_of-calls_at w))

  by_cell : (o : Option Name) → slice_get (Anchor ∷ chain w) place ≡ o
      → option_and_then (λ y. option_map (λ (new : S × Option R). new.0) (new_of w.memory y)) o ≡ Some state
      → state ≡ state_after object start (take place (invocations_of w))
  by_cell None at h = cc
  by_cell (Some y) at h = by_new y at (new_of w.memory y) refl h

-- the same of a state that is read
pub folded_behind : {S I R : Type 0} (object : Sequential S I R) (w : WorldOf S I R) → Invariant object w → (place : ℕ) (o : Option (Bor S)) → option_copied o ≡ state_settled_at w place
    → IfSome o (λ state. (start : S) → new_of w.memory Anchor ≡ Some (start, None) → state.now ≡ state_after object start (take place (invocations_of w)))
folded_behind object w inv place None is = tt
folded_behind object w inv place (Some state) is = λ start at_start. state_folded object w inv place state.now (sym is) start at_start

-- The walk along the list stands at a cell after so many: what comes then is the rest of the list.
pub place_past : {A : Type 0} (all rest : List A) (x : A) (count place : ℕ) → ((j : ℕ) → slice_get all (count + j) ≡ slice_get (x ∷ rest) j) → rest ≡ [] → count < place → slice_get all place ≡ None
place_past {A} all rest x count place whole end past =
    let later : count + suc (place - count - 1) ≡ place = omega arith in
    ap (slice_get all) (sym later) ∙ whole (suc (place - count - 1)) ∙ ap (λ (xs : List A). slice_get xs (place - count - 1)) end

pub place_at : {A : Type 0} (all rest : List A) (x : A) (count place : ℕ) → ((j : ℕ) → slice_get all (count + j) ≡ slice_get (x ∷ rest) j) → count ≡ place → slice_get all place ≡ Some x
place_at all rest x count place whole is =
    let same : count + 0 ≡ place = omega arith in
    ap (slice_get all) (sym same) ∙ whole 0

pub place_further : {A : Type 0} (all rest later : List A) (x y : A) (count : ℕ) → ((j : ℕ) → slice_get all (count + j) ≡ slice_get (x ∷ rest) j) → rest ≡ y ∷ later
    → (j : ℕ) → slice_get all (count + 1 + j) ≡ slice_get (y ∷ later) j
place_further {A} all rest later x y count whole goes j =
    let same : count + suc j ≡ count + 1 + j = omega arith in
    ap (slice_get all) (sym same) ∙ whole (suc j) ∙ ap (λ (xs : List A). slice_get xs j) goes
