-- The log is a legal history of the object: what is settled along the chain is what the object makes of its calls.
use Rattle.uni_model.proofs.Vocabulary.{Anchor, Entry, IfSome, Invoked, IsLegal, IsSome, IsSomeAnd, IsSound, List, Name, None, Of, Option, Sequential, Some, WorldOf, [], after_of, ap, arith, cells_from, entries_from, inv_of, invoked_at, length, logged_call, map, new_of, option_map, option_map_or, refl, response_in, seq_of, slice_get, state_after, subst, suc, sym, take, zero, ℕ, ◌+◌, ◌<◌, ◌∷◌, ◌≡◌, ◌≢◌, ◌≤◌}
use Rattle.uni_model.proofs.Values.{response-settled}
use Rattle.uni_model.proofs.Chains.{calls_at, invoked_at-inv}

module _ {S I R : Type 0} (object : Sequential S I R) (w : WorldOf S I R) (num : Name → ℕ) (last : ℕ) (sound : IsSound object w num last) where
  -- a cell with no state yet is the last one
  pub unsettled_last : (most : ℕ) (y : Name) → 1 ≤ num y → new_of w.memory y ≡ None → cells_from most w.memory y ≡ []
  unsettled_last zero y linked none = refl
  unsettled_last (suc most) y linked none = by_after (after_of w.memory y) refl where
    by_after : (o : Option Name) → after_of w.memory y ≡ o → option_map_or (λ z. z ∷ cells_from most w.memory z) o [] ≡ []
    by_after None e = refl
    by_after (Some z) e = absurd (
        let n : num z ≡ num y + 1 = (sound.numbered.link y z e).1 in
        let top : num z ≤ last = sound.numbered.greatest z in
        let number : seq_of w.memory y ≡ num y = sound.numbered.threaded y linked (omega arith) in
        let settled = sound.values.threaded y (omega arith) in
        let new : new_of w.memory y ≡ Some settled.0 = settled.1 in
        cc)

  -- the calls of the cells after x answer as the object does from the state that is settled in x
  pub legal_from : (most : ℕ) (x : Name) (k : ℕ) (u : S × Option R) → 1 ≤ num x → new_of w.memory x ≡ Some u
      → IsLegal object u.0 (map logged_call (entries_from w.memory k (cells_from most w.memory x)))
  legal_from zero x k u linked settled = tt
  legal_from (suc most) x k u linked settled = by_after (λ y v h e. legal_from most y (k + 1) v h e) (after_of w.memory x) refl where
    by_new : (y : Name) → after_of w.memory x ≡ Some y → 1 ≤ num y → (i : I) → inv_of w.memory y ≡ Some i
        → ((v : S × Option R) → new_of w.memory y ≡ Some v → IsLegal object v.0 (map logged_call (entries_from w.memory (k + 1) (cells_from most w.memory y))))
        → (n : Option (S × Option R)) → new_of w.memory y ≡ n
        → IfSome (response_in w.memory y) (λ r. r ≡ object.answer u.0 i) × IsLegal object (object.next u.0 i) (map logged_call (entries_from w.memory (k + 1) (cells_from most w.memory y)))
    by_new y e linked_y i inv rest None new = (rw new tt, rw (unsettled_last most y linked_y new) tt)
    by_new y e linked_y i inv rest (Some v) new =
        let after = sound.values.after x y v e new in
        let state : u ≡ after.before = (let f = after.new_of_x in cc) in
        let asked : i ≡ after.inv = (let f = after.inv_of_y in cc) in
        let value : v ≡ (object.next u.0 i, Some (object.answer u.0 i)) = rw (state, asked) after.value in (
          rw (new, value) refl,
          subst (λ s. IsLegal object s (map logged_call (entries_from w.memory (k + 1) (cells_from most w.memory y)))) (ap (λ (t : S × Option R). t.0) value) (rest v new),
        )

    by_name : ((y : Name) (v : S × Option R) → 1 ≤ num y → new_of w.memory y ≡ Some v → IsLegal object v.0 (map logged_call (entries_from w.memory (k + 1) (cells_from most w.memory y))))
        → (y : Name) → after_of w.memory x ≡ Some y
        → IsLegal object u.0 (map logged_call (option_map_or (λ call. record { number = k; call = call; response = response_in w.memory y } ∷ entries_from w.memory (k + 1) (cells_from most w.memory y)) (invoked_at w.memory y) []))
    by_name rest Anchor e = tt
    by_name rest (Of p j) e = by_inv (inv_of w.memory (Of p j)) refl where
      by_inv : (o : Option I) → inv_of w.memory (Of p j) ≡ o
          → IsLegal object u.0 (map logged_call (option_map_or (λ call. record { number = k; call = call; response = response_in w.memory (Of p j) } ∷ entries_from w.memory (k + 1) (cells_from most w.memory (Of p j)))
          (option_map (λ i. record { process = p; nth = j; inv = i }) o) []))
      by_inv None is = tt
      by_inv (Some i) is =
          let n : num (Of p j) ≡ num x + 1 = (sound.numbered.link x (Of p j) e).1 in
          by_new (Of p j) e (omega arith) i is (λ v settled_y. rest (Of p j) v (omega arith) settled_y) (new_of w.memory (Of p j)) refl

    by_after : ((y : Name) (v : S × Option R) → 1 ≤ num y → new_of w.memory y ≡ Some v → IsLegal object v.0 (map logged_call (entries_from w.memory (k + 1) (cells_from most w.memory y))))
        → (o : Option Name) → after_of w.memory x ≡ o → IsLegal object u.0 (map logged_call (entries_from w.memory k (option_map_or (λ y. y ∷ cells_from most w.memory y) o [])))
    by_after rest None e = tt
    by_after rest (Some y) e = by_name rest y e

-- a list of one has it at place 0 alone
at_only : {A : Type 0} (x y : A) (place : ℕ) → slice_get (x ∷ []) place ≡ Some y → x ≡ y
at_only x y zero at = cc
at_only x y (suc place) at = cc

module _ {S I R : Type 0} (object : Sequential S I R) (w : WorldOf S I R) (num : Name → ℕ) (last : ℕ) (sound : IsSound object w num last) where
  not_anchor : (z : Name) (i : I) → inv_of w.memory z ≡ Some i → z ≢ Anchor
  not_anchor z i e same = let f = ap (inv_of w.memory) same in let none = sound.calls.anchor in cc

  -- what is settled at a place after x is the state after so many calls, from the state that is settled in x on
  pub state_after-from : (most : ℕ) (x y : Name) (place : ℕ) (u v : S × Option R) → 1 ≤ num x → slice_get (x ∷ cells_from most w.memory x) place ≡ Some y
      → new_of w.memory x ≡ Some u → new_of w.memory y ≡ Some v
      → v.0 ≡ state_after object u.0 (take place (map (λ (c : Invoked I). c.inv) (calls_at w.memory (cells_from most w.memory x))))
  state_after-from most x y zero u v linked at settled_x settled_y =
      let same : x ≡ y = cc in
      let value : v ≡ u = (let f = ap (new_of w.memory) same in cc) in
      ap (λ (t : S × Option R). t.0) value
  state_after-from zero x y (suc place) u v linked at settled_x settled_y = cc
  state_after-from (suc most) x y (suc place) u v linked at settled_x settled_y =
      by_after (λ z t g h e. state_after-from most z y place t v g h e settled_y) (after_of w.memory x) refl at where
        by_new : (z : Name) → after_of w.memory x ≡ Some z → 1 ≤ num z → slice_get (z ∷ cells_from most w.memory z) place ≡ Some y
            → ((t : S × Option R) → new_of w.memory z ≡ Some t → v.0 ≡ state_after object t.0 (take place (map (λ (c : Invoked I). c.inv) (calls_at w.memory (cells_from most w.memory z)))))
            → (o : Option (S × Option R)) → new_of w.memory z ≡ o
            → v.0 ≡ state_after object u.0 (take (suc place) (map (λ (c : Invoked I). c.inv) (calls_at w.memory (z ∷ cells_from most w.memory z))))
        by_new z e linked_z at_z rest None none = absurd (
            let only = rw (unsettled_last object w num last sound most z linked_z none) at at_z in
            let same : new_of w.memory z ≡ new_of w.memory y = ap (new_of w.memory) (at_only z y place only) in
            cc)
        by_new z e linked_z at_z rest (Some t) settled_z =
            let after = sound.values.after x z t e settled_z in
            let state : u ≡ after.before = (let f = after.new_of_x in cc) in
            let call = invoked_at-inv w.memory z after.inv after.inv_of_y (not_anchor z after.inv after.inv_of_y) in
            let next_state : object.next u.0 call.0.inv ≡ t.0 = rw (call.2, state) (sym (ap (λ (s : S × Option R). s.0) after.value)) in
            rw call.1 (rw next_state (rest t settled_z))

        by_after : ((z : Name) (t : S × Option R) → 1 ≤ num z → slice_get (z ∷ cells_from most w.memory z) place ≡ Some y → new_of w.memory z ≡ Some t
            → v.0 ≡ state_after object t.0 (take place (map (λ (c : Invoked I). c.inv) (calls_at w.memory (cells_from most w.memory z)))))
            → (o : Option Name) → after_of w.memory x ≡ o → slice_get (option_map_or (λ z. z ∷ cells_from most w.memory z) o []) place ≡ Some y
            → v.0 ≡ state_after object u.0 (take (suc place) (map (λ (c : Invoked I). c.inv) (calls_at w.memory (option_map_or (λ z. z ∷ cells_from most w.memory z) o []))))
        by_after rest None e at_o = cc
        by_after rest (Some z) e at_o =
            let n : num z ≡ num x + 1 = (sound.numbered.link x z e).1 in
            by_new z e (omega arith) at_o (λ t f. rest z t (omega arith) at_o f) (new_of w.memory z) refl

-- where an entry isn't the last, it has its response
abbrev pub IsSettledAt : {I R : Type 0} → List (Entry I R) → ℕ → Type 0
IsSettledAt es i = i + 1 < length es → IsSomeAnd (slice_get es i) (λ e. IsSome e.response)

module _ {S I R : Type 0} (object : Sequential S I R) (w : WorldOf S I R) (num : Name → ℕ) (last : ℕ) (sound : IsSound object w num last) where
  -- a cell past the anchor has its response, where the chain goes on after it
  settled_inside : (y : Name) → num Anchor < num y → num y < last → IsSome (response_in w.memory y)
  settled_inside Anchor past inside = absurd (omega arith)
  settled_inside (Of p k) past inside =
      let number : seq_of w.memory (Of p k) ≡ num (Of p k) = sound.numbered.threaded (Of p k) (omega arith) inside in
      let response = response-settled object w.memory num sound.values sound.back p k (omega arith) in
      rw response.1 refl

  -- where a cell has cells after it, it isn't the last
  goes_on : (most : ℕ) (y : Name) (k : ℕ) → 0 < length (entries_from w.memory k (cells_from most w.memory y)) → num y < last
  goes_on zero y k more = absurd (omega arith)
  goes_on (suc most) y k more = by_after (after_of w.memory y) refl more where
    by_after : (o : Option Name) → after_of w.memory y ≡ o → 0 < length (entries_from w.memory k (option_map_or (λ z. z ∷ cells_from most w.memory z) o [])) → num y < last
    by_after None e h = absurd (omega arith)
    by_after (Some z) e h = let n : num z ≡ num y + 1 = (sound.numbered.link y z e).1 in let top : num z ≤ last = sound.numbered.greatest z in omega arith

  -- each entry but the last has its response
  pub settled_from : (most : ℕ) (x : Name) (k i : ℕ) → 1 ≤ num x → IsSettledAt (entries_from w.memory k (cells_from most w.memory x)) i
  settled_from zero x k i linked more = absurd (omega arith)
  settled_from (suc most) x k i linked more = by_after (λ y j h. settled_from most y (k + 1) j h) (after_of w.memory x) refl more where
    by_call : (y : Name) → num y ≡ num x + 1 → ((j : ℕ) → 1 ≤ num y → IsSettledAt (entries_from w.memory (k + 1) (cells_from most w.memory y)) j) → (o : Option (Invoked I)) (i : ℕ)
        → IsSettledAt (option_map_or (λ call. record { number = k; call = call; response = response_in w.memory y } ∷ entries_from w.memory (k + 1) (cells_from most w.memory y)) o []) i
    by_call y n later None i h = absurd (omega arith)
    by_call y n later (Some call) zero h =
        let least : num Anchor ≤ num x = sound.numbered.least x linked in
        settled_inside y (omega arith) (goes_on most y (k + 1) (omega arith))
    by_call y n later (Some call) (suc j) h = later j (omega arith) (omega arith)

    by_after : ((y : Name) (j : ℕ) → 1 ≤ num y → IsSettledAt (entries_from w.memory (k + 1) (cells_from most w.memory y)) j) → (o : Option Name) → after_of w.memory x ≡ o
        → IsSettledAt (entries_from w.memory k (option_map_or (λ y. y ∷ cells_from most w.memory y) o [])) i
    by_after later None e h = absurd (omega arith)
    by_after later (Some y) e h = by_call y (sound.numbered.link x y e).1 (later y) (invoked_at w.memory y) i h
