-- The chain as a list of cells and of calls.
use Rattle.uni_model.proofs.Vocabulary.{AfterOf, AllByRecursion, Anchor, Entry, Has, HasValues, Invoked, IsNumbered, Link, List, Memory, Name, None, Of, Option, Sequential, Some, [], after_of, ap, arith, cases_lt, cells_from, entries_from, inl, inr, inv_of, invoked_at, length, map, memory_with, new_of, option_map, option_map_or, refl, response_at, response_in, seq_of, slice_get, suc, sym, zero, ℕ, ◌++◌, ◌+◌, ◌<◌, ◌∙◌, ◌∷◌, ◌≡◌, ◌≢◌, ◌≤◌}
use Rattle.uni_model.proofs.Written.{after_of-memory_with}
use Rattle.uni_model.proofs.Numbered.{end_number}

-- the calls of these cells
abbrev pub calls_at : {S I R : Type 0} → Memory S I R → List Name → List (Invoked I)
calls_at m [] = []
calls_at m (x ∷ xs) = option_map_or (λ call. call ∷ calls_at m xs) (invoked_at m x) []

module _ {S I R : Type 0} (m : Memory S I R) where
  pub map-entries_from : (number : ℕ) (xs : List Name) → map (λ (e : Entry I R). e.call) (entries_from m number xs) ≡ calls_at m xs
  map-entries_from number [] = refl
  map-entries_from number (x ∷ xs) = by_call (map-entries_from (number + 1) xs) (invoked_at m x) where
    by_call : map (λ (e : Entry I R). e.call) (entries_from m (number + 1) xs) ≡ calls_at m xs → (o : Option (Invoked I))
        → map (λ (e : Entry I R). e.call) (option_map_or (λ call. record { number = number; call = call; response = response_in m x } ∷ entries_from m (number + 1) xs) o [])
        ≡ option_map_or (λ call. call ∷ calls_at m xs) o []
    by_call rest None = refl
    by_call rest (Some call) = ap (λ cs. call ∷ cs) rest

  pub invoked_at-inv : (x : Name) (i : I) → inv_of m x ≡ Some i → x ≢ Anchor → (c : Invoked I) × (invoked_at m x ≡ Some c) × (c.inv ≡ i)
  invoked_at-inv Anchor i e apart = absurd (apart refl)
  invoked_at-inv (Of p k) i e apart = (record { process = p; nth = k; inv = i }, rw e refl, refl)

  module _ (m' : Memory S I R) where
    pub invoked_at-same : ((x : Name) → inv_of m' x ≡ inv_of m x) → (x : Name) → invoked_at m' x ≡ invoked_at m x
    invoked_at-same same Anchor = refl
    invoked_at-same same (Of p k) = ap (option_map (λ (i : I). record { process = p; nth = k; inv = i })) (same (Of p k))

    pub calls_at-kept : ((x : Name) → invoked_at m' x ≡ invoked_at m x) → (xs : List Name) → calls_at m' xs ≡ calls_at m xs
    calls_at-kept same [] = refl
    calls_at-kept same (x ∷ xs) = rw (same x, calls_at-kept same xs) refl

    pub cells_from-same : ((x : Name) → after_of m' x ≡ after_of m x) → (most : ℕ) (x : Name) → cells_from most m' x ≡ cells_from most m x
    cells_from-same same zero x = refl
    cells_from-same same (suc most) x = rw (same x) (by_after (λ y. cells_from-same same most y) (after_of m x)) where
      by_after : ((y : Name) → cells_from most m' y ≡ cells_from most m y) → (o : Option Name)
          → option_map_or (λ y. y ∷ cells_from most m' y) o [] ≡ option_map_or (λ y. y ∷ cells_from most m y) o []
      by_after rest None = refl
      by_after rest (Some y) = ap (λ ys. y ∷ ys) (rest y)

  module _ (num : Name → ℕ) (last : ℕ) (numbered : IsNumbered m num last) where
    -- the cell after x, where there is one
    next_number : (x y : Name) → after_of m x ≡ Some y → num y ≡ num x + 1
    next_number x y e = (numbered.link x y e).1

    -- a bound that is enough gives the whole chain
    pub cells_from-enough : (a b : ℕ) (x : Name) → last ≤ num x + a → last ≤ num x + b → cells_from a m x ≡ cells_from b m x
    cells_from-enough zero zero x ha hb = refl
    cells_from-enough zero (suc b) x ha hb = by_after (after_of m x) refl where
      by_after : (o : Option Name) → after_of m x ≡ o → [] ≡ option_map_or (λ y. y ∷ cells_from b m y) o []
      by_after None e = refl
      by_after (Some y) e = absurd (let n = next_number x y e in let bound = numbered.greatest y in omega arith)
    cells_from-enough (suc a) zero x ha hb = by_after (after_of m x) refl where
      by_after : (o : Option Name) → after_of m x ≡ o → option_map_or (λ y. y ∷ cells_from a m y) o [] ≡ []
      by_after None e = refl
      by_after (Some y) e = absurd (let n = next_number x y e in let bound = numbered.greatest y in omega arith)
    cells_from-enough (suc a) (suc b) x ha hb = by_after (λ y ga gb. cells_from-enough a b y ga gb) (after_of m x) refl where
      by_after : ((y : Name) → last ≤ num y + a → last ≤ num y + b → cells_from a m y ≡ cells_from b m y) → (o : Option Name) → after_of m x ≡ o
          → option_map_or (λ y. y ∷ cells_from a m y) o [] ≡ option_map_or (λ y. y ∷ cells_from b m y) o []
      by_after rest None e = refl
      by_after rest (Some y) e = let n = next_number x y e in ap (λ ys. y ∷ ys) (rest y (omega arith) (omega arith))

    -- the numbers of the chain's cells go on by one from that of x
    pub number_at : (most : ℕ) (x y : Name) (place : ℕ) → slice_get (cells_from most m x) place ≡ Some y → num y ≡ num x + (place + 1)
    number_at zero x y place e = cc
    number_at (suc most) x y place e = by_after (λ z k at. number_at most z y k at) (after_of m x) refl place e where
      by_after : ((z : Name) (k : ℕ) → slice_get (cells_from most m z) k ≡ Some y → num y ≡ num z + (k + 1)) → (o : Option Name) → after_of m x ≡ o
          → (k : ℕ) → slice_get (option_map_or (λ z. z ∷ cells_from most m z) o []) k ≡ Some y → num y ≡ num x + (k + 1)
      by_after rest None link k at = cc
      by_after rest (Some z) link zero at = let same : z ≡ y = cc in let n = next_number x z link in let e : num z ≡ num y = ap num same in omega arith
      by_after rest (Some z) link (suc k) at = let n = next_number x z link in let e = rest z k at in omega arith

    pub slice_get-cells_from : (most : ℕ) (x y : Name) (place : ℕ) → 1 ≤ num x → num y ≡ num x + (place + 1) → num y ≤ num x + most → slice_get (cells_from most m x) place ≡ Some y
    slice_get-cells_from zero x y place h at bound = absurd (omega arith)
    slice_get-cells_from (suc most) x y zero h at bound =
        let top : num y ≤ last = numbered.greatest y in
        let more = numbered.goes_on x h (omega arith) in
        let n : num more.0 ≡ num x + 1 = next_number x more.0 more.1 in
        let same : more.0 ≡ y = numbered.one_each more.0 y (omega arith) (omega arith) in
        rw more.1 (ap (λ z. Some z) same)
    slice_get-cells_from (suc most) x y (suc place) h at bound =
        let top : num y ≤ last = numbered.greatest y in
        let more = numbered.goes_on x h (omega arith) in
        let n : num more.0 ≡ num x + 1 = next_number x more.0 more.1 in
        rw more.1 (slice_get-cells_from most more.0 y place (omega arith) (omega arith) (omega arith))

    pub length-cells_from : (most : ℕ) (x : Name) → 1 ≤ num x → last ≤ num x + most → num x + length (cells_from most m x) ≡ last
    length-cells_from zero x h bound = let top = numbered.greatest x in omega arith
    length-cells_from (suc most) x h bound = by_after (λ y linked enough. length-cells_from most y linked enough) (after_of m x) refl where
      by_after : ((y : Name) → 1 ≤ num y → last ≤ num y + most → num y + length (cells_from most m y) ≡ last) → (o : Option Name) → after_of m x ≡ o
          → num x + length (option_map_or (λ y. y ∷ cells_from most m y) o []) ≡ last
      by_after rest None e = elim (cases_lt (num x) last) [
        | inl before ↦ absurd (let more = numbered.goes_on x h before in let f = more.1 in cc)
        | inr end ↦ let top = numbered.greatest x in omega arith
      ]
      by_after rest (Some y) e =
          let n = next_number x y e in
          let all : num y + length (cells_from most m y) ≡ last = rest y (omega arith) (omega arith) in
          omega arith

    -- what is said of the calls of linked cells is said of the chain's
    pub calls_at-same : (m' : Memory S I R) → ((x : Name) → 1 ≤ num x → invoked_at m' x ≡ invoked_at m x) → (most : ℕ) (x : Name)
        → calls_at m' (cells_from most m x) ≡ calls_at m (cells_from most m x)
    calls_at-same m' same zero x = refl
    calls_at-same m' same (suc most) x = by_after (λ y. calls_at-same m' same most y) (after_of m x) refl where
      by_after : ((y : Name) → calls_at m' (cells_from most m y) ≡ calls_at m (cells_from most m y)) → (o : Option Name) → after_of m x ≡ o
          → calls_at m' (option_map_or (λ y. y ∷ cells_from most m y) o []) ≡ calls_at m (option_map_or (λ y. y ∷ cells_from most m y) o [])
      by_after rest None e = refl
      by_after rest (Some y) e =
          let linked : 1 ≤ num y = (let n = next_number x y e in omega arith) in
          rw (same y linked, rest y) refl

    module _ (linked : (p k : ℕ) → 1 ≤ num (Of p k) → Has (inv_of m (Of p k))) where
      -- a cell past the anchor is that of a call
      pub invoked_past_anchor : (x : Name) → num Anchor < num x → Has (invoked_at m x)
      invoked_past_anchor Anchor h = absurd (omega arith)
      invoked_past_anchor (Of p k) h = let its = linked p k (omega arith) in (record { process = p; nth = k; inv = its.0 }, rw its.1 refl)

      pub calls_at-append : (most : ℕ) (x : Name) (ys : List Name) → 1 ≤ num x → calls_at m (cells_from most m x ++ ys) ≡ calls_at m (cells_from most m x) ++ calls_at m ys
      calls_at-append zero x ys h = refl
      calls_at-append (suc most) x ys h = by_after (λ y g. calls_at-append most y ys g) (after_of m x) refl where
        by_after : ((y : Name) → 1 ≤ num y → calls_at m (cells_from most m y ++ ys) ≡ calls_at m (cells_from most m y) ++ calls_at m ys) → (o : Option Name) → after_of m x ≡ o
            → calls_at m (option_map_or (λ y. y ∷ cells_from most m y) o [] ++ ys) ≡ calls_at m (option_map_or (λ y. y ∷ cells_from most m y) o []) ++ calls_at m ys
        by_after rest None e = refl
        by_after rest (Some y) e =
            let n : num y ≡ num x + 1 = next_number x y e in
            let least : num Anchor ≤ num x = numbered.least x h in
            let call = invoked_past_anchor y (omega arith) in
            rw (call.1, rest y (omega arith)) refl

      -- the call of a cell stands at its place in the chain
      pub slice_get-calls_at : (most : ℕ) (x y : Name) (place : ℕ) → 1 ≤ num x → num y ≡ num x + (place + 1) → num y ≤ num x + most
          → slice_get (calls_at m (cells_from most m x)) place ≡ invoked_at m y
      slice_get-calls_at zero x y place h at bound = absurd (omega arith)
      slice_get-calls_at (suc most) x y zero h at bound =
          let top : num y ≤ last = numbered.greatest y in
          let more = numbered.goes_on x h (omega arith) in
          let n : num more.0 ≡ num x + 1 = next_number x more.0 more.1 in
          let least : num Anchor ≤ num x = numbered.least x h in
          let call = invoked_past_anchor more.0 (omega arith) in
          let same : y ≡ more.0 = numbered.one_each y more.0 (omega arith) (omega arith) in
          rw (more.1, call.1) (sym (ap (invoked_at m) same ∙ call.1))
      slice_get-calls_at (suc most) x y (suc place) h at bound =
          let top : num y ≤ last = numbered.greatest y in
          let more = numbered.goes_on x h (omega arith) in
          let n : num more.0 ≡ num x + 1 = next_number x more.0 more.1 in
          let least : num Anchor ≤ num x = numbered.least x h in
          let call = invoked_past_anchor more.0 (omega arith) in
          rw (more.1, call.1) (slice_get-calls_at most more.0 y place (omega arith) (omega arith) (omega arith))

      -- what is settled in a cell is the response at its place, from the state that is settled in x on
      pub response_at-calls_at : (object : Sequential S I R) → HasValues object m num → inv_of m Anchor ≡ None
          → (most : ℕ) (x y : Name) (place : ℕ) (u v : S × Option R) → 1 ≤ num x → num y ≡ num x + (place + 1) → num y ≤ num x + most
          → new_of m x ≡ Some u → new_of m y ≡ Some v
          → response_at object u.0 (map (λ (c : Invoked I). c.inv) (calls_at m (cells_from most m x))) place ≡ v.1
      response_at-calls_at object values no_inv zero x y place u v h at bound settled_x settled_y = absurd (omega arith)
      response_at-calls_at object values no_inv (suc most) x y zero u v h at bound settled_x settled_y =
          let top : num y ≤ last = numbered.greatest y in
          let more = numbered.goes_on x h (omega arith) in
          let n : num more.0 ≡ num x + 1 = next_number x more.0 more.1 in
          let same : y ≡ more.0 = numbered.one_each y more.0 (omega arith) (omega arith) in
          let after = values.after x more.0 v more.1 (ap (new_of m) (sym same) ∙ settled_y) in
          let state : u ≡ after.before = (let e = after.new_of_x in cc) in
          let call = invoked_at-inv more.0 after.inv after.inv_of_y (not_anchor more.0 after.inv after.inv_of_y) in
          rw (more.1, call.1) (rw (call.2, state) (sym (ap (λ (t : S × Option R). t.1) after.value))) where
            not_anchor : (z : Name) (i : I) → inv_of m z ≡ Some i → z ≢ Anchor
            not_anchor z i e same = let f = ap (inv_of m) same in cc
      response_at-calls_at object values no_inv (suc most) x y (suc place) u v h at bound settled_x settled_y =
          let top : num y ≤ last = numbered.greatest y in
          let more = numbered.goes_on x h (omega arith) in
          let n : num more.0 ≡ num x + 1 = next_number x more.0 more.1 in
          let number : seq_of m more.0 ≡ num more.0 = numbered.threaded more.0 (omega arith) (omega arith) in
          let settled = values.threaded more.0 (omega arith) in
          let after = values.after x more.0 settled.0 more.1 settled.1 in
          let state : u ≡ after.before = (let e = after.new_of_x in cc) in
          let call = invoked_at-inv more.0 after.inv after.inv_of_y (not_anchor more.0 after.inv after.inv_of_y) in
          let next_state : object.next u.0 call.0.inv ≡ settled.0.0 = rw (call.2, state) (sym (ap (λ (t : S × Option R). t.0) after.value)) in
          rw (more.1, call.1) (rw next_state (response_at-calls_at object values no_inv most more.0 y place settled.0 v (omega arith) (omega arith) (omega arith) settled.1 settled_y)) where
            not_anchor : (z : Name) (i : I) → inv_of m z ≡ Some i → z ≢ Anchor
            not_anchor z i e same = let f = ap (inv_of m) same in cc

    -- each call of the chain is that of a linked cell
    pub linked_calls : (most : ℕ) (x : Name) → AllByRecursion (λ (c : Invoked I). 1 ≤ num (Of c.process c.nth)) (calls_at m (cells_from most m x))
    linked_calls zero x = tt
    linked_calls (suc most) x = by_after (λ y. linked_calls most y) (after_of m x) refl where
      by_name : (y : Name) → 1 ≤ num y → (rest : AllByRecursion (λ (c : Invoked I). 1 ≤ num (Of c.process c.nth)) (calls_at m (cells_from most m y)))
          → AllByRecursion (λ (c : Invoked I). 1 ≤ num (Of c.process c.nth)) (calls_at m (y ∷ cells_from most m y))
      by_name Anchor h rest = tt
      by_name (Of p k) h rest = by_inv (inv_of m (Of p k)) where
        by_inv : (o : Option I) → AllByRecursion (λ (c : Invoked I). 1 ≤ num (Of c.process c.nth))
            (option_map_or (λ call. call ∷ calls_at m (cells_from most m (Of p k))) (option_map (λ (i : I). record { process = p; nth = k; inv = i }) o) [])
        by_inv None = tt
        by_inv (Some i) = (h, rest)

      by_after : ((y : Name) → AllByRecursion (λ (c : Invoked I). 1 ≤ num (Of c.process c.nth)) (calls_at m (cells_from most m y))) → (o : Option Name) → after_of m x ≡ o
          → AllByRecursion (λ (c : Invoked I). 1 ≤ num (Of c.process c.nth)) (calls_at m (option_map_or (λ y. y ∷ cells_from most m y) o []))
      by_after rest None e = tt
      by_after rest (Some y) e = by_name y (let n = next_number x y e in omega arith) (rest y)

    -- a cell that is linked at the end goes to the chain's end
    module _ (c y : Name) (threaded : 1 ≤ seq_of m c) (at_end : after_of m c ≡ None) (outside : num y ≡ 0) (nothing : after_of m y ≡ None) where
      pub cells_from-link : (most : ℕ) (x : Name) → 1 ≤ num x → last + 1 ≤ num x + most
          → cells_from most (memory_with m (AfterOf c) (Link (Some y))) x ≡ cells_from most m x ++ y ∷ []
      cells_from-link zero x h bound = absurd (let top = numbered.greatest x in omega arith)
      cells_from-link (suc most) x h bound = elim (after_of-memory_with m c x (Some y)) [
        | inl at_c ↦
            let none : after_of m x ≡ None = ap (after_of m) at_c.0 ∙ at_end in
            rw (at_c.1, none) (ap (λ ys. y ∷ ys) (alone most))
        | inr other ↦
            let end : num c ≡ last = end_number m num last numbered c y threaded at_end outside nothing in
            let more = going x h other.0 end in
            let n : num more.0 ≡ num x + 1 = next_number x more.0 more.1 in
            rw (other.1, more.1) (ap (λ ys. more.0 ∷ ys) (cells_from-link most more.0 (omega arith) (omega arith)))
      ] where
        alone : (k : ℕ) → cells_from k (memory_with m (AfterOf c) (Link (Some y))) y ≡ []
        alone zero = refl
        alone (suc k) = elim (after_of-memory_with m c y (Some y)) [
          | inl same ↦ absurd (
              let e : num y ≡ num c = ap num same.0 in
              let number : seq_of m c ≡ num c = numbered.seq c threaded in omega arith)
          | inr apart ↦ rw (apart.1, nothing) refl
        ]

        going : (z : Name) → 1 ≤ num z → z ≢ c → num c ≡ last → Has (after_of m z)
        going z positive apart end = elim (cases_lt (num z) last) [
          | inl before ↦ numbered.goes_on z positive before
          | inr past ↦ absurd (apart (let top = numbered.greatest z in numbered.one_each z c positive (omega arith)))
        ]
