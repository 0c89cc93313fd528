-- The log only grows while no era ends.
use Rattle.uni_model.proofs.Vocabulary.{AllByRecursion, Anchor, AreAccepted, Call, EndNoEra, EndsNoEra, Entry, Event, GetsResponse, Grows, Has, Invariant, Invoked, IsAccepted, IsPrefixOf, IsSome, IsSound, List, Memory, Name, None, Of, Option, Pending, Reshape, Sequential, Some, Step, Trim, WorldOf, [], after_of, ap, arith, calls_in_era, cases_lt, cells_from, chain, entries_from, era_calls, false, inl, inr, inv_of, invoked_at, length, log, new_of, option_and_then, option_map, option_map_or, refl, response_in, seq_of, slice_get, slice_get_cases, slice_get_within, subst, suc, sym, take, true, world_after, world_after_all, world_after_step, zero, ℕ, ◌+◌, ◌-◌, ◌<◌, ◌∙◌, ◌∷◌, ◌≡◌, ◌≤◌, ◌⊎◌}
use Rattle.uni_model.proofs.Kept.{Invariant-world_after, Grows-world_after}
use Rattle.uni_model.proofs.Sums.{sum_below-le}
use Rattle.uni_model.proofs.Written.{set_at-cases}
use Rattle.uni_model.proofs.Chains.{invoked_past_anchor}
use Rattle.uni_model.proofs.OneLists.{HasLegalLog-held}

-- the entry of a cell at a place
abbrev pub entry_of : {S I R : Type 0} → Memory S I R → (number : ℕ) → Name → Option (Entry I R)
entry_of m number x = option_map (λ call. record { number = number; call = call; response = response_in m x }) (invoked_at m x)

module _ {S I R : Type 0} (m : Memory S I R) where
  -- the entry at a place is that of the cell at that place
  slice_get-entries_from : (k : ℕ) (xs : List Name) → AllByRecursion (λ x. Has (invoked_at m x)) xs → (j : ℕ)
      → slice_get (entries_from m k xs) j ≡ option_and_then (entry_of m (k + j)) (slice_get xs j)
  slice_get-entries_from k [] all j = refl
  slice_get-entries_from k (x ∷ xs) all zero = rw all.0.1 (ap (λ n. Some (record { number = n; call = all.0.0; response = response_in m x })) (let e : k ≡ k + 0 = omega arith in e))
  slice_get-entries_from k (x ∷ xs) all (suc j) =
      let same : (k + 1) + j ≡ k + suc j = omega arith in
      rw all.0.1 (slice_get-entries_from (k + 1) xs all.1 j ∙ ap (λ n. option_and_then (entry_of m n) (slice_get xs j)) same)

  -- the chain of a memory that has grown goes on in the same way
  slice_get-cells_from-grows : (m' : Memory S I R) → Grows m m' → (a b : ℕ) (x y : Name) (j : ℕ) → a ≤ b → slice_get (cells_from a m x) j ≡ Some y → slice_get (cells_from b m' x) j ≡ Some y
  slice_get-cells_from-grows m' grows zero b x y j bound at = cc
  slice_get-cells_from-grows m' grows (suc a) zero x y j bound at = absurd (omega arith)
  slice_get-cells_from-grows m' grows (suc a) (suc b) x y j bound at = by_after (λ z i g. slice_get-cells_from-grows m' grows a b z y i (omega arith) g) (after_of m x) refl j at where
    by_after : ((z : Name) (i : ℕ) → slice_get (cells_from a m z) i ≡ Some y → slice_get (cells_from b m' z) i ≡ Some y) → (o : Option Name) → after_of m x ≡ o
        → (i : ℕ) → slice_get (option_map_or (λ z. z ∷ cells_from a m z) o []) i ≡ Some y → slice_get (cells_from (suc b) m' x) i ≡ Some y
    by_after rest None e i g = cc
    by_after rest (Some z) e zero g = rw (grows.after x z e) g
    by_after rest (Some z) e (suc i) g = rw (grows.after x z e) (rest z i g)

module _ {S I R : Type 0} (object : Sequential S I R) (w : WorldOf S I R) (num : Name → ℕ) (last : ℕ) (sound : IsSound object w num last) where
  -- each cell of the chain is that of a call
  pub all_invoked : (most : ℕ) (x : Name) → 1 ≤ num x → AllByRecursion (λ y. Has (invoked_at w.memory y)) (cells_from most w.memory x)
  all_invoked zero x linked = tt
  all_invoked (suc most) x linked = by_after (λ y h. all_invoked most y h) (after_of w.memory x) refl where
    by_after : ((y : Name) → 1 ≤ num y → AllByRecursion (λ z. Has (invoked_at w.memory z)) (cells_from most w.memory y)) → (o : Option Name) → after_of w.memory x ≡ o
        → AllByRecursion (λ z. Has (invoked_at w.memory z)) (option_map_or (λ y. y ∷ cells_from most w.memory y) o [])
    by_after rest None e = tt
    by_after rest (Some y) e =
        let n : num y ≡ num x + 1 = (sound.numbered.link x y e).1 in
        let least : num Anchor ≤ num x = sound.numbered.least x linked in
        (invoked_past_anchor w.memory num last sound.numbered sound.calls.linked y (omega arith), rest y (omega arith))

  pub slice_get-log : (j : ℕ) → slice_get (log w) j ≡ option_and_then (entry_of w.memory (seq_of w.memory Anchor + 1 + j)) (slice_get (chain w) j)
  slice_get-log j = slice_get-entries_from w.memory (seq_of w.memory Anchor + 1) (chain w) (all_invoked (era_calls w) Anchor sound.numbered.first) j

module _ {S I R : Type 0} (m m' : Memory S I R) (grows : Grows m m') where
  invoked_at-grows : (x : Name) (c : Invoked I) → invoked_at m x ≡ Some c → invoked_at m' x ≡ Some c
  invoked_at-grows Anchor c e = cc
  invoked_at-grows (Of p k) c e = by_inv (inv_of m (Of p k)) refl e where
    by_inv : (o : Option I) → inv_of m (Of p k) ≡ o → option_map (λ (i : I). record { process = p; nth = k; inv = i }) o ≡ Some c → invoked_at m' (Of p k) ≡ Some c
    by_inv None is f = cc
    by_inv (Some i) is f = rw (grows.inv (Of p k) i is) f

  response_in-grows : (x : Name) (r : R) → response_in m x ≡ Some r → response_in m' x ≡ Some r
  response_in-grows x r e = by_new (new_of m x) refl e where
    by_new : (o : Option (S × Option R)) → new_of m x ≡ o → option_and_then (λ (new : S × Option R). new.1) o ≡ Some r → response_in m' x ≡ Some r
    by_new None is f = cc
    by_new (Some v) is f = rw (grows.new x v is) f

  -- the entry of a cell stands later, with a response that may have been missing
  entry_of-grows : (k k' : ℕ) → k' ≡ k → (x : Name) (e : Entry I R) → entry_of m k x ≡ Some e → (e' : Entry I R) × (entry_of m' k' x ≡ Some e') × ((e' ≡ e) ⊎ GetsResponse e e')
  entry_of-grows k k' same x e is = by_call (invoked_at m x) refl is where
    by_response : (c : Invoked I) → invoked_at m x ≡ Some c → (r : Option R) → response_in m x ≡ r
        → (e' : Entry I R) × (entry_of m' k' x ≡ Some e') × ((e' ≡ record { number = k; call = c; response = response_in m x }) ⊎ GetsResponse (record { number = k; call = c; response = response_in m x }) e')
    by_response c call None missing = (
      record { number = k'; call = c; response = response_in m' x },
      rw (invoked_at-grows x c call) refl,
      inr (record { number = same; call = refl; missing = missing }),
    )
    by_response c call (Some r) there = (
      record { number = k'; call = c; response = response_in m' x },
      rw (invoked_at-grows x c call) refl,
      inl (ap (λ n. let e : Entry I R = record { number = n; call = c; response = response_in m' x } in e) same
          ∙ ap (λ o. let e : Entry I R = record { number = k; call = c; response = o } in e) (response_in-grows x r there ∙ sym there)),
    )

    by_call : (o : Option (Invoked I)) → invoked_at m x ≡ o → option_map (λ call. record { number = k; call = call; response = response_in m x }) o ≡ Some e
        → (e' : Entry I R) × (entry_of m' k' x ≡ Some e') × ((e' ≡ e) ⊎ GetsResponse e e')
    by_call None call f = cc
    by_call (Some c) call f =
        let made : record { number = k; call = c; response = response_in m x } ≡ e = cc in
        subst (λ d. (e' : Entry I R) × (entry_of m' k' x ≡ Some e') × ((e' ≡ d) ⊎ GetsResponse d e')) made (by_response c call (response_in m x) refl)

module _ {S I R : Type 0} (object : Sequential S I R) (w w' : WorldOf S I R) (inv : Invariant object w) (inv' : Invariant object w') (grows : Grows w.memory w'.memory) (more : era_calls w ≤ era_calls w') where
  entry_later : (j : ℕ) (e : Entry I R) → slice_get (log w) j ≡ Some e → (e' : Entry I R) × (slice_get (log w') j ≡ Some e') × ((e' ≡ e) ⊎ GetsResponse e e')
  entry_later j e at = by_cell (slice_get (chain w) j) refl (sym (slice_get-log object w inv.0 inv.1 inv.2 j) ∙ at) where
    anchor : seq_of w'.memory Anchor ≡ seq_of w.memory Anchor
    anchor = grows.seq Anchor (subst (λ k. 1 ≤ k) inv.2.numbered.anchor inv.2.numbered.first)

    by_cell : (o : Option Name) → slice_get (chain w) j ≡ o → option_and_then (entry_of w.memory (seq_of w.memory Anchor + 1 + j)) o ≡ Some e
        → (e' : Entry I R) × (slice_get (log w') j ≡ Some e') × ((e' ≡ e) ⊎ GetsResponse e e')
    by_cell None is f = cc
    by_cell (Some x) is f =
        let later = entry_of-grows w.memory w'.memory grows (seq_of w.memory Anchor + 1 + j) (seq_of w'.memory Anchor + 1 + j) (ap (λ k. k + 1 + j) anchor) x e f in
        let stands : slice_get (chain w') j ≡ Some x = slice_get-cells_from-grows w.memory w'.memory grows (era_calls w) (era_calls w') Anchor x j more is in (
          later.0,
          slice_get-log object w' inv'.0 inv'.1 inv'.2 j ∙ ap (option_and_then (entry_of w'.memory (seq_of w'.memory Anchor + 1 + j))) stands ∙ later.1,
          later.2,
        )

  no_shorter : length (log w) ≤ length (log w')
  no_shorter = elim (cases_lt 0 (length (log w))) [
    | inr none ↦ omega arith
    | inl some ↦ elim (slice_get_cases (log w) (length (log w) - 1)).1 [
      | inl there ↦
          let later = entry_later (length (log w) - 1) there.0 there.2 in
          let within : length (log w) - 1 < length (log w') = slice_get_within (log w') (length (log w) - 1) later.0 later.1 in
          omega arith
      | inr past ↦ absurd (let bound = past.0 in omega arith)
    ]
  ]

  -- an entry without its response is the last one
  pub IsPrefixOf-grows : IsPrefixOf (log w) (log w')
  IsPrefixOf-grows = record {
    longer = no_shorter;
    entries = λ j e at.
        let later = entry_later j e at in (
          later.0,
          later.1,
          elim later.2 [
            | inl same ↦ inl same
            | inr gets ↦ inr (
              elim (cases_lt (j + 1) (length (log w))) [
                | inl inside ↦ absurd (let answered : IsSome e.response = (HasLegalLog-held object w inv).1.answered j e at inside in let none = rw gets.missing at answered in let f : false ≡ true = none in cc)
                | inr end ↦ (let within : j < length (log w) = slice_get_within (log w) j e at in omega arith)
              ],
              gets,
            )
          ],
        );
  }

pub IsPrefixOf-same : {I R : Type 0} (es : List (Entry I R)) → IsPrefixOf es es
IsPrefixOf-same es = record { longer = omega arith; entries = λ j e at. (e, at, inl refl) }

GetsResponse-then : {I R : Type 0} (a b c : Entry I R) → GetsResponse a b → (c ≡ b) ⊎ GetsResponse b c → GetsResponse a c
GetsResponse-then a b c first (inl same) = subst (λ d. GetsResponse a d) (sym same) first
GetsResponse-then a b c first (inr then_gets) = record { number = then_gets.number ∙ first.number; call = then_gets.call ∙ first.call; missing = first.missing }

-- a prefix of a prefix is a prefix
pub IsPrefixOf-then : {I R : Type 0} (a b c : List (Entry I R)) → IsPrefixOf a b → IsPrefixOf b c → IsPrefixOf a c
IsPrefixOf-then a b c first second = record {
  longer = let x = first.longer in let y = second.longer in omega arith;
  entries = λ j e at.
      let one = first.entries j e at in
      let two = second.entries j one.0 one.1 in (
        two.0,
        two.1,
        elim one.2 [
          | inl same ↦ elim two.2 [
            | inl kept ↦ inl (kept ∙ same)
            | inr gets ↦ inr (
              let longer = first.longer in
                  let end : j + 1 ≡ length b = gets.0 in
                  let within : j < length a = slice_get_within a j e at in
                  omega arith,
              subst (λ d. GetsResponse d two.0) same gets.1,
            )
          ]
          | inr gets ↦ inr (
            gets.0,
            GetsResponse-then e one.0 two.0 gets.1 (elim two.2 [ inl kept ↦ inl kept | inr later ↦ inr later.1 ]),
          )
        ],
      );
}

module _ {S I R : Type 0} (object : Sequential S I R) where
  era_calls-world_after : (w : WorldOf S I R) (e : Event I) → IsAccepted w e → EndsNoEra e → era_calls w ≤ era_calls (world_after object w e)
  era_calls-world_after w (Call p i) ok stays = sum_below-le w.n (calls_in_era w) _ (λ q below. elim (set_at-cases w.begun p (w.begun p + 1) q) [
    | inl here ↦ rw here.1 (let same : w.begun q ≡ w.begun p = ap w.begun here.0 in omega arith)
    | inr other ↦ rw other.1 (omega arith)
  ])
  era_calls-world_after w (Step p) ok stays = by_call (w.call p) where
    by_call : (o : Option Pending) → era_calls w ≤ era_calls (world_after_step object w p o)
    by_call None = omega arith
    by_call (Some c) = omega arith
  era_calls-world_after w Trim ok stays = absurd stays
  era_calls-world_after w (Reshape n) ok stays = absurd stays

  -- an accepted event that ends no era
  pub log-world_after : (w : WorldOf S I R) (e : Event I) → Invariant object w → IsAccepted w e → EndsNoEra e → IsPrefixOf (log w) (log (world_after object w e))
  log-world_after w e inv ok stays =
      IsPrefixOf-grows object w (world_after object w e) inv (Invariant-world_after object w e ok inv) (Grows-world_after object w e inv ok stays) (era_calls-world_after w e ok stays)

  -- accepted events that end no era, one after another
  pub log-world_after_all : (w : WorldOf S I R) (es : List (Event I)) → Invariant object w → AreAccepted object w es → EndNoEra es → IsPrefixOf (log w) (log (world_after_all object w es))
  log-world_after_all w [] inv ok stays = IsPrefixOf-same (log w)
  log-world_after_all w (e ∷ es) inv ok stays =
      IsPrefixOf-then (log w) (log (world_after object w e)) (log (world_after_all object (world_after object w e) es))
      (log-world_after w e inv ok.0 stays.0)
      (log-world_after_all (world_after object w e) es (Invariant-world_after object w e ok.0 inv) ok.1 stays.1)

  -- the log after each prefix of the events
  pub log-prefixes : (w : WorldOf S I R) (es : List (Event I)) → Invariant object w → AreAccepted object w es → EndNoEra es → (j : ℕ)
      → IsPrefixOf (log (world_after_all object w (take j es))) (log (world_after_all object w es))
  log-prefixes w [] inv ok stay zero = IsPrefixOf-same (log w)
  log-prefixes w [] inv ok stay (suc j) = IsPrefixOf-same (log w)
  log-prefixes w (e ∷ es) inv ok stay zero = log-world_after_all w (e ∷ es) inv ok stay
  log-prefixes w (e ∷ es) inv ok stay (suc j) = log-prefixes (world_after object w e) es (Invariant-world_after object w e ok.0 inv) ok.1 stay.1 j
