-- An event ends no era, or it ends one: what the joined log is then, and what the anchor has.
use Rattle.uni_model.proofs.Vocabulary.{Anchor, Call, EndsNoEra, Entry, Event, Invariant, IsAccepted, IsQuiescent, IsSome, IsSound, List, Name, None, Of, Option, Pending, Reshape, Sequential, Some, Step, Trim, WorldOf, ap, arith, chain, era_calls, inl, inr, inv_of, invocations_of, length, log, log_of_run, new_of, option_and_then, option_map, refl, response_in, seq_of, slice_get, state_after, subst, sym, world_after, world_after_era, world_after_step, ℕ, ◌++◌, ◌+◌, ◌<◌, ◌∙◌, ◌∷◌, ◌≡◌, ◌≤◌, ◌⊎◌}
use Rattle.uni_model.proofs.Written.{set_at-cases}
use Rattle.uni_model.proofs.Kept.{Grows-world_after, threaded_when_quiescent}
use Rattle.uni_model.proofs.Chains.{number_at}
use Rattle.uni_model.proofs.Growing.{entry_of, slice_get-log}
use Rattle.uni_model.proofs.Values.{response-settled}
use Rattle.uni_model.proofs.Ended.{world_after_era-quiet}

module _ {S I R : Type 0} (object : Sequential S I R) where
  pub first-world_after_step : (w : WorldOf S I R) (p : ℕ) (o : Option Pending) → (world_after_step object w p o).first ≡ w.first
  first-world_after_step w p None = refl
  first-world_after_step w p (Some c) = refl

  -- what an event leaves that ends no era
  pub record GoesOn (w : WorldOf S I R) (e : Event I) (start : S) : Type 0 where
    pub stays : EndsNoEra e
    pub joined : (es : List (Event I)) → log_of_run object w (e ∷ es) ≡ log_of_run object (world_after object w e) es
    pub first : (world_after object w e).first ≡ w.first
    pub begun : (p : ℕ) → w.begun p ≤ (world_after object w e).begun p
    pub anchor : new_of (world_after object w e).memory Anchor ≡ Some (start, None)
    pub number : seq_of (world_after object w e).memory Anchor ≡ seq_of w.memory Anchor

  -- what an event leaves that ends an era
  pub record EndsEra (w : WorldOf S I R) (e : Event I) (start : S) : Type 0 where
    pub quiet : IsQuiescent w
    pub joined : (es : List (Event I)) → log_of_run object w (e ∷ es) ≡ log w ++ log_of_run object (world_after object w e) es
    pub first : (world_after object w e).first ≡ w.begun
    pub begun : (world_after object w e).begun ≡ w.begun
    pub anchor : new_of (world_after object w e).memory Anchor ≡ Some (state_after object start (invocations_of w), None)
    pub number : seq_of (world_after object w e).memory Anchor ≡ seq_of w.memory Anchor + length (log w)

  module _ (w : WorldOf S I R) (inv : Invariant object w) (start : S) (anchor : new_of w.memory Anchor ≡ Some (start, None)) where
    anchor_stays : (e : Event I) → IsAccepted w e → EndsNoEra e → new_of (world_after object w e).memory Anchor ≡ Some (start, None)
    anchor_stays e ok stays = (Grows-world_after object w e inv ok stays).new Anchor (start, None) anchor

    number_stays : (e : Event I) → IsAccepted w e → EndsNoEra e → seq_of (world_after object w e).memory Anchor ≡ seq_of w.memory Anchor
    number_stays e ok stays = (Grows-world_after object w e inv ok stays).seq Anchor (subst (λ k. 1 ≤ k) inv.2.numbered.anchor inv.2.numbered.first)

    begun-world_after_step : (p : ℕ) (o : Option Pending) (q : ℕ) → w.begun q ≤ (world_after_step object w p o).begun q
    begun-world_after_step p None q = omega arith
    begun-world_after_step p (Some c) q = omega arith

    ends : (e : Event I) (n : ℕ) → world_after object w e ≡ world_after_era w n → IsQuiescent w
        → ((es : List (Event I)) → log_of_run object w (e ∷ es) ≡ log w ++ log_of_run object (world_after object w e) es) → EndsEra w e start
    ends e n same quiet joined =
        let is = same ∙ world_after_era-quiet object w inv.0 inv.1 inv.2 quiet start anchor n in
        record {
          quiet = quiet;
          joined = joined;
          first = ap (λ (v : WorldOf S I R). v.first) is;
          begun = ap (λ (v : WorldOf S I R). v.begun) is;
          anchor = ap (λ (v : WorldOf S I R). new_of v.memory Anchor) is;
          number = ap (λ (v : WorldOf S I R). seq_of v.memory Anchor) is;
        }

    pub event_cases : (e : Event I) → IsAccepted w e → GoesOn w e start ⊎ EndsEra w e start
    event_cases (Call p i) ok = inl (record {
      stays = tt;
      joined = λ es. refl;
      first = refl;
      begun = λ q. elim (set_at-cases w.begun p (w.begun p + 1) q) [ inl h ↦ rw h.1 (let same : w.begun q ≡ w.begun p = ap w.begun h.0 in omega arith) | inr h ↦ rw h.1 (omega arith) ];
      anchor = anchor_stays (Call p i) ok tt;
      number = number_stays (Call p i) ok tt;
    })
    event_cases (Step p) ok = inl (record {
      stays = tt;
      joined = λ es. refl;
      first = first-world_after_step w p (w.call p);
      begun = begun-world_after_step p (w.call p);
      anchor = anchor_stays (Step p) ok tt;
      number = number_stays (Step p) ok tt;
    })
    event_cases Trim ok = inr (ends Trim w.n refl ok (λ es. refl))
    event_cases (Reshape n) ok = inr (ends (Reshape n) n refl ok.0 (λ es. refl))

module _ {S I R : Type 0} (object : Sequential S I R) (w : WorldOf S I R) (num : Name → ℕ) (last : ℕ) (sound : IsSound object w num last) where
  -- the entry at a place of the log is that of the cell at that place
  pub record IsEntryAt (j : ℕ) (e : Entry I R) : Type 0 where
    pub cell : slice_get (chain w) j ≡ Some (Of e.call.process e.call.nth)
    pub number : e.number ≡ seq_of w.memory Anchor + j + 1
    pub response : e.response ≡ response_in w.memory (Of e.call.process e.call.nth)

  pub entry_at : (j : ℕ) (e : Entry I R) → slice_get (log w) j ≡ Some e → IsEntryAt j e
  entry_at j e at = by_cell (slice_get (chain w) j) refl (sym (slice_get-log object w num last sound j) ∙ at) where
    by_cell : (o : Option Name) → slice_get (chain w) j ≡ o → option_and_then (entry_of w.memory (seq_of w.memory Anchor + 1 + j)) o ≡ Some e → IsEntryAt j e
    by_cell None is f = cc
    by_cell (Some Anchor) is f = cc
    by_cell (Some (Of p k)) is f = by_inv (inv_of w.memory (Of p k)) f where
      by_inv : (o : Option I) → option_map (λ call. record { number = seq_of w.memory Anchor + 1 + j; call = call; response = response_in w.memory (Of p k) })
          (option_map (λ i. record { process = p; nth = k; inv = i }) o) ≡ Some e → IsEntryAt j e
      by_inv None g = cc
      by_inv (Some i) g =
          let made : record { number = seq_of w.memory Anchor + 1 + j; call = record { process = p; nth = k; inv = i }; response = response_in w.memory (Of p k) } ≡ e = cc in
          subst (λ d. IsEntryAt j d) made (record { cell = is; number = omega arith; response = refl })

  pub number_of_entry : (j : ℕ) (e : Entry I R) → slice_get (log w) j ≡ Some e → num (Of e.call.process e.call.nth) ≡ num Anchor + (j + 1)
  number_of_entry j e at = number_at w.memory num last sound.numbered (era_calls w) Anchor (Of e.call.process e.call.nth) j (entry_at j e at).cell

  -- it is a call of the era
  pub begun_of_entry : (j : ℕ) (e : Entry I R) → slice_get (log w) j ≡ Some e → (w.first e.call.process ≤ e.call.nth) × (e.call.nth < w.begun e.call.process)
  begun_of_entry j e at =
      let number = number_of_entry j e at in
      let its = sound.calls.begun e.call.process e.call.nth (sound.calls.linked e.call.process e.call.nth (omega arith)) in
      (its.1, its.2)

  -- which stands at no other place
  pub place_of_entry : (i j : ℕ) (e f : Entry I R) → slice_get (log w) i ≡ Some e → slice_get (log w) j ≡ Some f → e.call.process ≡ f.call.process → e.call.nth ≡ f.call.nth → i ≡ j
  place_of_entry i j e f at_i at_j process nth =
      let a = number_of_entry i e at_i in
      let b = number_of_entry j f at_j in
      let same : num (Of e.call.process e.call.nth) ≡ num (Of f.call.process f.call.nth) = rw (process, nth) refl in
      omega arith

  -- where nobody is pending it has its response
  pub answered_when_quiescent : IsQuiescent w → (j : ℕ) (e : Entry I R) → slice_get (log w) j ≡ Some e → IsSome e.response
  answered_when_quiescent quiet j e at =
      let number = number_of_entry j e at in
      let threaded = threaded_when_quiescent object w num last sound quiet (Of e.call.process e.call.nth) (omega arith) in
      let settled = response-settled object w.memory num sound.values sound.back e.call.process e.call.nth threaded in
      rw ((entry_at j e at).response, settled.1) refl
