-- The dots and the boxes of a run are its joined log.
use Rattle.run_replay.proofs.Vocabulary.{AcceptsAll, Act, Anchor, Atomic, BoxesAreTheLog, BoxesHaveTheEntries, Call, CallId, Cell, Dot, DotsAreTheLog, Entry, EraMarks, Event, Grows-world_after, Invariant, Invariant-world_after, Invoke, Invoked, Language, Linearize, List, Name, None, Of, Option, Respond, Sequential, Some, SpokenObject, Step, WorldOf, [], acts_of, along, ap, append-nil, append_assoc, arith, box_of, boxes_after, boxes_from, chain, dots_by, drop, drop_more, entry_shown, eras_in, flat_map, get_or, history_of, inl, inr, invocations_of, length, linearized_in, log, log_of_run, map, map-append, map-map, new_of, opened_world, option_and_then, option_map, refl, slice_get, state_settled_at, stateless, suc, sym, take, world_after, ℕ, ◌++◌, ◌+◌, ◌<◌, ◌∙◌, ◌∷◌, ◌≡◌}
use Rattle.uni_model.proofs.Linearized.{IsLinearizable-holds}
use Rattle.seq_object.specs.History.{response_at, state_after}
use Rattle.uni_model.specs.Growth.{EndsNoEra}
use Rattle.uni_model.proofs.Eras.{entry_at}
use Rattle.uni_model.proofs.Joined.{IsRun, IsRun-opened_world, map-calls, run_cases}
use Rattle.uni_model.proofs.OneLists.{IsOneList-sound}
use Rattle.uni_log.specs.declared.entry.Entry.{Entry as Stored}

-- the name of a call
abbrev id_of_call : {I : Type 0} → Invoked I → CallId
id_of_call c = record { process = c.process; nth = c.nth }

linearized_in-both : {I R : Type 0} (xs ys : List (Act I R)) → linearized_in (xs ++ ys) ≡ linearized_in xs ++ linearized_in ys
linearized_in-both [] ys = refl
linearized_in-both (Invoke p k i ∷ xs) ys = linearized_in-both xs ys
linearized_in-both (Linearize c ∷ xs) ys = ap (λ l. c ∷ l) (linearized_in-both xs ys)
linearized_in-both (Respond p k r ∷ xs) ys = linearized_in-both xs ys

module _ {S I R : Type 0} (object : Sequential S I R) where
  -- the calls that an atomic object has placed are those that took effect
  agreed-AcceptsAll : (a : Atomic S I) (acts : List (Act I R)) (b : Atomic S I) → AcceptsAll object a acts b → b.agreed ≡ a.agreed ++ linearized_in acts
  agreed-AcceptsAll a [] b is = ap (λ (x : Atomic S I). x.agreed) is ∙ sym (append-nil a.agreed)
  agreed-AcceptsAll a (Invoke p k i ∷ acts) b is =
      agreed-AcceptsAll is.0 acts b is.2 ∙ ap (λ (x : Atomic S I). x.agreed ++ linearized_in acts) is.1.2
  agreed-AcceptsAll a (Linearize c ∷ acts) b is =
      agreed-AcceptsAll is.0 acts b is.2 ∙ ap (λ (x : Atomic S I). x.agreed ++ linearized_in acts) is.1.2 ∙ append_assoc a.agreed (c ∷ []) (linearized_in acts)
  agreed-AcceptsAll a (Respond p k r ∷ acts) b is =
      agreed-AcceptsAll is.0 acts b is.2 ∙ ap (λ (x : Atomic S I). x.agreed ++ linearized_in acts) is.1.1

  -- the dots of an event are of the calls that take effect by it
  dots_by-calls : (w : WorldOf S I R) (place : ℕ) (e : Event I) → map (λ (d : Dot). d.call) (dots_by object w place e) ≡ map id_of_call (linearized_in (acts_of object w e))
  dots_by-calls w place (Step p) = map-map (λ (d : Dot). d.call) (λ (c : Invoked I). let d : Dot = record { event = place; call = id_of_call c; by = p } in d) (linearized_in (acts_of object w (Step p)))
  dots_by-calls w place e = refl

  dots-calls : (w : WorldOf S I R) (place : ℕ) (es : List (Event I)) → map (λ (d : Dot). d.call) (along object (dots_by object) w place es) ≡ map id_of_call (linearized_in (history_of object w es))
  dots-calls w place [] = refl
  dots-calls w place (e ∷ es) =
      let v = world_after object w e in
      map-append (λ (d : Dot). d.call) (dots_by object w place e) (along object (dots_by object) v (place + 1) es)
      ∙ ap (λ l. l ++ map (λ (d : Dot). d.call) (along object (dots_by object) v (place + 1) es)) (dots_by-calls w place e)
      ∙ ap (λ l. map id_of_call (linearized_in (acts_of object w e)) ++ l) (dots-calls v (place + 1) es)
      ∙ sym (map-append id_of_call (linearized_in (acts_of object w e)) (linearized_in (history_of object v es)))
      ∙ ap (map id_of_call) (sym (linearized_in-both (acts_of object w e) (history_of object v es)))

module _ {S I R : Type 0} (o : SpokenObject S I R) where
  pub DotsAreTheLog-holds : (text : S → List ℕ) (name : List ℕ) (n : ℕ) (start : S) (number : ℕ) (events : List (Event I)) → DotsAreTheLog o text name n start number events
  DotsAreTheLog-holds text name n start number events positive ok =
      let shown = IsLinearizable-holds o.object n start number events positive ok in
      dots-calls o.object (opened_world n start number) 0 events
      ∙ ap (map id_of_call) (sym (agreed-AcceptsAll o.object _ (history_of o.object (opened_world n start number) events) shown.0 shown.2) ∙ sym shown.1.agreed)
      ∙ map-map id_of_call (λ (e : Entry I R). e.call) (log_of_run o.object (opened_world n start number) events)

-- The boxes of a run are its joined log, each with the object's state after it.

-- the boxes of stored entries from a place on, one more
pub boxes_more : {S I R : Type 0} (l : Language I R) (text : S → List ℕ) (w : WorldOf S I R) (i : ℕ) (xs : List (Stored I R)) (x : Stored I R) → i < length xs → x ≡ get_or xs i x
    → boxes_from l text w (i + 1) (map entry_shown (drop i xs)) ≡ box_of l (option_map text (state_settled_at w (i + 1))) (entry_shown x) ∷ boxes_from l text w (i + 1 + 1) (map entry_shown (drop (i + 1) xs))
boxes_more l text w i xs x inside is =
    ap (λ ys. boxes_from l text w (i + 1) (map entry_shown ys)) (drop_more xs i x inside ∙ ap (λ y. y ∷ drop (i + 1) xs) (sym is))

module _ {S I R : Type 0} (o : SpokenObject S I R) (text : S → List ℕ) where
  -- boxes of some entries, and of more
  boxes_after-append : (s : S) (xs ys : List (Entry I R))
      → boxes_after o text s (xs ++ ys) ≡ boxes_after o text s xs ++ boxes_after o text (state_after o.object s (map (λ (e : Entry I R). e.call.inv) xs)) ys
  boxes_after-append s [] ys = refl
  boxes_after-append s (x ∷ xs) ys =
      let next = o.object.next s x.call.inv in
      ap (λ l. box_of o.language (option_map (λ r. text next) x.response) x ∷ l) (boxes_after-append next xs ys)

  -- boxes have the states from one on, where those that are settled at their places are these
  boxes-states : (w : WorldOf S I R) (s : S) (place : ℕ) (es : List (Entry I R))
      → ((j : ℕ) (e : Entry I R) → slice_get es j ≡ Some e
      → option_map text (state_settled_at w (place + j)) ≡ option_map (λ (r : R). text (state_after o.object s (take (suc j) (map (λ (x : Entry I R). x.call.inv) es)))) e.response)
      → boxes_from o.language text w place es ≡ boxes_after o text s es
  boxes-states w s place [] states = refl
  boxes-states w s place (e ∷ es) states =
      let here : place ≡ place + 0 = omega arith in
      let next = o.object.next s e.call.inv in
      ap (λ t. box_of o.language t e ∷ boxes_from o.language text w (place + 1) es) (ap (λ k. option_map text (state_settled_at w k)) here ∙ states 0 e refl)
      ∙ ap (λ l. box_of o.language (option_map (λ (r : R). text next) e.response) e ∷ l) (boxes-states w next (place + 1) es (λ j x at.
      (let later : place + 1 + j ≡ place + suc j = omega arith in ap (λ k. option_map text (state_settled_at w k)) later) ∙ states (suc j) x at))

  module _ (w : WorldOf S I R) (start : S) (inv : Invariant o.object w) (anchor : new_of w.memory Anchor ≡ Some (start, None)) where
    -- the state that is settled in the cell of an entry
    state_of_entry : (j : ℕ) (e : Entry I R) → slice_get (log w) j ≡ Some e
        → option_map text (state_settled_at w (suc j)) ≡ option_map (λ (r : R). text (state_after o.object start (take (suc j) (invocations_of w)))) e.response
    state_of_entry j e at =
        let its = entry_at o.object w inv.0 inv.1 inv.2 j e at in
        rw (its.cell, its.response) (by_new (Of e.call.process e.call.nth) its.cell (new_of w.memory (Of e.call.process e.call.nth)) refl)
      where
        state : ℕ → S
        state n = state_after o.object start (take n (invocations_of w))

        by_value : (v : S × Option R) (r : Option R) → option_map (λ (x : R). let u : S × Option R = (state (j + 1), Some x) in u) r ≡ Some v
            → Some (text v.0) ≡ option_map (λ (x : R). text (state (suc j))) v.1
        by_value v None is = absurd (cc)
        by_value v (Some x) is =
            let value : v ≡ (state (j + 1), Some x) = cc in
            rw value (let same : j + 1 ≡ suc j = omega arith in ap (λ n. Some (text (state n))) same)

        by_new : (y : Name) → slice_get (chain w) j ≡ Some y → (n : Option (S × Option R)) → new_of w.memory y ≡ n
            → option_map text (option_map (λ (v : S × Option R). v.0) n) ≡ option_map (λ (x : R). text (state (suc j))) (option_and_then (λ (v : S × Option R). v.1) n)
        by_new y cell None is = refl
        by_new y cell (Some v) is =
            by_value v (response_at o.object start (invocations_of w) j) ((IsOneList-sound o.object w inv.0 inv.1 inv.2 start anchor).value j y v cell is)

    -- the boxes of an era have the states from that of its anchor on
    boxes-log : boxes_from o.language text w 1 (log w) ≡ boxes_after o text start (log w)
    boxes-log = boxes-states w start 1 (log w) (λ j e at.
        (let same : 1 + j ≡ suc j = omega arith in ap (λ k. option_map text (state_settled_at w k)) same) ∙ state_of_entry j e at
        ∙ ap (λ is. option_map (λ (r : R). text (state_after o.object start (take (suc j) is))) e.response) (map-calls (log w)))

  -- a run after its first event, which ends no era
  goes_on : (w : WorldOf S I R) (e : Event I) (es : List (Event I)) (start : S) → EndsNoEra e → IsRun o.object w (e ∷ es) start → IsRun o.object (world_after o.object w e) es start
  goes_on w e es start stays run = record {
    inv = Invariant-world_after o.object w e run.accepted.0 run.inv;
    anchor = (Grows-world_after o.object w e run.inv run.accepted.0 stays).new Anchor (start, None) run.anchor;
    accepted = run.accepted.1;
  }

  -- the boxes of an era that ends, and those of the later ones
  boxes-ended : (w v : WorldOf S I R) (es : List (Event I)) (start : S) (later : List Cell) → Invariant o.object w → new_of w.memory Anchor ≡ Some (start, None)
      → later ≡ boxes_after o text (state_after o.object start (invocations_of w)) (log_of_run o.object v es)
      → boxes_from o.language text w 1 (log w) ++ later ≡ boxes_after o text start (log w ++ log_of_run o.object v es)
  boxes-ended w v es start later inv anchor is =
      ap (λ l. l ++ later) (boxes-log w start inv anchor)
      ∙ ap (λ l. boxes_after o text start (log w) ++ l) (is ∙ ap (λ is. boxes_after o text (state_after o.object start is) (log_of_run o.object v es)) (map-calls (log w)))
      ∙ sym (boxes_after-append start (log w) (log_of_run o.object v es))

  -- the boxes of the eras, from an era on
  boxes-eras : (w : WorldOf S I R) (from place : ℕ) (es : List (Event I)) (start : S) → IsRun o.object w es start
      → flat_map (λ (e : EraMarks). e.cells) (eras_in o text w from place es) ≡ boxes_after o text start (log_of_run o.object w es)
  boxes-eras w from place [] start run = append-nil (boxes_from o.language text w 1 (log w)) ∙ boxes-log w start run.inv run.anchor
  boxes-eras w from place (Call p i ∷ es) start run = boxes-eras (world_after o.object w (Call p i)) from (place + 1) es start (goes_on w (Call p i) es start tt run)
  boxes-eras w from place (Step p ∷ es) start run = boxes-eras (world_after o.object w (Step p)) from (place + 1) es start (goes_on w (Step p) es start tt run)
  boxes-eras w from place (e ∷ es) start run = elim (run_cases o.object w e es start run) [
    | inl on ↦ absurd on.0.stays
    | inr end ↦ boxes-ended w (world_after o.object w e) es start _ run.inv run.anchor
        (boxes-eras (world_after o.object w e) (place + 1) (place + 1) es (state_after o.object start (invocations_of w)) end.1)
  ]

  pub BoxesAreTheLog-holds : (name : List ℕ) (n : ℕ) (start : S) (number : ℕ) (events : List (Event I)) → BoxesAreTheLog o text name n start number events
  BoxesAreTheLog-holds name n start number events positive ok =
      boxes-eras (opened_world n start number) 0 0 events start (IsRun-opened_world o.object n start number events positive ok)

  -- without states, the boxes of any run
  stateless-from : (w : WorldOf S I R) (place : ℕ) (es : List (Entry I R)) → map stateless (boxes_from o.language text w place es) ≡ map (box_of o.language None) es
  stateless-from w place [] = refl
  stateless-from w place (e ∷ es) = ap (λ l. box_of o.language None e ∷ l) (stateless-from w (place + 1) es)

  stateless-era : (w : WorldOf S I R) (later : List Cell) (entries : List (Entry I R)) → map stateless later ≡ map (box_of o.language None) entries
      → map stateless (boxes_from o.language text w 1 (log w) ++ later) ≡ map (box_of o.language None) (log w ++ entries)
  stateless-era w later entries is =
      map-append stateless (boxes_from o.language text w 1 (log w)) later
      ∙ ap (λ l. l ++ map stateless later) (stateless-from w 1 (log w))
      ∙ ap (λ l. map (box_of o.language None) (log w) ++ l) is
      ∙ sym (map-append (box_of o.language None) (log w) entries)

  stateless-eras : (w : WorldOf S I R) (from place : ℕ) (es : List (Event I))
      → map stateless (flat_map (λ (e : EraMarks). e.cells) (eras_in o text w from place es)) ≡ map (box_of o.language None) (log_of_run o.object w es)
  stateless-eras w from place [] = ap (map stateless) (append-nil (boxes_from o.language text w 1 (log w))) ∙ stateless-from w 1 (log w)
  stateless-eras w from place (Call p i ∷ es) = stateless-eras (world_after o.object w (Call p i)) from (place + 1) es
  stateless-eras w from place (Step p ∷ es) = stateless-eras (world_after o.object w (Step p)) from (place + 1) es
  stateless-eras w from place (e ∷ es) = stateless-era w _ (log_of_run o.object (world_after o.object w e) es) (stateless-eras (world_after o.object w e) (place + 1) (place + 1) es)

  pub BoxesHaveTheEntries-holds : (name : List ℕ) (n : ℕ) (start : S) (number : ℕ) (events : List (Event I)) → BoxesHaveTheEntries o text name n start number events
  BoxesHaveTheEntries-holds name n start number events = stateless-eras (opened_world n start number) 0 0 events
