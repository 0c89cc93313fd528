-- Calls that are pending: which of them take effect, and which go on to be pending.
use Rattle.run_replay.proofs.Vocabulary.{number_cases, AcceptsAll, Act, All, AreAccepted, AreCalls, Atomic, Bool, Call, CallId, Called, Contains, Content, Dot, DotsLieInBars, End, EndsAreEvents, Event, Finish, IfSome, Invariant, Invariant-opened_world, Invariant-world_after, Invoked, IsAccepted, IsSome, LiesIn, Linearize, List, Memory, Name, None, Option, Pending, Reshape, Sequential, Shows, Some, SpokenObject, Stage, Step, Trim, WorldOf, [], acts_of, along, anchor_memory, ap, arith, bar_begun, bars_in, call_after, calls_of, dots_by, dots_of, end_by, end_in, end_of_step, false, if◌then◌else◌, inl, inr, invoked_at, last_cell, length, linearized_in, map, ne_eqb, new_of, open_at, opened_world, option_and_then, option_map, option_map_or, option_or, place_of, refl, response_after, response_of_step, seq_of, set_at-cases, stage_after, subst, sym, true, world_after, world_after_era, world_after_step, ℕ, ◌++◌, ◌+◌, ◌-◌, ◌<◌, ◌==◌, ◌∙◌, ◌∷◌, ◌≡◌, ◌≢◌, ◌≤◌, ◌⊎◌}
use Rattle.std.proofs.lemmas.List.Elements.{All-cons, All-nil, All-weaker, All-append, All-map, Contains-append_right}
use Rattle.uni_model.proofs.LawProofs.{accepts}
use Rattle.run_replay.proofs.Replayed.{linearized_by_step, contains_first, IfSome-either, either_way, end_of_step-none}

-- an atomic object has this call open
abbrev IsOpenIn : {S I : Type 0} → Atomic S I → Invoked I → Type 0
IsOpenIn a c = a.open_call c.process ≡ Some c

-- a process has this call pending: the latest that it has begun
pub record IsCurrent {S I R : Type 0} (w : WorldOf S I R) (p nth : ℕ) : Type 0 where
  pub call : Pending
  pub pending : w.call p ≡ Some call
  pub latest : nth ≡ w.begun p - 1

-- calls that take effect one after the other were open before
placed_open : {S I R : Type 0} (object : Sequential S I R) (xs : List (Invoked I)) (rest : List (Act I R)) (a b : Atomic S I) → AcceptsAll object a (map Linearize xs ++ rest) b → All (IsOpenIn a) xs
placed_open object [] rest a b is = All-nil _
placed_open {S} {I} object (x ∷ xs) rest a b is = All-cons (IsOpenIn a) x xs is.1.0 (subst (λ (o : Atomic S I). All (IsOpenIn o) xs) is.1.2 (placed_open object xs rest is.0 b is.2))

module _ {S I R : Type 0} where
  -- an open call is the pending one
  open_is_current : (w : WorldOf S I R) (num : Name → ℕ) → AreCalls w num → (p nth : ℕ) (inv : I) → open_at w.memory (w.call p) ≡ Some (record { process = p; nth = nth; inv = inv }) → IsCurrent w p nth
  open_is_current w num calls p nth inv is = by_call (w.call p) refl is
    where
      by_call : (o : Option Pending) → w.call p ≡ o → open_at w.memory o ≡ Some (record { process = p; nth = nth; inv = inv }) → IsCurrent w p nth
      by_call None none e = absurd (cc)
      by_call (Some call) some e =
          let its = calls.mine p call some in
          let there : open_at w.memory (Some call) ≡ Some (record { process = p; nth = its.0; inv = its.3.0 }) =
          ap (invoked_at w.memory) its.1 ∙ rw its.3.1 refl in
          let k : its.0 ≡ nth = ap (λ (o : Option (Invoked I)). option_map_or (λ (x : Invoked I). x.nth) o 0) (sym there ∙ e) in
          let begun : w.begun p ≡ its.0 + 1 = its.2 in
          record { call = call; pending = some; latest = omega arith }

  -- the calls that take effect by a step were pending
  pub linearized_pending : (object : Sequential S I R) (w : WorldOf S I R) (p : ℕ) → Invariant object w → IsAccepted w (Step p)
      → All (λ (c : Invoked I). IsCurrent w c.process c.nth) (linearized_in (acts_of object w (Step p)))
  linearized_pending object w p inv ok =
      subst (All (λ (c : Invoked I). IsCurrent w c.process c.nth)) (sym (linearized_by_step object w p))
      (All-weaker (IsOpenIn a) _ (λ c there. open_is_current w inv.0 inv.2.calls c.process c.nth c.inv there) _ (placed_open object _ _ a took.0 took.2))
    where
      a : Atomic S I
      a = record { start = inv.2.values.anchor.0; agreed = calls_of w; open_call = λ q. open_at w.memory (w.call q); next_nth = w.begun }

      took : (b : Atomic S I) × Shows (world_after object w (Step p)) b × AcceptsAll object a (acts_of object w (Step p)) b
      took = accepts object w (Step p) inv ok tt a (record { start = inv.2.values.anchor.1; agreed = refl; open_call = λ q. refl; next_nth = λ q. refl })

  -- a step with a response is the last of its call
  pub last_or_silent : (n : ℕ) (mine : Name) (stage : Stage) (v : Content S I R) (seen : Memory S I R) → (response_after mine stage seen ≡ None) ⊎ (stage_after n mine stage v ≡ None)
  last_or_silent n mine (Finish c_seq mine_seq) v seen = inr refl
  last_or_silent n mine stage v seen = inl refl

  module _ (object : Sequential S I R) (w : WorldOf S I R) where
    -- what is pending after a step was so before it, and if it is of the process that took the step, that had no response
    pub pending_before_step : (q p nth : ℕ) → IsAccepted w (Step q) → IsCurrent (world_after object w (Step q)) p nth
        → IsCurrent w p nth × ((p ≢ q) ⊎ (response_of_step w q ≡ None))
    pending_before_step q p nth ok is = by_call (w.call q) refl ok is.call is.pending is.latest
      where
        by_call : (o : Option Pending) → w.call q ≡ o → IsSome o → (call : Pending) → (world_after_step object w q o).call p ≡ Some call → nth ≡ (world_after_step object w q o).begun p - 1
            → IsCurrent w p nth × ((p ≢ q) ⊎ (response_of_step w q ≡ None))
        by_call None none ok call pending latest = absurd (let e : false ≡ true = ok in cc)
        by_call (Some own) some ok call pending latest =
            elim (set_at-cases w.call q (call_after own.mine (stage_after w.n own.mine own.stage (w.memory (place_of w.n q own.mine own.stage)))) p) [
              | inl here ↦ (
                record { call = own; pending = ap w.call here.0 ∙ some; latest = latest },
                inr (
                    elim (last_or_silent w.n own.mine own.stage (w.memory (place_of w.n q own.mine own.stage)) w.memory) [
                      | inl silent ↦ ap (option_and_then (λ (c : Pending). response_after c.mine c.stage w.memory)) some ∙ silent
                      | inr over ↦ absurd (let none : Some call ≡ None = sym pending ∙ here.1 ∙ ap (call_after own.mine) over in cc)
                    ]),
              )
              | inr other ↦ (record { call = call; pending = sym other.1 ∙ pending; latest = latest }, inl other.0)
            ]

    -- the end of an era leaves the calls of all processes
    pub kept_by_era : (n : ℕ) → ((world_after_era w n).call ≡ w.call) × ((world_after_era w n).begun ≡ w.begun)
    kept_by_era n = by_new (new_of w.memory (last_cell w))
      where
        by_new : (o : Option (S × Option R)) → let v = option_map_or (λ (new : S × Option R). record w { n = n; first = w.begun; memory = anchor_memory new.0 (seq_of w.memory (last_cell w)) }) o w in
            (v.call ≡ w.call) × (v.begun ≡ w.begun)
        by_new None = (refl, refl)
        by_new (Some new) = (refl, refl)

    pub pending_before_era : (n p nth : ℕ) → IsCurrent (world_after_era w n) p nth → IsCurrent w p nth
    pending_before_era n p nth is =
        let kept = kept_by_era n in
        record { call = is.call; pending = sym (ap (λ f. f p) kept.0) ∙ is.pending; latest = is.latest ∙ ap (λ f. f p - 1) kept.1 }

    -- what is pending after a call that begins is that call, or was so before it
    pub pending_before_call : (q : ℕ) (i : I) (p nth : ℕ) → IsCurrent (world_after object w (Call q i)) p nth → ((p ≡ q) × (nth ≡ w.begun q)) ⊎ IsCurrent w p nth
    pending_before_call q i p nth is =
        elim (number_cases p q) [
          | inl here ↦ inl (here.0, (let last = rw here.1 at is.latest in omega arith))
          | inr other ↦ inr (record { call = is.call; pending = rw other.1 at is.pending; latest = rw other.1 at is.latest })
        ]

-- Each dot lies in a bar of its call.

module _ {S I R : Type 0} (o : SpokenObject S I R) where
  -- the dot is of a call that is pending, which doesn't end before it in a run that goes on so
  record IsAhead (w : WorldOf S I R) (place : ℕ) (es : List (Event I)) (d : Dot) : Type 0 where
    pub process : ℕ
    pub nth : ℕ
    pub named : d.call ≡ record { process = process; nth = nth }
    pub current : IsCurrent w process nth
    pub before : IfSome (end_in o process w place es) (λ e. d.event ≤ e.event)

  -- or of one that begins in that run, in whose bar it lies
  abbrev HasBar : WorldOf S I R → (place : ℕ) → List (Event I) → Dot → Type 0
  HasBar w place es d = (b : Called) × Contains (bars_in o w place es) b × LiesIn d b

  abbrev Lies : WorldOf S I R → (place : ℕ) → List (Event I) → Dot → Type 0
  Lies w place es d = (place ≤ d.event) × (IsAhead w place es d ⊎ HasBar w place es d)

  -- an event that ends a call does so at its place
  end_by-place : (P : ℕ → Type 0) (p : ℕ) (w : WorldOf S I R) (place : ℕ) (e : Event I) → P place → IfSome (end_by o p w place e) (λ x. P x.event)
  end_by-place P p w place (Step q) here = by_test (q == p) (response_of_step w q)
    where
      by_test : (t : Bool) (r : Option R)
          → IfSome (if t then option_map (λ (r : R). let x : End = record { event = place; reply = o.language.resp_text r; steps = (world_after o.object w (Step q)).steps q; turns = (world_after o.object w (Step q)).turns q } in x) r else None) (λ x. P x.event)
      by_test true None = tt
      by_test true (Some r) = here
      by_test false r = tt
  end_by-place P p w place e here = tt

  -- a call ends in a run at one of its events
  pub end_in-place : (P : ℕ → Type 0) (p : ℕ) (w : WorldOf S I R) (place : ℕ) (es : List (Event I)) → ((k : ℕ) → place ≤ k → k < place + length es → P k) → IfSome (end_in o p w place es) (λ e. P e.event)
  end_in-place P p w place [] each = tt
  end_in-place P p w place (e ∷ es) each =
      IfSome-either (λ (x : End). P x.event) (end_by o p w place e) (end_in o p (world_after o.object w e) (place + 1) es)
      (end_by-place P p w place e (each place (omega arith) (omega arith)))
      (end_in-place P p (world_after o.object w e) (place + 1) es (λ k low high. each k (omega arith) (omega arith)))

  bars_within : (w : WorldOf S I R) (place : ℕ) (es : List (Event I)) (most : ℕ) → place + length es ≤ most → All (λ (b : Called). IfSome b.end (λ e. e.event < most)) (bars_in o w place es)
  bars_within w place [] most high = All-nil _
  bars_within w place (Call p i ∷ es) most high =
      All-cons (λ (b : Called). IfSome b.end (λ e. e.event < most)) (record (bar_begun o w place p i) { end = end_in o p (world_after o.object w (Call p i)) (place + 1) es }) _
      (end_in-place (λ k. k < most) p (world_after o.object w (Call p i)) (place + 1) es (λ k low within. omega arith)) (bars_within (world_after o.object w (Call p i)) (place + 1) es most (omega arith))
  bars_within w place (e ∷ es) most high = bars_within (world_after o.object w e) (place + 1) es most (omega arith)

  pub EndsAreEvents-holds : (text : S → List ℕ) (name : List ℕ) (n : ℕ) (start : S) (number : ℕ) (events : List (Event I)) → EndsAreEvents o text name n start number events
  EndsAreEvents-holds text name n start number events = bars_within (opened_world n start number) 0 events (length events) (omega arith)

  -- a step that doesn't end the call of a process
  end_by-none : (p q : ℕ) (w : WorldOf S I R) (place : ℕ) → (p ≢ q) ⊎ (response_of_step w q ≡ None) → None ≡ end_by o p w place (Step q)
  end_by-none p q w place (inl apart) = ap (λ t. if t then end_of_step o w place q else None) (sym (ne_eqb q p (λ same. apart (sym same))))
  end_by-none p q w place (inr silent) = either_way {A = Option End} (q == p) None ∙ ap (λ x. if q == p then x else None) (sym (end_of_step-none o w place q silent))

  -- the dots of a step are of calls that are pending
  here_ahead : (w : WorldOf S I R) (place p : ℕ) (es : List (Event I)) (calls : List (Invoked I)) → All (λ (c : Invoked I). IsCurrent w c.process c.nth) calls
      → All (Lies w place (Step p ∷ es)) (dots_of place p calls)
  here_ahead w place p es calls all = All-map (Lies w place (Step p ∷ es)) dot calls (All-weaker _ (λ c. Lies w place (Step p ∷ es) (dot c)) (λ c current. (
    (omega arith),
    inl (record { process = c.process; nth = c.nth; named = refl; current = current; before = end_in-place (λ k. place ≤ k) c.process w place (Step p ∷ es) (λ k low within. low) }),
  )) calls all)
    where
      dot : Invoked I → Dot
      dot c = record { event = place; call = record { process = c.process; nth = c.nth }; by = p }

  -- those of the later events, with one event before these
  module _ (w : WorldOf S I R) (place : ℕ) (es : List (Event I)) (d : Dot) where
    lies_behind_call : (q : ℕ) (i : I) → Lies (world_after o.object w (Call q i)) (place + 1) es d → Lies w place (Call q i ∷ es) d
    lies_behind_call q i lies =
        let later = lies.0 in (
          (omega arith),
          elim lies.1 [
            | inl ahead ↦ elim (pending_before_call o.object w q i ahead.process ahead.nth ahead.current) [
              | inl new ↦ inr (
                record (bar_begun o w place q i) { end = end_in o q (world_after o.object w (Call q i)) (place + 1) es },
                contains_first _ _,
                record {
                  call = ap (λ p. let id : CallId = record { process = p; nth = w.begun q } in id) (sym new.0) ∙ ap (λ k. let id : CallId = record { process = ahead.process; nth = k } in id) (sym new.1) ∙ sym ahead.named;
                  after = omega arith;
                  before = subst (λ p. IfSome (end_in o p (world_after o.object w (Call q i)) (place + 1) es) (λ e. d.event ≤ e.event)) new.0 ahead.before;
                },
              )
              | inr old ↦ inl (record { process = ahead.process; nth = ahead.nth; named = ahead.named; current = old; before = ahead.before })
            ]
            | inr has ↦ inr (has.0, Contains-append_right (record (bar_begun o w place q i) { end = end_in o q (world_after o.object w (Call q i)) (place + 1) es } ∷ []) _ has.0 has.1, has.2)
          ],
        )

    -- an event that begins no call, and after which no more calls are pending
    lies_behind : (e : Event I) → ((p nth : ℕ) → IsCurrent (world_after o.object w e) p nth → IsCurrent w p nth × (None ≡ end_by o p w place e))
        → bars_in o (world_after o.object w e) (place + 1) es ≡ bars_in o w place (e ∷ es) → Lies (world_after o.object w e) (place + 1) es d → Lies w place (e ∷ es) d
    lies_behind e before same lies =
        let later = lies.0 in (
          (omega arith),
          elim lies.1 [
            | inl ahead ↦ (
                let old = before ahead.process ahead.nth ahead.current in
                inl (record {
                  process = ahead.process;
                  nth = ahead.nth;
                  named = ahead.named;
                  current = old.0;
                  before = subst (λ x. IfSome (option_or x (end_in o ahead.process (world_after o.object w e) (place + 1) es)) (λ e. d.event ≤ e.event)) old.1 ahead.before;
                }))
            | inr has ↦ inr (has.0, subst (λ bars. Contains bars has.0) same has.1, has.2)
          ],
        )

  dots_lie : (w : WorldOf S I R) (place : ℕ) (es : List (Event I)) → Invariant o.object w → AreAccepted o.object w es → All (Lies w place es) (along o.object (dots_by o.object) w place es)
  dots_lie w place [] inv ok = All-nil _
  dots_lie w place (e ∷ es) inv ok = by_event e ok.0 (dots_lie (world_after o.object w e) (place + 1) es (Invariant-world_after o.object w e ok.0 inv) ok.1)
    where
      by_event : (e : Event I) → IsAccepted w e
          → All (Lies (world_after o.object w e) (place + 1) es) (along o.object (dots_by o.object) (world_after o.object w e) (place + 1) es)
          → All (Lies w place (e ∷ es)) (along o.object (dots_by o.object) w place (e ∷ es))
      by_event (Call q i) ok later = All-weaker _ _ (λ d. lies_behind_call w place es d q i) _ later
      by_event (Step q) ok later =
          All-append (Lies w place (Step q ∷ es)) (dots_by o.object w place (Step q)) (along o.object (dots_by o.object) (world_after o.object w (Step q)) (place + 1) es)
          (here_ahead w place q es (linearized_in (acts_of o.object w (Step q))) (linearized_pending o.object w q inv ok))
          (All-weaker _ _ (λ d. lies_behind w place es d (Step q) (λ p nth is. let old = pending_before_step o.object w q p nth ok is in (old.0, end_by-none p q w place old.1)) refl) _ later)
      by_event Trim ok later = All-weaker _ _ (λ d. lies_behind w place es d Trim (λ p nth is. (pending_before_era o.object w w.n p nth is, refl)) refl) _ later
      by_event (Reshape n) ok later = All-weaker _ _ (λ d. lies_behind w place es d (Reshape n) (λ p nth is. (pending_before_era o.object w n p nth is, refl)) refl) _ later

  pub DotsLieInBars-holds : (text : S → List ℕ) (name : List ℕ) (n : ℕ) (start : S) (number : ℕ) (events : List (Event I)) → DotsLieInBars o text name n start number events
  DotsLieInBars-holds text name n start number events positive ok =
      let w = opened_world n start number in
      All-weaker (Lies w 0 events) (HasBar w 0 events) (λ d lies. elim lies.1 [
        | inl ahead ↦ absurd (let none = ahead.current.pending in cc)
        | inr has ↦ has
      ]) _ (dots_lie w 0 events (Invariant-opened_world o.object n start number positive) ok)
