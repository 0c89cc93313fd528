-- What the words of a closed table show.
use Rattle.uni_words.proofs.Vocabulary.{Anchor, AreAnswered, AreCallsOf, IsChained, IsLegal, IsNumbered, IsShown, IsSound, Memory, Name, None, Of, Sequential, Some, State, View, WorldOf, after_of, ap, arith, calls_in_era, cells_from, enough, entries_from, era_calls, inl, inr, inv_of, invoked_at, is_call_cell, log, log_of, logged_call, lt_cases, map, memory_of, number_of_entry, option_map, refl, response_in, seq_of, slice_get, subst, sum_below-bound, sym, told_memory, true, ℕ, ◌*◌, ◌+◌, ◌<◌, ◌∙◌, ◌≡◌, ◌≤◌}
use Rattle.uni_model.proofs.Chains.{cells_from-enough, cells_from-same, number_at}
use Rattle.uni_model.proofs.Logged.{legal_from, settled_from}
use Rattle.uni_model.proofs.SameLog.{entries_from-same}

module _ (object : Sequential ℕ ℕ ℕ) (row : ℕ) (w : WorldOf ℕ ℕ ℕ) (s : State ℕ View) (is : IsShown object row w s) where
  abbrev told : Memory ℕ ℕ ℕ
  told = told_memory w.n row s.words

  abbrev num : Name → ℕ
  num = is.sound.0

  sound : IsSound object w is.sound.0 is.sound.1
  sound = is.sound.2

  first_number : num Anchor ≡ 1
  first_number = sound.numbered.anchor ∙ is.words.number

  few : is.sound.1 ≤ w.n * row + 1
  few =
      let all = enough object w is.sound.0 is.sound.1 sound in
      let each : era_calls w ≤ w.n * row = sum_below-bound w.n row (calls_in_era w) (λ q. let few = is.words.room q in omega arith) in
      let anchor = first_number in
      omega arith

  shown_numbered : IsNumbered (memory_of w.n row s.words w.begun) num is.sound.1
  shown_numbered = subst (λ m. IsNumbered m num is.sound.1) is.words.memory sound.numbered

  told_numbered : IsNumbered told num is.sound.1
  told_numbered = record {
    anchor = shown_numbered.anchor;
    first = shown_numbered.first;
    least = shown_numbered.least;
    greatest = shown_numbered.greatest;
    one_each = shown_numbered.one_each;
    link = shown_numbered.link;
    goes_on = shown_numbered.goes_on;
    seq = shown_numbered.seq;
    threaded = shown_numbered.threaded;
  }

  begun_in_table : (p k : ℕ) → 1 ≤ num (Of p k) → (p < w.n) × (k < w.begun p)
  begun_in_table p k linked = let its = sound.calls.begun p k (sound.calls.linked p k linked) in (its.0, its.2)

  pub shows_chain : IsChained w.n row s.words
  shows_chain = record {
    num = num;
    last = is.sound.1;
    wide = is.words.wide;
    numbered = told_numbered;
    first = first_number;
    linked = λ p k linked. let h = begun_in_table p k linked in let room = is.words.room p in (h.0, let b = h.1 in omega arith);
    few = few;
  }

  -- the invocation of a linked cell is told by its word, whatever else has begun
  told_inv : (p k : ℕ) → 1 ≤ num (Of p k) → inv_of told (Of p k) ≡ inv_of w.memory (Of p k)
  told_inv p k linked =
      let h = begun_in_table p k linked in
      let room = is.words.room p in
      elim (lt_cases k row) [
        | inl a ↦ elim (lt_cases k (w.begun p)) [
          | inl b ↦ sym (ap (λ m. inv_of m (Of p k)) is.words.memory ∙ rw b.1 (rw a.1 refl))
          | inr b ↦ absurd (let x = b.0 in let y = h.1 in omega arith)
        ]
        | inr a ↦ absurd (let x = a.0 in let y = h.1 in omega arith)
      ]

  told_call : (x : Name) → 1 ≤ num x → invoked_at told x ≡ invoked_at w.memory x
  told_call Anchor linked = refl
  told_call (Of p k) linked = ap (option_map (λ (i : ℕ). record { process = p; nth = k; inv = i })) (told_inv p k linked)

  told_response : (x : Name) → 1 ≤ num x → response_in told x ≡ response_in w.memory x
  told_response x linked = sym (ap (λ m. response_in m x) is.words.memory)

  told_after : (x : Name) → after_of told x ≡ after_of w.memory x
  told_after x = sym (ap (λ m. after_of m x) is.words.memory)

  -- the log is that of the world, along the same cells
  pub log_is : log_of w.n row s.words ≡ entries_from w.memory 2 (cells_from (w.n * row) w.memory Anchor)
  log_is = ap (λ k. entries_from told (k + 1) (cells_from (w.n * row) told Anchor)) (sym (ap (λ m. seq_of m Anchor) is.words.memory) ∙ is.words.number)
      ∙ ap (entries_from told 2) (cells_from-same w.memory told told_after (w.n * row) Anchor)
      ∙ entries_from-same w.memory told num is.sound.1 sound.numbered told_call told_response (w.n * row) 2 Anchor

  -- which is the log of the definitions
  pub log_of_world : log w ≡ log_of w.n row s.words
  log_of_world =
      let all = enough object w is.sound.0 is.sound.1 sound in
      let each : era_calls w ≤ w.n * row = sum_below-bound w.n row (calls_in_era w) (λ q. let few = is.words.room q in omega arith) in
      ap (λ k. entries_from w.memory (k + 1) (cells_from (era_calls w) w.memory Anchor)) is.words.number
      ∙ (ap (entries_from w.memory 2) (cells_from-enough w.memory num is.sound.1 sound.numbered (era_calls w) (w.n * row) Anchor all (omega arith))
      ∙ sym log_is)

  pub calls_inside : AreCallsOf w.n (log_of w.n row s.words)
  calls_inside place e at =
      let number = number_of_entry object w num is.sound.1 sound place e (subst (λ l. slice_get l place ≡ Some e) (sym log_of_world) at) in
      (sound.calls.begun e.call.process e.call.nth (sound.calls.linked e.call.process e.call.nth (omega arith))).0

  pub legal_log : IsLegal object object.initial (map logged_call (log_of w.n row s.words))
  legal_log = subst (λ l. IsLegal object object.initial (map logged_call l)) (sym log_is)
      (legal_from object w is.sound.0 is.sound.1 sound (w.n * row) Anchor 2 (object.initial, None) sound.numbered.first is.words.state)

  pub answered_log : AreAnswered (log_of w.n row s.words)
  answered_log = subst AreAnswered (sym log_is) (λ place e at inside. rw at at (settled_from object w num is.sound.1 sound (w.n * row) Anchor 2 place sound.numbered.first inside))

  pub call_cells : (place : ℕ) (x : Name) → slice_get (cells_from (w.n * row) told Anchor) place ≡ Some x → is_call_cell w.n row x ≡ true
  call_cells place x at = by_name x (number_at told num is.sound.1 told_numbered (w.n * row) Anchor x place at) where
    by_name : (x : Name) → num x ≡ num Anchor + (place + 1) → is_call_cell w.n row x ≡ true
    by_name Anchor e = absurd (omega arith)
    by_name (Of p k) e =
        let h = begun_in_table p k (omega arith) in
        let room = is.words.room p in
        elim (lt_cases p w.n) [
          | inl a ↦ elim (lt_cases k row) [
            | inl b ↦ rw (a.1, b.1) refl
            | inr b ↦ absurd (let x = b.0 in let y = h.1 in omega arith)
          ]
          | inr a ↦ absurd (let x = a.0 in let y = h.0 in omega arith)
        ]
