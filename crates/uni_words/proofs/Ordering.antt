-- The calls that had returned stand in the log before those that were begun later.
use Rattle.uni_words.proofs.Vocabulary.{AcceptsAll, Act, AreAccepted, AreAccepted-split, Atomic, Entry, Event, HasSeen, Invoke, IsInOrder, IsPrefixOf, IsRun-opened_world, Linearize, List, Respond, Seen, Sequential, StandInLog, StandsAt, WorldOf, [], acts_by, ap, arith, at_start, begun_run, inl, inr, length, log_of_run, lt_cases, number_cases, opened, prefixes_run, refl, run_history, sequential_acts, set_at_elsewhere, set_at_same, subst, suc, sym, take, world_after_all, ℕ, ◌++◌, ◌+◌, ◌<◌, ◌∙◌, ◌∷◌, ◌≡◌}
use Rattle.std.proofs.Math.Seq.{take-append_seam}
use Rattle.std.proofs.lemmas.Option.{slice_get_within}
use Rattle.uni_model.proofs.Linearized.{IsLinearizable-holds}
use Rattle.uni_words.proofs.Underway.{there_below}

-- how many calls these acts begin
abbrev invokes : List (Act ℕ ℕ) → ℕ
invokes [] = 0
invokes (Invoke p k i ∷ acts) = suc (invokes acts)
invokes (Linearize c ∷ acts) = invokes acts
invokes (Respond p k r ∷ acts) = invokes acts

invokes-sequential : (p k : ℕ) (calls : List (ℕ × ℕ)) → invokes (sequential_acts p k calls) ≡ length calls
invokes-sequential p k [] = refl
invokes-sequential p k (c ∷ cs) = ap suc (invokes-sequential p (k + 1) cs)

-- a call stands at its place in each later log
stays_at : (xs ys : List (Entry ℕ ℕ)) → IsPrefixOf xs ys → (p k j : ℕ) → StandsAt xs p k j → StandsAt ys p k j
stays_at xs ys prefix p k j h =
    let later = prefix.entries j h.entry h.at in
    let call : later.0.call ≡ h.entry.call = elim later.2 [ inl same ↦ ap (λ (e : Entry ℕ ℕ). e.call) same | inr gets ↦ gets.1.call ] in
    record { entry = later.0; at = later.1; process = ap (λ c. c.process) call ∙ h.process; nth = ap (λ c. c.nth) call ∙ h.nth }

module _ (object : Sequential ℕ ℕ ℕ) where
  -- the next number of a process counts the calls that it has begun
  counted : (a b : Atomic ℕ ℕ) (acts : List (Act ℕ ℕ)) (q : ℕ) → AcceptsAll object a acts b → b.next_nth q ≡ a.next_nth q + invokes (acts_by q acts)
  counted a b [] q h = (let e = ap (λ (x : Atomic ℕ ℕ). x.next_nth q) h in omega arith)
  counted a b (Invoke p k i ∷ acts) q h =
      let rest = counted h.0 b acts q h.2 in
      elim (number_cases p q) [
        | inl same ↦
            let now : h.0.next_nth q ≡ k + 1 = subst (λ r. h.0.next_nth r ≡ k + 1) same.0 (ap (λ (x : Atomic ℕ ℕ). x.next_nth p) h.1.2 ∙ set_at_same a.next_nth p (k + 1)) in
            let was : a.next_nth q ≡ k = subst (λ r. a.next_nth r ≡ k) same.0 h.1.1 in
            rw same.1 (omega (arith, rest, now, was))
        | inr other ↦
            let now : h.0.next_nth q ≡ a.next_nth q = ap (λ (x : Atomic ℕ ℕ). x.next_nth q) h.1.2 ∙ set_at_elsewhere a.next_nth p (k + 1) q (λ e. other.0 (sym e)) in
            rw other.1 (omega (arith, rest, now))
      ]
  counted a b (Linearize c ∷ acts) q h =
      let now = ap (λ (x : Atomic ℕ ℕ). x.next_nth q) h.1.2 in
      counted h.0 b acts q h.2 ∙ ap (λ k. k + invokes (acts_by q acts)) now
  counted a b (Respond p k r ∷ acts) q h =
      let now = ap (λ (x : Atomic ℕ ℕ). x.next_nth q) h.1.1 in
      elim (number_cases p q) [
        | inl same ↦ rw same.1 (counted h.0 b acts q h.2 ∙ ap (λ k. k + invokes (acts_by q acts)) now)
        | inr other ↦ rw other.1 (counted h.0 b acts q h.2 ∙ ap (λ k. k + invokes (acts_by q acts)) now)
      ]

  -- the log of the first events only grows
  grows_to : (n : ℕ) (events before after : List (Event ℕ)) → AreAccepted object (opened object n) events → events ≡ before ++ after → IsPrefixOf (log_of_run object (opened object n) before) (log_of_run object (opened object n) events)
  grows_to n events before after ok joins =
      let first : take (length before) events ≡ before = ap (take (length before)) joins ∙ take-append_seam before after in
      subst (λ es. IsPrefixOf (log_of_run object (opened object n) es) (log_of_run object (opened object n) events)) first
      (prefixes_run object (opened object n) events object.initial (IsRun-opened_world object n object.initial 1 events (omega arith) ok) (length before))

  -- what stands in the log of the first events stands in that of all
  pub StandInLog-later : (n : ℕ) (events : List (Event ℕ)) → AreAccepted object (opened object n) events → (t : Seen) → HasSeen object n events t → StandInLog object n events t.earlier
  StandInLog-later n events ok t seen i inside =
      let at = seen.earlier i inside in
      (at.0, stays_at _ _ (grows_to n events seen.before seen.after ok seen.joins) t.earlier.process i at.0 at.1)

  module _ (n : ℕ) (events : List (Event ℕ)) (ok : AreAccepted object (opened object n) events) (s : Seen) (seen : HasSeen object n events s) where
    abbrev w : WorldOf ℕ ℕ ℕ
    w = world_after_all object (opened object n) seen.before

    abbrev acts : List (Act ℕ ℕ)
    acts = run_history object n seen.before

    accepted : AreAccepted object (opened object n) seen.before
    accepted = (AreAccepted-split object (opened object n) seen.before seen.after (subst (AreAccepted object (opened object n)) seen.joins ok)).0

    -- the process of `made` has begun those calls and no others
    begun_made : w.begun s.made.process ≡ length s.made.calls
    begun_made =
        let shown = IsLinearizable-holds object n object.initial 1 seen.before (omega arith) accepted in
        let q = s.made.process in
        let next : shown.0.next_nth q ≡ 0 + invokes (acts_by q acts) = counted (at_start object.initial) shown.0 acts q shown.2 in
        let few : invokes (acts_by q acts) ≡ length s.made.calls = ap invokes seen.made ∙ invokes-sequential q 0 s.made.calls in
        let same : w.begun q ≡ shown.0.next_nth q = shown.1.next_nth q in
        omega arith

    -- what stands in the log of the first events stands before what was begun later
    pub in_order : IsInOrder (log_of_run object (opened object n) events) s
    in_order i j place inside later stands =
        let q = s.made.process in
        let short = log_of_run object (opened object n) seen.before in
        let grown = grows_to n events seen.before seen.after ok seen.joins in
        let at = seen.earlier i inside in
        elim (lt_cases at.0 place) [
          | inl less ↦ (at.0, less.0, stays_at short _ grown s.earlier.process i at.0 at.1)
          | inr more ↦ absurd (
              let within : at.0 < length short = slice_get_within short at.0 at.1.entry at.1.at in
              let there = there_below short place (let m = more.0 in omega arith) in
              let kept = grown.entries place there.0 there.1 in
              let call : kept.0.call ≡ there.0.call = elim kept.2 [ inl same ↦ ap (λ (e : Entry ℕ ℕ). e.call) same | inr gets ↦ gets.1.call ] in
              let same : kept.0 ≡ stands.entry = (let a = kept.1 in let b = stands.at in cc) in
              let process : there.0.call.process ≡ q = ap (λ c. c.process) (sym call) ∙ ap (λ (e : Entry ℕ ℕ). e.call.process) same ∙ stands.process in
              let nth : there.0.call.nth ≡ j = ap (λ c. c.nth) (sym call) ∙ ap (λ (e : Entry ℕ ℕ). e.call.nth) same ∙ stands.nth in
              let early = IsRun-opened_world object n object.initial 1 seen.before (omega arith) accepted in
              let less = (begun_run object (opened object n) seen.before object.initial early place there.0 there.1).1 in
              let begun : w.begun there.0.call.process ≡ w.begun q = ap w.begun process in
              let made = begun_made in
              omega arith)
        ]
