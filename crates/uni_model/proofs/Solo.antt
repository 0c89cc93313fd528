-- The steps of one process, one after another, as equations of worlds.
use Rattle.uni_model.proofs.Vocabulary.{AfterOf, Anchor, Announce, Announced, AreAccepted, BeforeOf, CellName, DecideAfter, DecideNew, Event, Finish, HeadOf, IsAccepted, Link, List, Memory, Name, NewOf, None, Number, Option, Pending, ReadAnnounce, ReadHelpSeq, ScanHead, ScanSeq, SeqOf, Sequential, Some, Stage, Step, Test, WorldOf, WriteBefore, WriteHead, WriteScan, WriteSeq, [], after_of, announce_of, ap, arith, content_after, head_of, if◌then◌else◌, inl, inr, memory_with, next_in_scan, option_map, option_or, place_of, refl, seq_of, set_at, stage_after, stage_after_scan, subst, suc, sym, turn_of, unwrap_or, world_after, world_after_all, world_after_step, zero, ℕ, ◌%◌, ◌++◌, ◌+◌, ◌-◌, ◌==◌, ◌∙◌, ◌∷◌, ◌≡◌, ◌≤◌}
use Rattle.uni_model.proofs.Written.{number_cases, lt_cases, set_at-cases, written_same}
use Rattle.uni_model.proofs.WaitFree.{NeverBlocks-holds}
use Rattle.uni_model.proofs.Runs.{world_after_all-append, AreAccepted-append}

pub set_at_here : {A : Type 0} (f : ℕ → A) (p : ℕ) (v : A) → set_at f p v p ≡ v
set_at_here f p v = elim (set_at-cases f p v p) [ inl h ↦ h.1 | inr h ↦ absurd (h.0 refl) ]

module _ {A : Type 0} (f : ℕ → A) (p : ℕ) where
  twice_at : (a b : A) (q : ℕ) → set_at (set_at f p a) p b q ≡ set_at f p b q
  twice_at a b q = elim (number_cases q p) [ inl h ↦ rw h.1 refl | inr h ↦ rw h.1 refl ]

  pub set_at-twice : (a b : A) → set_at (set_at f p a) p b ≡ set_at f p b
  set_at-twice a b = λ i q. twice_at a b q i

  own_at : (a : A) → f p ≡ a → (q : ℕ) → set_at f p a q ≡ f q
  own_at a is q = elim (number_cases q p) [ inl h ↦ rw h.1 (sym is ∙ ap f (sym h.0)) | inr h ↦ rw h.1 refl ]

  pub set_at-own : (a : A) → f p ≡ a → set_at f p a ≡ f
  set_at-own a is = λ i q. own_at a is q i

-- the world with this memory, in which p stands there after so many turns and steps
abbrev pub world_at : {S I R : Type 0} → WorldOf S I R → (p : ℕ) → (mine : Name) → Memory S I R → Option Stage → (turns steps : ℕ)
    → WorldOf S I R
world_at w p mine m stage turns steps = record w {
  memory = m;
  call = set_at w.call p (option_map (λ k. record { mine = mine; stage = k }) stage);
  steps = set_at w.steps p steps;
  turns = set_at w.turns p turns;
}

-- so it is after some number of steps
abbrev pub IsAt : {S I R : Type 0} → WorldOf S I R → (p : ℕ) → (mine : Name) → Memory S I R → Option Stage → (turns : ℕ)
    → WorldOf S I R → Type 0
IsAt w p mine m stage turns v = (steps : ℕ) × (v ≡ world_at w p mine m stage turns steps)

-- a world in which p's call is pending is so itself
pub at_here : {S I R : Type 0} (w : WorldOf S I R) (p : ℕ) (mine : Name) (stage : Stage) (turns : ℕ) → w.call p ≡ Some (record { mine = mine; stage = stage })
    → w.turns p ≡ turns → IsAt w p mine w.memory (Some stage) turns w
at_here w p mine stage turns is count = (
  w.steps p,
  sym (
      ap (λ (c : ℕ → Option Pending). record w { call = c; steps = set_at w.steps p (w.steps p); turns = set_at w.turns p turns }) (set_at-own w.call p (Some (record { mine = mine; stage = stage })) is)
      ∙ ap (λ (s : ℕ → ℕ). record w { steps = s; turns = set_at w.turns p turns }) (set_at-own w.steps p (w.steps p) refl)
      ∙ ap (λ (t : ℕ → ℕ). record w { turns = t }) (set_at-own w.turns p turns count)),
)

module _ {S I R : Type 0} (object : Sequential S I R) where
  -- events can come from w after which the world is so
  pub record Can (w : WorldOf S I R) (P : WorldOf S I R → Type 0) : Type 0 where
    pub events : List (Event I)
    pub accepted : AreAccepted object w events
    pub holds : P (world_after_all object w events)

  pub now : (w : WorldOf S I R) (P : WorldOf S I R → Type 0) → P w → Can w P
  now w P h = record { events = []; accepted = tt; holds = h }

  pub next : (w : WorldOf S I R) (P : WorldOf S I R → Type 0) (e : Event I) → IsAccepted w e → Can (world_after object w e) P → Can w P
  next w P e ok rest = record { events = e ∷ rest.events; accepted = (ok, rest.accepted); holds = rest.holds }

  pub and_then : (w : WorldOf S I R) (P Q : WorldOf S I R → Type 0) → Can w P → ((v : WorldOf S I R) → P v → Can v Q) → Can w Q
  and_then w P Q first later =
      let rest = later (world_after_all object w first.events) first.holds in record {
        events = first.events ++ rest.events;
        accepted = AreAccepted-append object w first.events rest.events first.accepted rest.accepted;
        holds = subst (λ v. Q v) (sym (world_after_all-append object w first.events rest.events)) rest.holds;
      }

  module _ (w : WorldOf S I R) (p : ℕ) (mine : Name) where
    step_at : (m : Memory S I R) (k : Stage) (turns steps : ℕ)
        → world_after object (world_at w p mine m (Some k) turns steps) (Step p)
        ≡ world_at w p mine (memory_with m (place_of w.n p mine k) (content_after object mine k (m (place_of w.n p mine k)) m))
        (stage_after w.n mine k (m (place_of w.n p mine k))) (turns + turn_of k (m (place_of w.n p mine k))) (steps + 1)
    step_at m k turns steps =
        let v = world_at w p mine m (Some k) turns steps in
        let place = place_of w.n p mine k in
        let m' : Memory S I R = memory_with m place (content_after object mine k (m place) m) in
        let stage' : Option Pending = option_map (λ x. record { mine = mine; stage = x }) (stage_after w.n mine k (m place)) in
        ap (λ o. world_after_step object v p o) (set_at_here w.call p (Some (record { mine = mine; stage = k })))
        ∙ ap (λ (c : ℕ → Option Pending). record w { memory = m'; call = c; steps = set_at v.steps p (v.steps p + 1); turns = set_at v.turns p (v.turns p + turn_of k (m place)) }) (set_at-twice w.call p _ stage')
        ∙ ap (λ (s : ℕ → ℕ). record w { memory = m'; call = set_at w.call p stage'; steps = s; turns = set_at v.turns p (v.turns p + turn_of k (m place)) })
        (set_at-twice w.steps p steps _ ∙ ap (λ s. set_at w.steps p (s + 1)) (set_at_here w.steps p steps))
        ∙ ap (λ (t : ℕ → ℕ). record w { memory = m'; call = set_at w.call p stage'; steps = set_at w.steps p (steps + 1); turns = t })
        (set_at-twice w.turns p turns _ ∙ ap (λ t. set_at w.turns p (t + turn_of k (m place))) (set_at_here w.turns p turns))

    -- one step
    pub stepped : (v : WorldOf S I R) (m : Memory S I R) (k : Stage) (turns : ℕ) → IsAt w p mine m (Some k) turns v
        → (m' : Memory S I R) (stage : Option Stage) (turns' : ℕ)
        → memory_with m (place_of w.n p mine k) (content_after object mine k (m (place_of w.n p mine k)) m) ≡ m'
        → stage_after w.n mine k (m (place_of w.n p mine k)) ≡ stage → turns + turn_of k (m (place_of w.n p mine k)) ≡ turns'
        → IsAccepted v (Step p) × IsAt w p mine m' stage turns' (world_after object v (Step p))
    stepped v m k turns is m' stage turns' same_m same_stage same_turns = (
      NeverBlocks-holds v p (record { mine = mine; stage = k }) (ap (λ (x : WorldOf S I R). x.call p) is.1 ∙ set_at_here w.call p (Some (record { mine = mine; stage = k }))),
      (
        is.0 + 1,
        ap (λ x. world_after object x (Step p)) is.1 ∙ step_at m k turns is.0
            ∙ ap (λ x. world_at w p mine x (stage_after w.n mine k (m (place_of w.n p mine k))) (turns + turn_of k (m (place_of w.n p mine k))) (is.0 + 1)) same_m
            ∙ ap (λ x. world_at w p mine m' x (turns + turn_of k (m (place_of w.n p mine k))) (is.0 + 1)) same_stage
            ∙ ap (λ x. world_at w p mine m' stage x (is.0 + 1)) same_turns,
      ),
    )

    -- one step, and what comes then
    step : (P : WorldOf S I R → Type 0) (v : WorldOf S I R) (m : Memory S I R) (k : Stage) (turns : ℕ) → IsAt w p mine m (Some k) turns v
        → (m' : Memory S I R) (stage : Option Stage) (turns' : ℕ)
        → memory_with m (place_of w.n p mine k) (content_after object mine k (m (place_of w.n p mine k)) m) ≡ m'
        → stage_after w.n mine k (m (place_of w.n p mine k)) ≡ stage → turns + turn_of k (m (place_of w.n p mine k)) ≡ turns'
        → ((u : WorldOf S I R) → IsAt w p mine m' stage turns' u → Can u P) → Can v P
    step P v m k turns is m' stage turns' same_m same_stage same_turns later =
        let goes = stepped v m k turns is m' stage turns' same_m same_stage same_turns in
        next v P (Step p) goes.0 (later (world_after object v (Step p)) goes.1)

    no_turn : (t : ℕ) → t + 0 ≡ t
    no_turn t = omega arith

    -- two steps of the scan, where all heads are the anchor
    module _ (m : Memory S I R) (number turns : ℕ) (heads : (r : ℕ) → head_of m r ≡ Anchor) (anchor : seq_of m Anchor ≡ number) where
      best : (q best_seq : ℕ) → best_seq ≤ number → stage_after_scan w.n q Anchor best_seq Anchor (seq_of m Anchor) ≡ next_in_scan w.n q Anchor number
      best q best_seq few = rw anchor (elim (lt_cases best_seq number) [
        | inl less ↦ rw less.1 refl
        | inr more ↦ rw more.1 (let same : best_seq ≡ number = (let h = more.0 in omega arith) in ap (λ x. next_in_scan w.n q Anchor x) same)
      ])

      compares : (q best_seq : ℕ) → best_seq ≤ number → (stage : Stage) → next_in_scan w.n q Anchor number ≡ stage → (v : WorldOf S I R)
          → IsAt w p mine m (Some (ScanHead q Anchor best_seq)) turns v → Can v (IsAt w p mine m (Some stage) turns)
      compares q best_seq few stage same v is =
          step _ v m _ turns is m (Some (ScanSeq q Anchor best_seq Anchor)) turns (written_same m (HeadOf q)) (ap (λ x. Some (ScanSeq q Anchor best_seq x)) (heads q)) (no_turn turns)
          (λ u is_u. step _ u m _ turns is_u m (Some stage) turns (written_same m (SeqOf Anchor)) (ap Some (best q best_seq few ∙ same)) (no_turn turns) (λ x is_x. now x _ is_x))

      scan : (left q best_seq : ℕ) → q + suc left ≡ w.n → best_seq ≤ number → (v : WorldOf S I R)
          → IsAt w p mine m (Some (ScanHead q Anchor best_seq)) turns v → Can v (IsAt w p mine m (Some (WriteScan Anchor number)) turns)
      scan zero q best_seq count few v is =
          compares q best_seq few (WriteScan Anchor number) (elim (lt_cases (q + 1) w.n) [ inl more ↦ absurd (let h = more.0 in omega arith) | inr done ↦ rw done.1 refl ]) v is
      scan (suc rest) q best_seq count few v is =
          and_then v (IsAt w p mine m (Some (ScanHead (q + 1) Anchor number)) turns) _
          (compares q best_seq few (ScanHead (q + 1) Anchor number) (elim (lt_cases (q + 1) w.n) [ inl more ↦ rw more.1 refl | inr done ↦ absurd (let h = done.0 in omega arith) ]) v is)
          (λ u is_u. scan rest (q + 1) number (omega arith) (omega arith) u is_u)

    -- the memory once p has announced its cell and written its head
    abbrev pub opened_by : Memory S I R → Memory S I R
    opened_by m = memory_with (memory_with m (Announced p) (CellName mine)) (HeadOf p) (CellName Anchor)

    -- p announces its cell
    pub announces_own : (m : Memory S I R) (turns : ℕ) (v : WorldOf S I R) → IsAt w p mine m (Some Announce) turns v
        → IsAccepted v (Step p) × IsAt w p mine (memory_with m (Announced p) (CellName mine)) (Some (ScanHead 0 Anchor 0)) turns (world_after object v (Step p))
    announces_own m turns v is = stepped v m _ turns is (memory_with m (Announced p) (CellName mine)) (Some (ScanHead 0 Anchor 0)) turns refl refl (no_turn turns)

    -- the further steps before the first turn, where all heads are the anchor
    pub scans : (m : Memory S I R) (number turns : ℕ) → ((r : ℕ) → head_of m r ≡ Anchor) → seq_of m Anchor ≡ number → 1 ≤ w.n → (v : WorldOf S I R)
        → IsAt w p mine (memory_with m (Announced p) (CellName mine)) (Some (ScanHead 0 Anchor 0)) turns v → Can v (IsAt w p mine (opened_by m) (Some (Test Anchor number)) turns)
    scans m number turns heads anchor some u is_u =
        and_then u (IsAt w p mine (memory_with m (Announced p) (CellName mine)) (Some (WriteScan Anchor number)) turns) _
        (scan (memory_with m (Announced p) (CellName mine)) number turns heads anchor (w.n - 1) 0 0 (omega arith) (omega arith) u is_u)
        (λ x is_x. step _ x _ _ turns is_x (opened_by m) (Some (Test Anchor number)) turns refl refl (no_turn turns) (λ y is_y. now y _ is_y))

    -- what p proposes: the cell that it reads, where that has no number yet, and else its own
    pub prefers_help : (m : Memory S I R) (s : ℕ) (help : Name) → announce_of m (s % w.n) ≡ help → seq_of m help ≡ 0
        → (if seq_of m (announce_of m (s % w.n)) == 0 then announce_of m (s % w.n) else mine) ≡ help
    prefers_help m s help is none = ap (λ x. if seq_of m x == 0 then x else mine) is ∙ ap (λ k. if k == 0 then help else mine) none

    pub prefers_own : (m : Memory S I R) (s : ℕ) (help : Name) → announce_of m (s % w.n) ≡ help → 1 ≤ seq_of m help
        → (if seq_of m (announce_of m (s % w.n)) == 0 then announce_of m (s % w.n) else mine) ≡ mine
    prefers_own m s help is some =
        ap (λ x. if seq_of m x == 0 then x else mine) is
        ∙ (elim (number_cases (seq_of m help) 0) [ inl none ↦ absurd (let h = none.0 in omega arith) | inr more ↦ rw more.1 refl ])

    some_or : (l : Option Name) (x d : Name) → unwrap_or l x ≡ d → option_or l (Some x) ≡ Some d
    some_or None x d e = ap Some e
    some_or (Some y) x d e = ap Some e

    -- the first half of a turn, in which p proposes a cell after c, and d comes after it
    pub proposes : (m : Memory S I R) (c : Name) (s turns : ℕ) → seq_of m mine ≡ 0 → (prefer d : Name)
        → (if seq_of m (announce_of m (s % w.n)) == 0 then announce_of m (s % w.n) else mine) ≡ prefer → unwrap_or (after_of m c) prefer ≡ d
        → (v : WorldOf S I R) → IsAt w p mine m (Some (Test c s)) turns v
        → Can v (IsAt w p mine (memory_with m (AfterOf c) (Link (Some d))) (Some (DecideNew c s d)) (turns + 1))
    proposes m c s turns none prefer d same_prefer same_d v is =
        step _ v m _ turns is m (Some (ReadAnnounce c s)) (turns + 1) (written_same m (SeqOf mine)) (rw none refl) (rw none refl)
        (λ v1 is1. step _ v1 m _ (turns + 1) is1 m (Some (ReadHelpSeq c s (announce_of m (s % w.n)))) (turns + 1) (written_same m (Announced (s % w.n))) refl (no_turn (turns + 1))
        (λ v2 is2. step _ v2 m _ (turns + 1) is2 m (Some (DecideAfter c s prefer)) (turns + 1) (written_same m (SeqOf (announce_of m (s % w.n)))) (ap (λ x. Some (DecideAfter c s x)) same_prefer) (no_turn (turns + 1))
        (λ v3 is3. step _ v3 m _ (turns + 1) is3 (memory_with m (AfterOf c) (Link (Some d))) (Some (DecideNew c s d)) (turns + 1)
        (ap (λ x. memory_with m (AfterOf c) (Link x)) (some_or (after_of m c) prefer d same_d)) (ap (λ x. Some (DecideNew c s x)) same_d) (no_turn (turns + 1))
        (λ v4 is4. now v4 _ is4))))

    -- the memory once p has threaded d after c
    abbrev pub threaded_by : Memory S I R → (c : Name) (s : ℕ) (d : Name) → Memory S I R
    threaded_by m c s d =
        memory_with (memory_with (memory_with (memory_with m (NewOf d) (content_after object mine (DecideNew c s d) (m (NewOf d)) m)) (BeforeOf d) (Link (Some c))) (SeqOf d) (Number (s + 1)))
        (HeadOf p) (CellName d)

    -- the second half of a turn, in which p threads d
    pub threads : (m : Memory S I R) (c : Name) (s : ℕ) (d : Name) (turns : ℕ) (v : WorldOf S I R) → IsAt w p mine m (Some (DecideNew c s d)) turns v
        → Can v (IsAt w p mine (threaded_by m c s d) (Some (Test d (s + 1))) turns)
    threads m c s d turns v is =
        step _ v m _ turns is _ (Some (WriteBefore c s d)) turns refl refl (no_turn turns)
        (λ v1 is1. step _ v1 _ _ turns is1 _ (Some (WriteSeq c s d)) turns refl refl (no_turn turns)
        (λ v2 is2. step _ v2 _ _ turns is2 _ (Some (WriteHead c s d)) turns refl refl (no_turn turns)
        (λ v3 is3. step _ v3 _ _ turns is3 (threaded_by m c s d) (Some (Test d (s + 1))) turns refl refl (no_turn turns)
        (λ v4 is4. now v4 _ is4))))

    -- p's head is its cell: the call returns in two steps
    pub ends : (m : Memory S I R) (c : Name) (s turns : ℕ) → seq_of m mine ≡ s + 1 → (v : WorldOf S I R) → IsAt w p mine m (Some (Test c (s + 1))) turns v
        → Can v (IsAt w p mine m None turns)
    ends m c s turns number v is =
        step _ v m _ turns is m (Some (Finish (s + 1) (s + 1))) turns (written_same m (SeqOf mine))
        (rw number (elim (number_cases (s + 1) 0) [ inl none ↦ absurd (let h = none.0 in omega arith) | inr some ↦ rw some.1 refl ]))
        (rw number (elim (number_cases (s + 1) 0) [ inl none ↦ absurd (let h = none.0 in omega arith) | inr some ↦ rw some.1 (no_turn turns) ]))
        (λ v1 is1. step _ v1 m _ turns is1 m None turns
        (elim (lt_cases (s + 1) (s + 1)) [ inl less ↦ absurd (let h = less.0 in omega arith) | inr same ↦ rw same.1 (written_same m (HeadOf p)) ]) refl (no_turn turns)
        (λ v2 is2. now v2 _ is2))
