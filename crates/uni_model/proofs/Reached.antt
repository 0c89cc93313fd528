-- Each process's head has come as far as the last of its own cells that is threaded, but for that of its pending call. So where
-- nobody is pending some head has the last number.
use Rattle.uni_model.proofs.Vocabulary.{Anchor, Announce, DecideAfter, DecideNew, Finish, Has, HeadOf, IsQuiescent, IsSound, Memory, Name, None, Of, Option, Pending, ReadAnnounce, ReadHelpSeq, ScanHead, ScanSeq, Sequential, Some, SomeHead, Stage, Stands, Test, WorldOf, WriteBefore, WriteHead, WriteScan, WriteSeq, ap, arith, call_after, cases_lt, effect_of, era_calls, head_of, head_seq, inl, inr, inv_of, last_cell, memory_with, place_of, refl, seq_of, set_at, subst, sym, world_after_call, ℕ, ◌<◌, ◌∙◌, ◌≡◌, ◌≤◌, ◌⊎◌}
use Rattle.uni_model.proofs.Written.{lt_cases, set_at-cases, written_same, head_of-memory_with}
use Rattle.uni_model.proofs.Moves.{Moves}
use Rattle.uni_model.proofs.Kept.{threaded_when_quiescent}
use Rattle.uni_model.proofs.Simulation.{enough}
use Rattle.uni_model.proofs.OneLists.{number-last_of}

abbrev pub ReachesOwn : {S I R : Type 0} → WorldOf S I R → Type 0
ReachesOwn w = (p k : ℕ) → 1 ≤ seq_of w.memory (Of p k)
    → (seq_of w.memory (Of p k) ≤ head_seq w.memory p) ⊎ ((c : Pending) × (w.call p ≡ Some c) × (c.mine ≡ Of p k))

module _ {S I R : Type 0} (object : Sequential S I R) (m : Memory S I R) (num : Name → ℕ) (n p : ℕ) (mine : Name) where
  -- the last step of a call leaves p's head at its cell, or past it
  pub finished : (stage : Stage) → Stands m num n p mine stage
      → let e = effect_of object n mine stage (m (place_of n p mine stage)) m in
      let later = memory_with m (place_of n p mine stage) e.content in
      e.stage ≡ None → seq_of later mine ≤ head_seq later p
  finished Announce stands done = cc
  finished (ScanHead q best b) stands done = cc
  finished (ScanSeq q best b h) stands done = cc
  finished (WriteScan best b) stands done = cc
  finished (Test c s) stands done = cc
  finished (ReadAnnounce c s) stands done = cc
  finished (ReadHelpSeq c s help) stands done = cc
  finished (DecideAfter c s prefer) stands done = cc
  finished (DecideNew c s d) stands done = cc
  finished (WriteBefore c s d) stands done = cc
  finished (WriteSeq c s d) stands done = cc
  finished (WriteHead c s d) stands done = cc
  finished (Finish s t) stands done = elim (lt_cases s t) [
    | inl less ↦ rw less.1 (elim (head_of-memory_with m p p mine) [
      | inl here ↦ (let same : seq_of m (head_of (memory_with m (HeadOf p) _) p) ≡ seq_of m mine = ap (seq_of m) here.1 in omega arith)
      | inr other ↦ absurd (other.0 refl)
    ])
    | inr more ↦ rw more.1 (subst (λ x. seq_of x mine ≤ head_seq x p) (sym (written_same m (HeadOf p))) (
        let head : head_seq m p ≡ s = stands.0 in let number : seq_of m mine ≡ t = stands.2 in let most = more.0 in omega arith))
  ]

module _ {S I R : Type 0} (object : Sequential S I R) (w : WorldOf S I R) (num : Name → ℕ) (last : ℕ) (sound : IsSound object w num last) (reaches : ReachesOwn w) where
  pub ReachesOwn-moved : (p : ℕ) (mine : Name) (from : Stage) (is : w.call p ≡ Some (record { mine = mine; stage = from }))
      → (m : Memory S I R) (num' : Name → ℕ) (last' : ℕ) (to : Option Stage) (moves : Moves object w num p mine m num' last' to)
      → (rise : (r : ℕ) → r < w.n → head_seq w.memory r ≤ head_seq m r) → (to ≡ None → seq_of m mine ≤ head_seq m p)
      → (q k : ℕ) → 1 ≤ seq_of m (Of q k)
      → (seq_of m (Of q k) ≤ head_seq m q) ⊎ ((c : Pending) × (set_at w.call p (call_after mine to) q ≡ Some c) × (c.mine ≡ Of q k))
  ReachesOwn-moved p mine from is m num' last' to moves rise done q k threaded = elim was [ inl reached ↦ inl reached | inr pending ↦ still pending ] where
    made : Has (inv_of w.memory (Of q k))
    made = moves.linked q k (subst (λ s. 1 ≤ s) (moves.numbered.seq (Of q k) threaded) threaded)

    inside : q < w.n
    inside = (sound.calls.begun q k made).0

    was : (seq_of m (Of q k) ≤ head_seq m q) ⊎ ((c : Pending) × (w.call q ≡ Some c) × (c.mine ≡ Of q k))
    was = elim (cases_lt 0 (seq_of w.memory (Of q k))) [
      | inl before ↦ elim (reaches q k before) [
        | inl reached ↦ inl (let same = moves.grows.seq (Of q k) before in let more = rise q inside in omega arith)
        | inr pending ↦ inr pending
      ]
      | inr none ↦ elim (sound.calls.threaded q k made) [ inl before ↦ absurd (omega arith) | inr pending ↦ inr pending ]
    ]

    still : (c : Pending) × (w.call q ≡ Some c) × (c.mine ≡ Of q k)
        → (seq_of m (Of q k) ≤ head_seq m q) ⊎ ((c : Pending) × (set_at w.call p (call_after mine to) q ≡ Some c) × (c.mine ≡ Of q k))
    still pending = elim (set_at-cases w.call p (call_after mine to) q) [
      | inl here ↦
          let same : record { mine = mine; stage = from } ≡ pending.0 = (let a = sym is ∙ ap w.call (sym here.0) ∙ pending.1 in cc) in
          let its : mine ≡ Of q k = ap (λ (c : Pending). c.mine) same ∙ pending.2 in
          at_stage to refl here.0 its here.1
      | inr other ↦ inr (pending.0, other.1 ∙ pending.1, pending.2)
    ] where
      at_stage : (o : Option Stage) → to ≡ o → q ≡ p → mine ≡ Of q k → set_at w.call p (call_after mine to) q ≡ call_after mine to
          → (seq_of m (Of q k) ≤ head_seq m q) ⊎ ((c : Pending) × (set_at w.call p (call_after mine to) q ≡ Some c) × (c.mine ≡ Of q k))
      at_stage None e here its set = inl (subst (λ x. seq_of m x ≤ head_seq m q) its (subst (λ r. seq_of m mine ≤ head_seq m r) (sym here) (done e)))
      at_stage (Some stage) e here its set = inr (record { mine = mine; stage = stage }, set ∙ ap (call_after mine) e, its)

  pub ReachesOwn-begun : (p : ℕ) (i : I) → w.call p ≡ None → ReachesOwn (world_after_call w p i)
  ReachesOwn-begun p i idle q k threaded = elim (reaches q k threaded) [
    | inl reached ↦ inl reached
    | inr pending ↦ elim (set_at-cases w.call p (Some (record { mine = Of p (w.begun p); stage = Announce })) q) [
      | inl here ↦ absurd (let none : w.call q ≡ None = ap w.call here.0 ∙ idle in let some = pending.1 in cc)
      | inr other ↦ inr (pending.0, other.1 ∙ pending.1, pending.2)
    ]
  ]

  -- where nobody is pending some head has the last number
  pub SomeHead-quiescent : IsQuiescent w → (p : ℕ) → p < w.n → SomeHead w.memory w.n 0 last
  SomeHead-quiescent quiet p inside = by_name (last_cell w) (number-last_of object w num last sound (era_calls w) Anchor sound.numbered.first (enough object w num last sound)) where
    by_name : (x : Name) → num x ≡ last → SomeHead w.memory w.n 0 last
    by_name Anchor number =
        let threaded : 1 ≤ head_seq w.memory p = sound.calls.head p inside in
        let least : num Anchor ≤ num (head_of w.memory p) = sound.numbered.least (head_of w.memory p) (subst (λ k. 1 ≤ k) (sound.numbered.seq (head_of w.memory p) threaded) threaded) in
        let own : head_seq w.memory p ≡ num (head_of w.memory p) = sound.numbered.seq (head_of w.memory p) threaded in
        (p, omega arith, inside, omega arith)
    by_name (Of q k) number =
        let top : num Anchor ≤ last = sound.numbered.greatest Anchor in
        let first : 1 ≤ num Anchor = sound.numbered.first in
        let threaded : 1 ≤ seq_of w.memory (Of q k) = threaded_when_quiescent object w num last sound quiet (Of q k) (omega arith) in
        let own : seq_of w.memory (Of q k) ≡ num (Of q k) = sound.numbered.seq (Of q k) threaded in
        elim (reaches q k threaded) [
          | inl reached ↦ (q, omega arith, (sound.calls.begun q k (sound.calls.linked q k (omega arith))).0, omega arith)
          | inr pending ↦ absurd (let none = quiet q (sound.calls.process q pending.0 pending.1) in let some = pending.1 in cc)
        ]
