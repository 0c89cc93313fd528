-- No call takes more than n + 1 turns.
use Rattle.uni_model.proofs.Vocabulary.{Anchor, Announce, DecideAfter, DecideNew, Finish, HasTurns, IsHelped, IsNumbered, IsPast, Memory, Name, ReadAnnounce, ReadHelpSeq, ScanHead, ScanSeq, Stage, Stands, Test, WriteBefore, WriteHead, WriteScan, WriteSeq, arith, cases_lt, head_of, head_seq, inl, inr, ℕ, ◌%◌, ◌+◌, ◌-◌, ◌<◌, ◌≡◌, ◌≤◌, ◌⊎◌}
use Rattle.uni_model.proofs.Grows.{head_seq-at}
use Rattle.uni_model.proofs.Residues.{with_remainder}

-- the numbers that a head has passed, while mine isn't linked: among n of them in a row is one with the remainder p
turns-unlinked : (n p first last s turns : ℕ) → p < n → first + turns ≤ s + 1 → s ≤ last
    → ((k : ℕ) → k % n ≡ p → first ≤ k → k < last → k + turns ≤ s + 1) → turns ≤ n + 1
turns-unlinked n p first last s turns inside found bound each = elim (cases_lt s (first + n)) [
  | inl near ↦ omega arith
  | inr far ↦
      let k = with_remainder n p inside (s - n) in
      let from : s - n ≤ k.0 = k.1 in
      let to : k.0 < (s - n) + n = k.2 in
      let below : k.0 + turns ≤ s + 1 = each k.0 k.3 (omega arith) (omega arith) in
      omega arith
]

module _ {S I R : Type 0} (m : Memory S I R) (num : Name → ℕ) (last : ℕ) (numbered : IsNumbered m num last) (n p : ℕ) (inside : p < n) (threaded : 1 ≤ head_seq m p) (mine : Name) (turns : ℕ) where
  -- a head's number isn't past the last one
  bound : (s : ℕ) → head_seq m p ≡ s → s ≤ last
  bound s number =
      let is : head_seq m p ≡ num (head_of m p) = numbered.seq (head_of m p) threaded in
      let greatest : num (head_of m p) ≤ last = numbered.greatest (head_of m p) in
      omega arith

  -- within a turn
  within : (s : ℕ) → head_seq m p ≡ s → IsPast num mine s → num Anchor + turns ≤ s + 1
      → (num mine ≡ 0 → (k : ℕ) → k % n ≡ p → num Anchor ≤ k → k < last → k + turns ≤ s + 1)
      → (k : ℕ) × (k + turns ≤ s + 1) × (num mine ≤ k + n + 1) → turns ≤ n + 1
  within s number past anchor unlinked linked = elim past [
    | inl none ↦ turns-unlinked n p (num Anchor) last s turns inside anchor (bound s number) (unlinked none)
    | inr ahead ↦
        let found : linked.0 + turns ≤ s + 1 = linked.1 in
        let near : num mine ≤ linked.0 + n + 1 = linked.2 in
        omega arith
  ]

  -- between turns
  between : (s : ℕ) → head_seq m p ≡ s → (turns ≡ 0) ⊎ ((num mine ≡ 0) ⊎ (s ≤ num mine)) → num Anchor + turns ≤ s
      → (num mine ≡ 0 → (k : ℕ) → k % n ≡ p → num Anchor ≤ k → k < last → k + turns ≤ s)
      → (k : ℕ) × (k + turns ≤ s) × (num mine ≤ k + n + 1) → turns ≤ n + 1
  between s number ahead anchor unlinked linked = elim ahead [
    | inl first ↦ omega arith
    | inr later ↦ elim later [
      | inl none ↦ turns-unlinked n p (num Anchor) last s turns inside (omega arith) (bound s number)
          (λ k is least below. let found : k + turns ≤ s = unlinked none k is least below in omega arith)
      | inr not_passed ↦
          let found : linked.0 + turns ≤ s = linked.1 in
          let near : num mine ≤ linked.0 + n + 1 = linked.2 in
          omega arith
    ]
  ]

  pub turns-le : (stage : Stage) → Stands m num n p mine stage → HasTurns stage turns → IsHelped m num last n p mine stage turns → turns ≤ n + 1
  turns-le Announce stands none h = omega arith
  turns-le (ScanHead q best s) stands none h = omega arith
  turns-le (ScanSeq q best s x) stands none h = omega arith
  turns-le (WriteScan best s) stands none h = omega arith
  turns-le (Test c s) stands some h = between s (head_seq-at m p c s stands) h.ahead h.anchor h.unlinked h.linked
  turns-le (ReadAnnounce c s) stands some h = within s (head_seq-at m p c s stands.0) h.ahead h.anchor h.unlinked h.linked
  turns-le (ReadHelpSeq c s help) stands some h = within s (head_seq-at m p c s stands.0) h.ahead h.anchor h.unlinked h.linked
  turns-le (DecideAfter c s prefer) stands some h = within s (head_seq-at m p c s stands.0) h.ahead h.anchor h.unlinked h.linked
  turns-le (DecideNew c s d) stands some h = within s (head_seq-at m p c s stands.0) h.ahead h.anchor h.unlinked h.linked
  turns-le (WriteBefore c s d) stands some h = within s (head_seq-at m p c s stands.0) h.ahead h.anchor h.unlinked h.linked
  turns-le (WriteSeq c s d) stands some h = within s (head_seq-at m p c s stands.0) h.ahead h.anchor h.unlinked h.linked
  turns-le (WriteHead c s d) stands some h = within s (head_seq-at m p c s stands.0) h.ahead h.anchor h.unlinked h.linked
  turns-le (Finish s t) stands some h = between s stands.0 h.ahead h.anchor h.unlinked h.linked
