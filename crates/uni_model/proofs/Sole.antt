-- Among one process no call loses a turn: the process's head is the last cell, and what it links next is its own.
use Rattle.uni_model.proofs.Vocabulary.{Announce, Announced, Bool, CellName, Content, DecideAfter, DecideNew, Finish, HeadOf, Memory, Name, None, Option, Pending, Place, ReadAnnounce, ReadHelpSeq, ScanHead, ScanSeq, SeqOf, Sequential, Some, Stage, Test, WriteBefore, WriteHead, WriteScan, WriteSeq, after_of, announce_of, ap, arith, cond, content_after, false, head_of, if◌then◌else◌, inl, inr, memory_with, nat_lt, option_map, option_or, place_of, refl, seq_of, stage_after, stage_after_scan, subst, sym, true, turn_of, unwrap_or, ℕ, ◌%◌, ◌+◌, ◌==◌, ◌∙◌, ◌≡◌, ◌≤◌, ◌⊎◌}
use Rattle.uni_model.proofs.Written.{number_cases, lt_cases, written_same, after_of-memory_with, seq_of-memory_with}

-- nothing comes after the head, and mine has no number yet, after so many turns
pub record Fresh {S I R : Type 0} (m : Memory S I R) (mine : Name) (most turns : ℕ) : Type 0 where
  pub count : turns ≡ most
  pub end : after_of m (head_of m 0) ≡ None
  pub seq : seq_of m mine ≡ 0

-- the head is mine, after one turn
pub record Linked {S I R : Type 0} (m : Memory S I R) (mine : Name) (turns : ℕ) : Type 0 where
  pub count : turns ≡ 1
  pub head : head_of m 0 ≡ mine
  pub seq : 1 ≤ seq_of m mine

-- what holds at each stage of a call of the one process
abbrev pub IsSole : {S I R : Type 0} → Memory S I R → (mine : Name) → Stage → (turns : ℕ) → Type 0
IsSole m mine Announce turns = Fresh m mine 0 turns
IsSole m mine (ScanHead q best best_seq) turns = Fresh m mine 0 turns × (announce_of m 0 ≡ mine) × (q ≡ 0) × (best_seq ≡ 0)
IsSole m mine (ScanSeq q best best_seq h) turns = Fresh m mine 0 turns × (announce_of m 0 ≡ mine) × (q ≡ 0) × (best_seq ≡ 0) × (h ≡ head_of m 0)
IsSole m mine (WriteScan best best_seq) turns = Fresh m mine 0 turns × (announce_of m 0 ≡ mine) × (best ≡ head_of m 0)
IsSole m mine (Test c c_seq) turns = (Fresh m mine 0 turns × (announce_of m 0 ≡ mine) × (c ≡ head_of m 0)) ⊎ Linked m mine turns
IsSole m mine (ReadAnnounce c c_seq) turns = Fresh m mine 1 turns × (announce_of m 0 ≡ mine) × (c ≡ head_of m 0)
IsSole m mine (ReadHelpSeq c c_seq help) turns = Fresh m mine 1 turns × (help ≡ mine) × (c ≡ head_of m 0)
IsSole m mine (DecideAfter c c_seq prefer) turns = Fresh m mine 1 turns × (prefer ≡ mine) × (c ≡ head_of m 0)
IsSole m mine (DecideNew c c_seq d) turns = (turns ≡ 1) × (d ≡ mine)
IsSole m mine (WriteBefore c c_seq d) turns = (turns ≡ 1) × (d ≡ mine)
IsSole m mine (WriteSeq c c_seq d) turns = (turns ≡ 1) × (d ≡ mine)
IsSole m mine (WriteHead c c_seq d) turns = (turns ≡ 1) × (d ≡ mine) × (1 ≤ seq_of m mine)
IsSole m mine (Finish c_seq mine_seq) turns = Linked m mine turns

abbrev pub IsSoleCall : {S I R : Type 0} → Memory S I R → Option Pending → (turns : ℕ) → Type 0
IsSoleCall m None turns = after_of m (head_of m 0) ≡ None
IsSoleCall m (Some c) turns = IsSole m c.mine c.stage turns × (after_of m c.mine ≡ None)

-- only the last step ends a call, which has taken one turn then
pub one_turn : {S I R : Type 0} (m : Memory S I R) (n : ℕ) (mine : Name) (k : Stage) (v : Content S I R) (turns : ℕ) → IsSole m mine k turns → stage_after n mine k v ≡ None → turns + turn_of k v ≡ 1
one_turn m n mine Announce v turns h e = absurd cc
one_turn m n mine (ScanHead q best best_seq) v turns h e = absurd cc
one_turn m n mine (ScanSeq q best best_seq x) v turns h e = absurd cc
one_turn m n mine (WriteScan best best_seq) v turns h e = absurd cc
one_turn m n mine (Test c s) v turns h e = absurd cc
one_turn m n mine (ReadAnnounce c s) v turns h e = absurd cc
one_turn m n mine (ReadHelpSeq c s help) v turns h e = absurd cc
one_turn m n mine (DecideAfter c s prefer) v turns h e = absurd cc
one_turn m n mine (DecideNew c s d) v turns h e = absurd cc
one_turn m n mine (WriteBefore c s d) v turns h e = absurd cc
one_turn m n mine (WriteSeq c s d) v turns h e = absurd cc
one_turn m n mine (WriteHead c s d) v turns h e = absurd cc
one_turn m n mine (Finish s t) v turns h e = let one = h.count in omega arith

module _ {S I R : Type 0} (object : Sequential S I R) (m : Memory S I R) (n : ℕ) (mine : Name) (turns : ℕ) (one : n ≡ 1) (threaded : 1 ≤ seq_of m (head_of m 0))
    (last : after_of m mine ≡ None) where
  abbrev pub Goes : Stage → Type 0
  Goes k = IsSoleCall (memory_with m (place_of n 0 mine k) (content_after object mine k (m (place_of n 0 mine k)) m))
      (option_map (λ x. record { mine = mine; stage = x }) (stage_after n mine k (m (place_of n 0 mine k)))) (turns + turn_of k (m (place_of n 0 mine k)))

  -- a step that only reads
  reads : (place : Place) (stage : Stage) (count : ℕ) → IsSole m mine stage count → IsSoleCall (memory_with m place (m place)) (Some (record { mine = mine; stage = stage })) count
  reads place stage count h = subst (λ x. IsSoleCall x (Some (record { mine = mine; stage = stage })) count) (sym (written_same m place)) (h, last)

  later : (most : ℕ) → Fresh m mine most turns → Fresh m mine most (turns + 0)
  later most h = record { count = (let c = h.count in omega arith); end = h.end; seq = h.seq }

  pub moves : (k : Stage) → IsSole m mine k turns → Goes k
  moves Announce h = ((record { count = (let c = h.count in omega arith); end = h.end; seq = h.seq }, refl, refl, refl), last)
  moves (ScanHead q best best_seq) h = reads (HeadOf q) (ScanSeq q best best_seq (head_of m q)) (turns + 0) (later 0 h.0, h.1, h.2, h.3, ap (head_of m) h.2)
  moves (ScanSeq q best best_seq x) h =
      subst (λ k. IsSoleCall (memory_with m (SeqOf x) (m (SeqOf x))) (Some (record { mine = mine; stage = k })) (turns + 0)) (sym found)
      (reads (SeqOf x) (WriteScan x (seq_of m x)) (turns + 0) (later 0 h.0, h.1, h.4)) where
        found : stage_after_scan n q best best_seq x (seq_of m x) ≡ WriteScan x (seq_of m x)
        found = elim (lt_cases best_seq (seq_of m x)) [
          | inl less ↦ rw less.1 (elim (lt_cases (q + 1) n) [ inl more ↦ absurd (let l = more.0 in let z : q ≡ 0 = h.2 in omega arith) | inr done ↦ rw done.1 refl ])
          | inr more ↦ absurd (let l : seq_of m x ≤ best_seq = more.0 in let z : best_seq ≡ 0 = h.3 in let t : 1 ≤ seq_of m x = subst (λ y. 1 ≤ seq_of m y) (sym h.4) threaded in omega arith)
        ]
  moves (WriteScan best best_seq) h =
      (inl (record { count = (let c = h.0.count in omega arith); end = ap (after_of m) h.2 ∙ h.0.end; seq = h.0.seq }, h.1, refl), last)
  moves (Test c s) (inl h) =
      subst (λ v. IsSoleCall (memory_with m (SeqOf mine) (m (SeqOf mine))) (Some (record { mine = mine; stage = if v == 0 then ReadAnnounce c s else Finish s v })) (turns + (if v == 0 then 1 else 0))) (sym h.0.seq)
      (reads (SeqOf mine) (ReadAnnounce c s) (turns + 1) (record { count = (let c = h.0.count in omega arith); end = h.0.end; seq = h.0.seq }, h.1, h.2))
  moves (Test c s) (inr h) = elim (number_cases (seq_of m mine) 0) [
    | inl none ↦ absurd (let z = none.0 in let seq = h.seq in omega arith)
    | inr some ↦ rw some.1 (reads (SeqOf mine) (Finish s (seq_of m mine)) (turns + 0) (record { count = (let c = h.count in omega arith); head = h.head; seq = h.seq }))
  ]
  moves (ReadAnnounce c s) h =
      reads (Announced (s % n)) (ReadHelpSeq c s (announce_of m (s % n))) (turns + 0) (later 1 h.0, ap (announce_of m) (subst (λ k. s % k ≡ 0) (sym one) (let e : s % 1 ≡ 0 = omega arith in e)) ∙ h.1, h.2)
  moves (ReadHelpSeq c s help) h =
      subst (λ v. IsSoleCall (memory_with m (SeqOf help) (m (SeqOf help))) (Some (record { mine = mine; stage = DecideAfter c s (if v == 0 then help else mine) })) (turns + 0)) (sym (ap (seq_of m) h.1 ∙ h.0.seq))
      (reads (SeqOf help) (DecideAfter c s help) (turns + 0) (later 1 h.0, h.1, h.2))
  moves (DecideAfter c s prefer) h =
      let none : after_of m c ≡ None = ap (after_of m) h.2 ∙ h.0.end in (
        ((let c = h.0.count in omega arith), ap (λ l. unwrap_or l prefer) none ∙ h.1),
        elim (after_of-memory_with m c mine (option_or (after_of m c) (Some prefer))) [
          | inl same ↦ absurd (let z : seq_of m mine ≡ 0 = h.0.seq in let t : 1 ≤ seq_of m mine = subst (λ y. 1 ≤ seq_of m y) (sym (same.0 ∙ h.2)) threaded in omega arith)
          | inr other ↦ other.1 ∙ last
        ],
      )
  moves (DecideNew c s d) h = (((let c = h.0 in omega arith), h.1), last)
  moves (WriteBefore c s d) h = (((let c = h.0 in omega arith), h.1), last)
  moves (WriteSeq c s d) h =
      (((let c = h.0 in omega arith), h.1, elim (seq_of-memory_with m d mine (s + 1)) [ inl same ↦ (let e = same.1 in omega arith) | inr other ↦ absurd (other.0 (sym h.1)) ]), last)
  moves (WriteHead c s d) h = (inr (record { count = (let c = h.0 in omega arith); head = h.1; seq = h.2 }), last)
  moves (Finish s t) h = by_test (nat_lt s t) where
    by_test : (b : Bool) → after_of m (head_of (memory_with m (HeadOf 0) (cond b (CellName mine) (m (HeadOf 0)))) 0) ≡ None
    by_test true = last
    by_test false = ap (after_of m) h.head ∙ last
