-- A memory that has grown: what was settled or written stays. What holds of a process that takes no step goes on to hold.
use Rattle.uni_model.proofs.Vocabulary.{Announce, AtHead, DecideAfter, DecideNew, Finish, Grows, Has, HasBest, IsCellOf, IsPast, Memory, Name, Of, ReadAnnounce, ReadHelpSeq, ScanHead, ScanSeq, Stage, Stands, Test, WriteBefore, WriteHead, WriteScan, WriteSeq, ap, arith, head_of, head_seq, inl, inr, inv_of, new_of, seq_of, subst, sym, ℕ, ◌%◌, ◌+◌, ◌<◌, ◌∙◌, ◌≡◌, ◌≤◌, ◌⊎◌}

-- a number stays, or is given to a cell at the end of the chain, past every threaded cell
abbrev pub NumbersGrow : {S I R : Type 0} → Memory S I R → (num num' : Name → ℕ) → Type 0
NumbersGrow m num num' = (x : Name) → (num' x ≡ num x) ⊎ ((y : Name) → 1 ≤ seq_of m y → seq_of m y < num' x)

-- the number of p's head, at a stage that knows it
pub head_seq-at : {S I R : Type 0} (m : Memory S I R) (p : ℕ) (c : Name) (s : ℕ) → AtHead m p c s → head_seq m p ≡ s
head_seq-at m p c s h = ap (seq_of m) h.head ∙ h.seq

module _ {S I R : Type 0} (m m' : Memory S I R) (grows : Grows m m') where
  pub number_stays : (x : Name) (s : ℕ) → 1 ≤ s → seq_of m x ≡ s → seq_of m' x ≡ s
  number_stays x s positive e = grows.seq x (subst (λ t. 1 ≤ t) (sym e) positive) ∙ e

  pub HasBest-grows : (q : ℕ) (best : Name) (s : ℕ) → HasBest m q best s → HasBest m' q best s
  HasBest-grows q best s h = elim h [ inl none ↦ inl none | inr some ↦ inr (some.0, number_stays best s some.0 some.1) ]

  pub Has-new : (x : Name) → Has (new_of m x) → Has (new_of m' x)
  Has-new x h = (h.0, grows.new x h.0 h.1)

  pub Has-inv : (x : Name) → Has (inv_of m x) → Has (inv_of m' x)
  Has-inv x h = (h.0, grows.inv x h.0 h.1)

  pub IsCellOf-grows : (p : ℕ) (x : Name) → IsCellOf m p x → IsCellOf m' p x
  IsCellOf-grows p x h = (h.0, h.1, Has-inv (Of p h.0) h.2)

  pub or_cell_of : {P : Type 0} (p : ℕ) (x : Name) → P ⊎ IsCellOf m p x → P ⊎ IsCellOf m' p x
  or_cell_of p x h = elim h [ inl a ↦ inl a | inr cell ↦ inr (IsCellOf-grows p x cell) ]

  module _ (num num' : Name → ℕ) (numbers : NumbersGrow m num num') (p : ℕ) (head : head_of m' p ≡ head_of m p) (threaded : 1 ≤ head_seq m p) where
    pub AtHead-grows : (c : Name) (s : ℕ) → AtHead m p c s → AtHead m' p c s
    AtHead-grows c s h =
        let positive : 1 ≤ s = subst (λ t. 1 ≤ t) (head_seq-at m p c s h) threaded in
        record { head = head ∙ h.head; seq = number_stays c s positive h.seq }

    pub IsPast-grows : (x c : Name) (s : ℕ) → AtHead m p c s → IsPast num x s → IsPast num' x s
    IsPast-grows x c s h past =
        elim (numbers x) [
          | inl same ↦ elim past [ inl none ↦ inl (same ∙ none) | inr later ↦ inr (subst (λ t. s < t) (sym same) later) ]
          | inr last ↦ inr (subst (λ t. t < num' x) h.seq (last c (subst (λ d. 1 ≤ seq_of m d) h.head threaded)))
        ]

    -- what holds of a process at its stage holds later, while it takes no step
    pub Stands-grows : (n : ℕ) (mine : Name) (stage : Stage) → Stands m num n p mine stage → Stands m' num' n p mine stage
    Stands-grows n mine Announce h = tt
    Stands-grows n mine (ScanHead q best s) h = (h.0, HasBest-grows q best s h.1)
    Stands-grows n mine (ScanSeq q best s x) h = (h.0, HasBest-grows q best s h.1, subst (λ t. 1 ≤ t) (sym (grows.seq x h.2)) h.2)
    Stands-grows n mine (WriteScan best s) h = (h.0, number_stays best s h.0 h.1)
    Stands-grows n mine (Test c s) h = AtHead-grows c s h
    Stands-grows n mine (ReadAnnounce c s) h = (AtHead-grows c s h.0, IsPast-grows mine c s h.0 h.1)
    Stands-grows n mine (ReadHelpSeq c s help) h = (AtHead-grows c s h.0, IsPast-grows mine c s h.0 h.1, or_cell_of (s % n) help h.2)
    Stands-grows n mine (DecideAfter c s prefer) h = (AtHead-grows c s h.0, IsPast-grows prefer c s h.0 h.1, or_cell_of (s % n) prefer h.2)
    Stands-grows n mine (DecideNew c s d) h = (AtHead-grows c s h.0, grows.after c d h.1)
    Stands-grows n mine (WriteBefore c s d) h = (AtHead-grows c s h.0, grows.after c d h.1, Has-new d h.2)
    Stands-grows n mine (WriteSeq c s d) h = (AtHead-grows c s h.0, grows.after c d h.1, Has-new d h.2, grows.before d c h.3)
    Stands-grows n mine (WriteHead c s d) h = (AtHead-grows c s h.0, grows.after c d h.1, number_stays d (s + 1) (omega arith) h.2)
    Stands-grows n mine (Finish s t) h = (head_seq_stays h.0, h.1, number_stays mine t h.1 h.2) where
      head_seq_stays : head_seq m p ≡ s → head_seq m' p ≡ s
      head_seq_stays e = ap (seq_of m') head ∙ grows.seq (head_of m p) threaded ∙ e
