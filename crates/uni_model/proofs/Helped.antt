-- What holds of a process that takes no step, and of what one considers, holds later.
use Rattle.uni_model.proofs.Vocabulary.{Announce, Announces, CountsOwnHead, DecideAfter, DecideNew, Finds, Finish, Grows, IsAhead, IsPast, Memory, Name, OfConsidered, ReadAnnounce, ReadHelpSeq, ScanHead, ScanSeq, SomeHead, Stage, Stands, Test, WriteBefore, WriteHead, WriteScan, WriteSeq, announce_of, arith, head_of, head_seq, inl, inr, refl, subst, sym, ℕ, ◌+◌, ◌<◌, ◌∙◌, ◌≡◌, ◌≤◌, ◌⊎◌}
use Rattle.uni_model.proofs.Grows.{NumbersGrow, head_seq-at}

pub OfConsidered-map : (stage : Stage) (Was Is : ℕ → Name → Type 0) → ((s : ℕ) (x : Name) → Was s x → Is s x) → OfConsidered stage Was → OfConsidered stage Is
OfConsidered-map Announce Was Is each h = tt
OfConsidered-map (ScanHead q best s) Was Is each h = tt
OfConsidered-map (ScanSeq q best s x) Was Is each h = tt
OfConsidered-map (WriteScan best s) Was Is each h = tt
OfConsidered-map (Test c s) Was Is each h = tt
OfConsidered-map (ReadAnnounce c s) Was Is each h = tt
OfConsidered-map (ReadHelpSeq c s help) Was Is each h = each s help h
OfConsidered-map (DecideAfter c s prefer) Was Is each h = each s prefer h
OfConsidered-map (DecideNew c s d) Was Is each h = tt
OfConsidered-map (WriteBefore c s d) Was Is each h = tt
OfConsidered-map (WriteSeq c s d) Was Is each h = tt
OfConsidered-map (WriteHead c s d) Was Is each h = tt
OfConsidered-map (Finish s t) Was Is each h = tt

-- p is in its first step, or has announced its cell
pub Announces-cases : {S I R : Type 0} (m : Memory S I R) (p : ℕ) (mine : Name) (stage : Stage) → Announces m p mine stage → (stage ≡ Announce) ⊎ (announce_of m p ≡ mine)
Announces-cases m p mine Announce h = inl refl
Announces-cases m p mine (ScanHead q best s) h = inr h
Announces-cases m p mine (ScanSeq q best s x) h = inr h
Announces-cases m p mine (WriteScan best s) h = inr h
Announces-cases m p mine (Test c s) h = inr h
Announces-cases m p mine (ReadAnnounce c s) h = inr h
Announces-cases m p mine (ReadHelpSeq c s help) h = inr h
Announces-cases m p mine (DecideAfter c s prefer) h = inr h
Announces-cases m p mine (DecideNew c s d) h = inr h
Announces-cases m p mine (WriteBefore c s d) h = inr h
Announces-cases m p mine (WriteSeq c s d) h = inr h
Announces-cases m p mine (WriteHead c s d) h = inr h
Announces-cases m p mine (Finish s t) h = inr h

module _ {S I R : Type 0} (m m' : Memory S I R) (n : ℕ) (heads : (r : ℕ) → r < n → head_seq m r ≤ head_seq m' r) where
  pub SomeHead-grows : (q s : ℕ) → SomeHead m n q s → SomeHead m' n q s
  SomeHead-grows q s h =
      let was : s ≤ head_seq m h.0 = h.3 in
      let more : head_seq m h.0 ≤ head_seq m' h.0 = heads h.0 h.2 in
      (h.0, h.1, h.2, omega arith)

  -- a scan goes on to find what it finds, while its process takes no step
  pub Finds-grows : (grows : Grows m m') (num : Name → ℕ) (p : ℕ) (mine : Name) (stage : Stage) (turns s : ℕ) → Stands m num n p mine stage
      → Finds m n stage turns s → Finds m' n stage turns s
  Finds-grows grows num p mine Announce turns s stands h = SomeHead-grows 0 s h
  Finds-grows grows num p mine (ScanHead q best b) turns s stands h = elim h [ inl found ↦ inl found | inr later ↦ inr (SomeHead-grows q s later) ]
  Finds-grows grows num p mine (ScanSeq q best b x) turns s stands h = elim h [
    | inl found ↦ inl found
    | inr later ↦ elim later [
      | inl here ↦ inr (inl (subst (λ k. s ≤ k) (sym (grows.seq x stands.2)) here))
      | inr after ↦ inr (inr (SomeHead-grows (q + 1) s after))
    ]
  ]
  Finds-grows grows num p mine (WriteScan best b) turns s stands h = h
  Finds-grows grows num p mine (Test c b) turns s stands h = h
  Finds-grows grows num p mine (ReadAnnounce c b) turns s stands h = h
  Finds-grows grows num p mine (ReadHelpSeq c b help) turns s stands h = h
  Finds-grows grows num p mine (DecideAfter c b prefer) turns s stands h = h
  Finds-grows grows num p mine (DecideNew c b d) turns s stands h = h
  Finds-grows grows num p mine (WriteBefore c b d) turns s stands h = h
  Finds-grows grows num p mine (WriteSeq c b d) turns s stands h = h
  Finds-grows grows num p mine (WriteHead c b d) turns s stands h = h
  Finds-grows grows num p mine (Finish b k) turns s stands h = h

module _ {S I R : Type 0} (m m' : Memory S I R) (p : ℕ) where
  pub Announces-same : announce_of m' p ≡ announce_of m p → (mine : Name) (stage : Stage) → Announces m p mine stage → Announces m' p mine stage
  Announces-same same mine Announce h = λ e. h (sym same ∙ e)
  Announces-same same mine (ScanHead q best s) h = same ∙ h
  Announces-same same mine (ScanSeq q best s x) h = same ∙ h
  Announces-same same mine (WriteScan best s) h = same ∙ h
  Announces-same same mine (Test c s) h = same ∙ h
  Announces-same same mine (ReadAnnounce c s) h = same ∙ h
  Announces-same same mine (ReadHelpSeq c s help) h = same ∙ h
  Announces-same same mine (DecideAfter c s prefer) h = same ∙ h
  Announces-same same mine (DecideNew c s d) h = same ∙ h
  Announces-same same mine (WriteBefore c s d) h = same ∙ h
  Announces-same same mine (WriteSeq c s d) h = same ∙ h
  Announces-same same mine (WriteHead c s d) h = same ∙ h
  Announces-same same mine (Finish s t) h = same ∙ h

  module _ (head : head_of m' p ≡ head_of m p) (number : head_seq m' p ≡ head_seq m p) where
    pub CountsOwnHead-same : (stage : Stage) → CountsOwnHead m p stage → CountsOwnHead m' p stage
    CountsOwnHead-same Announce h = tt
    CountsOwnHead-same (ScanHead q best s) h = λ past. subst (λ k. k ≤ s) (sym number) (h past)
    CountsOwnHead-same (ScanSeq q best s x) h = (λ past. subst (λ k. k ≤ s) (sym number) (h.0 past), λ here. h.1 here ∙ sym head)
    CountsOwnHead-same (WriteScan best s) h = subst (λ k. k ≤ s) (sym number) h
    CountsOwnHead-same (Test c s) h = tt
    CountsOwnHead-same (ReadAnnounce c s) h = tt
    CountsOwnHead-same (ReadHelpSeq c s help) h = tt
    CountsOwnHead-same (DecideAfter c s prefer) h = tt
    CountsOwnHead-same (DecideNew c s d) h = tt
    CountsOwnHead-same (WriteBefore c s d) h = tt
    CountsOwnHead-same (WriteSeq c s d) h = tt
    CountsOwnHead-same (WriteHead c s d) h = tt
    CountsOwnHead-same (Finish s t) h = tt

module _ {S I R : Type 0} (m : Memory S I R) (num num' : Name → ℕ) (numbers : NumbersGrow m num num') (p : ℕ) (threaded : 1 ≤ head_seq m p) (mine : Name) where
  past_head : (s : ℕ) → head_seq m p ≡ s → (num' mine ≡ num mine) ⊎ (s < num' mine)
  past_head s number = elim (numbers mine) [ inl same ↦ inl same | inr past ↦ inr (subst (λ k. k < num' mine) number (past (head_of m p) threaded)) ]

  pub IsPast-later : (s : ℕ) → head_seq m p ≡ s → IsPast num mine s → IsPast num' mine s
  IsPast-later s number h = elim (past_head s number) [
    | inl same ↦ subst (λ k. (k ≡ 0) ⊎ (s < k)) (sym same) h
    | inr past ↦ inr past
  ]

  pub not_passed : (turns s : ℕ) → head_seq m p ≡ s → (turns ≡ 0) ⊎ ((num mine ≡ 0) ⊎ (s ≤ num mine)) → (turns ≡ 0) ⊎ ((num' mine ≡ 0) ⊎ (s ≤ num' mine))
  not_passed turns s number h = elim (past_head s number) [
    | inl same ↦ subst (λ k. (turns ≡ 0) ⊎ ((k ≡ 0) ⊎ (s ≤ k))) (sym same) h
    | inr past ↦ inr (inr (omega arith))
  ]

  pub IsAhead-grows : (n : ℕ) (stage : Stage) (turns : ℕ) → Stands m num n p mine stage → IsAhead num mine stage turns → IsAhead num' mine stage turns
  IsAhead-grows n Announce turns stands h = tt
  IsAhead-grows n (ScanHead q best s) turns stands h = tt
  IsAhead-grows n (ScanSeq q best s x) turns stands h = tt
  IsAhead-grows n (WriteScan best s) turns stands h = tt
  IsAhead-grows n (Test c s) turns stands h = not_passed turns s (head_seq-at m p c s stands) h
  IsAhead-grows n (ReadAnnounce c s) turns stands h = IsPast-later s (head_seq-at m p c s stands.0) h
  IsAhead-grows n (ReadHelpSeq c s help) turns stands h = IsPast-later s (head_seq-at m p c s stands.0) h
  IsAhead-grows n (DecideAfter c s prefer) turns stands h = IsPast-later s (head_seq-at m p c s stands.0) h
  IsAhead-grows n (DecideNew c s d) turns stands h = IsPast-later s (head_seq-at m p c s stands.0) h
  IsAhead-grows n (WriteBefore c s d) turns stands h = IsPast-later s (head_seq-at m p c s stands.0) h
  IsAhead-grows n (WriteSeq c s d) turns stands h = IsPast-later s (head_seq-at m p c s stands.0) h
  IsAhead-grows n (WriteHead c s d) turns stands h = IsPast-later s (head_seq-at m p c s stands.0) h
  IsAhead-grows n (Finish s t) turns stands h = not_passed turns s stands.0 h
