-- A memory is another one with its cells renamed: what a run with trims has is what the run without them has, where each cell
-- of an ended era is called the anchor.
use Rattle.uni_model.proofs.Vocabulary.{AfterOf, Anchor, Announce, Announced, BeforeOf, CellName, DecideAfter, DecideNew, Finish, HeadOf, InvOf, Invocation, Link, Memory, Name, NewOf, Number, Option, Pending, ReadAnnounce, ReadHelpSeq, ScanHead, ScanSeq, SeqOf, Settled, Stage, Test, WriteBefore, WriteHead, WriteScan, WriteSeq, after_of, announce_of, ap, arith, head_of, if◌then◌else◌, inl, inr, inv_of, memory_with, nat_lt, new_of, option_map, refl, seq_of, subst, sym, ℕ, ◌<◌, ◌==◌, ◌∙◌, ◌≡◌, ◌≢◌, ◌≤◌, ◌⊎◌}
use Rattle.uni_model.proofs.Written.{number_cases, lt_cases, seq_of-memory_with, after_of-memory_with, new_of-memory_with, inv_of-memory_with, head_of-memory_with, announce_of-memory_with}

-- the number that is read of a cell whose number is s: that of the anchor, base, where the cell is of an ended era
abbrev pub at_least : (base s : ℕ) → ℕ
at_least base s = if s == 0 then 0 else if nat_lt s base then base else s

pub at_least-cases : (base s : ℕ) → ((s ≡ 0) × (at_least base s ≡ 0)) ⊎ (((1 ≤ s) × (s < base) × (at_least base s ≡ base)) ⊎ ((1 ≤ s) × (base ≤ s) × (at_least base s ≡ s)))
at_least-cases base s = elim (number_cases s 0) [
  | inl none ↦ inl (none.0, rw none.1 refl)
  | inr some ↦ let apart = some.0 in elim (lt_cases s base) [
    | inl less ↦ inr (inl (omega arith, less.0, rw (some.1, less.1) refl))
    | inr more ↦ inr (inr (omega arith, more.0, rw (some.1, more.1) refl))
  ]
]

pub at_least-past : (base s : ℕ) → base ≤ s → 1 ≤ s → at_least base s ≡ s
at_least-past base s past some = elim (at_least-cases base s) [
  | inl none ↦ absurd (let e = none.0 in omega arith)
  | inr rest ↦ elim rest [ inl less ↦ absurd (let e = less.1 in omega arith) | inr more ↦ more.2 ]
]

-- where a process stands, with its cells renamed
abbrev pub stage_renamed : (Name → Name) → (base : ℕ) → Stage → Stage
stage_renamed rename base Announce = Announce
stage_renamed rename base (ScanHead q best b) = ScanHead q (rename best) (at_least base b)
stage_renamed rename base (ScanSeq q best b h) = ScanSeq q (rename best) (at_least base b) (rename h)
stage_renamed rename base (WriteScan best b) = WriteScan (rename best) (at_least base b)
stage_renamed rename base (Test c s) = Test (rename c) s
stage_renamed rename base (ReadAnnounce c s) = ReadAnnounce (rename c) s
stage_renamed rename base (ReadHelpSeq c s help) = ReadHelpSeq (rename c) s (rename help)
stage_renamed rename base (DecideAfter c s prefer) = DecideAfter (rename c) s prefer
stage_renamed rename base (DecideNew c s d) = DecideNew (rename c) s d
stage_renamed rename base (WriteBefore c s d) = WriteBefore (rename c) s d
stage_renamed rename base (WriteSeq c s d) = WriteSeq (rename c) s d
stage_renamed rename base (WriteHead c s d) = WriteHead (rename c) s d
stage_renamed rename base (Finish s t) = Finish s t

abbrev pub pending_renamed : (Name → Name) → (base : ℕ) → Pending → Pending
pending_renamed rename base c = record { mine = c.mine; stage = stage_renamed rename base c.stage }

-- the cell isn't of an ended era; it isn't, or it is the last of them
abbrev pub IsNew : {S I R : Type 0} → Memory S I R → (base : ℕ) → Name → Type 0
IsNew m base x = (seq_of m x ≡ 0) ⊎ (base < seq_of m x)

abbrev pub IsRecent : {S I R : Type 0} → Memory S I R → (base : ℕ) → Name → Type 0
IsRecent m base x = (seq_of m x ≡ 0) ⊎ (base ≤ seq_of m x)

-- what has the state of a value, whatever its response
abbrev pub state_in : {S R : Type 0} → Option (S × Option R) → Option S
state_in {S} {R} v = option_map (λ (t : S × Option R). t.0) v

-- m' is m with its cells renamed, among n processes; the last cell of the ended eras has the number base
pub record IsRenamed {S I R : Type 0} (m' m : Memory S I R) (n : ℕ) (rename : Name → Name) (base : ℕ) : Type 0 where
  pub first : 1 ≤ seq_of m Anchor
  pub anchor : seq_of m Anchor ≤ base
  pub at_base : (x : Name) × (seq_of m x ≡ base)
  pub one : (x y : Name) → seq_of m x ≡ base → seq_of m y ≡ base → x ≡ y
  pub old : (x : Name) → 1 ≤ seq_of m x → seq_of m x ≤ base → rename x ≡ Anchor
  pub new_name : (x : Name) → IsNew m base x → rename x ≡ x
  pub announced : (p : ℕ) → p < n → announce_of m' p ≡ rename (announce_of m p)
  pub head : (p : ℕ) → p < n → head_of m' p ≡ rename (head_of m p)
  pub seq : (x : Name) → seq_of m' (rename x) ≡ at_least base (seq_of m x)
  pub after : (x : Name) → IsRecent m base x → after_of m' (rename x) ≡ after_of m x
  pub state : (x : Name) → IsRecent m base x → state_in (new_of m' (rename x)) ≡ state_in (new_of m x)
  pub new : (x : Name) → IsNew m base x → new_of m' x ≡ new_of m x
  pub inv : (x : Name) → IsNew m base x → inv_of m' x ≡ inv_of m x

module _ {S I R : Type 0} (m : Memory S I R) (base : ℕ) where
  pub IsRecent-new : (x : Name) → IsNew m base x → IsRecent m base x
  IsRecent-new x h = elim h [ inl none ↦ inl none | inr past ↦ inr (omega arith) ]

  -- a cell is new, or it is of an ended era
  pub era_cases : (x : Name) → IsNew m base x ⊎ ((1 ≤ seq_of m x) × (seq_of m x ≤ base))
  era_cases x = elim (number_cases (seq_of m x) 0) [
    | inl none ↦ inl (inl none.0)
    | inr some ↦ let apart = some.0 in elim (lt_cases base (seq_of m x)) [ inl past ↦ inl (inr past.0) | inr old ↦ inr (omega arith, old.0) ]
  ]

module _ {S I R : Type 0} (m' m : Memory S I R) (n : ℕ) (rename : Name → Name) (base : ℕ) (r : IsRenamed m' m n rename base) where
  pub rename-anchor : rename Anchor ≡ Anchor
  rename-anchor = r.old Anchor r.first r.anchor

  new_not_anchor : (d : Name) → IsNew m base d → d ≢ Anchor
  new_not_anchor d new same =
      let number : seq_of m d ≡ seq_of m Anchor = ap (seq_of m) same in
      let first = r.first in
      let last = r.anchor in
      elim new [ inl none ↦ omega arith | inr past ↦ omega arith ]

  -- only a new cell has its own name
  rename-new : (x d : Name) → IsNew m base d → rename x ≡ d → x ≡ d
  rename-new x d new is = elim (era_cases m base x) [
    | inl its_own ↦ sym (r.new_name x its_own) ∙ is
    | inr old ↦ absurd (new_not_anchor d new (sym is ∙ r.old x old.0 old.1))
  ]

  -- recent cells have names of their own
  rename-one : (x y : Name) → IsRecent m base x → IsRecent m base y → rename x ≡ rename y → x ≡ y
  rename-one x y recent_x recent_y same = elim (era_cases m base y) [
    | inl new ↦ rename-new x y new (same ∙ r.new_name y new)
    | inr old_y ↦ elim (era_cases m base x) [
      | inl new ↦ sym (rename-new y x new (sym same ∙ r.new_name x new))
      | inr old_x ↦ r.one x y (at_end x old_x recent_x) (at_end y old_y recent_y)
    ]
  ] where
    at_end : (z : Name) → (1 ≤ seq_of m z) × (seq_of m z ≤ base) → IsRecent m base z → seq_of m z ≡ base
    at_end z old recent = let some = old.0 in let most = old.1 in elim recent [ inl none ↦ absurd (omega arith) | inr least ↦ omega arith ]

  -- p's head becomes x
  pub IsRenamed-head : (p : ℕ) (x y : Name) → y ≡ rename x → IsRenamed (memory_with m' (HeadOf p) (CellName y)) (memory_with m (HeadOf p) (CellName x)) n rename base
  IsRenamed-head p x y is = record {
    first = r.first;
    anchor = r.anchor;
    at_base = r.at_base;
    one = r.one;
    old = r.old;
    new_name = r.new_name;
    announced = r.announced;
    head = λ q below. elim (head_of-memory_with m' p q y) [
      | inl here ↦ here.1 ∙ is ∙ elim (head_of-memory_with m p q x) [ inl h ↦ ap rename (sym h.1) | inr h ↦ absurd (h.0 here.0) ]
      | inr other ↦ other.1 ∙ r.head q below ∙ elim (head_of-memory_with m p q x) [ inl h ↦ absurd (other.0 h.0) | inr h ↦ ap rename (sym h.1) ]
    ];
    seq = r.seq;
    after = r.after;
    state = r.state;
    new = r.new;
    inv = r.inv;
  }

  pub IsRenamed-announced : (p : ℕ) (x y : Name) → y ≡ rename x → IsRenamed (memory_with m' (Announced p) (CellName y)) (memory_with m (Announced p) (CellName x)) n rename base
  IsRenamed-announced p x y is = record {
    first = r.first;
    anchor = r.anchor;
    at_base = r.at_base;
    one = r.one;
    old = r.old;
    new_name = r.new_name;
    announced = λ q below. elim (announce_of-memory_with m' p q y) [
      | inl here ↦ here.1 ∙ is ∙ elim (announce_of-memory_with m p q x) [ inl h ↦ ap rename (sym h.1) | inr h ↦ absurd (h.0 here.0) ]
      | inr other ↦ other.1 ∙ r.announced q below ∙ elim (announce_of-memory_with m p q x) [ inl h ↦ absurd (other.0 h.0) | inr h ↦ ap rename (sym h.1) ]
    ];
    head = r.head;
    seq = r.seq;
    after = r.after;
    state = r.state;
    new = r.new;
    inv = r.inv;
  }

  pub IsRenamed-before : (x y : Name) (l : Option Name) (k : Option Name) → IsRenamed (memory_with m' (BeforeOf y) (Link k)) (memory_with m (BeforeOf x) (Link l)) n rename base
  IsRenamed-before x y l k = record {
    first = r.first;
    anchor = r.anchor;
    at_base = r.at_base;
    one = r.one;
    old = r.old;
    new_name = r.new_name;
    announced = r.announced;
    head = r.head;
    seq = r.seq;
    after = r.after;
    state = r.state;
    new = r.new;
    inv = r.inv;
  }

  -- the `after` of a recent cell is decided
  pub IsRenamed-after : (c : Name) (l : Option Name) → IsRecent m base c → IsRenamed (memory_with m' (AfterOf (rename c)) (Link l)) (memory_with m (AfterOf c) (Link l)) n rename base
  IsRenamed-after c l recent = record {
    first = r.first;
    anchor = r.anchor;
    at_base = r.at_base;
    one = r.one;
    old = r.old;
    new_name = r.new_name;
    announced = r.announced;
    head = r.head;
    seq = r.seq;
    after = λ x recent_x. elim (after_of-memory_with m c x l) [
      | inl here ↦ elim (after_of-memory_with m' (rename c) (rename x) l) [ inl h ↦ h.1 ∙ sym here.1 | inr h ↦ absurd (h.0 (ap rename here.0)) ]
      | inr other ↦ elim (after_of-memory_with m' (rename c) (rename x) l) [
        | inl h ↦ absurd (other.0 (rename-one x c recent_x recent h.0))
        | inr h ↦ h.1 ∙ r.after x recent_x ∙ sym other.1
      ]
    ];
    state = r.state;
    new = r.new;
    inv = r.inv;
  }

  -- the value of a new cell is decided
  pub IsRenamed-value : (d : Name) (v : Option (S × Option R)) → IsNew m base d → IsRenamed (memory_with m' (NewOf d) (Settled v)) (memory_with m (NewOf d) (Settled v)) n rename base
  IsRenamed-value d v new_d = record {
    first = r.first;
    anchor = r.anchor;
    at_base = r.at_base;
    one = r.one;
    old = r.old;
    new_name = r.new_name;
    announced = r.announced;
    head = r.head;
    seq = r.seq;
    after = r.after;
    state = λ x recent. elim (new_of-memory_with m d x v) [
      | inl here ↦ elim (new_of-memory_with m' d (rename x) v) [ inl h ↦ ap state_in (h.1 ∙ sym here.1) | inr h ↦ absurd (h.0 (ap rename here.0 ∙ r.new_name d new_d)) ]
      | inr other ↦ elim (new_of-memory_with m' d (rename x) v) [
        | inl h ↦ absurd (other.0 (rename-new x d new_d h.0))
        | inr h ↦ ap state_in h.1 ∙ r.state x recent ∙ ap state_in (sym other.1)
      ]
    ];
    new = λ x new_x. elim (new_of-memory_with m d x v) [
      | inl here ↦ elim (new_of-memory_with m' d x v) [ inl h ↦ h.1 ∙ sym here.1 | inr h ↦ absurd (h.0 here.0) ]
      | inr other ↦ elim (new_of-memory_with m' d x v) [ inl h ↦ absurd (other.0 h.0) | inr h ↦ h.1 ∙ r.new x new_x ∙ sym other.1 ]
    ];
    inv = r.inv;
  }

  -- a call gets its cell
  pub IsRenamed-inv : (d : Name) (i : Option I) → IsRenamed (memory_with m' (InvOf d) (Invocation i)) (memory_with m (InvOf d) (Invocation i)) n rename base
  IsRenamed-inv d i = record {
    first = r.first;
    anchor = r.anchor;
    at_base = r.at_base;
    one = r.one;
    old = r.old;
    new_name = r.new_name;
    announced = r.announced;
    head = r.head;
    seq = r.seq;
    after = r.after;
    state = r.state;
    new = r.new;
    inv = λ x new_x. elim (inv_of-memory_with m d x i) [
      | inl here ↦ elim (inv_of-memory_with m' d x i) [ inl h ↦ h.1 ∙ sym here.1 | inr h ↦ absurd (h.0 here.0) ]
      | inr other ↦ elim (inv_of-memory_with m' d x i) [ inl h ↦ absurd (other.0 h.0) | inr h ↦ h.1 ∙ r.inv x new_x ∙ sym other.1 ]
    ];
  }

  -- a new cell gets its number
  module _ (d : Name) (s : ℕ) (past : base < s) (new_d : IsNew m base d) where
    was_new : (x : Name) → IsNew (memory_with m (SeqOf d) (Number s)) base x → IsNew m base x
    was_new x h = elim (seq_of-memory_with m d x s) [ inl here ↦ subst (λ y. IsNew m base y) (sym here.0) new_d | inr other ↦ subst (λ k. (k ≡ 0) ⊎ (base < k)) other.1 h ]

    was_recent : (x : Name) → IsRecent (memory_with m (SeqOf d) (Number s)) base x → IsRecent m base x
    was_recent x h = elim (seq_of-memory_with m d x s) [
      | inl here ↦ IsRecent-new m base x (subst (λ y. IsNew m base y) (sym here.0) new_d)
      | inr other ↦ subst (λ k. (k ≡ 0) ⊎ (base ≤ k)) other.1 h
    ]

    pub IsNew-numbered : (x : Name) → IsNew m base x → IsNew (memory_with m (SeqOf d) (Number s)) base x
    IsNew-numbered x h = elim (seq_of-memory_with m d x s) [ inl here ↦ inr (rw here.1 past) | inr other ↦ subst (λ k. (k ≡ 0) ⊎ (base < k)) (sym other.1) h ]

    -- a number up to base is that of an old cell
    kept : (x : Name) → seq_of (memory_with m (SeqOf d) (Number s)) x ≤ base → seq_of (memory_with m (SeqOf d) (Number s)) x ≡ seq_of m x
    kept x most = elim (seq_of-memory_with m d x s) [ inl here ↦ absurd (let number = here.1 in omega arith) | inr other ↦ other.1 ]

    other_number : (x : Name) → seq_of m x ≤ base → 1 ≤ seq_of m x → seq_of (memory_with m (SeqOf d) (Number s)) x ≡ seq_of m x
    other_number x most some = elim (seq_of-memory_with m d x s) [
      | inl here ↦ absurd (let same : seq_of m x ≡ seq_of m d = ap (seq_of m) here.0 in elim new_d [ inl none ↦ omega arith | inr later ↦ omega arith ])
      | inr other ↦ other.1
    ]

    pub IsRenamed-seq : IsRenamed (memory_with m' (SeqOf d) (Number s)) (memory_with m (SeqOf d) (Number s)) n rename base
    IsRenamed-seq =
        let anchor_kept : seq_of (memory_with m (SeqOf d) (Number s)) Anchor ≡ seq_of m Anchor = other_number Anchor r.anchor r.first in
        let first = r.first in
        let anchor = r.anchor in
        record {
          first = omega arith;
          anchor = omega arith;
          at_base = (r.at_base.0, let is = r.at_base.1 in other_number r.at_base.0 (omega arith) (omega arith) ∙ is);
          one = λ x y is_x is_y. r.one x y (sym (kept x (omega arith)) ∙ is_x) (sym (kept y (omega arith)) ∙ is_y);
          old = λ x some most. let same = kept x most in r.old x (omega arith) (omega arith);
          new_name = λ x h. r.new_name x (was_new x h);
          announced = r.announced;
          head = r.head;
          seq = λ x. elim (seq_of-memory_with m d x s) [
            | inl here ↦ elim (seq_of-memory_with m' d (rename x) s) [
              | inl h ↦ h.1 ∙ sym (at_least-past base s (omega arith) (omega arith)) ∙ ap (at_least base) (sym here.1)
              | inr h ↦ absurd (h.0 (ap rename here.0 ∙ r.new_name d new_d))
            ]
            | inr other ↦ elim (seq_of-memory_with m' d (rename x) s) [
              | inl h ↦ absurd (other.0 (rename-new x d new_d h.0))
              | inr h ↦ h.1 ∙ r.seq x ∙ ap (at_least base) (sym other.1)
            ]
          ];
          after = λ x h. r.after x (was_recent x h);
          state = λ x h. r.state x (was_recent x h);
          new = λ x h. r.new x (was_new x h);
          inv = λ x h. r.inv x (was_new x h);
        }
