-- Each kind of step keeps the invariant.
use Rattle.uni_model.proofs.Vocabulary.{AfterOf, Anchor, Announce, Announced, AtHead, BeforeOf, Bool, CellName, Content, DecideAfter, DecideNew, Finish, Grows, Has, HasBest, HeadOf, Invocation, IsCellOf, IsPast, IsSound, Link, Name, NewOf, None, Number, Of, Option, Pending, Place, ReadAnnounce, ReadHelpSeq, ScanHead, ScanSeq, SeqOf, Sequential, Settled, Some, Stage, Stands, Test, WorldOf, WriteBefore, WriteHead, WriteScan, WriteSeq, after_of, announce_of, ap, arith, before_of, calls_in_era, can_be_linked, cases_lt, cond, effect_of, false, head_of, head_seq, if◌then◌else◌, inl, inr, inv_of, link_in, memory_with, nat_eq, nat_lt, new_of, next_in_scan, option_or, place_of, refl, seq_of, settled_in, stage_after_scan, subst, sum_below, sym, true, unwrap_or, value_after, ℕ, ◌%◌, ◌+◌, ◌-◌, ◌<◌, ◌∙◌, ◌≡◌, ◌≤◌, ◌⊎◌}
use Rattle.uni_model.proofs.Written.{number_cases, head_of-memory_with, announce_of-memory_with, written_same, lt_cases, after_of-memory_with, seq_of-memory_with, new_of-memory_with, before_of-memory_with}
use Rattle.uni_model.proofs.Sums.{sum_below-lt}
use Rattle.uni_model.proofs.Numbered.{IsPast-threaded, IsNumbered-seq, IsNumbered-link, end_number, numbered_last, numbered_last-cases}
use Rattle.uni_model.proofs.Values.{Grows-seq, HasValues-seq, LeadsBack-seq, Grows-link, HasValues-link, LeadsBack-link, Grows-new, HasValues-new, Grows-before, LeadsBack-before, not_anchor}
use Rattle.uni_model.proofs.Moves.{Moves, StandsNext, Extends}

module _ {S I R : Type 0} (object : Sequential S I R) (w : WorldOf S I R) (num : Name → ℕ) (last : ℕ) (sound : IsSound object w num last)
    (p : ℕ) (mine : Name) (from : Stage) (is : w.call p ≡ Some (record { mine = mine; stage = from })) where
  inside : p < w.n
  inside = sound.calls.process p (record { mine = mine; stage = from }) is

  -- the number of p's head
  threaded_head : 1 ≤ head_seq w.memory p
  threaded_head = sound.calls.head p inside

  -- a step that changes no place
  still : (stage : Option Stage) → StandsNext w.memory num w.n p mine stage → Moves object w num p mine w.memory num last stage
  still stage stands = record {
    numbered = sound.numbered;
    values = sound.values;
    back = sound.back;
    grows = record { seq = λ x h. refl; after = λ x y e. e; new = λ x v e. e; before = λ x y e. e; inv = λ x i e. e };
    numbers = λ x. inl refl;
    heads = λ q other. refl;
    head = threaded_head;
    announced = λ q. inl refl;
    inv = λ x. refl;
    linked = sound.calls.linked;
    stands = stands;
    count = sound.count;
  }

  -- p's head becomes a threaded cell
  heads : (x : Name) → 1 ≤ seq_of w.memory x → (stage : Option Stage) → StandsNext (memory_with w.memory (HeadOf p) (CellName x)) num w.n p mine stage
      → Moves object w num p mine (memory_with w.memory (HeadOf p) (CellName x)) num last stage
  heads x threaded stage stands = record {
    numbered = record {
      anchor = sound.numbered.anchor;
      first = sound.numbered.first;
      least = sound.numbered.least;
      greatest = sound.numbered.greatest;
      one_each = sound.numbered.one_each;
      link = sound.numbered.link;
      goes_on = sound.numbered.goes_on;
      seq = sound.numbered.seq;
      threaded = sound.numbered.threaded;
    };
    values = record {
      anchor = sound.values.anchor;
      none = sound.values.none;
      threaded = sound.values.threaded;
      after = λ a b v e settled. let was = sound.values.after a b v e settled in
          record { before = was.before; inv = was.inv; new_of_x = was.new_of_x; inv_of_y = was.inv_of_y; value = was.value };
    };
    back = record { link = sound.back.link; threaded = sound.back.threaded };
    grows = record { seq = λ y h. refl; after = λ y z e. e; new = λ y v e. e; before = λ y z e. e; inv = λ y i e. e };
    numbers = λ y. inl refl;
    heads = λ q other. elim (head_of-memory_with w.memory p q x) [ inl h ↦ absurd (other h.0) | inr h ↦ h.1 ];
    head = elim (head_of-memory_with w.memory p p x) [ inl h ↦ subst (λ y. 1 ≤ seq_of w.memory y) (sym h.1) threaded | inr h ↦ absurd (h.0 refl) ];
    announced = λ q. inl refl;
    inv = λ y. refl;
    linked = sound.calls.linked;
    stands = stands;
    count = sound.count;
  }

  pub head_of-own : (x : Name) → head_of (memory_with w.memory (HeadOf p) (CellName x)) p ≡ x
  head_of-own x = elim (head_of-memory_with w.memory p p x) [ inl h ↦ h.1 | inr h ↦ absurd (h.0 refl) ]

  -- p announces its cell
  announces : Moves object w num p mine (memory_with w.memory (Announced p) (CellName mine)) num last (Some (ScanHead 0 Anchor 0))
  announces = record {
    numbered = record {
      anchor = sound.numbered.anchor;
      first = sound.numbered.first;
      least = sound.numbered.least;
      greatest = sound.numbered.greatest;
      one_each = sound.numbered.one_each;
      link = sound.numbered.link;
      goes_on = sound.numbered.goes_on;
      seq = sound.numbered.seq;
      threaded = sound.numbered.threaded;
    };
    values = record {
      anchor = sound.values.anchor;
      none = sound.values.none;
      threaded = sound.values.threaded;
      after = λ a b v e settled. let was = sound.values.after a b v e settled in
          record { before = was.before; inv = was.inv; new_of_x = was.new_of_x; inv_of_y = was.inv_of_y; value = was.value };
    };
    back = record { link = sound.back.link; threaded = sound.back.threaded };
    grows = record { seq = λ y h. refl; after = λ y z e. e; new = λ y v e. e; before = λ y z e. e; inv = λ y i e. e };
    numbers = λ y. inl refl;
    heads = λ q other. refl;
    head = threaded_head;
    announced = λ q. elim (announce_of-memory_with w.memory p q mine) [ inl h ↦ inr (h.0, h.1) | inr h ↦ inl h.1 ];
    inv = λ y. refl;
    linked = sound.calls.linked;
    stands = (omega (arith, inside), inl (refl, refl));
    count = sound.count;
  }

  -- what the scan stands at after it has compared the number of one more head
  scans_on : (q : ℕ) (best : Name) (s : ℕ) (h : Name) → HasBest w.memory q best s → 1 ≤ seq_of w.memory h
      → StandsNext w.memory num w.n p mine (Some (stage_after_scan w.n q best s h (seq_of w.memory h)))
  scans_on q best s h has threaded = elim (lt_cases s (seq_of w.memory h)) [
    | inl less ↦ rw less.1 (on h (seq_of w.memory h) threaded refl)
    | inr more ↦ rw more.1 (elim has [
      | inl none ↦ absurd (let z : s ≡ 0 = none.1 in let le = more.0 in omega arith)
      | inr some ↦ on best s some.0 some.1
    ])
  ] where
    on : (found : Name) (top : ℕ) → 1 ≤ top → seq_of w.memory found ≡ top → StandsNext w.memory num w.n p mine (Some (next_in_scan w.n q found top))
    on found top positive number = elim (lt_cases (q + 1) w.n) [
      | inl more ↦ rw more.1 (more.0, inr (positive, number))
      | inr done ↦ rw done.1 (positive, number)
    ]

  -- the number of p's head, at a stage that knows it
  pub head_number : (c : Name) (s : ℕ) → AtHead w.memory p c s → (1 ≤ seq_of w.memory c) × (s ≡ num c)
  head_number c s h =
      let positive : 1 ≤ seq_of w.memory c = subst (λ x. 1 ≤ seq_of w.memory x) h.head threaded_head in
      (positive, sym h.seq ∙ sound.numbered.seq c positive)

  -- c leads to d: the number of d
  number_after : (c d : Name) (s : ℕ) → AtHead w.memory p c s → after_of w.memory c ≡ Some d → num d ≡ s + 1
  number_after c d s h link =
      let number : num d ≡ num c + 1 = (sound.numbered.link c d link).1 in
      let here : s ≡ num c = (head_number c s h).1 in
      omega arith

  tests : (c : Name) (s : ℕ) → AtHead w.memory p c s
      → StandsNext w.memory num w.n p mine (Some (if nat_eq (seq_of w.memory mine) 0 then ReadAnnounce c s else Finish s (seq_of w.memory mine)))
  tests c s h = elim (number_cases (seq_of w.memory mine) 0) [
    | inl none ↦ rw none.1 (h, subst (λ t. IsPast num mine t) h.seq (IsPast-threaded w.memory num last sound.numbered mine c none.0 (head_number c s h).0))
    | inr some ↦ rw some.1 (ap (seq_of w.memory) h.head ∙ h.seq, (let apart = some.0 in omega arith), refl)
  ]

  reads_announce : (c : Name) (s : ℕ) → AtHead w.memory p c s → IsPast num mine s
      → StandsNext w.memory num w.n p mine (Some (ReadHelpSeq c s (announce_of w.memory (s % w.n))))
  reads_announce c s h past = (h, past, sound.calls.announced (s % w.n) (let below = inside in omega arith))

  prefers : (c : Name) (s : ℕ) (help : Name) → AtHead w.memory p c s → IsPast num mine s → (help ≡ Anchor) ⊎ IsCellOf w.memory (s % w.n) help
      → StandsNext w.memory num w.n p mine (Some (DecideAfter c s (if nat_eq (seq_of w.memory help) 0 then help else mine)))
  prefers c s help h past cell = elim (number_cases (seq_of w.memory help) 0) [
    | inl none ↦ rw none.1 (
      h,
      subst (λ t. IsPast num help t) h.seq (IsPast-threaded w.memory num last sound.numbered help c none.0 (head_number c s h).0),
      elim cell [
        | inl anchor ↦ absurd (
            let number : num Anchor ≡ seq_of w.memory Anchor = sound.numbered.anchor in
            let first : 1 ≤ num Anchor = sound.numbered.first in
            let zero : seq_of w.memory Anchor ≡ 0 = subst (λ x. seq_of w.memory x ≡ 0) anchor none.0 in
            omega arith)
        | inr its ↦ inr its
      ],
    )
    | inr some ↦ rw some.1 (h, past, inl refl)
  ]

  -- the cell that p proposes is that of a call
  pub proposed : (s : ℕ) (prefer : Name) → (prefer ≡ mine) ⊎ IsCellOf w.memory (s % w.n) prefer → (o : ℕ) × (k : ℕ) × (prefer ≡ Of o k) × Has (inv_of w.memory (Of o k))
  proposed s prefer cell = elim cell [
    | inl own ↦ let its = sound.calls.mine p (record { mine = mine; stage = from }) is in (p, its.0, own ∙ its.1, its.3)
    | inr other ↦ (s % w.n, other.0, other.1, other.2)
  ]

  module _ (c : Name) (s : ℕ) (prefer : Name) (h : AtHead w.memory p c s) (past : IsPast num prefer s) (cell : (prefer ≡ mine) ⊎ IsCellOf w.memory (s % w.n) prefer)
      (at_end : after_of w.memory c ≡ None) where
    pub threaded_c : 1 ≤ seq_of w.memory c
    threaded_c = (head_number c s h).0

    -- nothing is proposed that is in the chain already
    pub outside : num prefer ≡ 0
    outside = elim past [
      | inl none ↦ none
      | inr later ↦ absurd (
          let bound : num prefer ≤ last = sound.numbered.greatest prefer in
          let here : s ≡ num c = (head_number c s h).1 in
          let end : (num c < last) ⊎ (last ≤ num c) = cases_lt (num c) last in
          let positive : 1 ≤ seq_of w.memory c = threaded_c in
          let number : seq_of w.memory c ≡ num c = sound.numbered.seq c threaded_c in
          elim end [
            | inl before ↦ (let more = sound.numbered.goes_on c (omega arith) before in let e = more.1 in cc)
            | inr at_last ↦ omega arith
          ])
    ]

    pub nothing_after : after_of w.memory prefer ≡ None
    nothing_after = by_after (after_of w.memory prefer) refl where
      by_after : (o : Option Name) → after_of w.memory prefer ≡ o → o ≡ None
      by_after None e = refl
      by_after (Some z) e = absurd (let link = (sound.numbered.link prefer z e).0 in let none = outside in omega arith)

    abbrev pub number_later : Name → ℕ
    number_later = numbered_last num last prefer

    -- a number that isn't 0 stays so
    no_less : (o : Option Pending) (begun : ℕ) → can_be_linked num o begun ≤ can_be_linked number_later o begun
    no_less None begun = omega arith
    no_less (Some d) begun = elim (numbered_last-cases num last prefer d.mine) [
      | inl h ↦ rw h.1 (elim (number_cases (last + 1) 0) [
        | inl zero ↦ absurd (let e = zero.0 in omega arith)
        | inr some ↦ rw some.1 (fewer (nat_eq (num d.mine) 0))
      ])
      | inr h ↦ rw h.1 (omega arith)
    ] where
      fewer : (a : Bool) → cond a (begun - 1) begun ≤ begun
      fewer true = omega arith
      fewer false = omega arith

    -- one more cell of the process whose call is linked can be in the chain
    one_more : (o k : ℕ) → prefer ≡ Of o k → (d : Pending) → w.call o ≡ Some d → d.mine ≡ Of o k
        → can_be_linked num (w.call o) (calls_in_era w o) + 1 ≤ can_be_linked number_later (w.call o) (calls_in_era w o)
    one_more o k its d pending its_mine =
        let same : d.mine ≡ prefer = its_mine ∙ sym its in
        let zero : num d.mine ≡ 0 = ap num same ∙ outside in
        let later : numbered_last num last prefer d.mine ≡ last + 1 = (elim (numbered_last-cases num last prefer d.mine) [ inl h ↦ h.1 | inr h ↦ absurd (h.0 same) ]) in
        let own = sound.calls.mine o d pending in
        let begun : w.begun o ≡ own.0 + 1 = own.2 in
        let since : w.first o ≤ own.0 = (sound.calls.begun o own.0 own.3).1 in
        subst (λ call. can_be_linked num call (calls_in_era w o) + 1 ≤ can_be_linked (numbered_last num last prefer) call (calls_in_era w o)) (sym pending)
        (elim (number_cases (num d.mine) 0) [
          | inl none ↦ elim (number_cases (numbered_last num last prefer d.mine) 0) [
            | inl absent ↦ absurd (let e = absent.0 in omega arith)
            | inr there ↦ rw (none.1, there.1) (omega arith)
          ]
          | inr some ↦ absurd (some.0 zero)
        ])

    pub links : Moves object w num p mine (memory_with w.memory (AfterOf c) (Link (Some prefer))) number_later (last + 1) (Some (DecideNew c s prefer))
    links = record {
      numbered = IsNumbered-link w.memory num last sound.numbered c prefer threaded_c at_end outside nothing_after;
      values = HasValues-link w.memory c prefer at_end object num last outside sound.values;
      back = LeadsBack-link w.memory c prefer at_end sound.back;
      grows = Grows-link w.memory c prefer at_end;
      numbers = λ x. elim (numbered_last-cases num last prefer x) [
        | inl new ↦ inr (λ y threaded.
            let number : seq_of w.memory y ≡ num y = sound.numbered.seq y threaded in
            let bound : num y ≤ last = sound.numbered.greatest y in
            let e = new.1 in omega arith)
        | inr old ↦ inl old.1
      ];
      heads = λ q other. refl;
      head = threaded_head;
      announced = λ q. inl refl;
      inv = λ x. refl;
      linked = λ q k linked. elim (numbered_last-cases num last prefer (Of q k)) [
        | inl new ↦ let its = proposed s prefer cell in
            (its.3.0, ap (inv_of w.memory) (new.0 ∙ its.2) ∙ its.3.1)
        | inr old ↦ sound.calls.linked q k (subst (λ t. 1 ≤ t) old.1 linked)
      ];
      stands = (record { head = h.head; seq = h.seq }, own_link);
      count =
          let its = proposed s prefer cell in
          let pending : (d : Pending) × (w.call its.0 ≡ Some d) × (d.mine ≡ Of its.0 its.1) = elim (sound.calls.threaded its.0 its.1 its.3) [
            | inl threaded ↦ absurd (
                let number : seq_of w.memory (Of its.0 its.1) ≡ num (Of its.0 its.1) = sound.numbered.seq (Of its.0 its.1) threaded in
                let zero : num (Of its.0 its.1) ≡ 0 = subst (λ x. num x ≡ 0) its.2 outside in omega arith)
            | inr d ↦ d
          ] in
          let more : sum_below w.n (λ q. can_be_linked num (w.call q) (calls_in_era w q)) + 1 ≤ sum_below w.n (λ q. can_be_linked (numbered_last num last prefer) (w.call q) (calls_in_era w q))
          = sum_below-lt w.n _ _ (λ q below. no_less (w.call q) (calls_in_era w q)) its.0 (sound.calls.process its.0 pending.0 pending.1) (one_more its.0 its.1 its.2 pending.0 pending.1 pending.2) in
          let was : last ≤ num Anchor + sum_below w.n (λ q. can_be_linked num (w.call q) (calls_in_era w q)) = sound.count in
          let anchor : numbered_last num last prefer Anchor ≡ num Anchor = (elim (numbered_last-cases num last prefer Anchor) [
            | inl same ↦ absurd (let none : num prefer ≡ 0 = outside in let first : 1 ≤ num Anchor = sound.numbered.first in let e : num Anchor ≡ num prefer = ap num same.0 in omega arith)
            | inr other ↦ other.1
          ]) in
          omega arith;
    } where
      own_link : after_of (memory_with w.memory (AfterOf c) (Link (Some prefer))) c ≡ Some prefer
      own_link = elim (after_of-memory_with w.memory c c (Some prefer)) [ inl e ↦ e.1 | inr e ↦ absurd (e.0 refl) ]

  module _ (c : Name) (s : ℕ) (d : Name) (h : AtHead w.memory p c s) (link : after_of w.memory c ≡ Some d) where
    -- d is the cell of a call
    pub linked_call : Has (inv_of w.memory d)
    linked_call = of_name d refl where
      of_name : (x : Name) → d ≡ x → Has (inv_of w.memory d)
      of_name Anchor e = absurd (not_anchor w.memory num last sound.numbered c d link e)
      of_name (Of q k) e =
          let number : num d ≡ num c + 1 = (sound.numbered.link c d link).1 in
          let its = sound.calls.linked q k (subst (λ x. 1 ≤ num x) e (omega arith)) in
          (its.0, ap (inv_of w.memory) e ∙ its.1)

    -- the value that is settled in d
    settles : (u : S × Option R) (i : I) → new_of w.memory c ≡ Some u → inv_of w.memory d ≡ Some i → new_of w.memory d ≡ None
        → Moves object w num p mine (memory_with w.memory (NewOf d) (Settled (Some (object.next u.0 i, Some (object.answer u.0 i))))) num last (Some (WriteBefore c s d))
    settles u i settled inv unsettled = record {
      numbered = record {
        anchor = sound.numbered.anchor;
        first = sound.numbered.first;
        least = sound.numbered.least;
        greatest = sound.numbered.greatest;
        one_each = sound.numbered.one_each;
        link = sound.numbered.link;
        goes_on = sound.numbered.goes_on;
        seq = sound.numbered.seq;
        threaded = sound.numbered.threaded;
      };
      values = HasValues-new w.memory d _ unsettled object num last sound.numbered sound.values c link u i settled inv refl;
      back = record { link = sound.back.link; threaded = sound.back.threaded };
      grows = Grows-new w.memory d _ unsettled;
      numbers = λ x. inl refl;
      heads = λ q other. refl;
      head = threaded_head;
      announced = λ q. inl refl;
      inv = λ x. refl;
      linked = sound.calls.linked;
      stands = (record { head = h.head; seq = h.seq }, link, own);
      count = sound.count;
    } where
      own : Has (new_of (memory_with w.memory (NewOf d) (Settled (Some (object.next u.0 i, Some (object.answer u.0 i))))) d)
      own = elim (new_of-memory_with w.memory d d (Some (object.next u.0 i, Some (object.answer u.0 i)))) [ inl e ↦ (_, e.1) | inr e ↦ absurd (e.0 refl) ]

    -- the way back is written
    leads_back : Has (new_of w.memory d) → Moves object w num p mine (memory_with w.memory (BeforeOf d) (Link (Some c))) num last (Some (WriteSeq c s d))
    leads_back settled = record {
      numbered = record {
        anchor = sound.numbered.anchor;
        first = sound.numbered.first;
        least = sound.numbered.least;
        greatest = sound.numbered.greatest;
        one_each = sound.numbered.one_each;
        link = sound.numbered.link;
        goes_on = sound.numbered.goes_on;
        seq = sound.numbered.seq;
        threaded = sound.numbered.threaded;
      };
      values = record {
        anchor = sound.values.anchor;
        none = sound.values.none;
        threaded = sound.values.threaded;
        after = λ a b v e settled. let was = sound.values.after a b v e settled in
            record { before = was.before; inv = was.inv; new_of_x = was.new_of_x; inv_of_y = was.inv_of_y; value = was.value };
      };
      back = LeadsBack-before w.memory num last sound.numbered sound.back c d link;
      grows = Grows-before w.memory num last sound.numbered sound.back c d link;
      numbers = λ x. inl refl;
      heads = λ q other. refl;
      head = threaded_head;
      announced = λ q. inl refl;
      inv = λ x. refl;
      linked = sound.calls.linked;
      stands = (record { head = h.head; seq = h.seq }, link, settled, own);
      count = sound.count;
    } where
      own : before_of (memory_with w.memory (BeforeOf d) (Link (Some c))) d ≡ Some c
      own = elim (before_of-memory_with w.memory d d (Some c)) [ inl e ↦ e.1 | inr e ↦ absurd (e.0 refl) ]

    -- the number of d is written
    numbers_d : Has (new_of w.memory d) → before_of w.memory d ≡ Some c
        → Moves object w num p mine (memory_with w.memory (SeqOf d) (Number (s + 1))) num last (Some (WriteHead c s d))
    numbers_d settled back = record {
      numbered = IsNumbered-seq w.memory num last sound.numbered d (s + 1) (number_after c d s h link);
      values = HasValues-seq w.memory d (s + 1) object num sound.values settled;
      back = LeadsBack-seq w.memory d (s + 1) sound.back (c, back);
      grows = grows;
      numbers = λ x. inl refl;
      heads = λ q other. refl;
      head = subst (λ t. 1 ≤ t) (sym (grows.seq (head_of w.memory p) threaded_head)) threaded_head;
      announced = λ q. inl refl;
      inv = λ x. refl;
      linked = sound.calls.linked;
      stands = (record { head = h.head; seq = grows.seq c (head_number c s h).0 ∙ h.seq }, link, own);
      count = sound.count;
    } where
      grows : Grows w.memory (memory_with w.memory (SeqOf d) (Number (s + 1)))
      grows = Grows-seq w.memory d (s + 1) (λ threaded. sound.numbered.seq d threaded ∙ number_after c d s h link)

      own : seq_of (memory_with w.memory (SeqOf d) (Number (s + 1))) d ≡ s + 1
      own = elim (seq_of-memory_with w.memory d d (s + 1)) [ inl e ↦ e.1 | inr e ↦ absurd (e.0 refl) ]

    -- p's head becomes d
    moves_on : seq_of w.memory d ≡ s + 1 → Moves object w num p mine (memory_with w.memory (HeadOf p) (CellName d)) num last (Some (Test d (s + 1)))
    moves_on number = heads d (subst (λ t. 1 ≤ t) (sym number) (omega arith)) (Some (Test d (s + 1))) (record { head = head_of-own d; seq = number })

  -- what the effect of a step leaves, and where p stands then
  abbrev pub Leads : (was : Stage) → Content S I R → Option Stage → Place → Type 0
  Leads was content stage place =
      (num' : Name → ℕ) × (last' : ℕ) × Extends num last num' last' was × Moves object w num p mine (memory_with w.memory place content) num' last' stage

  -- a place to which its own content is written
  reads : {was : Stage} (place : Place) (content : Content S I R) → w.memory place ≡ content → (stage : Option Stage) → StandsNext w.memory num w.n p mine stage → Leads was content stage place
  reads {was} place content same stage stands =
      subst (λ v. (num' : Name → ℕ) × (last' : ℕ) × Extends num last num' last' was × Moves object w num p mine (memory_with w.memory place v) num' last' stage) same
      (subst (λ m. (num' : Name → ℕ) × (last' : ℕ) × Extends num last num' last' was × Moves object w num p mine m num' last' stage) (sym (written_same w.memory place)) (num, last, inl (refl, refl), still stage stands))

  links_on : (c : Name) (s : ℕ) (prefer : Name) → AtHead w.memory p c s → IsPast num prefer s → (prefer ≡ mine) ⊎ IsCellOf w.memory (s % w.n) prefer
      → after_of w.memory c ≡ None → Leads (DecideAfter c s prefer) (Link (Some prefer)) (Some (DecideNew c s prefer)) (AfterOf c)
  links_on c s prefer h past cell at_end =
      let end : num c ≡ last = end_number w.memory num last sound.numbered c prefer (threaded_c c s prefer h past cell at_end) at_end
      (outside c s prefer h past cell at_end) (nothing_after c s prefer h past cell at_end) in
      let number : s ≡ last = (head_number c s h).1 ∙ end in
      (_, _, inr (c, prefer, ap (λ k. DecideAfter c k prefer) number, outside c s prefer h past cell at_end, refl, refl), links c s prefer h past cell at_end)

  decides_after : (c : Name) (s : ℕ) (prefer : Name) → AtHead w.memory p c s → IsPast num prefer s → (prefer ≡ mine) ⊎ IsCellOf w.memory (s % w.n) prefer
      → (v : Content S I R) → w.memory (AfterOf c) ≡ v → Leads (DecideAfter c s prefer) (Link (option_or (link_in v) (Some prefer))) (Some (DecideNew c s (unwrap_or (link_in v) prefer))) (AfterOf c)
  decides_after c s prefer h past cell (Link (Some d)) is_v = reads (AfterOf c) (Link (Some d)) is_v (Some (DecideNew c s d)) (h, ap link_in is_v)
  decides_after c s prefer h past cell (Link None) is_v = links_on c s prefer h past cell (ap link_in is_v)
  decides_after c s prefer h past cell (CellName x) is_v = links_on c s prefer h past cell (ap link_in is_v)
  decides_after c s prefer h past cell (Invocation x) is_v = links_on c s prefer h past cell (ap link_in is_v)
  decides_after c s prefer h past cell (Number x) is_v = links_on c s prefer h past cell (ap link_in is_v)
  decides_after c s prefer h past cell (Settled x) is_v = links_on c s prefer h past cell (ap link_in is_v)

  settles_new : (c : Name) (s : ℕ) (d : Name) → AtHead w.memory p c s → after_of w.memory c ≡ Some d → new_of w.memory d ≡ None
      → Leads (DecideNew c s d) (Settled (option_or None (value_after object (new_of w.memory c) (inv_of w.memory d)))) (Some (WriteBefore c s d)) (NewOf d)
  settles_new c s d h link unsettled =
      let u = sound.values.threaded c (head_number c s h).0 in
      let i = linked_call c s d h link in
      rw (u.1, i.1) (num, last, inl (refl, refl), settles c s d h link u.0 i.0 u.1 i.1 unsettled)

  decides_new : (c : Name) (s : ℕ) (d : Name) → AtHead w.memory p c s → after_of w.memory c ≡ Some d
      → (v : Content S I R) → w.memory (NewOf d) ≡ v → Leads (DecideNew c s d) (Settled (option_or (settled_in v) (value_after object (new_of w.memory c) (inv_of w.memory d)))) (Some (WriteBefore c s d)) (NewOf d)
  decides_new c s d h link (Settled (Some u)) is_v = reads (NewOf d) (Settled (Some u)) is_v (Some (WriteBefore c s d)) (h, link, (u, ap settled_in is_v))
  decides_new c s d h link (Settled None) is_v = settles_new c s d h link (ap settled_in is_v)
  decides_new c s d h link (CellName x) is_v = settles_new c s d h link (ap settled_in is_v)
  decides_new c s d h link (Invocation x) is_v = settles_new c s d h link (ap settled_in is_v)
  decides_new c s d h link (Number x) is_v = settles_new c s d h link (ap settled_in is_v)
  decides_new c s d h link (Link x) is_v = settles_new c s d h link (ap settled_in is_v)

  finishes : (s t : ℕ) → (head_seq w.memory p ≡ s) × (1 ≤ t) × (seq_of w.memory mine ≡ t)
      → Leads (Finish s t) (if nat_lt s t then CellName mine else w.memory (HeadOf p)) None (HeadOf p)
  finishes s t h =
      let threaded : 1 ≤ seq_of w.memory mine = subst (λ x. 1 ≤ x) (sym h.2) h.1 in
      elim (lt_cases s t) [
        | inl less ↦ rw less.1 (num, last, inl (refl, refl), heads mine threaded None threaded)
        | inr more ↦ rw more.1 (reads (HeadOf p) (w.memory (HeadOf p)) refl None threaded)
      ]

  -- each kind of step
  pub leads : (stage : Stage) → Stands w.memory num w.n p mine stage
      → let e = effect_of object w.n mine stage (w.memory (place_of w.n p mine stage)) w.memory in
      Leads stage e.content e.stage (place_of w.n p mine stage)
  leads Announce h = (num, last, inl (refl, refl), announces)
  leads (ScanHead q best s) h = reads (HeadOf q) _ refl (Some (ScanSeq q best s (head_of w.memory q))) (h.0, h.1, sound.calls.head q h.0)
  leads (ScanSeq q best s x) h = reads (SeqOf x) _ refl (Some (stage_after_scan w.n q best s x (seq_of w.memory x))) (scans_on q best s x h.1 h.2)
  leads (WriteScan best s) h = (num, last, inl (refl, refl), heads best (subst (λ t. 1 ≤ t) (sym h.1) h.0) (Some (Test best s)) (record { head = head_of-own best; seq = h.1 }))
  leads (Test c s) h = reads (SeqOf mine) _ refl _ (tests c s h)
  leads (ReadAnnounce c s) h = reads (Announced (s % w.n)) _ refl _ (reads_announce c s h.0 h.1)
  leads (ReadHelpSeq c s help) h = reads (SeqOf help) _ refl _ (prefers c s help h.0 h.1 h.2)
  leads (DecideAfter c s prefer) h = decides_after c s prefer h.0 h.1 h.2 (w.memory (AfterOf c)) refl
  leads (DecideNew c s d) h = decides_new c s d h.0 h.1 (w.memory (NewOf d)) refl
  leads (WriteBefore c s d) h = (num, last, inl (refl, refl), leads_back c s d h.0 h.1 h.2)
  leads (WriteSeq c s d) h = (num, last, inl (refl, refl), numbers_d c s d h.0 h.1 h.2 h.3)
  leads (WriteHead c s d) h = (num, last, inl (refl, refl), moves_on c s d h.0 h.1 h.2)
  leads (Finish s t) h = finishes s t h
