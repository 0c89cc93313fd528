-- Each kind of step does the same with its cells renamed.
use Rattle.uni_model.proofs.Vocabulary.{AfterOf, Anchor, Announce, Announced, AtHead, DecideAfter, DecideNew, Effect, Finds, Finish, HasBest, HasTurns, HeadOf, IsNumbered, Link, Memory, Name, NewOf, None, Option, Place, ReadAnnounce, ReadHelpSeq, ScanHead, ScanSeq, SeqOf, Sequential, Settled, Some, Stage, Stands, Test, WriteBefore, WriteHead, WriteScan, WriteSeq, after_of, ap, arith, effect_of, inl, inr, inv_of, memory_with, new_of, next_in_scan, option_and_then, option_map, option_or, place_of, refl, response_after, seq_of, stage_after_scan, subst, sym, turn_of, unwrap_or, value_after, ℕ, ◌%◌, ◌+◌, ◌<◌, ◌∙◌, ◌≡◌, ◌≢◌, ◌≤◌}
use Rattle.uni_model.proofs.Written.{number_cases, lt_cases, written_same}
use Rattle.uni_model.proofs.Renamed.{at_least, at_least-cases, at_least-past, stage_renamed, IsNew, IsRecent, state_in, IsRenamed, era_cases, rename-anchor, IsRenamed-head, IsRenamed-announced, IsRenamed-before, IsRenamed-after, IsRenamed-value, IsNew-numbered, IsRenamed-seq}

at_least-le : (base s b : ℕ) → 1 ≤ s → s ≤ b → at_least base s ≤ at_least base b
at_least-le base s b some less = elim (at_least-cases base s) [
  | inl none ↦ absurd (let e = none.0 in omega arith)
  | inr rest_s ↦ elim (at_least-cases base b) [
    | inl none ↦ absurd (let e = none.0 in omega arith)
    | inr rest_b ↦ elim rest_s [
      | inl low_s ↦ elim rest_b [ inl low_b ↦ let x = low_s.2 in let y = low_b.2 in omega arith | inr high_b ↦ let x = low_s.2 in let y = high_b.2 in let z = high_b.1 in omega arith ]
      | inr high_s ↦ elim rest_b [ inl low_b ↦ absurd (let x = high_s.1 in let y = low_b.1 in omega arith) | inr high_b ↦ let x = high_s.2 in let y = high_b.2 in omega arith ]
    ]
  ]
]

-- where the greater number isn't seen as greater, both are of ended eras
at_least-same : (base b s : ℕ) → b < s → at_least base s ≤ at_least base b → (1 ≤ b) × (b ≤ base) × (s ≤ base) × (at_least base b ≡ at_least base s)
at_least-same base b s less same = elim (at_least-cases base s) [
  | inl none ↦ absurd (let e = none.0 in omega arith)
  | inr rest_s ↦ elim (at_least-cases base b) [
    | inl none ↦ elim rest_s [ inl low ↦ absurd (let x = none.1 in let y = low.2 in let z = low.1 in omega arith) | inr high ↦ absurd (let x = none.1 in let y = high.2 in let z = high.0 in omega arith) ]
    | inr rest_b ↦ elim rest_b [
      | inl low_b ↦ elim rest_s [
        | inl low_s ↦ let some = low_b.0 in let x = low_b.2 in let y = low_s.2 in let a = low_b.1 in let c = low_s.1 in (some, omega arith, omega arith, omega arith)
        | inr high_s ↦ let some = low_b.0 in let x = low_b.2 in let y = high_s.2 in let a = low_b.1 in let c = high_s.1 in (some, omega arith, omega arith, omega arith)
      ]
      | inr high_b ↦ elim rest_s [
        | inl low_s ↦ absurd (let a = high_b.1 in let c = low_s.1 in omega arith)
        | inr high_s ↦ absurd (let x = high_b.2 in let y = high_s.2 in omega arith)
      ]
    ]
  ]
]

-- a value goes by the state before it
value_after-state : {S I R : Type 0} (object : Sequential S I R) (u v : Option (S × Option R)) (i : Option I) → state_in u ≡ state_in v → value_after object u i ≡ value_after object v i
value_after-state object None None i e = refl
value_after-state object None (Some v) i e = cc
value_after-state object (Some u) None i e = cc
value_after-state object (Some u) (Some v) None e = refl
value_after-state object (Some u) (Some v) (Some i) e = let same : u.0 ≡ v.0 = cc in ap (λ s. Some (object.next s i, Some (object.answer s i))) same

module _ {S I R : Type 0} (object : Sequential S I R) (m' m : Memory S I R) (n : ℕ) (rename : Name → Name) (base : ℕ) (r : IsRenamed m' m n rename base)
    (p : ℕ) (mine : Name) where
  -- what the step comes to in each memory
  abbrev pub effect : Stage → Effect S I R
  effect stage = effect_of object n mine stage (m (place_of n p mine stage)) m

  abbrev pub effect_renamed : Stage → Effect S I R
  effect_renamed stage = let k = stage_renamed rename base stage in effect_of object n mine k (m' (place_of n p mine k)) m'

  abbrev pub memory_later : Stage → Memory S I R
  memory_later stage = memory_with m (place_of n p mine stage) (effect stage).content

  -- the step does the same in both
  pub record StepsAlike (stage : Stage) : Type 0 where
    pub stage_same : (effect_renamed stage).stage ≡ option_map (stage_renamed rename base) (effect stage).stage
    pub turn : turn_of (stage_renamed rename base stage) (m' (place_of n p mine (stage_renamed rename base stage))) ≡ turn_of stage (m (place_of n p mine stage))
    pub response : response_after mine (stage_renamed rename base stage) m' ≡ response_after mine stage m
    pub memory : IsRenamed (memory_with m' (place_of n p mine (stage_renamed rename base stage)) (effect_renamed stage).content) (memory_later stage) n rename base
    pub still_new : (x : Name) → IsNew m base x → IsNew (memory_later stage) base x

  -- a place that is only read
  IsRenamed-reads : (place' place : Place) → IsRenamed (memory_with m' place' (m' place')) (memory_with m place (m place)) n rename base
  IsRenamed-reads place' place =
      subst (λ a. IsRenamed a (memory_with m place (m place)) n rename base) (sym (written_same m' place'))
      (subst (λ b. IsRenamed m' b n rename base) (sym (written_same m place)) r)

  IsNew-reads : (place : Place) (x : Name) → IsNew m base x → IsNew (memory_with m place (m place)) base x
  IsNew-reads place x h = subst (λ b. IsNew b base x) (sym (written_same m place)) h

  seq-new : (x : Name) → IsNew m base x → seq_of m' x ≡ seq_of m x
  seq-new x h = ap (seq_of m') (sym (r.new_name x h)) ∙ r.seq x ∙ elim h [
    | inl none ↦ ap (at_least base) none ∙ sym none
    | inr past ↦ at_least-past base (seq_of m x) (omega arith) (omega arith)
  ]

  -- the number of a cell is 0 in both or in none
  at_least-zero : (s : ℕ) → s ≢ 0 → at_least base s ≢ 0
  at_least-zero s some none =
      let first = r.first in
      let last = r.anchor in
      elim (at_least-cases base s) [
        | inl zero_s ↦ some zero_s.0
        | inr rest ↦ elim rest [ inl low ↦ (let e = low.2 in omega arith) | inr high ↦ (let e = high.2 in let f = high.0 in omega arith) ]
      ]

  module _ (num : Name → ℕ) (last : ℕ) (numbered : IsNumbered m num last) (inside : p < n) (own : IsNew m base mine) (turns : ℕ) where
    -- the cell after a recent one is new
    new_after : (c d : Name) (s : ℕ) → seq_of m c ≡ s → base ≤ s → after_of m c ≡ Some d → IsNew m base d
    new_after c d s number past link =
        let first = r.first in
        let anchor = r.anchor in
        let of_c : seq_of m c ≡ num c = numbered.seq c (omega arith) in
        let next : num d ≡ num c + 1 = (numbered.link c d link).1 in
        elim (era_cases m base d) [
          | inl new ↦ new
          | inr old ↦ absurd (let of_d : seq_of m d ≡ num d = numbered.seq d old.0 in let most = old.1 in omega arith)
        ]

    recent_c : (c : Name) (s : ℕ) → AtHead m p c s → base ≤ s → IsRecent m base c
    recent_c c s h past = inr (subst (λ k. base ≤ k) (sym h.seq) past)

    -- one more head is compared with the best cell so far
    scanned : (q : ℕ) (best : Name) (b : ℕ) (h : Name) → HasBest m q best b → 1 ≤ seq_of m h
        → stage_after_scan n q (rename best) (at_least base b) (rename h) (at_least base (seq_of m h)) ≡ stage_renamed rename base (stage_after_scan n q best b h (seq_of m h))
    scanned q best b h has some = elim (lt_cases b (seq_of m h)) [
      | inl less ↦ elim (lt_cases (at_least base b) (at_least base (seq_of m h))) [
        | inl seen ↦ rw (less.1, seen.1) (goes_on h (seq_of m h))
        | inr unseen ↦
            let both = at_least-same base b (seq_of m h) less.0 unseen.0 in
            let old_h : rename h ≡ Anchor = r.old h some both.2 in
            let old_best : rename best ≡ Anchor = elim has [
              | inl none ↦ absurd (let zero_b = none.1 in let some_b = both.0 in omega arith)
              | inr found ↦ r.old best (let number = found.1 in let positive = found.0 in omega arith) (let number = found.1 in let most = both.1 in omega arith)
            ] in
            rw (less.1, unseen.1) (ap (λ x. next_in_scan n q x (at_least base b)) (old_best ∙ sym old_h) ∙ ap (next_in_scan n q (rename h)) both.3 ∙ goes_on h (seq_of m h))
      ]
      | inr more ↦ elim (lt_cases (at_least base b) (at_least base (seq_of m h))) [
        | inl seen ↦ absurd (let le = at_least-le base (seq_of m h) b some more.0 in let less = seen.0 in omega arith)
        | inr unseen ↦ rw (more.1, unseen.1) (goes_on best b)
      ]
    ] where
      goes_on : (found : Name) (top : ℕ) → next_in_scan n q (rename found) (at_least base top) ≡ stage_renamed rename base (next_in_scan n q found top)
      goes_on found top = elim (lt_cases (q + 1) n) [ inl on ↦ rw on.1 refl | inr done ↦ rw done.1 refl ]

    -- each kind of step
    pub steps_alike : (stage : Stage) → Stands m num n p mine stage → Finds m n stage turns base → HasTurns stage turns → StepsAlike stage
    steps_alike Announce stands finds has = record {
      stage_same = ap (λ x. Some (ScanHead 0 x 0)) (sym (rename-anchor m' m n rename base r));
      turn = refl;
      response = refl;
      memory = IsRenamed-announced m' m n rename base r p mine mine (sym (r.new_name mine own));
      still_new = λ x h. h;
    }
    steps_alike (ScanHead q best b) stands finds has = record {
      stage_same = ap (λ h. Some (ScanSeq q (rename best) (at_least base b) h)) (r.head q stands.0);
      turn = refl;
      response = refl;
      memory = IsRenamed-reads (HeadOf q) (HeadOf q);
      still_new = IsNew-reads (HeadOf q);
    }
    steps_alike (ScanSeq q best b h) stands finds has = record {
      stage_same = ap (λ s. Some (stage_after_scan n q (rename best) (at_least base b) (rename h) s)) (r.seq h) ∙ ap (λ k. Some k) (scanned q best b h stands.1 stands.2);
      turn = refl;
      response = refl;
      memory = IsRenamed-reads (SeqOf (rename h)) (SeqOf h);
      still_new = IsNew-reads (SeqOf h);
    }
    steps_alike (WriteScan best b) stands finds has = record {
      stage_same = ap (λ s. Some (Test (rename best) s)) (at_least-past base b finds stands.0);
      turn = refl;
      response = refl;
      memory = IsRenamed-head m' m n rename base r p best (rename best) refl;
      still_new = λ x h. h;
    }
    steps_alike (Test c s) stands finds has = elim (number_cases (seq_of m mine) 0) [
      | inl none ↦ record {
        stage_same = rw (seq-new mine own, none.1) refl;
        turn = rw (seq-new mine own, none.1) refl;
        response = refl;
        memory = IsRenamed-reads (SeqOf mine) (SeqOf mine);
        still_new = IsNew-reads (SeqOf mine);
      }
      | inr some ↦ record {
        stage_same = rw (seq-new mine own, some.1) refl;
        turn = rw (seq-new mine own, some.1) refl;
        response = refl;
        memory = IsRenamed-reads (SeqOf mine) (SeqOf mine);
        still_new = IsNew-reads (SeqOf mine);
      }
    ]
    steps_alike (ReadAnnounce c s) stands finds has = record {
      stage_same = ap (λ x. Some (ReadHelpSeq (rename c) s x)) (r.announced (s % n) (omega arith));
      turn = refl;
      response = refl;
      memory = IsRenamed-reads (Announced (s % n)) (Announced (s % n));
      still_new = IsNew-reads (Announced (s % n));
    }
    steps_alike (ReadHelpSeq c s help) stands finds has = record {
      stage_same = elim (number_cases (seq_of m help) 0) [
        | inl none ↦
            let zero_w : seq_of m' (rename help) ≡ 0 = r.seq help ∙ ap (at_least base) none.0 in
            rw (zero_w, none.1) (ap (λ x. Some (DecideAfter (rename c) s x)) (r.new_name help (inl none.0)))
        | inr some ↦ elim (number_cases (seq_of m' (rename help)) 0) [
          | inl zero_w ↦ absurd (at_least-zero (seq_of m help) some.0 (sym (r.seq help) ∙ zero_w.0))
          | inr some_w ↦ rw (some_w.1, some.1) refl
        ]
      ];
      turn = refl;
      response = refl;
      memory = IsRenamed-reads (SeqOf (rename help)) (SeqOf help);
      still_new = IsNew-reads (SeqOf help);
    }
    steps_alike (DecideAfter c s prefer) stands finds has =
        let recent : IsRecent m base c = recent_c c s stands.0 (omega arith) in
        record {
          stage_same = ap (λ o. Some (DecideNew (rename c) s (unwrap_or o prefer))) (r.after c recent);
          turn = refl;
          response = refl;
          memory = subst (λ o. IsRenamed (memory_with m' (AfterOf (rename c)) (Link (option_or o (Some prefer)))) (memory_later (DecideAfter c s prefer)) n rename base)
              (sym (r.after c recent)) (IsRenamed-after m' m n rename base r c (option_or (after_of m c) (Some prefer)) recent);
          still_new = λ x h. h;
        }
    steps_alike (DecideNew c s d) stands finds has =
        let recent : IsRecent m base c = recent_c c s stands.0 (omega arith) in
        let new_d : IsNew m base d = new_after c d s stands.0.seq (omega arith) stands.1 in
        let same : option_or (new_of m' d) (value_after object (new_of m' (rename c)) (inv_of m' d)) ≡ option_or (new_of m d) (value_after object (new_of m c) (inv_of m d))
        = rw (r.new d new_d, r.inv d new_d) (ap (option_or (new_of m d)) (value_after-state object (new_of m' (rename c)) (new_of m c) (inv_of m d) (r.state c recent))) in
        record {
          stage_same = refl;
          turn = refl;
          response = refl;
          memory = subst (λ v. IsRenamed (memory_with m' (NewOf d) (Settled v)) (memory_later (DecideNew c s d)) n rename base) (sym same)
              (IsRenamed-value m' m n rename base r d (option_or (new_of m d) (value_after object (new_of m c) (inv_of m d))) new_d);
          still_new = λ x h. h;
        }
    steps_alike (WriteBefore c s d) stands finds has = record {
      stage_same = refl;
      turn = refl;
      response = refl;
      memory = IsRenamed-before m' m n rename base r d d (Some c) (Some (rename c));
      still_new = λ x h. h;
    }
    steps_alike (WriteSeq c s d) stands finds has =
        let new_d : IsNew m base d = new_after c d s stands.0.seq (omega arith) stands.1 in
        record {
          stage_same = refl;
          turn = refl;
          response = refl;
          memory = IsRenamed-seq m' m n rename base r d (s + 1) (omega arith) new_d;
          still_new = IsNew-numbered m' m n rename base r d (s + 1) (omega arith) new_d;
        }
    steps_alike (WriteHead c s d) stands finds has =
        let number : seq_of m d ≡ s + 1 = stands.2 in
        let same : rename d ≡ d = r.new_name d (inr (omega arith)) in
        record {
          stage_same = ap (λ x. Some (Test x (s + 1))) (sym same);
          turn = refl;
          response = refl;
          memory = IsRenamed-head m' m n rename base r p d d (sym same);
          still_new = λ x h. h;
        }
    steps_alike (Finish s t) stands finds has = record {
      stage_same = refl;
      turn = refl;
      response = ap (option_and_then (λ (new : S × Option R). new.1)) (r.new mine own);
      memory = elim (lt_cases s t) [
        | inl less ↦ rw less.1 (IsRenamed-head m' m n rename base r p mine mine (sym (r.new_name mine own)))
        | inr more ↦ rw more.1 (IsRenamed-reads (HeadOf p) (HeadOf p))
      ];
      still_new = λ x h. h;
    }
