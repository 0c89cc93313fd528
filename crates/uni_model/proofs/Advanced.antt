-- What the step of a process does for its own call, and what the process considers then.
use Rattle.uni_model.proofs.Vocabulary.{Anchor, Announce, Announced, Announces, AtHead, CellName, CountsOwnHead, DecideAfter, DecideNew, Finds, Finish, Grows, HasTurns, HeadOf, Helps, IsAhead, IsFairToAll, IsHelped, IsPast, IsSound, Memory, Name, None, Of, OfConsidered, Option, Pending, ReadAnnounce, ReadHelpSeq, ScanHead, ScanSeq, SeqOf, Sequential, Some, SomeHead, Stage, Stands, Test, WorldOf, WriteBefore, WriteHead, WriteScan, WriteSeq, announce_of, ap, arith, effect_of, head_of, head_seq, inl, inr, memory_with, next_in_scan, place_of, refl, seq_of, stage_after_scan, subst, sym, turn_of, ℕ, ◌%◌, ◌+◌, ◌<◌, ◌∙◌, ◌≡◌, ◌≢◌, ◌≤◌}
use Rattle.uni_model.proofs.Written.{number_cases, lt_cases, head_of-memory_with, announce_of-memory_with, written_same}
use Rattle.uni_model.proofs.Grows.{NumbersGrow, head_seq-at}
use Rattle.uni_model.proofs.Numbered.{IsPast-threaded}
use Rattle.uni_model.proofs.Helped.{Announces-cases, IsPast-later, not_passed}
use Rattle.uni_model.proofs.Turns.{turns-le}

-- p goes on from a stage to another one, with so many turns
pub record Advances {S I R : Type 0} (w : WorldOf S I R) (num : Name → ℕ) (p : ℕ) (mine : Name) (from : Stage) (m : Memory S I R) (num' : Name → ℕ) (stage : Stage) (turns : ℕ) : Type 0 where
  pub later : stage ≢ Announce
  pub finds : (s : ℕ) → Finds w.memory w.n from (w.turns p) s → Finds m w.n stage turns s
  pub announced : Announces m p mine stage
  pub own_head : CountsOwnHead m p stage
  pub ahead : IsAhead num' mine stage turns
  pub fair : OfConsidered stage (λ s x. IsFairToAll w num s x)

-- p goes on, or its call ends
abbrev pub AdvancesTo : {S I R : Type 0} (w : WorldOf S I R) (num : Name → ℕ) (p : ℕ) (mine : Name) (from : Stage) (m : Memory S I R) (num' : Name → ℕ) (stage : Option Stage) (turns : ℕ) → Type 0
AdvancesTo w num p mine from m num' None turns = turns ≤ w.n + 1
AdvancesTo w num p mine from m num' (Some stage) turns = Advances w num p mine from m num' stage turns

module _ {S I R : Type 0} (object : Sequential S I R) (w : WorldOf S I R) (num : Name → ℕ) (last : ℕ) (sound : IsSound object w num last) (helps : Helps w num last)
    (p : ℕ) (mine : Name) where
  -- what another process has announced is fair to all
  fair_announced : (c : Name) (s : ℕ) → p < w.n → AtHead w.memory p c s → IsFairToAll w num s (announce_of w.memory (s % w.n))
  fair_announced c s inside h q d pending = record {
    unknown = λ first same.
        let its = sound.calls.mine q d pending in
        let below : s % w.n < w.n = omega arith in
        elim (sound.calls.announced (s % w.n) below) [
          | inl anchor ↦ (let e : Anchor ≡ Of q its.0 = sym anchor ∙ same ∙ its.1 in cc)
          | inr cell ↦
              let e : Of (s % w.n) cell.0 ≡ Of q its.0 = sym cell.1 ∙ same ∙ its.1 in
              let here : s % w.n ≡ q = (let f = e in cc) in
              let apart : announce_of w.memory q ≢ d.mine = subst (λ k. Announces w.memory q d.mine k) first (helps.each q d pending).announced in
              apart (ap (announce_of w.memory) (sym here) ∙ same)
        ];
    help = λ none other its_turn. elim (Announces-cases w.memory q d.mine d.stage (helps.each q d pending).announced) [
      | inl first ↦ subst (λ k. Finds w.memory w.n k (w.turns q) s) (sym first) found
      | inr there ↦ absurd (other (ap (announce_of w.memory) its_turn ∙ there))
    ];
  } where
    number : head_seq w.memory p ≡ s
    number = head_seq-at w.memory p c s h

    found : SomeHead w.memory w.n 0 s
    found = (p, omega arith, inside, (let e = number in omega arith))

  -- so is p's own cell, where the one that it may help has a number
  fair_mine : (c : Name) (s : ℕ) (help : Name) → w.call p ≡ Some (record { mine = mine; stage = ReadHelpSeq c s help }) → 1 ≤ seq_of w.memory help → IsFairToAll w num s mine
  fair_mine c s help is threaded q d pending = record {
    unknown = λ first same.
        let own = sound.calls.mine p (record { mine = mine; stage = ReadHelpSeq c s help }) is in
        let its = sound.calls.mine q d pending in
        let e : Of p own.0 ≡ Of q its.0 = sym own.1 ∙ same ∙ its.1 in
        let here : p ≡ q = (let f = e in cc) in
        let one : Some (record { mine = mine; stage = ReadHelpSeq c s help }) ≡ Some d = sym is ∙ ap w.call here ∙ pending in
        let there : record { mine = mine; stage = ReadHelpSeq c s help } ≡ d = (let f = one in cc) in
        let stage : ReadHelpSeq c s help ≡ Announce = ap (λ (k : Pending). k.stage) there ∙ first in
        (let f = stage in cc);
    help = λ none other its_turn.
        (helps.fair p (record { mine = mine; stage = ReadHelpSeq c s help }) is q d pending).help none
        (λ same.
        let number : seq_of w.memory help ≡ num help = sound.numbered.seq help threaded in
        let zero : num help ≡ 0 = ap num same ∙ none in omega arith)
        its_turn;
  }

  module _ (inside : p < w.n) (threaded : 1 ≤ head_seq w.memory p) (num' : Name → ℕ) (numbers : NumbersGrow w.memory num num') where
    past : (c : Name) (s : ℕ) → AtHead w.memory p c s → IsPast num mine s → IsPast num' mine s
    past c s h is = IsPast-later w.memory num num' numbers p threaded mine s (head_seq-at w.memory p c s h) is

    -- the scan goes on from a head, with the best cell so far
    scans_on : (q : ℕ) (best : Name) (b : ℕ) (x : Name) → q < w.n → IsHelped w.memory num last w.n p mine (ScanSeq q best b x) (w.turns p)
        → (found : Name) (top : ℕ) → b ≤ top → seq_of w.memory x ≤ top
        → Advances w num p mine (ScanSeq q best b x) w.memory num' (next_in_scan w.n q found top) (w.turns p + 0)
    scans_on q best b x below h found top old new = elim (lt_cases (q + 1) w.n) [
      | inl more ↦ rw more.1 (record {
        later = λ e. cc;
        finds = λ s finds. elim finds [
          | inl before ↦ inl (omega arith)
          | inr rest ↦ elim rest [ inl here ↦ inl (omega arith) | inr after ↦ inr after ]
        ];
        announced = h.announced;
        own_head = λ passed. own_number passed;
        ahead = tt;
        fair = tt;
      })
      | inr done ↦ rw done.1 (record {
        later = λ e. cc;
        finds = λ s finds. elim finds [
          | inl before ↦ omega arith
          | inr rest ↦ elim rest [
            | inl here ↦ omega arith
            | inr after ↦ absurd (let from : q + 1 ≤ after.0 = after.1 in let to : after.0 < w.n = after.2 in let end = done.0 in omega arith)
          ]
        ];
        announced = h.announced;
        own_head = own_number (let end = done.0 in omega arith);
        ahead = tt;
        fair = tt;
      })
    ] where
      own_number : p < q + 1 → head_seq w.memory p ≤ top
      own_number passed = elim (lt_cases p q) [
        | inl before ↦ let had : head_seq w.memory p ≤ b = h.own_head.0 before.0 in omega arith
        | inr not_before ↦
            let e = not_before.0 in
            let is : x ≡ head_of w.memory p = h.own_head.1 (omega arith) in
            let number : seq_of w.memory x ≡ head_seq w.memory p = ap (seq_of w.memory) is in omega arith
      ]

    -- each kind of step
    pub advances : (stage : Stage) → w.call p ≡ Some (record { mine = mine; stage = stage }) → Stands w.memory num w.n p mine stage
        → IsHelped w.memory num last w.n p mine stage (w.turns p) → HasTurns stage (w.turns p)
        → let place = place_of w.n p mine stage in
        let e = effect_of object w.n mine stage (w.memory place) w.memory in
        AdvancesTo w num p mine stage (memory_with w.memory place e.content) num' e.stage (w.turns p + turn_of stage (w.memory place))
    advances Announce is stands h turns = record {
      later = λ e. cc;
      finds = λ s found. inr found;
      announced = elim (announce_of-memory_with w.memory p p mine) [ inl own ↦ own.1 | inr other ↦ absurd (other.0 refl) ];
      own_head = λ passed. absurd (omega arith);
      ahead = tt;
      fair = tt;
    }
    advances (ScanHead q best b) is stands h turns =
        subst (λ m. Advances w num p mine (ScanHead q best b) m num' (ScanSeq q best b (head_of w.memory q)) (w.turns p + 0)) (sym (written_same w.memory (HeadOf q))) (record {
          later = λ e. cc;
          finds = λ s found. elim found [
            | inl before ↦ inl before
            | inr rest ↦ inr (elim (number_cases q rest.0) [
              | inl here ↦ inl (subst (λ r. s ≤ head_seq w.memory r) (sym here.0) rest.3)
              | inr other ↦ inr (rest.0, (let from : q ≤ rest.0 = rest.1 in let apart = other.0 in omega arith), rest.2, rest.3)
            ])
          ];
          announced = h.announced;
          own_head = (h.own_head, λ here. ap (head_of w.memory) here);
          ahead = tt;
          fair = tt;
        })
    advances (ScanSeq q best b x) is stands h turns =
        subst (λ m. Advances w num p mine (ScanSeq q best b x) m num' (stage_after_scan w.n q best b x (seq_of w.memory x)) (w.turns p + 0)) (sym (written_same w.memory (SeqOf x)))
        (elim (lt_cases b (seq_of w.memory x)) [
          | inl less ↦ rw less.1 (scans_on q best b x stands.0 h x (seq_of w.memory x) (let f = less.0 in omega arith) (omega arith))
          | inr more ↦ rw more.1 (scans_on q best b x stands.0 h best b (omega arith) more.0)
        ])
    advances (WriteScan best b) is stands h turns = record {
      later = λ e. cc;
      finds = λ s found. omega arith;
      announced = h.announced;
      own_head = tt;
      ahead = inl (omega arith);
      fair = tt;
    }
    advances (Test c s) is stands h turns = elim (number_cases (seq_of w.memory mine) 0) [
      | inl none ↦ rw none.1 (record {
        later = λ e. cc;
        finds = λ k found. omega arith;
        announced = h.announced;
        own_head = tt;
        ahead = past c s stands (subst (λ k. IsPast num mine k) stands.seq
            (IsPast-threaded w.memory num last sound.numbered mine c none.0 (subst (λ k. 1 ≤ seq_of w.memory k) stands.head threaded)));
        fair = tt;
      })
      | inr some ↦ rw some.1 (record {
        later = λ e. cc;
        finds = λ k found. omega arith;
        announced = h.announced;
        own_head = tt;
        ahead = elim (not_passed w.memory num num' numbers p threaded mine (w.turns p) s (head_seq-at w.memory p c s stands) h.ahead) [ inl first ↦ inl (omega arith) | inr rest ↦ inr rest ];
        fair = tt;
      })
    ]
    advances (ReadAnnounce c s) is stands h turns =
        subst (λ m. Advances w num p mine (ReadAnnounce c s) m num' (ReadHelpSeq c s (announce_of w.memory (s % w.n))) (w.turns p + 0)) (sym (written_same w.memory (Announced (s % w.n)))) (record {
          later = λ e. cc;
          finds = λ k found. omega arith;
          announced = h.announced;
          own_head = tt;
          ahead = past c s stands.0 h.ahead;
          fair = fair_announced c s inside stands.0;
        })
    advances (ReadHelpSeq c s help) is stands h turns = record {
      later = λ e. cc;
      finds = λ k found. omega arith;
      announced = h.announced;
      own_head = tt;
      ahead = past c s stands.0 h.ahead;
      fair = elim (number_cases (seq_of w.memory help) 0) [
        | inl none ↦ rw none.1 (helps.fair p (record { mine = mine; stage = ReadHelpSeq c s help }) is)
        | inr some ↦ rw some.1 (fair_mine c s help is (let apart = some.0 in omega arith))
      ];
    }
    advances (DecideAfter c s prefer) is stands h turns = record {
      later = λ e. cc;
      finds = λ k found. omega arith;
      announced = h.announced;
      own_head = tt;
      ahead = past c s stands.0 h.ahead;
      fair = tt;
    }
    advances (DecideNew c s d) is stands h turns = record {
      later = λ e. cc;
      finds = λ k found. omega arith;
      announced = h.announced;
      own_head = tt;
      ahead = past c s stands.0 h.ahead;
      fair = tt;
    }
    advances (WriteBefore c s d) is stands h turns = record {
      later = λ e. cc;
      finds = λ k found. omega arith;
      announced = h.announced;
      own_head = tt;
      ahead = past c s stands.0 h.ahead;
      fair = tt;
    }
    advances (WriteSeq c s d) is stands h turns = record {
      later = λ e. cc;
      finds = λ k found. omega arith;
      announced = h.announced;
      own_head = tt;
      ahead = past c s stands.0 h.ahead;
      fair = tt;
    }
    advances (WriteHead c s d) is stands h turns = record {
      later = λ e. cc;
      finds = λ k found. omega arith;
      announced = h.announced;
      own_head = tt;
      ahead = inr (elim (past c s stands.0 h.ahead) [ inl none ↦ inl none | inr later ↦ inr (omega arith) ]);
      fair = tt;
    }
    advances (Finish s k) is stands h turns =
        let most : w.turns p ≤ w.n + 1 = turns-le w.memory num last sound.numbered w.n p inside threaded mine (w.turns p) (Finish s k) stands turns h in omega arith

  module _ (m : Memory S I R) (grows : Grows w.memory m) (threaded : 1 ≤ head_seq w.memory p) where
    -- p's head stays
    still : head_of m p ≡ head_of w.memory p → head_seq w.memory p ≤ head_seq m p
    still same = let number : head_seq m p ≡ head_seq w.memory p = ap (seq_of m) same ∙ grows.seq (head_of w.memory p) threaded in omega arith

    -- p's head becomes x
    becomes : (x : Name) → head_of m p ≡ x → 1 ≤ seq_of w.memory x → head_seq w.memory p ≤ seq_of w.memory x → head_seq w.memory p ≤ head_seq m p
    becomes x is positive more = let number : head_seq m p ≡ seq_of w.memory x = ap (seq_of m) is ∙ grows.seq x positive in omega arith

  own_head : (x : Name) → head_of (memory_with w.memory (HeadOf p) (CellName x)) p ≡ x
  own_head x = elim (head_of-memory_with w.memory p p x) [ inl h ↦ h.1 | inr h ↦ absurd (h.0 refl) ]

  -- the number of p's head doesn't fall
  pub head_rises : (threaded : 1 ≤ head_seq w.memory p) (stage : Stage) → Stands w.memory num w.n p mine stage → CountsOwnHead w.memory p stage
      → let place = place_of w.n p mine stage in
      let e = effect_of object w.n mine stage (w.memory place) w.memory in
      Grows w.memory (memory_with w.memory place e.content) → head_seq w.memory p ≤ head_seq (memory_with w.memory place e.content) p
  head_rises threaded Announce stands own grows = omega arith
  head_rises threaded (ScanHead q best b) stands own grows = still _ grows threaded (ap (λ k. head_of k p) (written_same w.memory (HeadOf q)))
  head_rises threaded (ScanSeq q best b x) stands own grows = still _ grows threaded refl
  head_rises threaded (WriteScan best b) stands own grows =
      let number : seq_of w.memory best ≡ b = stands.1 in
      becomes _ grows threaded best (own_head best) (let positive : 1 ≤ b = stands.0 in omega arith) (omega arith)
  head_rises threaded (Test c s) stands own grows = still _ grows threaded refl
  head_rises threaded (ReadAnnounce c s) stands own grows = still _ grows threaded refl
  head_rises threaded (ReadHelpSeq c s help) stands own grows = still _ grows threaded refl
  head_rises threaded (DecideAfter c s prefer) stands own grows = still _ grows threaded refl
  head_rises threaded (DecideNew c s d) stands own grows = still _ grows threaded refl
  head_rises threaded (WriteBefore c s d) stands own grows = still _ grows threaded refl
  head_rises threaded (WriteSeq c s d) stands own grows = still _ grows threaded refl
  head_rises threaded (WriteHead c s d) stands own grows =
      let here : head_seq w.memory p ≡ s = head_seq-at w.memory p c s stands.0 in
      let number : seq_of w.memory d ≡ s + 1 = stands.2 in
      becomes _ grows threaded d (own_head d) (omega arith) (omega arith)
  head_rises threaded (Finish s k) stands own grows = elim (lt_cases s k) [
    | inl less ↦ rw less.1 (
        let here : head_seq w.memory p ≡ s = stands.0 in
        let number : seq_of w.memory mine ≡ k = stands.2 in
        let more = less.0 in
        becomes _ (rw less.1 at grows) threaded mine (own_head mine) (omega arith) (omega arith))
    | inr more ↦ rw more.1 (still _ (rw more.1 at grows) threaded (ap (λ k. head_of k p) (written_same w.memory (HeadOf p))))
  ]
