-- A step keeps the floor of a call.
use Rattle.uni_model.proofs.Vocabulary.{Anchor, Announce, DecideAfter, DecideNew, Finish, Helps, IsSound, Memory, Name, None, Of, OfConsidered, Option, Pending, ReadAnnounce, ReadHelpSeq, ScanHead, ScanSeq, Sequential, Some, Stage, Test, WorldOf, WriteBefore, WriteHead, WriteScan, WriteSeq, announce_of, ap, arith, call_after, effect_of, inl, inr, next_in_scan, place_of, seq_of, set_at, subst, sym, ℕ, ◌%◌, ◌+◌, ◌<◌, ◌∙◌, ◌≡◌, ◌≢◌, ◌≤◌, ◌⊎◌}
use Rattle.uni_model.proofs.Floored.{IsBelowFloor, Waits, HasFloor, IsAnnounced}
use Rattle.uni_model.proofs.Written.{number_cases, lt_cases}
use Rattle.uni_model.proofs.Moves.{Moves, Extends, was_pending}
use Rattle.uni_model.proofs.Longer.{IsLonger, numbers-cases, anchor_stays, not_linked_before, below-cases}
use Rattle.uni_model.proofs.Residues.{found_near}
use Rattle.uni_model.proofs.Helped.{OfConsidered-map, Announces-cases}
use Rattle.uni_model.proofs.Advanced.{AdvancesTo}

-- what holds of the cell that a process may link next, if its call goes on
abbrev pub OfNext : Option Stage → (ℕ → Name → Type 0) → Type 0
OfNext None Holds = Unit {0}
OfNext (Some stage) Holds = OfConsidered stage Holds

-- while x isn't linked, the last number is at most n past the floor
pub last-le : {S I R : Type 0} (w : WorldOf S I R) (num : Name → ℕ) (last p : ℕ) (x : Name) (floor : ℕ) → p < w.n → Waits w num last p x floor → num x ≡ 0 → last ≤ floor + w.n
last-le w num last p x floor inside waits none =
    let found = found_near w.n p inside (num Anchor) last (λ s. s ≤ floor) waits.anchor (waits.unlinked none) in
    let le : found.0 ≤ floor = found.1 in
    let near : last ≤ found.0 + w.n = found.2 in
    omega arith

module _ {S I R : Type 0} (object : Sequential S I R) (w : WorldOf S I R) (num : Name → ℕ) (last : ℕ) (sound : IsSound object w num last)
    (p : ℕ) (mine : Name) (q : ℕ) (x : Name) (floor : ℕ) where
  -- Where it is q's turn, what p may link after its step is x, or comes after a number that isn't past the floor: in q's entry
  -- of announce p finds x.
  pub considers_below : (stage : Stage) → (stage ≢ Announce → announce_of w.memory q ≡ x) → OfConsidered stage (IsBelowFloor num w.n q x floor)
      → OfNext (effect_of object w.n mine stage (w.memory (place_of w.n p mine stage)) w.memory).stage
      (IsBelowFloor num w.n q x floor)
  considers_below Announce known h = tt
  considers_below (ScanHead r best b) known h = tt
  considers_below (ScanSeq r best b y) known h = elim (lt_cases b (seq_of w.memory y)) [ inl better ↦ rw better.1 (goes_on y (seq_of w.memory y)) | inr worse ↦ rw worse.1 (goes_on best b) ] where
    goes_on : (found : Name) (top : ℕ) → OfNext (Some (next_in_scan w.n r found top)) (IsBelowFloor num w.n q x floor)
    goes_on found top = elim (lt_cases (r + 1) w.n) [ inl more ↦ rw more.1 tt | inr done ↦ rw done.1 tt ]
  considers_below (WriteScan best b) known h = tt
  considers_below (Test c s) known h = elim (number_cases (seq_of w.memory mine) 0) [ inl none ↦ rw none.1 tt | inr some ↦ rw some.1 tt ]
  considers_below (ReadAnnounce c s) known h = λ none other its_turn. absurd (other (ap (announce_of w.memory) its_turn ∙ known (λ e. cc)))
  considers_below (ReadHelpSeq c s help) known h = elim (number_cases (seq_of w.memory help) 0) [
    | inl none ↦ rw none.1 h
    | inr some ↦ rw some.1 (λ absent other its_turn.
        h absent (λ same.
        let apart = some.0 in
        let number : seq_of w.memory help ≡ num help = sound.numbered.seq help (omega arith) in
        let zero : num help ≡ 0 = ap num same ∙ absent in
        apart (number ∙ zero))
        its_turn)
  ]
  considers_below (DecideAfter c s prefer) known h = tt
  considers_below (DecideNew c s d) known h = tt
  considers_below (WriteBefore c s d) known h = tt
  considers_below (WriteSeq c s d) known h = tt
  considers_below (WriteHead c s d) known h = tt
  considers_below (Finish s k) known h = tt

module _ {S I R : Type 0} (object : Sequential S I R) (w : WorldOf S I R) (num : Name → ℕ) (last : ℕ) (sound : IsSound object w num last) (helps : Helps w num last)
    (p : ℕ) (mine : Name) (from : Stage) (is : w.call p ≡ Some (record { mine = mine; stage = from }))
    (m : Memory S I R) (num' : Name → ℕ) (last' : ℕ) (to : Option Stage) (moves : Moves object w num p mine m num' last' to)
    (extends : Extends num last num' last' from) (t : ℕ) (advances : AdvancesTo w num p mine from m num' to t)
    (q k floor : ℕ) (has : HasFloor w num last q k floor)
    (known : (c : Pending) → w.call q ≡ Some c → c.mine ≡ Of q k → (c.stage ≢ Announce) ⊎ (q ≡ p))
    (considers : (from ≢ Announce → announce_of w.memory q ≡ Of q k) → OfConsidered from (IsBelowFloor num w.n q (Of q k) floor) → OfNext to (IsBelowFloor num w.n q (Of q k) floor)) where
  -- a cell that is linked now is one that p proposes
  abbrev IsProposed : Name → Type 0
  IsProposed x = (c : Name) × (from ≡ DecideAfter c last x)

  longer : IsLonger num last num' last' IsProposed
  longer = elim extends [ inl same ↦ inl same | inr more ↦ inr (more.1, (more.0, more.2), more.3, more.4, more.5) ]

  absent_before : num' (Of q k) ≡ 0 → num (Of q k) ≡ 0
  absent_before none = not_linked_before num last num' last' IsProposed longer (Of q k) none

  module _ (c : Pending) (pending : w.call q ≡ Some c) (its : c.mine ≡ Of q k) where
    waits : Waits w num last q (Of q k) floor
    waits = has.waits c pending its

    -- q has announced it, but for the step that does so
    announces : from ≢ Announce → announce_of w.memory q ≡ Of q k
    announces past = elim (Announces-cases w.memory q c.mine c.stage (helps.each q c pending).announced) [
      | inl first ↦ absurd (elim (known c pending its) [
        | inl not_first ↦ not_first first
        | inr here ↦
            let one : Some (record { mine = mine; stage = from }) ≡ Some c = sym is ∙ ap w.call (sym here) ∙ pending in
            let same : record { mine = mine; stage = from } ≡ c = (let f = one in cc) in
            past (ap (λ (y : Pending). y.stage) same ∙ first)
      ])
      | inr there ↦ there ∙ its
    ]

    unlinked_later : num' (Of q k) ≡ 0 → (s : ℕ) → s % w.n ≡ q → num' Anchor ≤ s → s < last' → s ≤ floor
    unlinked_later none s its_turn least below =
        let anchor : num' Anchor ≡ num Anchor = anchor_stays num last num' last' IsProposed longer sound.numbered.first in
        let absent : num (Of q k) ≡ 0 = absent_before none in
        elim (below-cases num last num' last' IsProposed longer s below) [
          | inl before ↦ waits.unlinked absent s its_turn (omega arith) before
          | inr end ↦
              let apart : end.1 ≢ Of q k = (λ same. let new : num' end.1 ≡ last + 1 = end.3 in let zero : num' end.1 ≡ 0 = ap num' same ∙ none in omega arith) in
              subst (λ j. j ≤ floor) (sym end.0)
              (subst (λ j. OfConsidered j (IsBelowFloor num w.n q (Of q k) floor)) end.2.1 (waits.fair p (record { mine = mine; stage = from }) is)
              absent apart (ap (λ j. j % w.n) (sym end.0) ∙ its_turn))
        ]

    own_considered : (d : Pending) → call_after mine to ≡ Some d → OfConsidered d.stage (IsBelowFloor num w.n q (Of q k) floor)
    own_considered d e = at_stage to (considers announces (waits.fair p (record { mine = mine; stage = from }) is)) e where
      at_stage : (j : Option Stage) → OfNext j (IsBelowFloor num w.n q (Of q k) floor) → call_after mine j ≡ Some d → OfConsidered d.stage (IsBelowFloor num w.n q (Of q k) floor)
      at_stage None done f = cc
      at_stage (Some j) on f = let same : record { mine = mine; stage = j } ≡ d = cc in subst (λ (y : Pending). OfConsidered y.stage (IsBelowFloor num w.n q (Of q k) floor)) same on

    considered_later : (o : ℕ) (d : Pending) → set_at w.call p (call_after mine to) o ≡ Some d → OfConsidered d.stage (IsBelowFloor num w.n q (Of q k) floor)
    considered_later o d e = elim (number_cases o p) [
      | inl here ↦ own_considered d (rw here.1 at e)
      | inr other ↦ waits.fair o d (rw other.1 at e)
    ]

    Waits-moved : (steps : ℕ → ℕ)
        → Waits (record { n = w.n; memory = m; call = set_at w.call p (call_after mine to); begun = w.begun; first = w.first; among = w.among; steps = steps; turns = set_at w.turns p t }) num' last' q (Of q k) floor
    Waits-moved steps = record {
      anchor = subst (λ j. j ≤ floor) (sym (anchor_stays num last num' last' IsProposed longer sound.numbered.first)) waits.anchor;
      unlinked = unlinked_later;
      fair = λ o d e. OfConsidered-map d.stage (IsBelowFloor num w.n q (Of q k) floor) _ (λ s y below none. below (absent_before none)) (considered_later o d e);
    }

  linked_later : num' (Of q k) ≤ floor + w.n + 1
  linked_later =
      let was : num (Of q k) ≤ floor + w.n + 1 = has.linked in
      elim (numbers-cases num last num' last' IsProposed longer (Of q k)) [
        | inl same ↦ omega arith
        | inr new ↦
            let none : num (Of q k) ≡ 0 = new.0 in
            let number : num' (Of q k) ≡ last + 1 = new.1 in
            elim (sound.calls.threaded q k (moves.linked q k (omega arith))) [
              | inl threaded ↦ absurd (let is_number : seq_of w.memory (Of q k) ≡ num (Of q k) = sound.numbered.seq (Of q k) threaded in omega arith)
              | inr pending ↦ let near : last ≤ floor + w.n = last-le w num last q (Of q k) floor (sound.calls.process q pending.0 pending.1) (has.waits pending.0 pending.1 pending.2) none in omega arith
            ]
      ]

  pub HasFloor-moved : (steps : ℕ → ℕ)
      → HasFloor (record { n = w.n; memory = m; call = set_at w.call p (call_after mine to); begun = w.begun; first = w.first; among = w.among; steps = steps; turns = set_at w.turns p t }) num' last' q k floor
  HasFloor-moved steps = record {
    begun = has.begun;
    linked = linked_later;
    waits = λ c e its.
        let was = was_pending object w num last sound p mine from is m num' last' to moves q c e in
        Waits-moved was.0 was.1 (sym was.2 ∙ its) steps;
  }

  pub IsAnnounced-moved : (steps : ℕ → ℕ)
      → IsAnnounced (record { n = w.n; memory = m; call = set_at w.call p (call_after mine to); begun = w.begun; first = w.first; among = w.among; steps = steps; turns = set_at w.turns p t }) q k
  IsAnnounced-moved steps c e its = elim (number_cases q p) [
    | inl here ↦ at_stage to advances (rw here.1 at e)
    | inr other ↦ elim (known c (rw other.1 at e) its) [ inl past ↦ past | inr here ↦ absurd (other.0 here) ]
  ] where
    at_stage : (j : Option Stage) → AdvancesTo w num p mine from m num' j t → call_after mine j ≡ Some c → c.stage ≢ Announce
    at_stage None done f = cc
    at_stage (Some j) on f = let same : record { mine = mine; stage = j } ≡ c = cc in subst (λ (y : Pending). y.stage ≢ Announce) same on.later
