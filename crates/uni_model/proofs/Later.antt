-- What helps a pending call helps it later too.
use Rattle.uni_model.proofs.Vocabulary.{Anchor, Announce, Announces, CountsOwnHead, Finds, Grows, Helps, IsAhead, IsFair, IsFairToAll, IsHelped, IsSound, Memory, Name, Pending, Sequential, Some, SomeHead, Stage, WorldOf, announce_of, ap, arith, head_of, head_seq, inl, inr, seq_of, subst, sym, ℕ, ◌%◌, ◌+◌, ◌<◌, ◌∙◌, ◌≡◌, ◌≢◌, ◌≤◌}
use Rattle.uni_model.proofs.Grows.{NumbersGrow}
use Rattle.uni_model.proofs.Longer.{IsLonger, anchor_stays, not_linked_before, numbers-cases, below-cases}
use Rattle.uni_model.proofs.Residues.{found_near}
use Rattle.uni_model.proofs.Helped.{SomeHead-grows, Finds-grows, Announces-same, CountsOwnHead-same, IsAhead-grows}

-- the chain is as before, or longer by a cell which is fair to all and is linked after some process's head
abbrev pub GrowFairly : {S I R : Type 0} → WorldOf S I R → (num : Name → ℕ) (last : ℕ) (num' : Name → ℕ) (last' : ℕ) → Type 0
GrowFairly w num last num' last' = IsLonger num last num' last' (λ x. IsFairToAll w num last x × SomeHead w.memory w.n 0 last)

module _ {S I R : Type 0} (object : Sequential S I R) (w : WorldOf S I R) (num : Name → ℕ) (last : ℕ) (sound : IsSound object w num last) (helps : Helps w num last)
    (m : Memory S I R) (num' : Name → ℕ) (last' : ℕ) (grow : GrowFairly w num last num' last') where
  -- what holds of a cell that is linked now
  abbrev pub IsFairLast : Name → Type 0
  IsFairLast x = IsFairToAll w num last x × SomeHead w.memory w.n 0 last

  module _ (rise : (r : ℕ) → r < w.n → head_seq w.memory r ≤ head_seq m r) where
    pub heads_later : (s : ℕ) → num' Anchor ≤ s → s < last' → SomeHead m w.n 0 s
    heads_later s from below =
        let anchor : num' Anchor ≡ num Anchor = anchor_stays num last num' last' IsFairLast grow sound.numbered.first in
        SomeHead-grows w.memory m w.n rise 0 s (elim (below-cases num last num' last' IsFairLast grow s below) [
          | inl before ↦ helps.heads s (omega arith) before
          | inr end ↦ subst (λ k. SomeHead w.memory w.n 0 k) (sym end.0) end.2.1
        ])

  -- a pending call, at its next stage or at the same one
  module _ (q : ℕ) (d : Pending) (pending : w.call q ≡ Some d) (stage : Stage) (turns : ℕ)
      (finds : (s : ℕ) → Finds w.memory w.n d.stage (w.turns q) s → Finds m w.n stage turns s) where
    was : IsHelped w.memory num last w.n q d.mine d.stage (w.turns q)
    was = helps.each q d pending

    unlinked_later : num' d.mine ≡ 0 → (s : ℕ) → s % w.n ≡ q → num' Anchor ≤ s → s < last' → Finds m w.n stage turns s
    unlinked_later none s its_turn from below =
        let anchor : num' Anchor ≡ num Anchor = anchor_stays num last num' last' IsFairLast grow sound.numbered.first in
        let absent : num d.mine ≡ 0 = not_linked_before num last num' last' IsFairLast grow d.mine none in
        finds s (elim (below-cases num last num' last' IsFairLast grow s below) [
          | inl before ↦ was.unlinked absent s its_turn (omega arith) before
          | inr end ↦
              let apart : end.1 ≢ d.mine = (λ same. let new : num' end.1 ≡ last + 1 = end.3 in let zero : num' end.1 ≡ 0 = ap num' same ∙ none in omega arith) in
              subst (λ k. Finds w.memory w.n d.stage (w.turns q) k) (sym end.0)
              ((end.2.0 q d pending).help absent apart (ap (λ k. k % w.n) (sym end.0) ∙ its_turn))
        ])

    -- mine is linked at most n + 1 past a number that the scan finds
    linked_later : (s : ℕ) × Finds m w.n stage turns s × (num' d.mine ≤ s + w.n + 1)
    linked_later = elim (numbers-cases num last num' last' IsFairLast grow d.mine) [
      | inl same ↦ (was.linked.0, finds was.linked.0 was.linked.1, (let near : num d.mine ≤ was.linked.0 + w.n + 1 = was.linked.2 in omega arith))
      | inr new ↦
          let number : num' d.mine ≡ last + 1 = new.1 in
          let k = found_near w.n q (sound.calls.process q d pending) (num Anchor) last (λ s. Finds w.memory w.n d.stage (w.turns q) s) was.anchor (was.unlinked new.0) in
          let near : last ≤ k.0 + w.n = k.2 in
          (k.0, finds k.0 k.1, omega arith)
    ]

    pub IsHelped-later : Announces m q d.mine stage → CountsOwnHead m q stage → IsAhead num' d.mine stage turns → IsHelped m num' last' w.n q d.mine stage turns
    IsHelped-later announce_of own_head ahead = record {
      announced = announce_of;
      own_head = own_head;
      ahead = ahead;
      anchor = finds (num' Anchor) (subst (λ k. Finds w.memory w.n d.stage (w.turns q) k) (sym (anchor_stays num last num' last' IsFairLast grow sound.numbered.first)) was.anchor);
      unlinked = unlinked_later;
      linked = linked_later;
    }

    pub IsFair-later : (stage ≡ Announce → d.stage ≡ Announce) → (s : ℕ) (x : Name) → IsFair w.memory num w.n q d.mine d.stage (w.turns q) s x → IsFair m num' w.n q d.mine stage turns s x
    IsFair-later first s x fair = record {
      unknown = λ e. fair.unknown (first e);
      help = λ none other its_turn. finds s (fair.help (not_linked_before num last num' last' IsFairLast grow d.mine none) other its_turn);
    }

  -- a pending call whose process takes no step
  module _ (grows : Grows w.memory m) (rise : (r : ℕ) → r < w.n → head_seq w.memory r ≤ head_seq m r) (numbers : NumbersGrow w.memory num num')
      (q : ℕ) (d : Pending) (pending : w.call q ≡ Some d) where
    pub Finds-waiting : (s : ℕ) → Finds w.memory w.n d.stage (w.turns q) s → Finds m w.n d.stage (w.turns q) s
    Finds-waiting s found = Finds-grows w.memory m w.n rise grows num q d.mine d.stage (w.turns q) s (sound.stands q d pending) found

    pub IsHelped-waiting : head_of m q ≡ head_of w.memory q → announce_of m q ≡ announce_of w.memory q → IsHelped m num' last' w.n q d.mine d.stage (w.turns q)
    IsHelped-waiting head same =
        let old : IsHelped w.memory num last w.n q d.mine d.stage (w.turns q) = helps.each q d pending in
        let threaded : 1 ≤ head_seq w.memory q = sound.calls.head q (sound.calls.process q d pending) in
        IsHelped-later q d pending d.stage (w.turns q) Finds-waiting
        (Announces-same w.memory m q same d.mine d.stage old.announced)
        (CountsOwnHead-same w.memory m q head (ap (seq_of m) head ∙ grows.seq (head_of w.memory q) threaded) d.stage old.own_head)
        (IsAhead-grows w.memory num num' numbers q threaded d.mine w.n d.stage (w.turns q) (sound.stands q d pending) old.ahead)
