-- Where no call is pending each call of the era has a number.
use Rattle.uni_model.proofs.Vocabulary.{Anchor, IsQuiescent, IsSound, Name, Of, Sequential, WorldOf, arith, calls_in_era, inl, inr, subst, suc, zero, ℕ, ◌+◌, ◌<◌, ◌≡◌, ◌≤◌}
use Rattle.uni_model.proofs.Kept.{idle_when_quiescent}

module _ {S I R : Type 0} (object : Sequential S I R) (w : WorldOf S I R) (num : Name → ℕ) (last : ℕ) (sound : IsSound object w num last) (quiet : IsQuiescent w) where
  linked_when_quiescent : (p k : ℕ) → w.first p ≤ k → k < w.begun p → 1 ≤ num (Of p k)
  linked_when_quiescent p k since before = elim (sound.calls.threaded p k (sound.calls.made p k since before)) [
    | inl threaded ↦ subst (λ t. 1 ≤ t) (sound.numbered.seq (Of p k) threaded) threaded
    | inr pending ↦ absurd (let idle = idle_when_quiescent object w num last sound quiet p in let some = pending.1 in cc)
  ]

  -- the cell of its jth call of the era has at least the number of the anchor and j
  number_of_call : (p j : ℕ) → j < calls_in_era w p → num Anchor + j + 1 ≤ num (Of p (w.first p + j))
  number_of_call p zero below =
      let linked : 1 ≤ num (Of p (w.first p + 0)) = linked_when_quiescent p (w.first p + 0) (omega arith) (omega arith) in
      let least : num Anchor ≤ num (Of p (w.first p + 0)) = sound.numbered.least (Of p (w.first p + 0)) linked in
      let positive : 1 ≤ num Anchor = sound.numbered.first in
      past least (λ same. let e : Anchor ≡ Of p (w.first p + 0) = sound.numbered.one_each Anchor (Of p (w.first p + 0)) positive same in cc) where
        past : num Anchor ≤ num (Of p (w.first p + 0)) → (num Anchor ≡ num (Of p (w.first p + 0)) → ⊥) → num Anchor + 0 + 1 ≤ num (Of p (w.first p + 0))
        past least apart = omega (arith, least, apart)
  number_of_call p (suc j) below =
      let before : num Anchor + j + 1 ≤ num (Of p (w.first p + j)) = number_of_call p j (omega arith) in
      let linked : 1 ≤ num (Of p (w.first p + j)) = omega arith in
      let next : 1 ≤ num (Of p (w.first p + suc j)) = linked_when_quiescent p (w.first p + suc j) (omega arith) (omega arith) in
      let rises : num (Of p (w.first p + j)) < num (Of p (w.first p + suc j)) = sound.calls.order p (w.first p + j) (w.first p + suc j) (omega arith) linked next in
      omega arith

  -- so a process has made no more calls in the era than the numbers have risen
  pub calls_numbered : (p : ℕ) → num Anchor + calls_in_era w p ≤ last
  calls_numbered p = by_count (calls_in_era w p) (λ j below. number_of_call p j below) where
    by_count : (c : ℕ) → ((j : ℕ) → j < c → num Anchor + j + 1 ≤ num (Of p (w.first p + j))) → num Anchor + c ≤ last
    by_count zero each = let greatest : num Anchor ≤ last = sound.numbered.greatest Anchor in omega arith
    by_count (suc c) each =
        let at_least : num Anchor + c + 1 ≤ num (Of p (w.first p + c)) = each c (omega arith) in
        let greatest : num (Of p (w.first p + c)) ≤ last = sound.numbered.greatest (Of p (w.first p + c)) in
        omega arith
