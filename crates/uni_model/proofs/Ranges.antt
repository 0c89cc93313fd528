-- Which cells a world with the invariant names, and how great its numbers are.
use Rattle.uni_model.proofs.Vocabulary.{Anchor, Has, IsSound, Name, Of, Sequential, Some, WorldOf, after_of, announce_of, arith, before_of, era_calls, head_of, inl, inr, inv_of, refl, seq_of, subst, suc, sum_below, sym, zero, ℕ, ◌*◌, ◌+◌, ◌<◌, ◌≡◌, ◌≤◌, ◌⊎◌}
use Rattle.uni_model.proofs.Simulation.{enough}

pub sum_below-bound : (n bound : ℕ) (f : ℕ → ℕ) → ((p : ℕ) → f p ≤ bound) → sum_below n f ≤ n * bound
sum_below-bound zero bound f each = omega arith
sum_below-bound (suc n) bound f each =
    let rest : sum_below n f ≤ n * bound = sum_below-bound n bound f each in
    let here : f n ≤ bound = each n in
    omega arith

module _ {S I R : Type 0} (object : Sequential S I R) (w : WorldOf S I R) (num : Name → ℕ) (last : ℕ) (sound : IsSound object w num last) where
  -- the cell is the anchor, or that of a call that was begun
  abbrev pub IsMade : Name → Type 0
  IsMade x = (x ≡ Anchor) ⊎ Has (inv_of w.memory x)

  pub linked_cell : (x : Name) → 1 ≤ num x → IsMade x
  linked_cell Anchor h = inl refl
  linked_cell (Of p k) h = inr (sound.calls.linked p k h)

  pub threaded_cell : (x : Name) → 1 ≤ seq_of w.memory x → IsMade x
  threaded_cell x h = linked_cell x (subst (λ t. 1 ≤ t) (sound.numbered.seq x h) h)

  pub announced_cell : (p : ℕ) → p < w.n → IsMade (announce_of w.memory p)
  announced_cell p inside = elim (sound.calls.announced p inside) [
    | inl anchor ↦ inl anchor
    | inr cell ↦ inr (subst (λ x. Has (inv_of w.memory x)) (sym cell.1) cell.2)
  ]

  pub head_cell : (p : ℕ) → p < w.n → IsMade (head_of w.memory p)
  head_cell p inside = threaded_cell (head_of w.memory p) (sound.calls.head p inside)

  pub after_cell : (x y : Name) → after_of w.memory x ≡ Some y → IsMade y
  after_cell x y e = let link = sound.numbered.link x y e in let next = link.1 in linked_cell y (omega arith)

  pub before_cell : (x y : Name) → before_of w.memory y ≡ Some x → IsMade x
  before_cell x y e = let link = sound.numbered.link x y (sound.back.link x y e) in linked_cell x link.0

  -- a number is at most the anchor's and one for each call that was begun
  pub number_bound : (x : Name) → num x ≤ seq_of w.memory Anchor + era_calls w
  number_bound x =
      let top : num x ≤ last = sound.numbered.greatest x in
      let all : last ≤ num Anchor + era_calls w = enough object w num last sound in
      let anchor : num Anchor ≡ seq_of w.memory Anchor = sound.numbered.anchor in
      omega arith

  pub seq_bound : (x : Name) → seq_of w.memory x ≤ seq_of w.memory Anchor + era_calls w
  seq_bound x = by_number (seq_of w.memory x) refl where
    by_number : (t : ℕ) → seq_of w.memory x ≡ t → t ≤ seq_of w.memory Anchor + era_calls w
    by_number zero e = omega arith
    by_number (suc t) e =
        let is_num : seq_of w.memory x ≡ num x = sound.numbered.seq x (let f = e in omega arith) in
        let top = number_bound x in
        omega arith
