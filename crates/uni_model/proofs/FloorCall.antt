-- A call that is begun keeps the floor of another one; the step that announces a call gives it its floor.
use Rattle.uni_model.proofs.Vocabulary.{Announce, Helps, IsFairToAll, IsSound, Name, Of, OfConsidered, Pending, Sequential, Some, SomeHead, WorldOf, ap, arith, cases_lt, frontier, greatest_below, head_seq, inl, inr, le-max_left, le-max_right, max, set_at, subst, suc, world_after_call, zero, ℕ, ◌+◌, ◌<◌, ◌∙◌, ◌≡◌, ◌≤◌}
use Rattle.uni_model.proofs.Floored.{IsBelowFloor, Waits, HasFloor, IsAnnounced}
use Rattle.uni_model.proofs.Written.{number_cases}
use Rattle.uni_model.proofs.Helped.{OfConsidered-map}

pub le-greatest_below : (n : ℕ) (f : ℕ → ℕ) (r : ℕ) → r < n → f r ≤ greatest_below n f
le-greatest_below zero f r below = absurd (omega arith)
le-greatest_below (suc n) f r below =
    let left : greatest_below n f ≤ max (greatest_below n f) (f n) = le-max_left (greatest_below n f) (f n) in
    let right : f n ≤ max (greatest_below n f) (f n) = le-max_right (greatest_below n f) (f n) in
    elim (cases_lt r n) [
      | inl before ↦ let rest : f r ≤ greatest_below n f = le-greatest_below n f r before in omega arith
      | inr not_before ↦ let same : n ≡ r = omega arith in subst (λ s. f s ≤ max (greatest_below n f) (f n)) same right
    ]

-- a number that some head has isn't past the frontier
SomeHead-le : {S I R : Type 0} (w : WorldOf S I R) (s : ℕ) → SomeHead w.memory w.n 0 s → s ≤ frontier w
SomeHead-le w s head =
    let most : head_seq w.memory head.0 ≤ greatest_below w.n (head_seq w.memory) = le-greatest_below w.n (head_seq w.memory) head.0 head.2 in
    let number : s ≤ head_seq w.memory head.0 = head.3 in
    omega arith

module _ {S I R : Type 0} (object : Sequential S I R) (w : WorldOf S I R) (num : Name → ℕ) (last : ℕ) (sound : IsSound object w num last) (helps : Helps w num last) where
  -- just before the step that announces a call the frontier is its floor
  module _ (p k : ℕ) (is : w.call p ≡ Some (record { mine = Of p k; stage = Announce })) where
    waits : Waits w num last p (Of p k) (frontier w)
    waits =
        let helped = helps.each p (record { mine = Of p k; stage = Announce }) is in
        record {
          anchor = SomeHead-le w _ helped.anchor;
          unlinked = λ none s its_turn least below. SomeHead-le w s (helped.unlinked none s its_turn least below);
          fair = λ o d pending. OfConsidered-map d.stage (λ s y. IsFairToAll w num s y) _ (λ s y fair none other its_turn. SomeHead-le w s ((fair p (record { mine = Of p k; stage = Announce }) is).help none other its_turn)) (helps.fair o d pending);
        }

    pub HasFloor-announced : HasFloor w num last p k (frontier w)
    HasFloor-announced =
        let helped = helps.each p (record { mine = Of p k; stage = Announce }) is in
        let its = sound.calls.mine p (record { mine = Of p k; stage = Announce }) is in
        let found : helped.linked.0 ≤ frontier w = SomeHead-le w helped.linked.0 helped.linked.1 in
        let near : num (Of p k) ≤ helped.linked.0 + w.n + 1 = helped.linked.2 in
        record {
          begun = (let same : Of p k ≡ Of p its.0 = its.1 in let nth : k ≡ its.0 = (let e = same in cc) in let more : w.begun p ≡ its.0 + 1 = its.2 in omega arith);
          linked = omega arith;
          waits = λ c e same. waits;
        }

module _ {S I R : Type 0} (w : WorldOf S I R) (num : Name → ℕ) (last : ℕ) (p : ℕ) (i : I) (q k floor : ℕ) (has : HasFloor w num last q k floor) where
  -- the new cell is another one
  was_pending : (c : Pending) → set_at w.call p (Some (record { mine = Of p (w.begun p); stage = Announce })) q ≡ Some c → c.mine ≡ Of q k → w.call q ≡ Some c
  was_pending c e its = elim (number_cases q p) [
    | inl here ↦ absurd (
        let new : record { mine = Of p (w.begun p); stage = Announce } ≡ c = (let f = rw here.1 at e in cc) in
        let same : Of p (w.begun p) ≡ Of q k = ap (λ (x : Pending). x.mine) new ∙ its in
        let nth : w.begun p ≡ k = (let f = same in cc) in
        let begun : w.begun q ≡ w.begun p = ap w.begun here.0 in
        let below : k < w.begun q = has.begun in
        omega arith)
    | inr other ↦ rw other.1 at e
  ]

  Waits-begun : Waits w num last q (Of q k) floor → Waits (world_after_call w p i) num last q (Of q k) floor
  Waits-begun waits = record {
    anchor = waits.anchor;
    unlinked = waits.unlinked;
    fair = λ o d e. elim (number_cases o p) [
      | inl here ↦
          let new : record { mine = Of p (w.begun p); stage = Announce } ≡ d = (let f = rw here.1 at e in cc) in
          subst (λ (y : Pending). OfConsidered y.stage (IsBelowFloor num w.n q (Of q k) floor)) new tt
      | inr other ↦ waits.fair o d (rw other.1 at e)
    ];
  }

  pub HasFloor-begun : HasFloor (world_after_call w p i) num last q k floor
  HasFloor-begun = record {
    begun = elim (number_cases q p) [
      | inl here ↦ rw here.1 (let below : k < w.begun q = has.begun in let begun : w.begun q ≡ w.begun p = ap w.begun here.0 in omega arith)
      | inr other ↦ rw other.1 has.begun
    ];
    linked = has.linked;
    waits = λ c e its. Waits-begun (has.waits c (was_pending c e its) its);
  }

  pub IsAnnounced-begun : IsAnnounced w q k → IsAnnounced (world_after_call w p i) q k
  IsAnnounced-begun announce_of c e its = announce_of c (was_pending c e its) its
