-- Among one process every call takes one turn, in every world that is reached.
use Rattle.uni_model.proofs.Vocabulary.{Announce, AreAccepted, Call, CountsSteps, Event, Invariant, IsAccepted, IsCounted, IsSome, List, Memory, Name, None, Of, Option, Pending, Reshape, Sequential, Some, Stage, Step, TakesOneTurn, Trim, WorldOf, [], after_of, anchor_memory, ap, arith, content_after, false, inl, inr, last_cell, memory_with, new_of, opened_world, option_map, option_map_or, place_of, refl, seq_of, set_at, stage_after, subst, sym, true, turn_of, world_after, world_after_all, world_after_call, world_after_era, ℕ, ◌*◌, ◌+◌, ◌<◌, ◌∙◌, ◌∷◌, ◌≡◌, ◌≤◌}
use Rattle.uni_model.proofs.Written.{number_cases, set_at-cases}
use Rattle.uni_model.proofs.LawProofs.{set_at_elsewhere, CountsSteps-reached}
use Rattle.uni_model.proofs.Begun.{not_linked}
use Rattle.uni_model.proofs.Kept.{Invariant-opened_world, Invariant-world_after, idle_when_quiescent}
use Rattle.uni_model.proofs.Counted.{CountsSteps-opened_world, CountsSteps-world_after}
use Rattle.uni_model.proofs.Solo.{set_at_here, world_at, at_here, stepped}
use Rattle.uni_model.proofs.Sole.{IsSole, IsSoleCall, one_turn, moves}

record Sole {S I R : Type 0} (w : WorldOf S I R) : Type 0 where
  one : w.n ≡ 1 → IsSoleCall w.memory (w.call 0) (w.turns 0)
  returned : (p : ℕ) → w.call p ≡ None → 1 ≤ w.begun p → w.among p ≡ 1 → w.turns p ≡ 1

module _ {S I R : Type 0} (object : Sequential S I R) where
  -- a step
  module _ (w : WorldOf S I R) (p : ℕ) (mine : Name) (k : Stage) (is : w.call p ≡ Some (record { mine = mine; stage = k })) (sole : Sole w) (invariant : Invariant object w) (counts : CountsSteps w) where
    inside : p < w.n
    inside = invariant.2.calls.process p (record { mine = mine; stage = k }) is

    among : w.among p ≡ w.n
    among = (subst (λ o. IsCounted w.n o (w.begun p) (w.among p) (w.steps p) (w.turns p)) is (counts p)).0

    at_zero : w.n ≡ 1 → p ≡ 0
    at_zero one = let i = inside in omega arith

    its_facts : w.n ≡ 1 → IsSole w.memory mine k (w.turns 0) × (after_of w.memory mine ≡ None)
    its_facts one = subst (λ o. IsSoleCall w.memory o (w.turns 0)) (ap w.call (sym (at_zero one)) ∙ is) (sole.one one)

    abbrev written : ℕ → Memory S I R
    written q = memory_with w.memory (place_of w.n q mine k) (content_after object mine k (w.memory (place_of w.n q mine k)) w.memory)

    abbrev then_at : ℕ → Option Stage
    then_at q = stage_after w.n mine k (w.memory (place_of w.n q mine k))

    abbrev count : ℕ → ℕ
    count q = w.turns q + turn_of k (w.memory (place_of w.n q mine k))

    after_one : w.n ≡ 1 → IsSoleCall (written p) (set_at w.call p (option_map (λ x. record { mine = mine; stage = x }) (then_at p)) 0) (set_at w.turns p (count p) 0)
    after_one one =
        subst (λ q. IsSoleCall (written q) (set_at w.call q (option_map (λ x. record { mine = mine; stage = x }) (then_at q)) 0) (set_at w.turns q (count q) 0)) (sym (at_zero one))
        (moves object w.memory w.n mine (w.turns 0) one (invariant.2.calls.head 0 (omega arith)) (its_facts one).1 k (its_facts one).0)

    ended : (o : Option Stage) (c : Option Pending) → c ≡ option_map (λ x. record { mine = mine; stage = x }) o → c ≡ None → o ≡ None
    ended None c e f = refl
    ended (Some x) c e f = absurd (let g : Some (record { mine = mine; stage = x }) ≡ c = sym e in cc)

    last_turn : w.n ≡ 1 → then_at p ≡ None → count p ≡ 1
    last_turn one none =
        subst (λ q. then_at q ≡ None → count q ≡ 1) (sym (at_zero one)) (λ e. one_turn w.memory w.n mine k (w.memory (place_of w.n 0 mine k)) (w.turns 0) (its_facts one).0 e) none

    sole_at : (steps : ℕ) → Sole (world_at w p mine (written p) (then_at p) (count p) steps)
    sole_at steps = record {
      one = after_one;
      returned = λ r none called alone. elim (number_cases r p) [
        | inl same ↦
            let here : set_at w.call p (option_map (λ x. record { mine = mine; stage = x }) (then_at p)) p ≡ None = ap (set_at w.call p (option_map (λ x. record { mine = mine; stage = x }) (then_at p))) (sym same.0) ∙ none in
            let over : then_at p ≡ None = ended (then_at p) (set_at w.call p (option_map (λ x. record { mine = mine; stage = x }) (then_at p)) p) (set_at_here w.call p _) here in
            let one : w.n ≡ 1 = sym among ∙ ap w.among (sym same.0) ∙ alone in
            ap (set_at w.turns p (count p)) same.0 ∙ set_at_here w.turns p (count p) ∙ last_turn one over
        | inr other ↦ set_at_elsewhere w.turns p (count p) r other.0 ∙ sole.returned r (sym (set_at_elsewhere w.call p _ r other.0) ∙ none) called alone
      ];
    }

    sole_step : Sole (world_after object w (Step p))
    sole_step =
        let goes = stepped object w p mine w w.memory k (w.turns p) (at_here w p mine k (w.turns p) is refl) (written p) (then_at p) (count p) refl refl refl in
        subst (λ x. Sole x) (sym goes.1.1) (sole_at goes.1.0)

  -- a call that is begun
  sole_call : (w : WorldOf S I R) (p : ℕ) (i : I) → p < w.n → w.call p ≡ None → Sole w → Invariant object w → Sole (world_after_call w p i)
  sole_call w p i inside idle sole invariant = record { one = begins; returned = others } where
    unlinked : seq_of w.memory (Of p (w.begun p)) ≡ 0
    unlinked = elim (number_cases (seq_of w.memory (Of p (w.begun p))) 0) [
      | inl none ↦ none.0
      | inr some ↦ absurd (
          let apart = some.0 in
          let number : seq_of w.memory (Of p (w.begun p)) ≡ invariant.0 (Of p (w.begun p)) = invariant.2.numbered.seq (Of p (w.begun p)) (omega arith) in
          let zero = not_linked object w invariant.0 invariant.1 invariant.2 p i inside idle in
          omega arith)
    ]

    last : after_of w.memory (Of p (w.begun p)) ≡ None
    last = by_after (after_of w.memory (Of p (w.begun p))) refl where
      by_after : (o : Option Name) → after_of w.memory (Of p (w.begun p)) ≡ o → o ≡ None
      by_after None e = refl
      by_after (Some y) e = absurd (
          let linked = (invariant.2.numbered.link (Of p (w.begun p)) y e).0 in
          let zero = not_linked object w invariant.0 invariant.1 invariant.2 p i inside idle in
          omega arith)

    begins : w.n ≡ 1 → IsSoleCall (world_after_call w p i).memory ((world_after_call w p i).call 0) ((world_after_call w p i).turns 0)
    begins one =
        let zero : p ≡ 0 = omega arith in
        let c : Pending = record { mine = Of p (w.begun p); stage = Announce } in
        subst (λ o. IsSoleCall (world_after_call w p i).memory o ((world_after_call w p i).turns 0)) (sym (ap (set_at w.call p (Some c)) (sym zero) ∙ set_at_here w.call p (Some c))) (
          record {
            count = ap (set_at w.turns p 0) (sym zero) ∙ set_at_here w.turns p 0;
            end = subst (λ o. IsSoleCall w.memory o (w.turns 0)) (ap w.call (sym zero) ∙ idle) (sole.one one);
            seq = unlinked;
          },
          last,
        )

    others : (r : ℕ) → (world_after_call w p i).call r ≡ None → 1 ≤ (world_after_call w p i).begun r → (world_after_call w p i).among r ≡ 1 → (world_after_call w p i).turns r ≡ 1
    others r none called alone =
        let c : Pending = record { mine = Of p (w.begun p); stage = Announce } in
        elim (set_at-cases w.call p (Some c) r) [
          | inl same ↦ absurd (let e : Some c ≡ None = sym same.1 ∙ none in cc)
          | inr other ↦ set_at_elsewhere w.turns p 0 r other.0
              ∙ sole.returned r (sym other.1 ∙ none) (let e : set_at w.begun p (w.begun p + 1) r ≡ w.begun r = set_at_elsewhere w.begun p (w.begun p + 1) r other.0 in omega arith) (sym (set_at_elsewhere w.among p w.n r other.0) ∙ alone)
        ]

  -- the end of an era
  sole_era : (w : WorldOf S I R) (n : ℕ) → ((p : ℕ) → w.call p ≡ None) → Sole w → Sole (world_after_era w n)
  sole_era w n idle sole = by_new (new_of w.memory (last_cell w)) where
    by_new : (o : Option (S × Option R)) → Sole (option_map_or (λ new. record w { n = n; first = w.begun; memory = anchor_memory new.0 (seq_of w.memory (last_cell w)) }) o w)
    by_new None = sole
    by_new (Some new) = record {
      one = λ e. subst (λ o. IsSoleCall (anchor_memory {S = S} {I = I} {R = R} new.0 (seq_of w.memory (last_cell w))) o (w.turns 0)) (sym (idle 0)) refl;
      returned = sole.returned;
    }

  sole_after : (w : WorldOf S I R) (e : Event I) → IsAccepted w e → Sole w → Invariant object w → CountsSteps w → Sole (world_after object w e)
  sole_after w (Call p i) ok sole invariant counts = sole_call w p i ok.0 ok.1 sole invariant
  sole_after w (Step p) ok sole invariant counts = by_call (w.call p) refl where
    by_call : (o : Option Pending) → w.call p ≡ o → Sole (world_after object w (Step p))
    by_call None e = absurd (let f : false ≡ true = subst (λ o. IsSome o) e ok in cc)
    by_call (Some c) e = sole_step w p c.mine c.stage e sole invariant counts
  sole_after w Trim ok sole invariant counts = sole_era w w.n (idle_when_quiescent object w invariant.0 invariant.1 invariant.2 ok) sole
  sole_after w (Reshape n) ok sole invariant counts = sole_era w n (idle_when_quiescent object w invariant.0 invariant.1 invariant.2 ok.0) sole

  sole_along : (w : WorldOf S I R) (es : List (Event I)) → AreAccepted object w es → Sole w → Invariant object w → CountsSteps w → Sole (world_after_all object w es)
  sole_along w [] ok sole invariant counts = sole
  sole_along w (e ∷ es) ok sole invariant counts =
      sole_along (world_after object w e) es ok.1 (sole_after w e ok.0 sole invariant counts) (Invariant-world_after object w e ok.0 invariant) (CountsSteps-world_after object w e ok.0 invariant counts)

  sole_opened : (n : ℕ) (start : S) (number : ℕ) → Sole (opened_world {I = I} {R = R} n start number)
  sole_opened n start number = record { one = λ e. refl; returned = λ p none called alone. absurd (let z : 1 ≤ 0 = called in omega arith) }

  pub TakesOneTurn-holds : (w : WorldOf S I R) (p : ℕ) → TakesOneTurn object w p
  TakesOneTurn-holds w p reached over called alone =
      let sole = sole_along (opened_world reached.n reached.start reached.number) reached.events reached.accepted (sole_opened reached.n reached.start reached.number)
      (Invariant-opened_world object reached.n reached.start reached.number reached.positive) (CountsSteps-opened_world object reached.n reached.start reached.number) in
      let turns : w.turns p ≡ 1 = (subst (λ x. Sole x) reached.reached sole).returned p over called alone in
      let steps : w.steps p ≡ 2 * w.among p + 4 + 8 * w.turns p
      = (subst (λ o. IsCounted w.n o (w.begun p) (w.among p) (w.steps p) (w.turns p)) over (CountsSteps-reached object w reached p)) called in
      (turns, (let a = alone in omega arith))
