-- What comes of a node where the pending call of one process takes effect.
use Rattle.std.proofs.lemmas.Option.{get_or_from_slice_get}
use Rattle.lin_check.proofs.Vocabulary.{Call, Done, Event, Fails, Global, Idle, IsFailing, IsReady, Leads, List, Node, None, Open, Passes, Reached, Return, Sequential, Slot, Some, Vec, [], ap, arith, inl, inr, length, length-set, refl, replies_of, slice_get, slice_get_within, slice_set, slot_at, subst, suc, sym, zero, ℕ, ◌++◌, ◌<◌, ◌∙◌, ◌∷◌, ◌≡◌, ◌≢◌}
use Rattle.lin_check.proofs.Standing.{fails_lost, fails_point, fails_shut, fails_unfit, reached_point}

pub slot_past : (slots : List Slot) (q : ℕ) → slice_get slots q ≡ None → slot_at slots q ≡ Idle
slot_past [] q e = refl
slot_past (s ∷ slots) zero e = absurd (let f : Some s ≡ None = e in cc)
slot_past (s ∷ slots) (suc q) e = slot_past slots q e

module _ {S I R : Type 0} (object : Sequential S I R) (history : List (Event I R)) (node : Node S) (q : ℕ) where
  pub fails_beyond : slice_get node.slots.items q ≡ None → IsFailing object history node q
  fails_beyond past = fails_shut object history node.at node.slots.items node.state q (λ c e. (let f : Idle ≡ Open c = sym (slot_past node.slots.items q past) ∙ e in cc))

  module _ (slot : Slot) (at_q : slice_get node.slots.items q ≡ Some slot) where
    slot_is : slot_at node.slots.items q ≡ slot
    slot_is = get_or_from_slice_get node.slots.items q slot Idle at_q

    pub fails_closed : ((c : ℕ) → slot ≢ Open c) → IsFailing object history node q
    fails_closed shut = fails_shut object history node.at node.slots.items node.state q (λ c e. shut c (sym slot_is ∙ e))

    module _ (c : ℕ) (is_open : slot ≡ Open c) where
      open_at : slot_at node.slots.items q ≡ Open c
      open_at = slot_is ∙ is_open

      pub fails_past : slice_get history c ≡ None → IsFailing object history node q
      fails_past past = fails_lost object history node.at node.slots.items node.state q c open_at (λ i e. (let f : None ≡ Some (Call q i) = sym past ∙ e in cc))

      pub fails_other : (p : ℕ) (r : R) → slice_get history c ≡ Some (Return p r) → IsFailing object history node q
      fails_other p r there = fails_lost object history node.at node.slots.items node.state q c open_at (λ i e. (let f : Some (Return p r) ≡ Some (Call q i) = sym there ∙ e in cc))

      module _ (p : ℕ) (i : I) (here : slice_get history c ≡ Some (Call p i)) where
        pub fails_answer : (answer r : R) → answer ≡ object.answer node.state i → slice_get (replies_of history) c ≡ Some (Some r) → answer ≢ r → IsFailing object history node q
        fails_answer answer r is known unfit = fails_unfit object history node.at node.slots.items node.state q c open_at p i here r known (λ e. unfit (is ∙ e))

        within : q < length node.slots.items
        within = slice_get_within node.slots.items q slot at_q

        pub fails_dead : (xs : List Slot) (later : S) → xs ≡ slice_set node.slots.items q Done → later ≡ object.next node.state i → Fails object history node.at xs later → IsFailing object history node q
        fails_dead xs later slots state fails = fails_point object history node.at node.slots.items node.state q c open_at p i here within
            (subst (λ xs. Fails object history node.at xs (object.next node.state i)) slots (subst (λ s. Fails object history node.at xs s) state fails))

        pub leads_to : (new : Vec Slot Global) (later : S) (child : Node S) → Passes object history (record { at = node.at; slots = new; state = later }) child
            → new.items ≡ slice_set node.slots.items q Done → later ≡ object.next node.state i
            → (answer : R) → answer ≡ object.answer node.state i → ((r : R) → slice_get (replies_of history) c ≡ Some (Some r) → answer ≡ r)
            → IsReady history child → length child.slots.items ≡ length new.items
            → Leads object history node q c child
        leads_to new later child passes slots state answer is fits ready many = record {
          fails = λ h. fails_dead new.items later slots state (passes.fails None h);
          reached = λ order h. passes.reached (order ++ c ∷ [])
              (subst (λ s. Reached object history node.at new.items s (order ++ c ∷ [])) (sym state)
              (subst (λ xs. Reached object history node.at xs (object.next node.state i) (order ++ c ∷ [])) (sym slots)
              (reached_point object history node.at node.slots.items node.state q c open_at p i here within (λ r e. sym is ∙ fits r e) order h)));
          ready = ready;
          many = many ∙ (ap length slots ∙ length-set node.slots.items q Done);
          within = elim ready [
            | inl end ↦ (let e : child.at ≡ length history = end in omega arith)
            | inr choice ↦ (let e = slice_get_within history child.at _ choice.here in omega arith)
          ];
        }
