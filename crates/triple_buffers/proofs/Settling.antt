-- A slot comes home, or is taken: what lies at the other places stays.
use Rattle.triple_buffers.proofs.Vocabulary.{AreEnds, AreSlots, Back, Carries, Ends, Front, HasOut, Layout, List, None, Option, Some, Side, ap, arith, end_in, end_of, get_elem?, inl, inr, length, length-set, none, number_cases, owner, put_back, refl, set_at, set_at-cases, set_at_same, set_else, set_here, slice_index, slice_set, slot_at, some, subst, sym, ℕ, ◌<◌, ◌∙◌, ◌≡◌, ◌≢◌, ◌⊎◌}
use mathlib.Core.Option as maybe
use Rattle.triple_buffers.proofs.Places.{place_inside, same_slot}

pub none_is_none : {A : Type 0} (x : A) → None ≢ Some x
none_is_none x e = (let f : None ≡ Some x = e in cc)

pub some_same : (a b : ℕ) → Some a ≡ Some b → a ≡ b
some_same a b e = cc

-- one side of a buffer, or the other
pub side_cases : (a b : Side) → (a ≡ b) ⊎ (a ≢ b)
side_cases Back Back = inl refl
side_cases Back Front = inr (λ e. (let f : Back ≡ Front = e in cc))
side_cases Front Back = inr (λ e. (let f : Front ≡ Back = e in cc))
side_cases Front Front = inl refl

pub end_in_same : (a b : Ends) → a.backs ≡ b.backs → a.fronts ≡ b.fronts → (side : Side) (f t : ℕ) → end_in a side f t ≡ end_in b side f t
end_in_same a b backs fronts Back f t = ap (λ xs. slice_index xs t) backs
end_in_same a b backs fronts Front f t = ap (λ xs. slice_index xs f) fronts

module _ (layout : Layout) (ends : ℕ → Ends) (middle : ℕ → ℕ → ℕ) (p : ℕ) (e : Ends) (backs : e.backs ≡ (ends p).backs) (fronts : e.fronts ≡ (ends p).fronts) where
  abbrev later : ℕ → Ends
  later = set_at ends p e

  pub same_end : (side : Side) (f t : ℕ) → end_of later side f t ≡ end_of ends side f t
  same_end side f t = elim (set_at-cases ends p e (owner side f t)) [
    | inl here ↦ ap (λ z. end_in z side f t) here.1 ∙ end_in_same e (ends p) backs fronts side f t ∙ ap (λ q. end_in (ends q) side f t) (sym here.0)
    | inr other ↦ ap (λ z. end_in z side f t) other.1
  ]

  pub ends_kept : ((k : ℕ) → e.out ≡ Some k → HasOut layout ends p k) → AreEnds layout ends middle → AreEnds layout later middle
  ends_kept has are = record {
    three = λ f t f_in t_in.
        let three = are.three f t f_in t_in in
        record {
          middle_in = three.middle_in;
          end_inside = λ side. subst (λ k. k < 3) (sym (same_end side f t)) (three.end_inside side);
          apart = λ side same. three.apart side (sym (same_end side f t) ∙ same);
          both = λ same. three.both (sym (same_end Back f t) ∙ same ∙ same_end Front f t);
        };
    backs = λ q q_in. elim (set_at-cases ends p e q) [
      | inl here ↦ ap (λ z. length z.backs) here.1 ∙ ap (λ xs. length xs) backs ∙ ap (λ q. length (ends q).backs) (sym here.0) ∙ are.backs q q_in
      | inr other ↦ ap (λ z. length z.backs) other.1 ∙ are.backs q q_in
    ];
    fronts = λ q q_in. elim (set_at-cases ends p e q) [
      | inl here ↦ ap (λ z. length z.fronts) here.1 ∙ ap (λ xs. length xs) fronts ∙ ap (λ q. length (ends q).fronts) (sym here.0) ∙ are.fronts q q_in
      | inr other ↦ ap (λ z. length z.fronts) other.1 ∙ are.fronts q q_in
    ];
    out = λ q k q_in is. moved q k (elim (set_at-cases ends p e q) [
      | inl here ↦ subst (λ z. HasOut layout ends z k) (sym here.0) (has k (ap (λ z. z.out) (sym here.1) ∙ is))
      | inr other ↦ are.out q k q_in (ap (λ z. z.out) (sym other.1) ∙ is)
    ]);
  } where
    moved : (q k : ℕ) → HasOut layout ends q k → HasOut layout later q k
    moved q k h = record {
      side = h.side;
      from = h.from;
      to = h.to;
      from_in = h.from_in;
      to_in = h.to_in;
      mine = h.mine;
      slot_is = h.slot_is ∙ ap (λ j. slot_at layout h.from h.to j) (sym (same_end h.side h.from h.to));
    }

  module _ {T : Type 0} (buffers : ℕ → ℕ → Option T) (are : AreEnds layout ends middle) where
    -- no slot between the ends of a buffer is at an end
    pub between_else : (f t : ℕ) → f < layout.parties → t < layout.parties → (k : ℕ) → HasOut layout ends p k → slot_at layout f t (middle f t) ≢ k
    between_else f t f_in t_in k h same =
        let three = are.three f t f_in t_in in
        let its = are.three h.from h.to h.from_in h.to_in in
        let both = same_slot layout f t (middle f t) h.from h.to (end_of ends h.side h.from h.to) f_in h.from_in three.middle_in (its.end_inside h.side) (same ∙ h.slot_is) in
        its.apart h.side (sym both.2 ∙ (λ k. middle (both.1 k) (both.0 k)))

    module _ (homes : List (maybe.Option (Option T))) (slots : AreSlots layout ends middle buffers homes) where
      -- whichever slot a party had out, it is at home again
      pub slots_settled : e.out ≡ None → (p_in : p < layout.parties) (carried : List (ℕ × Option T)) → Carries (ends p).out carried → AreSlots layout later middle buffers (put_back homes carried)
      slots_settled none_out p_in carried has = by (ends p).out refl has where
        none_before : (ends p).out ≡ None → AreSlots layout later middle buffers homes
        none_before none_was = record {
          many = slots.many;
          between = slots.between;
          at_end = λ side f t f_in t_in away.
              let y = slots.at_end side f t f_in t_in (λ was. elim (set_at-cases ends p e (owner side f t)) [
                | inl here ↦ none_is_none _ (sym none_was ∙ ap (λ q. (ends q).out) (sym here.0) ∙ was)
                | inr other ↦ away (ap (λ z. z.out) other.1 ∙ was ∙ ap (λ j. Some (slot_at layout f t j)) (sym (same_end side f t)))
              ]) in
              (y.0, ap (λ j. get_elem? homes (slot_at layout f t j)) (same_end side f t) ∙ y.1);
        }

        one_before : (k : ℕ) → (ends p).out ≡ Some k → (y : Option T) → AreSlots layout later middle buffers (slice_set homes k (some y))
        one_before k was y =
            let h = are.out p k p_in was in
            let inside : k < length homes =
            let three = are.three h.from h.to h.from_in h.to_in in
            let a = three.end_inside h.side in
            let b = place_inside layout h.from h.to h.from_in h.to_in in
            (let m = slots.many in let i = h.slot_is in omega arith) in
            record {
              many = length-set homes k (some y) ∙ slots.many;
              between = λ f t f_in t_in.
                  let z = slots.between f t f_in t_in in
                  (z.0, set_else homes k (slot_at layout f t (middle f t)) (some y) (between_else f t f_in t_in k h) ∙ z.1, z.2);
              at_end = λ side f t f_in t_in away.
                  let j = slot_at layout f t (end_of ends side f t) in
                  let there = ap (λ i. get_elem? (slice_set homes k (some y)) (slot_at layout f t i)) (same_end side f t) in
                  elim (number_cases j k) [
                    | inl same ↦ (y, there ∙ ap (λ i. get_elem? (slice_set homes k (some y)) i) same.0 ∙ set_here homes k (some y) inside)
                    | inr apart ↦
                        let z = slots.at_end side f t f_in t_in (λ out. elim (set_at-cases ends p e (owner side f t)) [
                          | inl here ↦ apart.0 (some_same j k (sym out ∙ ap (λ q. (ends q).out) here.0 ∙ was))
                          | inr other ↦ away (ap (λ z. z.out) other.1 ∙ out ∙ ap (λ j. Some (slot_at layout f t j)) (sym (same_end side f t)))
                        ]) in
                        (z.0, there ∙ set_else homes k j (some y) apart.0 ∙ z.1)
                  ];
            }

        by : (out : Option ℕ) → (ends p).out ≡ out → Carries out carried → AreSlots layout later middle buffers (put_back homes carried)
        by None was empty = subst (λ c. AreSlots layout later middle buffers (put_back homes c)) (sym empty) (none_before was)
        by (Some k) was one = subst (λ c. AreSlots layout later middle buffers (put_back homes c)) (sym one.1) (one_before k was one.0)

      -- a party with no slot out takes one at an end of its own
      module _ (side : Side) (f t : ℕ) (f_in : f < layout.parties) (t_in : t < layout.parties) (mine : owner side f t ≡ p) (none_was : (ends p).out ≡ None) where
        abbrev pub slot : ℕ
        slot = slot_at layout f t (end_of ends side f t)

        pub has_out : HasOut layout ends p slot
        has_out = record { side = side; from = f; to = t; from_in = f_in; to_in = t_in; mine = mine; slot_is = refl }

        pub at_home : (y : Option T) × (get_elem? homes slot ≡ some (some y))
        at_home = slots.at_end side f t f_in t_in (λ out. none_is_none _ (sym none_was ∙ ap (λ q. (ends q).out) (sym mine) ∙ out))

        pub slots_taken : e.out ≡ Some slot → AreSlots layout later middle buffers (slice_set homes slot none)
        slots_taken out = record {
          many = length-set homes slot none ∙ slots.many;
          between = λ g u g_in u_in.
              let z = slots.between g u g_in u_in in
              (z.0, set_else homes slot (slot_at layout g u (middle g u)) none (between_else g u g_in u_in slot has_out) ∙ z.1, z.2);
          at_end = λ end g u g_in u_in away.
              let j = slot_at layout g u (end_of ends end g u) in
              let here = same_end end g u in
              let apart : j ≢ slot = (λ same. away (
              ap (λ z. z.out) (ap later (mine_too end g u g_in u_in same)) ∙ ap (λ z. z.out) (set_at_same ends p e) ∙ out ∙ ap Some (sym same) ∙ ap (λ i. Some (slot_at layout g u i)) (sym here))) in
              let z = slots.at_end end g u g_in u_in (λ was. elim (set_at-cases ends p e (owner end g u)) [
                | inl same ↦ none_is_none _ (sym none_was ∙ ap (λ q. (ends q).out) (sym same.0) ∙ was)
                | inr other ↦ away (ap (λ z. z.out) other.1 ∙ was ∙ ap (λ i. Some (slot_at layout g u i)) (sym here))
              ]) in
              (z.0, ap (λ i. get_elem? (slice_set homes slot none) (slot_at layout g u i)) here ∙ set_else homes slot j none apart ∙ z.1);
        } where
          mine_too : (end : Side) (g u : ℕ) → g < layout.parties → u < layout.parties → slot_at layout g u (end_of ends end g u) ≡ slot → owner end g u ≡ p
          mine_too end g u g_in u_in same =
              let both = same_slot layout g u (end_of ends end g u) f t (end_of ends side f t) g_in f_in ((are.three g u g_in u_in).end_inside end) ((are.three f t f_in t_in).end_inside side) same in
              elim (side_cases end side) [
                | inl same_side ↦ (λ k. owner (same_side k) (both.1 k) (both.0 k)) ∙ mine
                | inr other ↦ absurd (crossed end side other (both.2 ∙ (λ k. end_of ends side (sym both.1 k) (sym both.0 k))))
              ] where
                crossed : (a b : Side) → a ≢ b → end_of ends a g u ≡ end_of ends b g u → ⊥
                crossed Back Back n e = n refl
                crossed Back Front n e = (are.three g u g_in u_in).both e
                crossed Front Back n e = (are.three g u g_in u_in).both (sym e)
                crossed Front Front n e = n refl
