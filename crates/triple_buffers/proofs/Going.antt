-- What a party is after a step.
use Rattle.std.proofs.Common.{get_or}
use Rattle.std.proofs.lemmas.Grind.{get_or_default_zero}
use Rattle.triple_buffers.proofs.Places.{place_inside}
use Rattle.triple_buffers.proofs.Stepping.{value_in}
use Rattle.triple_buffers.proofs.Vocabulary.{Carries, Ends, HasLooked, HasTaken, HasWritten, IsAlone, IsPartyOf, Layout, List, Mine, None, Option, Sight, Some, Step, [], ap, arith, back_slot, get_or-set_other, get_or-set_same, goes, inl, inr, length, length-set, number_cases, refl, rest, settled, slice_index, slice_set, slot_at, subst, sym, with_back, with_front, with_out, word_at, ℕ, ◌%◌, ◌*◌, ◌+◌, ◌<◌, ◌∙◌, ◌∷◌, ◌≡◌, ◌≤◌}
use Rattle.triple_buffers.specs.Parties.{ArePlaces}
use Rattle.triple_buffers.specs.declared.party.Party.{Party}
use Rattle.triple_buffers.specs.declared.rule.Buffers.{Buffers}

pub places_set : (n : ℕ) (places : List ℕ) (k m : ℕ) → ArePlaces n places → k < n → m < 3 → ArePlaces n (slice_set places k m)
places_set n places k m are k_in m_in = record {
  long = length-set places k m ∙ are.long;
  inside = λ j. elim (number_cases j k) [
    | inl same ↦ subst (λ x. x < 3) (sym (ap (λ i. slice_index (slice_set places k m) i) same.0 ∙ get_or-set_same places k m 0 (let l = are.long in omega (arith, k_in)))) m_in
    | inr other ↦ subst (λ x. x < 3) (sym (get_or-set_other places k j m 0 other.0)) (are.inside j)
  ];
}

module _ {T V : Type 0} (layout : Layout) (p : ℕ) (me : Mine T V) (alone : IsAlone layout p me) where
  pub alone_still : (me' : Mine T V) (e : Ends) (w : V) (carried : List (ℕ × Option T)) → me' ≡ (goes me.0 e w, carried) → Carries e.out carried → IsAlone layout p me'
  alone_still me' e w carried is carries = subst (λ (m : Mine T V). IsAlone layout p m) (sym is) (record { layout_is = alone.layout_is; first = alone.first; alone = alone.alone; carries = carries })

pub still : {T V K P : Type 0} (b : Buffers T V K P) (old new : Party T V) → IsPartyOf b old → new.seat.table_id ≡ old.seat.table_id → new.number ≡ old.number → (e : Ends) (w : V) (carried : List (ℕ × Option T))
    → new.seat.me ≡ (goes old.seat.me.0 e w, carried) → Carries e.out carried → e.backs ≡ new.backs.items → e.fronts ≡ new.fronts.items
    → ArePlaces b.setup.layout.parties new.backs.items → ArePlaces b.setup.layout.parties new.fronts.items → IsPartyOf b new
still {T} {V} b old new is table number e w carried me carries backs fronts backs_in fronts_in = record {
  table = table ∙ is.table;
  inside = subst (λ p. p < b.setup.layout.parties) (sym number) is.inside;
  own = subst (λ p. IsAlone b.setup.layout p new.seat.me) (sym number) (alone_still b.setup.layout old.number old.seat.me is.own new.seat.me e w carried me carries);
  backs = ap (λ (m : Mine T V). m.0.ends.backs) me ∙ backs;
  fronts = ap (λ (m : Mine T V). m.0.ends.fronts) me ∙ fronts;
  backs_in = backs_in;
  fronts_in = fronts_in;
}

-- the place that is read of a row
pub place_read : (places : List ℕ) (k x : ℕ) → k < length places → x ≡ get_or places k x → x ≡ slice_index places k
place_read places k x inside is = is ∙ get_or_default_zero places k x inside

-- the seat has one slot, and then it has another value
pub one_held : {T : Type 0} (carried : List (ℕ × Option T)) (k slot : ℕ) (y : Option T) → carried ≡ (k, y) ∷ [] → k ≡ slot → carried ≡ (slot, y) ∷ rest carried
one_held carried k slot y one same = one ∙ (λ i. (same i, y) ∷ rest (sym one i))

pub exchanged_one : {T V : Type 0} (me me' : Mine T V) (v : Sight V) (k slot : ℕ) (y x : Option T) → me ≡ (v, (k, y) ∷ []) → k ≡ slot → me' ≡ (me.0, (slot, x) ∷ rest me.1) → me' ≡ (v, (k, x) ∷ [])
exchanged_one me me' v k slot y x is same told = told ∙ (λ i. ((is i).0, (sym same i, x) ∷ rest (is i).1))

-- a slot that was taken, by whichever names it is told
module _ {T V : Type 0} (layout : Layout) (p : ℕ) (me : Mine T V) (alone : IsAlone layout p me) (other : ℕ) where
  pub of_parties : other < layout.parties → other < me.0.layout.parties
  of_parties inside = subst (λ (l : Layout). other < l.parties) (sym alone.layout_is) inside

  pub of_word_to : (i : ℕ) → i ≡ word_at layout p other → i ≡ word_at me.0.layout me.0.first other
  of_word_to i is = is ∙ (λ k. word_at (sym alone.layout_is k) (sym alone.first k) other)

  pub of_word_from : (i : ℕ) → i ≡ word_at layout other p → i ≡ word_at me.0.layout other me.0.first
  of_word_from i is = is ∙ (λ k. word_at (sym alone.layout_is k) other (sym alone.first k))

pub word_in : (layout : Layout) (from to i : ℕ) → from < layout.parties → to < layout.parties → i ≡ word_at layout from to → (all : ℕ) → all ≡ layout.words + layout.parties * layout.parties → i < all
word_in layout from to i from_in to_in is all wide = let a = place_inside layout from to from_in to_in in omega (arith, is, wide)

-- a party that has put its value into the slot that it took
module _ {T V : Type 0} (layout : Layout) (p : ℕ) (me : Mine T V) (alone : IsAlone layout p me) (to : ℕ) (x : T) where
  abbrev pub ready : Mine T V
  ready = (goes me.0 (with_out me.0.ends (back_slot me to)) me.0.client, (back_slot me to, Some x) ∷ [])

  pub ready_alone : IsAlone layout p ready
  ready_alone = record { layout_is = alone.layout_is; first = alone.first; alone = alone.alone; carries = (Some x, refl) }

  -- the slot that it computes is that one
  pub same_back : (place slot : ℕ) (backs : List ℕ) → me.0.ends.backs ≡ backs → place ≡ slice_index backs to → slot ≡ slot_at layout p to place → back_slot me to ≡ slot
  same_back place slot backs are is slot_is = (λ k. slot_at (alone.layout_is k) (alone.first k) to ((ap (λ (xs : List ℕ). slice_index xs to) are ∙ sym is) k)) ∙ sym slot_is

  pub written_told : (then : V → ℕ → T → V → Type 0) (st : Step (Option T)) (me2 : Mine T V) (found : ℕ) (me3 : Mine T V) → me2 ≡ ready → to < layout.parties → st.word ≡ word_at layout p to → HasWritten then st me2 found me3
      → (w : V) × then me.0.client to x w × (found % 4 < 3) × (me3 ≡ (goes me.0 (settled (with_back (with_out me.0.ends (back_slot me to)) to (found % 4))) w, []))
  written_told then st me2 found me3 now to_in word told =
      let at_ready : HasWritten then st ready found me3 = subst (λ (m : Mine T V). HasWritten then st m found me3) now told in
      at_ready to x (of_parties layout p me alone to to_in) (of_word_to layout p me alone to st.word word) refl

-- a party that has seen that there is a value
module _ {T V : Type 0} (layout : Layout) (p : ℕ) (me : Mine T V) (alone : IsAlone layout p me) (from : ℕ) (from_in : from < layout.parties) (then : V → ℕ → Option T → V → Type 0) where
  pub looked_told : (st : Step (Option T)) (found : ℕ) (me1 : Mine T V) → st.word ≡ word_at layout from p → HasLooked then st me found me1
      → (found < 4 → (w : V) × then me.0.client from None w × (me1 ≡ (goes me.0 (settled me.0.ends) w, []))) × (4 ≤ found → me1 ≡ (goes me.0 (settled me.0.ends) me.0.client, []))
  looked_told st found me1 word told = told from (of_parties layout p me alone from from_in) (of_word_from layout p me alone from st.word word)

  abbrev pub seen : Mine T V
  seen = (goes me.0 (settled me.0.ends) me.0.client, [])

  pub seen_alone : IsAlone layout p seen
  seen_alone = record { layout_is = alone.layout_is; first = alone.first; alone = alone.alone; carries = refl }

  abbrev pub fronts_then : (m : ℕ) → Ends
  fronts_then m = with_front (settled me.0.ends) from m

  abbrev pub slot_then : (m : ℕ) → ℕ
  slot_then m = slot_at me.0.layout from me.0.first m

  pub taken_told : (st : Step (Option T)) (me1 : Mine T V) (found : ℕ) (me2 : Mine T V) → me1 ≡ seen → st.word ≡ word_at layout from p → HasTaken then st me1 found me2
      → (found % 4 < 3) × (found < 4 → (w : V) × then me.0.client from None w × (me2 ≡ (goes me.0 (settled (fronts_then (found % 4))) w, [])))
      × (4 ≤ found → (x : T) × ((w : V) × then me.0.client from (Some x) w × (me2 ≡ (goes me.0 (with_out (fronts_then (found % 4)) (slot_then (found % 4))) w, (slot_then (found % 4), Some x) ∷ []))))
  taken_told st me1 found me2 now word told =
      let at_seen : HasTaken then st seen found me2 = subst (λ (m : Mine T V). HasTaken then st m found me2) now told in
      at_seen from (of_parties layout p me alone from from_in) (of_word_from layout p me alone from st.word word)

  -- the slot that it computes is the one that it took
  pub same_front : (m slot : ℕ) → slot ≡ slot_at layout from p m → slot_then m ≡ slot
  same_front m slot is = (λ k. slot_at (alone.layout_is k) from (alone.first k) m) ∙ sym is

-- what is found in a slot
pub found_in : {T : Type 0} (carried : List (ℕ × Option T)) (k slot : ℕ) (y z : Option T) → carried ≡ (k, y) ∷ [] → carried ≡ (slot, z) ∷ rest carried → y ≡ z
found_in carried k slot y z one told = ap (λ l. value_in l) (sym one ∙ told)
