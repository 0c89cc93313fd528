-- A party swaps the slot at its end of a buffer for the one between the ends.
use Rattle.triple_buffers.proofs.Vocabulary.{AreEnds, AreSlots, AreThree, AreWords, Back, Ends, Front, Keeps, Layout, List, None, Option, Side, Some, ap, arith, end_in, end_of, get_elem?, get_or-set_other, get_or-set_same, inl, inr, length, length-set, number_cases, owner, refl, set_at, set_at-cases, slice_index, slice_set, slot_at, some, subst, sym, with_back, with_front, with_value, word_at, word_of, ℕ, ◌<◌, ◌∙◌, ◌≡◌, ◌≢◌, ◌⊎◌}
use mathlib.Core.Option as maybe
use Rattle.triple_buffers.proofs.Places.{place_inside, same_word}
use Rattle.triple_buffers.proofs.Settling.{none_is_none}

-- what there is of one party for another, after one of them changed
pub value_cases : {A : Type 0} (h : ℕ → ℕ → A) (f t : ℕ) (x : A) (g u : ℕ) → ((g ≡ f) × (u ≡ t) × (with_value h f t x g u ≡ x)) ⊎ ((g ≡ f → u ≡ t → ⊥) × (with_value h f t x g u ≡ h g u))
value_cases h f t x g u = elim (set_at-cases h f (set_at (h f) t x) g) [
  | inl here ↦ elim (set_at-cases (h f) t x u) [
    | inl both ↦ inl (here.0, both.0, ap (λ row. row u) here.1 ∙ both.1)
    | inr other ↦ inr ((λ a b. other.0 b), ap (λ row. row u) here.1 ∙ other.1 ∙ ap (λ i. h i u) (sym here.0))
  ]
  | inr other ↦ inr ((λ a b. other.0 a), ap (λ row. row u) other.1)
]

abbrev pub with_end : Side → Ends → (f t place : ℕ) → Ends
with_end Back e f t place = with_back e t place
with_end Front e f t place = with_front e f place

end_in_with : (side : Side) (e : Ends) (f t m : ℕ) → t < length e.backs → f < length e.fronts → (s : Side) (g u : ℕ) → owner s g u ≡ owner side f t
    → ((s ≡ side) × (g ≡ f) × (u ≡ t) × (end_in (with_end side e f t m) s g u ≡ m)) ⊎ ((s ≡ side → g ≡ f → u ≡ t → ⊥) × (end_in (with_end side e f t m) s g u ≡ end_in e s g u))
end_in_with Back e f t m t_in f_in Back g u own = elim (number_cases u t) [
  | inl same ↦ inl (refl, own, same.0, ap (λ i. slice_index (slice_set e.backs t m) i) same.0 ∙ get_or-set_same e.backs t m 0 t_in)
  | inr other ↦ inr ((λ a b c. other.0 c), get_or-set_other e.backs t u m 0 other.0)
]
end_in_with Back e f t m t_in f_in Front g u own = inr ((λ s b c. (let x : Front ≡ Back = s in cc)), refl)
end_in_with Front e f t m t_in f_in Back g u own = inr ((λ s b c. (let x : Back ≡ Front = s in cc)), refl)
end_in_with Front e f t m t_in f_in Front g u own = elim (number_cases g f) [
  | inl same ↦ inl (refl, same.0, own, ap (λ i. slice_index (slice_set e.fronts f m) i) same.0 ∙ get_or-set_same e.fronts f m 0 f_in)
  | inr other ↦ inr ((λ a b c. other.0 b), get_or-set_other e.fronts f g m 0 other.0)
]

long_backs : (side : Side) (e : Ends) (f t m : ℕ) → length (with_end side e f t m).backs ≡ length e.backs
long_backs Back e f t m = length-set e.backs t m
long_backs Front e f t m = refl

long_fronts : (side : Side) (e : Ends) (f t m : ℕ) → length (with_end side e f t m).fronts ≡ length e.fronts
long_fronts Back e f t m = refl
long_fronts Front e f t m = length-set e.fronts f m

module _ (layout : Layout) (ends : ℕ → Ends) (middle : ℕ → ℕ → ℕ) (are : AreEnds layout ends middle) (p : ℕ) (p_in : p < layout.parties) (side : Side) (f t : ℕ) (f_in : f < layout.parties) (t_in : t < layout.parties)
    (mine : owner side f t ≡ p) (none_was : (ends p).out ≡ None) (e : Ends) (is : e ≡ with_end side (ends p) f t (middle f t)) where
  abbrev k : ℕ
  k = end_of ends side f t

  abbrev later : ℕ → Ends
  later = set_at ends p e

  abbrev pub between_later : ℕ → ℕ → ℕ
  between_later = with_value middle f t k

  end_later : (s : Side) (g u : ℕ) → ((s ≡ side) × (g ≡ f) × (u ≡ t) × (end_of later s g u ≡ middle f t)) ⊎ ((s ≡ side → g ≡ f → u ≡ t → ⊥) × (end_of later s g u ≡ end_of ends s g u))
  end_later s g u = elim (set_at-cases ends p e (owner s g u)) [
    | inl here ↦
        let now : end_of later s g u ≡ end_in (with_end side (ends p) f t (middle f t)) s g u = ap (λ z. end_in z s g u) (here.1 ∙ is) in
        elim (end_in_with side (ends p) f t (middle f t) (subst (λ n. t < n) (sym (are.backs p p_in)) t_in) (subst (λ n. f < n) (sym (are.fronts p p_in)) f_in) s g u (here.0 ∙ sym mine)) [
          | inl all ↦ inl (all.0, all.1, all.2, now ∙ all.3)
          | inr other ↦ inr (other.0, now ∙ other.1 ∙ ap (λ q. end_in (ends q) s g u) (sym here.0))
        ]
    | inr other ↦ inr ((λ a b c. other.0 ((λ i. owner (a i) (b i) (c i)) ∙ mine)), ap (λ z. end_in z s g u) other.1)
  ]

  three_same : (g u : ℕ) → (g ≡ f → u ≡ t → ⊥) → between_later g u ≡ middle g u → AreThree ends middle g u → AreThree later between_later g u
  three_same g u apart middle_is three = record {
    middle_in = subst (λ j. j < 3) (sym middle_is) three.middle_in;
    end_inside = λ s. subst (λ j. j < 3) (sym (end_is s)) (three.end_inside s);
    apart = λ s same. three.apart s (sym (end_is s) ∙ same ∙ middle_is);
    both = λ same. three.both (sym (end_is Back) ∙ same ∙ end_is Front);
  } where
    end_is : (s : Side) → end_of later s g u ≡ end_of ends s g u
    end_is s = elim (end_later s g u) [ inl all ↦ absurd (apart all.1 all.2) | inr other ↦ other.1 ]

  three_here : between_later f t ≡ k → AreThree ends middle f t → AreThree later between_later f t
  three_here middle_is three = record {
    middle_in = subst (λ j. j < 3) (sym middle_is) (three.end_inside side);
    end_inside = λ s. elim (end_is s) [ inl h ↦ subst (λ j. j < 3) (sym h.1) three.middle_in | inr h ↦ subst (λ j. j < 3) (sym h.1) (three.end_inside s) ];
    apart = λ s same. elim (end_is s) [ inl h ↦ three.apart side (sym (sym h.1 ∙ same ∙ middle_is)) | inr h ↦ crossed s side h.0 (sym h.1 ∙ same ∙ middle_is) ];
    both = λ same. elim (end_is Back) [
      | inl b ↦ elim (end_is Front) [ inl f ↦ (let x : Back ≡ Front = b.0 ∙ sym f.0 in absurd cc) | inr f ↦ three.apart Front (sym (sym b.1 ∙ same ∙ f.1)) ]
      | inr b ↦ elim (end_is Front) [ inl f ↦ three.apart Back (sym b.1 ∙ same ∙ f.1) | inr f ↦ three.both (sym b.1 ∙ same ∙ f.1) ]
    ];
  } where
    end_is : (s : Side) → ((s ≡ side) × (end_of later s f t ≡ middle f t)) ⊎ ((s ≢ side) × (end_of later s f t ≡ end_of ends s f t))
    end_is s = elim (end_later s f t) [ inl all ↦ inl (all.0, all.3) | inr other ↦ inr ((λ same. other.0 same refl refl), other.1) ]

    crossed : (a b : Side) → a ≢ b → end_of ends a f t ≡ end_of ends b f t → ⊥
    crossed Back Back n e = n refl
    crossed Back Front n e = three.both e
    crossed Front Back n e = three.both (sym e)
    crossed Front Front n e = n refl

  pub ends_flipped : AreEnds layout later between_later
  ends_flipped = record {
    three = λ g u g_in u_in. elim (value_cases middle f t k g u) [
      | inl here ↦ subst (λ i. AreThree later between_later i u) (sym here.0) (subst (λ i. AreThree later between_later f i) (sym here.1) (three_here (ap (λ i. between_later i t) (sym here.0) ∙ ap (λ i. between_later g i) (sym here.1) ∙ here.2) (are.three f t f_in t_in)))
      | inr other ↦ three_same g u other.0 other.1 (are.three g u g_in u_in)
    ];
    backs = λ q q_in. elim (set_at-cases ends p e q) [
      | inl here ↦ ap (λ z. length z.backs) (here.1 ∙ is) ∙ long_backs side (ends p) f t (middle f t) ∙ ap (λ q. length (ends q).backs) (sym here.0) ∙ are.backs q q_in
      | inr other ↦ ap (λ z. length z.backs) other.1 ∙ are.backs q q_in
    ];
    fronts = λ q q_in. elim (set_at-cases ends p e q) [
      | inl here ↦ ap (λ z. length z.fronts) (here.1 ∙ is) ∙ long_fronts side (ends p) f t (middle f t) ∙ ap (λ q. length (ends q).fronts) (sym here.0) ∙ are.fronts q q_in
      | inr other ↦ ap (λ z. length z.fronts) other.1 ∙ are.fronts q q_in
    ];
    out = λ q j q_in out. elim (set_at-cases ends p e q) [
      | inl here ↦ absurd (none_is_none _ (sym (out_none) ∙ ap (λ z. z.out) (sym here.1) ∙ out))
      | inr other ↦
          let h = are.out q j q_in (ap (λ z. z.out) (sym other.1) ∙ out) in
          record {
            side = h.side;
            from = h.from;
            to = h.to;
            from_in = h.from_in;
            to_in = h.to_in;
            mine = h.mine;
            slot_is = h.slot_is ∙ ap (λ i. slot_at layout h.from h.to i) (elim (end_later h.side h.from h.to) [
              | inl all ↦ absurd (other.0 (sym h.mine ∙ (λ i. owner (all.0 i) (all.1 i) (all.2 i)) ∙ mine))
              | inr same ↦ sym same.1
            ]);
          }
    ];
  } where
    out_kept : (s : Side) → (with_end s (ends p) f t (middle f t)).out ≡ (ends p).out
    out_kept Back = refl
    out_kept Front = refl

    out_none : e.out ≡ None
    out_none = ap (λ z. z.out) is ∙ out_kept side ∙ none_was

  module _ {T : Type 0} (buffers : ℕ → ℕ → Option T) (v : Option T) where
    pub words_flipped : (words : ℕ → ℕ) (all : List ℕ) → AreWords layout middle words buffers all → AreWords layout between_later words (with_value buffers f t v) (slice_set all (word_at layout f t) (word_of v k))
    words_flipped words all was = record {
      wide = length-set all (word_at layout f t) (word_of v k) ∙ was.wide;
      client = λ i i_in. get_or-set_other all (word_at layout f t) i (word_of v k) 0 (λ same. omega (arith, i_in, same)) ∙ was.client i i_in;
      buffer = λ g u g_in u_in. elim (value_cases middle f t k g u) [
        | inl here ↦ elim (value_cases buffers f t v g u) [
          | inl both ↦
              ap (λ i. slice_index (slice_set all (word_at layout f t) (word_of v k)) i) (λ i. word_at layout (here.0 i) (here.1 i))
              ∙ get_or-set_same all (word_at layout f t) (word_of v k) 0 (let a = place_inside layout f t f_in t_in in let b = was.wide in omega arith)
              ∙ (λ i. word_of (sym both.2 i) (sym here.2 i))
          | inr other ↦ absurd (other.0 here.0 here.1)
        ]
        | inr other ↦ elim (value_cases buffers f t v g u) [
          | inl both ↦ absurd (other.0 both.0 both.1)
          | inr apart ↦ get_or-set_other all (word_at layout f t) (word_at layout g u) (word_of v k) 0 (λ same. let both = same_word layout g u f t g_in f_in same in other.0 both.1 both.0)
              ∙ was.buffer g u g_in u_in ∙ (λ i. word_of (sym apart.1 i) (sym other.1 i))
        ]
      ];
    }

    pub slots_flipped : (homes : List (maybe.Option (Option T))) → AreSlots layout ends middle buffers homes → (y : Option T) → get_elem? homes (slot_at layout f t k) ≡ some (some y) → Keeps v y
        → AreSlots layout later between_later (with_value buffers f t v) homes
    slots_flipped homes was y there keeps = record {
      many = was.many;
      between = λ g u g_in u_in. elim (value_cases middle f t k g u) [
        | inl here ↦ elim (value_cases buffers f t v g u) [
          | inl both ↦ (y, ap (λ i. get_elem? homes i) (λ i. slot_at layout (here.0 i) (here.1 i) (here.2 i)) ∙ there, subst (λ (z : Option T). Keeps z y) (sym both.2) keeps)
          | inr other ↦ absurd (other.0 here.0 here.1)
        ]
        | inr other ↦ elim (value_cases buffers f t v g u) [
          | inl both ↦ absurd (other.0 both.0 both.1)
          | inr apart ↦ (let z = was.between g u g_in u_in in (z.0, ap (λ i. get_elem? homes (slot_at layout g u i)) other.1 ∙ z.1, subst (λ (x : Option T). Keeps x z.0) (sym apart.1) z.2))
        ]
      ];
      at_end = λ s g u g_in u_in away. elim (end_later s g u) [
        | inl all ↦ (let z = was.between f t f_in t_in in (z.0, ap (λ i. get_elem? homes i) (λ i. slot_at layout (all.1 i) (all.2 i) (all.3 i)) ∙ z.1))
        | inr same ↦
            let z = was.at_end s g u g_in u_in (λ out. elim (set_at-cases ends p e (owner s g u)) [
              | inl here ↦ none_is_none _ (sym none_was ∙ ap (λ q. (ends q).out) (sym here.0) ∙ out)
              | inr other ↦ away (ap (λ z. z.out) other.1 ∙ out ∙ ap (λ i. Some (slot_at layout g u i)) (sym same.1))
            ]) in
            (z.0, ap (λ i. get_elem? homes (slot_at layout g u i)) same.1 ∙ z.1)
      ];
    }
