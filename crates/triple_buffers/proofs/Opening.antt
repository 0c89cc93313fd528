-- How the table starts, and how the first party is cut off.
use Rattle.triple_buffers.proofs.Vocabulary.{AllowsSplit, Back, Contents, Ends, Fits, Front, IsSmall, Layout, List, None, Option, ShowsContents, Side, Sight, Tells, [], ap, arith, at_map, at_set, client_of, first_alone, first_ends, first_sight, get_elem?, inl, inr, length, length-replicate, length-set, map, map-set, opening, others, refl, replicate, set, set_at, set_at_elsewhere, set_at_same, slice_index, slot_at, some, some-injective, some-ne-none, subst, suc, sym, zero, ℕ, ◌*◌, ◌++◌, ◌+◌, ◌<◌, ◌∙◌, ◌∷◌, ◌≡◌, ◌≤◌}
use Rattle.atomic_table.specs.Table.{Splits, opening as starting}
use Rattle.std.proofs.lemmas.List.{map-append}
use Rattle.uni_model.proofs.Each.{at_end}
use Rattle.triple_buffers.proofs.Places.{place_inside}
use Rattle.triple_buffers.proofs.Settling.{none_is_none}

copies : (n i a : ℕ) → i < n → slice_index (replicate n a) i ≡ a
copies zero i a inside = absurd (omega arith)
copies (suc n) zero a inside = refl
copies (suc n) (suc i) a inside = copies n i a (omega arith)

zeros : (n i : ℕ) → slice_index (replicate n 0) i ≡ 0
zeros zero i = refl
zeros (suc n) zero = refl
zeros (suc n) (suc i) = zeros n i

blank : {T : Type 0} (n i : ℕ) → i < n → get_elem? (map some (replicate {A = Option T} n None)) i ≡ some (some None)
blank zero i inside = absurd (omega arith)
blank (suc n) zero inside = refl
blank (suc n) (suc i) inside = blank n i (omega arith)

length_somes : {A : Type 0} (xs : List A) → length (map some xs) ≡ length xs
length_somes [] = refl
length_somes (x ∷ xs) = ap suc (length_somes xs)

module _ {T V : Type 0} (layout : Layout) (holds : Contents T V → Type 0) where
  pub opens_so : (v : V) → IsSmall layout → holds (opening v)
      → ShowsContents layout holds (starting (replicate (layout.words + layout.parties * layout.parties) 0) (replicate (3 * (layout.parties * layout.parties)) None) (first_sight layout v))
  opens_so v small kept = (
    opening v,
    kept,
    (
      (λ p. first_ends layout),
      (
        (λ f t. 0),
        (
          (λ p. 0),
          record {
            small = small;
            ends_are = record {
              three = λ f t f_in t_in. record {
                middle_in = omega arith;
                end_inside = λ side. end_in' f t f_in t_in side;
                apart = λ side same. end_apart f t f_in t_in side same;
                both = λ same. (let a = copies layout.parties t 1 t_in in let b = copies layout.parties f 2 f_in in omega (arith, same));
              };
              backs = λ p p_in. length-replicate layout.parties 1;
              fronts = λ p p_in. length-replicate layout.parties 2;
              out = λ p k p_in out. absurd (none_is_none k out);
            };
            words_are = record {
              wide = length-replicate (layout.words + layout.parties * layout.parties) 0;
              client = λ i i_in. zeros (layout.words + layout.parties * layout.parties) i;
              buffer = λ f t f_in t_in. zeros (layout.words + layout.parties * layout.parties) (layout.words + t * layout.parties + f);
            };
            slots_are = record {
              many = length_somes (replicate {A = Option T} (3 * (layout.parties * layout.parties)) None) ∙ length-replicate (3 * (layout.parties * layout.parties)) None;
              between = λ f t f_in t_in. (None, blank (3 * (layout.parties * layout.parties)) (slot_at layout f t 0) (inside f t 0 f_in t_in (omega arith)), tt);
              at_end = λ side f t f_in t_in away. (None, blank (3 * (layout.parties * layout.parties)) (slot_at layout f t (end' side f t)) (inside f t (end' side f t) f_in t_in (end_in' f t f_in t_in side)));
            };
            seats = seats';
            clients = refl;
          },
        ),
      ),
    ),
  ) where
    end' : Side → (f t : ℕ) → ℕ
    end' side f t = end_of' side f t where
      end_of' : Side → (f t : ℕ) → ℕ
      end_of' Back f t = slice_index (replicate layout.parties 1) t
      end_of' Front f t = slice_index (replicate layout.parties 2) f

    inside : (f t k : ℕ) → f < layout.parties → t < layout.parties → k < 3 → slot_at layout f t k < 3 * (layout.parties * layout.parties)
    inside f t k f_in t_in k_in = let a = place_inside layout f t f_in t_in in omega (arith, k_in)

    end_in' : (f t : ℕ) → f < layout.parties → t < layout.parties → (side : Side) → end' side f t < 3
    end_in' f t f_in t_in Back = (let a = copies layout.parties t 1 t_in in omega arith)
    end_in' f t f_in t_in Front = (let b = copies layout.parties f 2 f_in in omega arith)

    end_apart : (f t : ℕ) → f < layout.parties → t < layout.parties → (side : Side) → end' side f t ≡ 0 → ⊥
    end_apart f t f_in t_in Back same = (let a = copies layout.parties t 1 t_in in omega (arith, same))
    end_apart f t f_in t_in Front same = (let b = copies layout.parties f 2 f_in in omega (arith, same))

    seats' : (id : ℕ) (u : Sight V) → get_elem? (first_sight layout v ∷ []) id ≡ some u → Tells layout (λ p. first_ends layout) (λ p. 0) id u
    seats' zero u e = subst (λ (z : Sight V). Tells layout (λ p. first_ends layout) (λ p. 0) 0 z) (some-injective _ u e) (record { layout_is = refl; each = λ p from below. ((omega (arith, below)), refl, refl) })
    seats' (suc id) u e = absurd (some-ne-none u (sym e))

  pub splits : (id : ℕ) (v : Sight V) (left right : V) → 1 ≤ v.count → AllowsSplit holds id v.client left right → Splits {S = Option T} (ShowsContents layout holds) id v (others v left) (first_alone v right)
  splits id v left right some_left allows s shown at =
      let c = shown.0 in
      let ends = shown.2.0 in
      let middle = shown.2.1.0 in
      let seat_of = shown.2.1.1.0 in
      let fits = shown.2.1.1.1 in
      let client_at : get_elem? c.views id ≡ some v.client = ap (λ vs. get_elem? vs id) fits.clients ∙ at_map client_of s.views id v at in
      let kept = allows c shown.1 client_at in (
        record { words = c.words; buffers = c.buffers; views = set c.views id left ++ right ∷ [] },
        kept,
        (
          ends,
          (
            middle,
            (
              set_at seat_of v.first (length s.views),
              record {
                small = fits.small;
                ends_are = fits.ends_are;
                words_are = fits.words_are;
                slots_are = fits.slots_are;
                seats = seats_later c ends middle seat_of fits;
                clients = ap (λ vs. set vs id left ++ right ∷ []) fits.clients ∙ ap (λ vs. vs ++ right ∷ []) (sym (map-set client_of s.views id (others v left))) ∙ sym (map-append client_of (set s.views id (others v left)) (first_alone v right ∷ []));
              },
            ),
          ),
        ),
      ) where
        seats_later : (c : Contents T V) (ends : ℕ → Ends) (middle : ℕ → ℕ → ℕ) (seat_of : ℕ → ℕ) → Fits layout c ends middle seat_of s → (j : ℕ) (u : Sight V) → get_elem? (set s.views id (others v left) ++ first_alone v right ∷ []) j ≡ some u
            → Tells layout ends (set_at seat_of v.first (length s.views)) j u
        seats_later c ends middle seat_of fits j u e =
            let told = fits.seats id v at in
            elim (at_end (set s.views id (others v left)) (first_alone v right) u j e) [
              | inr last ↦ subst (λ (z : Sight V). Tells layout ends (set_at seat_of v.first (length s.views)) j z) last.1 (record {
                layout_is = told.layout_is;
                each = λ q from below.
                    let here : q ≡ v.first = omega (arith, from, below) in
                    let its = told.each v.first (omega arith) (omega (arith, some_left)) in (
                      subst (λ k. k < layout.parties) (sym here) its.0,
                      ap (set_at seat_of v.first (length s.views)) here ∙ set_at_same seat_of v.first (length s.views) ∙ sym (last.0 ∙ length-set s.views id (others v left)),
                      ap ends here ∙ its.2,
                    );
              })
              | inl old ↦ elim (at_set s.views id j (others v left) u old) [
                | inl mine ↦ subst (λ (z : Sight V). Tells layout ends (set_at seat_of v.first (length s.views)) j z) mine.1 (record {
                  layout_is = told.layout_is;
                  each = λ q from below.
                      let its = told.each q (omega (arith, from)) (omega (arith, below, some_left)) in (
                        its.0,
                        set_at_elsewhere seat_of v.first (length s.views) q (λ same. omega (arith, same, from)) ∙ its.1 ∙ sym mine.0,
                        its.2,
                      );
                })
                | inr other ↦
                    let theirs = fits.seats j u other.1 in
                    record {
                      layout_is = theirs.layout_is;
                      each = λ q from below.
                          let its = theirs.each q from below in (
                            its.0,
                            set_at_elsewhere seat_of v.first (length s.views) q (λ same.
                                let first = told.each v.first (omega arith) (omega (arith, some_left)) in
                                other.0 (sym its.1 ∙ ap seat_of same ∙ first.1)) ∙ its.1,
                            its.2,
                          );
                    }
              ]
            ]
