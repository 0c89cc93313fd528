-- Each step of a party alone is allowed, where the caller's rule allows it.
use Rattle.triple_buffers.proofs.Vocabulary.{AllowsChange, AllowsTake, AllowsWrite, Allows, AreEnds, AreSlots, AreWords, Back, Carries, Contents, Ends, Fits, Front, HasLooked, HasOpened, HasOut, HasStepped, HasTaken, HasWritten, IsAlone, Keeps, Layout, List, Mine, None, Option, ShowsContents, Sight, Some, State, Tells, [], ap, arith, at_map, at_set, back_slot, chain, client_of, end_of, get_elem?, get_or-set_other, get_or-set_same, gives, goes, inl, inr, length, length-set, lt_cases, map, map-set, none, put_back, refl, rest, set, set-get_or, set_at, set_at-cases, set_at_elsewhere, set_at_same, set_here, settled, slice_index, slice_set, slot_at, some, step, subst, sym, takes, with_back, with_front, with_out, with_value, word_at, word_of, ℕ, ⊎_elim, ◌%◌, ◌+◌, ◌<◌, ◌∙◌, ◌∷◌, ◌≡◌, ◌≢◌, ◌≤◌}
use Rattle.atomic_table.proofs.Lists.{set_again}
use Rattle.triple_buffers.proofs.Flipping.{between_later, ends_flipped, slots_flipped, value_cases, with_end, words_flipped}
use Rattle.triple_buffers.proofs.Places.{place_inside, same_word}
use Rattle.triple_buffers.proofs.Settling.{at_home, ends_kept, has_out, none_is_none, slots_settled, slots_taken}
use mathlib.Core.Option as maybe

pub none_left : {T : Type 0} (out : Option ℕ) (carried : List (ℕ × Option T)) → Carries out carried → rest carried ≡ []
none_left None carried empty = ap rest empty
none_left (Some k) carried one = ap rest one.1

-- a word tells the slot between the ends, and whether there is a value
word_middle : {T : Type 0} (v : Option T) (m : ℕ) → m < 3 → word_of v m % 4 ≡ m
word_middle None m inside = omega arith
word_middle (Some x) m inside = omega arith

word_none : {T : Type 0} (v : Option T) (m : ℕ) → word_of v m < 4 → v ≡ None
word_none None m few = refl
word_none (Some x) m few = absurd (omega arith)

word_some : {T : Type 0} (v : Option T) (m : ℕ) → m < 3 → 4 ≤ word_of v m → (x : T) × (v ≡ Some x)
word_some None m inside many = absurd (omega arith)
word_some (Some x) m inside many = (x, refl)

abbrev pub value_in : {T : Type 0} → List (ℕ × Option T) → Option T
value_in [] = None
value_in (x ∷ xs) = x.1

-- buffers that have the same values
module _ {T : Type 0} (layout : Layout) (ends : ℕ → Ends) (middle : ℕ → ℕ → ℕ) (buffers after : ℕ → ℕ → Option T) (same : (g u : ℕ) → after g u ≡ buffers g u) where
  words_alike : (words : ℕ → ℕ) (all : List ℕ) → AreWords layout middle words buffers all → AreWords layout middle words after all
  words_alike words all are = record { wide = are.wide; client = are.client; buffer = λ g u g_in u_in. are.buffer g u g_in u_in ∙ ap (λ v. word_of v (middle g u)) (sym (same g u)) }

  slots_alike : (homes : List (maybe.Option (Option T))) → AreSlots layout ends middle buffers homes → AreSlots layout ends middle after homes
  slots_alike homes are = record {
    many = are.many;
    between = λ g u g_in u_in. (let z = are.between g u g_in u_in in (z.0, z.1, subst (λ v. Keeps v z.0) (sym (same g u)) z.2));
    at_end = are.at_end;
  }

emptied : {T : Type 0} (buffers : ℕ → ℕ → Option T) (f t : ℕ) → buffers f t ≡ None → (g u : ℕ) → with_value buffers f t None g u ≡ buffers g u
emptied buffers f t none_there g u = elim (value_cases buffers f t None g u) [
  | inl here ↦ here.2 ∙ sym none_there ∙ (λ i. buffers (sym here.0 i) (sym here.1 i))
  | inr other ↦ other.1
]

module _ {T V : Type 0} (layout : Layout) (holds : Contents T V → Type 0) (id p : ℕ) (me : Mine T V) (alone : IsAlone layout p me) where
  module _ (s : State (Option T) (Sight V)) (c : Contents T V) (ends : ℕ → Ends) (middle : ℕ → ℕ → ℕ) (seat_of : ℕ → ℕ) (fits : Fits layout c ends middle seat_of s) (at : get_elem? s.views id ≡ some me.0) where
    tells : Tells layout ends seat_of id me.0
    tells = fits.seats id me.0 at

    own : (p < layout.parties) × (seat_of p ≡ id) × (ends p ≡ me.0.ends)
    own = tells.each p (let a = alone.first in omega arith) (let a = alone.first in let b = alone.alone in omega arith)

    client_at : get_elem? c.views id ≡ some me.0.client
    client_at = ap (λ vs. get_elem? vs id) fits.clients ∙ at_map client_of s.views id me.0 at

    carried : Carries (ends p).out me.1
    carried = subst (λ e. Carries e.out me.1) (sym own.2) alone.carries

    seats_later : (later : ℕ → Ends) (e : Ends) (w : V) → later p ≡ e → ((q : ℕ) → q ≢ p → later q ≡ ends q) → (j : ℕ) (u : Sight V) → get_elem? (set s.views id (goes me.0 e w)) j ≡ some u → Tells layout later seat_of j u
    seats_later later e w here else_same j u at_j = ⊎_elim
        (λ (h : (j ≡ id) × (goes me.0 e w ≡ u)).
        subst (λ (z : Sight V). Tells layout later seat_of j z) h.1 (record {
          layout_is = tells.layout_is;
          each = λ q from below.
              let is : q ≡ p = (let a = alone.first in let b = alone.alone in omega (arith, from, below)) in (
                subst (λ k. k < layout.parties) (sym is) own.0,
                ap seat_of is ∙ own.1 ∙ sym h.0,
                ap later is ∙ here,
              );
        }))
        (λ (h : (j ≢ id) × (get_elem? s.views j ≡ some u)).
        let theirs = fits.seats j u h.1 in
        record {
          layout_is = theirs.layout_is;
          each = λ q from below.
              let one = theirs.each q from below in
              let apart : q ≢ p = (λ same. h.0 (sym one.1 ∙ ap seat_of same ∙ own.1)) in (
                one.0,
                one.1,
                else_same q apart ∙ one.2,
              );
        })
        (at_set s.views id j (goes me.0 e w) u at_j)

    clients_later : (e : Ends) (w : V) → set c.views id w ≡ map client_of (set s.views id (goes me.0 e w))
    clients_later e w = ap (λ vs. set vs id w) fits.clients ∙ sym (map-set client_of s.views id (goes me.0 e w))

    clients_same : (e : Ends) → c.views ≡ map client_of (set s.views id (goes me.0 e me.0.client))
    clients_same e = sym (set_again c.views id me.0.client client_at) ∙ clients_later e me.0.client

    -- the slot that it had out is at home
    abbrev home : ℕ → Ends
    home = set_at ends p (settled me.0.ends)

    home_is : home p ≡ settled me.0.ends
    home_is = set_at_same ends p (settled me.0.ends)

    backs_home : (settled me.0.ends).backs ≡ (ends p).backs
    backs_home = ap (λ z. z.backs) (sym own.2)

    fronts_home : (settled me.0.ends).fronts ≡ (ends p).fronts
    fronts_home = ap (λ z. z.fronts) (sym own.2)

    ends_home : AreEnds layout home middle
    ends_home = ends_kept layout ends middle p (settled me.0.ends) backs_home fronts_home (λ k out. absurd (none_is_none k out)) fits.ends_are

    slots_home : AreSlots layout home middle c.buffers (put_back s.homes me.1)
    slots_home = slots_settled layout ends middle p (settled me.0.ends) backs_home fronts_home c.buffers fits.ends_are s.homes fits.slots_are refl own.0 me.1 carried

    -- an end of a buffer of its own
    back_is : (to : ℕ) → end_of home Back p to ≡ slice_index me.0.ends.backs to
    back_is to = ap (λ z. slice_index z.backs to) home_is

    front_is : (from : ℕ) → end_of home Front from p ≡ slice_index me.0.ends.fronts from
    front_is from = ap (λ z. slice_index z.fronts from) home_is

    own_slot : (to : ℕ) → slot_at layout p to (end_of home Back p to) ≡ back_slot me to
    own_slot to = (λ k. slot_at (sym alone.layout_is k) (sym alone.first k) to (back_is to k))

    stays : (all : List ℕ) (i : ℕ) → slice_set all i (slice_index all i) ≡ all
    stays all i = set-get_or all i 0

    elsewhere : (e : Ends) (q : ℕ) → q ≢ p → set_at home p e q ≡ ends q
    elsewhere e q apart = set_at_elsewhere home p e q apart ∙ set_at_elsewhere ends p (settled me.0.ends) q apart

  -- a step on a word of the caller's
  pub steps : (slots i : ℕ) (f : ℕ → ℕ) (first second : ℕ) (then : (first second : ℕ) → V → ℕ → V → Type 0) → i < layout.words → AllowsChange holds id me.0.client i f (then first second me.0.client)
      → Allows (ShowsContents layout holds) slots id me i f (HasStepped then (step slots i first second none) me)
  steps slots i f first second then i_in allows s shown many at below =
      let c = shown.0 in
      let ends = shown.2.0 in
      let middle = shown.2.1.0 in
      let seat_of = shown.2.1.1.0 in
      let fits = shown.2.1.1.1 in
      let on = allows c shown.1 (client_at s c ends middle seat_of fits at) in
      let e = settled me.0.ends in
      let found : slice_index s.words i ≡ c.words i = fits.words_are.client i i_in in (
        goes me.0 e on.0,
        gives,
        tt,
        (
          record { words = set_at c.words i (f (c.words i)); buffers = c.buffers; views = slice_set c.views id on.0 },
          on.1,
          (
            home s c ends middle seat_of fits at,
            (
              middle,
              (
                seat_of,
                record {
                  small = fits.small;
                  ends_are = ends_home s c ends middle seat_of fits at;
                  words_are = record {
                    wide = length-set s.words i (f (slice_index s.words i)) ∙ fits.words_are.wide;
                    client = λ j j_in. elim (set_at-cases c.words i (f (c.words i)) j) [
                      | inl here ↦ ap (λ k. slice_index (slice_set s.words i (f (slice_index s.words i))) k) here.0 ∙ get_or-set_same s.words i (f (slice_index s.words i)) 0 (let w = fits.words_are.wide in omega arith) ∙ ap f found ∙ sym here.1
                      | inr other ↦ get_or-set_other s.words i j (f (slice_index s.words i)) 0 other.0 ∙ fits.words_are.client j j_in ∙ sym other.1
                    ];
                    buffer = λ g u g_in u_in. get_or-set_other s.words i (word_at layout g u) (f (slice_index s.words i)) 0 (λ same. omega (arith, same, i_in)) ∙ fits.words_are.buffer g u g_in u_in;
                  };
                  slots_are = slots_home s c ends middle seat_of fits at;
                  seats = seats_later s c ends middle seat_of fits at (home s c ends middle seat_of fits at) e on.0 (home_is s c ends middle seat_of fits at) (λ q apart. set_at_elsewhere ends p e q apart);
                  clients = clients_later s c ends middle seat_of fits at e on.0;
                },
              ),
            ),
          ),
        ),
        (on.0, subst (λ n. then first second me.0.client n on.0) (sym found) on.2, (λ k. (goes me.0 e on.0, none_left me.0.ends.out me.1 alone.carries k))),
      )

  same_to : p < layout.parties → (to to' : ℕ) → word_at layout p to ≡ word_at me.0.layout me.0.first to' → to ≡ to'
  same_to p_in to to' e = (same_word layout p to p to' p_in p_in (e ∙ (λ k. word_at (alone.layout_is k) (alone.first k) to'))).0

  same_from : (from from' : ℕ) → from < layout.parties → from' < me.0.layout.parties → word_at layout from p ≡ word_at me.0.layout from' me.0.first → from ≡ from'
  same_from from from' f_in g_in e = (same_word layout from p from' p f_in (subst (λ (l : Layout). from' < l.parties) alone.layout_is g_in) (e ∙ (λ k. word_at (alone.layout_is k) from' (alone.first k)))).1

  module _ (to : ℕ) (to_in : to < layout.parties) where
    -- the slot that is written next is taken
    pub opens : (slots i : ℕ) → i ≡ word_at layout p to → Allows (ShowsContents layout holds) slots id me i (λ n. n) (HasOpened (step slots i 0 0 none) me)
    opens slots i word_is s shown many at below =
        let c = shown.0 in
        let ends = shown.2.0 in
        let middle = shown.2.1.0 in
        let seat_of = shown.2.1.1.0 in
        let fits = shown.2.1.1.1 in
        let home' = home s c ends middle seat_of fits at in
        let home_is' = home_is s c ends middle seat_of fits at in
        let p_in = (own s c ends middle seat_of fits at).0 in
        let here = own_slot s c ends middle seat_of fits at to in
        let e = with_out me.0.ends (back_slot me to) in
        let backs : e.backs ≡ (home' p).backs = ap (λ z. z.backs) (sym home_is') in
        let fronts : e.fronts ≡ (home' p).fronts = ap (λ z. z.fronts) (sym home_is') in
        let none_was : (home' p).out ≡ None = ap (λ z. z.out) home_is' in
        let ends1 = ends_home s c ends middle seat_of fits at in
        let slots1 = slots_home s c ends middle seat_of fits at in
        let homes1 = put_back s.homes me.1 in
        let y = at_home layout home' middle p e backs fronts c.buffers ends1 homes1 slots1 Back p to p_in to_in refl none_was in
        let slots2 = slots_taken layout home' middle p e backs fronts c.buffers ends1 homes1 slots1 Back p to p_in to_in refl none_was (ap Some (sym here)) in
        let out = has_out layout home' middle p e backs fronts c.buffers ends1 homes1 slots1 Back p to p_in to_in refl none_was in (
          goes me.0 e me.0.client,
          chain gives (takes (back_slot me to) y.0),
          (tt, ap (λ k. get_elem? homes1 k) (sym here) ∙ y.1),
          (
            record { words = c.words; buffers = c.buffers; views = c.views },
            shown.1,
            (
              set_at home' p e,
              (
                middle,
                (
                  seat_of,
                  record {
                    small = fits.small;
                    ends_are = ends_kept layout home' middle p e backs fronts (λ k is. subst (λ j. HasOut layout home' p j) (here ∙ (let s : Some (back_slot me to) ≡ Some k = is in cc)) out) ends1;
                    words_are = subst (AreWords layout middle c.words c.buffers) (sym (stays s c ends middle seat_of fits at s.words i)) fits.words_are;
                    slots_are = subst (λ k. AreSlots layout (set_at home' p e) middle c.buffers (slice_set homes1 k none)) here slots2;
                    seats = seats_later s c ends middle seat_of fits at (set_at home' p e) e me.0.client (set_at_same home' p e) (λ q apart. elsewhere s c ends middle seat_of fits at e q apart);
                    clients = clients_same s c ends middle seat_of fits at e;
                  },
                ),
              ),
            ),
          ),
          (λ to' to_in' word.
              let same = same_to p_in to to' (sym word_is ∙ word) in
              (y.0, (λ k. (goes me.0 (with_out me.0.ends (back_slot me (same k))) me.0.client, (back_slot me (same k), y.0) ∷ none_left me.0.ends.out me.1 alone.carries k)))),
        )

    -- and written
    pub writes : (x : T) (slots i : ℕ) → i ≡ word_at layout p to → (new : ℕ) → new ≡ slice_index me.0.ends.backs to + 4 → (then : V → ℕ → T → V → Type 0) → me.1 ≡ (back_slot me to, Some x) ∷ []
        → AllowsWrite holds id me.0.client p to x (then me.0.client to x) → Allows (ShowsContents layout holds) slots id me i (λ n. new) (HasWritten then (step slots i new 0 none) me)
    writes x slots i word_is new new_is then has allows s shown many at below =
        let c = shown.0 in
        let ends = shown.2.0 in
        let middle = shown.2.1.0 in
        let seat_of = shown.2.1.1.0 in
        let fits = shown.2.1.1.1 in
        let home' = home s c ends middle seat_of fits at in
        let home_is' = home_is s c ends middle seat_of fits at in
        let p_in = (own s c ends middle seat_of fits at).0 in
        let here = own_slot s c ends middle seat_of fits at to in
        let on = allows c shown.1 (client_at s c ends middle seat_of fits at) in
        let none_was : (home' p).out ≡ None = ap (λ z. z.out) home_is' in
        let ends1 = ends_home s c ends middle seat_of fits at in
        let slots1 = slots_home s c ends middle seat_of fits at in
        let homes1 = put_back s.homes me.1 in
        let three = ends1.three p to p_in to_in in
        let found_is : slice_index s.words i ≡ word_of (c.buffers p to) (middle p to) = ap (λ k. slice_index s.words k) word_is ∙ fits.words_are.buffer p to p_in to_in in
        let middle_is : slice_index s.words i % 4 ≡ middle p to = ap (λ k. k % 4) found_is ∙ word_middle (c.buffers p to) (middle p to) three.middle_in in
        let e = settled (with_back me.0.ends to (slice_index s.words i % 4)) in
        let is : e ≡ with_end Back (home' p) p to (middle p to) = (λ k. with_back (sym home_is' k) to (middle_is k)) in
        let inside : back_slot me to < length s.homes =
        let a = three.end_inside Back in
        let b = place_inside layout p to p_in to_in in
        (let m = fits.slots_are.many in let h = here in omega arith) in
        let there : get_elem? homes1 (slot_at layout p to (end_of home' Back p to)) ≡ some (some (Some x)) =
        (λ k. get_elem? (put_back s.homes (has k)) (here k)) ∙ set_here s.homes (back_slot me to) (some (Some x)) inside in
        let new' : word_of (Some x) (end_of home' Back p to) ≡ new = ap (λ k. k + 4) (back_is s c ends middle seat_of fits at to) ∙ sym new_is in
        let middle' = between_later layout home' middle ends1 p p_in Back p to p_in to_in refl none_was e is in (
          goes me.0 e on.0,
          gives,
          tt,
          (
            record { words = c.words; buffers = with_value c.buffers p to (Some x); views = slice_set c.views id on.0 },
            on.1,
            (
              set_at home' p e,
              (
                middle',
                (
                  seat_of,
                  record {
                    small = fits.small;
                    ends_are = ends_flipped layout home' middle ends1 p p_in Back p to p_in to_in refl none_was e is;
                    words_are = subst (λ w. AreWords layout middle' c.words (with_value c.buffers p to (Some x)) w) (λ k. slice_set s.words (sym word_is k) (new' k))
                        (words_flipped layout home' middle ends1 p p_in Back p to p_in to_in refl none_was e is c.buffers (Some x) c.words s.words fits.words_are);
                    slots_are = slots_flipped layout home' middle ends1 p p_in Back p to p_in to_in refl none_was e is c.buffers (Some x) homes1 slots1 (Some x) there refl;
                    seats = seats_later s c ends middle seat_of fits at (set_at home' p e) e on.0 (set_at_same home' p e) (λ q apart. elsewhere s c ends middle seat_of fits at e q apart);
                    clients = clients_later s c ends middle seat_of fits at e on.0;
                  },
                ),
              ),
            ),
          ),
          (λ to' x' to_in' word has'.
              let same = same_to p_in to to' (sym word_is ∙ word) in
              let value : Some x ≡ Some x' = ap (λ l. value_in l) (sym has ∙ has') in
              let same_x : x ≡ x' = cc in (
                on.0,
                subst (λ (z : T). then me.0.client to' z on.0) same_x (subst (λ j. then me.0.client j x on.0) same on.2),
                subst (λ j. j < 3) (sym middle_is) three.middle_in,
                (λ k. (goes me.0 (settled (with_back me.0.ends (same k) (slice_index s.words i % 4))) on.0, none_left me.0.ends.out me.1 alone.carries k)),
              )),
        )

  module _ (from : ℕ) (from_in : from < layout.parties) where
    -- it looks whether there is a value
    pub looks : (slots i : ℕ) → i ≡ word_at layout from p → (then : V → ℕ → Option T → V → Type 0) → AllowsTake holds id me.0.client from p (then me.0.client from)
        → Allows (ShowsContents layout holds) slots id me i (λ n. n) (HasLooked then (step slots i 0 0 none) me)
    looks slots i word_is then allows s shown many at below =
        let c = shown.0 in
        let ends = shown.2.0 in
        let middle = shown.2.1.0 in
        let seat_of = shown.2.1.1.0 in
        let fits = shown.2.1.1.1 in
        let home' = home s c ends middle seat_of fits at in
        let home_is' = home_is s c ends middle seat_of fits at in
        let p_in = (own s c ends middle seat_of fits at).0 in
        let ends1 = ends_home s c ends middle seat_of fits at in
        let slots1 = slots_home s c ends middle seat_of fits at in
        let homes1 = put_back s.homes me.1 in
        let e = settled me.0.ends in
        let words1 = subst (AreWords layout middle c.words c.buffers) (sym (stays s c ends middle seat_of fits at s.words i)) fits.words_are in
        let found_is : slice_index s.words i ≡ word_of (c.buffers from p) (middle from p) = ap (λ k. slice_index s.words k) word_is ∙ fits.words_are.buffer from p from_in p_in in
        let found = slice_index s.words i in
        elim (lt_cases found 4) [
          | inl few ↦
              let nothing : c.buffers from p ≡ None = word_none (c.buffers from p) (middle from p) (subst (λ k. k < 4) found_is few.0) in
              let on = allows c shown.1 (client_at s c ends middle seat_of fits at) in
              let alike = emptied c.buffers from p nothing in (
                goes me.0 e on.0,
                gives,
                tt,
                (
                  record { words = c.words; buffers = with_value c.buffers from p None; views = slice_set c.views id on.0 },
                  on.1,
                  (
                    home',
                    (
                      middle,
                      (
                        seat_of,
                        record {
                          small = fits.small;
                          ends_are = ends1;
                          words_are = words_alike layout home' middle c.buffers (with_value c.buffers from p None) alike c.words (slice_set s.words i found) words1;
                          slots_are = slots_alike layout home' middle c.buffers (with_value c.buffers from p None) alike homes1 slots1;
                          seats = seats_later s c ends middle seat_of fits at home' e on.0 home_is' (λ q apart. set_at_elsewhere ends p e q apart);
                          clients = clients_later s c ends middle seat_of fits at e on.0;
                        },
                      ),
                    ),
                  ),
                ),
                (λ from' from_in' word. (
                  (λ small. (
                    on.0,
                    subst (λ j. then me.0.client j None on.0) (same_from from from' from_in from_in' (sym word_is ∙ word)) (subst (λ (v : Option T). then me.0.client from v on.0) nothing on.2),
                    (λ k. (goes me.0 e on.0, none_left me.0.ends.out me.1 alone.carries k)),
                  )),
                  (λ large. absurd (let z = few.0 in omega (arith, large))),
                )),
              )
          | inr large ↦ (
            goes me.0 e me.0.client,
            gives,
            tt,
            (
              record { words = c.words; buffers = c.buffers; views = c.views },
              shown.1,
              (
                home',
                (
                  middle,
                  (
                    seat_of,
                    record {
                      small = fits.small;
                      ends_are = ends1;
                      words_are = words1;
                      slots_are = slots1;
                      seats = seats_later s c ends middle seat_of fits at home' e me.0.client home_is' (λ q apart. set_at_elsewhere ends p e q apart);
                      clients = clients_same s c ends middle seat_of fits at e;
                    },
                  ),
                ),
              ),
            ),
            (λ from' from_in' word. (
              (λ small. absurd (let z = large.0 in omega (arith, small))),
              (λ many. (λ k. (goes me.0 e me.0.client, none_left me.0.ends.out me.1 alone.carries k))),
            )),
          )
        ]

    -- and takes it
    pub takes_value : (slots i : ℕ) → i ≡ word_at layout from p → (new : ℕ) → new ≡ slice_index me.0.ends.fronts from → (then : V → ℕ → Option T → V → Type 0) → AllowsTake holds id me.0.client from p (then me.0.client from)
        → Allows (ShowsContents layout holds) slots id me i (λ n. new) (HasTaken then (step slots i new 0 none) me)
    takes_value slots i word_is new new_is then allows s shown many at below =
        let c = shown.0 in
        let ends = shown.2.0 in
        let middle = shown.2.1.0 in
        let seat_of = shown.2.1.1.0 in
        let fits = shown.2.1.1.1 in
        let home' = home s c ends middle seat_of fits at in
        let home_is' = home_is s c ends middle seat_of fits at in
        let p_in = (own s c ends middle seat_of fits at).0 in
        let ends1 = ends_home s c ends middle seat_of fits at in
        let slots1 = slots_home s c ends middle seat_of fits at in
        let homes1 = put_back s.homes me.1 in
        let none_was : (home' p).out ≡ None = ap (λ z. z.out) home_is' in
        let three = ends1.three from p from_in p_in in
        let found = slice_index s.words i in
        let found_is : found ≡ word_of (c.buffers from p) (middle from p) = ap (λ k. slice_index s.words k) word_is ∙ fits.words_are.buffer from p from_in p_in in
        let middle_is : found % 4 ≡ middle from p = ap (λ k. k % 4) found_is ∙ word_middle (c.buffers from p) (middle from p) three.middle_in in
        let on = allows c shown.1 (client_at s c ends middle seat_of fits at) in
        let c' : Contents T V = record { words = c.words; buffers = with_value c.buffers from p None; views = slice_set c.views id on.0 } in
        let e = settled (with_front me.0.ends from (found % 4)) in
        let is : e ≡ with_end Front (home' p) from p (middle from p) = (λ k. with_front (sym home_is' k) from (middle_is k)) in
        let front_slot = end_of home' Front from p in
        let old = at_home layout home' middle p (settled me.0.ends) (ap (λ z. z.backs) (sym home_is')) (ap (λ z. z.fronts) (sym home_is')) c.buffers ends1 homes1 slots1 Front from p from_in p_in refl none_was in
        let new' : word_of {T = T} None front_slot ≡ new = front_is s c ends middle seat_of fits at from ∙ sym new_is in
        let later = set_at home' p e in
        let middle' = between_later layout home' middle ends1 p p_in Front from p from_in p_in refl none_was e is in
        let ends2 = ends_flipped layout home' middle ends1 p p_in Front from p from_in p_in refl none_was e is in
        let words2 = subst (λ w. AreWords layout middle' c.words (with_value c.buffers from p None) w) (λ k. slice_set s.words (sym word_is k) (new' k))
        (words_flipped layout home' middle ends1 p p_in Front from p from_in p_in refl none_was e is c.buffers None c.words s.words fits.words_are) in
        let slots2 = slots_flipped layout home' middle ends1 p p_in Front from p from_in p_in refl none_was e is c.buffers None homes1 slots1 old.0 old.1 tt in
        let same = (λ (from' : ℕ) (from_in' : from' < me.0.layout.parties) (word : i ≡ word_at me.0.layout from' me.0.first). same_from from from' from_in from_in' (sym word_is ∙ word)) in
        elim (lt_cases found 4) [
          | inl few ↦
              let nothing : c.buffers from p ≡ None = word_none (c.buffers from p) (middle from p) (subst (λ k. k < 4) found_is few.0) in (
                goes me.0 e on.0,
                gives,
                tt,
                (
                  c',
                  on.1,
                  (
                    later,
                    (
                      middle',
                      (
                        seat_of,
                        record {
                          small = fits.small;
                          ends_are = ends2;
                          words_are = words2;
                          slots_are = slots2;
                          seats = seats_later s c ends middle seat_of fits at later e on.0 (set_at_same home' p e) (λ q apart. elsewhere s c ends middle seat_of fits at e q apart);
                          clients = clients_later s c ends middle seat_of fits at e on.0;
                        },
                      ),
                    ),
                  ),
                ),
                (λ from' from_in' word. (
                  subst (λ j. j < 3) (sym middle_is) three.middle_in,
                  (λ small. (
                    on.0,
                    subst (λ j. then me.0.client j None on.0) (same from' from_in' word) (subst (λ (v : Option T). then me.0.client from v on.0) nothing on.2),
                    (λ k. (goes me.0 (settled (with_front me.0.ends (same from' from_in' word k) (found % 4))) on.0, none_left me.0.ends.out me.1 alone.carries k)),
                  )),
                  (λ large. absurd (let z = few.0 in omega (arith, large))),
                )),
              )
          | inr large ↦
              let some_there = word_some (c.buffers from p) (middle from p) three.middle_in (subst (λ k. 4 ≤ k) found_is large.0) in
              let x = some_there.0 in
              let between = slots1.between from p from_in p_in in
              let value : between.0 ≡ Some x = subst (λ (v : Option T). Keeps v between.0) some_there.1 between.2 in
              let slot = slot_at me.0.layout from me.0.first (found % 4) in
              let long : from < length me.0.ends.fronts = (let a = fits.ends_are.fronts p p_in in let b = ap (λ z. length z.fronts) (own s c ends middle seat_of fits at).2 in omega (arith, from_in)) in
              let front : end_of later Front from p ≡ found % 4 = ap (λ z. slice_index z.fronts from) (set_at_same home' p e) ∙ get_or-set_same me.0.ends.fronts from (found % 4) 0 long in
              let here : slot_at layout from p (end_of later Front from p) ≡ slot = (λ k. slot_at (sym alone.layout_is k) from (sym alone.first k) (front k)) in
              let e2 = with_out (with_front me.0.ends from (found % 4)) slot in
              let backs : e2.backs ≡ (later p).backs = ap (λ z. z.backs) (sym (set_at_same home' p e)) in
              let fronts : e2.fronts ≡ (later p).fronts = ap (λ z. z.fronts) (sym (set_at_same home' p e)) in
              let none_later : (later p).out ≡ None = ap (λ z. z.out) (set_at_same home' p e) in
              let out = has_out layout later middle' p e2 backs fronts (with_value c.buffers from p None) ends2 homes1 slots2 Front from p from_in p_in refl none_later in
              let slots3 = slots_taken layout later middle' p e2 backs fronts (with_value c.buffers from p None) ends2 homes1 slots2 Front from p from_in p_in refl none_later (ap Some (sym here)) in (
                goes me.0 e2 on.0,
                chain gives (takes slot (Some x)),
                (tt, (λ k. get_elem? homes1 (slot_at (alone.layout_is k) from (alone.first k) (middle_is k))) ∙ between.1 ∙ ap (λ z. some (some z)) value),
                (
                  c',
                  on.1,
                  (
                    set_at later p e2,
                    (
                      middle',
                      (
                        seat_of,
                        record {
                          small = fits.small;
                          ends_are = ends_kept layout later middle' p e2 backs fronts (λ k is. subst (λ j. HasOut layout later p j) (here ∙ (let s : Some slot ≡ Some k = is in cc)) out) ends2;
                          words_are = words2;
                          slots_are = subst (λ k. AreSlots layout (set_at later p e2) middle' (with_value c.buffers from p None) (slice_set homes1 k none)) here slots3;
                          seats = seats_later s c ends middle seat_of fits at (set_at later p e2) e2 on.0 (set_at_same later p e2) (λ q apart. set_at_elsewhere later p e2 q apart ∙ elsewhere s c ends middle seat_of fits at e q apart);
                          clients = clients_later s c ends middle seat_of fits at e2 on.0;
                        },
                      ),
                    ),
                  ),
                ),
                (λ from' from_in' word. (
                  subst (λ j. j < 3) (sym middle_is) three.middle_in,
                  (λ small. absurd (let z = large.0 in omega (arith, small))),
                  (λ many. (
                    x,
                    (
                      on.0,
                      subst (λ j. then me.0.client j (Some x) on.0) (same from' from_in' word) (subst (λ (v : Option T). then me.0.client from v on.0) some_there.1 on.2),
                      (λ k. (
                        goes me.0 (with_out (with_front me.0.ends (same from' from_in' word k) (found % 4)) (slot_at me.0.layout (same from' from_in' word k) me.0.first (found % 4))) on.0,
                        (slot_at me.0.layout (same from' from_in' word k) me.0.first (found % 4), Some x) ∷ none_left me.0.ends.out me.1 alone.carries k,
                      )),
                    ),
                  )),
                )),
              )
        ]
