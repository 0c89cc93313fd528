-- Values in a row of words: what the steps on the words do to the values.
use Rattle.small_objects.proofs.Vocabulary.{IsReached, IsStateOf, List, [], ap, arith, bounded_stack, drop, first_word, get_or-set_other, if◌then◌else◌, inl, inr, kept_by_calls, le-ltb, length, length-append, length-padded, lt-ltb, lt_cases, nat_lt, nil_from_length, one_word, padded, refl, row_of, same_list, slice_index, slice_set, stack, stack_answer, stack_next, suc, sym, take, values_in, zero, ℕ, ◌++◌, ◌+◌, ◌-◌, ◌<◌, ◌∙◌, ◌∷◌, ◌≡◌, ◌≢◌, ◌≤◌}
use Rattle.std.proofs.lemmas.List.{length-take}
use Rattle.std.specs.List.{copy_within}
use Rattle.small_objects.specs.Encoding.{of_one_word}
use Rattle.small_objects.specs.Stack.{IsStack}
use Rattle.small_objects.proofs.Reached.{reached_is}

pub index-padded : (room : ℕ) (values : List ℕ) (i : ℕ) → length values ≤ room
    → slice_index (padded room values) i ≡ slice_index values i
index-padded zero [] i few = refl
index-padded zero (v ∷ values) i few = absurd (omega arith)
index-padded (suc room) [] zero few = refl
index-padded (suc room) [] (suc i) few = index-padded room [] i (omega arith)
index-padded (suc room) (v ∷ values) zero few = refl
index-padded (suc room) (v ∷ values) (suc i) few = index-padded room values i (omega arith)

pub row_fits : (room : ℕ) (values : List ℕ) → length values ≤ room → values_in (row_of room values) ≡ values
row_fits zero [] few = refl
row_fits zero (v ∷ values) few = absurd (omega arith)
row_fits (suc room) [] few = refl
row_fits (suc room) (v ∷ values) few = ap (λ l. v ∷ l) (row_fits room values (omega arith))

pub none_long : (room : ℕ) → length (padded room []) ≡ room
none_long room = length-padded room []

-- one more value
pub pushed : (room : ℕ) (values : List ℕ) (v : ℕ) → length values < room → slice_set (padded room values) (length values) v ≡ padded room (values ++ v ∷ [])
pushed zero values v few = absurd (omega arith)
pushed (suc room) [] v few = refl
pushed (suc room) (x ∷ values) v few = ap (λ l. x ∷ l) (pushed room values v (omega arith))

-- no more values than fit, also after one more where there is room
pub more_few : {A : Type 0} (most : ℕ) (values : List A) (v : A) → length values ≤ most
    → (length (if nat_lt (length values) most then values ++ v ∷ [] else values) ≤ most)
    × (length (if nat_lt (length values) most then values ++ v ∷ [] else values) ≤ suc (length values))
more_few most values v few = elim (lt_cases (length values) most) [
  | inl less ↦ rw less.1 (let l = less.0 in let a = length-append values (v ∷ []) in (omega arith, omega arith))
  | inr more ↦ rw more.1 (few, omega arith)
]

-- the last value away
popped : (room : ℕ) (values : List ℕ) (k : ℕ) → length values ≡ suc k → length values ≤ room
    → slice_set (padded room values) k 0 ≡ padded room (take k values)
popped room [] k some few = absurd (omega arith)
popped zero (x ∷ values) k some few = absurd (omega arith)
popped (suc room) (x ∷ []) zero some few = refl
popped (suc room) (x ∷ y ∷ values) zero some few = absurd (omega arith)
popped (suc room) (x ∷ values) (suc k) some few = ap (λ l. x ∷ l) (popped room values k (omega arith) (omega arith))

-- a row of zeros
pub zero_row : (room : ℕ) (state : List ℕ) → length state ≡ length (row_of room [])
    → ((j : ℕ) → slice_index state j ≡ 0) → state ≡ row_of room []
zero_row room state long each = same_list state (row_of room []) long at where
  at : (i : ℕ) → i < length state → slice_index state i ≡ slice_index (row_of room []) i
  at zero below = each 0
  at (suc i) below = each (suc i) ∙ sym (index-padded room [] i (omega arith))

-- two values away: the later ones move up, and zeros come last
moved_up : (room : ℕ) (values : List ℕ) (n a b : ℕ) → length values ≡ n → length values ≤ room
    → slice_set (slice_set (take n (padded room values) ++ drop n (a ∷ b ∷ padded room values)) n 0) (suc n) 0
    ≡ padded (suc (suc room)) values
moved_up room [] zero a b long few = refl
moved_up room [] (suc n) a b long few = absurd (omega arith)
moved_up room (v ∷ values) zero a b long few = absurd (omega arith)
moved_up zero (v ∷ values) (suc n) a b long few = absurd (omega arith)
moved_up (suc room) (v ∷ values) (suc n) a b long few =
    ap (λ l. v ∷ l) (moved_up room values n b v (omega arith) (omega arith))

two_out : (room : ℕ) (values : List ℕ) (i n end : ℕ) → length values ≡ suc (suc end) → i + n ≡ end
    → length values ≤ room
    → let row = padded room values in
    slice_set (slice_set (take i row ++ take n (drop (suc (suc i)) row) ++ drop end row) end 0) (suc end) 0
    ≡ padded room (take i values ++ drop (suc (suc i)) values)
two_out room [] i n end long sum few = absurd (omega arith)
two_out room (x ∷ []) i n end long sum few = absurd (omega arith)
two_out zero (x ∷ y ∷ values) i n end long sum few = absurd (omega arith)
two_out (suc zero) (x ∷ y ∷ values) i n end long sum few = absurd (omega arith)
two_out (suc (suc room)) (x ∷ y ∷ values) zero n end long sum few =
    let all : n ≡ end = omega arith in
    rw all (moved_up room values end x y (omega arith) (omega arith))
two_out (suc room) (x ∷ y ∷ values) (suc i) n zero long sum few = absurd (omega arith)
two_out (suc room) (x ∷ y ∷ values) (suc i) n (suc end) long sum few =
    ap (λ l. x ∷ l) (two_out room (y ∷ values) i n end (omega arith) (omega arith) (omega arith))

pub taken_out : (room c : ℕ) (values words moved : List ℕ) (i at from stop one two less end : ℕ)
    → words ≡ c ∷ padded room values → length values ≤ room → moved ≡ copy_within words from stop at
    → at ≡ suc i → from ≡ suc (suc (suc i)) → stop ≡ suc (length values) → suc (suc i) ≤ length values
    → one ≡ suc end → two ≡ suc (suc end) → length values ≡ suc (suc end)
    → slice_set (slice_set (slice_set moved one 0) two 0) 0 less
    ≡ less ∷ padded room (take i values ++ drop (suc (suc i)) values)
taken_out room c values words moved i at from stop one two less end words_are few moved_is at_is from_is stop_is inside
    one_is two_is long =
    let past : suc i + (suc (length values) - suc (suc (suc i))) ≡ suc end = omega arith in
    rw (moved_is, at_is, from_is, stop_is, one_is, two_is, past, words_are)
    (ap (λ l. less ∷ l) (two_out room values i (suc (length values) - suc (suc (suc i))) end long (omega arith) few))

module _ (capacity : ℕ) where
  stack_few : (values : List ℕ) → IsStateOf (bounded_stack capacity) first_word values → length values ≤ capacity
  stack_few values was =
      kept_by_calls (bounded_stack capacity) first_word (λ vs. length vs ≤ capacity) (omega arith)
      (λ vs words few. keeps vs (first_word words) few) values was where
        keeps : (vs : List ℕ) (inv : ℕ) → length vs ≤ capacity → length (stack_next capacity vs inv) ≤ capacity
        keeps vs zero few = omega (arith, length-take (length vs - 1) vs)
        keeps vs (suc i) few = (more_few capacity vs (suc i) few).0

  pub is_stack : (words : List ℕ) → IsReached (of_one_word (stack capacity)).object words → IsStack capacity words
  is_stack words reached =
      let h = reached_is (bounded_stack capacity) first_word (row_of capacity) values_in
      (λ vs was. row_fits capacity vs (stack_few vs was)) one_word words reached in
      record {
        wide = ap length h.1 ∙ (let l = length-padded capacity (values_in words) in omega arith);
        few = (let count = ap (λ w. slice_index w 0) h.1 in omega (arith, stack_few (values_in words) h.0));
        words_are = h.1;
      }

module _ {capacity : ℕ} {words : List ℕ} (h : IsStack capacity words) where
  abbrev values : List ℕ
  values = values_in words

  count_is : slice_index words 0 ≡ length values
  count_is = ap (λ w. slice_index w 0) h.words_are

  -- a value goes on the others
  pub put_on : (inv : ℕ) → inv ≢ 0 → slice_index words 0 < capacity
      → (slice_set (slice_set words (1 + slice_index words 0) inv) 0 (slice_index words 0 + 1)
      ≡ row_of capacity (stack_next capacity values inv))
      × (1 ≡ stack_answer capacity values inv)
  put_on zero some room = absurd (some refl)
  put_on (suc i) some room =
      let c = count_is in
      let more = values ++ suc i ∷ [] in
      let n = slice_index words 0 + 1 in
      let spot : 1 + slice_index words 0 ≡ suc (length values) = omega arith in
      let one : n ≡ length more = omega (arith, length-append values (suc i ∷ [])) in
      rw (lt-ltb (length values) capacity (omega arith)) (
        ap (λ k. slice_set (slice_set words k (suc i)) 0 n) spot
            ∙ ap (λ w. slice_set (slice_set w (suc (length values)) (suc i)) 0 n) h.words_are
            ∙ ap (λ p. n ∷ p) (pushed capacity values (suc i) (omega arith)) ∙ ap (λ k. k ∷ padded capacity more) one,
        refl,
      )

  pub put_on_full : (inv : ℕ) → inv ≢ 0 → capacity ≤ slice_index words 0
      → (words ≡ row_of capacity (stack_next capacity values inv)) × (0 ≡ stack_answer capacity values inv)
  put_on_full zero some full = absurd (some refl)
  put_on_full (suc i) some full =
      let c = count_is in
      rw (le-ltb (length values) capacity (omega arith)) (h.words_are, refl)

  -- the newest value is taken off, or nothing where there is none
  pub taken_off_none : (inv : ℕ) → inv ≡ 0 → slice_index words 0 ≡ 0
      → (words ≡ row_of capacity (stack_next capacity values inv)) × (0 ≡ stack_answer capacity values inv)
  taken_off_none inv off none =
      let nil : values ≡ [] = nil_from_length values (sym count_is ∙ none) in
      rw (off, nil) (h.words_are ∙ ap (row_of capacity) nil, refl)

  pub taken_off : (inv : ℕ) → inv ≡ 0 → slice_index words 0 ≢ 0
      → (slice_set (slice_set words (slice_index words 0) 0) 0 (slice_index words 0 - 1)
      ≡ row_of capacity (stack_next capacity values inv))
      × (slice_index words (slice_index words 0) ≡ stack_answer capacity values inv)
  taken_off inv off some =
      let c = count_is in
      let k = length values - 1 in
      let last : slice_index words 0 ≡ suc k = omega (arith, some) in
      let less : slice_index words 0 - 1 ≡ length (take k values) = omega (arith, length-take k values) in
      let few : length values ≤ capacity = omega arith in
      rw off (
        ap (λ c. slice_set (slice_set words c 0) 0 (slice_index words 0 - 1)) last
            ∙ ap (λ w. slice_set (slice_set w (suc k) 0) 0 (slice_index words 0 - 1)) h.words_are
            ∙ ap (λ c. c ∷ slice_set (padded capacity values) k 0) less
            ∙ ap (λ p. length (take k values) ∷ p) (popped capacity values k (sym c ∙ last) few),
        ap (slice_index words) last ∙ ap (λ w. slice_index w (suc k)) h.words_are ∙ index-padded capacity values k few,
      )

  -- the words that an invocation doesn't touch
  pub off_alike : (inv i : ℕ) → inv ≡ 0 → 1 ≤ i → i ≢ slice_index words 0
      → slice_index ((stack capacity).next words inv) i ≡ slice_index words i
  off_alike inv i off one other = elim (lt_cases 0 (slice_index words 0)) [
    | inl some ↦
        let n = slice_index words 0 in
        ap (λ w. slice_index w i) (sym (taken_off inv off (λ e. omega (arith, e, some.0))).0)
        ∙ get_or-set_other (slice_set words n 0) 0 i (n - 1) 0 (λ e. omega (arith, e))
        ∙ get_or-set_other words n i 0 0 other
    | inr none ↦ ap (λ w. slice_index w i) (sym (taken_off_none inv off (omega (arith, none.0))).0)
  ]

  pub on_alike : (inv i : ℕ) → inv ≢ 0 → 1 ≤ i → i ≢ slice_index words 0 + 1
      → slice_index ((stack capacity).next words inv) i ≡ slice_index words i
  on_alike inv i on one other = elim (lt_cases (slice_index words 0) capacity) [
    | inl room ↦
        let n = slice_index words 0 in
        ap (λ w. slice_index w i) (sym (put_on inv on room.0).0)
        ∙ get_or-set_other (slice_set words (1 + n) inv) 0 i (n + 1) 0 (λ e. omega (arith, e))
        ∙ get_or-set_other words (1 + n) i inv 0 (λ e. other (omega (arith, e)))
    | inr full ↦ ap (λ w. slice_index w i) (sym (put_on_full inv on full.0).0)
  ]
