-- A queue in a ring of words: what the steps on the words do to the values.
use Rattle.small_objects.proofs.Vocabulary.{Fits, IsReached, IsStateOf, List, Sequential, [], ap, append-nil, arith, drop, drop_all, get_or-set_other, if◌then◌else◌, in_words, inl, inr, kept_by_calls, le-ltb, length, length-append, length-padded, lt-ltb, lt_cases, map, nat_lt, nil_from_length, padded, refl, slice_index, slice_set, state_after, suc, sym, take, take_all, zero, ℕ, ◌%◌, ◌++◌, ◌+◌, ◌-◌, ◌<◌, ◌∙◌, ◌∷◌, ◌≡◌, ◌≢◌, ◌≤◌}
use Rattle.std.proofs.Math.Nat.{mod-eq_of_lt, mod-lt, mod_self}
use Rattle.std.proofs.Math.Seq.{drop-append_seam, take-append_seam, take-set-lt}
use Rattle.std.proofs.lemmas.List.{append_assoc, drop-append-le, drop-set-add, drop-set-lt, get_or-append_right, get_or-take, length-drop, set-append_left, set-append_right, take-append-drop, take-append-le, take-set-le}
use Rattle.small_objects.specs.Ring.{HasRing, IsRing, Ring, around, end_slot, first_slot, in_ring, ring_in, ring_queue, ring_wide, ring_words, rotated, with_last, without_first}
use Rattle.small_objects.proofs.Reached.{after_in, follows_plain, reached_is}
use Rattle.small_objects.proofs.Rows.{index-padded, pushed, row_fits, zero_row}

-- words that are moved round, and back
rotated_back : (n m : ℕ) (words : List ℕ) → length words ≡ n + m → rotated m (rotated n words) ≡ words
rotated_back n m words long =
    let far : m ≡ length (drop n words) = (let l = length-drop n words in omega (arith, l)) in
    ap (λ k. rotated k (rotated n words)) far ∙ ap (λ l. l ++ take (length (drop n words)) (rotated n words)) (drop-append_seam (drop n words) (take n words))
    ∙ ap (λ l. take n words ++ l) (take-append_seam (drop n words) (take n words)) ∙ take-append-drop n words

-- word i is found in slot start + i, round the ring
set_slot : (slots start i v : ℕ) (words : List ℕ) → length words ≡ slots → start ≤ slots → i < slots
    → slice_set (rotated (slots - start) words) (around slots (start + i)) v ≡ rotated (slots - start) (slice_set words i v)
set_slot slots start i v words long within inside =
    let n = slots - start in
    let far : length (drop n words) ≡ start = (let l = length-drop n words in omega (arith, l)) in
    elim (lt_cases (start + i) slots) [
      | inl less ↦
          let before : i < n = (let l = less.0 in omega arith) in
          let back : start + i - start ≡ i = omega arith in
          rw less.1 (set-append_right (drop n words) (take n words) start (start + i) v far (omega arith))
          ∙ ap (λ k. drop n words ++ slice_set (take n words) k v) back
          ∙ ap (λ l. l ++ slice_set (take n words) i v) (sym (drop-set-lt n words i v before)) ∙ ap (λ l. drop n (slice_set words i v) ++ l) (sym (take-set-lt n words i v before))
      | inr more ↦
          let round : start + i - slots ≡ i - n = (let m = more.0 in omega arith) in
          let again : i ≡ n + (i - n) = (let m = more.0 in omega arith) in
          rw more.1 (ap (λ k. slice_set (rotated n words) k v) round) ∙ set-append_left (drop n words) (take n words) (i - n) v (omega (arith, far))
          ∙ ap (λ l. l ++ take n words) (sym (drop-set-add n words (i - n) v)) ∙ ap (λ l. drop n (slice_set words (n + (i - n)) v) ++ l) (sym (take-set-le n words (n + (i - n)) v (omega arith)))
          ∙ ap (λ k. rotated n (slice_set words k v)) (sym again)
    ]

-- the first word is found in the start's slot
index_start : (slots start : ℕ) (words : List ℕ) → length words ≡ slots → start < slots → slice_index (rotated (slots - start) words) start ≡ slice_index words 0
index_start slots start words long inside =
    let n = slots - start in
    let far : length (drop n words) ≡ start = (let l = length-drop n words in omega (arith, l)) in
    let none : start - start ≡ 0 = omega arith in
    get_or-append_right (drop n words) (take n words) start start 0 far (omega arith) ∙ ap (slice_index (take n words)) none ∙ get_or-take n words 0 0 (omega arith)

-- the first word away, and another one behind: the others stay in their slots
turned : (n x : ℕ) (words : List ℕ) → n ≤ length words → rotated (suc n) (x ∷ words) ≡ rotated n (words ++ x ∷ [])
turned n x words few =
    sym (ap (λ l. l ++ take n (words ++ x ∷ [])) (drop-append-le n words (x ∷ []) few) ∙ ap (λ l. (drop n words ++ x ∷ []) ++ l) (take-append-le n words (x ∷ []) few)
    ∙ append_assoc (drop n words) (x ∷ []) (take n words))

-- the slot after the start
next_slot : (slots start : ℕ) → start < slots → (start + 1) % slots ≡ around slots (start + 1)
next_slot slots start inside = elim (lt_cases (start + 1) slots) [
  | inl less ↦ rw less.1 (mod-eq_of_lt less.0)
  | inr more ↦
      let end : start + 1 ≡ slots = (let m = more.0 in omega arith) in
      let none : 0 ≡ start + 1 - slots = omega arith in
      rw more.1 (ap (λ n. n % slots) end ∙ mod_self slots ∙ none)
]

turned_on : (slots start x : ℕ) (words : List ℕ) → suc (length words) ≡ slots → start < slots
    → rotated (slots - start) (x ∷ words) ≡ rotated (slots - around slots (start + 1)) (words ++ x ∷ [])
turned_on slots start x words long inside =
    let one : slots - start ≡ suc (slots - start - 1) = omega arith in
    ap (λ n. rotated n (x ∷ words)) one ∙ turned (slots - start - 1) x words (omega arith) ∙ elim (lt_cases (start + 1) slots) [
      | inl less ↦ (let same : slots - start - 1 ≡ slots - (start + 1) = omega arith in rw less.1 (ap (λ n. rotated n (words ++ x ∷ [])) same))
      | inr more ↦
          let last : slots - start - 1 ≡ 0 = (let m = more.0 in omega arith) in
          let all : slots - (start + 1 - slots) ≡ slots = (let m = more.0 in omega arith) in
          let many : length (words ++ x ∷ []) ≤ slots = (let l = length-append words (x ∷ []) in omega arith) in
          let whole = words ++ x ∷ [] in
          rw more.1 (ap (λ n. rotated n whole) last ∙ append-nil whole ∙ sym (ap (λ n. rotated n whole) all ∙ ap (λ l. l ++ take slots whole) (drop_all slots whole many) ∙ take_all slots whole many))
    ]

padded_more : (room : ℕ) (values : List ℕ) → length values ≤ room → padded (suc room) values ≡ padded room values ++ 0 ∷ []
padded_more zero [] few = refl
padded_more zero (v ∷ values) few = absurd (omega arith)
padded_more (suc room) [] few = ap (λ l. 0 ∷ l) (padded_more room [] (omega arith))
padded_more (suc room) (v ∷ values) few = ap (λ l. v ∷ l) (padded_more room values (omega arith))

-- The slots with a value more, and without the first one.
pushed_slots : (slots start v : ℕ) (values : List ℕ) → start ≤ slots → length values < slots
    → slice_set (rotated (slots - start) (padded slots values)) (around slots (start + length values)) v ≡ rotated (slots - start) (padded slots (values ++ v ∷ []))
pushed_slots slots start v values within less =
    set_slot slots start (length values) v (padded slots values) (length-padded slots values) within less ∙ ap (rotated (slots - start)) (pushed slots values v less)

taken_slots : (slots start : ℕ) (values : List ℕ) → start < slots → length values ≤ slots → 1 ≤ length values
    → slice_set (rotated (slots - start) (padded slots values)) start 0 ≡ rotated (slots - around slots (start + 1)) (padded slots (drop 1 values))
taken_slots slots start [] inside few some = absurd (omega arith)
taken_slots zero start (v ∷ values) inside few some = absurd (omega arith)
taken_slots (suc room) start (v ∷ values) inside few some =
    let slots = suc room in
    let first : start + 0 ≡ start = omega arith in
    let here : around slots (start + 0) ≡ start = ap (around slots) first ∙ rw (lt-ltb start slots inside) refl in
    ap (λ k. slice_set (rotated (slots - start) (v ∷ padded room values)) k 0) (sym here)
    ∙ set_slot slots start 0 0 (v ∷ padded room values) (ap suc (length-padded room values)) (omega arith) (omega arith)
    ∙ turned_on slots start 0 (padded room values) (ap suc (length-padded room values)) inside
    ∙ ap (rotated (slots - around slots (start + 1))) (sym (padded_more room values (omega arith)))

pub ring_long : (capacity : ℕ) → length (rotated (capacity - 0) (padded capacity [])) ≡ capacity
ring_long capacity = (let w = ring_wide capacity (record { start = 0; values = [] }) in omega arith)

-- a ring of zeros has no values
pub zero_ring : (capacity : ℕ) (state : List ℕ)
    → length state ≡ length (ring_words capacity (record { start = 0; values = [] }))
    → ((i : ℕ) → slice_index state i ≡ 0)
    → state ≡ ring_words capacity (record { start = 0; values = [] })
zero_ring capacity state long each =
    let slots = padded capacity [] in
    let few : length slots ≤ capacity = (let l = length-padded capacity [] in omega arith) in
    let all : capacity - 0 ≡ capacity = omega arith in
    let row = ap suc (length-padded (suc capacity) []) in
    let wide : length state ≡ suc (length (padded (suc capacity) []))
    = long ∙ ring_wide capacity (record { start = 0; values = [] }) ∙ sym row in
    zero_row (suc capacity) state wide each
    ∙ ap (λ l. 0 ∷ 0 ∷ l) (sym (ap (λ n. rotated n slots) all ∙ ap (λ l. l ++ take capacity slots) (drop_all capacity slots few) ∙ take_all capacity slots few))

-- what is so of each ring that calls lead to
record FitsIn (capacity : ℕ) (ring : Ring) : Type 0 where
  pub few : length ring.values ≤ capacity
  pub start : ring.start ≤ capacity - 1

ring_read : (capacity : ℕ) (ring : Ring) → FitsIn capacity ring → ring_in (ring_words capacity ring) ≡ ring
ring_read capacity ring fits = ap (λ (vs : List ℕ). the_ring vs) (ap (take (length ring.values))
    (rotated_back (capacity - ring.start) ring.start (padded capacity ring.values) (let l = length-padded capacity ring.values in let s = fits.start in omega (arith, l)))
    ∙ row_fits capacity ring.values fits.few) where
      the_ring : List ℕ → Ring
      the_ring vs = record { start = ring.start; values = vs }

module _ {I R : Type 0} (capacity : ℕ) (plain : Sequential (List ℕ) I R) where
  -- the values are those of the queue
  values_after : (ring : Ring) (is : List I)
      → (state_after (in_ring capacity plain) ring is).values ≡ state_after plain ring.values is
  values_after ring [] = refl
  values_after ring (i ∷ is) = values_after ((in_ring capacity plain).next ring i) is

  -- the start stays, or moves on
  stays : (ring : Ring) (inv : I) (more : List ℕ) → plain.next ring.values inv ≡ more → length ring.values ≤ length more
      → (in_ring capacity plain).next ring inv ≡ record { start = ring.start; values = more }
  stays ring inv more is long = rw (is, le-ltb (length more) (length ring.values) long) refl

  moves : (ring : Ring) (inv : I) (less : List ℕ) → plain.next ring.values inv ≡ less → length less < length ring.values → ring.start < capacity
      → (in_ring capacity plain).next ring inv ≡ record { start = around capacity (ring.start + 1); values = less }
  moves ring inv less is fewer inside =
      rw (is, lt-ltb (length less) (length ring.values) fewer, next_slot capacity ring.start inside) refl

  module _ (call_in : List ℕ → I) (spell : R → List ℕ) (empty : plain.initial ≡ [])
      (few : (values words : List ℕ) → length values ≤ capacity → length (plain.next values (call_in words)) ≤ capacity) where
    keeps : (ring : Ring) (words : List ℕ) → FitsIn capacity ring → FitsIn capacity ((in_ring capacity plain).next ring (call_in words))
    keeps ring words fits = record {
      few = few ring.values words fits.few;
      start = elim (lt_cases (length (plain.next ring.values (call_in words))) (length ring.values)) [
        | inl fewer ↦
            let some : 0 < capacity = (let f = fits.few in let l = fewer.0 in omega arith) in
            let below = mod-lt (ring.start + 1) some in
            rw fewer.1 (omega (arith, below))
        | inr more ↦ rw more.1 fits.start
      ];
    }

    reached : (ring : Ring) → IsStateOf (in_ring capacity plain) call_in ring → FitsIn capacity ring
    reached ring was =
        let none : length plain.initial ≡ 0 = ap length empty in
        kept_by_calls (in_ring capacity plain) call_in (FitsIn capacity) (record { few = omega arith; start = omega arith }) keeps ring was

    ring_fits : Fits (in_ring capacity plain) (ring_words capacity) ring_in call_in
    ring_fits ring was = ring_read capacity ring (reached ring was)

    -- words that calls lead to are those of a ring whose values calls lead to
    pub ring_of : (words : List ℕ) → IsReached (in_words (ring_queue capacity plain) call_in spell) words
        → HasRing capacity words × IsStateOf plain call_in (ring_in words).values
    ring_of words was =
        let h = reached_is (in_ring capacity plain) call_in (ring_words capacity) ring_in ring_fits spell words was in
        let fits = reached (ring_in words) h.0 in
        let long = ap length h.1 ∙ ring_wide capacity (ring_in words) in
        let count = ap (λ w. slice_index w 0) h.1 in
        let ring : IsRing words = record { wide = omega arith; few = omega arith; start = omega arith } in
        let after = values_after (in_ring capacity plain).initial (map call_in h.0.0) in (
          record { wide = omega arith; ring = ring; words_are = h.1 },
          (h.0.0, sym after ∙ ap (λ ring. ring.values) h.0.1),
        )

    -- after invocations in words
    module _ (is : List (List ℕ)) where
      abbrev pub last : List ℕ
      last = state_after (in_words (ring_queue capacity plain) call_in spell) (ring_queue capacity plain).initial is

      last_words : last ≡ ring_words capacity (state_after (in_ring capacity plain) (in_ring capacity plain).initial (map call_in is))
      last_words =
          after_in (ring_queue capacity plain) call_in spell (ring_queue capacity plain).initial is
          ∙ follows_plain (in_ring capacity plain) call_in (ring_words capacity) ring_in ring_fits is

      last_ring : ring_in last ≡ state_after (in_ring capacity plain) (in_ring capacity plain).initial (map call_in is)
      last_ring = ap ring_in last_words ∙ ring_fits _ (is, refl)

      pub last_is : last ≡ ring_words capacity (ring_in last)
      last_is = last_words ∙ ap (ring_words capacity) (sym last_ring)

      pub last_values : (ring_in last).values ≡ state_after plain plain.initial (map call_in is)
      last_values = ap (λ ring. ring.values) last_ring ∙ values_after (in_ring capacity plain).initial (map call_in is)

      pub next_reply : (i : List ℕ) → spell ((ring_queue capacity plain).answer last (call_in i)) ≡ spell (plain.answer (state_after plain plain.initial (map call_in is)) (call_in i))
      next_reply i = ap (λ values. spell (plain.answer values (call_in i))) last_values

-- the words of a queue, by its ring
module _ {capacity : ℕ} {words : List ℕ} (h : HasRing capacity words) where
  abbrev values : List ℕ
  values = (ring_in words).values

  abbrev start : ℕ
  start = slice_index words 1

  pub count_is : slice_index words 0 ≡ length values
  count_is = ap (λ w. slice_index w 0) h.words_are

  slots_are : length words - 2 ≡ capacity
  slots_are = (let w = h.wide in omega arith)

  first_place : first_slot words ≡ suc (suc start)
  first_place = omega arith

  end_place : end_slot words ≡ suc (suc (around capacity (start + length values)))
  end_place =
      let slot = around capacity (start + length values) in
      let two : 2 + slot ≡ suc (suc slot) = omega arith in
      ap (λ n. 2 + around n (start + slice_index words 0)) slots_are
      ∙ ap (λ c. 2 + around capacity (start + c)) count_is ∙ two

  pub first_is : 1 ≤ slice_index words 0 → slice_index words (first_slot words) ≡ slice_index values 0
  first_is some =
      ap (slice_index words) first_place ∙ ap (λ w. slice_index w (suc (suc start))) h.words_are
      ∙ index_start capacity start (padded capacity values) (length-padded capacity values) (omega arith)
      ∙ index-padded capacity values 0 (omega (arith, count_is))

  module _ {I R : Type 0} (plain : Sequential (List ℕ) I R) (inv : I) where
    -- a call that changes no value
    same_next : plain.next values inv ≡ values → words ≡ (ring_queue capacity plain).next words inv
    same_next is =
        h.words_are ∙ ap (ring_words capacity) (sym (stays capacity plain (ring_in words) inv values is (omega arith)))

    -- one that puts a value in, where there is room
    module _ (v : ℕ)
        (puts : plain.next values inv ≡ (if nat_lt (length values) capacity then values ++ v ∷ [] else values)) where
      pub put_next : slice_index words 0 < capacity → with_last words v ≡ (ring_queue capacity plain).next words inv
      put_next room =
          let less : length values < capacity = omega (arith, count_is) in
          let slot = around capacity (start + length values) in
          let more = values ++ v ∷ [] in
          let longer = length-append values (v ∷ []) in
          let one : slice_index words 0 + 1 ≡ length more = omega (arith, count_is) in
          let within : start ≤ capacity = (let s = h.ring.start in let w = h.wide in omega arith) in
          let after : plain.next values inv ≡ more = puts ∙ rw (lt-ltb (length values) capacity less) refl in
          ap (λ k. slice_set (slice_set words k v) 0 (slice_index words 0 + 1)) end_place
          ∙ ap (λ w. slice_set (slice_set w (suc (suc slot)) v) 0 (slice_index words 0 + 1)) h.words_are
          ∙ ap (λ n. n ∷ start ∷ slice_set (rotated (capacity - start) (padded capacity values)) slot v) one
          ∙ ap (λ l. length more ∷ start ∷ l) (pushed_slots capacity start v values within less)
          ∙ ap (ring_words capacity) (sym (stays capacity plain (ring_in words) inv more after (omega arith)))

      pub full_next : capacity ≤ slice_index words 0 → words ≡ (ring_queue capacity plain).next words inv
      full_next full = same_next (puts ∙ rw (le-ltb (length values) capacity (omega (arith, count_is))) refl)

      pub put_alike : (i : ℕ) → 2 ≤ i → i ≢ end_slot words → slice_index ((ring_queue capacity plain).next words inv) i ≡ slice_index words i
      put_alike i slot other = elim (lt_cases (slice_index words 0) capacity) [
        | inl less ↦
            ap (λ w. slice_index w i) (sym (put_next less.0))
            ∙ get_or-set_other (slice_set words (end_slot words) v) 0 i (slice_index words 0 + 1) 0 (λ e. omega (arith, e)) ∙ get_or-set_other words (end_slot words) i v 0 other
        | inr more ↦ ap (λ w. slice_index w i) (sym (full_next more.0))
      ]

    -- and one that takes the oldest value out, where there is one
    module _ (takes : plain.next values inv ≡ drop 1 values) where
      pub take_next : 1 ≤ slice_index words 0 → without_first words ≡ (ring_queue capacity plain).next words inv
      take_next some =
          let c = count_is in
          let others = drop 1 values in
          let l = length-drop 1 values in
          let inside : start < capacity = omega arith in
          let slot = around (length words - 2) (start + 1) in
          let next = around capacity (start + 1) in
          let n = slice_index words 0 - 1 in
          let fewer : n ≡ length others = omega arith in
          ap (λ k. slice_set (slice_set (slice_set words k 0) 1 slot) 0 n) first_place
          ∙ ap (λ w. slice_set (slice_set (slice_set w (suc (suc start)) 0) 1 slot) 0 n) h.words_are
          ∙ ap (λ s. n ∷ around s (start + 1) ∷ slice_set (rotated (capacity - start) (padded capacity values)) start 0)
          slots_are
          ∙ ap (λ l. n ∷ next ∷ l) (taken_slots capacity start values inside (omega arith) (omega arith))
          ∙ ap (λ n. n ∷ next ∷ rotated (capacity - next) (padded capacity others)) fewer
          ∙ ap (ring_words capacity) (sym (moves capacity plain (ring_in words) inv others takes (omega arith) inside))

      pub none_next : slice_index words 0 ≡ 0 → words ≡ (ring_queue capacity plain).next words inv
      none_next none =
          let nil : values ≡ [] = nil_from_length values (sym count_is ∙ none) in
          same_next (takes ∙ ap (drop 1) nil ∙ sym nil)

      pub take_alike : (i : ℕ) → 2 ≤ i → i ≢ first_slot words → slice_index ((ring_queue capacity plain).next words inv) i ≡ slice_index words i
      take_alike i slot other = elim (lt_cases 0 (slice_index words 0)) [
        | inl some ↦
            let next = around (length words - 2) (start + 1) in
            let without = slice_set words (first_slot words) 0 in
            ap (λ w. slice_index w i) (sym (take_next (let s = some.0 in omega arith)))
            ∙ get_or-set_other (slice_set without 1 next) 0 i (slice_index words 0 - 1) 0 (λ e. omega (arith, e)) ∙ get_or-set_other without 1 i next 0 (λ e. omega (arith, e))
            ∙ get_or-set_other words (first_slot words) i 0 0 other
        | inr none ↦ ap (λ w. slice_index w i) (sym (none_next (let n = none.0 in omega arith)))
      ]
