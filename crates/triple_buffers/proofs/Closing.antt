-- What a closed table shows.
use Rattle.std.proofs.Common.{if◌then◌else◌, nat_lt, slice_index_or}
use Rattle.std.specs.Mem.Slots.{slots_items}
use Rattle.std.specs.declared.alloc.Global.{Global}
use Rattle.atomic_table.specs.declared.owned.Closed.{Closed}
use Rattle.triple_buffers.specs.Closed.{layout_in, value_at, value_in, word_in}
use Rattle.triple_buffers.specs.declared.closed.ClosedBuffers.{ClosedBuffers}
use Rattle.triple_buffers.proofs.Vocabulary.{Contents, Fits, Keeps, Layout, List, None, Option, ShowsContents, Sight, Some, State, [], ap, arith, at_map, client_of, get_elem?, inl, inr, lt_cases, refl, slice_index, slot_at, some, some-injective, some-ne-none, subst, suc, sym, word_at, word_of, zero, ℕ, ◌%◌, ◌<◌, ◌∙◌, ◌∷◌, ◌≡◌, ◌≤◌}

-- an element that is there, with any default
pub there : {A : Type 0} (xs : List A) (i : ℕ) (a d : A) → get_elem? xs i ≡ some a → slice_index_or xs i d ≡ a
there [] i a d e = absurd (some-ne-none a (sym e))
there (x ∷ xs) zero a d e = some-injective x a e
there (x ∷ xs) (suc i) a d e = there xs i a d e

-- what the slots have, where the word of a buffer is this
abbrev pub found_at : {T : Type 0} (layout : Layout) (slots : List (Option T)) → (from to word : ℕ) → Option T
found_at layout slots from to word = if nat_lt word 4 then None else slice_index_or slots (slot_at layout from to (word % 4)) None

module _ {T V : Type 0} (layout : Layout) (holds : Contents T V → Type 0) (last : State (Option T) (Sight V)) (shown : ShowsContents layout holds last) (words : List ℕ) (words_are : last.words ≡ words) (slots : List (Option T))
    (slots_are : (k : ℕ) (y : Option T) → get_elem? last.homes k ≡ some (some y) → get_elem? slots k ≡ some y) where
  abbrev c : Contents T V
  c = shown.0

  abbrev middle : ℕ → ℕ → ℕ
  middle = shown.2.1.0

  fits : Fits layout c shown.2.0 middle shown.2.1.1.0 last
  fits = shown.2.1.1.1

  pub closed_known : (id : ℕ) (v : Sight V) → get_elem? last.views id ≡ some v → get_elem? c.views id ≡ some v.client
  closed_known id v at = ap (λ vs. get_elem? vs id) fits.clients ∙ at_map client_of last.views id v at

  pub closed_word : (i : ℕ) → i < layout.words → slice_index words i ≡ c.words i
  closed_word i inside = ap (λ ws. slice_index ws i) (sym words_are) ∙ fits.words_are.client i inside

  module _ (from to : ℕ) (from_in : from < layout.parties) (to_in : to < layout.parties) where
    abbrev word : ℕ
    word = slice_index words (word_at layout from to)

    buffer : word ≡ word_of (c.buffers from to) (middle from to)
    buffer = ap (λ ws. slice_index ws (word_at layout from to)) (sym words_are) ∙ fits.words_are.buffer from to from_in to_in

    middle_in : middle from to < 3
    middle_in = (fits.ends_are.three from to from_in to_in).middle_in

    -- the word names one of the three slots
    pub closed_place : word % 4 < 3
    closed_place = by (c.buffers from to) buffer where
      by : (b : Option T) → word ≡ word_of b (middle from to) → word % 4 < 3
      by None e = (let m = middle_in in omega (arith, e))
      by (Some x) e = (let m = middle_in in omega (arith, e))

    -- and where it says that a value lies there, the value that was written last does
    pub closed_value : found_at layout slots from to word ≡ c.buffers from to
    closed_value = by (c.buffers from to) buffer between.0 between.1 between.2 where
      between : (y : Option T) × (get_elem? last.homes (slot_at layout from to (middle from to)) ≡ some (some y)) × Keeps (c.buffers from to) y
      between = fits.slots_are.between from to from_in to_in

      by : (b : Option T) → word ≡ word_of b (middle from to) → (y : Option T) → get_elem? last.homes (slot_at layout from to (middle from to)) ≡ some (some y) → Keeps b y → found_at layout slots from to word ≡ b
      by None e y at keeps = elim (lt_cases word 4) [
        | inl less ↦ rw less.1 refl
        | inr more ↦ absurd (let m = middle_in in let a = more.0 in omega (arith, e))
      ]
      by (Some x) e y at keeps = elim (lt_cases word 4) [
        | inl less ↦ absurd (let a = less.0 in omega (arith, e))
        | inr more ↦ rw more.1 (
            let place : word % 4 ≡ middle from to = (let m = middle_in in omega (arith, e)) in
            ap (λ k. slice_index_or slots (slot_at layout from to k) None) place ∙ there slots (slot_at layout from to (middle from to)) y None (slots_are (slot_at layout from to (middle from to)) y at) ∙ keeps)
      ]

-- what is read of the parts of what is closed
module _ {T : Type 0} (parts : Layout × ℕ × Closed (Option T) Global) (closed : ClosedBuffers T) (are : parts ≡ (closed.layout, closed.party, closed.table)) (from : ℕ) (from_in : from < (layout_in closed).parties) (word : ℕ)
    (read : get_elem? (slots_items parts.2.words) (word_at parts.0 from parts.1) ≡ some word) where
  word_is : word ≡ word_in closed (word_at closed.layout from closed.party)
  word_is = sym (there (slots_items parts.2.words) (word_at parts.0 from parts.1) word 0 read) ∙ ap (λ (r : Layout × ℕ × Closed (Option T) Global). slice_index (slots_items r.2.words) (word_at r.0 from r.1)) are

  pub parts_inside : (from < parts.0.parties) × (parts.1 < parts.0.parties) × (word % 4 < 3)
  parts_inside = subst (λ (r : Layout × ℕ × Closed (Option T) Global). (from < r.0.parties) × (r.1 < r.0.parties) × (word % 4 < 3)) (sym are) (
    from_in,
    closed.laid.inside,
    subst (λ w. w % 4 < 3) (sym word_is) (closed.laid.places from from_in),
  )

  pub none_there : word < 4 → None ≡ value_in closed from
  none_there less = elim (lt_cases word 4) [
    | inl below ↦ (let e : value_at closed from word ≡ None = rw below.1 refl in sym e) ∙ ap (value_at closed from) word_is
    | inr above ↦ absurd (let a = above.0 in omega (arith, less))
  ]

  pub some_there : 4 ≤ word → slice_index_or (slots_items parts.2.slots) (slot_at parts.0 from parts.1 (word % 4)) None ≡ value_in closed from
  some_there more = elim (lt_cases word 4) [
    | inl below ↦ absurd (let a = below.0 in omega (arith, more))
    | inr above ↦
        let here : value_at closed from word ≡ slice_index_or (slots_items closed.table.slots) (slot_at closed.layout from closed.party (word % 4)) None = rw above.1 refl in
        ap (λ (r : Layout × ℕ × Closed (Option T) Global). slice_index_or (slots_items r.2.slots) (slot_at r.0 from r.1 (word % 4)) None) are ∙ sym here ∙ ap (value_at closed from) word_is
  ]
