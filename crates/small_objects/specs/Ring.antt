-- A queue in a ring of slots: a value stays in the slot that it was put in, and the slot of the oldest one moves.
use Rattle.std.specs.Prelude.{◌≡◌, ◌≤◌, ℕ, suc, ◌+◌, ◌-◌, ◌%◌, List, [], ◌∷◌, ◌++◌, refl, length, take, drop, slice_index, slice_set, nat_lt, if◌then◌else◌}
use Rattle.std.proofs.Common.{◌∙◌, ap, sym}
use Rattle.std.proofs.Math.Nat.{add_comm}
use Rattle.std.proofs.lemmas.List.{length-append, take-append-drop}
use Rattle.seq_object.specs.Sequential.{Sequential}
use Rattle.small_objects.specs.Encoding.{encoded}
use Rattle.small_objects.specs.Padded.{length-padded, padded}

-- the slot of the oldest value, and the values, the oldest one first
pub record Ring : Type 0 where
  pub start : ℕ
  pub values : List ℕ

-- the words with the first n of them behind the others
abbrev pub rotated : (n : ℕ) → List ℕ → List ℕ
rotated n words = drop n words ++ take n words

-- How many values there are, the slot of the oldest one, and the slots. Value i stands in slot (start + i) modulo
-- their number, and 0 in each slot without a value.
abbrev pub ring_words : (capacity : ℕ) → Ring → List ℕ
ring_words capacity ring = length ring.values ∷ ring.start ∷ rotated (capacity - ring.start) (padded capacity ring.values)

-- the ring in such words
abbrev pub ring_in : List ℕ → Ring
ring_in words = record {
  start = slice_index words 1;
  values = take (slice_index words 0) (rotated (slice_index words 1) (drop 2 words));
}

-- where the ring starts after a call, by the values after it: where there are fewer, one slot further
abbrev pub start_after : (capacity : ℕ) → Ring → List ℕ → ℕ
start_after capacity ring values = if nat_lt (length values) (length ring.values) then (ring.start + 1) % capacity else ring.start

module _ {I R : Type 0} (capacity : ℕ) (plain : Sequential (List ℕ) I R) where
  -- A queue, whose state is the list of its values, in a ring of so many slots: values and replies are the queue's.
  abbrev pub in_ring : Sequential Ring I R
  in_ring = record {
    initial = record { start = 0; values = plain.initial };
    next = λ ring inv. record {
      start = start_after capacity ring (plain.next ring.values inv);
      values = plain.next ring.values inv;
    };
    answer = λ ring inv. plain.answer ring.values inv;
  }

  -- the same on the ring's words
  abbrev pub ring_queue : Sequential (List ℕ) I R
  ring_queue = encoded in_ring (ring_words capacity) ring_in

-- the slot that a place is, which is one of the first round or the next
abbrev pub around : (slots place : ℕ) → ℕ
around slots place = if nat_lt place slots then place else place - slots

-- the word of the oldest value's slot, and that of the slot behind the newest value's
abbrev pub first_slot : List ℕ → ℕ
first_slot words = 2 + slice_index words 1

abbrev pub end_slot : List ℕ → ℕ
end_slot words = 2 + around (length words - 2) (slice_index words 1 + slice_index words 0)

-- the words with one value more, behind the others; and without the oldest one
abbrev pub with_last : List ℕ → (value : ℕ) → List ℕ
with_last words value = slice_set (slice_set words (end_slot words) value) 0 (slice_index words 0 + 1)

abbrev pub without_first : List ℕ → List ℕ
without_first words =
    let next = around (length words - 2) (slice_index words 1 + 1) in
    slice_set (slice_set (slice_set words (first_slot words) 0) 1 next) 0 (slice_index words 0 - 1)

-- there are no more values than slots, and the start is a slot, or 0 where there is none
pub record IsRing (words : List ℕ) : Type 0 where
  pub wide : 2 ≤ length words
  pub few : slice_index words 0 ≤ length words - 2
  pub start : slice_index words 1 ≤ length words - 3

-- words of the ring in them, of so many slots
pub record HasRing (capacity : ℕ) (words : List ℕ) : Type 0 where
  pub wide : length words ≡ capacity + 2
  pub ring : IsRing words
  pub words_are : words ≡ ring_words capacity (ring_in words)

-- a ring has as many words for all values
pub length-rotated : (n : ℕ) (words : List ℕ) → length (rotated n words) ≡ length words
length-rotated n words =
    length-append (drop n words) (take n words) ∙ add_comm (length (drop n words)) (length (take n words))
    ∙ sym (length-append (take n words) (drop n words)) ∙ ap length (take-append-drop n words)

pub ring_wide : (capacity : ℕ) (ring : Ring) → length (ring_words capacity ring) ≡ suc (suc capacity)
ring_wide capacity ring =
    let row = padded capacity ring.values in
    ap (λ n. suc (suc n)) (length-rotated (capacity - ring.start) row ∙ length-padded capacity ring.values)

pub ring_steady : {I R : Type 0} (capacity : ℕ) (plain : Sequential (List ℕ) I R) (state : List ℕ) (inv : I)
    → length ((ring_queue capacity plain).next state inv) ≡ length (ring_queue capacity plain).initial
ring_steady capacity plain state inv =
    ring_wide capacity ((in_ring capacity plain).next (ring_in state) inv)
    ∙ sym (ring_wide capacity (in_ring capacity plain).initial)

-- three values in four slots, the oldest one in the last slot, behind which comes the first one
sample_words : ring_words 4 (record { start = 3; values = 7 ∷ 8 ∷ 9 ∷ [] }) ≡ 3 ∷ 3 ∷ 8 ∷ 9 ∷ 0 ∷ 7 ∷ []
sample_words = refl

sample_ring : ring_in (3 ∷ 3 ∷ 8 ∷ 9 ∷ 0 ∷ 7 ∷ []) ≡ record { start = 3; values = 7 ∷ 8 ∷ 9 ∷ [] }
sample_ring = refl

-- one more value, and the oldest one out
sample_last : with_last (3 ∷ 3 ∷ 8 ∷ 9 ∷ 0 ∷ 7 ∷ []) 6 ≡ 4 ∷ 3 ∷ 8 ∷ 9 ∷ 6 ∷ 7 ∷ []
sample_last = refl

sample_first : without_first (3 ∷ 3 ∷ 8 ∷ 9 ∷ 0 ∷ 7 ∷ []) ≡ 2 ∷ 0 ∷ 8 ∷ 9 ∷ 0 ∷ 0 ∷ []
sample_first = refl
