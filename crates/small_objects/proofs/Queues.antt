-- The bounded queue: its invocations on a list of values, and on a ring of words.
use Rattle.small_objects.proofs.Vocabulary.{IsReached, List, [], arith, bounded_queue, drop, first_word, if◌then◌else◌, le-ltb, length, lt-ltb, nat_lt, one_word, queue, queue_answer, queue_next, refl, slice_index, suc, zero, ℕ, ◌++◌, ◌<◌, ◌∷◌, ◌≡◌, ◌≢◌, ◌≤◌}
use Rattle.std.proofs.lemmas.List.{length-drop}
use Rattle.small_objects.specs.Encoding.{of_one_word}
use Rattle.small_objects.specs.Ring.{HasRing, ring_in}
use Rattle.small_objects.proofs.Rings.{count_is, ring_of}
use Rattle.small_objects.proofs.Rows.{more_few}

-- a number that isn't 0 is put in, and 0 takes one out
pub puts : (capacity : ℕ) (values : List ℕ) (inv : ℕ) → inv ≢ 0 → queue_next capacity values inv ≡ (if nat_lt (length values) capacity then values ++ inv ∷ [] else values)
puts capacity values zero some = absurd (some refl)
puts capacity values (suc i) some = refl

pub takes : (capacity : ℕ) (values : List ℕ) (inv : ℕ) → inv ≡ 0 → queue_next capacity values inv ≡ drop 1 values
takes capacity values inv none = rw none refl

-- no more values than fit
pub queue_few : (capacity : ℕ) (values words : List ℕ) → length values ≤ capacity → length (queue_next capacity values (first_word words)) ≤ capacity
queue_few capacity values words few = by_word (first_word words) where
  by_word : (inv : ℕ) → length (queue_next capacity values inv) ≤ capacity
  by_word zero = (let l = length-drop 1 values in omega arith)
  by_word (suc i) = (more_few capacity values (suc i) few).0

pub is_queue : (capacity : ℕ) (words : List ℕ) → IsReached (of_one_word (queue capacity)).object words
    → HasRing capacity words
is_queue capacity words reached =
    (ring_of capacity (bounded_queue capacity) first_word one_word refl (queue_few capacity) words reached).0

-- what a number is told that goes in, or doesn't
module _ {capacity : ℕ} {words : List ℕ} (h : HasRing capacity words) where
  pub put_reply : (inv : ℕ) → inv ≢ 0 → slice_index words 0 < capacity → 1 ≡ queue_answer capacity (ring_in words).values inv
  put_reply zero some room = absurd (some refl)
  put_reply (suc i) some room = rw (lt-ltb (length (ring_in words).values) capacity (omega (arith, count_is h))) refl

  pub full_reply : (inv : ℕ) → inv ≢ 0 → capacity ≤ slice_index words 0 → 0 ≡ queue_answer capacity (ring_in words).values inv
  full_reply zero some full = absurd (some refl)
  full_reply (suc i) some full = rw (le-ltb (length (ring_in words).values) capacity (omega (arith, count_is h))) refl
