-- The queue of scripts on words: what its steps do to its values.
use Rattle.small_objects.proofs.Vocabulary.{Added, Empty, IsReached, List, None, Option, Some, Taken, [], ap, arith, drop, inl, inr, kept_by_calls, le-ltb, length, lt-ltb, lt_cases, nil_from_length, refl, slice_index, suc, sym, zero, ℕ, ◌++◌, ◌<◌, ◌∙◌, ◌∷◌, ◌≡◌, ◌≤◌}
use Rattle.ready_objects.specs.Queue.{queue}
use Rattle.ready_objects.specs.declared.queue.QueueInv.{QueueInv}
use Rattle.ready_objects.specs.declared.queue.QueueInv.TheVariants.{Deq, Enq}
use Rattle.ready_objects.specs.declared.queue.QueueResp.TheVariants.{Full}
use Rattle.small_objects.specs.Amount.{IsAmount, amount_in, amount_in-IsAmount}
use Rattle.small_objects.specs.Ring.{HasRing, first_slot, ring_in}
use Rattle.small_objects.specs.ScriptQueue.{call_in, put_of, queue_of, reply_to, reply_words, spelled, values_after}
use Rattle.small_objects.proofs.Rings.{count_is, first_is, ring_of}
use Rattle.small_objects.proofs.Rows.{more_few}

-- all values are amounts
abbrev AreSmall : List ℕ → Type 0
AreSmall values = (i : ℕ) → slice_index values i ≤ 999999999999

more_small : (values : List ℕ) (v : ℕ) → AreSmall values → v ≤ 999999999999 → AreSmall (values ++ v ∷ [])
more_small [] v small is zero = is
more_small [] v small is (suc i) = omega arith
more_small (x ∷ values) v small is zero = small 0
more_small (x ∷ values) v small is (suc i) = more_small values v (λ j. small (suc j)) is i

module _ (capacity : ℕ) where
  pub takes : (values : List ℕ) → values_after capacity values Deq ≡ drop 1 values
  takes [] = refl
  takes (v ∷ values) = refl

  -- no more values than fit, and all of them amounts
  pub script_few : (values words : List ℕ) → length values ≤ capacity → length (values_after capacity values (call_in words)) ≤ capacity
  script_few values words few = by_call values few (call_in words) where
    by_call : (values : List ℕ) → length values ≤ capacity → (call : QueueInv) → length (values_after capacity values call) ≤ capacity
    by_call values few (Enq v) = (more_few capacity values v few).0
    by_call [] few Deq = few
    by_call (x ∷ values) few Deq = omega arith

  keeps_small : (values : List ℕ) (put : Option ℕ) → IsAmount put → AreSmall values → AreSmall (values_after capacity values (put_of put))
  keeps_small values (Some v) is small = elim (lt_cases (length values) capacity) [
    | inl less ↦ rw less.1 (more_small values v small is)
    | inr more ↦ rw more.1 small
  ]
  keeps_small [] None is small = small
  keeps_small (x ∷ values) None is small = λ i. small (suc i)

  module _ (words : List ℕ) (reached : IsReached (spelled capacity).object words) where
    pub is_script : HasRing capacity words
    is_script = (ring_of capacity (queue_of capacity) call_in reply_words refl script_few words reached).0

    pub are_small : AreSmall (ring_in words).values
    are_small =
        kept_by_calls (queue_of capacity) call_in AreSmall (λ i. omega arith)
        (λ before words small. keeps_small before (amount_in words) (amount_in-IsAmount words) small)
        (ring_in words).values
        (ring_of capacity (queue_of capacity) call_in reply_words refl script_few words reached).1

-- the replies, by the words
module _ {capacity : ℕ} {words : List ℕ} (h : HasRing capacity words) where
  pub added_reply : (v : ℕ) → slice_index words 0 < capacity → Added ≡ reply_to capacity (ring_in words).values (Enq v)
  added_reply v room = rw (lt-ltb (length (ring_in words).values) capacity (omega (arith, count_is h))) refl

  pub refused_reply : (v : ℕ) → capacity ≤ slice_index words 0 → Full ≡ reply_to capacity (ring_in words).values (Enq v)
  refused_reply v full = rw (le-ltb (length (ring_in words).values) capacity (omega (arith, count_is h))) refl

  pub nothing_reply : slice_index words 0 ≡ 0 → Empty ≡ reply_to capacity (ring_in words).values Deq
  nothing_reply none = rw (nil_from_length (ring_in words).values (sym (count_is h) ∙ none)) refl

  pub taken_reply : 1 ≤ slice_index words 0
      → Taken (slice_index words (first_slot words)) ≡ reply_to capacity (ring_in words).values Deq
  taken_reply some = ap Taken (first_is h some) ∙ by_values (ring_in words).values (omega (arith, count_is h)) where
    by_values : (values : List ℕ) → 1 ≤ length values → Taken (slice_index values 0) ≡ reply_to capacity values Deq
    by_values [] some = absurd (omega arith)
    by_values (v ∷ values) some = refl

-- a queue with room for 1,000 is that of scripts
pub next_is : (values : List ℕ) (call : QueueInv) → (queue_of 1000).next values call ≡ queue.next values call
next_is values (Enq v) = refl
next_is [] Deq = refl
next_is (v ∷ values) Deq = refl

pub answer_is : (values : List ℕ) (call : QueueInv) → (queue_of 1000).answer values call ≡ queue.answer values call
answer_is values (Enq v) = refl
answer_is [] Deq = refl
answer_is (v ∷ values) Deq = refl

-- and one with less room, as long as there is some
pub same_below : (capacity : ℕ) (values : List ℕ) (call : QueueInv) → length values < capacity → capacity ≤ 1000
    → ((queue_of capacity).next values call ≡ queue.next values call) × ((queue_of capacity).answer values call ≡ queue.answer values call)
same_below capacity values (Enq v) less most =
    rw (lt-ltb (length values) capacity less, lt-ltb (length values) 1000 (omega arith)) (refl, refl)
same_below capacity [] Deq less most = (refl, refl)
same_below capacity (v ∷ values) Deq less most = (refl, refl)
