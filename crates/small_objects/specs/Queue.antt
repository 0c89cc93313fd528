-- A bounded queue: its state is the list of its values, the oldest one first.
use Rattle.std.specs.Prelude.{◌≡◌, ℕ, zero, suc, List, [], ◌∷◌, ◌++◌, refl, length, drop, slice_index, nat_lt, if◌then◌else◌}
use Rattle.seq_object.specs.Sequential.{Sequential}
use Rattle.small_objects.specs.Ring.{ring_queue, ring_steady}

-- The values after an invocation: 0 takes the oldest one out, and another number goes in behind the others, where there is room.
abbrev pub queue_next : (capacity : ℕ) → List ℕ → (inv : ℕ) → List ℕ
queue_next capacity values zero = drop 1 values
queue_next capacity values (suc i) = if nat_lt (length values) capacity then values ++ suc i ∷ [] else values

-- the reply to it: the value that was taken out, or 0 where there was none; 1 to a value that went in, and 0 to one that did not
abbrev pub queue_answer : (capacity : ℕ) → List ℕ → (inv : ℕ) → ℕ
queue_answer capacity values zero = slice_index values 0
queue_answer capacity values (suc i) = if nat_lt (length values) capacity then 1 else 0

abbrev pub bounded_queue : (capacity : ℕ) → Sequential (List ℕ) ℕ ℕ
bounded_queue capacity = record { initial = []; next = queue_next capacity; answer = queue_answer capacity }

-- the queue on words: how many values there are, the slot of the oldest one, and a ring of slots
abbrev pub queue : (capacity : ℕ) → Sequential (List ℕ) ℕ ℕ
queue capacity = ring_queue capacity (bounded_queue capacity)

-- all its states have as many words
pub queue_steady : (capacity : ℕ) (state : List ℕ) (inv : ℕ) → length state ≡ length (queue capacity).initial → length ((queue capacity).next state inv) ≡ length (queue capacity).initial
queue_steady capacity state inv long = ring_steady capacity (bounded_queue capacity) state inv

-- behind the last slot comes the first one: 9 goes in there, and then 8 is taken out of the last
sample_in : (queue 4).next (1 ∷ 3 ∷ 0 ∷ 0 ∷ 0 ∷ 8 ∷ []) 9 ≡ 2 ∷ 3 ∷ 9 ∷ 0 ∷ 0 ∷ 8 ∷ []
sample_in = refl

sample_out : (queue 4).next (2 ∷ 3 ∷ 9 ∷ 0 ∷ 0 ∷ 8 ∷ []) 0 ≡ 1 ∷ 0 ∷ 9 ∷ 0 ∷ 0 ∷ 0 ∷ []
sample_out = refl

sample_oldest : (queue 4).answer (2 ∷ 3 ∷ 9 ∷ 0 ∷ 0 ∷ 8 ∷ []) 0 ≡ 8
sample_oldest = refl

-- an empty one stays where it is
sample_none : (queue 4).next (0 ∷ 3 ∷ 0 ∷ 0 ∷ 0 ∷ 0 ∷ []) 0 ≡ 0 ∷ 3 ∷ 0 ∷ 0 ∷ 0 ∷ 0 ∷ []
sample_none = refl

sample_empty : (queue 4).answer (0 ∷ 3 ∷ 0 ∷ 0 ∷ 0 ∷ 0 ∷ []) 0 ≡ 0
sample_empty = refl

sample_full : (queue 4).next (4 ∷ 3 ∷ 2 ∷ 3 ∷ 4 ∷ 1 ∷ []) 9 ≡ 4 ∷ 3 ∷ 2 ∷ 3 ∷ 4 ∷ 1 ∷ []
sample_full = refl

sample_refused : (queue 4).answer (4 ∷ 3 ∷ 2 ∷ 3 ∷ 4 ∷ 1 ∷ []) 9 ≡ 0
sample_refused = refl

sample_no_room : (queue 0).next (0 ∷ 0 ∷ []) 9 ≡ 0 ∷ 0 ∷ []
sample_no_room = refl
