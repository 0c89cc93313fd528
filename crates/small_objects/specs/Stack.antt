-- A bounded stack: its state is the list of its values, the newest one last.
use Rattle.std.specs.Prelude.{◌≡◌, ◌≤◌, ℕ, ◌+◌, zero, suc, ◌-◌, List, [], ◌∷◌, ◌++◌, refl, length, take, slice_index, nat_lt, if◌then◌else◌}
use Rattle.seq_object.specs.Sequential.{Sequential}
use Rattle.small_objects.specs.Encoding.{encoded}
use Rattle.small_objects.specs.Padded.{row_of, row_wide, values_in}

-- The values after an invocation: 0 takes the newest one off, and another number goes on the others, where there is room.
abbrev pub stack_next : (capacity : ℕ) → List ℕ → (inv : ℕ) → List ℕ
stack_next capacity values zero = take (length values - 1) values
stack_next capacity values (suc i) = if nat_lt (length values) capacity then values ++ suc i ∷ [] else values

-- the reply to it: the value that was taken off, or 0 where there was none; 1 to a value that went on, and 0 to one that did not
abbrev pub stack_answer : (capacity : ℕ) → List ℕ → (inv : ℕ) → ℕ
stack_answer capacity values zero = slice_index values (length values - 1)
stack_answer capacity values (suc i) = if nat_lt (length values) capacity then 1 else 0

abbrev pub bounded_stack : (capacity : ℕ) → Sequential (List ℕ) ℕ ℕ
bounded_stack capacity = record { initial = []; next = stack_next capacity; answer = stack_answer capacity }

-- the stack on words: how many values there are, and then they
abbrev pub stack : (capacity : ℕ) → Sequential (List ℕ) ℕ ℕ
stack capacity = encoded (bounded_stack capacity) (row_of capacity) values_in

-- words of the values in them, of which there are no more than fit
pub record IsStack (capacity : ℕ) (words : List ℕ) : Type 0 where
  pub wide : length words ≡ capacity + 1
  pub few : slice_index words 0 ≤ capacity
  pub words_are : words ≡ row_of capacity (values_in words)

-- all its states have as many words
pub stack_steady : (capacity : ℕ) (state : List ℕ) (inv : ℕ) → length state ≡ length (stack capacity).initial → length ((stack capacity).next state inv) ≡ length (stack capacity).initial
stack_steady capacity state inv long = row_wide capacity (stack_next capacity (values_in state) inv)

sample_on : (stack 4).next (1 ∷ 8 ∷ 0 ∷ 0 ∷ 0 ∷ []) 9 ≡ 2 ∷ 8 ∷ 9 ∷ 0 ∷ 0 ∷ []
sample_on = refl

sample_off : (stack 4).next (2 ∷ 8 ∷ 9 ∷ 0 ∷ 0 ∷ []) 0 ≡ 1 ∷ 8 ∷ 0 ∷ 0 ∷ 0 ∷ []
sample_off = refl

sample_newest : (stack 4).answer (2 ∷ 8 ∷ 9 ∷ 0 ∷ 0 ∷ []) 0 ≡ 9
sample_newest = refl

sample_empty : (stack 4).answer (0 ∷ 0 ∷ 0 ∷ 0 ∷ 0 ∷ []) 0 ≡ 0
sample_empty = refl

sample_refused : (stack 4).answer (4 ∷ 1 ∷ 2 ∷ 3 ∷ 4 ∷ []) 9 ≡ 0
sample_refused = refl
