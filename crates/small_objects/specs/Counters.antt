-- An array of counters.
use Rattle.std.specs.Prelude.{◌≡◌, ℕ, ◌+◌, ◌%◌, ◌^◌, List, [], ◌∷◌, refl, replicate, slice_index, slice_set}
use Rattle.seq_object.specs.Sequential.{Sequential}
use Rattle.uni_small.specs.Image.{Meaning}
use Rattle.small_objects.specs.Encoding.{in_words, one_word}
use Rattle.small_objects.specs.declared.counters.CountersCall.{CountersCall}

-- So many counters modulo 2^64, each from 0. A call adds its operand to one of them, by its index, and the reply is the number before.
-- One that names none changes nothing, and the reply is 0.
abbrev pub counters : (count : ℕ) → Sequential (List ℕ) CountersCall ℕ
counters count = record {
  initial = replicate count 0;
  next = λ state call. slice_set state call.counter ((slice_index state call.counter + call.operand) % 2 ^ 64);
  answer = λ state call. slice_index state call.counter;
}

-- the words of a call, and the call that words are
abbrev pub call_words : CountersCall → List ℕ
call_words call = call.counter ∷ call.operand ∷ []

abbrev pub call_in : List ℕ → CountersCall
call_in words = record { counter = slice_index words 0; operand = slice_index words 1 }

-- the counters with their calls and replies in words
abbrev pub spelled : (count : ℕ) → Meaning
spelled count = record { object = in_words (counters count) call_in one_word; invocation = 2; reply = 1 }

sample_next : (counters 3).next (4 ∷ 5 ∷ 6 ∷ []) (record { counter = 1; operand = 7 }) ≡ 4 ∷ 12 ∷ 6 ∷ []
sample_next = refl

sample_answer : (counters 3).answer (4 ∷ 5 ∷ 6 ∷ []) (record { counter = 1; operand = 7 }) ≡ 5
sample_answer = refl

sample_none : (counters 3).next (4 ∷ 5 ∷ 6 ∷ []) (record { counter = 3; operand = 7 }) ≡ 4 ∷ 5 ∷ 6 ∷ []
sample_none = refl

sample_spelled : (spelled 3).object.answer (4 ∷ 5 ∷ 6 ∷ []) (2 ∷ 9 ∷ []) ≡ 6 ∷ []
sample_spelled = refl
