-- A register of 64 bits, and the calls that its invocations make.
use Rattle.std.specs.Prelude.{◌≡◌, ℕ, ◌==◌, if◌then◌else◌, List, [], ◌∷◌, length, refl, slice_index, slice_set}
use Rattle.seq_object.specs.Sequential.{Sequential}
use Rattle.uni_small.specs.Image.{Meaning}
use Rattle.small_objects.specs.Encoding.{in_words, one_word}
use Rattle.small_objects.specs.declared.register.RegisterCall.{RegisterCall}
use Rattle.small_objects.specs.declared.register.RegisterCall.TheVariants.{Read, Write, CompareExchange}

-- the value after a call
abbrev pub value_after : (value : ℕ) → RegisterCall → ℕ
value_after value Read = value
value_after value (Write v) = v
value_after value (CompareExchange expected v) = if value == expected then v else value

-- a register of one word, from 0: the reply to each call is the value before
abbrev pub register : Sequential (List ℕ) RegisterCall ℕ
register = record {
  initial = 0 ∷ [];
  next = λ state call. slice_set state 0 (value_after (slice_index state 0) call);
  answer = λ state call. slice_index state 0;
}

-- the words of a call: which one it is, and its numbers
abbrev pub call_words : RegisterCall → List ℕ
call_words Read = 0 ∷ 0 ∷ 0 ∷ []
call_words (Write value) = 1 ∷ value ∷ 0 ∷ []
call_words (CompareExchange expected value) = 2 ∷ expected ∷ value ∷ []

-- the call that words are
abbrev pub call_in : List ℕ → RegisterCall
call_in words =
    if slice_index words 0 == 1 then Write (slice_index words 1)
    else if slice_index words 0 == 2 then CompareExchange (slice_index words 1) (slice_index words 2) else Read

pub call_long : (call : RegisterCall) → length (call_words call) ≡ 3
call_long Read = refl
call_long (Write value) = refl
call_long (CompareExchange expected value) = refl

pub call_fits : (call : RegisterCall) → call_in (call_words call) ≡ call
call_fits Read = refl
call_fits (Write value) = refl
call_fits (CompareExchange expected value) = refl

-- the register with its calls and replies in words
abbrev pub spelled : Meaning
spelled = record { object = in_words register call_in one_word; invocation = 3; reply = 1 }

sample_exchanged : register.next (3 ∷ []) (CompareExchange 3 18446744073709551615) ≡ 18446744073709551615 ∷ []
sample_exchanged = refl

sample_refused : register.next (4 ∷ []) (CompareExchange 3 9) ≡ 4 ∷ []
sample_refused = refl

sample_spelled : spelled.object.next (3 ∷ []) (2 ∷ 3 ∷ 9 ∷ []) ≡ 9 ∷ []
sample_spelled = refl

sample_other : call_in (3 ∷ 9 ∷ 9 ∷ []) ≡ Read
sample_other = refl
