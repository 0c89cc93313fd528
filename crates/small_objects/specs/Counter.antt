-- A counter.
use Rattle.std.specs.Prelude.{◌≡◌, ℕ, ◌+◌, ◌%◌, ◌^◌, List, [], ◌∷◌, refl, slice_index, slice_set}
use Rattle.seq_object.specs.Sequential.{Sequential}

-- the state after an invocation, which adds its number modulo 2^64
abbrev pub added : List ℕ → (inv : ℕ) → List ℕ
added state inv = slice_set state 0 ((slice_index state 0 + inv) % 2 ^ 64)

-- a counter of one word, from 0: the reply is the sum before
abbrev pub counter : Sequential (List ℕ) ℕ ℕ
counter = record { initial = 0 ∷ []; next = added; answer = λ state inv. slice_index state 0 }

sample_added : counter.next (5 ∷ []) 3 ≡ 8 ∷ []
sample_added = refl

sample_wrapped : counter.next (18446744073709551615 ∷ []) 3 ≡ 2 ∷ []
sample_wrapped = refl
