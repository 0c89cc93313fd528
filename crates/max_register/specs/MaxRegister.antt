-- A max-register: its state is the greatest number that was written.
use Rattle.std.specs.Prelude.{◌≡◌, ℕ, ◌%◌, ◌^◌, max, refl}
use Rattle.seq_object.specs.Sequential.{Sequential}

abbrev pub max_register : Sequential ℕ ℕ ℕ
max_register = record { initial = 0; next = λ value inv. max value (inv % 2 ^ 31); answer = λ value inv. value }

next-greater : max_register.next 3 7 ≡ 7
next-greater = refl

next-less : max_register.next 7 3 ≡ 7
next-less = refl

answer-before : max_register.answer 7 9 ≡ 7
answer-before = refl
