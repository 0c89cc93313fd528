-- A register that keeps the last number, and answers the one before.
use Rattle.std.specs.Prelude.{◌≡◌, ℕ, [], ◌∷◌, Some, refl}
use Rattle.seq_object.specs.Sequential.{Sequential}
use Rattle.seq_object.specs.History.{response_at}

abbrev pub swap_register : (start : ℕ) → Sequential ℕ ℕ ℕ
swap_register start = record { initial = start; next = λ before number. number; answer = λ before number. before }

-- from 9, the calls with 5 and 7 are answered 9 and 5
swap_register-first : response_at (swap_register 9) 9 (5 ∷ 7 ∷ []) 0 ≡ Some 9
swap_register-first = refl

swap_register-second : response_at (swap_register 9) 9 (5 ∷ 7 ∷ []) 1 ≡ Some 5
swap_register-second = refl
