-- The two ready objects of words.
use Rattle.std.specs.Prelude.{◌≡◌, ℕ, zero, suc, ◌+◌, ◌%◌, ◌^◌, refl, if◌then◌else◌, nat_lt}
use Rattle.seq_object.specs.Sequential.{Sequential}

-- the state of a sticky register after an invocation: 0 is unset, and v + 1 the value v; an invocation from 1 to
-- 1000000000 sticks the value that is one less, which changes only the unset state, and each other one only reads
abbrev pub stuck : (state inv : ℕ) → ℕ
stuck zero inv = if nat_lt 1000000000 inv then 0 else inv
stuck (suc v) inv = suc v

-- a sticky register replies the state afterwards
abbrev pub sticky : Sequential ℕ ℕ ℕ
sticky = record { initial = 0; next = stuck; answer = stuck }

-- a sum modulo 2^31, which replies the sum before
abbrev pub tally : Sequential ℕ ℕ ℕ
tally = record { initial = 0; next = λ sum inv. (sum + inv) % 2 ^ 31; answer = λ sum inv. sum }

sticky-read : sticky.answer 0 0 ≡ 0
sticky-read = refl

sticky-set : sticky.next 0 8 ≡ 8
sticky-set = refl

sticky-stays : sticky.next 8 10 ≡ 8
sticky-stays = refl

sticky-greatest : sticky.next 0 1000000000 ≡ 1000000000
sticky-greatest = refl

sticky-past : sticky.next 0 1000000001 ≡ 0
sticky-past = refl

tally-next : tally.next 5 3 ≡ 8
tally-next = refl

tally-wraps : tally.next 2147483647 3 ≡ 2
tally-wraps = refl

tally-answer : tally.answer 5 3 ≡ 5
tally-answer = refl

sticky-least : sticky.next 0 1 ≡ 1
sticky-least = refl

sticky-greatest-answer : sticky.answer 0 1000000000 ≡ 1000000000
sticky-greatest-answer = refl

tally-greatest : tally.next 2147483646 1 ≡ 2147483647
tally-greatest = refl

tally-modulus : tally.next 2147483647 1 ≡ 0
tally-modulus = refl
