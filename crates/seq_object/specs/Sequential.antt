-- A deterministic sequential object, as a value: its start state, and for each state and invocation one next state and one
-- response (Herlihy 1991, section 2).
use Rattle.std.specs.Prelude.{◌≡◌, ℕ, ◌+◌, refl}

pub record Sequential (S I R : Type 0) : Type 0 where
  -- the start state
  pub initial : S
  -- the state after an invocation in a state
  pub next : S → I → S
  -- the response to an invocation in a state
  pub answer : S → I → R

-- a counter: each invocation is a number that is added, and the response is the sum before
abbrev pub counter : Sequential ℕ ℕ ℕ
counter = record { initial = 0; next = λ sum number. sum + number; answer = λ sum number. sum }

counter-next : counter.next 5 3 ≡ 8
counter-next = refl

counter-answer : counter.answer 5 3 ≡ 5
counter-answer = refl
