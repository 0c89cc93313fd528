-- The bound on a call's turns and own steps.
use Rattle.std.specs.Prelude.{◌≡◌, ℕ, ◌+◌, ◌*◌, ◌<◌, ◌≤◌, Option, None, Some, refl}
use Rattle.uni_model.specs.Stages.{Pending}
use Rattle.uni_model.specs.Worlds.{WorldOf}

-- the most own steps of a call among n processes
abbrev pub most_steps : (n : ℕ) → ℕ
most_steps n = 10 * n + 12

-- A process's latest call; it began among so many processes. A turn is a try to add a cell: a test that finds no number
-- yet. While the call is pending, there are as many processes as then, and it has taken at most n + 1 turns and fewer
-- than 10n + 12 own steps. Once it has returned, it has taken at most among + 1 turns, and exactly 2 * among + 4 + 8 *
-- turns own steps: so at most 10 * among + 12.
abbrev pub IsWithinBound : (n : ℕ) → Option Pending → (begun among steps turns : ℕ) → Type 0
IsWithinBound n None begun among steps turns = (turns ≤ among + 1) × (1 ≤ begun → steps ≡ 2 * among + 4 + 8 * turns)
IsWithinBound n (Some c) begun among steps turns = (among ≡ n) × (turns ≤ n + 1) × (steps < most_steps n)

-- so has every process's latest call
abbrev pub IsBounded : {S I R : Type 0} → WorldOf S I R → Type 0
IsBounded w = (p : ℕ) → IsWithinBound w.n (w.call p) (w.begun p) (w.among p) (w.steps p) (w.turns p)

-- of two processes: the most own steps, and those of a call that returned after three turns
sample_most : most_steps 2 ≡ 32
sample_most = refl

sample_returned : 2 * 2 + 4 + 8 * 3 ≡ most_steps 2
sample_returned = refl
