-- How far a call has come: its own steps and its turns, by where its process stands.
use Rattle.std.specs.Prelude.{◌≡◌, ℕ, ◌+◌, ◌-◌, ◌*◌, ◌≤◌, Option, None, Some}
use Rattle.uni_model.specs.Stages.{Stage, Pending}
use Rattle.uni_model.specs.Stages.Stage.{Announce, ScanHead, ScanSeq, WriteScan, Test, ReadAnnounce, ReadHelpSeq, DecideAfter, DecideNew}
use Rattle.uni_model.specs.Stages.Stage.{WriteBefore, WriteSeq, WriteHead, Finish}
use Rattle.uni_model.specs.Worlds.{WorldOf, sum_below, calls_in_era}

-- how many calls the present era has
abbrev pub era_calls : {S I R : Type 0} → WorldOf S I R → ℕ
era_calls w = sum_below w.n (calls_in_era w)

-- the own steps that a call has taken when its process stands at a stage, after so many turns: the announcement, two for
-- each of n heads and the write of the best of them; then eight a turn, and the test that finds the number
abbrev pub steps_at : (n : ℕ) → Stage → (turns : ℕ) → ℕ
steps_at n Announce turns = 0
steps_at n (ScanHead q best best_seq) turns = 1 + 2 * q
steps_at n (ScanSeq q best best_seq h) turns = 2 + 2 * q
steps_at n (WriteScan best best_seq) turns = 1 + 2 * n
steps_at n (Test c c_seq) turns = 2 + 2 * n + 8 * turns
steps_at n (ReadAnnounce c c_seq) turns = 3 + 2 * n + 8 * (turns - 1)
steps_at n (ReadHelpSeq c c_seq help) turns = 4 + 2 * n + 8 * (turns - 1)
steps_at n (DecideAfter c c_seq prefer) turns = 5 + 2 * n + 8 * (turns - 1)
steps_at n (DecideNew c c_seq d) turns = 6 + 2 * n + 8 * (turns - 1)
steps_at n (WriteBefore c c_seq d) turns = 7 + 2 * n + 8 * (turns - 1)
steps_at n (WriteSeq c c_seq d) turns = 8 + 2 * n + 8 * (turns - 1)
steps_at n (WriteHead c c_seq d) turns = 9 + 2 * n + 8 * (turns - 1)
steps_at n (Finish c_seq mine_seq) turns = 3 + 2 * n + 8 * turns

-- how many turns a call can have at a stage: none before its first test, and within a turn at least that one
abbrev pub HasTurns : Stage → ℕ → Type 0
HasTurns Announce turns = turns ≡ 0
HasTurns (ScanHead q best best_seq) turns = turns ≡ 0
HasTurns (ScanSeq q best best_seq h) turns = turns ≡ 0
HasTurns (WriteScan best best_seq) turns = turns ≡ 0
HasTurns (Test c c_seq) turns = Unit {0}
HasTurns (ReadAnnounce c c_seq) turns = 1 ≤ turns
HasTurns (ReadHelpSeq c c_seq help) turns = 1 ≤ turns
HasTurns (DecideAfter c c_seq prefer) turns = 1 ≤ turns
HasTurns (DecideNew c c_seq d) turns = 1 ≤ turns
HasTurns (WriteBefore c c_seq d) turns = 1 ≤ turns
HasTurns (WriteSeq c c_seq d) turns = 1 ≤ turns
HasTurns (WriteHead c c_seq d) turns = 1 ≤ turns
HasTurns (Finish c_seq mine_seq) turns = Unit {0}

-- the own steps of a process's latest call, by where the process stands and by the call's turns; once the call has
-- returned, 2n + 4 and eight for each turn, for the n processes among which it ran
abbrev pub IsCounted : (n : ℕ) → Option Pending → (begun among steps turns : ℕ) → Type 0
IsCounted n None begun among steps turns = 1 ≤ begun → steps ≡ 2 * among + 4 + 8 * turns
IsCounted n (Some c) begun among steps turns = (among ≡ n) × HasTurns c.stage turns × (steps ≡ steps_at n c.stage turns)

-- the own steps of every process's latest call are counted so
abbrev pub CountsSteps : {S I R : Type 0} → WorldOf S I R → Type 0
CountsSteps w = (p : ℕ) → IsCounted w.n (w.call p) (w.begun p) (w.among p) (w.steps p) (w.turns p)
