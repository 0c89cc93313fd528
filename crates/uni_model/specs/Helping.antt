-- How calls are helped: what every world that is reached keeps besides the invariant, so that no call takes many turns.
use Rattle.std.specs.Prelude.{◌≡◌, ◌≢◌, ℕ, ◌+◌, ◌<◌, ◌≤◌, ◌%◌, ◌⊎◌, None, Some}
use Rattle.seq_object.specs.Sequential.{Sequential}
use Rattle.uni_model.specs.Places.{Name, Memory, announce_of, head_of, head_seq, seq_of}
use Rattle.uni_model.specs.Places.Name.{Anchor}
use Rattle.uni_model.specs.Stages.{Stage, Pending}
use Rattle.uni_model.specs.Stages.Stage.{Announce, ScanHead, ScanSeq, WriteScan, Test, ReadAnnounce, ReadHelpSeq, DecideAfter, DecideNew}
use Rattle.uni_model.specs.Stages.Stage.{WriteBefore, WriteSeq, WriteHead, Finish}
use Rattle.uni_model.specs.Worlds.{WorldOf}
use Rattle.uni_model.specs.Invariant.{IsPast, IsSound}

-- one of the processes from q on has a head with at least this number
abbrev pub SomeHead : {S I R : Type 0} → Memory S I R → (n q s : ℕ) → Type 0
SomeHead m n q s = (r : ℕ) × (q ≤ r) × (r < n) × (s ≤ head_seq m r)

-- The scan of a call finds at least this number, with the heads as they are where it hasn't read them yet. Each turn moves
-- the process's head by one from the number that its scan has found.
abbrev pub Finds : {S I R : Type 0} → Memory S I R → (n : ℕ) → Stage → (turns s : ℕ) → Type 0
Finds m n Announce turns s = SomeHead m n 0 s
Finds m n (ScanHead q best best_seq) turns s = (s ≤ best_seq) ⊎ SomeHead m n q s
Finds m n (ScanSeq q best best_seq h) turns s = (s ≤ best_seq) ⊎ ((s ≤ seq_of m h) ⊎ SomeHead m n (q + 1) s)
Finds m n (WriteScan best best_seq) turns s = s ≤ best_seq
Finds m n (Test c c_seq) turns s = s + turns ≤ c_seq
Finds m n (ReadAnnounce c c_seq) turns s = s + turns ≤ c_seq + 1
Finds m n (ReadHelpSeq c c_seq help) turns s = s + turns ≤ c_seq + 1
Finds m n (DecideAfter c c_seq prefer) turns s = s + turns ≤ c_seq + 1
Finds m n (DecideNew c c_seq d) turns s = s + turns ≤ c_seq + 1
Finds m n (WriteBefore c c_seq d) turns s = s + turns ≤ c_seq + 1
Finds m n (WriteSeq c c_seq d) turns s = s + turns ≤ c_seq + 1
Finds m n (WriteHead c c_seq d) turns s = s + turns ≤ c_seq + 1
Finds m n (Finish c_seq mine_seq) turns s = s + turns ≤ c_seq

-- p announces its cell in its first step
abbrev pub Announces : {S I R : Type 0} → Memory S I R → (p : ℕ) → (mine : Name) → Stage → Type 0
Announces m p mine Announce = announce_of m p ≢ mine
Announces m p mine _ = announce_of m p ≡ mine

-- once the scan of p has come past p's own head, it has found at least its number
abbrev pub CountsOwnHead : {S I R : Type 0} → Memory S I R → (p : ℕ) → Stage → Type 0
CountsOwnHead m p (ScanHead q best best_seq) = p < q → head_seq m p ≤ best_seq
CountsOwnHead m p (ScanSeq q best best_seq h) = (p < q → head_seq m p ≤ best_seq) × (q ≡ p → h ≡ head_of m p)
CountsOwnHead m p (WriteScan best best_seq) = head_seq m p ≤ best_seq
CountsOwnHead m p _ = Unit {0}

-- after the first turn, mine isn't linked, or p's head hasn't come past it
abbrev pub IsAhead : (Name → ℕ) → (mine : Name) → Stage → (turns : ℕ) → Type 0
IsAhead num mine (Test c c_seq) turns = (turns ≡ 0) ⊎ ((num mine ≡ 0) ⊎ (c_seq ≤ num mine))
IsAhead num mine (ReadAnnounce c c_seq) turns = IsPast num mine c_seq
IsAhead num mine (ReadHelpSeq c c_seq help) turns = IsPast num mine c_seq
IsAhead num mine (DecideAfter c c_seq prefer) turns = IsPast num mine c_seq
IsAhead num mine (DecideNew c c_seq d) turns = IsPast num mine c_seq
IsAhead num mine (WriteBefore c c_seq d) turns = IsPast num mine c_seq
IsAhead num mine (WriteSeq c c_seq d) turns = IsPast num mine c_seq
IsAhead num mine (WriteHead c c_seq d) turns = IsPast num mine c_seq
IsAhead num mine (Finish c_seq mine_seq) turns = (turns ≡ 0) ⊎ ((num mine ≡ 0) ⊎ (c_seq ≤ num mine))
IsAhead num mine _ turns = Unit {0}

-- what holds of the cell that a process may link at its stage, and of the number that it may link it after
abbrev pub OfConsidered : Stage → (ℕ → Name → Type 0) → Type 0
OfConsidered (ReadHelpSeq c c_seq help) Holds = Holds c_seq help
OfConsidered (DecideAfter c c_seq prefer) Holds = Holds c_seq prefer
OfConsidered _ Holds = Unit {0}

-- Of p's pending call: no number whose remainder is p, of a cell that another one is linked after, is past what p's scan
-- finds, as long as mine isn't linked; and mine gets a number at most n + 1 past it.
pub record IsHelped {S I R : Type 0} (m : Memory S I R) (num : Name → ℕ) (last n p : ℕ) (mine : Name) (stage : Stage)
    (turns : ℕ) : Type 0 where
  pub announced : Announces m p mine stage
  pub own_head : CountsOwnHead m p stage
  pub ahead : IsAhead num mine stage turns
  pub anchor : Finds m n stage turns (num Anchor)
  pub unlinked : num mine ≡ 0 → (s : ℕ) → s % n ≡ p → num Anchor ≤ s → s < last → Finds m n stage turns s
  pub linked : (s : ℕ) × Finds m n stage turns s × (num mine ≤ s + n + 1)

-- What a process may link after the cell with the number s, and p's pending call: x isn't p's cell before p announces it; and
-- where it is p's turn to be helped and x is another cell, p's scan finds s.
pub record IsFair {S I R : Type 0} (m : Memory S I R) (num : Name → ℕ) (n p : ℕ) (mine : Name) (stage : Stage) (turns s : ℕ)
    (x : Name) : Type 0 where
  pub unknown : stage ≡ Announce → x ≢ mine
  pub help : num mine ≡ 0 → x ≢ mine → s % n ≡ p → Finds m n stage turns s

abbrev pub IsFairToAll : {S I R : Type 0} → WorldOf S I R → (Name → ℕ) → (s : ℕ) → (x : Name) → Type 0
IsFairToAll w num s x = (p : ℕ) (c : Pending) → w.call p ≡ Some c → IsFair w.memory num w.n p c.mine c.stage (w.turns p) s x

-- what every world that is reached keeps, for the numbers of its cells
pub record Helps {S I R : Type 0} (w : WorldOf S I R) (num : Name → ℕ) (last : ℕ) : Type 0 where
  pub each : (p : ℕ) (c : Pending) → w.call p ≡ Some c → IsHelped w.memory num last w.n p c.mine c.stage (w.turns p)
  pub fair : (o : ℕ) (d : Pending) → w.call o ≡ Some d → OfConsidered d.stage (λ s x. IsFairToAll w num s x)
  pub heads : (s : ℕ) → num Anchor ≤ s → s < last → SomeHead w.memory w.n 0 s
  pub returned : (p : ℕ) → w.call p ≡ None → w.turns p ≤ w.among p + 1

-- the invariant, with what helps each pending call, for the same numbers
abbrev pub HelpingInvariant : {S I R : Type 0} → Sequential S I R → WorldOf S I R → Type 0
HelpingInvariant object w = (num : Name → ℕ) × (last : ℕ) × IsSound object w num last × Helps w num last
