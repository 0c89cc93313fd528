-- Where a process stands, as the code has it and as the definitions do; and the transition of each stage.
use Rattle.std.specs.Prelude.{◌≡◌, ◌≢◌, ℕ, ◌<◌, ◌^◌, Option, Some, None, IsSome}
use Rattle.seq_object.specs.Sequential.{Sequential}
use Rattle.cell_arena.specs.Arena.{processes_of, cell_of}
use Rattle.uni_model.specs.Places.{Name, memory_with, inv_of, new_of}
use Rattle.uni_model.specs.Stages.{Pending as PendingAt}
use Rattle.uni_model.specs.Stages.{Stage as at}
use Rattle.uni_model.specs.Chain.{response_in}
use Rattle.uni_model.specs.Transition.{place_of, response_after}
use Rattle.uni_model.specs.Effects.{Effect, effect_of}
use Rattle.uni_core.specs.declared.stage.Stage.{Stage}
use Rattle.uni_core.specs.declared.stage.Stage.TheVariants.{Announce, ScanHead, ScanSeq, WriteScan, Test, ReadAnnounce, ReadHelpSeq}
use Rattle.uni_core.specs.declared.stage.Stage.TheVariants.{DecideAfter, DecideNew, WriteBefore, WriteSeq, WriteHead, Finish}
use Rattle.uni_core.specs.declared.stage.Pending.{Pending}
use Rattle.uni_core.specs.SharedEntries.{SharedEntries, named, memory_of, HasShapeOf}

-- the stage, with names for indices
abbrev pub stage_of : (name : ℕ → Name) → Stage → at
stage_of name Announce = at.Announce
stage_of name (ScanHead q best best_seq) = at.ScanHead q (name best) best_seq
stage_of name (ScanSeq q best best_seq head) = at.ScanSeq q (name best) best_seq (name head)
stage_of name (WriteScan best best_seq) = at.WriteScan (name best) best_seq
stage_of name (Test c c_seq) = at.Test (name c) c_seq
stage_of name (ReadAnnounce c c_seq) = at.ReadAnnounce (name c) c_seq
stage_of name (ReadHelpSeq c c_seq help) = at.ReadHelpSeq (name c) c_seq (name help)
stage_of name (DecideAfter c c_seq prefer) = at.DecideAfter (name c) c_seq (name prefer)
stage_of name (DecideNew c c_seq d) = at.DecideNew (name c) c_seq (name d)
stage_of name (WriteBefore c c_seq d) = at.WriteBefore (name c) c_seq (name d)
stage_of name (WriteSeq c c_seq d) = at.WriteSeq (name c) c_seq (name d)
stage_of name (WriteHead c c_seq d) = at.WriteHead (name c) c_seq (name d)
stage_of name (Finish c_seq mine_seq) = at.Finish c_seq mine_seq

abbrev pub pending_of : (name : ℕ → Name) → Pending → PendingAt
pending_of name call = record { mine = name call.mine; stage = stage_of name call.stage }

-- what the step of a process comes to at these shared places
abbrev pub effect_at : {S I R : Type 0} → Sequential S I R → SharedEntries S I R → (p : ℕ) → (mine : Name) → at → Effect S I R
effect_at object a p mine stage =
    effect_of object (processes_of a.cells) mine stage (memory_of a (place_of (processes_of a.cells) p mine stage)) (memory_of a)

-- that step changes what its place contains
abbrev pub ChangesAt : {S I R : Type 0} → Sequential S I R → SharedEntries S I R → (p : ℕ) → (mine : Name) → at → Type 0
ChangesAt object a p mine stage =
    (effect_at object a p mine stage).content ≢ memory_of a (place_of (processes_of a.cells) p mine stage)

-- where a process stands after a step that left this stage, with the response where its call has ended
abbrev pub stage_left : {R : Type 0} → Stage → Option R → Option Stage
stage_left stage None = Some stage
stage_left stage (Some response) = None

-- the process has taken the step of its stage: one place is written, it stands where it stands after it, and has this response
pub record Takes {S I R : Type 0} (object : Sequential S I R) (p : ℕ) (mine : Name) (from : at)
    (old new : SharedEntries S I R) (to : Option at)
    (response : Option R) : Type 0 where
  pub shape : HasShapeOf old new
  pub memory : memory_of new ≡ memory_with (memory_of old) (place_of (processes_of old.cells) p mine from)
      (effect_at object old p mine from).content
  pub stage : to ≡ (effect_at object old p mine from).stage
  pub told : response ≡ response_after mine from (memory_of old)

-- there is a cell at the index
abbrev pub IsThere : {S I R : Type 0} → SharedEntries S I R → ℕ → Type 0
IsThere a id = IsSome (cell_of a.cells id)

-- the cells that a step touches are there, and its numbers fit
abbrev pub CanStep : {S I R : Type 0} → SharedEntries S I R → (mine : ℕ) → Stage → Type 0
CanStep a mine Announce = Unit {0}
CanStep a mine (ScanHead q best best_seq) = q < processes_of a.cells
CanStep a mine (ScanSeq q best best_seq head) = (q < processes_of a.cells) × IsThere a head
CanStep a mine (WriteScan best best_seq) = Unit {0}
CanStep a mine (Test c c_seq) = IsThere a mine
CanStep a mine (ReadAnnounce c c_seq) = Unit {0}
CanStep a mine (ReadHelpSeq c c_seq help) = IsThere a help
CanStep a mine (DecideAfter c c_seq prefer) = IsThere a c
CanStep a mine (DecideNew c c_seq d) =
    IsThere a c × IsThere a d × IsSome (new_of (memory_of a) (named a c)) × IsSome (inv_of (memory_of a) (named a d))
CanStep a mine (WriteBefore c c_seq d) = IsThere a d
CanStep a mine (WriteSeq c c_seq d) = IsThere a d × (c_seq < 2 ^ 48)
CanStep a mine (WriteHead c c_seq d) = c_seq < 2 ^ 48
CanStep a mine (Finish c_seq mine_seq) = IsThere a mine × IsSome (response_in (memory_of a) (named a mine))

-- the step may be refused memory: it has to apply the object
abbrev pub MayBeRefused : {S I R : Type 0} → SharedEntries S I R → Stage → Type 0
MayBeRefused a (DecideNew c c_seq d) = new_of (memory_of a) (named a d) ≡ None
MayBeRefused a _ = ⊥

-- how many turns begin with this stage
abbrev pub turns_to : Stage → ℕ
turns_to (ReadAnnounce c c_seq) = 1
turns_to _ = 0
