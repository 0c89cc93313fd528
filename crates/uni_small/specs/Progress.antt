-- What is said of the steps that a call takes in an execution.
use Rattle.std.specs.Prelude.{◌≡◌, Bool, true, ℕ, ◌+◌, ◌≤◌, ◌<◌, if◌then◌else◌, List, []}
use Rattle.seq_object.specs.Sequential.{Sequential}
use Rattle.uni_model.specs.Executions as Executions
use Rattle.uni_small.specs.View.{Local, Stage}
use Rattle.uni_small.specs.View.Stage.{Idle}
use Rattle.uni_small.specs.Standing.{call_steps}
use Rattle.uni_small.specs.Execution.{CanTake, Execution, Moment, Next, after, last_moment, opened_moment}
use Rattle.uni_small.specs.Execution.Next.{Store, Announce, Follow, Recall, TryDirectly, Confirm}
use Rattle.uni_small.specs.Execution.Next.{Recount, Reread, Restart}
use Rattle.uni_small.specs.declared.sizes.Sizes.{Sizes}

-- A process is in the midst of a call, or of a read: at each stage but `Idle`; and there too, where it has stored words
-- of the invocation, or its direct attempt has failed.
abbrev pub IsUnderWay : Stage → (direct : Bool) → Type 0
IsUnderWay (Idle []) direct = direct ≡ true
IsUnderWay stage direct = Unit {0}

module _ (object : Sequential (List ℕ) (List ℕ) (List ℕ)) (sizes : Sizes) where
  -- How many word steps the latest call has taken after `next`, where it had taken `taken` before. A call's first step
  -- begins a direct attempt, or, where none was made, stores the first word of its invocation, or announces the call
  -- where it has no words. To ask which version has come is no step of a call, and neither is what a new owner of its
  -- seat loads before the call begins again, from which on it is counted. A read is no call: it begins as a direct
  -- attempt, and where it ends nothing counts.
  abbrev pub counted : {p : ℕ} {l : Local} → Next object sizes p l → (taken : ℕ) → ℕ
  counted {l = l} (Store [] x at inside room) taken = if l.direct then taken + 1 else 1
  counted {l = l} (Announce [] at whole few) taken = if l.direct then taken + 1 else 1
  counted (Follow at) taken = taken
  counted (Recall read at had) taken = taken
  counted (TryDirectly at untried few) taken = 1
  counted (Confirm s copy at copied direct) taken = 0
  counted Recount taken = taken
  counted (Reread which k either below) taken = taken
  counted Restart taken = 0
  counted next taken = taken + 1

  -- how many word steps process p has taken for its latest call at the end, where it had taken so many before
  abbrev pub steps_of_call : (p taken : ℕ) {m : Moment} → Execution object sizes m → ℕ
  steps_of_call p taken e =
      Executions.steps_of_call sizes.processes (CanTake object sizes) (after object sizes) (λ m q next. counted next) p taken e

  -- no call of an execution from the opening takes more steps than this, counted since it last began again, whatever
  -- the other processes do
  abbrev pub KeepsBound : Execution object sizes (opened_moment object sizes) → Type 0
  KeepsBound e = (p : ℕ) → p < sizes.processes → steps_of_call p 0 e ≤ call_steps sizes

  -- a step that process p can take next for its call: it is counted as one more
  abbrev pub StepOfCall : (p : ℕ) → Local → Type 0
  StepOfCall p l = (next : Next object sizes p l) × ((taken : ℕ) → counted next taken ≡ taken + 1)

  -- wherever an execution from the opening has come to, a process in the midst of a call can take a step of that call
  abbrev pub NeverBlocks : Execution object sizes (opened_moment object sizes) → Type 0
  NeverBlocks e = (p : ℕ) → p < sizes.processes
      → IsUnderWay ((last_moment object sizes e).local p).stage ((last_moment object sizes e).local p).direct
      → StepOfCall p ((last_moment object sizes e).local p)
