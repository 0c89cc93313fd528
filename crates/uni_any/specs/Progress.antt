-- What is said of the steps that a call takes in an execution.
use Rattle.std.specs.Prelude.{◌≡◌, ◌≢◌, ℕ, ◌+◌, ◌≤◌, ◌<◌}
use Rattle.seq_object.specs.Sequential.{Sequential}
use Rattle.uni_any.specs.Board.{block_news, call_news}
use Rattle.uni_any.specs.Execution.{CanTake, Execution, Moment, after, last_moment, opened_moment}
use Rattle.uni_any.specs.Execution.Next.{Bring, Fail, Post, See, Start, View}
use Rattle.uni_model.specs.Executions as Executions
use Rattle.uni_any.specs.Invariant.{base_of}
use Rattle.uni_any.specs.News.{drafted, told_by}
use Rattle.uni_any.specs.Seats.{call_steps}
use Rattle.uni_any.specs.Shown.{Letter}
use Rattle.uni_any.specs.declared.view.Local.{Local}
use Rattle.uni_any.specs.declared.view.Stage.{Stage}
use Rattle.uni_any.specs.declared.view.Stage.TheVariants.{Idle, Posting, Reading, Writing}

-- How many steps are counted of a call that goes on: none where it begins, or where it was left in an attempt, for want of
-- memory, and goes on by a load of S.
abbrev pub so_far : {I S R : Type 0} → Stage I S R → (taken : ℕ) → ℕ
so_far Idle taken = 0
so_far (Reading inv tries count) taken = 0
so_far stage taken = taken

module _ {S I R : Type 0} (object : Sequential S I R) (n : ℕ) where
  -- how many steps on words such a step takes, at most: a write takes two, and so does a look that takes what is there
  abbrev pub steps_of_one : (m : Moment I S R) (p : ℕ) → CanTake object n m p → ℕ
  steps_of_one m p (Start inv tries pending) = 1
  steps_of_one m p (Bring inv tries image reply lays same has) = 1
  steps_of_one m p (Fail inv tries image lays other) = 1
  steps_of_one m p (View idle) = 1
  steps_of_one m p step = 2

  -- how many steps on words the latest call of process p has taken after this step, where it had taken `taken` before; to
  -- look which version has come is no step of a call
  abbrev pub counted : (m : Moment I S R) (p : ℕ) → CanTake object n m p → (taken : ℕ) → ℕ
  counted m p (Post inv r letter posts inside few tells) taken = so_far (m.local p).stage taken + 2
  counted m p (Start inv tries pending) taken = so_far (m.local p).stage taken + 1
  counted m p (View idle) taken = taken
  counted m p (See r idle inside named follows) taken = taken
  counted m p step taken = taken + steps_of_one m p step

  -- how many process p has taken for its latest call at the end, since that last began anew, where it had taken so many
  -- before
  abbrev pub steps_of_call : (p taken : ℕ) {m : Moment I S R} → Execution object n m → ℕ
  steps_of_call p taken e = Executions.steps_of_call n (CanTake object n) (after object n) counted p taken e

  -- No call of an execution from the opening takes more steps on words than this, whatever the other processes do,
  -- counted since it last began anew by a load of S in the midst of a look: how often it does has no bound here.
  abbrev pub KeepsBound : Execution object n (opened_moment object n) → Type 0
  KeepsBound e = (p : ℕ) → p < n → steps_of_call p 0 e ≤ call_steps n

  -- The memory for what a process writes next is there: a shared pointer (`Arc`) to its invocation, or to its block. At
  -- other stages it writes nothing.
  abbrev pub HasLetter : Local I S R → Stage I S R → Type 0
  HasLetter l (Posting inv count) = count < n → (letter : Letter I S R) × (told_by letter ≡ call_news l inv)
  HasLetter l (Reading inv tries count) = count ≡ n
      → (letter : Letter I S R) × (told_by letter ≡ block_news l inv (drafted object (base_of object n l).image l.seen))
  HasLetter l (Writing inv tries image count) =
      count < n → (letter : Letter I S R) × (told_by letter ≡ block_news l inv image)
  HasLetter l stage = Unit {0}

  -- a step of its call which process p can take: it is counted with those before it
  abbrev pub StepOfCall : (m : Moment I S R) (p : ℕ) → Type 0
  StepOfCall m p =
      (step : CanTake object n m p) × ((taken : ℕ) → counted m p step taken ≡ taken + steps_of_one m p step)

  -- Wherever an execution from the opening has come to, a process in the midst of a call can take a step of that call,
  -- where the memory for what it writes isn't refused.
  abbrev pub NeverBlocks : Execution object n (opened_moment object n) → Type 0
  NeverBlocks e = (p : ℕ) → p < n
      → let m = last_moment object n e in
      (m.local p).stage ≢ Idle → HasLetter (m.local p) (m.local p).stage → StepOfCall m p
