-- Bounded wait-freedom as the textbooks state it: a pending process can always take its next step, and its call has returned
-- after a known number of them, whatever the others do meanwhile.
use Rattle.std.specs.Prelude.{◌≡◌, refl, ℕ, ◌+◌, ◌≤◌, ◌==◌, Bool, false, List, [], ◌∷◌, Some, None, Contains}
use Rattle.std.specs.Prelude.{count_by, replicate}
use Rattle.seq_object.specs.Sequential.{Sequential}
use Rattle.uni_model.specs.Stages.{Pending}
use Rattle.uni_model.specs.Worlds.{WorldOf, Event, world_after_all, IsAccepted, AreAccepted}
use Rattle.uni_model.specs.Worlds.Event.{Call, Step, Trim}
use Rattle.uni_model.specs.AtomicObject.Act.{Respond}
use Rattle.uni_model.specs.Linearizable.{observed_in}
use Rattle.uni_model.specs.Bound.{most_steps}
use Rattle.uni_model.specs.Laws.{IsReached}

-- whether an event is a step of p
abbrev pub is_step_of : {I : Type 0} → ℕ → Event I → Bool
is_step_of p (Step q) = p == q
is_step_of p _ = false

-- how many of these events are steps of p
abbrev pub steps_among : {I : Type 0} → ℕ → List (Event I) → ℕ
steps_among p events = count_by (is_step_of p) events

-- p begins no call among these events
abbrev pub AreNoCallsOf : {I : Type 0} → ℕ → List (Event I) → Type 0
AreNoCallsOf {I} p events = (i : I) → ¬ (Contains events (Call p i))

-- of five events two are steps of process 1
sample_steps : steps_among {I = ℕ} 1 (Step 1 ∷ Step 0 ∷ Call 1 7 ∷ Trim ∷ Step 1 ∷ []) ≡ 2
sample_steps = refl

-- A process whose call is pending can take its next step, wherever the others stand. That is so by what an accepted step is: a step of
-- the model is a total function. The weight lies on `IsWaitFree` and `EndsAlone`.
abbrev pub NeverBlocks : {S I R : Type 0} → WorldOf S I R → ℕ → Type 0
NeverBlocks w p = (call : Pending) → w.call p ≡ Some call → IsAccepted w (Step p)

module _ {S I R : Type 0} (object : Sequential S I R) where
  -- Where p begins a call in this world, and no other one among the later events: at most 10n + 12 of these are steps
  -- of p, for the n processes that there are at the call; once there are as many, the call has returned, and wherever
  -- it has, with a response.
  pub record IsWaitFree (w : WorldOf S I R) (p : ℕ) (i : I) (later : List (Event I)) : Type 0 where
    pub few : steps_among p later ≤ most_steps w.n
    pub returned : steps_among p later ≡ most_steps w.n → (world_after_all object w (Call p i ∷ later)).call p ≡ None
    pub answered : (world_after_all object w (Call p i ∷ later)).call p ≡ None
        → (r : R) × Contains (observed_in object w (Call p i ∷ later)) (Respond p (w.begun p) r)

  -- every call is so that is begun in a world that is reached, whatever is accepted later
  abbrev pub CallIsWaitFree : WorldOf S I R → ℕ → I → List (Event I) → Type 0
  CallIsWaitFree w p i later =
      IsReached object w → AreAccepted object w (Call p i ∷ later) → AreNoCallsOf p later → IsWaitFree w p i later

  -- Alone p takes so many further steps, all of which can come, and its call has returned then; with the earlier ones they are at
  -- most 10n + 12.
  pub record EndsAlone (w : WorldOf S I R) (p : ℕ) : Type 0 where
    pub further : ℕ
    pub accepted : AreAccepted object w (replicate further (Step p))
    pub returned : (world_after_all object w (replicate further (Step p))).call p ≡ None
    pub few : w.steps p + further ≤ most_steps w.n

  -- every pending call ends so, wherever the other processes have stopped
  abbrev pub CallEndsAlone : WorldOf S I R → ℕ → Type 0
  CallEndsAlone w p = IsReached object w → (call : Pending) → w.call p ≡ Some call → EndsAlone w p
