-- The bound is met: no smaller one holds.
use Rattle.std.specs.Prelude.{◌≡◌, ◌≢◌, ℕ, ◌+◌, ◌≤◌, List, None, Some}
use Rattle.seq_object.specs.Sequential.{Sequential}
use Rattle.uni_model.specs.Places.{head_of, seq_of}
use Rattle.uni_model.specs.Places.Name.{Of}
use Rattle.uni_model.specs.Stages.{Pending}
use Rattle.uni_model.specs.Stages.Stage.{Finish}
use Rattle.uni_model.specs.Worlds.{WorldOf, Event, opened_world, world_after_all, AreAccepted}
use Rattle.uni_model.specs.Frontier.{floor_of}
use Rattle.uni_model.specs.Bound.{most_steps}
use Rattle.uni_model.specs.Laws.{IsReached}

module _ {S I R : Type 0} (object : Sequential S I R) where
  -- A run from an opening of n processes, in which the first call of a process meets the bounds of this construction (after Herlihy
  -- 1991, section 4): it has returned after n + 1 turns, at its process's (10n + 12)th own step, and its number is n + 1 past its
  -- floor. It is its process's one call, and every other process makes at most two: rows of two cells are enough.
  pub record MeetsBound (n : ℕ) (start : S) (first : ℕ) : Type 0 where
    pub events : List (Event I)
    pub process : ℕ
    pub accepted : AreAccepted object (opened_world n start first) events
    pub returned : (world_after_all object (opened_world n start first) events).call process ≡ None
    pub begun : (world_after_all object (opened_world n start first) events).begun process ≡ 1
    pub among : (world_after_all object (opened_world n start first) events).among process ≡ n
    pub few : (q : ℕ) → q ≢ process → (world_after_all object (opened_world n start first) events).begun q ≤ 2
    pub turns : (world_after_all object (opened_world n start first) events).turns process ≡ n + 1
    pub steps : (world_after_all object (opened_world n start first) events).steps process ≡ most_steps n
    pub floor : floor_of object (Of process 0) (opened_world n start first) events ≡ Some first
    pub number : seq_of (world_after_all object (opened_world n start first) events).memory (Of process 0) ≡ first + n + 1

  -- There is such a run for every object that has an invocation, for two processes or more.
  abbrev pub BoundIsMet : (n : ℕ) → (start : S) → (number : ℕ) → I → Type 0
  BoundIsMet n start number i = 2 ≤ n → 1 ≤ number → MeetsBound n start number

  -- Among one process nobody takes a turn from a call: each takes one, and 14 own steps.
  abbrev pub TakesOneTurn : WorldOf S I R → ℕ → Type 0
  TakesOneTurn w p =
      IsReached object w → w.call p ≡ None → 1 ≤ w.begun p → w.among p ≡ 1 → (w.turns p ≡ 1) × (w.steps p ≡ 14)

  -- A call whose last step comes after n + 1 turns has its own cell for its head by then; its number isn't past the one that the
  -- process knows of its head, so that step writes no head.
  abbrev pub EndsAtItsCell : WorldOf S I R → ℕ → Type 0
  EndsAtItsCell w p =
      IsReached object w → (call : Pending) → w.call p ≡ Some call → w.turns p ≡ w.n + 1
      → (c_seq mine_seq : ℕ) → call.stage ≡ Finish c_seq mine_seq
      → (head_of w.memory p ≡ call.mine) × (mine_seq ≤ c_seq)
