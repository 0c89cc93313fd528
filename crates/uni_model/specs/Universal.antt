-- The main law: what holds of every run of the construction.
use Rattle.std.specs.Prelude.{◌≡◌, ℕ, ◌≤◌, List, ◌∷◌, ◌++◌, map, take}
use Rattle.seq_object.specs.Sequential.{Sequential}
use Rattle.uni_model.specs.Worlds.{Event, opened_world, world_after_all, AreAccepted}
use Rattle.uni_model.specs.Worlds.Event.{Call}
use Rattle.uni_model.specs.Linearizable.{observed_in, IsLinearizedAs, IsLinearizableHistory}
use Rattle.uni_model.specs.History.{log_of_run}
use Rattle.uni_model.specs.WaitFree.{NeverBlocks, AreNoCallsOf, IsWaitFree}
use Rattle.uni_model.specs.Bound.{IsBounded}
use Rattle.uni_model.specs.Trims.{IsSameUntrimmed}

module _ {S I R : Type 0} (object : Sequential S I R) where
  -- What holds of accepted events, from an opening of n processes over a state and a first number.
  pub record IsUniversal (n : ℕ) (start : S) (number : ℕ) (events : List (Event I)) : Type 0 where
    -- what is observed, calls and responses, is a linearizable history of the object from this state (Herlihy and Wing 1990)
    pub linearizable : IsLinearizableHistory object start (observed_in object (opened_world n start number) events)
    -- the stronger law: it is so in the order of the joined log
    pub agreed : IsLinearizedAs object start (observed_in object (opened_world n start number) events)
        (map (λ e. e.call) (log_of_run object (opened_world n start number) events))
    -- after each prefix of the events, a process whose call is pending can take its next step: so by what an accepted
    -- step is, and the weight lies on `wait_free`
    pub never_blocks : (j p : ℕ) → NeverBlocks (world_after_all object (opened_world n start number) (take j events)) p
    -- within each prefix, a call has returned at the latest at the (10m + 12)th step of its process since its begin,
    -- for the m processes that there are when it begins: a reshape changes how many
    pub wait_free : (j : ℕ) (before later : List (Event I)) (p : ℕ) (i : I) → take j events ≡ before ++ Call p i ∷ later
        → AreNoCallsOf p later
        → IsWaitFree object (world_after_all object (opened_world n start number) before) p i later
    -- after each prefix, each process's latest call is within the bound of turns and own steps
    pub bounded : (j : ℕ) → IsBounded (world_after_all object (opened_world n start number) (take j events))
    -- each prefix has the same history, joined log and counts without its trims
    pub untrimmed : (j : ℕ) → IsSameUntrimmed object (opened_world n start number) (take j events)

  -- every run from the opening is so
  abbrev pub RunIsUniversal : (n : ℕ) → (start : S) → (number : ℕ) → List (Event I) → Type 0
  RunIsUniversal n start number events =
      1 ≤ number → AreAccepted object (opened_world n start number) events → IsUniversal n start number events
