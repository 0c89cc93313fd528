-- The laws over every list of accepted events.
use Rattle.std.specs.Prelude.{◌≡◌, ◌≢◌, ◌↔◌, ℕ, ◌+◌, ◌≤◌, List, length, slice_get, take, Contains, Some}
use Rattle.std.specs.Prelude.{IsSome}
use Rattle.seq_object.specs.Sequential.{Sequential}
use Rattle.uni_model.specs.Places.{seq_of}
use Rattle.uni_model.specs.Places.Name.{Anchor, Of}
use Rattle.uni_model.specs.Stages.{Pending}
use Rattle.uni_model.specs.Stages.Stage.{Announce}
use Rattle.uni_model.specs.Transition.{place_of}
use Rattle.uni_model.specs.Worlds.{WorldOf, Event, chain, opened_world, world_after, world_after_all, IsAccepted, AreAccepted}
use Rattle.uni_model.specs.Worlds.Event.{Step}
use Rattle.uni_model.specs.Frontier.{floor_of}
use Rattle.uni_model.specs.AtomicObject.{Atomic, AcceptsAll, at_start}
use Rattle.uni_model.specs.History.{Shows, RunShows, log, history_of, acts_of}
use Rattle.uni_model.specs.Invariant.{Invariant}
use Rattle.uni_model.specs.Helping.{HelpingInvariant}
use Rattle.uni_model.specs.Counting.{CountsSteps}
use Rattle.uni_model.specs.Bound.{IsBounded}
use Rattle.uni_model.specs.Growth.{IsPrefixOf, EndsNoEra, EndNoEra}
use Rattle.uni_model.specs.Settled.{Grows, ChangesOnly}

-- A call of p with this floor is linked soon: its number is at most n + 1 past the floor, and while it is pending and isn't
-- linked, the last number is at most n past the floor.
pub record IsLinkedSoon {S I R : Type 0} (w : WorldOf S I R) (p k floor : ℕ) : Type 0 where
  pub linked : (place : ℕ) → slice_get (chain w) place ≡ Some (Of p k) → seq_of w.memory Anchor + place + 1 ≤ floor + w.n + 1
  pub waiting : (c : Pending) → w.call p ≡ Some c → c.mine ≡ Of p k → ¬ (Contains (chain w) (Of p k))
      → seq_of w.memory Anchor + length (chain w) ≤ floor + w.n

module _ {S I R : Type 0} (object : Sequential S I R) where
  -- the world has been reached from an opening
  pub record IsReached (w : WorldOf S I R) : Type 0 where
    pub n : ℕ
    pub start : S
    pub number : ℕ
    pub events : List (Event I)
    pub positive : 1 ≤ number
    pub accepted : AreAccepted object (opened_world n start number) events
    pub reached : world_after_all object (opened_world n start number) events ≡ w

  -- An accepted event keeps the invariant.
  abbrev pub KeepsInvariant : WorldOf S I R → Event I → Type 0
  KeepsInvariant w e = IsAccepted w e → Invariant object w → Invariant object (world_after object w e)

  -- An accepted event keeps the invariant with the facts of helping, and the counts of own steps.
  abbrev pub KeepsHelping : WorldOf S I R → Event I → Type 0
  KeepsHelping w e =
      IsAccepted w e → HelpingInvariant object w → CountsSteps w
      → HelpingInvariant object (world_after object w e) × CountsSteps (world_after object w e)

  -- An accepted event that ends no era leaves what is settled.
  abbrev pub KeepsSettled : WorldOf S I R → Event I → Type 0
  KeepsSettled w e = IsAccepted w e → Invariant object w → EndsNoEra e → Grows w.memory (world_after object w e).memory

  -- An accepted event that ends no era is what the atomic object does, from each that the world shows to one that it shows then.
  abbrev pub IsAtomic : WorldOf S I R → Event I → Type 0
  IsAtomic w e = IsAccepted w e → Invariant object w → EndsNoEra e → (a : Atomic S I) → Shows w a
      → (b : Atomic S I) × Shows (world_after object w e) b × AcceptsAll object a (acts_of object w e) b

  -- the log after each prefix of these events is a prefix of the log after all
  abbrev pub LogGrows : WorldOf S I R → List (Event I) → Type 0
  LogGrows w es = (j : ℕ) → IsPrefixOf (log (world_after_all object w (take j es))) (log (world_after_all object w es))

  -- after each prefix of these events, whichever eras end in it, every process's latest call is within the bound
  abbrev pub BoundedAlong : WorldOf S I R → List (Event I) → Type 0
  BoundedAlong w es = (j : ℕ) → IsBounded (world_after_all object w (take j es))

  -- An accepted event that ends no era leaves the log a prefix of the later one; so do such events, one after another.
  abbrev pub KeepsLog : WorldOf S I R → Event I → Type 0
  KeepsLog w e = IsAccepted w e → Invariant object w → EndsNoEra e → IsPrefixOf (log w) (log (world_after object w e))

  abbrev pub KeepsLogAlong : WorldOf S I R → List (Event I) → Type 0
  KeepsLogAlong w es = AreAccepted object w es → Invariant object w → EndNoEra es → LogGrows w es

  -- every opening has the invariant with the facts of helping, and the counts
  abbrev pub OpensSound : (n : ℕ) → (start : S) → (number : ℕ) → Type 0
  OpensSound n start number =
      1 ≤ number → HelpingInvariant object (opened_world n start number) × CountsSteps (opened_world {I = I} {R = R} n start number)

  -- what a step does: it touches the one place that its process's stage names, and changes no other process
  abbrev pub StepIsLocal : WorldOf S I R → ℕ → Pending → Type 0
  StepIsLocal w p call = w.call p ≡ Some call → ChangesOnly (place_of w.n p call.mine call.stage) p w (world_after object w (Step p))

  -- in its era, what is settled stays through the event
  abbrev pub SettledStays : WorldOf S I R → Event I → Type 0
  SettledStays w e = IsReached w → IsAccepted w e → EndsNoEra e → Grows w.memory (world_after object w e).memory

  -- the atomic object takes the acts of the event from each object that the world shows to one that it shows afterwards
  abbrev pub Simulates : WorldOf S I R → Event I → Type 0
  Simulates w e = IsReached w → IsAccepted w e → EndsNoEra e → (a : Atomic S I) → Shows w a
      → (b : Atomic S I) × Shows (world_after object w e) b × AcceptsAll object a (acts_of object w e) b

  -- The history of a run from the opening, whichever eras end in it, is one of the atomic object that the run shows:
  -- with its linearization points. Of what is observed, which has none, `ObservesLinearizable` speaks.
  abbrev pub IsLinearizable : (n : ℕ) → (start : S) → (number : ℕ) → List (Event I) → Type 0
  IsLinearizable n start number events =
      1 ≤ number → AreAccepted object (opened_world n start number) events
      → (b : Atomic S I) × RunShows object start (opened_world n start number) events b
      × AcceptsAll object (at_start start) (history_of object (opened_world n start number) events) b

  -- after each prefix of these events, whichever eras end in it, each call that has a floor then is linked soon
  abbrev pub LinkedSoonAlong : WorldOf S I R → List (Event I) → Type 0
  LinkedSoonAlong w es =
      (j p k floor : ℕ) → floor_of object (Of p k) w (take j es) ≡ Some floor
      → IsLinkedSoon (world_after_all object w (take j es)) p k floor

  -- in a run from the opening, each call that has a floor is linked soon
  abbrev pub LinksSoon : (n : ℕ) → (start : S) → (number : ℕ) → List (Event I) → Type 0
  LinksSoon n start number events =
      1 ≤ number → AreAccepted object (opened_world n start number) events → (p k floor : ℕ)
      → floor_of object (Of p k) (opened_world n start number) events ≡ Some floor
      → IsLinkedSoon (world_after_all object (opened_world n start number) events) p k floor

  -- in a run from the opening, a pending call has a floor exactly where it has taken the step that announces it
  abbrev pub HasFloorOnceAnnounced : (n : ℕ) → (start : S) → (number : ℕ) → List (Event I) → Type 0
  HasFloorOnceAnnounced n start number events =
      1 ≤ number → AreAccepted object (opened_world n start number) events → (p : ℕ) (c : Pending)
      → (world_after_all object (opened_world n start number) events).call p ≡ Some c
      → IsSome (floor_of object c.mine (opened_world n start number) events) ↔ (c.stage ≢ Announce)
