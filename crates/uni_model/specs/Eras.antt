-- Runs of several eras: what the end of an era leaves, and what the joined log is.
use Rattle.std.specs.Prelude.{◌≡◌, ◌≢◌, ℕ, ◌+◌, ◌<◌, ◌≤◌, List, map, length, slice_get, take, None, Some}
use Rattle.std.specs.Prelude.{IsSome}
use Rattle.seq_object.specs.Sequential.{Sequential}
use Rattle.seq_object.specs.History.{state_after, IsLegal}
use Rattle.uni_model.specs.Places.{seq_of, new_of}
use Rattle.uni_model.specs.Places.Name.{Anchor, Of}
use Rattle.uni_model.specs.Stages.{Pending}
use Rattle.uni_model.specs.Chain.{Entry}
use Rattle.uni_model.specs.Worlds.{WorldOf, Event, anchor_memory, opened_world, world_after_all, world_after_era, IsQuiescent, AreAccepted}
use Rattle.uni_model.specs.History.{log, invocations_of, logged_call, log_of_run}
use Rattle.uni_model.specs.Invariant.{Invariant}
use Rattle.uni_model.specs.Growth.{IsPrefixOf}

-- The joined log of a run from a state and a number on: a legal history of the object, in which no call stands twice, numbered
-- by one from that number on; each entry but the last has its response.
pub record IsJoinedLog {S I R : Type 0} (object : Sequential S I R) (start : S) (number : ℕ) (joined : List (Entry I R)) : Type 0 where
  pub legal : IsLegal object start (map logged_call joined)
  pub once : (i j : ℕ) (e f : Entry I R) → slice_get joined i ≡ Some e → slice_get joined j ≡ Some f
      → e.call.process ≡ f.call.process → e.call.nth ≡ f.call.nth → i ≡ j
  pub numbers : (j : ℕ) (e : Entry I R) → slice_get joined j ≡ Some e → e.number ≡ number + j + 1
  pub answered : (j : ℕ) (e : Entry I R) → slice_get joined j ≡ Some e → j + 1 < length joined → IsSome e.response

-- the call k of process p stands at this place
pub record StandsAt {I R : Type 0} (joined : List (Entry I R)) (p k place : ℕ) : Type 0 where
  pub entry : Entry I R
  pub at : slice_get joined place ≡ Some entry
  pub process : entry.call.process ≡ p
  pub nth : entry.call.nth ≡ k

-- the call k of process p was begun, and isn't pending
pub record HasReturned {S I R : Type 0} (w : WorldOf S I R) (p k : ℕ) : Type 0 where
  pub begun : k < w.begun p
  pub over : (c : Pending) → w.call p ≡ Some c → c.mine ≢ Of p k

module _ {S I R : Type 0} (object : Sequential S I R) where
  -- The end of an era, where nobody has a call pending, leaves the anchor alone: with the state after all calls of the era,
  -- and the number of its last cell. Each process's next call is its first one of the new era. All else stays.
  abbrev pub EraLeaves : WorldOf S I R → (n : ℕ) → Type 0
  EraLeaves w n = Invariant object w → IsQuiescent w → (start : S) → new_of w.memory Anchor ≡ Some (start, None)
      → world_after_era w n ≡ record w {
        n = n;
        first = w.begun;
        memory = anchor_memory (state_after object start (invocations_of w)) (seq_of w.memory Anchor + length (log w));
      }

  -- After a run from the opening, that is the state after all calls of the joined log, and the number of its last entry.
  abbrev pub EraOfRunLeaves : (n : ℕ) → (start : S) → (number : ℕ) → List (Event I) → (next_n : ℕ) → Type 0
  EraOfRunLeaves n start number events next_n =
      let joined = log_of_run object (opened_world n start number) events in
      let w = world_after_all object (opened_world n start number) events in
      1 ≤ number → AreAccepted object (opened_world n start number) events → IsQuiescent w
      → world_after_era w next_n ≡ record w {
        n = next_n;
        first = w.begun;
        memory = anchor_memory (state_after object start (map (λ e. e.call.inv) joined)) (number + length joined);
      }

  -- The joined log of a run from the opening is legal, has no call twice, and numbers its entries by one through all eras.
  abbrev pub JoinsLegalLogs : (n : ℕ) → (start : S) → (number : ℕ) → List (Event I) → Type 0
  JoinsLegalLogs n start number events =
      1 ≤ number → AreAccepted object (opened_world n start number) events
      → IsJoinedLog object start number (log_of_run object (opened_world n start number) events)

  -- The joined log only grows: that of each prefix of the events is a prefix of that of all, but for a response that is missing in
  -- its last entry.
  abbrev pub JoinedGrows : WorldOf S I R → List (Event I) → Type 0
  JoinedGrows w events = (j : ℕ) → IsPrefixOf (log_of_run object w (take j events)) (log_of_run object w events)

  -- so does that of every run from the opening
  abbrev pub JoinedLogGrows : (n : ℕ) → (start : S) → (number : ℕ) → List (Event I) → Type 0
  JoinedLogGrows n start number events =
      1 ≤ number → AreAccepted object (opened_world n start number) events → JoinedGrows (opened_world n start number) events

  -- The joined log keeps real-time order: after j events the call k of p has returned, and the call i of q hasn't begun; so
  -- wherever the call of q comes to stand, the call of p stands before it.
  abbrev pub KeepsRealTime : (n : ℕ) → (start : S) → (number : ℕ) → List (Event I) → Type 0
  KeepsRealTime n start number events =
      let joined = log_of_run object (opened_world n start number) events in
      1 ≤ number → AreAccepted object (opened_world n start number) events
      → (j p k q i place : ℕ) → HasReturned (world_after_all object (opened_world n start number) (take j events)) p k
      → (world_after_all object (opened_world n start number) (take j events)).begun q ≤ i → StandsAt joined q i place
      → (before : ℕ) × (before < place) × StandsAt joined p k before
