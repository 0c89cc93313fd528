-- What else a run shows that is the same without its trims: the pending calls, each before a step of the same kind.
use Rattle.std.specs.Prelude.{◌≡◌, ℕ, ◌≤◌, List, option_map}
use Rattle.seq_object.specs.Sequential.{Sequential}
use Rattle.uni_model.specs.Stages.{Stage}
use Rattle.uni_model.specs.Stages.Stage.{Announce, ScanHead, ScanSeq, WriteScan, Test, ReadAnnounce, ReadHelpSeq, DecideAfter, DecideNew}
use Rattle.uni_model.specs.Stages.Stage.{WriteBefore, WriteSeq, WriteHead, Finish}
use Rattle.uni_model.specs.Worlds.{WorldOf, Event, opened_world, world_after_all, response_of_step, AreAccepted, without_trims}
use Rattle.uni_model.specs.Frontier.{frontier}
use Rattle.uni_model.specs.History.{log_of_run, history_of}

-- the kinds of a process's next step, one for each stage
pub data StepKind : Type 0 where
  ToAnnounce : StepKind
  ToScanHead : StepKind
  ToScanSeq : StepKind
  ToWriteScan : StepKind
  ToTest : StepKind
  ToReadAnnounce : StepKind
  ToReadHelpSeq : StepKind
  ToDecideAfter : StepKind
  ToDecideNew : StepKind
  ToWriteBefore : StepKind
  ToWriteSeq : StepKind
  ToWriteHead : StepKind
  ToFinish : StepKind

-- the kind of the next step of a process that stands at a stage
abbrev pub kind_of : Stage → StepKind
kind_of Announce = ToAnnounce
kind_of (ScanHead q best best_seq) = ToScanHead
kind_of (ScanSeq q best best_seq h) = ToScanSeq
kind_of (WriteScan best best_seq) = ToWriteScan
kind_of (Test c c_seq) = ToTest
kind_of (ReadAnnounce c c_seq) = ToReadAnnounce
kind_of (ReadHelpSeq c c_seq help) = ToReadHelpSeq
kind_of (DecideAfter c c_seq prefer) = ToDecideAfter
kind_of (DecideNew c c_seq d) = ToDecideNew
kind_of (WriteBefore c c_seq d) = ToWriteBefore
kind_of (WriteSeq c c_seq d) = ToWriteSeq
kind_of (WriteHead c c_seq d) = ToWriteHead
kind_of (Finish c_seq mine_seq) = ToFinish

-- Two worlds show the same: as many processes, with the same counts; the same calls are pending, of the same cells, each before
-- a step of the same kind, with the same response where that step ends the call; and the same frontier.
pub record ShowsSame {S I R : Type 0} (w u : WorldOf S I R) : Type 0 where
  pub n : w.n ≡ u.n
  pub begun : w.begun ≡ u.begun
  pub among : w.among ≡ u.among
  pub steps : w.steps ≡ u.steps
  pub turns : w.turns ≡ u.turns
  pub pending : (p : ℕ) → option_map (λ c. c.mine) (w.call p) ≡ option_map (λ c. c.mine) (u.call p)
  pub next_step : (p : ℕ) → option_map (λ c. kind_of c.stage) (w.call p) ≡ option_map (λ c. kind_of c.stage) (u.call p)
  pub response : (p : ℕ) → response_of_step w p ≡ response_of_step u p
  pub frontier : frontier w ≡ frontier u

module _ {S I R : Type 0} (object : Sequential S I R) where
  -- The same events without the trims are accepted too, from the same world; they lead to a world that shows the same, with the
  -- same joined log and the same history, linearization points among it.
  pub record ShowsSameUntrimmed (w : WorldOf S I R) (events : List (Event I)) : Type 0 where
    pub accepted : AreAccepted object w (without_trims events)
    pub shown : ShowsSame (world_after_all object w events) (world_after_all object w (without_trims events))
    pub joined : log_of_run object w events ≡ log_of_run object w (without_trims events)
    pub history : history_of object w events ≡ history_of object w (without_trims events)

  -- Trims change nothing that a run from the opening shows.
  abbrev pub TrimsChangeNothing : (n : ℕ) → (start : S) → (number : ℕ) → List (Event I) → Type 0
  TrimsChangeNothing n start number events =
      1 ≤ number → AreAccepted object (opened_world n start number) events → ShowsSameUntrimmed (opened_world n start number) events
