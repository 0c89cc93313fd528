-- The rule: the words of the table and the views of its seats show a world, to which an execution has led.
use Rattle.std.specs.Prelude.{◌≡◌, ℕ, List}
use Rattle.atomic_table.specs.Table.{State}
use Rattle.seq_object.specs.Sequential.{Sequential}
use Rattle.uni_model.specs.Chain.{Entry}
use Rattle.uni_model.specs.ProcessCalls.{ProcessCalls}
use Rattle.uni_model.specs.Worlds.{Event, WorldOf}
use Rattle.uni_words.specs.Execution.{Execution, events, last_state, opened_table}
use Rattle.uni_words.specs.Run.{IsLogOfSeenRun}
use Rattle.uni_words.specs.Shown.{IsShown, LeadsTo}
use Rattle.uni_words.specs.View.{Seen}
use Rattle.uni_words.specs.declared.view.View.{View}

module _ (object : Sequential ℕ ℕ ℕ) (n row : ℕ) where
  -- some execution from the opening leads to this table, and its events are these
  abbrev pub HasRun : State ℕ View → List (Event ℕ) → Type 0
  HasRun s made =
      (e : Execution object n row (opened_table object n row))
      × (last_state object n row e ≡ s) × (events object n row e ≡ made)

  -- the rule: some world of n processes is shown, to which the events of such an execution lead
  abbrev pub ShowsRun : State ℕ View → Type 0
  ShowsRun s =
      (w : WorldOf ℕ ℕ ℕ) × (w.n ≡ n) × IsShown object row w s
      × ((made : List (Event ℕ)) × LeadsTo object n made w s.views × HasRun s made)

  -- the log is that of a run in which all of these were seen, and whose events an execution makes
  abbrev pub IsLogOfExecution : List (Entry ℕ ℕ) → List (ProcessCalls ℕ ℕ) → List Seen → Type 0
  IsLogOfExecution log calls seen =
      (run : IsLogOfSeenRun object n log calls seen)
      × ((e : Execution object n row (opened_table object n row)) × (events object n row e ≡ run.0.events))
