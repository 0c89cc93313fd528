-- What is said of every execution.
use Rattle.std.specs.Prelude.{◌≡◌, ℕ, ◌+◌, ◌*◌, ◌<◌, ◌≤◌, ◌^◌, List, ◌++◌, Contains, Some, IsSome}
use mathlib.Core.Option.{some}
use lib.ListN.{get_elem?}
use Rattle.seq_object.specs.Sequential.{Sequential}
use Rattle.uni_model.specs.AtomicObject.{Act, Invoked}
use Rattle.uni_model.specs.Growth.{EndNoEra}
use Rattle.uni_model.specs.HerlihyWing.{IsLinearizedByCompletion, IsWellFormed, of_process}
use Rattle.uni_model.specs.Linearizable.{observed_in}
use Rattle.uni_model.specs.ProcessCalls.{ProcessCalls, sequential_acts}
use Rattle.uni_model.specs.Worlds.{AreAccepted, Event}
use Rattle.uni_words.specs.Execution.{Execution, Next, access_of, events, goes_on, last_state, opened_table}
use Rattle.uni_words.specs.Execution.{steps_of_call}
use Rattle.uni_words.specs.Laws.{HasSeat}
use Rattle.uni_words.specs.Run.{opened}
use Rattle.uni_words.specs.Shown.{IsAmong, acts_in_view}
use Rattle.uni_words.specs.View.{Known}
use Rattle.uni_words.specs.Words.{word_of}
use Rattle.uni_words.specs.declared.view.View.{View}

-- the states and replies of an object stay below 2^31, as the contract of a `WordObject` asks
abbrev pub IsNarrow : Sequential ℕ ℕ ℕ → Type 0
IsNarrow object =
    (object.initial < 2 ^ 31)
    × ((state inv : ℕ) → state < 2 ^ 31 → inv < 2 ^ 64
    → (object.next state inv < 2 ^ 31) × (object.answer state inv < 2 ^ 31))

module _ (object : Sequential ℕ ℕ ℕ) (n row : ℕ) where
  -- an execution from the opening, and what is observed of it: the invocations and the replies alone
  abbrev pub FromOpening : Type 0
  FromOpening = Execution object n row (opened_table object n row)

  abbrev pub observed_of : FromOpening → List (Act ℕ ℕ)
  observed_of e = observed_in object (opened object n) (events object n row e)

  -- Its events are those of a run of the construction of n processes. What is observed of it is linearizable in this
  -- order in the words of Herlihy and Wing: with the order of real time. And in it each process takes the acts that its
  -- seat knows at the end: its calls, each with the reply that the seat loaded, and its pending one.
  pub record IsLinearized (order : List (Event ℕ) → List (Invoked ℕ)) (e : FromOpening) : Type 0 where
    pub accepted : AreAccepted object (opened object n) (events object n row e)
    pub one_era : EndNoEra (events object n row e)
    pub well_formed : IsWellFormed (observed_of e)
    pub completed : IsLinearizedByCompletion object object.initial (observed_of e) (order (events object n row e))
    pub told : (id : ℕ) (v : View) → get_elem? (last_state object n row e).views id ≡ some v
        → (p : ℕ) → IsAmong p v.known → of_process p (observed_of e) ≡ acts_in_view p v.known
    pub told_taken : (id : ℕ) (v : View) → get_elem? (last_state object n row e).views id ≡ some v
        → (its : ProcessCalls ℕ ℕ) → Contains v.known.taken its
        → of_process its.process (observed_of e) ≡ sequential_acts its.process 0 its.calls

  -- One function gives each execution its order, and where an execution goes on, only further calls come behind.
  pub record AreLinearizedStrongly : Type 0 where
    pub order : List (Event ℕ) → List (Invoked ℕ)
    pub linearized : (e : FromOpening) → IsLinearized order e
    pub keeps_order : (e : FromOpening) (more : Execution object n row (last_state object n row e))
        → (further : List (Invoked ℕ))
        × (order (events object n row (goes_on object n row e more)) ≡ order (events object n row e) ++ further)

  -- a step that the seat can take next, at a word that the table has; with a call pending it is one of the call
  abbrev pub CanStep : Known → Type 0
  CanStep v =
      (next : Next object n row v) × ((word : ℕ) × (word_of n row (access_of object n row v next).place ≡ Some word))

  -- wherever an execution has come to, a seat with a call pending can take a step
  abbrev pub NeverBlocks : FromOpening → Type 0
  NeverBlocks e = (id : ℕ) (v : Known) → HasSeat (last_state object n row e) id v → IsSome v.its.call → CanStep v

  -- At the end of this execution no process has taken more word steps than this in its latest call. Said of every
  -- execution it bounds every call, which is its process's latest at the end of some shorter one.
  abbrev pub KeepsBound : FromOpening → Type 0
  KeepsBound e = (p : ℕ) → steps_of_call object n row p 0 e ≤ 12 * n + 15
