-- What the table shows: its words and the views of its seats show a world of the definitions.
use Rattle.std.specs.Prelude.{◌≡◌, ℕ, zero, suc, ◌+◌, ◌<◌, ◌≤◌, ◌^◌, List, [], ◌∷◌, ◌++◌, Contains}
use Rattle.std.specs.Prelude.{Option, None, Some, length, slice_get}
use mathlib.Core.Option.{some}
use lib.ListN.{get_elem?}
use Rattle.atomic_table.specs.Table.{State}
use Rattle.seq_object.specs.Sequential.{Sequential}
use Rattle.uni_model.specs.Places.{Name, Memory, seq_of, inv_of, new_of}
use Rattle.uni_model.specs.Places.Name.{Anchor, Of}
use Rattle.uni_model.specs.Stages.{Stage, Pending}
use Rattle.uni_model.specs.Stages.Stage.{DecideNew, Finish}
use Rattle.uni_model.specs.Chain.{response_in}
use Rattle.uni_model.specs.AtomicObject.{Act}
use Rattle.uni_model.specs.AtomicObject.Act.{Invoke}
use Rattle.uni_model.specs.Growth.{EndNoEra}
use Rattle.uni_model.specs.Worlds.{WorldOf, Event, world_after_all, AreAccepted}
use Rattle.uni_model.specs.Helping.{HelpingInvariant}
use Rattle.uni_model.specs.Counting.{CountsSteps}
use Rattle.uni_model.specs.ProcessCalls.{ProcessCalls, acts_by, sequential_acts}
use Rattle.uni_words.specs.Words.{words_of, memory_of}
use Rattle.uni_words.specs.Run.{opened, run_history, HasSeen}
use Rattle.uni_words.specs.View.{Seen, Known, Process, Reading}
use Rattle.uni_words.specs.View.Reading.{Nothing, Invocation, Applied, Reply}
use Rattle.uni_words.specs.declared.view.View.{View}

-- the cell of a call has its number, this invocation and this reply: so it is of each call that has returned, and may
-- be of one whose last step is to come
pub record HasOutcome (m : Memory ℕ ℕ ℕ) (x : Name) (inv reply : ℕ) : Type 0 where
  pub inv_is : inv_of m x ≡ Some inv
  pub threaded : 1 ≤ seq_of m x
  pub reply_is : response_in m x ≡ Some reply

-- what a process that stands at a stage has read of settled words
abbrev pub HasRead : Memory ℕ ℕ ℕ → (mine : Name) → Stage → Reading → Type 0
HasRead m mine stage Nothing = Unit {0}
HasRead m mine (DecideNew c c_seq d) (Invocation inv) = inv_of m d ≡ Some inv
HasRead m mine (DecideNew c c_seq d) (Applied inv state) =
    (inv_of m d ≡ Some inv) × ((r : Option ℕ) × (new_of m c ≡ Some (state, r)))
HasRead m mine (Finish c_seq mine_seq) (Reply reply) = response_in m mine ≡ Some reply
HasRead m mine _ _ = ⊥

-- of a pending call, its invocation and what has been read
abbrev pub IsUnderway : Memory ℕ ℕ ℕ → Option Pending → (inv : ℕ) → Reading → Type 0
IsUnderway m None inv read = Unit {0}
IsUnderway m (Some c) inv read = (inv_of m c.mine ≡ Some inv) × HasRead m c.mine c.stage read

abbrev pub pending_count : Option Pending → ℕ
pending_count None = 0
pending_count (Some c) = 1

-- the number of the last of so many calls of a process, 0 where there is none
abbrev pub last_number : Memory ℕ ℕ ℕ → (p count : ℕ) → ℕ
last_number m p zero = 0
last_number m p (suc k) = seq_of m (Of p k)

-- a process of the world is as it is known
pub record IsLocal (w : WorldOf ℕ ℕ ℕ) (p : ℕ) (its : Process) : Type 0 where
  pub inside : p < w.n
  pub call : w.call p ≡ its.call
  pub begun : w.begun p ≡ its.begun
  pub steps : w.steps p ≡ its.steps
  pub turns : w.turns p ≡ its.turns
  pub underway : IsUnderway w.memory its.call its.inv its.read
  -- its own calls are those that it has begun, but for the pending one
  pub counted : its.begun ≡ length its.own + pending_count its.call
  pub own : (j : ℕ) (c : ℕ × ℕ) → slice_get its.own j ≡ Some c → HasOutcome w.memory (Of p j) c.0 c.1
  pub number : its.number ≡ last_number w.memory p (length its.own)

-- a process whose seat was taken in: all its calls have returned
pub record IsTaken (w : WorldOf ℕ ℕ ℕ) (its : ProcessCalls ℕ ℕ) : Type 0 where
  pub inside : its.process < w.n
  pub call : w.call its.process ≡ None
  pub begun : w.begun its.process ≡ length its.calls
  pub own : (j : ℕ) (c : ℕ × ℕ) → slice_get its.calls j ≡ Some c → HasOutcome w.memory (Of its.process j) c.0 c.1

-- the process is one of this seat's that take steps
abbrev pub IsAmong : ℕ → Known → Type 0
IsAmong p v = (v.first ≤ p) × (p < v.first + v.count)

-- What the seat id knows: each of its processes is so, and has this seat alone, as each that it has taken in. Where it
-- has several, none of them has called.
pub record Tells (w : WorldOf ℕ ℕ ℕ) (owner : ℕ → ℕ) (row id : ℕ) (v : Known) : Type 0 where
  pub processes : 1 ≤ v.count → v.n ≡ w.n
  pub calls : 1 ≤ v.count → v.row ≡ row
  pub each : (p : ℕ) → v.first ≤ p → p < v.first + v.count → (owner p ≡ id) × IsLocal w p v.its
  pub several : 2 ≤ v.count → v.its.begun ≡ 0
  pub taken : (its : ProcessCalls ℕ ℕ) → Contains v.taken its
      → (owner its.process ≡ id) × IsTaken w its × ¬ (IsAmong its.process v)

-- The words are the memory of the world w, whose processes have rows of so many calls. The anchor has number 1 and the
-- start state, and no state passes 31 bits.
pub record ShowsWords (object : Sequential ℕ ℕ ℕ) (row : ℕ) (w : WorldOf ℕ ℕ ℕ) (words : List ℕ) : Type 0 where
  pub wide : length words ≡ words_of w.n row
  pub memory : w.memory ≡ memory_of w.n row words w.begun
  pub number : seq_of w.memory Anchor ≡ 1
  pub state : new_of w.memory Anchor ≡ Some (object.initial, None)
  pub room : (p : ℕ) → w.begun p ≤ row
  pub fits : (x : Name) (v : ℕ × Option ℕ) → new_of w.memory x ≡ Some v → v.0 < 2 ^ 31

-- each view tells the processes of its seat, and no process has two seats
pub record ShowsSeats (row : ℕ) (w : WorldOf ℕ ℕ ℕ) (views : List View) : Type 0 where
  pub owner : ℕ → ℕ
  pub each : (id : ℕ) (v : View) → get_elem? views id ≡ some v → Tells w owner row id v.known

-- The words and the views show the world w. It has the invariant, each pending call is helped in time, and its counts
-- of own steps are right.
pub record IsShown (object : Sequential ℕ ℕ ℕ) (row : ℕ) (w : WorldOf ℕ ℕ ℕ) (s : State ℕ View) : Type 0 where
  pub words : ShowsWords object row w s.words
  pub seats : ShowsSeats row w s.views
  pub sound : HelpingInvariant object w
  pub counts : CountsSteps w

-- a call that is pending has begun
abbrev pub pending_acts : (p k inv : ℕ) → Option Pending → List (Act ℕ ℕ)
pending_acts p k inv None = []
pending_acts p k inv (Some c) = Invoke p k inv ∷ []

-- the acts of a process, as its seat knows them: its calls that have returned, and the pending one
abbrev pub acts_in_view : ℕ → Known → List (Act ℕ ℕ)
acts_in_view p v = sequential_acts p 0 v.its.own ++ pending_acts p (length v.its.own) v.its.inv v.its.call

-- These events are accepted one after another from the opening of n processes on, end no era, and lead to the world w.
-- In their history each process takes the acts that the view of its seat tells, and what a seat has seen was so.
pub record LeadsTo (object : Sequential ℕ ℕ ℕ) (n : ℕ) (events : List (Event ℕ)) (w : WorldOf ℕ ℕ ℕ)
    (views : List View) : Type 0 where
  pub accepted : AreAccepted object (opened object n) events
  pub one_era : EndNoEra events
  pub reached : world_after_all object (opened object n) events ≡ w
  pub acts : (id : ℕ) (v : View) → get_elem? views id ≡ some v → (p : ℕ) → IsAmong p v.known
      → acts_by p (run_history object n events) ≡ acts_in_view p v.known
  pub taken : (id : ℕ) (v : View) → get_elem? views id ≡ some v → (its : ProcessCalls ℕ ℕ) → Contains v.known.taken its
      → acts_by its.process (run_history object n events) ≡ sequential_acts its.process 0 its.calls
  pub seen : (id : ℕ) (v : View) → get_elem? views id ≡ some v
      → (s : Seen) → Contains v.known.seen s → HasSeen object n events s
