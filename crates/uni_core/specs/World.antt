-- A world of the code, and the world that it shows.
use Rattle.std.specs.Prelude.{◌≡◌, ℕ, ◌+◌, ◌-◌, ◌*◌, ◌<◌, ◌≤◌, ◌^◌, List, Option, Some, None, option_map}
use Rattle.std.specs.Prelude.{option_and_then, slice_get, length, IfSome, IsSome}
use Rattle.std.specs.Option.{option_map_or}
use Rattle.seq_object.specs.Sequential.{Sequential}
use Rattle.cell_arena.specs.Arena.{processes_of, made_of}
use Rattle.uni_model.specs.Places.{Name, Memory as Contents, seq_of, new_of}
use Rattle.uni_model.specs.Places.Name.{Anchor}
use Rattle.uni_model.specs.Stages.{Stage as at, Pending as PendingAt}
use Rattle.uni_model.specs.Worlds.{WorldOf, Event, world_after, response_of_step, calls_in_era}
use Rattle.uni_model.specs.AtomicObject.{Atomic, Act, AcceptsAll}
use Rattle.uni_model.specs.History.{Shows, acts_of}
use Rattle.uni_model.specs.Helping.{HelpingInvariant}
use Rattle.uni_model.specs.Counting.{CountsSteps}
use Rattle.seq_object.specs.declared.call_id.CallId.{CallId}
use Rattle.uni_core.specs.declared.local.Local.{Local}
use Rattle.uni_core.specs.declared.fault.Progress.{Progress}
use Rattle.uni_core.specs.declared.fault.Progress.TheVariants.{Going, Done}
use Rattle.uni_core.specs.SharedEntries.{SharedEntries, first_of, memory_of}
use Rattle.uni_model.specs.Indices.{name_from}
use Rattle.uni_core.specs.Stage.{pending_of}

-- a world as the code has it: the object, how many calls a row has, the shared places, and what each process keeps for itself
pub record WorldParts (O S I R : Type 0) : Type 0 where
  pub object : O
  pub row : ℕ
  pub shared : SharedEntries S I R
  pub locals : List Local

-- the pending call of a process that keeps this for itself
abbrev pub call_at : (name : ℕ → Name) → Option Local → Option PendingAt
call_at name local = option_and_then (λ l. option_map (pending_of name) l.call) local

-- the world of n processes, with these first calls of the era, that these places and locals show
abbrev pub world_at : {S I R : Type 0} → (n : ℕ) → (first : ℕ → ℕ) → Contents S I R → List Local → WorldOf S I R
world_at n first memory locals =
    record {
      n = n;
      memory = memory;
      call = λ p. call_at (name_from n first) (slice_get locals p);
      begun = λ p. option_map_or (λ l. l.begun) (slice_get locals p) 0;
      first = first;
      among = λ p. option_map_or (λ l. l.among) (slice_get locals p) 0;
      steps = λ p. option_map_or (λ l. l.steps) (slice_get locals p) 0;
      turns = λ p. option_map_or (λ l. l.turns) (slice_get locals p) 0;
    }

-- the world that is shown
abbrev pub world_of : {O S I R : Type 0} → WorldParts O S I R → WorldOf S I R
world_of v = world_at (processes_of v.shared.cells) (first_of v.shared) (memory_of v.shared) v.locals

-- the name of the cell at an index of the arena
abbrev pub name_in : {S I R : Type 0} → WorldOf S I R → ℕ → Name
name_in w = name_from w.n w.first

-- a process that has begun no call has taken no steps and no turns, and ran among none
abbrev pub CountsNone : {S I R : Type 0} → WorldOf S I R → Type 0
CountsNone w = (p : ℕ) → w.begun p ≡ 0 → (w.among p ≡ 0) × (w.steps p ≡ 0) × (w.turns p ≡ 0)

-- what every world keeps
pub record IsWorld {O S I R : Type 0} (object : Sequential S I R) (v : WorldParts O S I R) : Type 0 where
  pub locals : processes_of v.shared.cells ≤ length v.locals
  pub firsts : length v.shared.first ≡ length v.locals
  pub few : processes_of v.shared.cells ≤ 64
  pub row : v.row ≡ v.shared.cells.row
  pub made : (p : ℕ) → (world_of v).begun p ≡ (world_of v).first p + made_of v.shared.cells p
  pub room : (p : ℕ) → calls_in_era (world_of v) p ≤ v.row
  pub early : (p : ℕ) → (world_of v).first p ≤ seq_of (memory_of v.shared) Anchor
  pub numbers : seq_of (memory_of v.shared) Anchor + processes_of v.shared.cells * v.row < 2 ^ 48
  pub sound : HelpingInvariant object (world_of v)
  pub counts : CountsSteps (world_of v)
  pub none : CountsNone (world_of v)

-- the pending call of a process: the latest that it has begun
abbrev pub current_of : {S I R : Type 0} → WorldOf S I R → ℕ → Option CallId
current_of w p = option_map (λ (c : PendingAt). record { process = p; nth = w.begun p - 1 }) (w.call p)

-- what a step answers, with or without a response
abbrev pub progress_of : {R : Type 0} → Option R → Progress R
progress_of None = Going
progress_of (Some r) = Done r

-- from each atomic object that w shows, the acts lead to one that w' shows
abbrev pub Follows : {S I R : Type 0} → Sequential S I R → (w w' : WorldOf S I R) → List (Act I R) → Type 0
Follows {S} {I} object w w' acts = (a : Atomic S I) → Shows w a → (b : Atomic S I) × Shows w' b × AcceptsAll object a acts b

-- The atomic object takes the acts of the event (an invocation, linearization points, a response, or none): from each
-- object that w shows to one that the world after the event shows.
abbrev pub IsSimulated : {S I R : Type 0} → Sequential S I R → WorldOf S I R → Event I → Type 0
IsSimulated object w e = Follows object w (world_after object w e) (acts_of object w e)

-- a process that there is has no call pending
abbrev pub IsIdle : {S I R : Type 0} → WorldOf S I R → ℕ → Type 0
IsIdle w p = (p < w.n) × (w.call p ≡ None)

-- what the next step of a process answers: its response, where it is the last one of its call
abbrev pub IsProgress : {S I R : Type 0} → WorldOf S I R → ℕ → Progress R → Type 0
IsProgress w p progress = progress ≡ progress_of (response_of_step w p)

-- where the answer is that the call goes on, it is pending afterwards
abbrev pub GoesOn : {S I R : Type 0} → WorldOf S I R → ℕ → Progress R → Type 0
GoesOn w p progress = progress ≡ Going → IsSome (w.call p)

-- what no function of a `World` changes
pub record KeepsFixed {O S I R : Type 0} (old new : WorldParts O S I R) : Type 0 where
  pub object : new.object ≡ old.object
  pub row : new.row ≡ old.row

-- a step may need memory: it decides the state and the response of a cell that has none yet
abbrev pub MayNeedMemoryAt : {S I R : Type 0} → Contents S I R → at → Type 0
MayNeedMemoryAt m (at.DecideNew c c_seq d) = new_of m d ≡ None
MayNeedMemoryAt m _ = ⊥

abbrev pub MayNeedMemory : {S I R : Type 0} → WorldOf S I R → ℕ → Type 0
MayNeedMemory w p = IfSome (w.call p) (λ (c : PendingAt). MayNeedMemoryAt w.memory c.stage)
