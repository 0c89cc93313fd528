-- What a seat knows.
use Rattle.std.specs.Prelude.{Bool, false, true, ℕ, ◌+◌, ◌-◌, ◌==◌, List, [], ◌∷◌, ◌++◌, Option, None, Some}
use Rattle.std.specs.Prelude.{if◌then◌else◌, length, slice_set}
use Rattle.uni_small.specs.Image.{Image}
use Rattle.uni_small.specs.Board.{version_in}
use Rattle.uni_small.specs.declared.sizes.Sizes.{Sizes}

-- A call that has returned: its invocation and its reply. It comes after all calls that are in its version `after`, and
-- is one of those that are in its version `version`.
pub record Returned : Type 0 where
  pub inv : List ℕ
  pub reply : List ℕ
  pub after : ℕ
  pub version : ℕ

-- its invocation with its reply
abbrev pub plain : Returned → List ℕ × List ℕ
plain call = (call.inv, call.reply)

-- the calls of one process that have returned, in their order
pub record ProcessReturned : Type 0 where
  pub process : ℕ
  pub calls : List Returned

-- a version that a process has read, and its state
pub record Read : Type 0 where
  pub version : ℕ
  pub state : List ℕ

-- Where a process stands. `tries` counts the attempts of its call that have failed, `s` is the word S that the attempt
-- began with, `copy` the words of the buffer that it has copied, and `seen` what it has seen of each process: nothing
-- to apply, or an invocation, of which the last one may still lack words.
pub data Stage : Type 0 where
  -- no call is pending, and these words of the next invocation are stored
  Idle : (stored : List ℕ) → Stage
  -- an attempt, or the end of the call, comes next
  Ready : (tries : ℕ) → Stage
  -- the words of the buffer are copied, and then the announcements are looked at, and the words of invocations that
  -- aren't in
  Reading : (tries s : ℕ) → (copy : List ℕ) → (seen : List (Option (List ℕ))) → Stage
  -- the copy was good; with what was seen applied, it is written to the spare buffer, word by word, where a word
  -- differs: this one is next
  Writing : (tries s : ℕ) → Image → (seen : List (Option (List ℕ))) → (written : ℕ) → Stage
  -- the call is in, its reply is in the buffer that s names, and these words of it are loaded
  Last : (s : ℕ) → (loaded : List ℕ) → Stage

-- of one process: its stage, the invocation of its latest call, how many calls its announcement tells, which of its
-- buffers is its spare one, the words of both, the version that its next calls come after, its calls that have
-- returned, what it has read since the last one of them, and how many word steps it has taken
pub record Local : Type 0 where
  pub stage : Stage
  -- whether its call is attempted directly, and isn't announced: true from the beginning of a direct attempt until its
  -- call is announced, or has returned; so also between calls, where a direct attempt has failed
  pub direct : Bool
  pub inv : List ℕ
  pub told : ℕ
  pub spare : ℕ
  pub held : List ℕ
  pub after : ℕ
  pub own : List Returned
  pub read : Option Read
  pub steps : ℕ

-- a seat has the processes from the first on, of an object of these sizes; what it knows of each of them; and the calls
-- of each process whose seat it has taken in
pub record Known : Type 0 where
  pub sizes : Sizes
  pub first : ℕ
  pub count : ℕ
  pub local : Local
  pub taken : List ProcessReturned

abbrev pub at_rest : (held : List ℕ) → Local
at_rest held = record { stage = Idle []; direct = false; inv = []; told = 0; spare = 1; held = held; after = 0; own = []; read = None; steps = 0 }

abbrev pub everyone : Sizes → (held : List ℕ) → Known
everyone sizes held = record { sizes = sizes; first = 0; count = sizes.processes; local = at_rest held; taken = [] }

-- the process after a step, at its next stage
abbrev pub goes : Local → Stage → Local
goes l stage = record l { stage = stage; steps = l.steps + 1 }

-- after it has announced its next call, of this invocation
abbrev pub announces : Local → (inv : List ℕ) → Local
announces l inv = record l { stage = Ready 0; direct = false; inv = inv; told = length l.own + 1; steps = l.steps + 1 }

-- after it has begun a direct attempt, with these words of the buffer
abbrev pub begins_directly : Local → (s : ℕ) → (copy : List ℕ) → Local
begins_directly l s copy = record l { stage = Reading 0 s copy []; direct = true; steps = l.steps + 1 }

-- a stage at which the words of the spare buffer before this one are written
abbrev pub written_to : Stage → (k : ℕ) → Stage
written_to (Writing tries s image seen written) k = Writing tries s image seen k
written_to stage k = stage

-- after it has stored x in word k of the spare buffer, which is at this place among the words of its buffers
abbrev pub wrote : Local → (k place x : ℕ) → Local
wrote l k place x = record l { stage = written_to l.stage (k + 1); held = slice_set l.held place x; steps = l.steps + 1 }

-- after it has brought in its spare buffer, by this word
abbrev pub brings : Local → (s : ℕ) → Local
brings l s = record l { stage = Last s []; spare = 1 - l.spare; steps = l.steps + 1 }

-- after it has brought in its spare buffer by a direct attempt at this call
abbrev pub brings_own : Local → (s : ℕ) → (inv : List ℕ) → Local
brings_own l s inv = record l { stage = Last s []; inv = inv; spare = 1 - l.spare; steps = l.steps + 1 }

-- its call that returns with this reply, which was read in the buffer that s names
abbrev pub ending : Local → (s : ℕ) → (reply : List ℕ) → Returned
ending l s reply = record { inv = l.inv; reply = reply; after = l.after; version = version_in s }

-- after that call has returned
abbrev pub returns : Local → (s : ℕ) → (reply : List ℕ) → Local
returns l s reply =
    record l { stage = Idle []; direct = false; after = version_in s; own = l.own ++ ending l s reply ∷ []; read = None; steps = l.steps + 1 }

-- after it has asked which version has come, and found this one
abbrev pub knows : Local → (version : ℕ) → Local
knows l version = record l { after = version; steps = l.steps + 1 }

-- after it has read this state of the version that s names, in place of a direct attempt: where S is still s, its next
-- calls come after that version, which it has read
abbrev pub confirms : Local → (s : ℕ) → (state : List ℕ) → (found : ℕ) → Local
confirms l s state found = record l {
  stage = Idle [];
  direct = false;
  after = if found == s then version_in s else l.after;
  read = if found == s then Some (record { version = version_in s; state = state }) else l.read;
  steps = l.steps + 1;
}

-- after it has asked whether the version that it has read is still the present one: where it is, its next calls come
-- after it
abbrev pub recalls : Local → (version present : ℕ) → Local
recalls l version present = record l { after = if present == version then version else l.after; steps = l.steps + 1 }
