-- What a log is compared with: the calls of each process, as they were given their replies.
use Rattle.std.specs.Prelude.{◌≡◌, ◌≢◌, ◌⊎◌, ℕ, ◌<◌, List, Some, map, length, slice_get}
use Rattle.seq_object.specs.Sequential.{Sequential}
use Rattle.seq_object.specs.History.{response_at}
use Rattle.seq_object.specs.declared.call_id.CallId.{CallId}
use Rattle.uni_model.specs.Chain.{Entry}
use Rattle.uni_words.specs.Log.{calls_by, replied}

abbrev pub invocations_of : List (Entry ℕ ℕ) → List ℕ
invocations_of log = map (λ e. e.call.inv) log

-- the entry at this place has the object's reply at it, from the start state on, and is a call of one of so many
-- processes
abbrev pub IsRight : Sequential ℕ ℕ ℕ → List (Entry ℕ ℕ) → (processes place : ℕ) → Type 0
IsRight object log processes place =
    (e : Entry ℕ ℕ) → slice_get log place ≡ Some e
    → (e.response ≡ response_at object object.initial (invocations_of log) place) × (e.call.process < processes)

-- all entries are right, and the lists are the calls of their processes, in order
pub record Agrees (object : Sequential ℕ ℕ ℕ) (log : List (Entry ℕ ℕ)) (lists : List (List (ℕ × ℕ))) : Type 0 where
  pub right : (place : ℕ) → IsRight object log (length lists) place
  pub calls : (p : ℕ) (own : List (ℕ × ℕ)) → slice_get lists p ≡ Some own → calls_by p log ≡ map replied own

-- this is the first entry that isn't right, and that is its call
pub record IsFirstWrong (object : Sequential ℕ ℕ ℕ) (log : List (Entry ℕ ℕ)) (processes : ℕ) (call : CallId)
    : Type 0 where
  pub place : ℕ
  pub entry : Entry ℕ ℕ
  pub here : slice_get log place ≡ Some entry
  pub named : (call.process ≡ entry.call.process) × (call.nth ≡ entry.call.nth)
  pub wrong : ¬ (IsRight object log processes place)
  pub before : (i : ℕ) → i < place → IsRight object log processes i

-- two lists are the same up to this place, and not at it
abbrev pub DiffersFirstAt : {A : Type 0} → (xs ys : List A) → ℕ → Type 0
DiffersFirstAt xs ys j = (slice_get xs j ≢ slice_get ys j) × ((i : ℕ) → i < j → slice_get xs i ≡ slice_get ys i)

-- this is the first call, by process and by its place in the process's list, in which the list isn't the log
pub record IsFirstOther (log : List (Entry ℕ ℕ)) (lists : List (List (ℕ × ℕ))) (call : CallId) : Type 0 where
  pub own : List (ℕ × ℕ)
  pub here : slice_get lists call.process ≡ Some own
  pub other : DiffersFirstAt (calls_by call.process log) (map replied own) call.nth
  pub before : (q : ℕ) (calls : List (ℕ × ℕ)) → q < call.process → slice_get lists q ≡ Some calls
      → calls_by q log ≡ map replied calls

-- the first entry that isn't right; where there is none, the first call that the lists have otherwise
abbrev pub IsFirstFault : Sequential ℕ ℕ ℕ → List (Entry ℕ ℕ) → List (List (ℕ × ℕ)) → CallId → Type 0
IsFirstFault object log lists call =
    IsFirstWrong object log (length lists) call
    ⊎ (((place : ℕ) → IsRight object log (length lists) place) × IsFirstOther log lists call)
