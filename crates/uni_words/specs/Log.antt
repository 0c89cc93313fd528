-- The log that the words of a closed table tell.
use Rattle.std.specs.Prelude.{◌≡◌, ℕ, ◌+◌, ◌*◌, ◌<◌, ◌≤◌, ◌==◌, ◌&&◌, Bool, true, false, nat_lt}
use Rattle.std.specs.Prelude.{slice_get, List, [], ◌∷◌, Option, Some, map, length, if◌then◌else◌, IsSome, refl, take}
use Rattle.uni_model.specs.Places.{Name, Memory, seq_of}
use Rattle.uni_model.specs.Places.Name.{Anchor, Of}
use Rattle.uni_model.specs.Chain.{Entry, cells_from, entries_from}
use Rattle.uni_model.specs.Invariant.{IsNumbered}
use Rattle.uni_model.specs.Eras.{StandsAt}
use Rattle.uni_model.specs.Responses.{calls_among}
use Rattle.uni_model.specs.ProcessCalls.{ProcessCalls}
use Rattle.uni_words.specs.View.{Seen}
use Rattle.uni_words.specs.Words.{words_of, memory_of}
use Rattle.uni_words.specs.declared.read.WordEntry.{WordEntry}

-- What the words of a closed table tell. All invocations count as begun, since only cells of the chain are looked at.
abbrev pub told_memory : (n row : ℕ) → List ℕ → Memory ℕ ℕ ℕ
told_memory n row words = memory_of n row words (λ p. row)

-- The entries of the chain after the anchor. At most n * row cells are followed; none is left out, by `few` and
-- `linked` of `IsChained`.
abbrev pub log_of : (n row : ℕ) → List ℕ → List (Entry ℕ ℕ)
log_of n row words =
    entries_from (told_memory n row words) (seq_of (told_memory n row words) Anchor + 1)
    (cells_from (n * row) (told_memory n row words) Anchor)

-- the words show one chain: its cells are numbered from the anchor on, which has number 1, and are cells of the table
pub record IsChained (n row : ℕ) (words : List ℕ) : Type 0 where
  pub num : Name → ℕ
  pub last : ℕ
  pub wide : length words ≡ words_of n row
  pub numbered : IsNumbered (told_memory n row words) num last
  pub first : num Anchor ≡ 1
  pub linked : (p k : ℕ) → 1 ≤ num (Of p k) → (p < n) × (k < row)
  pub few : last ≤ n * row + 1

-- the cell is that of a call of the table
abbrev pub is_call_cell : (n row : ℕ) → Name → Bool
is_call_cell n row Anchor = false
is_call_cell n row (Of p k) = nat_lt p n && nat_lt k row

-- each cell of the chain is that of a call
abbrev pub AreCallCells : (n row : ℕ) → List ℕ → Type 0
AreCallCells n row words =
    (place : ℕ) (x : Name) → slice_get (cells_from (n * row) (told_memory n row words) Anchor) place ≡ Some x
    → is_call_cell n row x ≡ true

-- the invocations and the replies of the calls of a process in a log, in its order
abbrev pub calls_by : ℕ → List (Entry ℕ ℕ) → List (ℕ × Option ℕ)
calls_by p [] = []
calls_by p (e ∷ es) = if e.call.process == p then (e.call.inv, e.response) ∷ calls_by p es else calls_by p es

-- each entry has its reply, but perhaps the last
abbrev pub AreAnswered : List (Entry ℕ ℕ) → Type 0
AreAnswered log =
    (place : ℕ) (e : Entry ℕ ℕ) → slice_get log place ≡ Some e → place + 1 < length log → IsSome e.response

-- each entry is a call of one of so many processes
abbrev pub AreCallsOf : ℕ → List (Entry ℕ ℕ) → Type 0
AreCallsOf n log = (place : ℕ) (e : Entry ℕ ℕ) → slice_get log place ≡ Some e → e.call.process < n

-- an invocation that was given this reply
abbrev pub replied : ℕ × ℕ → ℕ × Option ℕ
replied c = (c.0, Some c.1)

-- In the log a process has exactly these calls, in this order, each with its reply; the j-th of its entries is its call
-- j.
pub record IsLogged (log : List (Entry ℕ ℕ)) (its : ProcessCalls ℕ ℕ) : Type 0 where
  pub calls : calls_by its.process log ≡ map replied its.calls
  pub numbered : (place : ℕ) (e : Entry ℕ ℕ) → slice_get log place ≡ Some e → e.call.process ≡ its.process
      → e.call.nth ≡ calls_among its.process (take place log)

-- before each call that the process of `made` made afterwards, wherever it stands in the log, stands each call of
-- `earlier`
abbrev pub IsInOrder : List (Entry ℕ ℕ) → Seen → Type 0
IsInOrder log s =
    (i j place : ℕ) → i < s.earlier.count → length s.made.calls ≤ j → StandsAt log s.made.process j place
    → (before : ℕ) × (before < place) × StandsAt log s.earlier.process i before

-- The entry of the last of these calls, where the log has one, has this number. That it has one says `IsLogged`.
abbrev pub LastHasNumber : List (Entry ℕ ℕ) → ProcessCalls ℕ ℕ → (number : ℕ) → Type 0
LastHasNumber log its number =
    (place : ℕ) (e : Entry ℕ ℕ) → slice_get log place ≡ Some e → e.call.process ≡ its.process
    → e.call.nth + 1 ≡ length its.calls
    → e.number ≡ number

-- an entry of the code, as one of the definitions
abbrev pub entry_shown : WordEntry → Entry ℕ ℕ
entry_shown e = record {
  number = e.seq;
  call = record { process = e.call.process; nth = e.call.nth; inv = e.inv };
  response = e.reply;
}

-- one process with rows of one call, whose call 0.0 has the invocation 5 and is answered 0
sample_words : List ℕ
sample_words = 1 ∷ 1 ∷ 0 ∷ 5 ∷ 1 ∷ 2 ∷ 0 ∷ 1 ∷ 2 ∷ 0 ∷ 1 ∷ 21474836481 ∷ []

sample_log : log_of 1 1 sample_words
    ≡ record { number = 2; call = record { process = 0; nth = 0; inv = 5 }; response = Some 0 } ∷ []
unfolding sample_words
sample_log = refl

sample_calls : calls_by 0 (log_of 1 1 sample_words) ≡ map replied ((5, 0) ∷ [])
unfolding sample_words
sample_calls = refl

sample_others : calls_by 1 (log_of 1 1 sample_words) ≡ []
unfolding sample_words
sample_others = refl

-- of two processes with rows of three calls, the last cell of a call, and the first that isn't one
last_call_cell : is_call_cell 2 3 (Of 1 2) ≡ true
last_call_cell = refl

no_call_cell_of_the_third_process : is_call_cell 2 3 (Of 2 0) ≡ false
no_call_cell_of_the_third_process = refl

no_call_cell_of_the_fourth_call : is_call_cell 2 3 (Of 1 3) ≡ false
no_call_cell_of_the_fourth_call = refl

anchor_is_no_call_cell : is_call_cell 2 3 Anchor ≡ false
anchor_is_no_call_cell = refl
