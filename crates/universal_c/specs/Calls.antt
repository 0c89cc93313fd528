-- What a handle's value is to a caller.
use Rattle.std.specs.Prelude.{All, ◌≡◌, ℕ, ◌+◌, ◌*◌, ◌≤◌, ◌++◌, ◌∷◌, List, [], map, vec_len, IsSomeAnd}
use Rattle.std.specs.declared.option.Option.{Option}
use Rattle.std.specs.declared.option.Option.TheVariants.{None, Some}
use Rattle.seq_object.specs.History.{IsLegal}
use Rattle.seq_object.specs.declared.call_id.CallId.{CallId}
use Rattle.uni_model.specs.Chain.{Entry}
use Rattle.uni_model.specs.History.{logged_call}
use Rattle.uni_words.specs.declared.log.WordLog.{WordLog}
use Rattle.uni_words.specs.declared.seat.WordSeat.{WordSeat}
use Rattle.uni_words.specs.declared.read.WordEntry.{WordEntry}
use Rattle.uni_words.specs.Belongs.{object_of, own_calls, calls_made, calls_of, known_calls, latest_turns, process_of, processes_of, row_of}
use Rattle.uni_words.specs.Belongs.{IsCallOf, KnowsCall, log_in as log_told, seen_by, word_steps_of}
use Rattle.uni_words.specs.Log.{AreAnswered, AreCallsOf, IsInOrder, IsLogged, entry_shown}
use Rattle.uni_words.specs.Run.{IsLogOfRun}
use Rattle.uni_words.specs.View.{seen_of, told_by}
use Rattle.universal_c.specs.Meaning.{meaning}
use Rattle.universal_c.specs.declared.object.Object.{Object}
use Rattle.universal_c.specs.declared.held.Held.{Held}
use Rattle.universal_c.specs.declared.held.Held.TheVariants.{Log, Seat, Closed, Entries}

-- the log that a handle has, or whose seat it has
abbrev pub log_in : Option Held → Option (WordLog Object)
log_in (Some (Log l)) = Some l.log.value
log_in (Some (Seat s)) = Some s.log.value
log_in _ = None

-- how many seats of its log a handle has still to give out
abbrev pub left_in : Option Held → Option ℕ
left_in (Some (Log l)) = Some (vec_len l.seats)
left_in _ = None

-- the seat that a handle has
abbrev pub seat_in : Option Held → Option WordSeat
seat_in (Some (Seat s)) = Some s.seat
seat_in _ = None

-- the log that was closed and is still to be read
abbrev pub unread_in : Option Held → Option (List (Entry ℕ ℕ))
unread_in (Some (Closed words)) = Some (log_told words)
unread_in _ = None

-- the closed log that a handle has, read or not
abbrev pub closed_in : Option Held → Option (List (Entry ℕ ℕ))
closed_in (Some (Closed words)) = Some (log_told words)
closed_in (Some (Entries e)) = Some (map entry_shown e.items)
closed_in _ = None

-- the entries of a closed log that a handle has
abbrev pub entries_in : Option Held → Option (List WordEntry)
entries_in (Some (Entries e)) = Some e.items
entries_in _ = None

-- a log of this object, with as many processes and calls, none of whose seats was given out
abbrev pub HasOpened : (new : Option Held) → Object → (n k : ℕ) → Type 0
HasOpened new object n k = IsSomeAnd (log_in new) (λ log.
    (object_of log ≡ object) × (processes_of log ≡ n) × (row_of log ≡ k)) × (left_in new ≡ Some n)

-- a seat of this process, which has made no call
abbrev pub HasSeat : (new : Option Held) (process : ℕ) → Type 0
HasSeat new process = IsSomeAnd (seat_in new) (λ seat.
    (process_of seat ≡ process) × (own_calls seat ≡ []) × (calls_made seat ≡ 0))

-- a seat that has made all its calls
abbrev pub IsFull : Option Held → Type 0
IsFull old = IsSomeAnd (log_in old) (λ log. IsSomeAnd (seat_in old) (λ seat. calls_made seat ≡ row_of log))

-- the same seat, which has made one more call: inv, which was answered reply after these turns, in at most 12n + 15 word steps
abbrev pub HasCalled : (old new : Option Held) (inv reply turns : ℕ) → Type 0
HasCalled old new inv reply turns = IsSomeAnd (log_in old) (λ log. IsSomeAnd (seat_in old) (λ s. IsSomeAnd (seat_in new) (λ t.
    (process_of t ≡ process_of s) × (own_calls t ≡ own_calls s ++ (inv, reply) ∷ [])
    × (calls_made t ≡ calls_made s + 1) × (latest_turns t ≡ turns)
    × (word_steps_of t ≤ word_steps_of s + (12 * processes_of log + 15)))))

-- The same seat, which has asked about the call: it has seen what the number tells, 1 or 0. Of one that the log has no room for that
-- is 0, and nothing has changed; each other one costs a word step, and one that the seat knows is there.
pub record AsksOf {O : Type 0} (log : WordLog O) (s t : WordSeat) (call : CallId) (number : ℕ) : Type 0 where
  pub few : number ≤ 1
  pub calls : calls_of t ≡ calls_of s
  pub seen : seen_by t ≡ seen_by s ++ seen_of (calls_of s) (told_by call number)
  pub outside : ¬ (IsCallOf log call) → (number ≡ 0) × (t ≡ s)
  pub steps : IsCallOf log call → word_steps_of t ≡ word_steps_of s + 1
  pub known : IsCallOf log call → KnowsCall s call → number ≡ 1

-- the same seat, which has asked about the call
abbrev pub HasAsked : (old new : Option Held) (process nth number : ℕ) → Type 0
HasAsked old new process nth number = IsSomeAnd (log_in old) (λ log. IsSomeAnd (seat_in old) (λ s. IsSomeAnd (seat_in new) (λ t.
    AsksOf log s t (record { process = process; nth = nth }) number)))

-- The entries are the log's: a legal history of the object from its start, that of a run of the construction, in which the calls of the
-- seat's process are the seat's own, with the replies that it was given. They are in the order that it saw.
pub record IsLogOf (log : WordLog Object) (seat : WordSeat) (entries : List (Entry ℕ ℕ)) : Type 0 where
  pub legal : IsLegal (meaning (object_of log)) (meaning (object_of log)).initial (map logged_call entries)
  pub answered : AreAnswered entries
  pub inside : AreCallsOf (processes_of log) entries
  pub own : IsLogged entries (calls_of seat)
  pub run : IsLogOfRun (meaning (object_of log)) (processes_of log) entries (known_calls seat)
  pub order : All (IsInOrder entries) (seen_by seat)

-- in place of the seat is its log, closed
abbrev pub HasClosed : (old new : Option Held) → Type 0
HasClosed old new = IsSomeAnd (log_in old) (λ log. IsSomeAnd (seat_in old) (λ seat. IsSomeAnd (closed_in new) (IsLogOf log seat)))
