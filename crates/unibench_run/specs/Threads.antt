-- What a run of threads comes to.
use Rattle.std.specs.Prelude.{◌≡◌, ◌<◌, ◌≤◌, ◌*◌, ℕ, Bool, true, false, ◌||◌, nat_lt, if◌then◌else◌, Option, None, Some, List}
use Rattle.std.specs.Prelude.{[], ◌∷◌, ◌++◌, codes, length, map, slice_get, vec_len, IsSomeAnd, refl}
use Rattle.std.specs.Fmt.{decimal, digits}
use Rattle.std.specs.List.{Contains}
use Rattle.std.proofs.Common.{arith}
use Rattle.ready_objects.specs.Book.{book, book_language}
use Rattle.ready_objects.specs.Directory.{directory, directory_language}
use Rattle.ready_objects.specs.Queue.{queue, queue_language}
use Rattle.ready_objects.specs.Sticky.{sticky as sticky_register, sticky_language}
use Rattle.ready_objects.specs.declared.book.BookObject.{BookObject}
use Rattle.ready_objects.specs.declared.directory.DirectoryObject.{DirectoryObject}
use Rattle.ready_objects.specs.declared.queue.QueueObject.{QueueObject}
use Rattle.ready_objects.specs.declared.sticky.StickyObject.{StickyObject}
use Rattle.uni_record.specs.Recorded.{IsPromised, Recording, share}
use Rattle.seq_object.specs.Sequential.{Sequential}
use Rattle.uni_script.specs.Fault.{fault_text}
use Rattle.uni_script.specs.declared.fault.BenchFault.TheVariants as bench
use Rattle.uni_shared.specs.Agreement.{IsClosed}
use Rattle.uni_shared.specs.Seat.{SeatOf}
use Rattle.uni_shared.specs.declared.closed.CloseFault.{CloseFault}
use Rattle.uni_shared.specs.declared.closed.CloseFault.TheVariants as close
use Rattle.uni_shared.specs.declared.receipt.Receipt.{Receipt}
use Rattle.uni_model.specs.Chain.{Entry}
use Rattle.uni_words.specs.Belongs.{IsSeatOf, calls_made, own_calls, process_of}
use Rattle.uni_words.specs.Compare.{Agrees}
use Rattle.uni_words.specs.Objects.{sticky, tally}
use Rattle.uni_words.specs.Run.{IsLogOfRun}
use Rattle.uni_model.specs.ProcessCalls.{ProcessCalls}
use Rattle.uni_words.specs.declared.log.WordLog.{WordLog}
use Rattle.uni_words.specs.declared.seat.WordSeat.{WordSeat}
use Rattle.unibench_run.specs.Any.{HasAnyRun}
use Rattle.unibench_run.specs.Draws.{asked_in, below_1000, drawn_by, seed_of}
use Rattle.unibench_run.specs.Small.{HasSmallRun}
use Rattle.unibench_run.specs.declared.request.Form.{Form}
use Rattle.unibench_run.specs.declared.request.Form.TheVariants as form
use Rattle.unibench_run.specs.declared.request.Plan.{Plan}
use Rattle.unibench_run.specs.declared.request.ThreadsObject.{ThreadsObject}
use Rattle.unibench_run.specs.declared.request.ThreadsObject.TheVariants as object
use Rattle.unibench_run.specs.declared.threads.Done.{Done}
use Rattle.unibench_run.specs.declared.threads.Job.{Job}
use Rattle.unibench_run.specs.declared.threads.ThreadsFault.{ThreadsFault}
use Rattle.unibench_run.specs.declared.threads.ThreadsFault.TheVariants as fault

-- which objects there are in which form
abbrev pub has_form : Form → ThreadsObject → Bool
has_form form.Words object.Sticky = true
has_form form.Words object.Tally = true
has_form form.Lock object.Queue = true
has_form form.Lock object.Directory = true
has_form form.Lock object.Book = true
has_form form.Lock object.Sticky = true
has_form form.Small object.Counter = true
has_form form.Small object.Counters = true
has_form form.Small object.Register = true
has_form form.Small object.Stack = true
has_form form.Small object.Map = true
has_form form.Small object.Queue = true
has_form form.Small object.Book = true
has_form form.Small object.Sticky = true
has_form form.Any object.Queue = true
has_form form.Any object.Directory = true
has_form form.Any object.Book = true
has_form form.Any object.Sticky = true
has_form _ _ = false

-- the numbers of a plan are in range
abbrev pub IsThreadsPlan : Plan → Type 0
IsThreadsPlan plan = (1 ≤ plan.processes) × (plan.processes ≤ 64) × (1 ≤ plan.calls) × (plan.calls ≤ 10000000)

-- how many events all calls of a plan set aside, where each process has its share for each of its calls
abbrev pub events_of : Plan → ℕ
events_of plan = plan.processes * plan.calls * share plan.processes

-- Whether a form has too little room for so many calls of each process, with so many events in all, or for so many calls of all: a row
-- has 4096 calls, a history 16777216 events, and 40000000 calls are kept with their replies.
abbrev pub are_too_many : Form → (calls events all : ℕ) → Bool
are_too_many form.Words calls events all = nat_lt 4096 calls
are_too_many form.Lock calls events all = nat_lt 4096 calls || nat_lt 16777216 events
are_too_many form.Small calls events all = nat_lt 40000000 all
are_too_many form.Any calls events all = nat_lt 40000000 all

-- what a plan is refused for before anything is opened
abbrev pub refusal_of : Plan → Option ThreadsFault
refusal_of plan =
    if has_form plan.form plan.object
    then if are_too_many plan.form plan.calls (events_of plan) (plan.processes * plan.calls) then Some fault.CallsTooMany else None
    else Some fault.NoSuchObject

-- what an object means over words, if it is there
abbrev pub meaning_over_words : ThreadsObject → Option (Sequential ℕ ℕ ℕ)
meaning_over_words object.Sticky = Some sticky
meaning_over_words object.Tally = Some tally
meaning_over_words _ = None

-- A run of so many threads, each of which made so many calls, those of process p as they are drawn from its seed. What they were told
-- is, of process p, the p-th of these lists of calls: the calls of a log that is that of a run of the construction, with which they
-- agree.
pub record IsRunOfThreads (object : Sequential ℕ ℕ ℕ) (threads calls seed : ℕ) (told : List (ProcessCalls ℕ ℕ)) : Type 0 where
  pub many : length told ≡ threads
  pub each : (p : ℕ) (its : ProcessCalls ℕ ℕ) → slice_get told p ≡ Some its
      → (its.process ≡ p) × (asked_in its.calls ≡ drawn_by below_1000 (seed_of seed p) calls)
  pub log : List (Entry ℕ ℕ)
  pub run : IsLogOfRun object threads log told
  pub agrees : Agrees object log (map (λ its. its.calls) told)

-- these lists are what the threads of such a run were told, the p-th one what process p was
abbrev pub AreTold : Sequential ℕ ℕ ℕ → (threads calls seed : ℕ) → (lists : List (List (ℕ × ℕ))) → Type 0
AreTold object threads calls seed lists =
    (told : List (ProcessCalls ℕ ℕ)) × (map (λ (its : ProcessCalls ℕ ℕ). its.calls) told ≡ lists) × IsRunOfThreads object threads calls seed told

-- so many replies are those of all calls of such a run
abbrev pub HasRun : Sequential ℕ ℕ ℕ → (threads calls seed replies : ℕ) → Type 0
HasRun object threads calls seed replies =
    (replies ≡ threads * calls) × ((told : List (ProcessCalls ℕ ℕ)) × IsRunOfThreads object threads calls seed told)

-- what the calls of a seat asked for that it has receipts of
abbrev pub asked_by : {I R : Type 0} → SeatOf I R → List I
asked_by {I = I} {R = R} seat = map (λ (r : Receipt I R). r.inv) seat.receipts

-- A run of so many threads under a lock, each of which made so many calls, those of process p as they are drawn from its seed: the
-- p-th seat has its receipts. These are the calls of a record of so many processes, for whose events the main law holds.
pub record IsLockedRun {O S I R : Type 0} (sequential : O → Sequential S I R) (read : ℕ → I) (threads calls seed : ℕ) : Type 0 where
  pub recorded : Recording O S I R
  pub seats : List (SeatOf I R)
  pub many : length seats ≡ threads
  pub each : (p : ℕ) (seat : SeatOf I R) → slice_get seats p ≡ Some seat
      → (seat.process ≡ p) × (asked_by seat ≡ drawn_by read (seed_of seed p) calls)
  pub processes : recorded.processes ≡ threads
  pub closed : IsClosed sequential recorded seats
  pub promised : IsPromised sequential recorded

-- so many replies are those of all calls of such a run
abbrev pub HasLockedRun : {O S I R : Type 0} → (O → Sequential S I R) → (ℕ → I) → (threads calls seed replies : ℕ) → Type 0
HasLockedRun sequential read threads calls seed replies =
    (replies ≡ threads * calls) × IsLockedRun sequential read threads calls seed

-- so many replies are those of all calls of a run over words, or under a lock, on an object that is there
abbrev pub HasRunOverWords : ThreadsObject → (threads calls seed replies : ℕ) → Type 0
HasRunOverWords object threads calls seed replies =
    IsSomeAnd (meaning_over_words object) (λ meaning. HasRun meaning threads calls seed replies)

abbrev pub HasRunUnderLock : ThreadsObject → (threads calls seed replies : ℕ) → Type 0
HasRunUnderLock object.Queue = HasLockedRun {O = QueueObject} (λ _. queue) queue_language.inv_of_word
HasRunUnderLock object.Directory = HasLockedRun {O = DirectoryObject} (λ _. directory) directory_language.inv_of_word
HasRunUnderLock object.Book = HasLockedRun {O = BookObject} (λ _. book) book_language.inv_of_word
HasRunUnderLock object.Sticky = HasLockedRun {O = StickyObject} (λ _. sticky_register) sticky_language.inv_of_word
HasRunUnderLock _ = λ _ _ _ _. ⊥

abbrev pub HasRunIn : Form → ThreadsObject → (threads calls seed replies : ℕ) → Type 0
HasRunIn form.Words = HasRunOverWords
HasRunIn form.Lock = HasRunUnderLock
HasRunIn form.Small = HasSmallRun
HasRunIn form.Any = HasAnyRun

-- so many replies are those of all calls of a plan, in a run of it
abbrev pub IsCounted : Plan → (replies : ℕ) → Type 0
IsCounted plan = HasRunIn plan.form plan.object plan.processes plan.calls plan.seed

-- the seat is still that of a job, and has receipts of at most so many calls, the first that are drawn from the job's seed
pub record MakesCalls {I R : Type 0} (read : ℕ → I) (job : Job (SeatOf I R)) (calls : ℕ) (seat : SeatOf I R) : Type 0 where
  pub process : seat.process ≡ job.seat.process
  pub few : length seat.receipts ≤ calls
  pub asked : asked_by seat ≡ drawn_by read job.seed (length seat.receipts)

-- the fault names the call of a seat that comes after those that it has receipts of, which are fewer than so many
abbrev pub IsLacking : {I R : Type 0} → List (SeatOf I R) → (calls : ℕ) → ThreadsFault → Type 0
IsLacking {I = I} {R = R} seats calls f =
    (seat : SeatOf I R) × Contains seats seat × (length seat.receipts < calls)
    × (f ≡ fault.Differs (record { process = seat.process; nth = length seat.receipts }))

-- the fault that a refused closing is
abbrev pub closing_fault : CloseFault → ThreadsFault
closing_fault (close.MissingSeat p) = fault.SeatMissing p
closing_fault close.Stranger = fault.OtherRecord
closing_fault (close.PendingSeat p) = fault.SeatPending p
closing_fault (close.Mismatch call) = fault.Differs call
closing_fault close.Memory = fault.Memory

-- the line of so many threads and replies that agree
abbrev pub agrees_line : (threads replies : ℕ) → List ℕ
agrees_line threads replies = codes "threads " ++ decimal threads ++ codes " calls " ++ decimal replies ++ codes " agrees" ++ 10 ∷ []

-- this holds of the line that says of replies that can come of a plan that they agree
abbrev pub OfAgreed : Plan → (List ℕ → Type 0) → Type 0
OfAgreed plan Holds = (replies : ℕ) × IsCounted plan replies × Holds (agrees_line plan.processes replies)

abbrev pub text_of_fault : ThreadsFault → List ℕ
text_of_fault fault.NoSuchObject =
    codes "no such object in this form\nlock and any have queue, directory, book and sticky; words sticky and tally; small all but directory and tally"
text_of_fault fault.CallsTooMany = codes "calls too many"
text_of_fault fault.Memory = codes "out of memory"
text_of_fault fault.Write = codes "cannot write"
text_of_fault (fault.Differs call) = codes "close: call " ++ (decimal call.process ++ codes "." ++ decimal call.nth) ++ codes " differs"
text_of_fault fault.LastState = codes "close: the last state differs"
text_of_fault (fault.SeatMissing p) = codes "close: seat " ++ decimal p ++ codes " missing"
text_of_fault (fault.SeatPending p) = codes "close: seat " ++ decimal p ++ codes " pending"
text_of_fault fault.OtherRecord = codes "close: another record"
text_of_fault (fault.Audit verdict) = fault_text (bench.Audit verdict)

-- its line
abbrev pub line_of_fault : ThreadsFault → List ℕ
line_of_fault f = text_of_fault f ++ 10 ∷ []

-- the job of process p: its seat among these, and its seed
abbrev pub IsJobOf : {S : Type 0} → (seats : List S) (seed p : ℕ) → Job S → Type 0
IsJobOf seats seed p job = (slice_get seats p ≡ Some job.seat) × (job.seed ≡ seed_of seed p)

-- what came of the job of each process, in order
pub record AreJobsDone {S T : Type 0} (Gives : Job S → T → Type 0) (seats : List S) (seed : ℕ) (done : List T) : Type 0 where
  pub many : length done ≡ length seats
  pub each : (p : ℕ) (one : T) → slice_get done p ≡ Some one → (job : Job S) × IsJobOf seats seed p job × Gives job one

-- the seat of process p has made so many calls, as they are drawn from a seed, and what it was told is listed
pub record IsDone {S T C : Type 0} (HasMade : (p : ℕ) → List T → S → Type 0) (asks : T → C) (read : ℕ → C) (calls seed p : ℕ) (done : Done S T) : Type 0 where
  pub many : vec_len done.told ≡ calls
  pub made : HasMade p done.told.items done.seat
  pub asked : map asks done.told.items ≡ drawn_by read seed calls

-- so have the seats of so many processes, in order, by the seed of the first
pub record AreDone {S T C : Type 0} (HasMade : (p : ℕ) → List T → S → Type 0) (asks : T → C) (read : ℕ → C) (threads calls seed : ℕ) (done : List (Done S T)) : Type 0 where
  pub many : length done ≡ threads
  pub each : (p : ℕ) (one : Done S T) → slice_get done p ≡ Some one → IsDone HasMade asks read calls (seed_of seed p) p one

-- the seat is that of process p of this log, and has made these calls alone, each of which was told this
pub record HasMadeWords {O : Type 0} (log : WordLog O) (p : ℕ) (told : List (ℕ × ℕ)) (seat : WordSeat) : Type 0 where
  pub is_seat : IsSeatOf log seat
  pub process : process_of seat ≡ p
  pub own : told ≡ own_calls seat
  pub made : calls_made seat ≡ length told

-- what a thread was told, by its process
abbrev pub told_to : Done WordSeat (ℕ × ℕ) → ProcessCalls ℕ ℕ
told_to one = record { process = process_of one.seat; calls = one.told.items }

eight_threads : agrees_line 8 800 ≡ codes "threads 8 calls 800 agrees" ++ 10 ∷ []
unfolding digits
eight_threads = refl

lines_of_faults : map line_of_fault (fault.Differs (record { process = 1; nth = 0 }) ∷ fault.SeatPending 3 ∷ [])
    ≡ (codes "close: call 1.0 differs" ++ 10 ∷ []) ∷ (codes "close: seat 3 pending" ++ 10 ∷ []) ∷ []
unfolding digits
lines_of_faults = refl

-- the last numbers of calls of each process, of events and of all calls that a form has room for, and the first that it hasn't
a_lock_has_room : map (λ (n : ℕ × ℕ × ℕ). are_too_many form.Lock n.0 n.1 n.2) ((4096, 16777216, 40000001) ∷ (4096, 16777217, 1) ∷ (4097, 1, 1) ∷ [])
    ≡ false ∷ true ∷ true ∷ []
a_lock_has_room = refl

words_have_room : map (λ (calls : ℕ). are_too_many form.Words calls 16777217 40000001) (4096 ∷ 4097 ∷ []) ≡ false ∷ true ∷ []
words_have_room = refl

forty_million_calls_are_kept : map (λ (in_form : Form). map (are_too_many in_form 10000000 16777217) (40000000 ∷ 40000001 ∷ [])) (form.Small ∷ form.Any ∷ [])
    ≡ (false ∷ true ∷ []) ∷ (false ∷ true ∷ []) ∷ []
forty_million_calls_are_kept = refl

-- a plan, and one of a queue under a lock
abbrev plan_on : Form → ThreadsObject → (processes calls : ℕ) → Plan
plan_on in_form its processes calls = record { form = in_form; object = its; processes = processes; calls = calls; seed = 1 }

abbrev under_lock : (processes calls : ℕ) → Plan
under_lock = plan_on form.Lock object.Queue

no_tally_but_over_words : map (λ (in_form : Form). refusal_of (plan_on in_form object.Tally 64 4096)) (form.Words ∷ form.Lock ∷ form.Any ∷ [])
    ≡ None ∷ Some fault.NoSuchObject ∷ Some fault.NoSuchObject ∷ []
no_tally_but_over_words = refl

calls_under_a_lock : map (λ (n : ℕ × ℕ). refusal_of (under_lock n.0 n.1)) ((16, 20) ∷ (19, 4096) ∷ (20, 3938) ∷ (64, 401) ∷ [])
    ≡ None ∷ None ∷ None ∷ None ∷ []
calls_under_a_lock = refl

too_many_calls_under_a_lock : map (λ (n : ℕ × ℕ). refusal_of (under_lock n.0 n.1)) ((20, 3939) ∷ (64, 402) ∷ (64, 4096) ∷ [])
    ≡ Some fault.CallsTooMany ∷ Some fault.CallsTooMany ∷ Some fault.CallsTooMany ∷ []
too_many_calls_under_a_lock = refl

-- the least and the greatest plan, and what is just outside
the_least_plan : IsThreadsPlan (under_lock 1 1)
the_least_plan = (omega arith, omega arith, omega arith, omega arith)

the_greatest_plan : IsThreadsPlan (under_lock 64 10000000)
the_greatest_plan = (omega arith, omega arith, omega arith, omega arith)

no_plan_is_just_outside : ¬ (IsThreadsPlan (under_lock 0 1)) × ¬ (IsThreadsPlan (under_lock 65 1))
    × ¬ (IsThreadsPlan (under_lock 1 0)) × ¬ (IsThreadsPlan (under_lock 1 10000001))
no_plan_is_just_outside = (
  (λ plan. let least = plan.0 in omega arith),
  (λ plan. let most = plan.1 in omega arith),
  (λ plan. let least = plan.2 in omega arith),
  (λ plan. let most = plan.3 in omega arith),
)
