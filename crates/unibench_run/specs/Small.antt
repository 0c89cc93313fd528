-- What a run of threads on an object of several words comes to.
use Rattle.std.specs.Prelude.{◌≡◌, ◌*◌, ℕ, List, [], ◌∷◌, Some, drop, length, map, slice_get, slice_index, suc, refl}
use Rattle.ready_objects.specs.Book.{book_language}
use Rattle.ready_objects.specs.Queue.{queue_language}
use Rattle.ready_objects.specs.Sticky.{sticky, sticky_language}
use Rattle.small_objects.specs.Amount.{amount_in, amount_words}
use Rattle.small_objects.specs.Book as book
use Rattle.small_objects.specs.Counter.{counter}
use Rattle.small_objects.specs.Counters as counters
use Rattle.small_objects.specs.Encoding.{encoded, first_word, in_words, of_one_word, one_word}
use Rattle.small_objects.specs.Map as small_map
use Rattle.small_objects.specs.Register as register
use Rattle.small_objects.specs.ScriptQueue as queue
use Rattle.small_objects.specs.Stack.{stack}
use Rattle.small_objects.specs.Sticky as small_sticky
use Rattle.small_objects.specs.Placed.{placed}
use Rattle.told_order.specs.Replay.{IsReplayed}
use Rattle.told_order.specs.declared.order.ReplayFault.{ReplayFault}
use Rattle.told_order.specs.declared.order.ReplayFault.TheVariants as replay
use Rattle.told_order.specs.declared.in_place.InPlace.{InPlace}
use Rattle.uni_small.specs.Belongs.{IsSeatOf, calls_made, calls_of, invocation_width_of, process_of}
use Rattle.uni_small.specs.Belongs.{reply_width_of}
use Rattle.uni_small.specs.Final.{HasHistory}
use Rattle.uni_small.specs.Image.{Meaning}
use Rattle.uni_small.specs.View.{ProcessReturned, Returned}
use Rattle.uni_small.specs.declared.log.SmallShared.{SmallShared}
use Rattle.uni_small.specs.declared.seat.SmallSeat.{SmallSeat}
use Rattle.unibench_run.specs.Draws.{asked_in, below_1000, drawn_by, seed_of}
use Rattle.unibench_run.specs.SmallDraws.{counters_call, map_call, register_call, zero_or_value}
use Rattle.unibench_run.specs.declared.request.ThreadsObject.{ThreadsObject}
use Rattle.unibench_run.specs.declared.request.ThreadsObject.TheVariants as object
use Rattle.unibench_run.specs.declared.threads.ThreadsFault.{ThreadsFault}
use Rattle.unibench_run.specs.declared.threads.ThreadsFault.TheVariants as fault

-- what the words of a reply tell: its place, and the reply that the words behind it are
abbrev pub in_place : {R : Type 0} → (reads : List ℕ → R) → List ℕ → InPlace R
in_place reads words = record { place = slice_index words 0; reply = reads (drop 1 words) }

-- A call with what it was told: its words, and as the words are read that its process kept.
abbrev pub in_words_of : {C R : Type 0} → (asks : C → List ℕ) → C × InPlace R → List ℕ × InPlace R
in_words_of asks call = (asks call.0, call.1)

abbrev pub read_in_place : {R : Type 0} → (reads : List ℕ → R) → Returned → List ℕ × InPlace R
read_in_place reads call = (call.inv, in_place reads call.reply)

-- these are the calls of a process, each with what it was told
abbrev pub AreCalls : {C R : Type 0} → (asks : C → List ℕ) (reads : List ℕ → R) → List (C × InPlace R) → ProcessReturned → Type 0
AreCalls asks reads own its = map (in_words_of asks) own ≡ map (read_in_place reads) its.calls

-- the list of process p: as many calls as these, as they are drawn from a seed
pub record IsDrawnList {C R : Type 0} (asks : C → List ℕ) (reads : List ℕ → R) (read : ℕ → C) (calls seed p : ℕ) (its : ProcessReturned)
    (own : List (C × InPlace R)) : Type 0 where
  pub process : its.process ≡ p
  pub told : AreCalls asks reads own its
  pub asked : asked_in own ≡ drawn_by read seed calls

-- A run of so many threads, each of which made so many calls, those of process p as they are drawn from its seed. The p-th list is what
-- process p was told. They are the calls of the closed object, whose last state is `last`. Made one after another, in the order that they
-- were told, the object answers each as it was answered, and they lead to that state again.
pub record IsSmallRun {C R : Type 0} (meaning : Meaning) (asks : C → List ℕ) (tells : R → List ℕ) (reads : List ℕ → R) (read : ℕ → C)
    (threads calls seed : ℕ) (lists : List (List (C × InPlace R))) : Type 0 where
  pub told : List ProcessReturned
  pub many : length told ≡ threads
  pub each : (p : ℕ) (its : ProcessReturned) → slice_get told p ≡ Some its
      → (own : List (C × InPlace R)) × (slice_get lists p ≡ Some own) × IsDrawnList asks reads read calls (seed_of seed p) p its own
  pub last : List ℕ
  pub final : HasHistory (placed meaning).object threads told last
  pub replayed : IsReplayed meaning.object asks tells lists (drop 1 last)

-- so many replies are those of all calls of such a run
abbrev pub HasRunOn : {C R : Type 0} → Meaning → (asks : C → List ℕ) (tells : R → List ℕ) (reads : List ℕ → R) (read : ℕ → C)
    → (threads calls seed replies : ℕ) → Type 0
HasRunOn {C} {R} meaning asks tells reads read threads calls seed replies =
    (replies ≡ threads * calls) × ((lists : List (List (C × InPlace R))) × IsSmallRun meaning asks tells reads read threads calls seed lists)

-- the sticky register as words
abbrev pub sticky_meaning : Meaning
sticky_meaning = record {
  object = in_words (encoded sticky amount_words amount_in) small_sticky.call_in small_sticky.reply_words;
  invocation = 2;
  reply = 2;
}

-- so many replies are those of a run on an object that is there: 16 counters, and room for 64 values or pairs; a queue of scripts has room for 1,000
abbrev pub HasSmallRun : ThreadsObject → (threads calls seed replies : ℕ) → Type 0
HasSmallRun object.Counter = HasRunOn (of_one_word counter) one_word one_word first_word below_1000
HasSmallRun object.Counters = HasRunOn (counters.spelled 16) counters.call_words one_word first_word counters_call
HasSmallRun object.Register = HasRunOn register.spelled register.call_words one_word first_word register_call
HasSmallRun object.Stack = HasRunOn (of_one_word (stack 64)) one_word one_word first_word zero_or_value
HasSmallRun object.Map = HasRunOn (small_map.spelled 64) small_map.call_words small_map.reply_words small_map.reply_in map_call
HasSmallRun object.Queue = HasRunOn (queue.spelled 1000) queue.call_words queue.reply_words queue.reply_in queue_language.inv_of_word
HasSmallRun object.Book = HasRunOn book.spelled book.call_words book.reply_words book.reply_in book_language.inv_of_word
HasSmallRun object.Sticky =
    HasRunOn sticky_meaning small_sticky.call_words small_sticky.reply_words small_sticky.reply_in sticky_language.inv_of_word
HasSmallRun _ = λ _ _ _ _. ⊥

-- the fault that a replay's is
abbrev pub fault_of_replay : ReplayFault → ThreadsFault
fault_of_replay (replay.Differs call) = fault.Differs call
fault_of_replay replay.OtherState = fault.LastState
fault_of_replay replay.Memory = fault.Memory

module _ {O : Type 0} (shared : SmallShared O) where
  -- a call has so many words, and a reply one more, and there is room for them
  pub record IsWide (call reply : ℕ) (invocation told : List ℕ) : Type 0 where
    pub call_wide : invocation_width_of shared ≡ call
    pub reply_wide : reply_width_of shared ≡ suc reply
    pub call_room : length invocation ≡ call
    pub reply_room : length told ≡ suc reply

  -- the seat is that of process p, and has made these calls alone, each of which was told this
  pub record HasMadeSmall {C R : Type 0} (asks : C → List ℕ) (reads : List ℕ → R) (p : ℕ) (told : List (C × InPlace R)) (seat : SmallSeat O) : Type 0 where
    pub is_seat : IsSeatOf shared seat
    pub process : process_of seat ≡ p
    pub own : AreCalls asks reads told (calls_of seat)
    pub made : calls_made seat ≡ length told

-- a counter's call 3, which was told that one call came before it, and the sum 5
one_call : AreCalls one_word first_word ((3, record { place = 1; reply = 5 }) ∷ [])
    (record { process = 0; calls = record { inv = 3 ∷ []; reply = 1 ∷ 5 ∷ []; after = 0; version = 2 } ∷ [] })
one_call = refl
