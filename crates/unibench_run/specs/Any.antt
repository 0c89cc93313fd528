-- What a run of threads on any object comes to.
use Rattle.std.specs.Prelude.{◌≡◌, ◌*◌, ℕ, List, [], ◌∷◌, None, Some, length, map, slice_get, refl}
use Rattle.ready_objects.specs.Book.{book, book_language}
use Rattle.ready_objects.specs.Directory.{directory, directory_language, pairs_text}
use Rattle.ready_objects.specs.Number.{numbers_text}
use Rattle.ready_objects.specs.Queue.{queue, queue_language}
use Rattle.ready_objects.specs.Sticky.{sticky, sticky_language, sticky_text}
use Rattle.seq_object.specs.Sequential.{Sequential}
use Rattle.told_order.specs.Counted.{counted}
use Rattle.told_order.specs.Replay.{IsReplayed, itself}
use Rattle.told_order.specs.declared.counted.CountedState.{CountedState}
use Rattle.told_order.specs.declared.in_place.InPlace.{InPlace}
use Rattle.uni_any.specs.Closed.{HasRunTo}
use Rattle.uni_any.specs.Final.{KnownCalls}
use Rattle.uni_any.specs.Seats.{IsSeatOf, own_calls, pending_call, process_of}
use Rattle.uni_any.specs.declared.seat.AnySeat.{AnySeat}
use Rattle.uni_any.specs.declared.seat.AnyShared.{AnyShared}
use Rattle.uni_any.specs.declared.view.Version.{Version}
use Rattle.uni_any.specs.declared.view.Returned.{Returned}
use Rattle.unibench_run.specs.Draws.{asked_in, drawn_by, seed_of}
use Rattle.unibench_run.specs.declared.request.ThreadsObject.{ThreadsObject}
use Rattle.unibench_run.specs.declared.request.ThreadsObject.TheVariants as object

-- calls, each with what it was told
abbrev pub told_of : {I R : Type 0} → List (Returned I (InPlace R)) → List (I × InPlace R)
told_of {I} {R} own = map (λ (call : Returned I (InPlace R)). (call.inv, call.reply)) own

-- The calls of these lists, one list a process, made one after another in the order that they were told, are answered as they were, and
-- lead to a state. An object that counts its calls is closed with the seat of a process, of which these calls are known: its last version
-- has counted so many calls, and the text of its state is that of the state that was reached.
pub record HasClosed {S I R : Type 0} (object : Sequential S I R) (text : S → List ℕ) (threads calls : ℕ) (closing : KnownCalls I (InPlace R))
    (lists : List (List (I × InPlace R))) : Type 0 where
  pub reached : S
  pub replayed : IsReplayed object itself itself lists reached
  pub last : Version (CountedState S) (InPlace R)
  pub run : HasRunTo (counted object) threads (closing ∷ []) last
  pub all : last.image.state.calls ≡ calls
  pub state : text last.image.state.state ≡ text reached

-- A run of so many threads, each of which made so many calls, those of process p as they are drawn from its seed. The p-th list is what
-- process p was told.
pub record IsAnyRun {S I R : Type 0} (object : Sequential S I R) (read : ℕ → I) (text : S → List ℕ) (threads calls seed : ℕ)
    (lists : List (List (I × InPlace R))) : Type 0 where
  pub many : length lists ≡ threads
  pub each : (p : ℕ) (own : List (I × InPlace R)) → slice_get lists p ≡ Some own → asked_in own ≡ drawn_by read (seed_of seed p) calls
  pub closing : KnownCalls I (InPlace R)
  pub own : slice_get lists closing.process ≡ Some (told_of closing.own)
  pub idle : closing.pending ≡ None
  pub closed : HasClosed object text threads (threads * calls) closing lists

-- so many replies are those of all calls of such a run
abbrev pub HasAnyRunOn : {S I R : Type 0} → Sequential S I R → (read : ℕ → I) (text : S → List ℕ) → (threads calls seed replies : ℕ) → Type 0
HasAnyRunOn {I = I} {R = R} object read text threads calls seed replies =
    (replies ≡ threads * calls) × ((lists : List (List (I × InPlace R))) × IsAnyRun object read text threads calls seed lists)

-- so many replies are those of a run on an object that is there
abbrev pub HasAnyRun : ThreadsObject → (threads calls seed replies : ℕ) → Type 0
HasAnyRun object.Queue = HasAnyRunOn queue queue_language.inv_of_word numbers_text
HasAnyRun object.Directory = HasAnyRunOn directory directory_language.inv_of_word pairs_text
HasAnyRun object.Book = HasAnyRunOn book book_language.inv_of_word numbers_text
HasAnyRun object.Sticky = HasAnyRunOn sticky sticky_language.inv_of_word sticky_text
HasAnyRun _ = λ _ _ _ _. ⊥

-- the seat is that of process p, has no call pending, and has made these calls alone, each of which was told this
pub record HasMadeAny {O S I R : Type 0} (shared : AnyShared O S I (InPlace R)) (p : ℕ) (told : List (I × InPlace R))
    (seat : AnySeat O S I (InPlace R)) : Type 0 where
  pub is_seat : IsSeatOf shared seat
  pub process : process_of seat ≡ p
  pub idle : pending_call seat ≡ None
  pub own : told ≡ told_of (own_calls seat)

-- two calls of a counter: the reply to the second one tells that two calls came before it
two_calls : told_of {I = ℕ} {R = ℕ} (record { inv = 3; reply = record { place = 0; reply = 0 }; after = 0; version = 1 }
    ∷ record { inv = 5; reply = record { place = 2; reply = 7 }; after = 1; version = 3 } ∷ [])
    ≡ (3, record { place = 0; reply = 0 }) ∷ (5, record { place = 2; reply = 7 }) ∷ []
two_calls = refl
