-- What the functions say of a seat.
use Rattle.std.specs.Prelude.{◌≡◌, ℕ, ◌+◌, ◌*◌, ◌<◌, ◌≤◌, List, [], ◌∷◌, ◌++◌, Option, None, Some, Result, Ok, Err, IsSome, length, map, slice_get, ◌-◌}
use Rattle.std.specs.Arc.{arc_value}
use Rattle.std.specs.declared.alloc.AllocError.{AllocError}
use Rattle.std.specs.declared.alloc.Global.{Global}
use Rattle.std.specs.declared.sync.Arc.{Arc}
use Rattle.seq_object.specs.Sequential.{Sequential}
use Rattle.triple_buffers.specs.Parties.{key_of, number_of, steps_of, view_of}
use Rattle.uni_any.specs.Final.{KnownCalls}
use Rattle.uni_any.specs.declared.view.Returned.{Returned}
use Rattle.uni_any.specs.Board.{made_by, pending_of, process_in}
use Rattle.uni_any.specs.Invariant.{base_of, most_calls}
use Rattle.uni_any.specs.News.{told_by, version_as}
use Rattle.uni_any.specs.Plays.{HasFound, at_rest, local_of, stage_of}
use Rattle.uni_any.specs.Standing.{IsPlaceOf}
use Rattle.uni_any.specs.declared.seat.AnyAnswer.{AnyAnswer}
use Rattle.uni_any.specs.declared.seat.AnySeat.{AnySeat}
use Rattle.uni_any.specs.declared.seat.AnyShared.{AnyShared}
use Rattle.uni_any.specs.declared.view.Local.{Local}
use Rattle.uni_any.specs.declared.view.Stage.{Stage}
use Rattle.uni_any.specs.declared.view.Stage.TheVariants.{Idle, Ready, Reading}
use Rattle.uni_any.specs.declared.view.Version.{Version}
use Rattle.uni_any.specs.declared.view.View.{View}

-- no call is pending, or one is whose memory was refused
abbrev pub StandsAt : {I S R : Type 0} → (n : ℕ) → Option (Arc I Global) → Stage I S R → Type 0
StandsAt n None stage = stage ≡ Idle
StandsAt n (Some asked) stage = (tries : ℕ) × (stage ≡ Reading (arc_value asked) tries n)

module _ {O S I R : Type 0} where
  -- what object it is, and how many processes share it
  abbrev pub object_of : AnyShared O S I R → O
  object_of shared = (key_of shared.buffers).object

  abbrev pub processes_of : AnyShared O S I R → ℕ
  processes_of shared = (key_of shared.buffers).processes

  abbrev pub view_in : AnySeat O S I R → View O I S R
  view_in seat = view_of seat.party

  abbrev pub local_in : AnySeat O S I R → Local I S R
  local_in seat = local_of (view_of seat.party)

  -- a seat's process; its calls that have returned; how many they are; the invocation of its pending call; the version that
  -- its next calls come after; and how many steps on words it has made
  abbrev pub process_of : AnySeat O S I R → ℕ
  process_of seat = seat.p

  abbrev pub own_calls : AnySeat O S I R → List (Returned I R)
  own_calls seat = (local_in seat).own

  abbrev pub calls_made : AnySeat O S I R → ℕ
  calls_made seat = length (own_calls seat)

  abbrev pub pending_call : AnySeat O S I R → Option I
  pending_call seat = pending_of (local_in seat).stage

  abbrev pub version_of : AnySeat O S I R → ℕ
  version_of seat = (local_in seat).after

  abbrev pub word_steps_of : AnySeat O S I R → ℕ
  word_steps_of seat = steps_of seat.party

  -- the calls of its process
  abbrev pub known_calls : AnySeat O S I R → KnownCalls I R
  known_calls seat = record { process = process_of seat; own = own_calls seat; pending = pending_call seat }

  -- the version from which its attempt starts: the one that it has found once it has looked
  abbrev pub base_in : (O → Sequential S I R) → AnyShared O S I R → AnySeat O S I R → Version S R
  base_in meaning shared seat = base_of (meaning (object_of shared)) (processes_of shared) (local_in seat)

  -- the version that it has found between calls
  abbrev pub version_seen : (O → Sequential S I R) → AnyShared O S I R → AnySeat O S I R → Version S R
  version_seen meaning shared seat =
      base_of (meaning (object_of shared)) (processes_of shared) (record (local_in seat) { word = seat.named })

  -- the seat has what its process knows
  pub record IsKept (shared : AnyShared O S I R) (seat : AnySeat O S I R) : Type 0 where
    pub place : IsPlaceOf shared.buffers seat.party
    pub number : number_of seat.party ≡ seat.p
    pub inside : seat.p < processes_of shared
    pub last : (local_in seat).last ≡ version_as (arc_value seat.last)
    pub seen : (local_in seat).seen ≡ map told_by seat.seen.items
    pub long : length seat.seen.items ≡ processes_of shared
    pub named : process_in seat.named < processes_of shared

  -- The seat is one of this object's.
  pub record IsSeatOf (shared : AnyShared O S I R) (seat : AnySeat O S I R) : Type 0 where
    pub kept : IsKept shared seat
    pub made : made_by (local_in seat) ≡ seat.made
    pub few : seat.made ≤ most_calls
    pub pending_few : IsSome seat.asked → seat.made < most_calls
    pub stands : StandsAt (processes_of shared) seat.asked (local_in seat).stage

  -- The seat is process p's, and has made no call.
  pub record IsFirstSeat (shared : AnyShared O S I R) (p : ℕ) (seat : AnySeat O S I R) : Type 0 where
    pub own : IsSeatOf shared seat
    pub process : process_of seat ≡ p
    pub none : own_calls seat ≡ []
    pub idle : pending_call seat ≡ None
    pub start : version_of seat ≡ 0
    pub no_steps : word_steps_of seat ≡ 0

  pub record AreFirstSeats (shared : AnyShared O S I R) (count : ℕ) (seats : List (AnySeat O S I R)) : Type 0 where
    pub many : length seats ≡ count
    pub each : (p : ℕ) (seat : AnySeat O S I R) → slice_get seats p ≡ Some seat → IsFirstSeat shared p seat

-- what is known of the processes from p on, before one of them has a seat of its own
abbrev pub rest_of : {O S I R : Type 0} → (O → Sequential S I R) → O → (n p : ℕ) → View O I S R
rest_of meaning o n p = record {
  object = o;
  known = record { processes = n; first = p; count = n - p; local = at_rest (meaning o) n };
}

-- A seat has loaded S and looked into all buffers.
pub record HasLookedAt {O I S R : Type 0} (meaning : O → Sequential S I R) (v : View O I S R) (inv : I) (tries word : ℕ)
    (w : View O I S R) : Type 0 where
  pub local : Local I S R
  pub own : local.own ≡ (local_of v).own
  pub after : local.after ≡ (local_of v).after
  pub last : local.last ≡ (local_of v).last
  pub word_is : local.word ≡ word
  pub inside : process_in word < v.known.processes
  pub few : word < 64 * (64 * most_calls + 1)
  pub found : HasFound meaning v inv tries local w

-- the steps of an announcement, of a look, of an attempt, of a read, of a call that is announced, and of a call, at most
abbrev pub announce_steps : ℕ → ℕ
announce_steps n = 2 * n

abbrev pub look_steps : ℕ → ℕ
look_steps n = 2 * n + 1

abbrev pub attempt_steps : ℕ → ℕ
attempt_steps n = 4 * n + 2

abbrev pub read_steps : ℕ
read_steps = 3

abbrev pub resume_steps : ℕ → ℕ
resume_steps n = 10 * n + 5

abbrev pub call_steps : ℕ → ℕ
call_steps n = 12 * n + 5

module _ {O I S R : Type 0} where
  -- its call has returned with this reply, in the version of this number
  pub record HasEnded (v : View O I S R) (inv : I) (reply : R) (number : ℕ) (w : View O I S R) : Type 0 where
    pub own : (local_of w).own ≡ (local_of v).own ++ record {
      inv = inv;
      reply = reply;
      after = (local_of v).after;
      version = number;
    } ∷ []
    pub idle : stage_of w ≡ Idle
    pub after : (local_of w).after ≡ number
    pub later : (local_of v).after < number

  -- its call goes on at this stage
  pub record GoesOnTo (v : View O I S R) (stage : Stage I S R) (w : View O I S R) : Type 0 where
    pub own : (local_of w).own ≡ (local_of v).own
    pub after : (local_of w).after ≡ (local_of v).after
    pub stage_is : stage_of w ≡ stage

  -- an attempt has ended the call, or has failed, or was refused memory
  abbrev pub HasTried : View O I S R → (inv : I) → (tries n : ℕ) → Result (Option (AnyAnswer R)) AllocError → View O I S R → Type 0
  HasTried v inv tries n (Ok (Some answer)) w = HasEnded v inv answer.reply answer.version w
  HasTried v inv tries n (Ok None) w = GoesOnTo v (Ready inv (tries + 1)) w
  HasTried v inv tries n (Err e) w = (t : ℕ) × GoesOnTo v (Reading inv t n) w

  -- a call has ended, or was refused memory
  abbrev pub HasFinished : View O I S R → (inv : I) → (n : ℕ) → Result (AnyAnswer R) AllocError → View O I S R → Type 0
  HasFinished v inv n (Ok answer) w = HasEnded v inv answer.reply answer.version w
  HasFinished v inv n (Err e) w = (t : ℕ) × GoesOnTo v (Reading inv t n) w
