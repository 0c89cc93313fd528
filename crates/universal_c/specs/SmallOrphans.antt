-- What a handle's value is where the seat of a small object has no owner.
use Rattle.std.specs.Prelude.{◌≡◌, ◌≢◌, ◌↔◌, ℕ, ◌+◌, ◌≤◌, List, length, suc, zero, IsSomeAnd}
use Rattle.std.specs.declared.option.Option.{Option}
use Rattle.std.specs.declared.option.Option.TheVariants.{None, Some}
use Rattle.uni_small.specs.Belongs.{announced_by, calls_made, own_calls, process_of, reply_width_of, sizes_of, word_steps_of}
use Rattle.uni_small.specs.Orphans.{IsInCall, calls_after, calls_before, orphan_process, orphan_steps, take_over_steps}
use Rattle.uni_small.specs.declared.log.SmallShared.{SmallShared}
use Rattle.uni_small.specs.declared.orphan.SmallOrphan.{SmallOrphan}
use Rattle.uni_small.specs.declared.seat.SmallSeat.{SmallSeat}
use Rattle.universal_c.specs.SmallCalls.{place_in, shared_in}
use Rattle.universal_c.specs.declared.held.Held.{Held}
use Rattle.universal_c.specs.declared.held.Held.TheVariants.{Left}
use Rattle.universal_c.specs.declared.small_kind.SmallKind.{SmallKind}

-- the seat without an owner that a handle has
abbrev pub orphan_in : Option Held → Option (SmallOrphan SmallKind)
orphan_in (Some (Left l)) = Some l.orphan
orphan_in _ = None

-- the small object whose seat a handle has, with an owner or without
abbrev pub seated_in : Option Held → Option (SmallShared SmallKind)
seated_in (Some (Left l)) = Some l.shared.value
seated_in held = shared_in held

-- in place of a seat is the same one without an owner, which is in no call
abbrev pub HasLeft : (old new : Option Held) → Type 0
HasLeft old new = IsSomeAnd (place_in old) (λ seat. IsSomeAnd (orphan_in new) (λ orphan.
    (orphan_process orphan ≡ process_of seat) × (calls_before orphan ≡ own_calls seat) × (IsInCall orphan → ⊥)))

-- so many calls of a seat without an owner have returned
abbrev pub HasMade : (old : Option Held) (made : ℕ) → Type 0
HasMade old made = (orphan : SmallOrphan SmallKind) → orphan_in old ≡ Some orphan → made ≡ length (calls_before orphan)

-- it is of an object whose replies have not as many words as this
abbrev pub HasOtherReply : (old : Option Held) (reply : List ℕ) → Type 0
HasOtherReply old reply = IsSomeAnd (orphan_in old) (λ orphan. IsSomeAnd (seated_in old) (λ shared. length reply ≢ reply_width_of shared))

-- the version of the call that was ended, where one was
abbrev pub ended_in : (ended version : ℕ) → Option ℕ
ended_in zero version = None
ended_in (suc more) version = Some version

-- The seat that was taken over: the process's calls before, and behind them the one that it was in, if it was in one, with this reply.
pub record Resumes (shared : SmallShared SmallKind) (orphan : SmallOrphan SmallKind) (seat : SmallSeat SmallKind) (reply : List ℕ) (ended version : ℕ) : Type 0 where
  pub few : ended ≤ 1
  pub in_call : (ended ≡ 1) ↔ IsInCall orphan
  pub process : process_of seat ≡ orphan_process orphan
  pub own : own_calls seat ≡ calls_after orphan reply (ended_in ended version)
  pub steps : word_steps_of seat ≤ orphan_steps orphan + take_over_steps (sizes_of shared)

abbrev pub HasResumed : (old new : Option Held) (reply : List ℕ) (ended version : ℕ) → Type 0
HasResumed old new reply ended version = IsSomeAnd (seated_in old) (λ shared. IsSomeAnd (orphan_in old) (λ orphan. IsSomeAnd (place_in new) (λ seat.
    Resumes shared orphan seat reply ended version)))

-- the announcement of its process tells all calls of a seat
abbrev pub TellsCalls : Option Held → Type 0
TellsCalls new = IsSomeAnd (place_in new) (λ seat. announced_by seat ≡ calls_made seat)
