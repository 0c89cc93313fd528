-- A world with the list of its events, and what every such record keeps.
use Rattle.std.specs.Prelude.{◌≡◌, ℕ, ◌+◌, ◌-◌, ◌*◌, ◌≤◌, ◌^◌, List, [], length}
use Rattle.std.specs.Prelude.{map, refl}
use Rattle.std.specs.Option.{option_map_or}
use Rattle.seq_object.specs.Sequential.{Sequential}
use Rattle.uni_model.specs.Stages.{Pending}
use Rattle.uni_model.specs.Worlds.{WorldOf, opened_world, world_after_all, AreAccepted, without_trims, sum_below}
use Rattle.uni_model.specs.History.{history_of}
use Rattle.uni_model.specs.Laws.{LinkedSoonAlong}
use Rattle.uni_model.specs.Eras.{JoinedGrows}
use Rattle.uni_model.specs.Universal.{IsUniversal}
use Rattle.uni_core.specs.World.{WorldParts, world_of}
use Rattle.uni_log.specs.declared.entry.Entry.{Entry}
use Rattle.uni_log.specs.Entry.{entry_shown}
use Rattle.uni_record.specs.declared.event.Event.{Event as Stored}
use Rattle.uni_audit.specs.declared.verdict.Return.{Return}
use Rattle.uni_record.specs.declared.counts.Counts.{Counts}
use Rattle.uni_record.specs.Event.{events_shown, completed_in, ended_log, responses_in}

-- the world; how many processes and which number it was opened with; how many events there can be; the events; the calls that have
-- returned, each with its reply, and their counts of own steps and turns; the entries of the eras that have ended
pub record Recording (O S I R : Type 0) : Type 0 where
  pub world : WorldParts O S I R
  pub processes : ℕ
  pub first : ℕ
  pub limit : ℕ
  pub events : List (Stored I)
  pub returns : List (Return R)
  pub counts : List Counts
  pub ended : List (Entry I R)

-- how many events a call of n processes sets aside, its own among them
abbrev pub share : ℕ → ℕ
share n = 10 * n + 13

-- what a process's pending call adds, by how many steps it has taken: nothing where none is pending
abbrev pub owed_by : {S I R : Type 0} → (f : ℕ → ℕ) → WorldOf S I R → ℕ → ℕ
owed_by f w p = option_map_or (λ (c : Pending). f (w.steps p)) (w.call p) 0

-- and all pending calls together
abbrev pub owed : {S I R : Type 0} → (f : ℕ → ℕ) → WorldOf S I R → ℕ
owed f w = sum_below w.n (owed_by f w)

-- the events that pending calls still have set aside: of each the 10n + 12 steps that it may take, less those that it
-- has taken
abbrev pub set_aside : {S I R : Type 0} → WorldOf S I R → ℕ
set_aside w = owed (λ steps. 10 * w.n + 12 - steps) w

-- how many calls are pending
abbrev pub pending_count : {S I R : Type 0} → WorldOf S I R → ℕ
pending_count w = owed (λ steps. 1) w

module _ {O S I R : Type 0} (sequential : O → Sequential S I R) where
  -- what the recorded object means
  abbrev pub meaning : Recording O S I R → Sequential S I R
  meaning r = sequential r.world.object

  -- the world from which a record's events lead
  abbrev pub opening : Recording O S I R → WorldOf S I R
  opening r = opened_world r.processes (meaning r).initial r.first

  -- the world to which they lead without their trims
  abbrev pub untrimmed_world : Recording O S I R → WorldOf S I R
  untrimmed_world r = world_after_all (meaning r) (opening r) (without_trims (events_shown r.events))

  -- The world is the replay of the events, all of which could come. The returns with their counts are the calls that they complete,
  -- and the stored entries are those of the eras that have ended. What pending calls have set aside fits into the history.
  pub record IsRecording (r : Recording O S I R) : Type 0 where
    pub positive : 1 ≤ r.first
    pub accepted : AreAccepted (meaning r) (opening r) (events_shown r.events)
    pub replay : world_of r.world ≡ world_after_all (meaning r) (opening r) (events_shown r.events)
    pub returned : r.returns ≡ map (λ c. c.returned) (completed_in (meaning r) (opening r) (events_shown r.events))
    pub counted : r.counts ≡ map (λ c. c.counts) (completed_in (meaning r) (opening r) (events_shown r.events))
    pub ended : map entry_shown r.ended ≡ ended_log (meaning r) (opening r) (events_shown r.events)
    pub fits : length r.events + set_aside (world_of r.world) ≤ r.limit
    pub limited : r.limit ≤ 2 ^ 24

  -- The promise, of the stored events, which the laws give of every record: the main law holds of them; the returns are
  -- the responses of their history; after each prefix of them each call that has been announced is linked soon, also
  -- one of an era that has ended since; and the joined log of each prefix is a prefix of that of all, but for a
  -- response that is missing in its last entry.
  pub record IsPromised (r : Recording O S I R) : Type 0 where
    pub universal : IsUniversal (meaning r) r.processes (meaning r).initial r.first (events_shown r.events)
    pub responses : r.returns ≡ responses_in (history_of (meaning r) (opening r) (events_shown r.events))
    pub soon : LinkedSoonAlong (meaning r) (opening r) (events_shown r.events)
    pub log : JoinedGrows (meaning r) (opening r) (events_shown r.events)

  -- a record that was opened so: with no event yet
  pub record HasOpened (of : O) (n k number most : ℕ) (r : Recording O S I R) : Type 0 where
    pub object : r.world.object ≡ of
    pub row : r.world.row ≡ k
    pub processes : r.processes ≡ n
    pub first : r.first ≡ number
    pub limit : r.limit ≡ most
    pub world : world_of r.world ≡ opened_world n (sequential of).initial number
    pub events : r.events ≡ []

-- what no function of a record changes
pub record KeepsOpening {O S I R : Type 0} (old new : Recording O S I R) : Type 0 where
  pub object : new.world.object ≡ old.world.object
  pub row : new.world.row ≡ old.world.row
  pub processes : new.processes ≡ old.processes
  pub first : new.first ≡ old.first
  pub limit : new.limit ≡ old.limit

-- The room that is reserved, of three lists that each have so many and room for so many: beside the stored events for
-- those that are set aside, and beside the returns, and their counts, for one of each pending call.
pub record HasRoom {S I R : Type 0} (w : WorldOf S I R) (stored for_events told for_returns counted for_counts : ℕ) : Type 0 where
  pub events : stored + set_aside w ≤ for_events
  pub returns : told + pending_count w ≤ for_returns
  pub counts : counted + pending_count w ≤ for_counts

-- a call of one process that has begun sets aside 22 events beside its own
sample_share : share 1 ≡ 23
sample_share = refl

-- and one of 64 processes 652
sample_greatest_share : share 64 ≡ 653
sample_greatest_share = refl

sample_longest_history : 2 ^ 24 ≡ 16777216
sample_longest_history = refl
