-- What a record keeps: at its opening, with more room, and with one event more.
use Rattle.uni_record.proofs.Vocabulary.{AreAccepted-snoc, CallId, Completed, Event, HasRoom, IsAccepted, IsBounded, IsRecording, IsSome, List, None, Option, Recording, Sequential, Some, Step, WorldOf, [], ap, arith, completed_by, completed_in, current_of, entry_shown, event_shown, events_shown, length, length-append, length-map, log_ended_by, map, map-append, meaning, opening, option_and_then, option_map, option_to_list, pending_count, refl, response_of_step, set_aside, share, subst, sym, world_after, world_after_all-snoc, world_of, ℕ, ◌*◌, ◌++◌, ◌+◌, ◌-◌, ◌<◌, ◌∙◌, ◌∷◌, ◌≡◌, ◌≤◌}
use Rattle.uni_record.specs.declared.event.Event.{Event as Stored}
use Rattle.uni_record.specs.declared.event.Event.TheVariants as stored
use Rattle.uni_record.proofs.Owed.{owed-begun, one_idle}
use Rattle.uni_record.proofs.Paid.{step_pays}
use Rattle.uni_record.proofs.Runs.{completed_in-snoc, ended_log-snoc}

-- the room of a record, with room for so many events, returns and counts
abbrev pub HasRoomFor : {O S I R : Type 0} → Recording O S I R → (events returns counts : ℕ) → Type 0
HasRoomFor r events returns counts = HasRoom (world_of r.world) (length r.events) events (length r.returns) returns (length r.counts) counts

module _ {O S I R : Type 0} (sequential : O → Sequential S I R) where
  -- a record with an event more: what the event completes, and the era that it ends, are stored
  pub record Adds (r : Recording O S I R) (e : Stored I) (new : Recording O S I R) : Type 0 where
    pub object : new.world.object ≡ r.world.object
    pub processes : new.processes ≡ r.processes
    pub first : new.first ≡ r.first
    pub limit : new.limit ≡ r.limit
    pub world : world_of new.world ≡ world_after (meaning sequential r) (world_of r.world) (event_shown e)
    pub events : new.events ≡ r.events ++ e ∷ []
    pub returns : new.returns ≡ r.returns ++ map (λ c. c.returned) (option_to_list (completed_by (meaning sequential r) (world_of r.world) (event_shown e)))
    pub counts : new.counts ≡ r.counts ++ map (λ c. c.counts) (option_to_list (completed_by (meaning sequential r) (world_of r.world) (event_shown e)))
    pub ended : map entry_shown new.ended ≡ map entry_shown r.ended ++ log_ended_by (world_of r.world) (event_shown e)

  pub IsRecording-adds : (r : Recording O S I R) (e : Stored I) (new : Recording O S I R) → IsRecording sequential r → Adds r e new → IsAccepted (world_of r.world) (event_shown e)
      → length r.events + 1 + set_aside (world_of new.world) ≤ r.limit → IsRecording sequential new
  IsRecording-adds r e new is adds ok room = record {
    positive = rw adds.first is.positive;
    accepted = rw (adds.object, adds.processes, adds.first, longer) (AreAccepted-snoc object w es (event_shown e) is.accepted (rw (← is.replay) ok));
    replay = rw (adds.object, adds.processes, adds.first, longer, world_after_all-snoc object w es (event_shown e), ← is.replay) adds.world;
    returned = rw (adds.object, adds.processes, adds.first, longer, completed_in-snoc object w es (event_shown e), ← is.replay)
        (adds.returns ∙ ap (λ rs. rs ++ map (λ (c : Completed R). c.returned) done) is.returned ∙ sym (map-append (λ (c : Completed R). c.returned) (completed_in object w es) done));
    counted = rw (adds.object, adds.processes, adds.first, longer, completed_in-snoc object w es (event_shown e), ← is.replay)
        (adds.counts ∙ ap (λ cs. cs ++ map (λ (c : Completed R). c.counts) done) is.counted ∙ sym (map-append (λ (c : Completed R). c.counts) (completed_in object w es) done));
    ended = rw (adds.object, adds.processes, adds.first, longer, ended_log-snoc object w es (event_shown e), ← is.replay)
        (adds.ended ∙ ap (λ entries. entries ++ log_ended_by (world_of r.world) (event_shown e)) is.ended);
    fits = rw (adds.events, adds.limit, length-append r.events (e ∷ [])) room;
    limited = rw adds.limit is.limited;
  } where
    object : Sequential S I R
    object = meaning sequential r

    w : WorldOf S I R
    w = opening sequential r

    es : List (Event I)
    es = events_shown r.events

    done : List (Completed R)
    done = option_to_list (completed_by object (world_of r.world) (event_shown e))

    longer : events_shown new.events ≡ es ++ event_shown e ∷ []
    longer = ap events_shown adds.events ∙ map-append event_shown r.events (e ∷ [])

  -- a record whose process has begun a call
  pub begun_kept : (r : Recording O S I R) (p : ℕ) (i : I) (new : Recording O S I R) (events returns counts : ℕ) → IsRecording sequential r → Adds r (stored.Call p i) new
      → p < (world_of r.world).n → (world_of r.world).call p ≡ None
      → length r.events + (set_aside (world_of r.world) + share (world_of r.world).n) ≤ r.limit
      → length r.events + (set_aside (world_of r.world) + share (world_of r.world).n) ≤ events
      → length r.returns + (world_of r.world).n ≤ returns → length r.counts + (world_of r.world).n ≤ counts
      → IsRecording sequential new × HasRoomFor new events returns counts
  begun_kept r p i new events returns counts is adds inside idle fits room_events room_returns room_counts = (
    IsRecording-adds r (stored.Call p i) new is adds (inside, idle) (omega (arith, aside, fits)),
    record {
      events = (let e = ap length adds.events in let l = length-append r.events (stored.Call p i ∷ []) in omega (arith, aside, e, l, room_events));
      returns = (let e = ap length adds.returns in let l = length-append r.returns [] in let few = one_idle w p inside idle in omega (arith, count, e, l, few, room_returns));
      counts = (let e = ap length adds.counts in let l = length-append r.counts [] in let few = one_idle w p inside idle in omega (arith, count, e, l, few, room_counts));
    },
  ) where
    w : WorldOf S I R
    w = world_of r.world

    aside : set_aside (world_of new.world) ≡ set_aside w + (10 * w.n + 12 - 0)
    aside = subst (λ v. set_aside v ≡ set_aside w + (10 * w.n + 12 - 0)) (sym adds.world) (owed-begun (λ steps. 10 * w.n + 12 - steps) w p i inside idle)

    count : pending_count (world_of new.world) ≡ pending_count w + 1
    count = subst (λ v. pending_count v ≡ pending_count w + 1) (sym adds.world) (owed-begun (λ steps. 1) w p i inside idle)

  -- a record whose process has taken a step
  pub stepped_kept : (r : Recording O S I R) (p : ℕ) (new : Recording O S I R) (events returns counts : ℕ) → IsRecording sequential r → HasRoomFor r events returns counts
      → IsBounded (world_of r.world) → p < (world_of r.world).n → IsSome ((world_of r.world).call p) → Adds r (stored.Step p) new
      → IsRecording sequential new × HasRoomFor new events returns counts
  stepped_kept r p new events returns counts is room bounded inside some adds = (
    IsRecording-adds r (stored.Step p) new is adds some (let fits = is.fits in omega (arith, paid_events, fits)),
    record {
      events = (let e = ap length adds.events in let l = length-append r.events (stored.Step p ∷ []) in let had = room.events in omega (arith, e, l, had, paid_events));
      returns = (let e = ap length adds.returns in let l = length-append r.returns (map (λ (c : Completed R). c.returned) done) in let m = length-map done (λ (c : Completed R). c.returned) in let had = room.returns in omega (arith, e, l, m, had, paid_returns));
      counts = (let e = ap length adds.counts in let l = length-append r.counts (map (λ (c : Completed R). c.counts) done) in let m = length-map done (λ (c : Completed R). c.counts) in let had = room.counts in omega (arith, e, l, m, had, paid_returns));
    },
  ) where
    w : WorldOf S I R
    w = world_of r.world

    done : List (Completed R)
    done = option_to_list (completed_by (meaning sequential r) w (Step p))

    paid_events : set_aside (world_of new.world) + 1 ≤ set_aside w
    paid_events = subst (λ v. set_aside v + 1 ≤ set_aside w) (sym adds.world) (step_pays (meaning sequential r) w p bounded inside some).events

    paid_returns : length done + pending_count (world_of new.world) ≤ pending_count w
    paid_returns = subst (λ v. length done + pending_count v ≤ pending_count w) (sym adds.world) (step_pays (meaning sequential r) w p bounded inside some).returns

-- there is room for what a step stores
pub room_for_step : {S I R : Type 0} (object : Sequential S I R) (w : WorldOf S I R) (stored for_events told for_returns counted for_counts p : ℕ) → HasRoom w stored for_events told for_returns counted for_counts
    → IsBounded w → p < w.n → IsSome (w.call p)
    → (stored < for_events) × (told + length (option_to_list (completed_by object w (Step p))) ≤ for_returns) × (counted + length (option_to_list (completed_by object w (Step p))) ≤ for_counts)
room_for_step object w stored for_events told for_returns counted for_counts p room bounded inside some =
    let paid = step_pays object w p bounded inside some in
    let paid_events = paid.events in
    let paid_returns = paid.returns in
    let had_events = room.events in
    let had_returns = room.returns in
    let had_counts = room.counts in
    (omega (arith, paid_events, had_events), omega (arith, paid_returns, had_returns), omega (arith, paid_returns, had_counts))

-- what a step completes, by its response
pub nothing_completed : {S I R : Type 0} (object : Sequential S I R) (w : WorldOf S I R) (p : ℕ) → response_of_step w p ≡ None → completed_by object w (Step p) ≡ None
nothing_completed {R = R} object w p none = by_id (current_of w p) _ where
  by_id : {A B : Type 0} (o : Option A) (make : A → R → B) → option_and_then (λ id. option_map (make id) (response_of_step w p)) o ≡ None
  by_id None make = refl
  by_id (Some id) make = rw none refl

pub one_completed : {S I R : Type 0} (object : Sequential S I R) (w : WorldOf S I R) (p : ℕ) (id : CallId) (r : R) → Some id ≡ current_of w p → response_of_step w p ≡ Some r
    → completed_by object w (Step p) ≡ Some (record { returned = record { call = id; reply = r }; counts = record { steps = (world_after object w (Step p)).steps p; turns = (world_after object w (Step p)).turns p } })
one_completed object w p id r current response = rw (← current, response) refl

-- more room
pub roomier : {S I R : Type 0} (w : WorldOf S I R) (stored had_events events told had_returns returns counted had_counts counts : ℕ) → HasRoom w stored had_events told had_returns counted had_counts
    → had_events ≤ events → had_returns ≤ returns → had_counts ≤ counts → HasRoom w stored events told returns counted counts
roomier w stored had_events events told had_returns returns counted had_counts counts room more_events more_returns more_counts =
    let e = room.events in
    let t = room.returns in
    let c = room.counts in
    record { events = omega (arith, e, more_events); returns = omega (arith, t, more_returns); counts = omega (arith, c, more_counts) }
