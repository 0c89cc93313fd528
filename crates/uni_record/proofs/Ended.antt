-- The end of an era, recorded.
use Rattle.uni_record.proofs.Vocabulary.{Entry, Invariant, IsAccepted, IsQuiescent, IsRecording, List, None, Option, Recording, Sequential, Some, WorldOf, [], anchor_memory, ap, arith, entry_shown, event_shown, idle_when_quiescent, last_cell, length, length-append, log, map, map-append, new_of, option_map_or, pending_count, refl, seq_of, set_aside, world_after_era, world_of, ℕ, ◌*◌, ◌++◌, ◌+◌, ◌-◌, ◌∙◌, ◌∷◌, ◌≡◌, ◌≤◌}
use Rattle.uni_record.specs.declared.event.Event.{Event as Stored}
use Rattle.uni_record.proofs.Owed.{owed-quiescent}
use Rattle.uni_record.proofs.Kept.{Adds, HasRoomFor, IsRecording-adds}

-- nobody has a call pending after the end of an era either
pub quiescent_after : {S I R : Type 0} (object : Sequential S I R) (w : WorldOf S I R) (n : ℕ) → Invariant object w → IsQuiescent w → IsQuiescent (world_after_era w n)
quiescent_after {S} {I} {R} object w n inv quiet p inside = ap (λ calls. calls p) (by_value (new_of w.memory (last_cell w))) ∙ idle_when_quiescent object w inv.0 inv.1 inv.2 quiet p where
  by_value : (o : Option (S × Option R)) → (option_map_or (λ new. record w { n = n; first = w.begun; memory = anchor_memory new.0 (seq_of w.memory (last_cell w)) }) o w).call ≡ w.call
  by_value None = refl
  by_value (Some new) = refl

-- the entries of an era, put behind those of the ended eras
pub entries_joined : {I R : Type 0} {S : Type 0} (w : WorldOf S I R) (had before more now : List (Entry I R)) → now ≡ before ++ more → before ≡ had → map entry_shown more ≡ log w
    → map entry_shown now ≡ map entry_shown had ++ log w
entries_joined w had before more now joined same logged = ap (map entry_shown) joined ∙ map-append entry_shown before more ∙ rw (same, logged) refl

-- a record whose era has ended
pub ended_kept : {O S I R : Type 0} (sequential : O → Sequential S I R) (r : Recording O S I R) (e : Stored I) (new : Recording O S I R) (had_events events returns counts : ℕ)
    → IsRecording sequential r → HasRoomFor r had_events returns counts → Adds sequential r e new → IsAccepted (world_of r.world) (event_shown e) → IsQuiescent (world_of new.world)
    → new.returns ≡ r.returns → new.counts ≡ r.counts → length r.events + 1 ≤ r.limit → length r.events + 1 ≤ events
    → IsRecording sequential new × HasRoomFor new events returns counts
ended_kept sequential r e new had_events events returns counts is room adds ok quiet same_returns same_counts fits room_event = (
  IsRecording-adds sequential r e new is adds ok (omega (arith, none, fits)),
  record {
    events = (let l = ap length adds.events in let m = length-append r.events (e ∷ []) in omega (arith, none, l, m, room_event));
    returns = (let l = ap length same_returns in let had = room.returns in omega (arith, idle, l, had));
    counts = (let l = ap length same_counts in let had = room.counts in omega (arith, idle, l, had));
  },
) where
  none : set_aside (world_of new.world) ≡ 0
  none = owed-quiescent (λ steps. 10 * (world_of new.world).n + 12 - steps) (world_of new.world) quiet

  idle : pending_count (world_of new.world) ≡ 0
  idle = owed-quiescent (λ steps. 1) (world_of new.world) quiet
