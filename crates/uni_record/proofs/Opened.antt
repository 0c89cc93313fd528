-- What a record is opened with.
use Rattle.uni_record.proofs.Vocabulary.{HasRoom, IsOpenRefused, IsRecording, None, Recording, Sequential, [], arith, length, opened_world, pending_count, refl, set_aside, subst, sym, world_of, ℕ, ◌*◌, ◌+◌, ◌-◌, ◌≡◌, ◌≤◌}
use Rattle.uni_core.specs.declared.fault.OpenFault.{OpenFault}
use Rattle.uni_core.specs.declared.fault.OpenFault.TheVariants.{BadCount, BadRow, SeqFull, Memory}
use Rattle.uni_record.specs.Refusals.{CanRecord, record_fault, IsOpenRefused as IsRecordRefused}
use Rattle.uni_record.proofs.Owed.{owed-quiescent}

-- a world that isn't opened refuses the record, where memory was refused where all else fits
pub refused_as : (n k seq h : ℕ) (e : OpenFault) → IsOpenRefused n k seq e → (e ≡ Memory → CanRecord n k seq h) → IsRecordRefused n k seq h (record_fault e)
refused_as n k seq h BadCount refused fits = refused
refused_as n k seq h BadRow refused fits = refused
refused_as n k seq h SeqFull refused fits = refused
refused_as n k seq h Memory refused fits = fits refl

-- a record without an event
pub opened_kept : {O S I R : Type 0} (sequential : O → Sequential S I R) (object : O) (n number limit : ℕ) (r : Recording O S I R) (events returns counts : ℕ)
    → 1 ≤ number → limit ≤ 16777216 → r.world.object ≡ object → world_of r.world ≡ opened_world n (sequential object).initial number → r.processes ≡ n → r.first ≡ number → r.limit ≡ limit
    → r.events ≡ [] → r.returns ≡ [] → r.counts ≡ [] → r.ended ≡ []
    → IsRecording sequential r × HasRoom (world_of r.world) (length r.events) events (length r.returns) returns (length r.counts) counts
opened_kept sequential object n number limit r events returns counts positive few object_is opens processes first limited no_events no_returns no_counts no_ended = (
  record {
    positive = rw first positive;
    accepted = rw no_events tt;
    replay = rw (no_events, object_is, processes, first) opens;
    returned = rw no_events no_returns;
    counted = rw no_events no_counts;
    ended = rw (no_events, no_ended) refl;
    fits = rw (no_events, none) (omega arith);
    limited = rw limited (omega (arith, few));
  },
  record { events = rw (no_events, none) (omega arith); returns = rw (no_returns, idle) (omega arith); counts = rw (no_counts, idle) (omega arith) },
) where
  none : set_aside (world_of r.world) ≡ 0
  none = owed-quiescent (λ steps. 10 * (world_of r.world).n + 12 - steps) (world_of r.world) (λ p h. subst (λ w. w.call p ≡ None) (sym opens) refl)

  idle : pending_count (world_of r.world) ≡ 0
  idle = owed-quiescent (λ steps. 1) (world_of r.world) (λ p h. subst (λ w. w.call p ≡ None) (sym opens) refl)
