use Rattle.uni_audit.proofs.Vocabulary.{[], length, room_of, row_of, ℕ, ◌+◌, ◌≡◌, ◌≤◌}
use Rattle.uni_audit.proofs.call_places.CallPlaces.with_room_for.Given as goal

abbrev pub invariant-loop-entry : goal.invariant-loop-entry
invariant-loop-entry g l = ((q : ℕ) → row_of l.calls q ≡ []) × (room_of l.calls + l.room ≤ length l.entries)
