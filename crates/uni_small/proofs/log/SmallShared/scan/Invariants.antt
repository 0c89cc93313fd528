use Rattle.uni_small.proofs.Vocabulary.{All, GoesWithin, HasInvocation, IsQuietOutside, List, Reading, Seen, [], false, length, map, seen_in, slice_index_or, stage_of, take, ℕ, ◌*◌, ◌+◌, ◌<◌, ◌≡◌, ◌≤◌}
use Rattle.uni_small.proofs.log.SmallShared.scan.Given as goal

abbrev pub invariant-loop-r : goal.invariant-loop-r
invariant-loop-r g l =
    (l.seat.table_id ≡ l.fn.seat.table_id) × (l.seat.id ≡ l.fn.seat.id)
    × ((copy : List ℕ) → stage_of l.fn.seat.me ≡ Reading l.tries l.s copy []
    → GoesWithin l.fn.seat.me (l.r + l.r * l.fn.self.setup.sizes.invocation) (Reading l.tries l.s copy (map seen_in (take l.r l.seen))) l.seat.me)
    × All (HasInvocation l.fn.self.setup.sizes) l.seen
    × (l.busy.from ≤ l.busy.to) × (l.busy.to ≤ l.r) × IsQuietOutside l.busy (map seen_in (take l.r l.seen))
    × ((q : ℕ) (x : Seen) → l.r ≤ q → q < length l.seen → (slice_index_or l.seen q x).due ≡ false)
