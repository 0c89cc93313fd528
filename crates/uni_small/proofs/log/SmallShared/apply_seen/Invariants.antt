use Rattle.uni_small.proofs.Vocabulary.{IsReached, drop, image_of_rows, length, map, most_calls, seen_in, slice_index, with_seen, ℕ, ◌*◌, ◌<◌, ◌≡◌, ◌≤◌, ◌⊎◌}
use Rattle.uni_small.specs.Touched.{AreSameOutside}
use Rattle.uni_small.proofs.log.SmallShared.apply_seen.Given as goal

abbrev pub invariant-loop-r : goal.invariant-loop-r
invariant-loop-r g l =
    let object = (g.O.SmallObject.meaning l.fn.self.setup.object).object in
    let sizes = l.fn.self.setup.sizes in
    (with_seen object (image_of_rows sizes l.applied l.reply l.state) l.r (drop l.r (map seen_in l.seen))
    ≡ with_seen object (image_of_rows sizes l.fn.applied l.fn.reply l.fn.state) 0 (map seen_in l.seen))
    × IsReached object l.state
    × ((q : ℕ) → l.r ≤ q → q < sizes.processes → slice_index l.applied q ≤ most_calls)
    × (length l.state ≡ length l.fn.state)
    × AreSameOutside l.touched l.fn.state l.state
    × ((q : ℕ) → (q < l.fn.busy.from) ⊎ (l.r ≤ q) → slice_index l.applied q ≡ slice_index l.fn.applied q)
    × ((i : ℕ) → (i < l.fn.busy.from * sizes.reply) ⊎ (l.r * sizes.reply ≤ i) → slice_index l.reply i ≡ slice_index l.fn.reply i)
