use Rattle.std.proofs.Common.{None, false, slice_index_or, true, ℕ, ◌<◌, ◌≡◌, ◌≤◌}
use Rattle.std.specs.Mem.Slots.{slots_filled, slots_items, slots_len}
use Rattle.triple_buffers.proofs.closed.free_but.Given as goal

abbrev pub invariant-loop-place : goal.invariant-loop-place
invariant-loop-place g l = record {
  full : (k : ℕ) → l.place ≤ k → k < slots_len l.closed.slots → slice_index_or (slots_filled l.closed.slots) k false ≡ true;
  empty : (k : ℕ) → k < l.place → slice_index_or (slots_filled l.closed.slots) k false ≡ false;
  count : slots_len l.closed.slots ≡ slots_len l.fn.closed.slots;
  items : slots_items l.closed.slots ≡ slots_items l.fn.closed.slots;
  before : l.place ≤ l.slot → l.kept ≡ None;
  after : l.slot < l.place → l.kept ≡ slice_index_or (slots_items l.fn.closed.slots) l.slot None;
}
