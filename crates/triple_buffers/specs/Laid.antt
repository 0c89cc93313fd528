-- Where words and slots lie in a closed table.
use Rattle.std.specs.Prelude.{◌≡◌, ℕ, ◌+◌, ◌*◌, ◌%◌, ◌<◌, Option, slice_index}
use Rattle.std.specs.Mem.Slots.{IsFull, slots_items, slots_len}
use Rattle.std.specs.declared.alloc.Global.{Global}
use Rattle.atomic_table.specs.declared.owned.Closed.{Closed}
use Rattle.triple_buffers.specs.Buffer.{IsSmall, word_at}
use Rattle.triple_buffers.specs.declared.layout.Layout.{Layout}

-- A closed table has these words and slots, and each buffer for the party names one of its slots.
pub record IsLaid {T : Type 0} (layout : Layout) (party : ℕ) (table : Closed (Option T) Global) : Type 0 where
  pub small : IsSmall layout
  pub inside : party < layout.parties
  pub words : IsFull table.words × (slots_len table.words ≡ layout.words + layout.parties * layout.parties)
  pub slots : IsFull table.slots × (slots_len table.slots ≡ 3 * (layout.parties * layout.parties))
  pub places : (from : ℕ) → from < layout.parties
      → slice_index (slots_items table.words) (word_at layout from party) % 4 < 3
