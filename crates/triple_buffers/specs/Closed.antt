-- What is known of words and buffers that are closed.
use Rattle.std.specs.Prelude.{◌≡◌, ℕ, ◌%◌, ◌<◌, if◌then◌else◌, nat_lt, Option, None, slice_index, slice_index_or}
use Rattle.std.specs.Mem.Slots.{slots_items}
use mathlib.Core.Option.{some}
use lib.ListN.{get_elem?}
use Rattle.triple_buffers.specs.Buffer.{slot_at, word_at}
use Rattle.triple_buffers.specs.Contents.{Contents}
use Rattle.triple_buffers.specs.Parties.{number_of, seat_of, view_of}
use Rattle.triple_buffers.specs.declared.closed.ClosedBuffers.{ClosedBuffers}
use Rattle.triple_buffers.specs.declared.layout.Layout.{Layout}
use Rattle.triple_buffers.specs.declared.party.Party.{Party}

module _ {T : Type 0} where
  -- how many words and parties there were
  abbrev pub layout_in : ClosedBuffers T → Layout
  layout_in closed = closed.layout

  -- a word
  abbrev pub word_in : ClosedBuffers T → ℕ → ℕ
  word_in closed i = slice_index (slots_items closed.table.words) i

  -- what a party wrote last for the one that closed, where that wasn't taken: where the word of that buffer says that a
  -- value lies in a slot, what lies there
  abbrev pub value_at : ClosedBuffers T → (from word : ℕ) → Option T
  value_at closed from word =
      if nat_lt word 4 then None
      else slice_index_or (slots_items closed.table.slots) (slot_at closed.layout from closed.party (word % 4)) None

  abbrev pub value_in : ClosedBuffers T → (from : ℕ) → Option T
  value_in closed from = value_at closed from (word_in closed (word_at closed.layout from closed.party))

-- Their words, and their values for the party, are those of contents that keep the rule, and in which the party's view
-- stands.
pub record AreLast {T V : Type 0} (holds : Contents T V → Type 0) (party : Party T V) (closed : ClosedBuffers T)
    : Type 0 where
  pub contents : Contents T V
  pub kept : holds contents
  pub known : get_elem? contents.views (seat_of party) ≡ some (view_of party)
  pub words : (i : ℕ) → i < (layout_in closed).words → word_in closed i ≡ contents.words i
  pub values : (from : ℕ) → from < (layout_in closed).parties
      → value_in closed from ≡ contents.buffers from (number_of party)
