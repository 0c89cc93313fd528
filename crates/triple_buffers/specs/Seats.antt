-- What a seat of the table knows, and what a step tells it.
use Rattle.std.specs.Prelude.{◌≡◌, ℕ, ◌+◌, ◌-◌, ◌%◌, ◌<◌, ◌≤◌, [], ◌∷◌, Option, None, Some, replicate, slice_index, slice_set}
use Rattle.atomic_table.specs.Table.{Me, Step}
use Rattle.triple_buffers.specs.Buffer.{slot_at, word_at}
use Rattle.triple_buffers.specs.declared.layout.Layout.{Layout}
use Rattle.triple_buffers.specs.declared.rule.Ends.{Ends}
use Rattle.triple_buffers.specs.declared.rule.Sight.{Sight}

abbrev pub first_ends : Layout → Ends
first_ends layout = record {
  backs = replicate layout.parties 1;
  fronts = replicate layout.parties 2;
  out = None;
  steps = 0;
}

module _ {V : Type 0} where
  abbrev pub first_sight : Layout → V → Sight V
  first_sight layout v = record { layout = layout; first = 0; count = layout.parties; ends = first_ends layout; client = v }

  abbrev pub first_alone : Sight V → V → Sight V
  first_alone v client = record v { count = 1; client = client }

  abbrev pub others : Sight V → V → Sight V
  others v client = record v { first = v.first + 1; count = v.count - 1; client = client }

  -- a seat knows this then
  abbrev pub goes : Sight V → Ends → V → Sight V
  goes v ends client = record v { ends = ends; client = client }

-- after a step with no slot out
abbrev pub settled : Ends → Ends
settled ends = record ends { out = None; steps = ends.steps + 1 }

-- and with this slot out
abbrev pub with_out : Ends → (k : ℕ) → Ends
with_out ends k = record ends { out = Some k; steps = ends.steps + 1 }

-- its end of a buffer is another slot
abbrev pub with_back : Ends → (to place : ℕ) → Ends
with_back ends to place = record ends { backs = slice_set ends.backs to place }

abbrev pub with_front : Ends → (from place : ℕ) → Ends
with_front ends from place = record ends { fronts = slice_set ends.fronts from place }

abbrev pub Mine : (T V : Type 0) → Type 0
Mine T V = Me (Option T) (Sight V)

module _ {T V : Type 0} where
  abbrev pub back_slot : Mine T V → (to : ℕ) → ℕ
  back_slot me to = slot_at me.0.layout me.0.first to (slice_index me.0.ends.backs to)

  abbrev pub HasStepped : ((first second : ℕ) → V → ℕ → V → Type 0) → Step (Option T) → Mine T V → ℕ → Mine T V → Type 0
  HasStepped then step me found me' =
      (w : V) × then step.first step.second me.0.client found w × (me' ≡ (goes me.0 (settled me.0.ends) w, []))

  abbrev pub HasOpened : Step (Option T) → Mine T V → ℕ → Mine T V → Type 0
  HasOpened step me found me' =
      (to : ℕ) → to < me.0.layout.parties → step.word ≡ word_at me.0.layout me.0.first to
      → (y : Option T)
      × (me' ≡ (goes me.0 (with_out me.0.ends (back_slot me to)) me.0.client, (back_slot me to, y) ∷ []))

  abbrev pub HasWritten : (V → ℕ → T → V → Type 0) → Step (Option T) → Mine T V → ℕ → Mine T V → Type 0
  HasWritten then step me found me' =
      (to : ℕ) (x : T) → to < me.0.layout.parties → step.word ≡ word_at me.0.layout me.0.first to
      → me.1 ≡ (back_slot me to, Some x) ∷ []
      → (w : V) × then me.0.client to x w × (found % 4 < 3)
      × (me' ≡ (goes me.0 (settled (with_back me.0.ends to (found % 4))) w, []))

  abbrev pub HasLooked : (V → ℕ → Option T → V → Type 0) → Step (Option T) → Mine T V → ℕ → Mine T V → Type 0
  HasLooked then step me found me' =
      (from : ℕ) → from < me.0.layout.parties → step.word ≡ word_at me.0.layout from me.0.first
      → (found < 4 → (w : V) × then me.0.client from None w × (me' ≡ (goes me.0 (settled me.0.ends) w, [])))
      × (4 ≤ found → me' ≡ (goes me.0 (settled me.0.ends) me.0.client, []))

  abbrev pub HasTaken : (V → ℕ → Option T → V → Type 0) → Step (Option T) → Mine T V → ℕ → Mine T V → Type 0
  HasTaken then step me found me' =
      (from : ℕ) → from < me.0.layout.parties → step.word ≡ word_at me.0.layout from me.0.first
      → let ends = with_front me.0.ends from (found % 4) in
      let slot = slot_at me.0.layout from me.0.first (found % 4) in
      (found % 4 < 3)
      × (found < 4 → (w : V) × then me.0.client from None w × (me' ≡ (goes me.0 (settled ends) w, [])))
      × (4 ≤ found → (x : T) × ((w : V) × then me.0.client from (Some x) w
      × (me' ≡ (goes me.0 (with_out ends slot) w, (slot, Some x) ∷ []))))
