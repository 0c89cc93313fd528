-- A triple buffer: three slots, of which the writer has one, the reader one, and the third lies between them, named by a
-- word. And how words and slots show what parties share.
use Rattle.std.specs.Prelude.{◌≡◌, ◌≢◌, ℕ, ◌+◌, ◌*◌, ◌<◌, ◌≤◌, List, Option, None, Some, length, map, slice_index}
use mathlib.Core.Option.{some}
use mathlib.Core.Option as maybe
use lib.ListN.{get_elem?}
use Rattle.atomic_table.specs.Table.{State}
use Rattle.triple_buffers.specs.Contents.{Contents}
use Rattle.triple_buffers.specs.declared.layout.Layout.{Layout}
use Rattle.triple_buffers.specs.declared.rule.Ends.{Ends}
use Rattle.triple_buffers.specs.declared.rule.Sight.{Sight}

abbrev pub IsSmall : Layout → Type 0
IsSmall layout = (1 ≤ layout.parties) × (layout.parties ≤ 65536) × (layout.words ≤ 4294967296)

-- the word of the buffer of one party for another, and its slots
abbrev pub word_at : Layout → (from to : ℕ) → ℕ
word_at layout from to = layout.words + to * layout.parties + from

abbrev pub slot_at : Layout → (from to place : ℕ) → ℕ
slot_at layout from to place = 3 * (to * layout.parties + from) + place

-- the two ends of a buffer: its writer's and its reader's
pub data Side : Type 0 where
  Back : Side
  Front : Side

abbrev pub owner : Side → (from to : ℕ) → ℕ
owner Back from to = from
owner Front from to = to

-- the slot that a party has at an end of a buffer
abbrev pub end_in : Ends → Side → (from to : ℕ) → ℕ
end_in ends Back from to = slice_index ends.backs to
end_in ends Front from to = slice_index ends.fronts from

abbrev pub end_of : (ℕ → Ends) → Side → (from to : ℕ) → ℕ
end_of ends side from to = end_in (ends (owner side from to)) side from to

-- the word of a buffer: the slot between its ends, and 4 more where a value lies there that wasn't taken
abbrev pub word_of : {T : Type 0} → Option T → (middle : ℕ) → ℕ
word_of None middle = middle
word_of (Some x) middle = middle + 4

-- where there is a value, the slot holds it
abbrev pub Keeps : {T : Type 0} → Option T → Option T → Type 0
Keeps None y = Unit {0}
Keeps (Some x) y = y ≡ Some x

-- the slots of a buffer are three
pub record AreThree (ends : ℕ → Ends) (middle : ℕ → ℕ → ℕ) (from to : ℕ) : Type 0 where
  pub middle_in : middle from to < 3
  pub end_inside : (side : Side) → end_of ends side from to < 3
  pub apart : (side : Side) → end_of ends side from to ≢ middle from to
  pub both : end_of ends Back from to ≢ end_of ends Front from to

-- the slot that is out with a party is at one of its ends
pub record HasOut (layout : Layout) (ends : ℕ → Ends) (p k : ℕ) : Type 0 where
  pub side : Side
  pub from : ℕ
  pub to : ℕ
  pub from_in : from < layout.parties
  pub to_in : to < layout.parties
  pub mine : owner side from to ≡ p
  pub slot_is : k ≡ slot_at layout from to (end_of ends side from to)

module _ (layout : Layout) (ends : ℕ → Ends) (middle : ℕ → ℕ → ℕ) where
  pub record AreEnds : Type 0 where
    pub three : (from to : ℕ) → from < layout.parties → to < layout.parties → AreThree ends middle from to
    pub backs : (p : ℕ) → p < layout.parties → length (ends p).backs ≡ layout.parties
    pub fronts : (p : ℕ) → p < layout.parties → length (ends p).fronts ≡ layout.parties
    pub out : (p k : ℕ) → p < layout.parties → (ends p).out ≡ Some k → HasOut layout ends p k

  -- each slot is at home that isn't out, and the one between has the value that wasn't taken
  pub record AreSlots {T : Type 0} (buffers : ℕ → ℕ → Option T) (homes : List (maybe.Option (Option T))) : Type 0 where
    pub many : length homes ≡ 3 * (layout.parties * layout.parties)
    pub between : (from to : ℕ) → from < layout.parties → to < layout.parties
        → (y : Option T) × (get_elem? homes (slot_at layout from to (middle from to)) ≡ some (some y))
        × Keeps (buffers from to) y
    pub at_end : (side : Side) (from to : ℕ) → from < layout.parties → to < layout.parties
        → (ends (owner side from to)).out ≢ Some (slot_at layout from to (end_of ends side from to))
        → (y : Option T) × (get_elem? homes (slot_at layout from to (end_of ends side from to)) ≡ some (some y))

-- the words are those of the caller, and those of the buffers
pub record AreWords {T : Type 0} (layout : Layout) (middle : ℕ → ℕ → ℕ) (words : ℕ → ℕ) (buffers : ℕ → ℕ → Option T)
    (all : List ℕ) : Type 0 where
  pub wide : length all ≡ layout.words + layout.parties * layout.parties
  pub client : (i : ℕ) → i < layout.words → slice_index all i ≡ words i
  pub buffer : (from to : ℕ) → from < layout.parties → to < layout.parties
      → slice_index all (word_at layout from to) ≡ word_of (buffers from to) (middle from to)

-- the seat id tells of each of its parties what there is
pub record Tells {V : Type 0} (layout : Layout) (ends : ℕ → Ends) (seat_of : ℕ → ℕ) (id : ℕ) (v : Sight V) : Type 0 where
  pub layout_is : v.layout ≡ layout
  pub each : (p : ℕ) → v.first ≤ p → p < v.first + v.count → (p < layout.parties) × (seat_of p ≡ id) × (ends p ≡ v.ends)

abbrev pub client_of : {V : Type 0} → Sight V → V
client_of v = v.client

module _ {T V : Type 0} (layout : Layout) where
  pub record Fits (c : Contents T V) (ends : ℕ → Ends) (middle : ℕ → ℕ → ℕ) (seat_of : ℕ → ℕ)
      (s : State (Option T) (Sight V)) : Type 0 where
    pub small : IsSmall layout
    pub ends_are : AreEnds layout ends middle
    pub words_are : AreWords layout middle c.words c.buffers s.words
    pub slots_are : AreSlots layout ends middle c.buffers s.homes
    pub seats : (id : ℕ) (v : Sight V) → get_elem? s.views id ≡ some v → Tells layout ends seat_of id v
    pub clients : c.views ≡ map client_of s.views

  -- the rule of the table: it shows contents that keep the caller's rule
  abbrev pub ShowsContents : (Contents T V → Type 0) → State (Option T) (Sight V) → Type 0
  ShowsContents holds s =
      (c : Contents T V) × holds c
      × ((ends : ℕ → Ends) × ((middle : ℕ → ℕ → ℕ) × ((seat_of : ℕ → ℕ) × Fits c ends middle seat_of s)))
