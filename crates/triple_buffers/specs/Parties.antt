-- What the functions say of a party.
use Rattle.std.specs.Prelude.{◌≡◌, ℕ, ◌+◌, ◌<◌, List, [], ◌∷◌, Option, None, Some, length, slice_index}
use Rattle.triple_buffers.specs.declared.layout.Layout.{Layout}
use Rattle.triple_buffers.specs.declared.party.Parties.{Parties}
use Rattle.triple_buffers.specs.declared.party.Party.{Party}
use Rattle.triple_buffers.specs.declared.rule.Buffers.{Buffers}
use Rattle.triple_buffers.specs.Seats.{Mine, first_ends}

-- the slot that is out is the one that the seat has
abbrev pub Carries : {T : Type 0} → (out : Option ℕ) → List (ℕ × Option T) → Type 0
Carries None carried = carried ≡ []
Carries {T} (Some k) carried = (y : Option T) × (carried ≡ (k, y) ∷ [])

-- a seat is that of party p alone
pub record IsAlone {T V : Type 0} (layout : Layout) (p : ℕ) (me : Mine T V) : Type 0 where
  pub layout_is : me.0.layout ≡ layout
  pub first : me.0.first ≡ p
  pub alone : me.0.count ≡ 1
  pub carries : Carries me.0.ends.out me.1

-- the slots that a party has at its ends of n buffers
pub record ArePlaces (n : ℕ) (places : List ℕ) : Type 0 where
  pub long : length places ≡ n
  pub inside : (k : ℕ) → slice_index places k < 3

module _ {T V K P : Type 0} where
  abbrev pub layout_of : Buffers T V K P → Layout
  layout_of buffers = buffers.setup.layout

  -- how many parties there are, how many words, and what the rule is told
  abbrev pub parties_of : Buffers T V K P → ℕ
  parties_of buffers = buffers.setup.layout.parties

  abbrev pub words_of : Buffers T V K P → ℕ
  words_of buffers = buffers.setup.layout.words

  abbrev pub key_of : Buffers T V K P → K
  key_of buffers = buffers.setup.about

  -- the party is one of these
  pub record IsPartyOf (buffers : Buffers T V K P) (party : Party T V) : Type 0 where
    pub table : party.seat.table_id ≡ buffers.table.shared.table_id
    pub inside : party.number < buffers.setup.layout.parties
    pub own : IsAlone buffers.setup.layout party.number party.seat.me
    pub backs : party.seat.me.0.ends.backs ≡ party.backs.items
    pub fronts : party.seat.me.0.ends.fronts ≡ party.fronts.items
    pub backs_in : ArePlaces buffers.setup.layout.parties party.backs.items
    pub fronts_in : ArePlaces buffers.setup.layout.parties party.fronts.items

  -- these are the parties that have no place yet
  pub record AreOf (buffers : Buffers T V K P) (parties : Parties T V) : Type 0 where
    pub table : parties.seat.table_id ≡ buffers.table.shared.table_id
    pub layout_is : parties.seat.me.0.layout ≡ buffers.setup.layout
    pub next : parties.seat.me.0.first ≡ parties.next
    pub many : parties.seat.me.0.count ≡ parties.count
    pub inside : parties.next + parties.count ≡ buffers.setup.layout.parties
    pub ends : parties.seat.me.0.ends ≡ first_ends buffers.setup.layout
    pub none_out : parties.seat.me.1 ≡ []

module _ {T V : Type 0} where
  -- the number of the first party that has no place yet; how many they are; what they know; and the number of their seat
  abbrev pub next_of : Parties T V → ℕ
  next_of parties = parties.next

  abbrev pub many : Parties T V → ℕ
  many parties = parties.count

  abbrev pub view_of_all : Parties T V → V
  view_of_all parties = parties.seat.me.0.client

  abbrev pub seat_of_all : Parties T V → ℕ
  seat_of_all parties = parties.seat.id

  -- a party's number; the number of its seat, by which views are told apart; what it knows; and how many steps on words it has made
  abbrev pub number_of : Party T V → ℕ
  number_of party = party.number

  abbrev pub seat_of : Party T V → ℕ
  seat_of party = party.seat.id

  abbrev pub view_of : Party T V → V
  view_of party = party.seat.me.0.client

  abbrev pub steps_of : Party T V → ℕ
  steps_of party = party.seat.me.0.ends.steps
