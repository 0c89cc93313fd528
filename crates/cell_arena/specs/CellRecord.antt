-- What a cell contains, and how the cells of an arena change.
pub use Rattle.seq_object.specs.Indices.{index_of}
use Rattle.std.specs.Prelude.{◌≡◌, ◌==◌, ◌+◌, ◌-◌, ◌*◌, ◌/◌, ◌%◌, ℕ, Option, None, Some}
use Rattle.std.specs.Prelude.{if◌then◌else◌, option_map, unwrap_or, refl}

-- the fields of a cell; other cells are named by their index
pub record CellRecord (S I R : Type 0) : Type 0 where
  -- what its call asks for; none of the anchor
  pub inv : Option I
  -- its number; 0 while it isn't threaded
  pub seq : ℕ
  pub before : Option ℕ
  -- the settled next cell
  pub after : Option ℕ
  -- the settled state after its call, and the response, which the anchor has none of
  pub new : Option (S × Option R)

-- a cell that was just made
abbrev pub fresh : {S I R : Type 0} → I → CellRecord S I R
fresh i = record { inv = Some i; seq = 0; before = None; after = None; new = None }

-- an anchor: a state, and its number
abbrev pub anchor_with : {S I R : Type 0} → S → ℕ → CellRecord S I R
anchor_with state seq = record { inv = None; seq = seq; before = None; after = None; new = Some (state, None) }

-- the anchor that stands for a cell: its state and its number alone
abbrev pub anchor_for : {S I R : Type 0} → CellRecord S I R → CellRecord S I R
anchor_for c = record { inv = None; seq = c.seq; before = None; after = None; new = option_map (λ new. (new.0, None)) c.new }

-- who made the cell at an index, and as its which one
abbrev pub owner_of : (n index : ℕ) → ℕ
owner_of n index = (index - 1) % n

abbrev pub nth_of : (n index : ℕ) → ℕ
nth_of n index = (index - 1) / n

-- what is settled after a proposal: the first one
abbrev pub settled : {A : Type 0} → Option A → A → A
settled old proposal = unwrap_or old proposal

-- a cell with another number
abbrev pub with_seq : {S I R : Type 0} → ℕ → CellRecord S I R → CellRecord S I R
with_seq seq c = record c { seq = seq }

-- a cell with another cell before it
abbrev pub with_before : {S I R : Type 0} → ℕ → CellRecord S I R → CellRecord S I R
with_before before c = record c { before = Some before }

-- a cell after a proposal of its next cell
abbrev pub with_after : {S I R : Type 0} → ℕ → CellRecord S I R → CellRecord S I R
with_after next c = record c { after = Some (settled c.after next) }

-- a cell after a proposal of its state and response
abbrev pub with_new : {S I R : Type 0} → S × Option R → CellRecord S I R → CellRecord S I R
with_new new c = record c { new = Some (settled c.new new) }

-- new is old, but for what it has at one index
abbrev pub ChangesOnly : {A : Type 0} → (old new : ℕ → A) → ℕ → A → Type 0
ChangesOnly old new index value = (i : ℕ) → new i ≡ (if i == index then value else old i)

-- nothing changes
abbrev pub IsUnchanged : {A : Type 0} → (old new : ℕ → A) → Type 0
IsUnchanged old new = (i : ℕ) → new i ≡ old i

-- there is one cell, the anchor
abbrev pub HasOnlyAnchor : {S I R : Type 0} → (ℕ → Option (CellRecord S I R)) → Option (CellRecord S I R) → Type 0
HasOnlyAnchor cell anchor = (i : ℕ) → cell i ≡ (if i == 0 then anchor else None)

-- among three processes the first cells have the indices 1, 2 and 3, and the second cell of process 2 has 6
first_of_owner_0 : index_of 3 0 0 ≡ 1
first_of_owner_0 = refl

first_of_owner_2 : index_of 3 2 0 ≡ 3
first_of_owner_2 = refl

second_of_owner_2 : index_of 3 2 1 ≡ 6
second_of_owner_2 = refl

-- so process 2 made the cell at 6, as its second
owner_of_6 : owner_of 3 6 ≡ 2
owner_of_6 = refl

nth_of_6 : nth_of 3 6 ≡ 1
nth_of_6 = refl

-- the first proposal stands
first_is_settled : settled {A = ℕ} None 4 ≡ 4
first_is_settled = refl

later_is_dropped : settled {A = ℕ} (Some 4) 5 ≡ 4
later_is_dropped = refl

-- a cell of call 5
abbrev sample : CellRecord ℕ ℕ ℕ
sample = fresh 5

-- the first of two next cells stands
after_twice : with_after 8 (with_after 7 sample) ≡ with_after 7 sample
after_twice = refl

-- the anchor for a cell has its state and number alone
anchor_for_sample : anchor_for (with_new (9, Some 4) (with_before 1 (with_seq 3 sample))) ≡ anchor_with 9 3
anchor_for_sample = refl
