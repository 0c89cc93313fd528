-- The chain: the cells that are reached from the anchor by settled `after`.
use Rattle.std.specs.Prelude.{ℕ, zero, suc, ◌+◌, List, [], ◌∷◌, Option, None, option_map, option_and_then}
use Rattle.std.specs.Option.{option_map_or}
use Rattle.uni_model.specs.AtomicObject.{Invoked}
use Rattle.uni_model.specs.Places.{Name, Memory, inv_of, after_of, new_of}
use Rattle.uni_model.specs.Places.Name.{Anchor, Of}

-- the cells after a cell, at most so many
abbrev pub cells_from : {S I R : Type 0} → (most : ℕ) → Memory S I R → Name → List Name
cells_from zero m x = []
cells_from (suc most) m x = option_map_or (λ y. y ∷ cells_from most m y) (after_of m x) []

-- the last of a list, or x
abbrev pub last_of : {A : Type 0} → A → List A → A
last_of x [] = x
last_of x (y ∷ ys) = last_of y ys

-- the call that a cell was made for; nothing of the anchor
abbrev pub invoked_at : {S I R : Type 0} → Memory S I R → Name → Option (Invoked I)
invoked_at m Anchor = None
invoked_at m (Of p k) = option_map (λ i. record { process = p; nth = k; inv = i }) (inv_of m (Of p k))

-- the response that is settled in a cell, if any is
abbrev pub response_in : {S I R : Type 0} → Memory S I R → Name → Option R
response_in m x = option_and_then (λ new. new.1) (new_of m x)

-- an entry of the log: a call with its number in the chain, and its response where that is settled
pub record Entry (I R : Type 0) : Type 0 where
  pub number : ℕ
  pub call : Invoked I
  pub response : Option R

-- the entries of these cells, which are numbered from here on
abbrev pub entries_from : {S I R : Type 0} → Memory S I R → (number : ℕ) → List Name → List (Entry I R)
entries_from m number [] = []
entries_from m number (x ∷ xs) =
    option_map_or (λ call. record { number = number; call = call; response = response_in m x } ∷ entries_from m (number + 1) xs)
    (invoked_at m x) []
