-- Values in a row of words.
use Rattle.std.proofs.Common.{◌∙◌, ap, sym}
use Rattle.std.specs.Prelude.{◌≡◌, ℕ, zero, suc, List, [], ◌∷◌, length, take, drop, slice_index, refl}

-- the values, and zeros behind them, of which there are so many in all
abbrev pub padded : (room : ℕ) → List ℕ → List ℕ
padded zero values = []
padded (suc room) [] = 0 ∷ padded room []
padded (suc room) (v ∷ values) = v ∷ padded room values

-- how many values there are, and then they, in room for so many
abbrev pub row_of : (room : ℕ) → List ℕ → List ℕ
row_of room values = length values ∷ padded room values

-- the values in such words
abbrev pub values_in : List ℕ → List ℕ
values_in words = take (slice_index words 0) (drop 1 words)

sample_row : row_of 4 (8 ∷ 9 ∷ []) ≡ 2 ∷ 8 ∷ 9 ∷ 0 ∷ 0 ∷ []
sample_row = refl

sample_values : values_in (2 ∷ 8 ∷ 9 ∷ 0 ∷ 0 ∷ []) ≡ 8 ∷ 9 ∷ []
sample_values = refl

-- a row has as many words for all values
pub length-padded : (room : ℕ) (values : List ℕ) → length (padded room values) ≡ room
length-padded zero values = refl
length-padded (suc room) [] = ap suc (length-padded room [])
length-padded (suc room) (v ∷ values) = ap suc (length-padded room values)

pub row_wide : (room : ℕ) (values : List ℕ) → length (row_of room values) ≡ length (row_of room [])
row_wide room values = ap suc (length-padded room values ∙ sym (length-padded room []))
