-- The names of the cells in a row: the anchor at 0, and each other cell at the index of its call.
pub use Rattle.seq_object.specs.Indices.{index_of}
use Rattle.std.specs.Prelude.{◌≡◌, ℕ, zero, suc, ◌+◌, ◌/◌, ◌%◌, refl}
use Rattle.uni_model.specs.Places.{Name}
use Rattle.uni_model.specs.Places.Name.{Anchor, Of}

-- the name of the cell at an index
abbrev pub name_of : (n index : ℕ) → Name
name_of n zero = Anchor
name_of n (suc i) = Of (i % n) (i / n)

-- the same in an era before which each process p has begun so many calls
abbrev pub name_from : (n : ℕ) (first : ℕ → ℕ) (index : ℕ) → Name
name_from n first zero = Anchor
name_from n first (suc i) = Of (i % n) (first (i % n) + i / n)

-- of two processes: the second call of process 1
sample_name : name_of 2 4 ≡ Of 1 1
sample_name = refl

-- its fourth one, where it has begun two calls before
sample_later : name_from 2 (λ p. p + 1) 4 ≡ Of 1 3
sample_later = refl
