-- The cells of calls in a row: the anchor at 0, then those of the first calls of all processes, of the second ones, and so on.
use Rattle.std.specs.Prelude.{◌≡◌, ℕ, ◌+◌, ◌*◌, refl}

-- the index of the cell of a call, the nth of its process in an era of n processes, both from 0
abbrev pub index_of : (n process nth : ℕ) → ℕ
index_of n process nth = 1 + nth * n + process

-- of two processes: the second call of process 1
sample_index : index_of 2 1 1 ≡ 4
sample_index = refl
