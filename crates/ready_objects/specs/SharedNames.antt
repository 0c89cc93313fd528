-- The pairs of a directory as its states keep them: names that the states share, and for each pair the index of its name.
use Rattle.std.specs.Prelude.{◌≡◌, ℕ, ◌<◌, List, [], length, take}
use Rattle.std.specs.List.{slice_index_or, All, IsDistinct}
use Rattle.std.specs.Str.{bytes_eq}
use Rattle.ready_objects.specs.declared.directory.Pair.{Pair}

-- a pair with the name at its index
abbrev pub named : List (List ℕ) → Pair → List ℕ × ℕ
named names pair = (slice_index_or names pair.name [], pair.value)

-- no name is there twice, and each pair has the index of one
abbrev pub AreNamed : List (List ℕ) → List Pair → Type 0
AreNamed names pairs = IsDistinct bytes_eq names × All (λ pair. pair.name < length names) pairs

-- the later names begin with the names, none is there twice, and this name has the index
abbrev pub AddsName : List (List ℕ) → List (List ℕ) → List ℕ → ℕ → Type 0
AddsName names later name index =
    (take (length names) later ≡ names) × IsDistinct bytes_eq later × (index < length later) × (slice_index_or later index [] ≡ name)
