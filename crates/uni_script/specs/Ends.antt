-- What a writer holds after a write that may have stopped early, and what an end shows.
use Rattle.std.specs.Prelude.{◌≡◌, List, ℕ, Option, Bool, ◌++◌}
use Rattle.std.specs.Io.KnownBytes.{Appends}

-- an end of std, and whether it has failed
pub record CheckedEnd (T : Type 0) : Type 0 where
  pub end : T
  pub failed : Bool

-- known bytes grew by a prefix of these bytes, and the rest is left to write
pub record IsWritten (old new : Option (List ℕ)) (bytes rest : List ℕ) : Type 0 where
  pub prefix : List ℕ
  pub cut : bytes ≡ prefix ++ rest
  pub taken : Appends old new prefix

-- known bytes grew by a prefix of these bytes
abbrev pub AppendsPrefix : Option (List ℕ) → Option (List ℕ) → List ℕ → Type 0
AppendsPrefix old new bytes = (rest : List ℕ) × IsWritten old new bytes rest

-- a text that was gathered was written from its start on, and this is left of it
abbrev pub Moves : (old new : Option (List ℕ)) → (before after : List ℕ) → Type 0
Moves old new before after = (prefix : List ℕ) × Appends old new prefix × (before ≡ prefix ++ after)
