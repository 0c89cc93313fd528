-- How the log of an era grows.
use Rattle.std.specs.Prelude.{◌≡◌, ℕ, ◌+◌, ◌≤◌, ◌⊎◌, List, [], ◌∷◌, None, Some, length, slice_get}
use Rattle.uni_model.specs.Chain.{Entry}
use Rattle.uni_model.specs.Worlds.{Event}
use Rattle.uni_model.specs.Worlds.Event.{Call, Step, Trim, Reshape}

-- the same call at the same number, whose response has come meanwhile
pub record GetsResponse {I R : Type 0} (e e' : Entry I R) : Type 0 where
  pub number : e'.number ≡ e.number
  pub call : e'.call ≡ e.call
  pub missing : e.response ≡ None

-- A log is a prefix of a later one: what it has at each place stands there, but that a response that is missing in its last entry
-- may be there then.
pub record IsPrefixOf {I R : Type 0} (early late : List (Entry I R)) : Type 0 where
  pub longer : length early ≤ length late
  pub entries : (j : ℕ) (e : Entry I R) → slice_get early j ≡ Some e
      → (e' : Entry I R) × (slice_get late j ≡ Some e') × ((e' ≡ e) ⊎ ((j + 1 ≡ length early) × GetsResponse e e'))

-- no era ends among these events
abbrev pub EndsNoEra : {I : Type 0} → Event I → Type 0
EndsNoEra (Call p i) = Unit {0}
EndsNoEra (Step p) = Unit {0}
EndsNoEra Trim = ⊥
EndsNoEra (Reshape n) = ⊥

abbrev pub EndNoEra : {I : Type 0} → List (Event I) → Type 0
EndNoEra [] = Unit {0}
EndNoEra (e ∷ es) = EndsNoEra e × EndNoEra es
