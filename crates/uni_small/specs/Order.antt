-- The order in which calls took effect, and versions.
use Rattle.std.specs.Prelude.{◌≡◌, refl, ℕ, ◌<◌, ◌≤◌, List, [], ◌∷◌, Some, length, map, slice_get}
use Rattle.seq_object.specs.Sequential.{Sequential}
use Rattle.seq_object.specs.History.{response_at}
use Rattle.uni_model.specs.AtomicObject.{Invoked}
use Rattle.uni_small.specs.View.{Returned}

module _ (object : Sequential (List ℕ) (List ℕ) (List ℕ)) (agreed : List (Invoked (List ℕ))) (calls_in_version : ℕ
    → ℕ) where
  -- Of the calls, in the order in which they took effect, the first calls_in_version v are in version v. Call k of
  -- process p has returned: its reply is the object's at its place, it comes after all that are in its version `after`,
  -- and is one of those that are in its version `version`.
  pub record StandsIn (p k : ℕ) (call : Returned) : Type 0 where
    pub place : ℕ
    pub there : slice_get agreed place ≡ Some (record { process = p; nth = k; inv = call.inv })
    pub reply : response_at object object.initial (map (λ c. c.inv) agreed) place ≡ Some call.reply
    pub after : calls_in_version call.after ≤ place
    pub before : place < calls_in_version call.version

  -- At the version `present`: process p has returned from these calls, each of which stands where it says. Its other
  -- calls that took effect come after all that are in its version `after`.
  pub record IsOrdered (present p after : ℕ) (own : List Returned) : Type 0 where
    pub reached : after ≤ present
    pub later : (c : Invoked (List ℕ)) (place : ℕ) → slice_get agreed place ≡ Some c → c.process ≡ p
        → length own ≤ c.nth → calls_in_version after ≤ place
    pub known : (k : ℕ) (call : Returned) → slice_get own k ≡ Some call → call.version ≤ present
    pub stand : (k : ℕ) (call : Returned) → slice_get own k ≡ Some call → StandsIn p k call

-- three calls of two processes: the first two of them are in version 1, all in version 2
abbrev sample : List (Invoked (List ℕ))
sample = record { process = 0; nth = 0; inv = 7 ∷ [] } ∷ record { process = 1; nth = 0; inv = 8 ∷ [] } ∷ record { process = 0; nth = 1; inv = 9 ∷ [] } ∷ []

-- the second call of the first process is at place 2: it comes after all calls of version 1
sample_place : slice_get sample 2 ≡ Some (record { process = 0; nth = 1; inv = 9 ∷ [] })
sample_place = refl
