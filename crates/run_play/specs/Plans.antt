-- The plan of a run: the calls of each of its processes.
use Rattle.std.specs.Prelude.{◌≡◌, ℕ, ◌<◌, ◌==◌, Bool, true, false, if◌then◌else◌, List, [], ◌∷◌, length, slice_get, Vec, refl}
use Rattle.std.specs.Option.{option_map_or}
use Rattle.std.specs.declared.alloc.Global.{Global}
use Rattle.uni_model.specs.Worlds.{Event}
use Rattle.uni_model.specs.Worlds.Event.{Call, Step, Trim, Reshape}

-- whether no event ends an era
abbrev pub has_one_era : {I : Type 0} → List (Event I) → Bool
has_one_era [] = true
has_one_era (Call p i ∷ events) = has_one_era events
has_one_era (Step p ∷ events) = has_one_era events
has_one_era (Trim ∷ events) = false
has_one_era (Reshape n ∷ events) = false

-- the calls of a process among some events, in order
abbrev pub calls_of : {I : Type 0} → ℕ → List (Event I) → List I
calls_of p [] = []
calls_of p (Call q i ∷ events) = if q == p then i ∷ calls_of p events else calls_of p events
calls_of p (Step q ∷ events) = calls_of p events
calls_of p (Trim ∷ events) = calls_of p events
calls_of p (Reshape n ∷ events) = calls_of p events

-- these are the calls of n processes, those of process 0 first
pub record AreCallsOf {I : Type 0} (n : ℕ) (events : List (Event I)) (calls : List (Vec I Global)) : Type 0 where
  pub count : length calls ≡ n
  pub each : (p : ℕ) → p < n → option_map_or (λ (c : Vec I Global). c.items) (slice_get calls p) [] ≡ calls_of p events

-- process 1 calls 5 and 7, and another calls between
two_calls : calls_of {I = ℕ} 1 (Call 1 5 ∷ Step 1 ∷ Call 0 6 ∷ Call 1 7 ∷ []) ≡ 5 ∷ 7 ∷ []
two_calls = refl
