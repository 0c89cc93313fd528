-- The states along the list, and a cursor along it.
use Rattle.std.specs.Prelude.{◌≡◌, ℕ, ◌∷◌, [], Option, Some, None, option_map, option_and_then, slice_get, refl}
use Rattle.uni_model.specs.Places.{new_of}
use Rattle.uni_model.specs.Places.Name.{Anchor}
use Rattle.uni_model.specs.Worlds.{WorldOf, chain, opened_world}
use Rattle.uni_model.specs.History.{invocations_of}
use Rattle.uni_core.specs.World.{WorldParts}

-- a cursor along the log of a world, and how many entries it has passed
pub record Along (O S I R : Type 0) : Type 0 where
  pub world : WorldParts O S I R
  pub passed : ℕ

-- the state that is settled in the cell at a place of the list, where the anchor is at place 0
abbrev pub state_settled_at : {S I R : Type 0} → WorldOf S I R → ℕ → Option S
state_settled_at w place = option_and_then (λ x. option_map (λ new. new.0) (new_of w.memory x)) (slice_get (Anchor ∷ chain w) place)

-- two processes over 9, of which none has called
abbrev sample : WorldOf ℕ ℕ ℕ
sample = opened_world 2 9 1

state_of_anchor : state_settled_at sample 0 ≡ Some 9
state_of_anchor = refl

state_past_anchor : state_settled_at sample 1 ≡ None
state_past_anchor = refl

sample_invocations : invocations_of sample ≡ []
sample_invocations = refl
