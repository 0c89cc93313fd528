-- Worlds at hand: for each node of a graph some worlds that are the same as that of the node.
use Rattle.std.specs.Prelude.{◌≡◌, ◌≢◌, ℕ, List, [], ◌∷◌, ◌++◌, Option, None, Some, Vec, length, slice_get}
use Rattle.std.specs.Option.{option_map_or, option_to_list}
use Rattle.std.specs.List.{All}
use Rattle.std.specs.declared.alloc.Global.{Global}
use Rattle.uni_model.specs.Places.{new_of}
use Rattle.uni_model.specs.Places.Name.{Anchor}
use Rattle.uni_model.specs.Worlds.{WorldOf}
use Rattle.uni_core.specs.World.{WorldParts, world_of}
use Rattle.uni_core.specs.Same.{without_counts}
use Rattle.run_graph.specs.Graph.{shown_at}
use Rattle.run_graph.specs.Schedule.{Plan}

-- what a list of lists has at a place
abbrev pub list_at : {T : Type 0} → List (Vec T Global) → ℕ → List T
list_at lists i = option_map_or (λ here. here.items) (slice_get lists i) []

-- the list at place j has one more, and no other list changed
pub record IsKept {T : Type 0} (j : ℕ) (one : T) (old new : List (Vec T Global)) : Type 0 where
  pub long : length new ≡ length old
  pub here : list_at new j ≡ list_at old j ++ one ∷ []
  pub others : (i : ℕ) → i ≢ j → list_at new i ≡ list_at old i

-- the last of the list at place j, if there is one, was taken, and no other list changed
pub record IsTaken {T : Type 0} (j : ℕ) (one : Option T) (old new : List (Vec T Global)) : Type 0 where
  pub long : length new ≡ length old
  pub here : list_at old j ≡ list_at new j ++ option_to_list one
  pub others : (i : ℕ) → i ≢ j → list_at new i ≡ list_at old i

-- The code's world w is over this object, began with this state, and is the world that is told, but for what is counted of the
-- latest calls.
pub record IsTold {O S I R : Type 0} (o : O) (start : S) (told : Option (WorldOf S I R)) (w : WorldParts O S I R) : Type 0 where
  pub object : w.object ≡ o
  pub anchor : new_of (world_of w).memory Anchor ≡ Some (start, None)
  pub world : told ≡ Some (without_counts (world_of w))

-- the worlds at hand of each node
pub record AreAtHand {O S I R : Type 0} (o : O) (plan : Plan S I R) (paths : List (Vec ℕ Global)) (worlds : List (Vec (WorldParts O S I R) Global)) : Type 0 where
  pub count : length worlds ≡ length paths
  pub each : (i : ℕ) → All (IsTold o plan.object.initial (shown_at plan paths i)) (list_at worlds i)
