-- A graph of all schedules.
use Rattle.std.specs.Prelude.{◌≡◌, ℕ, ◌*◌, ◌/◌, ◌%◌, ◌<◌, ◌≤◌, List, [], ◌∷◌, ◌++◌, Option, None, length, slice_get, slice_index_or, Vec, IfSome, IsSome}
use Rattle.std.specs.Prelude.{option_and_then}
use Rattle.std.specs.Option.{option_map_or}
use Rattle.std.specs.declared.alloc.Global.{Global}
use Rattle.uni_model.specs.Worlds.{WorldOf}
use Rattle.run_graph.specs.Schedule.{Plan, shown, world_at}

-- the path to a node
abbrev pub path_of : List (Vec ℕ Global) → ℕ → List ℕ
path_of paths i = option_map_or (λ path. path.items) (slice_get paths i) []

-- the world of a node
abbrev pub shown_at : {S I R : Type 0} → Plan S I R → List (Vec ℕ Global) → ℕ → Option (WorldOf S I R)
shown_at plan paths i = option_and_then (λ path. shown plan path.items) (slice_get paths i)

-- Where there is a target, it is a node, and its world is the one after the event of process p at the end of the path; and where
-- there is none, neither is that event.
pub record LeadsTo {S I R : Type 0} (plan : Plan S I R) (paths : List (Vec ℕ Global)) (path : List ℕ) (target : Option ℕ) : Type 0 where
  pub node : IfSome target (λ j. j < length paths)
  pub world : shown plan path ≡ option_and_then (shown_at plan paths) target

-- The target at place k is that of process k % n in node k / n.
abbrev pub IsEdge : {S I R : Type 0} → Plan S I R → List (Vec ℕ Global) → ℕ → Option ℕ → Type 0
IsEdge plan paths k target = LeadsTo plan paths (path_of paths (k / plan.n) ++ (k % plan.n) ∷ []) target

-- node 0 is the opening; each node is a world; these targets lead where the events lead
pub record IsPart {S I R : Type 0} (plan : Plan S I R) (paths : List (Vec ℕ Global)) (targets : List (Option ℕ)) : Type 0 where
  pub some : 0 < length paths
  pub opening : path_of paths 0 ≡ []
  pub worlds : (i : ℕ) → i < length paths → IsSome (shown_at plan paths i)
  pub edges : (k : ℕ) → k < length targets → IsEdge plan paths k (slice_index_or targets k None)

-- and there is a target for each process in each node
pub record IsGraph {S I R : Type 0} (plan : Plan S I R) (paths : List (Vec ℕ Global)) (targets : List (Option ℕ)) : Type 0 where
  pub part : IsPart plan paths targets
  pub all : length targets ≡ length paths * plan.n

-- nodes were added, each of which is a world
pub record IsMore {S I R : Type 0} (plan : Plan S I R) (old new : List (Vec ℕ Global)) : Type 0 where
  pub long : length old ≤ length new
  pub same : (j : ℕ) → j < length old → slice_get new j ≡ slice_get old j
  pub worlds : (j : ℕ) → length old ≤ j → j < length new → IsSome (shown_at plan new j)

-- each world that a path from the opening leads to is that of a node
abbrev pub HasEachWorld : {S I R : Type 0} → Plan S I R → List (Vec ℕ Global) → Type 0
HasEachWorld plan paths =
    (path : List ℕ) → IsSome (world_at plan path) → (i : ℕ) × (i < length paths) × (shown_at plan paths i ≡ shown plan path)
