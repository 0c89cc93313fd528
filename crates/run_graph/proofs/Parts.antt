-- How a graph grows.
use Rattle.run_graph.proofs.Vocabulary.{Global, IsEdge, IsMore, IsPart, IsSome, LeadsTo, List, None, Option, Plan, Some, Vec, WorldOf, [], ap, arith, cases_lt, div-lt_iff_lt-mul, div-mul-add, get_or, inl, inr, length, length-append, mod-mul-add, option_and_then, option_map, option_map_or, path_of, refl, shown, shown_at, slice_get, slice_get_read, slice_index_or, subst, suc, sym, without_counts, world_at, zero, ℕ, ◌%◌, ◌*◌, ◌++◌, ◌+◌, ◌/◌, ◌<◌, ◌∙◌, ◌∷◌, ◌≡◌, ◌≤◌, ◌⊎◌}
use Rattle.std.proofs.Math.ListN.{get_or-append}
use Rattle.std.proofs.Math.Seq.{get_or-append_seam}

pub slice_get-left : {X : Type 0} (xs ys : List X) (k : ℕ) → k < length xs → slice_get (xs ++ ys) k ≡ slice_get xs k
slice_get-left [] ys k below = absurd (omega arith)
slice_get-left (x ∷ xs) ys zero below = refl
slice_get-left (x ∷ xs) ys (suc k) below = slice_get-left xs ys k (omega arith)

slice_get-seam : {X : Type 0} (xs : List X) (y : X) → slice_get (xs ++ y ∷ []) (length xs) ≡ Some y
slice_get-seam [] y = refl
slice_get-seam (x ∷ xs) y = slice_get-seam xs y

pub path_of-read : (paths : List (Vec ℕ Global)) (i : ℕ) (v : Vec ℕ Global) → i < length paths → v ≡ get_or paths i v → path_of paths i ≡ v.items
path_of-read paths i v below read = ap (λ o. option_map_or (λ (path : Vec ℕ Global). path.items) o []) (slice_get_read paths (length paths) i v refl below read)

module _ {S I R : Type 0} (plan : Plan S I R) where
  -- one node more
  pub IsMore-push : (paths : List (Vec ℕ Global)) (v : Vec ℕ Global) → IsSome (shown plan v.items) → IsMore plan paths (paths ++ v ∷ [])
  IsMore-push paths v world = record {
    long = omega (arith, length-append paths (v ∷ []));
    same = λ j below. slice_get-left paths (v ∷ []) j below;
    worlds = λ j least below.
        let last : length paths ≡ j = omega (arith, length-append paths (v ∷ [])) in
        subst (λ i. IsSome (shown_at plan (paths ++ v ∷ []) i)) last
        (subst (λ o. IsSome (option_and_then (λ (path : Vec ℕ Global). shown plan path.items) o)) (sym (slice_get-seam paths v)) world);
  }

  pub IsMore-same : (paths : List (Vec ℕ Global)) → IsMore plan paths paths
  IsMore-same paths = record { long = omega arith; same = λ j below. refl; worlds = λ j least below. absurd (omega arith) }

  -- the last node is at the end of its path
  pub LeadsTo-push : (paths : List (Vec ℕ Global)) (v : Vec ℕ Global) → LeadsTo plan (paths ++ v ∷ []) v.items (Some (length paths))
  LeadsTo-push paths v = record {
    node = omega (arith, length-append paths (v ∷ []));
    world = sym (ap (option_and_then (λ (path : Vec ℕ Global). shown plan path.items)) (slice_get-seam paths v));
  }

  module _ (old new : List (Vec ℕ Global)) (more : IsMore plan old new) where
    shown_at-more : (j : ℕ) → j < length old → shown_at plan new j ≡ shown_at plan old j
    shown_at-more j below = ap (option_and_then (λ (path : Vec ℕ Global). shown plan path.items)) (more.same j below)

    path_of-more : (j : ℕ) → j < length old → path_of new j ≡ path_of old j
    path_of-more j below = ap (λ o. option_map_or (λ (path : Vec ℕ Global). path.items) o []) (more.same j below)

    LeadsTo-more : (path : List ℕ) (target : Option ℕ) → LeadsTo plan old path target → LeadsTo plan new path target
    LeadsTo-more path None leads = record { node = tt; world = leads.world }
    LeadsTo-more path (Some j) leads = record {
      node = let here : j < length old = leads.node in let long = more.long in omega arith;
      world = leads.world ∙ sym (shown_at-more j leads.node);
    }

    -- the part of a graph, with these nodes
    pub IsPart-more : (targets : List (Option ℕ)) → 0 < plan.n → length targets ≤ length old * plan.n → IsPart plan old targets → IsPart plan new targets
    IsPart-more targets positive few part = record {
      some = let some = part.some in let long = more.long in omega arith;
      opening = path_of-more 0 part.some ∙ part.opening;
      worlds = λ i below. worlds_more i below;
      edges = λ k below.
          let node : k / plan.n < length old = (div-lt_iff_lt-mul positive).1 (omega arith) in
          subst (λ path. LeadsTo plan new (path ++ (k % plan.n) ∷ []) (slice_index_or targets k None)) (sym (path_of-more (k / plan.n) node))
          (LeadsTo-more _ _ (part.edges k below));
    } where
      worlds_at : (i : ℕ) → i < length new → (i < length old) ⊎ (length old ≤ i) → IsSome (shown_at plan new i)
      worlds_at i below (inl here) = subst (λ o. IsSome o) (sym (shown_at-more i here)) (part.worlds i here)
      worlds_at i below (inr past) = more.worlds i past below

      worlds_more : (i : ℕ) → i < length new → IsSome (shown_at plan new i)
      worlds_more i below = worlds_at i below (cases_lt i (length old))

  -- one target more
  pub IsPart-target : (paths : List (Vec ℕ Global)) (targets : List (Option ℕ)) (i p : ℕ) (target : Option ℕ) → p < plan.n → length targets ≡ i * plan.n + p
      → IsPart plan paths targets → LeadsTo plan paths (path_of paths i ++ p ∷ []) target → IsPart plan paths (targets ++ target ∷ [])
  IsPart-target paths targets i p target below counted part leads = record {
    some = part.some;
    opening = part.opening;
    worlds = part.worlds;
    edges = λ k inside. edge k inside (cases_lt k (length targets));
  } where
    edge : (k : ℕ) → k < length (targets ++ target ∷ []) → (k < length targets) ⊎ (length targets ≤ k) → IsEdge plan paths k (slice_index_or (targets ++ target ∷ []) k None)
    edge k inside (inl here) = subst (λ t. IsEdge plan paths k t) (sym (get_or-append targets (target ∷ []) None k here)) (part.edges k here)
    edge k inside (inr past) =
        let last : k ≡ i * plan.n + p = omega (arith, length-append targets (target ∷ [])) in
        let at_end : length targets ≡ k = omega arith in
        let node : k / plan.n ≡ i = ap (λ m. m / plan.n) last ∙ div-mul-add i plan.n p below in
        let process : k % plan.n ≡ p = ap (λ m. m % plan.n) last ∙ mod-mul-add i plan.n p below in
        subst (λ t. IsEdge plan paths k t) (sym (subst (λ m. slice_index_or (targets ++ target ∷ []) m None ≡ target) at_end (get_or-append_seam targets target [] None)))
        (subst (λ m. LeadsTo plan paths (path_of paths m ++ (k % plan.n) ∷ []) target) (sym node)
        (subst (λ m. LeadsTo plan paths (path_of paths i ++ m ∷ []) target) (sym process) leads))

  -- the part that the opening is
  pub IsPart-opening : (v : Vec ℕ Global) → v.items ≡ [] → IsSome (shown plan v.items) → IsPart plan (v ∷ []) []
  IsPart-opening v empty world = record {
    some = omega arith;
    opening = empty;
    worlds = λ i below. let zeroth : 0 ≡ i = omega arith in subst (λ j. IsSome (shown_at plan (v ∷ []) j)) zeroth world;
    edges = λ k below. absurd (omega arith);
  }

  -- the node that was found
  pub shown_at-found : (paths : List (Vec ℕ Global)) (j : ℕ) (v : Vec ℕ Global) (w w' : WorldOf S I R) → j < length paths → v ≡ get_or paths j v → world_at plan v.items ≡ Some w
      → without_counts w ≡ without_counts w' → shown_at plan paths j ≡ Some (without_counts w')
  shown_at-found paths j v w w' below read at same =
      ap (option_and_then (λ (path : Vec ℕ Global). shown plan path.items)) (slice_get_read paths (length paths) j v refl below read) ∙ ap (option_map without_counts) at ∙ ap Some same

  pub shown-some : (path : List ℕ) (w : WorldOf S I R) → world_at plan path ≡ Some w → IsSome (shown plan path)
  shown-some path w at = subst (λ o. IsSome (option_map without_counts o)) (sym at) refl

  -- one edge more, to a node that is there or a new one
  pub IsPart-edge : (old new : List (Vec ℕ Global)) (targets : List (Option ℕ)) (i p : ℕ) (target : Option ℕ) → i < length old → p < plan.n
      → length targets ≡ i * plan.n + p → IsMore plan old new → IsPart plan old targets → LeadsTo plan new (path_of old i ++ p ∷ []) target
      → IsPart plan new (targets ++ target ∷ [])
  IsPart-edge old new targets i p target node process counted more part leads =
      let positive : 0 < plan.n = omega arith in
      let below : i * plan.n + p < length old * plan.n = (div-lt_iff_lt-mul positive).0 (subst (λ q. q < length old) (sym (div-mul-add i plan.n p process)) node) in
      IsPart-target new targets i p target process counted (IsPart-more old new more targets positive (omega arith) part)
      (subst (λ q. LeadsTo plan new (q ++ p ∷ []) target) (sym (path_of-more old new more i node)) leads)
