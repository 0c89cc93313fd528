-- Each world that a path leads to has its node.
use Rattle.run_graph.proofs.Vocabulary.{Bool, Global, HasEachWorld, IsGraph, IsSome, LeadsTo, List, None, Option, Plan, Sequential, Some, Vec, WorldOf, [], along, ap, arith, calls_in_era, div-lt_iff_lt-mul, div-mul-add, event_from, false, if◌then◌else◌, length, mod-mul-add, moved, nat_lt, nat_tests, opened_world, option_and_then, option_map, option_map_or, path_of, refl, shown, shown_at, slice_get, subst, sym, true, without_counts, world_after, world_after_step, world_at, ℕ, ◌%◌, ◌*◌, ◌++◌, ◌+◌, ◌/◌, ◌<◌, ◌∙◌, ◌∷◌, ◌≡◌}
use Rattle.std.proofs.Common.{slice_index_or}
use Rattle.uni_model.specs.Stages.{Pending}
use Rattle.run_graph.proofs.Along.{along-none}

pub some-same : {A : Type 0} (x y : A) → Some x ≡ Some y → x ≡ y
some-same x y e = cc

none-some : {A : Type 0} {X : Type 0} (x : A) → None ≡ Some x → X
none-some x e = absurd (cc)

module _ {S I R : Type 0} (object : Sequential S I R) (w : WorldOf S I R) where
  step-shown : (p : ℕ) (c : Option Pending) → without_counts (world_after_step object w p c) ≡ without_counts (world_after_step object (without_counts w) p c)
  step-shown p None = refl
  step-shown p (Some call) = refl

  event-shown : (p : ℕ) (pending : Option Pending) (next : Option I) → option_map without_counts (option_map (world_after object w) (event_from p pending next))
      ≡ option_map without_counts (option_map (world_after object (without_counts w)) (event_from p pending next))
  event-shown p (Some c) next = ap Some (step-shown p (w.call p))
  event-shown p None (Some i) = refl
  event-shown p None None = refl

  tested-shown : (p : ℕ) (b : Bool) (next : Option I) → option_map without_counts (option_map (world_after object w) (if b then event_from p (w.call p) next else None))
      ≡ option_map without_counts (option_map (world_after object (without_counts w)) (if b then event_from p (w.call p) next else None))
  tested-shown p true next = event-shown p (w.call p) next
  tested-shown p false next = refl

  step-n : (p : ℕ) (c : Option Pending) → (world_after_step object w p c).n ≡ w.n
  step-n p None = refl
  step-n p (Some call) = refl

  event-n : (p : ℕ) (pending : Option Pending) (next : Option I) (v : WorldOf S I R) → option_map (world_after object w) (event_from p pending next) ≡ Some v → v.n ≡ w.n
  event-n p (Some c) next v e = ap (λ (u : WorldOf S I R). u.n) (sym (some-same _ _ e)) ∙ step-n p (w.call p)
  event-n p None (Some i) v e = ap (λ (u : WorldOf S I R). u.n) (sym (some-same _ _ e))
  event-n p None None v e = none-some v e

  tested-n : (p : ℕ) (b : Bool) (next : Option I) (v : WorldOf S I R) → option_map (world_after object w) (if b then event_from p (w.call p) next else None) ≡ Some v
      → (v.n ≡ w.n) × (b ≡ true)
  tested-n p true next v e = (event-n p (w.call p) next v e, refl)
  tested-n p false next v e = none-some v e

module _ {S I R : Type 0} (plan : Plan S I R) where
  -- counts change nothing that comes later
  moved-shown : (p : ℕ) (w : WorldOf S I R) → option_map without_counts (moved plan p w) ≡ option_map without_counts (moved plan p (without_counts w))
  moved-shown p w = tested-shown plan.object w p (nat_lt p w.n) (if nat_lt (calls_in_era w p) plan.row then plan.call p (w.begun p) else None)

  moved-same : (p : ℕ) (w v : WorldOf S I R) → without_counts w ≡ without_counts v → option_map without_counts (moved plan p w) ≡ option_map without_counts (moved plan p v)
  moved-same p w v same = moved-shown p w ∙ ap (λ u. option_map without_counts (moved plan p u)) same ∙ sym (moved-shown p v)

  moved-n : (p : ℕ) (w v : WorldOf S I R) → moved plan p w ≡ Some v → (v.n ≡ w.n) × (nat_lt p w.n ≡ true)
  moved-n p w v e = tested-n plan.object w p (nat_lt p w.n) (if nat_lt (calls_in_era w p) plan.row then plan.call p (w.begun p) else None) v e

  along-snoc : (o : Option (WorldOf S I R)) (path : List ℕ) (p : ℕ) → along plan o (path ++ p ∷ []) ≡ option_and_then (moved plan p) (along plan o path)
  along-snoc o [] p = refl
  along-snoc o (q ∷ path) p = along-snoc (option_and_then (moved plan q) o) path p

  -- the event of a process in a world, told by another world that is the same
  moved_at : (p : ℕ) (w : WorldOf S I R) (o : Option (WorldOf S I R)) → option_map without_counts o ≡ Some (without_counts w)
      → option_map without_counts (option_and_then (moved plan p) o) ≡ option_map without_counts (moved plan p w)
  moved_at p w None e = none-some _ e
  moved_at p w (Some u) e = moved-same p u w (some-same _ _ e)

  -- what is shown after an event at the end of a path, told by a world that is the same
  pub shown-next : (path : List ℕ) (p : ℕ) (w : WorldOf S I R) → shown plan path ≡ Some (without_counts w) → shown plan (path ++ p ∷ []) ≡ option_map without_counts (moved plan p w)
  shown-next path p w is = ap (option_map without_counts) (along-snoc (Some (opened_world plan.n plan.object.initial 1)) path p) ∙ moved_at p w (world_at plan path) is

  -- what is shown of a node is shown at the end of its path
  pub shown_at-path : (paths : List (Vec ℕ Global)) (i : ℕ) (u : WorldOf S I R) → shown_at plan paths i ≡ Some u → shown plan (path_of paths i) ≡ Some u
  shown_at-path paths i u is = read (slice_get paths i) is where
    read : (o : Option (Vec ℕ Global)) → option_and_then (λ (path : Vec ℕ Global). shown plan path.items) o ≡ Some u
        → shown plan (option_map_or (λ (path : Vec ℕ Global). path.items) o []) ≡ Some u
    read None e = none-some u e
    read (Some path) e = e

  module _ (paths : List (Vec ℕ Global)) (targets : List (Option ℕ)) (graph : IsGraph plan paths targets) where
    target_of : (u : WorldOf S I R) (path : List ℕ) (target : Option ℕ) → LeadsTo plan paths path target → shown plan path ≡ Some u
        → (j : ℕ) × (j < length paths) × (shown_at plan paths j ≡ Some u)
    target_of u path None leads is = none-some u (sym leads.world ∙ is)
    target_of u path (Some j) leads is = (j, leads.node, sym leads.world ∙ is)

    next_node : (i p : ℕ) (w v : WorldOf S I R) → i < length paths → p < plan.n → shown_at plan paths i ≡ Some (without_counts w) → moved plan p w ≡ Some v
        → (j : ℕ) × (j < length paths) × (shown_at plan paths j ≡ Some (without_counts v))
    next_node i p w v node process is e =
        let positive : 0 < plan.n = omega arith in
        let at : (i * plan.n + p) / plan.n ≡ i = div-mul-add i plan.n p process in
        let below : i * plan.n + p < length paths * plan.n = (div-lt_iff_lt-mul positive).0 (subst (λ q. q < length paths) (sym at) node) in
        let all = graph.all in
        let leads = graph.part.edges (i * plan.n + p) (omega arith) in
        target_of (without_counts v) (path_of paths i ++ p ∷ []) (slice_index_or targets (i * plan.n + p) None)
        (subst (λ q. LeadsTo plan paths (path_of paths i ++ q ∷ []) (slice_index_or targets (i * plan.n + p) None)) (mod-mul-add i plan.n p process)
        (subst (λ q. LeadsTo plan paths (path_of paths q ++ ((i * plan.n + p) % plan.n) ∷ []) (slice_index_or targets (i * plan.n + p) None)) at leads))
        (shown-next (path_of paths i) p w (shown_at-path paths i (without_counts w) is) ∙ ap (option_map without_counts) e)

    reached : (path : List ℕ) (w : WorldOf S I R) (i : ℕ) → w.n ≡ plan.n → i < length paths → shown_at plan paths i ≡ Some (without_counts w)
        → IsSome (along plan (Some w) path) → (j : ℕ) × (j < length paths) × (shown_at plan paths j ≡ option_map without_counts (along plan (Some w) path))
    reached [] w i n node is some = (i, node, is)
    reached (p ∷ path) w i n node is some = by_event (moved plan p w) refl (λ v j. reached path v j) where
      by_event : (o : Option (WorldOf S I R)) → moved plan p w ≡ o
          → ((v : WorldOf S I R) (j : ℕ) → v.n ≡ plan.n → j < length paths → shown_at plan paths j ≡ Some (without_counts v) → IsSome (along plan (Some v) path)
          → (k : ℕ) × (k < length paths) × (shown_at plan paths k ≡ option_map without_counts (along plan (Some v) path)))
          → (j : ℕ) × (j < length paths) × (shown_at plan paths j ≡ option_map without_counts (along plan (moved plan p w) path))
      by_event None e later = absurd (let gone : IsSome {T = WorldOf S I R} None = subst (λ o. IsSome o) (ap (λ o. along plan o path) e ∙ along-none plan path) some in cc)
      by_event (Some v) e later =
          let took = moved-n p w v e in
          let inside : p < w.n = grind (arith, nat_tests) in
          let next = next_node i p w v node (subst (λ m. p < m) n inside) is e in
          subst (λ o. (j : ℕ) × (j < length paths) × (shown_at plan paths j ≡ option_map without_counts (along plan o path))) (sym e)
          (later v next.0 (took.0 ∙ n) next.1 next.2 (subst (λ o. IsSome (along plan o path)) e some))

    pub has_each_world : HasEachWorld plan paths
    has_each_world path some =
        reached path (opened_world plan.n plan.object.initial 1) 0 refl graph.part.some
        (sym (opened-at (slice_get paths 0) graph.part.opening (graph.part.worlds 0 graph.part.some))) some where
          opened-at : (o : Option (Vec ℕ Global)) → option_map_or (λ (path : Vec ℕ Global). path.items) o [] ≡ [] → IsSome (option_and_then (λ (path : Vec ℕ Global). shown plan path.items) o)
              → Some (without_counts (opened_world plan.n plan.object.initial 1)) ≡ option_and_then (λ (path : Vec ℕ Global). shown plan path.items) o
          opened-at None e world = absurd (cc)
          opened-at (Some v) e world = ap (shown plan) (sym e)
