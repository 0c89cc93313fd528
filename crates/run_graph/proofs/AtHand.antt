-- Worlds at hand.
use Rattle.run_graph.proofs.Vocabulary.{Anchor, AreAtHand, Global, IfSome, IsKept, IsTaken, IsTold, List, None, Option, Plan, Sequential, Some, Vec, WorldParts, WorldOf, [], ap, arith, cases_eq, cases_lt, get_or, inl, inr, length, length-append, list_at, moved, new_of, option_and_then, option_map_or, path_of, plan_of, refl, shown, shown_at, slice_get, slice_get_past, subst, suc, sym, without_counts, world_at, world_of, zero, ℕ, ◌++◌, ◌<◌, ◌∙◌, ◌∷◌, ◌≡◌, ◌≤◌, ◌⊎◌}
use Rattle.std.proofs.Common.{option_map}
use Rattle.std.proofs.lemmas.List.Elements.{All-head, All-nil, All-pop, All-push, All-tail}
use Rattle.std.specs.List.{All}
use Rattle.run_graph.proofs.Reached.{shown-next, shown_at-path, some-same}
use Rattle.run_graph.proofs.Parts.{shown_at-found, slice_get-left}

list_at-past : {T : Type 0} (lists : List (Vec T Global)) (i : ℕ) → length lists ≤ i → list_at lists i ≡ []
list_at-past lists i past = ap (λ o. option_map_or (λ (here : Vec _ Global). here.items) o []) (slice_get_past lists i past)

All-slice_get : {T : Type 0} (P : T → Type 0) (xs : List T) (k : ℕ) (x : T) → slice_get xs k ≡ Some x → All P xs → P x
All-slice_get P [] k x is all = absurd (cc)
All-slice_get P (y ∷ xs) zero x is all = subst P (some-same y x is) (All-head P y xs all)
All-slice_get P (y ∷ xs) (suc k) x is all = All-slice_get P xs k x is (All-tail P y xs all)

-- an empty list more
pub list_at-grown : {T : Type 0} (lists : List (Vec T Global)) (v : Vec T Global) (i : ℕ) → v.items ≡ [] → list_at (lists ++ v ∷ []) i ≡ list_at lists i
list_at-grown [] v zero empty = empty
list_at-grown [] v (suc i) empty = refl
list_at-grown (x ∷ xs) v zero empty = refl
list_at-grown (x ∷ xs) v (suc i) empty = list_at-grown xs v i empty

module _ {O S I R : Type 0} (object : O) (plan : Plan S I R) (paths : List (Vec ℕ Global)) where
  abbrev Told : ℕ → WorldParts O S I R → Type 0
  Told i = IsTold object plan.object.initial (shown_at plan paths i)

  -- a world at hand of node j
  pub IsTold-at : (worlds : List (Vec (WorldParts O S I R) Global)) (j k : ℕ) (v : Vec (WorldParts O S I R) Global) (w : WorldParts O S I R) → slice_get worlds j ≡ Some v → slice_get v.items k ≡ Some w
      → AreAtHand object plan paths worlds → Told j w
  IsTold-at worlds j k v w here there hand =
      All-slice_get (Told j) v.items k w there (subst (λ o. All (Told j) (option_map_or (λ (here : Vec (WorldParts O S I R) Global). here.items) o [])) here (hand.each j))

  -- a world that the replay of a node's path answers
  pub IsTold-replayed : (i : ℕ) (path : Vec ℕ Global) (o : Option (WorldParts O S I R)) (w : WorldParts O S I R) → o ≡ Some w → i < length paths → path ≡ get_or paths i path
      → world_at plan path.items ≡ option_map world_of o → IfSome o (λ (u : WorldParts O S I R). u.object ≡ object)
      → IfSome o (λ (u : WorldParts O S I R). new_of (world_of u).memory Anchor ≡ Some (plan.object.initial, None)) → Told i w
  IsTold-replayed i path o w is below read at same anchored = record {
    object = subst (λ o. IfSome o (λ (u : WorldParts O S I R). u.object ≡ object)) is same;
    anchor = subst (λ o. IfSome o (λ (u : WorldParts O S I R). new_of (world_of u).memory Anchor ≡ Some (plan.object.initial, None))) is anchored;
    world = shown_at-found plan paths i path (world_of w) (world_of w) below read (at ∙ ap (option_map world_of) is) refl;
  }

  pub AreAtHand-none : (worlds : List (Vec (WorldParts O S I R) Global)) → length worlds ≡ length paths → ((i : ℕ) → list_at worlds i ≡ []) → AreAtHand object plan paths worlds
  AreAtHand-none worlds count none = record { count = count; each = λ i. subst (All (Told i)) (sym (none i)) (All-nil (Told i)) }

  -- a world more at node j
  pub AreAtHand-kept : (j : ℕ) (w : WorldParts O S I R) (old new : List (Vec (WorldParts O S I R) Global)) → IsKept j w old new → Told j w
      → AreAtHand object plan paths old → AreAtHand object plan paths new
  AreAtHand-kept j w old new kept told hand = record { count = kept.long ∙ hand.count; each = λ i. at i (cases_eq i j) } where
    at : (i : ℕ) → (i ≡ j) ⊎ (i ≡ j → ⊥) → All (Told i) (list_at new i)
    at i (inl here) = subst (λ k. All (Told k) (list_at new k)) (sym here) (subst (All (Told j)) (sym kept.here) (All-push (Told j) (list_at old j) w (hand.each j) told))
    at i (inr other) = subst (All (Told i)) (sym (kept.others i other)) (hand.each i)

  -- a world of node j was taken, if there was one
  pub AreAtHand-taken : (j : ℕ) (o : Option (WorldParts O S I R)) (old new : List (Vec (WorldParts O S I R) Global)) → IsTaken j o old new
      → AreAtHand object plan paths old → AreAtHand object plan paths new
  AreAtHand-taken j o old new taken hand = record { count = taken.long ∙ hand.count; each = λ i. at i (cases_eq i j) } where
    at : (i : ℕ) → (i ≡ j) ⊎ (i ≡ j → ⊥) → All (Told i) (list_at new i)
    at i (inl here) = subst (λ k. All (Told k) (list_at new k)) (sym here) (All-pop (Told j) (list_at old j) (list_at new j) o taken.here (hand.each j)).0
    at i (inr other) = subst (All (Told i)) (sym (taken.others i other)) (hand.each i)

  pub IsTold-taken : (j : ℕ) (o : Option (WorldParts O S I R)) (old new : List (Vec (WorldParts O S I R) Global)) → IsTaken j o old new
      → AreAtHand object plan paths old → IfSome o (Told j)
  IsTold-taken j o old new taken hand = (All-pop (Told j) (list_at old j) (list_at new j) o taken.here (hand.each j)).1

  -- a node more, with no world at hand
  pub AreAtHand-grown : (path : Vec ℕ Global) (worlds : List (Vec (WorldParts O S I R) Global)) (none : Vec (WorldParts O S I R) Global) → none.items ≡ []
      → AreAtHand object plan paths worlds → AreAtHand object plan (paths ++ path ∷ []) (worlds ++ none ∷ [])
  AreAtHand-grown path worlds none empty hand = record {
    count = let count = hand.count in omega (arith, length-append worlds (none ∷ []), length-append paths (path ∷ []));
    each = λ i. subst (All (IsTold object plan.object.initial (shown_at plan (paths ++ path ∷ []) i))) (sym (list_at-grown worlds none i empty)) (at i (cases_lt i (length paths)));
  } where
    at : (i : ℕ) → (i < length paths) ⊎ (length paths ≤ i) → All (IsTold object plan.object.initial (shown_at plan (paths ++ path ∷ []) i)) (list_at worlds i)
    at i (inl below) = subst (λ told. All (IsTold object plan.object.initial told) (list_at worlds i))
        (sym (ap (option_and_then (λ (v : Vec ℕ Global). shown plan v.items)) (slice_get-left paths (path ∷ []) i below))) (hand.each i)
    at i (inr past) = let count = hand.count in subst (All (IsTold object plan.object.initial (shown_at plan (paths ++ path ∷ []) i))) (sym (list_at-past worlds i (omega arith))) (All-nil _)

-- what is shown after an event of a world that is told at node i
pub shown-taken : {O S I R : Type 0} (sequential : O → Sequential S I R) (object : O) (n n' row : ℕ) (calls : List (Vec I Global)) (paths : List (Vec ℕ Global)) (i p : ℕ) (w : WorldParts O S I R) (o : Option (WorldOf S I R))
    → IsTold object (sequential object).initial (shown_at (plan_of (sequential object) n row calls) paths i) w → moved (plan_of (sequential w.object) n' row calls) p (world_of w) ≡ o
    → shown (plan_of (sequential object) n row calls) (path_of paths i ++ p ∷ []) ≡ option_map without_counts o
shown-taken sequential object n n' row calls paths i p w o told is =
    let plan = plan_of (sequential object) n row calls in
    shown-next plan (path_of paths i) p (world_of w) (shown_at-path plan paths i (without_counts (world_of w)) told.world)
    ∙ ap (option_map without_counts) (sym (ap (λ x. moved (plan_of (sequential x) n row calls) p (world_of w)) told.object) ∙ is)
