-- What is told of an event, by any world that is the same.
use Rattle.run_play.proofs.Vocabulary.{Call, Err, Event, Global, IsGraph, IsSome, Language, LeadsTo, List, None, Ok, OnOk, Option, Plan, Reshape, Result, Sequential, Some, Step, Steps, Trim, Vec, WorldOf, [], ap, arith, codes, edge_text, event_of, false, frame_at, frame_of, frame_shown, frame_text, is_some, length, memory_with, moved, option_and_then, option_map, option_map_or, path_of, refl, response_of_step, shown, shown_at, slice_index_or, step_text, stepped, subst, sym, world_after_step, world_at, ℕ, ◌%◌, ◌++◌, ◌/◌, ◌<◌, ◌∙◌, ◌∷◌, ◌≡◌}
use Rattle.std.proofs.Math.Nat.{div-lt_iff_lt-mul}
use Rattle.uni_model.specs.Stages.{Pending}
use Rattle.uni_model.specs.Transition.{place_of}
use Rattle.uni_core.specs.Readers.{kind_of}
use Rattle.uni_core.specs.Same.{without_counts}
use Rattle.run_replay.specs.Held.{alone, held}
use Rattle.run_replay.specs.Held.{proposal_of}
use Rattle.run_graph.proofs.Reached.{shown-next, shown_at-path, some-same}
use Rattle.run_replay.specs.declared.frame.Frame.{Frame as FrameOfCode}

module _ {S I R : Type 0} (object : Sequential S I R) (l : Language I R) (text : S → List ℕ) (to : ℕ) where
  stepped-memory : (w : WorldOf S I R) (p : ℕ) (c : Option Pending) → (world_after_step object w p c).memory ≡ (world_after_step object (without_counts w) p c).memory
  stepped-memory w p None = refl
  stepped-memory w p (Some c) = refl

  step_told : (w : WorldOf S I R) (p : ℕ) (call : Pending) → step_text to (stepped object l text w p call) ≡ step_text to (stepped object l text (without_counts w) p call)
  step_told w p call =
      let place = place_of w.n p call.mine call.stage in
      ap (λ m. step_text to (record {
        call = record { process = p; nth = 0 };
        kind = kind_of call.stage;
        before = alone [] [];
        after = held l text m place;
        proposed = option_map (λ v. held l text (memory_with w.memory place v) place) (proposal_of object call.stage w.memory);
        next = None;
        steps = 0;
        turns = 0;
        reply = option_map l.resp_text (response_of_step w p);
      })) (stepped-memory w p (w.call p))

  steps_told : (w : WorldOf S I R) (p : ℕ) (c : Option Pending)
      → option_map_or (frame_text to) (option_map (λ call. Steps (stepped object l text w p call)) c) (codes "null")
      ≡ option_map_or (frame_text to) (option_map (λ call. Steps (stepped object l text (without_counts w) p call)) c) (codes "null")
  steps_told w p None = refl
  steps_told w p (Some call) = step_told w p call

  frame_told : (w : WorldOf S I R) (o : Option (Event I)) → option_map_or (frame_text to) (option_and_then (frame_of object l text w) o) (codes "null")
      ≡ option_map_or (frame_text to) (option_and_then (frame_of object l text (without_counts w)) o) (codes "null")
  frame_told w None = refl
  frame_told w (Some (Call p i)) = refl
  frame_told w (Some (Step p)) = steps_told w p (w.call p)
  frame_told w (Some Trim) = refl
  frame_told w (Some (Reshape n)) = refl

module _ {S I R : Type 0} (plan : Plan S I R) (l : Language I R) (text : S → List ℕ) (to : ℕ) where
  -- what is told of the event of process p in a world
  abbrev told_in : WorldOf S I R → ℕ → List ℕ
  told_in w p = option_map_or (frame_text to) (option_and_then (frame_of plan.object l text w) (event_of plan w p)) (codes "null")

  told-same : (p : ℕ) (w v : WorldOf S I R) → without_counts w ≡ without_counts v → told_in w p ≡ told_in v p
  told-same p w v same =
      frame_told plan.object l text to w (event_of plan w p) ∙ ap (λ u. told_in u p) same ∙ sym (frame_told plan.object l text to v (event_of plan v p))

  -- the same at the end of a path
  pub told_at-path : (path : List ℕ) (p : ℕ) (w : WorldOf S I R) → shown plan path ≡ Some (without_counts w)
      → option_map_or (frame_text to) (frame_at plan l text path p) (codes "null") ≡ told_in w p
  told_at-path path p w is = read (world_at plan path) is where
    read : (o : Option (WorldOf S I R)) → option_map without_counts o ≡ Some (without_counts w)
        → option_map_or (frame_text to) (option_and_then (λ v. option_and_then (frame_of plan.object l text v) (event_of plan v p)) o) (codes "null") ≡ told_in w p
    read None e = absurd (cc)
    read (Some v) e = told-same p v w (some-same _ _ e)

module _ {S I R : Type 0} (plan : Plan S I R) (paths : List (Vec ℕ Global)) (targets : List (Option ℕ)) (graph : IsGraph plan paths targets) (k : ℕ) (inside : k < length targets) where
  -- the node of an edge
  pub node_below : 0 < plan.n → k / plan.n < length paths
  node_below positive = let all = graph.all in (div-lt_iff_lt-mul positive).1 (omega arith)

  leads : (to : ℕ) → slice_index_or targets k None ≡ Some to → LeadsTo plan paths (path_of paths (k / plan.n) ++ (k % plan.n) ∷ []) (Some to)
  leads to is = subst (LeadsTo plan paths (path_of paths (k / plan.n) ++ (k % plan.n) ∷ [])) is (graph.part.edges k inside)

  -- its target
  pub target_below : (to : ℕ) → slice_index_or targets k None ≡ Some to → to < length paths
  target_below to is = (leads to is).node

  -- the world after the event of an edge is that of its target
  pub shown-target : (to : ℕ) (w v : WorldOf S I R) → slice_index_or targets k None ≡ Some to → shown_at plan paths (k / plan.n) ≡ Some (without_counts w)
      → moved plan (k % plan.n) w ≡ Some v → shown_at plan paths to ≡ Some (without_counts v)
  shown-target to w v is told moves =
      sym (leads to is).world ∙ shown-next plan (path_of paths (k / plan.n)) (k % plan.n) w (shown_at-path plan paths (k / plan.n) (without_counts w) told)
      ∙ ap (option_map without_counts) moves

map_or_mapped : {A B C : Type 0} (f : B → C) (h : A → B) (d : C) (o : Option A) → option_map_or f (option_map h o) d ≡ option_map_or (λ x. f (h x)) o d
map_or_mapped f h d None = refl
map_or_mapped f h d (Some x) = refl

-- the text of an edge, by what the event of its process does in a world of its node
pub edge_told : {S I R : Type 0} (plan : Plan S I R) (l : Language I R) (text : S → List ℕ) (paths : List (Vec ℕ Global)) (k to : ℕ) (w : WorldOf S I R) (o : Option FrameOfCode)
    → shown_at plan paths (k / plan.n) ≡ Some (without_counts w) → option_map frame_shown o ≡ option_and_then (frame_of plan.object l text w) (event_of plan w (k % plan.n))
    → edge_text plan l text paths k (Some to) ≡ option_map_or (λ f. frame_text to (frame_shown f)) o (codes "null")
edge_told plan l text paths k to w o shown is =
    told_at-path plan l text to (path_of paths (k / plan.n)) (k % plan.n) w (shown_at-path plan paths (k / plan.n) (without_counts w) shown)
    ∙ ap (λ f. option_map_or (frame_text to) f (codes "null")) (sym is) ∙ map_or_mapped (frame_text to) frame_shown (codes "null") o

-- what holds anyway holds of an answer that is Ok
pub OnOk-all : {A E : Type 0} (r : Result A E) (P : Type 0) → P → OnOk r P
OnOk-all (Ok a) P p = p
OnOk-all (Err e) P p = tt

-- where something is mapped, there is something, and where nothing is, there is nothing
pub some_mapped : {A B : Type 0} (f : A → B) (o : Option A) (b : B) → Some b ≡ option_map f o → IsSome o
some_mapped f None b e = absurd (cc)
some_mapped f (Some a) b e = refl

pub none_mapped : {A B : Type 0} (f : A → B) (o : Option A) → is_some (option_map f o) ≡ false → o ≡ None
none_mapped f None e = refl
none_mapped f (Some a) e = absurd (cc)
