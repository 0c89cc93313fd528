-- What a hold of the lock leaves, and what it is refused for.
use Rattle.uni_shared.proofs.Vocabulary.{IsSome, None, Option, Sequential, Some, WorldOf, ap, arith, current_of, option_map, refl, subst, world_after, world_after_call, ℕ, ◌-◌, ◌∙◌, ◌≡◌, ◌≤◌}
use Rattle.seq_object.specs.declared.call_id.CallId.{CallId}
use Rattle.uni_model.specs.Stages.{Pending}
use Rattle.uni_model.specs.Worlds.Event.{Step}
use Rattle.uni_model.specs.Invariant.{Invariant}
use Rattle.uni_model.specs.Places.Name.{Of}
use Rattle.uni_model.specs.Stages.Stage.{Announce}
use Rattle.uni_model.specs.Transition.{place_of}
use Rattle.uni_model.proofs.Simulation.{set_at_same}
use Rattle.uni_shared.specs.declared.held.Held.{Held}
use Rattle.uni_shared.specs.Held.{Tells}

-- a process that isn't there has no call pending
pub current_of-past : {S I R : Type 0} (object : Sequential S I R) (w : WorldOf S I R) (p : ℕ) (call : CallId) → Invariant object w → w.n ≤ p → current_of w p ≡ Some call → ⊥
current_of-past object w p call sound past is = by_call (w.call p) refl is where
  by_call : (o : Option Pending) → w.call p ≡ o → option_map (λ (c : Pending). let i : CallId = record { process = p; nth = w.begun p - 1 } in i) o ≡ Some call → ⊥
  by_call None none there = cc
  by_call (Some c) some there = let below = sound.2.calls.process p c some in omega arith

-- a step of the same process
pub world_after-same : {S I R : Type 0} (object : Sequential S I R) (w v : WorldOf S I R) (p q : ℕ) → p ≡ q → v ≡ world_after object w (Step p) → v ≡ world_after object w (Step q)
world_after-same object w v p q same is = subst (λ p. v ≡ world_after object w (Step p)) same is

IsSome-mapped : {A B : Type 0} (f : A → B) (o : Option A) (b : B) → option_map f o ≡ Some b → IsSome o
IsSome-mapped f None b is = cc
IsSome-mapped f (Some a) b is = refl

-- a call that has begun has a next step
pub IsSome-place : {S I R : Type 0} (w v : WorldOf S I R) (p : ℕ) (i : I) (held : Held R) → v ≡ world_after_call w p i → Tells v p held → IsSome held.place
IsSome-place w v p i held is tells =
    let call : Pending = record { mine = Of p (w.begun p); stage = Announce } in
    let began : v.call p ≡ Some call = ap (λ (x : WorldOf _ _ _). x.call p) is ∙ set_at_same w.call p (Some call) in
    IsSome-mapped _ held.place _ (tells.place ∙ ap (option_map (λ (c : Pending). place_of v.n p c.mine c.stage)) began)
