-- What a step pays: an event of those that are set aside, and where the call returns, its place among the pending calls.
use Rattle.uni_record.proofs.Vocabulary.{Completed, Content, IsBounded, IsSome, List, Memory, Name, None, Option, Pending, Sequential, Some, Stage, Step, WorldOf, arith, completed_by, current_of, length, option_and_then, option_map, option_to_list, pending_count, refl, response_after, response_of_step, set_aside, stage_after, subst, sym, world_after, world_after_step, ℕ, ◌*◌, ◌+◌, ◌-◌, ◌<◌, ◌≡◌, ◌≤◌}
use Rattle.uni_model.specs.Stages.Stage.{Finish}
use Rattle.uni_model.specs.Transition.{place_of}
use Rattle.uni_model.specs.Effects.{effect_in, call_after}
use Rattle.uni_record.proofs.Owed.{weight, weight-le, owed-stepped, set_at_here}

-- how many calls these responses complete
abbrev completions : {A R : Type 0} → Option A → (A → R → Completed R) → Option R → ℕ
completions call make response = length (option_to_list (option_and_then (λ id. option_map (make id) response) call))

-- a step has a response, or leaves its call pending, and not both
one_or_other : {S I R A : Type 0} (n : ℕ) (mine : Name) (stage : Stage) (v : Content S I R) (seen : Memory S I R) (call : Option A) (make : A → R → Completed R) (steps : ℕ)
    → completions call make (response_after mine stage seen) + weight (λ steps. 1) (call_after mine (stage_after n mine stage v)) steps ≤ 1
one_or_other {R = R} {A = A} n mine (Finish c_seq mine_seq) v seen call make steps = let few = at_most_one call (response_after mine (Finish c_seq mine_seq) seen) in omega arith where
  at_most_one : (o : Option A) (r : Option R) → completions o make r ≤ 1
  at_most_one None r = omega arith
  at_most_one (Some id) None = omega arith
  at_most_one (Some id) (Some r) = omega arith
one_or_other {R = R} {A = A} n mine stage v seen call make steps = let none = nothing call in omega arith where
  nothing : (o : Option A) → completions o make None ≡ 0
  nothing None = refl
  nothing (Some id) = refl

-- Of a step of a process whose call is pending: what is set aside falls by one at least, and what it completes was a pending call.
pub record Pays {S I R : Type 0} (w v : WorldOf S I R) (completed : List (Completed R)) : Type 0 where
  pub events : set_aside v + 1 ≤ set_aside w
  pub returns : length completed + pending_count v ≤ pending_count w

module _ {S I R : Type 0} (object : Sequential S I R) (w : WorldOf S I R) (p : ℕ) where
  pays : (c : Pending) → p < w.n → w.call p ≡ Some c → w.steps p < 10 * w.n + 12 → Pays w (world_after_step object w p (Some c)) (option_to_list (completed_by object w (Step p)))
  pays c inside is bound =
      let v = world_after_step object w p (Some c) in
      let left = λ (steps : ℕ). 10 * w.n + 12 - steps in
      let aside : set_aside v + left (w.steps p) ≡ set_aside w + weight left (v.call p) (w.steps p + 1) = owed-stepped left w object p c inside is in
      let aside_then : weight left (v.call p) (w.steps p + 1) ≤ left (w.steps p + 1) = weight-le left (v.call p) (w.steps p + 1) in
      let count : pending_count v + 1 ≡ pending_count w + weight (λ steps. 1) (v.call p) (w.steps p + 1) = owed-stepped (λ steps. 1) w object p c inside is in
      let place = place_of w.n p c.mine c.stage in
      let after = world_after object w (Step p) in
      let once = one_or_other w.n c.mine c.stage (w.memory place) w.memory (current_of w p) (λ id reply. record { returned = record { call = id; reply = reply }; counts = record { steps = after.steps p; turns = after.turns p } }) (w.steps p + 1) in
      let here : v.call p ≡ call_after c.mine (effect_in object w p c).stage = set_at_here w.call p _ in
      let response : response_of_step w p ≡ response_after c.mine c.stage w.memory = rw is refl in
      let once' = rw (← here, ← response) at once in
      record { events = omega (arith, aside, aside_then, bound); returns = omega (arith, count, once') }

  pub step_pays : IsBounded w → p < w.n → IsSome (w.call p) → Pays w (world_after object w (Step p)) (option_to_list (completed_by object w (Step p)))
  step_pays bounded inside some = by_call (w.call p) refl some where
    by_call : (o : Option Pending) → w.call p ≡ o → IsSome o → Pays w (world_after object w (Step p)) (option_to_list (completed_by object w (Step p)))
    by_call None e some = cc
    by_call (Some c) e some =
        let within = bounded p in
        let bound : w.steps p < 10 * w.n + 12 = (rw e at within).2 in
        let paid = pays c inside e bound in
        subst (λ o. Pays w (world_after_step object w p o) (option_to_list (completed_by object w (Step p)))) (sym e) paid

-- a step leaves as many processes
pub n_after_step : {S I R : Type 0} (object : Sequential S I R) (w : WorldOf S I R) (p : ℕ) → (world_after object w (Step p)).n ≡ w.n
n_after_step object w p = by_call (w.call p) where
  by_call : (o : Option Pending) → (world_after_step object w p o).n ≡ w.n
  by_call None = refl
  by_call (Some c) = refl
