-- What a step comes to, in one record.
use Rattle.std.specs.Prelude.{ℕ, Option, option_map}
use Rattle.seq_object.specs.Sequential.{Sequential}
use Rattle.uni_model.specs.Places.{Name, Content, Memory}
use Rattle.uni_model.specs.Stages.{Stage, Pending}
use Rattle.uni_model.specs.Transition.{place_of, stage_after, content_after}
use Rattle.uni_model.specs.Worlds.{WorldOf}

-- a call that is pending at its next stage, if there is one
abbrev pub call_after : Name → Option Stage → Option Pending
call_after mine stage = option_map (λ k. record { mine = mine; stage = k }) stage

-- what the place of a step contains then, and where its process stands
pub record Effect (S I R : Type 0) : Type 0 where
  pub content : Content S I R
  pub stage : Option Stage

-- the step of a process whose cell is mine, where its place contains v in the memory m
abbrev pub effect_of : {S I R : Type 0} → Sequential S I R → (n : ℕ) → (mine : Name) → Stage → (v : Content S I R)
    → Memory S I R → Effect S I R
effect_of object n mine stage v m = record { content = content_after object mine stage v m; stage = stage_after n mine stage v }

-- the next step of a process whose call is pending
abbrev pub effect_in : {S I R : Type 0} → Sequential S I R → WorldOf S I R → ℕ → Pending → Effect S I R
effect_in object w p call = effect_of object w.n call.mine call.stage (w.memory (place_of w.n p call.mine call.stage)) w.memory
