-- What a hold of the lock tells.
use Rattle.std.specs.Prelude.{◌≡◌, ℕ, option_map}
use Rattle.seq_object.specs.declared.call_id.CallId.{CallId}
use Rattle.uni_model.specs.Stages.{Pending}
use Rattle.uni_model.specs.Worlds.{WorldOf, response_of_step}
use Rattle.uni_model.specs.Transition.{place_of}
use Rattle.uni_core.specs.World.{name_in}
use Rattle.uni_core.specs.Readers.{place_named}
use Rattle.uni_shared.specs.declared.held.Held.{Held}

-- it tells of a process, in this world, the own steps and turns of its latest call, and the place that its next step
-- touches
pub record Tells {S I R : Type 0} (w : WorldOf S I R) (p : ℕ) (held : Held R) : Type 0 where
  pub steps : held.steps ≡ w.steps p
  pub turns : held.turns ≡ w.turns p
  pub place : option_map (place_named (name_in w)) held.place
      ≡ option_map (λ (c : Pending). place_of w.n p c.mine c.stage) (w.call p)

-- its reply is the response of the step that the process of this call takes in this world: none where the step isn't
-- its last
abbrev pub Replies : {S I R : Type 0} → WorldOf S I R → CallId → Held R → Type 0
Replies w call held = held.reply ≡ response_of_step w call.process
