-- Steps of a process until its call returns.
use Rattle.uni_script.proofs.Vocabulary.{CountsSteps-world_after, Event, HelpingInvariant, HelpingInvariant-world_after, IsBounded-held, IsReached, IsSome, IsWithinBound, KeepsOpening, List, None, Option, Recording, Sequential, Session, Some, SpokenObject, Step, WorldOf, [], ap, append-nil, append_assoc, arith, event_shown, events_shown, false, last_step, map-append, most_steps, progress_of, refl, replicate-append-replicate, response_after, response_of_step, session_after, session_of, steps_of, steps_taken, subst, suc, sym, true, world_after, world_after_all, world_of, zero, ℕ, ◌++◌, ◌+◌, ◌-◌, ◌<◌, ◌∙◌, ◌∷◌, ◌≡◌, ◌≤◌}
use Rattle.uni_model.specs.Stages.{Pending}
use Rattle.uni_model.specs.Counting.{CountsSteps}
use Rattle.uni_model.proofs.LawProofs.{CountsSteps-reached}
use Rattle.uni_model.proofs.Runs.{world_after_all-append}
use Rattle.uni_core.specs.declared.fault.Progress.{Progress}
use Rattle.uni_core.specs.declared.fault.Progress.TheVariants.{Going, Done}
use Rattle.uni_record.specs.declared.event.Event.{Event as Stored}
use Rattle.uni_script.proofs.Helped.{n-world_after_step, steps-world_after_step, pending-world_after_step, HelpingInvariant-reached}

-- a step that answers `Going` has no response
pub none-from_Going : {R : Type 0} (o : Option R) (progress : Progress R) → progress ≡ Going → progress ≡ progress_of o → o ≡ None
none-from_Going None progress e f = refl
none-from_Going (Some r) progress e f = cc

-- a step that answers `Done` has its response
pub some-from_Done : {R : Type 0} (o : Option R) (r : R) (progress : Progress R) → progress ≡ Done r → progress ≡ progress_of o → o ≡ Some r
some-from_Done None r progress e f = cc
some-from_Done (Some q) r progress e f = cc

pub session_is : {S I R : Type 0} (b c : Session S I R) → b.processes ≡ c.processes → b.first ≡ c.first → b.row ≡ c.row → b.limit ≡ c.limit → b.events ≡ c.events → b.world ≡ c.world → b ≡ c
session_is b c p f r l e w =
    let g : record { processes = b.processes; first = b.first; row = b.row; limit = b.limit; events = b.events; world = b.world }
    ≡ record { processes = c.processes; first = c.first; row = c.row; limit = c.limit; events = c.events; world = c.world } = cc in g

module _ {S I R : Type 0} (o : SpokenObject S I R) where
  pub session_after-none : (b : Session S I R) → session_after o b [] ≡ b
  session_after-none b = session_is _ _ refl refl refl refl (append-nil b.events) refl

  pub session_after-append : (b : Session S I R) (es fs : List (Event I)) → session_after o (session_after o b es) fs ≡ session_after o b (es ++ fs)
  session_after-append b es fs = session_is _ _ refl refl refl refl (append_assoc b.events es fs) (sym (world_after_all-append o.object b.world es fs))

  -- a record with one event more
  pub session_of-event : {O : Type 0} (r r' : Recording O S I R) (e : Stored I) → KeepsOpening r r' → r'.events ≡ r.events ++ e ∷ [] → world_of r'.world ≡ world_after o.object (world_of r.world) (event_shown e)
      → session_of r' ≡ session_after o (session_of r) (event_shown e ∷ [])
  session_of-event r r' e fixed events world = session_is _ _ fixed.processes fixed.first fixed.row fixed.limit (ap events_shown events ∙ map-append event_shown r.events (e ∷ [])) world

module _ {S I R : Type 0} (o : SpokenObject S I R) (p : ℕ) where
  module _ (w : WorldOf S I R) where
    last_step-some : (m : ℕ) (r : R) → last_step o w p m ≡ None → response_after o w p m ≡ Some r → last_step o w p (suc m) ≡ Some (record { earlier = m; response = r })
    last_step-some m r none some = rw none (rw some refl)

    last_step-none : (m : ℕ) → last_step o w p m ≡ None → response_after o w p m ≡ None → last_step o w p (suc m) ≡ None
    last_step-none m none silent = rw none (rw silent refl)

    last_step-stays : (k m n : ℕ) → n ≡ k + m → (x : _) → last_step o w p m ≡ Some x → last_step o w p n ≡ Some x
    last_step-stays zero m n is x some = let e : n ≡ m = omega arith in rw e some
    last_step-stays (suc k) m n is x some = let e : n ≡ suc (k + m) = omega arith in rw e (rw (last_step-stays k m (k + m) refl x some) refl)

  -- Of the most steps that a process may take, it has taken so many, which have led from b to now; its call is still pending.
  pub record IsOnTheWay (b : Session S I R) (most count : ℕ) (now : Session S I R) : Type 0 where
    pub few : count ≤ most
    pub after : now ≡ session_after o b (steps_of p count)
    pub n : now.world.n ≡ b.world.n
    pub steps : now.world.steps p ≡ b.world.steps p + count
    pub pending : IsSome (now.world.call p)
    pub none : last_step o b.world p count ≡ None
    pub counts : CountsSteps now.world
    pub helping : HelpingInvariant o.object now.world

  module _ (b : Session S I R) (most : ℕ) where
    pub IsOnTheWay-start : IsReached o.object b.world → IsSome (b.world.call p) → IsOnTheWay b most 0 b
    IsOnTheWay-start reached pending = record {
      few = omega arith;
      after = sym (session_after-none o b);
      n = refl;
      steps = omega arith;
      pending = pending;
      none = refl;
      counts = CountsSteps-reached o.object b.world reached;
      helping = HelpingInvariant-reached o p b.world reached;
    }

    module _ (count : ℕ) (now : Session S I R) (on : IsOnTheWay b most count now) where
      one_more : count + 1 ≡ suc count
      one_more = omega arith

      response_now : (r : Option R) → response_of_step now.world p ≡ r → response_after o b.world p count ≡ r
      response_now r is = ap (λ (c : Session S I R). response_of_step c.world p) (sym on.after) ∙ is

      steps_more : session_after o now (Step p ∷ []) ≡ session_after o b (steps_of p (count + 1))
      steps_more = ap (λ c. session_after o c (Step p ∷ [])) on.after ∙ session_after-append o b (steps_of p count) (Step p ∷ []) ∙ ap (session_after o b) (replicate-append-replicate count 1 (Step p))

      module _ (further : count < most) (next : Session S I R) (is : next ≡ session_after o now (Step p ∷ [])) where
        world_is : next.world ≡ world_after o.object now.world (Step p)
        world_is = ap (λ (c : Session S I R). c.world) is

        -- a step that goes on
        pub IsOnTheWay-going : response_of_step now.world p ≡ None → IsOnTheWay b most (count + 1) next
        IsOnTheWay-going silent = record {
          few = omega arith;
          after = is ∙ steps_more;
          n = ap (λ (v : WorldOf S I R). v.n) world_is ∙ n-world_after_step o.object now.world p ∙ on.n;
          steps = (let one = steps-world_after_step o.object now.world p on.pending in let before = on.steps in
              let same : next.world.steps p ≡ (world_after o.object now.world (Step p)).steps p = ap (λ (v : WorldOf S I R). v.steps p) world_is in omega arith);
          pending = subst (λ (v : WorldOf S I R). IsSome (v.call p)) (sym world_is) (pending-world_after_step o p now.world on.pending on.helping silent);
          none = (let next_none = last_step-none b.world count on.none (response_now None silent) in rw one_more next_none);
          counts = subst CountsSteps (sym world_is) (CountsSteps-world_after o.object now.world (Step p) on.pending (on.helping.0, on.helping.1, on.helping.2) on.counts);
          helping = subst (HelpingInvariant o.object) (sym world_is) (HelpingInvariant-world_after o.object now.world (Step p) on.pending on.counts on.helping);
        }

        -- a step with a response is the last one
        pub last_step-done : (r : R) → response_of_step now.world p ≡ Some r → last_step o b.world p most ≡ Some (record { earlier = count; response = r })
        last_step-done r some = last_step-stays b.world (most - suc count) (suc count) most (omega arith) _ (last_step-some b.world count r on.none (response_now (Some r) some))

        pub session-done : (r : R) → response_of_step now.world p ≡ Some r → next ≡ session_after o b (steps_of p (steps_taken most (last_step o b.world p most)))
        session-done r some = is ∙ steps_more ∙ ap (λ last. session_after o b (steps_of p (steps_taken most last))) (sym (last_step-done r some))

      -- no step is left
      pub last_step-stopped : most ≤ count → last_step o b.world p most ≡ None
      last_step-stopped all = let few = on.few in let same : most ≡ count = omega arith in rw same on.none

      pub session-stopped : most ≤ count → now ≡ session_after o b (steps_of p (steps_taken most (last_step o b.world p most)))
      session-stopped all =
          let few = on.few in
          let same : count ≡ most = omega arith in
          on.after ∙ ap (λ k. session_after o b (steps_of p k)) same ∙ ap (λ last. session_after o b (steps_of p (steps_taken most last))) (sym (last_step-stopped all))

      -- a call that is on its way is within the bound
      pub IsOnTheWay-few : count < most_steps b.world.n
      IsOnTheWay-few = at (now.world.call p) on.pending (IsBounded-held o.object now.world on.counts on.helping p)
        where
          at : (call : Option Pending) → IsSome call → IsWithinBound now.world.n call (now.world.begun p) (now.world.among p) (now.world.steps p) (now.world.turns p) → count < most_steps b.world.n
          at None h bound = absurd (let e : false ≡ true = h in cc)
          at (Some call) h bound =
              let within : now.world.steps p < most_steps now.world.n = bound.2 in
              let same : now.world.n ≡ b.world.n = on.n in
              let steps : now.world.steps p ≡ b.world.steps p + count = on.steps in
              omega arith
