-- A call that is pending, by what every run keeps.
use Rattle.uni_script.proofs.Vocabulary.{CountsSteps-opened_world, HelpingInvariant, HelpingInvariant-opened_world, HelpingInvariant-world_after_all, IsReached, IsRecording, IsSome, Name, None, Option, Recording, Sequential, Some, SpokenObject, Step, WorldOf, ap, events_shown, false, meaning, opened_world, option_and_then, refl, response_of_step, seq_of, subst, sym, true, world_after, world_after_step, world_of, ℕ, ◌+◌, ◌∙◌, ◌≡◌, ◌≤◌}
use Rattle.uni_model.specs.Places.Name.{Of}
use Rattle.uni_model.specs.Stages.{Stage, Pending}
use Rattle.uni_model.specs.Stages.Stage.{Announce, ScanHead, ScanSeq, WriteScan, Test, ReadAnnounce, ReadHelpSeq, DecideAfter, DecideNew, WriteBefore, WriteSeq, WriteHead, Finish}
use Rattle.uni_model.specs.Transition.{place_of, stage_after, response_after}
use Rattle.uni_model.specs.Chain.{response_in}
use Rattle.uni_model.specs.Effects.{call_after}
use Rattle.uni_model.proofs.Simulation.{set_at_same}
use Rattle.uni_model.proofs.Values.{response-settled}

-- a step leaves the number of processes
pub n-world_after_step : {S I R : Type 0} (object : Sequential S I R) (w : WorldOf S I R) (p : ℕ) → (world_after object w (Step p)).n ≡ w.n
n-world_after_step object w p = at (w.call p)
  where
    at : (call : Option Pending) → (world_after_step object w p call).n ≡ w.n
    at None = refl
    at (Some call) = refl

-- a step of a call that is pending is counted
pub steps-world_after_step : {S I R : Type 0} (object : Sequential S I R) (w : WorldOf S I R) (p : ℕ) → IsSome (w.call p) → (world_after object w (Step p)).steps p ≡ w.steps p + 1
steps-world_after_step object w p pending = at (w.call p) pending
  where
    at : (call : Option Pending) → IsSome call → (world_after_step object w p call).steps p ≡ w.steps p + 1
    at None h = absurd (let e : false ≡ true = h in cc)
    at (Some call) h = set_at_same w.steps p (w.steps p + 1)

-- the world of a record is reached
pub IsReached-IsRecording : {O S I R : Type 0} (sequential : O → Sequential S I R) (r : Recording O S I R) → IsRecording sequential r → IsReached (meaning sequential r) (world_of r.world)
IsReached-IsRecording sequential r is = record { n = r.processes; start = (meaning sequential r).initial; number = r.first; events = events_shown r.events; positive = is.positive; accepted = is.accepted; reached = sym is.replay }

module _ {S I R : Type 0} (o : SpokenObject S I R) (p : ℕ) where
  -- where a process stands after a step without a response
  stands_somewhere : (w : WorldOf S I R) (mine : Name) (stage : Stage) → w.call p ≡ Some (record { mine = mine; stage = stage }) → HelpingInvariant o.object w
      → response_after mine stage w.memory ≡ None → IsSome (call_after mine (stage_after w.n mine stage (w.memory (place_of w.n p mine stage))))
  stands_somewhere w mine Announce is inv none = refl
  stands_somewhere w mine (ScanHead q best best_seq) is inv none = refl
  stands_somewhere w mine (ScanSeq q best best_seq h) is inv none = refl
  stands_somewhere w mine (WriteScan best best_seq) is inv none = refl
  stands_somewhere w mine (Test c c_seq) is inv none = refl
  stands_somewhere w mine (ReadAnnounce c c_seq) is inv none = refl
  stands_somewhere w mine (ReadHelpSeq c c_seq help) is inv none = refl
  stands_somewhere w mine (DecideAfter c c_seq prefer) is inv none = refl
  stands_somewhere w mine (DecideNew c c_seq d) is inv none = refl
  stands_somewhere w mine (WriteBefore c c_seq d) is inv none = refl
  stands_somewhere w mine (WriteSeq c c_seq d) is inv none = refl
  stands_somewhere w mine (WriteHead c c_seq d) is inv none = refl
  stands_somewhere w mine (Finish c_seq mine_seq) is inv none =
      let here = inv.2.stands p (record { mine = mine; stage = Finish c_seq mine_seq }) is in
      let its = inv.2.calls.mine p (record { mine = mine; stage = Finish c_seq mine_seq }) is in
      let threaded : 1 ≤ seq_of w.memory (Of p its.0) = subst (λ x. 1 ≤ seq_of w.memory x) its.1 (subst (λ k. 1 ≤ k) (sym here.2) here.1) in
      let settled = response-settled o.object w.memory inv.0 inv.2.values inv.2.back p its.0 threaded in
      let found : response_in w.memory mine ≡ Some settled.0 = ap (response_in w.memory) its.1 ∙ settled.1 in
      absurd (let bad : None ≡ Some settled.0 = sym none ∙ found in cc)

  -- a step without a response leaves the call pending
  pub pending-world_after_step : (w : WorldOf S I R) → IsSome (w.call p) → HelpingInvariant o.object w → response_of_step w p ≡ None → IsSome ((world_after o.object w (Step p)).call p)
  pending-world_after_step w pending inv none = at (w.call p) refl pending
    where
      at : (call : Option Pending) → w.call p ≡ call → IsSome call → IsSome ((world_after o.object w (Step p)).call p)
      at None is h = absurd (let e : false ≡ true = h in cc)
      at (Some c) is h =
          let silent : response_after c.mine c.stage w.memory ≡ None =
          sym (ap (option_and_then (λ (x : Pending). response_after x.mine x.stage w.memory)) is) ∙ none in
          rw is (subst (λ x. IsSome x) (sym (set_at_same w.call p _)) (stands_somewhere w c.mine c.stage is inv silent))

  pub HelpingInvariant-reached : (w : WorldOf S I R) → IsReached o.object w → HelpingInvariant o.object w
  HelpingInvariant-reached w r = subst (λ v. HelpingInvariant o.object v) r.reached
      (HelpingInvariant-world_after_all o.object (opened_world r.n r.start r.number) r.events r.accepted (CountsSteps-opened_world o.object r.n r.start r.number) (HelpingInvariant-opened_world o.object r.n r.start r.number r.positive))
