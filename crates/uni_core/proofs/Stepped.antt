-- What a step leaves.
use Rattle.uni_core.proofs.Vocabulary.{Announce, Bool, CanGo, CanStep, DecideAfter, DecideNew, Done, Err, Finish, Going, IsBounded, IsBounded-held, IsSome, IsWithinBound, if◌then◌else◌, is_some, IsWorld, Local, MayBeRefused, MayNeedMemory, MayNeedMemoryAt, None, Ok, OnErr, Option, Pending, ReadAnnounce, ReadHelpSeq, Result, ScanHead, ScanSeq, PlacesBesideAreSettled, Sequential, SharedEntries, Some, Stage, Step, Takes, IsSimulated, Test, WorldParts, WriteBefore, WriteHead, WriteScan, WriteSeq, ap, arith, get_or, length, memory_of, named, option_map, pending_of, place_of, processes_of, progress_of, refl, response_of_step, slice_get, slice_get-set_same, slice_set, stage_of, stage_left, step_accepted, subst, sym, turn_of, turns_to, world_after, world_of, ℕ, ◌*◌, ◌+◌, ◌<◌, ◌^◌, ◌∙◌, ◌≡◌, ◌≤◌}
use Rattle.uni_model.specs.Stages.{Pending as PendingAt}
use Rattle.uni_model.proofs.Seen.{PlacesBesideAreSettled-held}
use Rattle.uni_core.proofs.Begin.{inside_count, local_here}
use Rattle.uni_core.proofs.Shown.{stepped_whole, stepped_local, world_of-world_after_step, IsWorld-world_after_step}
use Rattle.uni_core.proofs.Steppable.{CanStep-pending, turns_to-effect}

refused_at : {S I R : Type 0} (a : SharedEntries S I R) (stage : Stage) → MayBeRefused a stage → MayNeedMemoryAt (memory_of a) (stage_of (named a) stage)
refused_at a (DecideNew c s d) h = h
refused_at a Announce h = h
refused_at a (ScanHead q best s) h = h
refused_at a (ScanSeq q best s head) h = h
refused_at a (WriteScan best s) h = h
refused_at a (Test c s) h = h
refused_at a (ReadAnnounce c s) h = h
refused_at a (ReadHelpSeq c s help) h = h
refused_at a (DecideAfter c s prefer) h = h
refused_at a (WriteBefore c s d) h = h
refused_at a (WriteSeq c s d) h = h
refused_at a (WriteHead c s d) h = h
refused_at a (Finish s t) h = h

module _ {O S I R : Type 0} (object : Sequential S I R) (v now : WorldParts O S I R) (view : v ≡ now) (is : IsWorld object v) (p k : ℕ) (l : Local)
    (count : k ≡ processes_of v.shared.cells) (below : p < k) (read : l ≡ get_or v.locals p l) (call : Pending) (pending : l.call ≡ Some call) where
  abbrev pub at_v : PendingAt
  at_v = pending_of (named v.shared) call

  pub inside : p < processes_of v.shared.cells
  inside = inside_count (processes_of v.shared.cells) k p count below

  pub here : slice_get v.locals p ≡ Some l
  here = local_here object v is p l inside read

  pend : (world_of v).call p ≡ Some at_v
  pend = rw here (rw pending refl)

  pub can_step : CanStep v.shared call.mine call.stage
  can_step = CanStep-pending object v is p inside call.mine call.stage pend

  bounded : ((world_of v).turns p ≤ processes_of v.shared.cells + 1) × ((world_of v).steps p < 10 * processes_of v.shared.cells + 12)
  bounded =
      let all : IsBounded (world_of v) = IsBounded-held object (world_of v) is.counts is.sound in
      let own : IsWithinBound (processes_of v.shared.cells) ((world_of v).call p) ((world_of v).begun p) ((world_of v).among p) ((world_of v).steps p) ((world_of v).turns p) = all p in
      let within : IsWithinBound (processes_of v.shared.cells) (Some at_v) ((world_of v).begun p) ((world_of v).among p) ((world_of v).steps p) ((world_of v).turns p) = rw pend at own in
      (within.1, within.2)

  pub steps_fit : l.steps < 2 ^ 32
  steps_fit =
      let few : processes_of v.shared.cells ≤ 64 = is.few in
      let steps : (world_of v).steps p ≡ l.steps = rw here refl in
      let bound : (world_of v).steps p < 10 * processes_of v.shared.cells + 12 = bounded.1 in
      omega arith

  pub turns_fit : l.turns < 2 ^ 32
  turns_fit =
      let few : processes_of v.shared.cells ≤ 64 = is.few in
      let turns : (world_of v).turns p ≡ l.turns = rw here refl in
      let bound : (world_of v).turns p ≤ processes_of v.shared.cells + 1 = bounded.0 in
      omega arith

  pub can_go : CanGo (world_of now) p
  can_go = subst (λ (x : WorldParts O S I R). CanGo (world_of x) p) view (inside, rw pend refl)

  pub may_need : MayBeRefused v.shared call.stage → MayNeedMemory (world_of now) p
  may_need h = subst (λ (x : WorldParts O S I R). MayNeedMemory (world_of x) p) view (rw pend (refused_at v.shared call.stage h))

  module _ (a' : SharedEntries S I R) (left_at : Stage) (response : Option R)
      (takes : Takes object p (named v.shared call.mine) (stage_of (named v.shared) call.stage) v.shared a' (option_map (stage_of (named v.shared)) (stage_left left_at response)) response)
      (over : Bool) (over_is : over ≡ is_some response)
      (after : Local) (call_is : after.call ≡ (if over then None else Some (record { mine = call.mine; stage = left_at }))) (begun_is : after.begun ≡ l.begun) (among_is : after.among ≡ l.among)
      (steps_is : after.steps ≡ l.steps + 1) (turns_is : after.turns ≡ l.turns + (if over then 0 else turns_to left_at)) where
    abbrev to : Option Stage
    to = stage_left left_at response

    call_left : after.call ≡ option_map (λ s. let c : Pending = record { mine = call.mine; stage = s } in c) (stage_left left_at response)
    call_left = call_is ∙ ap (λ b. if b then None else Some (let c : Pending = record { mine = call.mine; stage = left_at } in c)) over_is ∙ by_response response where
      by_response : (r : Option R) → (if is_some r then None else Some (let c : Pending = record { mine = call.mine; stage = left_at } in c)) ≡ option_map (λ s. let c : Pending = record { mine = call.mine; stage = s } in c) (stage_left left_at r)
      by_response None = refl
      by_response (Some r) = refl

    turns_counted : after.turns ≡ l.turns + turn_of (stage_of (named v.shared) call.stage) (memory_of v.shared (place_of (processes_of v.shared.cells) p (named v.shared call.mine) (stage_of (named v.shared) call.stage)))
    turns_counted = turns_is ∙ ap (λ b. l.turns + (if b then 0 else turns_to left_at)) over_is ∙ ap (λ t. l.turns + t) (turns_to-effect object v.shared p (named v.shared call.mine) (stage_of (named v.shared) call.stage) left_at response takes.stage)

    abbrev pub left : WorldParts O S I R
    left = record { object = v.object; row = v.row; shared = a'; locals = slice_set v.locals p after }

    same_local : stepped_local object v is p l here inside a' call pending to response takes after.steps after.turns steps_is turns_counted ≡ after
    same_local = λ i. record { call = sym call_left i; begun = sym begun_is i; among = sym among_is i; steps = after.steps; turns = after.turns }

    same_whole : stepped_whole object v is p l here inside a' call pending to response takes after.steps after.turns steps_is turns_counted ≡ left
    same_whole = ap (λ (x : Local). let w : WorldParts O S I R = record { object = v.object; row = v.row; shared = a'; locals = slice_set v.locals p x } in w) same_local

    pub IsWorld-left : IsWorld object left
    IsWorld-left = subst (λ w. IsWorld object w) same_whole (IsWorld-world_after_step object v is p l here inside a' call pending to response takes after.steps after.turns steps_is turns_counted)

    pub IsBounded-left : IsBounded (world_of left)
    IsBounded-left = let world = IsWorld-left in IsBounded-held object (world_of left) world.counts world.sound

    pub world_of-left : world_of left ≡ world_after object (world_of now) (Step p)
    world_of-left = sym (ap world_of same_whole) ∙ world_of-world_after_step object v is p l here inside a' call pending to response takes after.steps after.turns steps_is turns_counted
        ∙ ap (λ (x : WorldParts O S I R). world_after object (world_of x) (Step p)) view

    Follows-left : IsSimulated object (world_of now) (Step p)
    Follows-left a shows =
        let sound = subst (λ (x : WorldParts O S I R). IsWorld object x) view is in
        let pend_now : (world_of now).call p ≡ Some at_v = subst (λ (x : WorldParts O S I R). (world_of x).call p ≡ Some at_v) view pend in
        step_accepted object (world_of now) sound.sound.0 sound.sound.1 sound.sound.2 p at_v.mine a shows at_v.stage pend_now

    pub PlacesBesideAreSettled-left : PlacesBesideAreSettled (world_of now) p
    PlacesBesideAreSettled-left =
        let sound = subst (λ (x : WorldParts O S I R). IsWorld object x) view is in
        PlacesBesideAreSettled-held object (world_of now) (sound.sound.0, sound.sound.1, sound.sound.2) p

    -- the same for the meaning of the object, as a contract has it
    module _ (o : O) (sequential : O → Sequential S I R) (is_object : object ≡ sequential v.object) where
      abbrev pub left_with : WorldParts O S I R
      left_with = record { object = o; row = v.row; shared = a'; locals = slice_set v.locals p after }

      pub world_of-left_with : world_of left_with ≡ world_after (sequential now.object) (world_of now) (Step p)
      world_of-left_with = world_of-left ∙ ap (λ f. world_after f (world_of now) (Step p)) is_object
          ∙ ap (λ (x : WorldParts O S I R). world_after (sequential x.object) (world_of now) (Step p)) view

      pub Follows-left_with : IsSimulated (sequential now.object) (world_of now) (Step p)
      Follows-left_with = subst (λ (x : WorldParts O S I R). IsSimulated (sequential x.object) (world_of now) (Step p)) view (subst (λ f. IsSimulated f (world_of now) (Step p)) is_object Follows-left)

    -- what the step answers
    pub answers : progress_of response ≡ progress_of (response_of_step (world_of now) p)
    answers = subst (λ (x : WorldParts O S I R). progress_of response ≡ progress_of (response_of_step (world_of x) p)) view (rw pend (ap progress_of takes.told))

    pub still_pending : progress_of response ≡ Going → IsSome ((world_of left).call p)
    still_pending going = rw (slice_get-same) (rw call_left (goes_on response going)) where
      slice_get-same : slice_get (slice_set v.locals p after) p ≡ Some after
      slice_get-same = slice_get-set_same v.locals p after (let all : processes_of v.shared.cells ≤ length v.locals = is.locals in let below : p < processes_of v.shared.cells = inside in omega arith)

      goes_on : (r : Option R) → progress_of r ≡ Going
          → IsSome (option_map (pending_of (named a')) (option_map (λ s. let c : Pending = record { mine = call.mine; stage = s } in c) (stage_left left_at r)))
      goes_on None e = refl
      goes_on (Some r) e = absurd (let f : Done r ≡ Going = e in cc)

-- a call that is refused
pub if_not_ok : {A E P : Type 0} (r : Result A E) → ((x : A) → r ≡ Ok x → ⊥) → OnErr r P → P
if_not_ok (Ok x) never h = absurd (never x refl)
if_not_ok (Err e) never h = h
