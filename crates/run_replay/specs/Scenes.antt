-- The scenes of a run: what each event does, told by the worlds before and after it, and the whole memory after it.
use Rattle.std.specs.Prelude.{ℕ, ◌-◌, List, Option, Some, None, option_map, ◌≡◌, ◌==◌, Bool, false, if◌then◌else◌, [], ◌∷◌, map, take, drop, length, refl, slice_get}
use Rattle.run_replay.specs.Vocabulary.{Anchor, Call, CallId, Done, Event, Going, InvOf, Invariant, IsQuiescent, Language, Memory, NewOf, Of, Pending, Place, Progress, Reshape, Sequential, Step, StepKind, Trim, WorldOf, anchor_memory, kind_of, last_number, memory_with, opened_world, place_eq, place_of, response_of_step, text_of_words, world_after, world_after_all, world_after_era}
use Rattle.run_replay.specs.declared.frame.Frame.TheVariants as frame
use Rattle.uni_core.specs.declared.stage.StepKind.TheVariants as kinds
use Rattle.run_replay.specs.Held.{Held, held, proposal_of, sample, sample_language, whole_memory, Field, Change}
use Rattle.run_replay.specs.declared.frame.Field.{Field as FieldOfCode}
use Rattle.run_replay.specs.declared.frame.Held.{Held as HeldOfCode}
use Rattle.run_replay.specs.declared.frame.Change.{Change as ChangeOfCode}
use Rattle.run_replay.specs.declared.frame.Begun.{Begun as BegunOfCode}
use Rattle.run_replay.specs.declared.frame.Step.{Step as StepOfCode}
use Rattle.run_replay.specs.declared.frame.EndedEra.{EndedEra}
use Rattle.run_replay.specs.declared.frame.Frame.{Frame as FrameOfCode}
use Rattle.run_replay.specs.declared.frame.Scene.{Scene as SceneOfCode}
use Rattle.run_replay.specs.declared.frame.Start.{Start as StartOfCode}

-- a call that begins: the call, its words, and what its new cell asks for, before and after
pub record Begun : Type 0 where
  pub call : CallId
  pub words : List ℕ
  pub before : Held
  pub after : Held

-- a step: its call and its kind, its one place before and after it, what it proposed for that place, the kind of the next step, own
-- steps and turns, and the reply of the last one
pub record Stepped : Type 0 where
  pub call : CallId
  pub kind : StepKind
  pub before : Held
  pub after : Held
  pub proposed : Option Held
  pub next : Option StepKind
  pub steps : ℕ
  pub turns : ℕ
  pub reply : Option (List ℕ)

-- the end of an era: to how many processes it is reshaped, the number of the new anchor, and what is settled in that
pub record Ended : Type 0 where
  pub reshaped : Option ℕ
  pub number : ℕ
  pub anchor : Held

-- what an event did
pub data Frame : Type 0 where
  Begins : Begun → Frame
  Steps : Stepped → Frame
  Ends : Ended → Frame

-- the response that the answer of a step has
abbrev pub answered : {R : Type 0} → Progress R → Option R
answered Going = None
answered (Done r) = Some r

-- what the end of an era leaves
abbrev pub ended : {S I R : Type 0} → Language I R → (S → List ℕ) → Option ℕ → (number : ℕ) → Memory S I R → Ended
ended l text reshaped number m = record { reshaped = reshaped; number = number; anchor = held l text m (NewOf Anchor) }

module _ {S I R : Type 0} (object : Sequential S I R) (l : Language I R) (text : S → List ℕ) where
  -- a call of process p that begins in a world
  abbrev pub begun : WorldOf S I R → (p : ℕ) → I → Begun
  begun w p i =
      let place = InvOf (Of p (w.begun p)) in
      record {
        call = record { process = p; nth = w.begun p };
        words = text_of_words (l.inv_words i);
        before = held l text w.memory place;
        after = held l text (world_after object w (Call p i)).memory place;
      }

  -- the next step of process p, whose call is pending
  abbrev pub stepped : WorldOf S I R → (p : ℕ) → Pending → Stepped
  stepped w p call =
      let place = place_of w.n p call.mine call.stage in
      let v = world_after object w (Step p) in
      record {
        call = record { process = p; nth = w.begun p - 1 };
        kind = kind_of call.stage;
        before = held l text w.memory place;
        after = held l text v.memory place;
        proposed = option_map (λ v. held l text (memory_with w.memory place v) place) (proposal_of object call.stage w.memory);
        next = option_map (λ (c : Pending). kind_of c.stage) (v.call p);
        steps = v.steps p;
        turns = v.turns p;
        reply = option_map l.resp_text (response_of_step w p);
      }

  -- the frame of an event that comes to a world; there is none of a step of a process without a call
  abbrev pub frame_of : WorldOf S I R → Event I → Option Frame
  frame_of w (Call p i) = Some (Begins (begun w p i))
  frame_of w (Step p) = option_map (λ call. Steps (stepped w p call)) (w.call p)
  frame_of w Trim = Some (Ends (ended l text None (last_number w) (world_after object w Trim).memory))
  frame_of w (Reshape n) = Some (Ends (ended l text (Some n) (last_number w) (world_after object w (Reshape n)).memory))

-- what an event did, and the whole memory after it, where that is asked for
pub record Scene : Type 0 where
  pub frame : Frame
  pub memory : Option (List Held)

-- the whole memory of a world, where it is asked for
abbrev pub memory_asked : {S I R : Type 0} → Language I R → (S → List ℕ) → (is_whole : Bool) → WorldOf S I R → Option (List Held)
memory_asked l text is_whole w = if is_whole then Some (whole_memory l text w) else None

-- where the scenes of some events of a run begin: how many events came before, how many processes there are then, and the memory
pub record Start : Type 0 where
  pub events : ℕ
  pub processes : ℕ
  pub memory : List Held

-- the scenes of some events, and where they begin, if not at the run's first event
pub record Excerpt : Type 0 where
  pub start : Option Start
  pub scenes : List (Option Scene)

-- where they begin in a world to which so many events have led
abbrev pub start_of : {S I R : Type 0} → Language I R → (S → List ℕ) → (events : ℕ) → WorldOf S I R → Option Start
start_of l text events w =
    if events == 0 then None else Some (record { events = events; processes = w.n; memory = whole_memory l text w })

module _ {S I R : Type 0} (object : Sequential S I R) (l : Language I R) (text : S → List ℕ) (is_whole : Bool) where
  -- the scene of an event that comes to a world
  abbrev pub scene_of : WorldOf S I R → Event I → Option Scene
  scene_of w e =
      option_map (λ frame. record { frame = frame; memory = memory_asked l text is_whole (world_after object w e) })
      (frame_of object l text w e)

  -- the scenes of events, one for each
  abbrev pub scenes_from : WorldOf S I R → List (Event I) → List (Option Scene)
  scenes_from w [] = []
  scenes_from w (e ∷ es) = scene_of w e ∷ scenes_from (world_after object w e) es

  -- the scenes of the events from one on, of at most so many, in a run from a world
  abbrev pub excerpt_of : (from most : ℕ) → WorldOf S I R → List (Event I) → Excerpt
  excerpt_of from most w events =
      let v = world_after_all object w (take from events) in
      record { start = start_of l text (length (take from events)) v; scenes = scenes_from v (take most (drop from events)) }

-- the kind of a step, if a frame is one
abbrev kind_of_frame : Frame → List StepKind
kind_of_frame (Steps s) = s.kind ∷ []
kind_of_frame _ = []

abbrev kind_in : Option Scene → List StepKind
kind_in None = []
kind_in (Some scene) = kind_of_frame scene.frame

-- a process that calls has its next step announce
announce_first : map kind_in (scenes_from sample sample_language (λ s. s ∷ []) false (opened_world 1 9 1) (Call 0 7 ∷ Step 0 ∷ []))
    ≡ [] ∷ (kinds.Announce ∷ []) ∷ []
announce_first = refl

-- a step of a process without a call has no scene
no_scene : scenes_from sample sample_language (λ s. s ∷ []) false (opened_world 1 9 1) (Step 0 ∷ []) ≡ None ∷ []
no_scene = refl

-- the second of two events alone: one event came before, and its process, which has called, announces
second_alone : (let part = excerpt_of sample sample_language (λ s. s ∷ []) false 1 5 (opened_world 1 9 1) (Call 0 7 ∷ Step 0 ∷ []) in
    option_map (λ start. start.events) part.start ∷ [] ≡ Some 1 ∷ [])
second_alone = refl

-- What the code's frames are in the definitions: texts in place of vectors.

abbrev pub field_shown : FieldOfCode → Field
field_shown f = record { name = f.name.items; text = f.text.items }

abbrev pub held_shown : HeldOfCode → Held
held_shown h = record { field = field_shown h.field; reply = option_map field_shown h.reply }

abbrev pub change_shown : ChangeOfCode → Change
change_shown c = record { name = c.name.items; before = c.before.items; after = c.after.items }

abbrev pub begun_shown : BegunOfCode → Begun
begun_shown b = record { call = b.call; words = b.words.items; before = held_shown b.before; after = held_shown b.after }

abbrev pub step_shown : StepOfCode → Stepped
step_shown s =
    record {
      call = s.call;
      kind = s.kind;
      before = held_shown s.before;
      after = held_shown s.after;
      proposed = option_map held_shown s.proposed;
      next = s.next;
      steps = s.steps;
      turns = s.turns;
      reply = option_map (λ r. r.items) s.reply;
    }

abbrev pub end_shown : EndedEra → Ended
end_shown e = record { reshaped = e.reshaped; number = e.number; anchor = held_shown e.anchor }

abbrev pub frame_shown : FrameOfCode → Frame
frame_shown (frame.Call b) = Begins (begun_shown b)
frame_shown (frame.Step s) = Steps (step_shown s)
frame_shown (frame.End e) = Ends (end_shown e)

abbrev pub scene_shown : SceneOfCode → Scene
scene_shown s = record { frame = frame_shown s.frame; memory = option_map (λ memory. map held_shown memory.items) s.memory }

abbrev pub start_shown : StartOfCode → Start
start_shown s = record { events = s.events; processes = s.processes; memory = map held_shown s.memory.items }

-- What holds of the frames of each run.

-- scene k is that of event k in the world after the first k events
abbrev pub TellsEachEvent : {S I R : Type 0} → Sequential S I R → Language I R → (S → List ℕ) → (is_whole : Bool) → WorldOf S I R
    → List (Event I) → Type 0
TellsEachEvent object l text is_whole w events =
    (k : ℕ) → slice_get (scenes_from object l text is_whole w events) k
    ≡ option_map (λ e. scene_of object l text is_whole (world_after_all object w (take k events)) e) (slice_get events k)

-- a step changes no place but the one that it touches
abbrev pub ChangesOnePlace : {S I R : Type 0} → Sequential S I R → WorldOf S I R → (p : ℕ) → Type 0
ChangesOnePlace object w p =
    (call : Pending) → w.call p ≡ Some call → (x : Place) → place_eq x (place_of w.n p call.mine call.stage) ≡ false
    → (world_after object w (Step p)).memory x ≡ w.memory x

-- a call changes no place but what its new cell asks for
abbrev pub CallChangesOnePlace : {S I R : Type 0} → Sequential S I R → WorldOf S I R → (p : ℕ) → I → Type 0
CallChangesOnePlace object w p i =
    (x : Place) → place_eq x (InvOf (Of p (w.begun p))) ≡ false → (world_after object w (Call p i)).memory x ≡ w.memory x

-- the end of an era leaves an anchor alone, with the last number and a state
abbrev pub EndLeavesAnchor : {S I R : Type 0} → Sequential S I R → WorldOf S I R → (n : ℕ) → Type 0
EndLeavesAnchor {S} object w n =
    Invariant object w → IsQuiescent w → (s : S) × ((world_after_era w n).memory ≡ anchor_memory s (last_number w))
