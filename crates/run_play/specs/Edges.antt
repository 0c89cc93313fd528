-- What the edges of a graph tell, as JSON.
use Rattle.std.specs.Prelude.{◌≡◌, ℕ, ◌/◌, ◌%◌, ◌<◌, List, [], ◌∷◌, Option, Some, None, codes, length, slice_get, slice_index_or, Vec, refl}
use Rattle.std.specs.Prelude.{option_and_then}
use Rattle.std.specs.Fmt.{digits}
use Rattle.std.specs.Option.{option_map_or}
use Rattle.std.specs.declared.alloc.Global.{Global}
use Rattle.run_tell.specs.Json.{Number, Text, MaybeText, Member, named, object_text}
use Rattle.ready_objects.specs.Spoken.{Language}
use Rattle.run_graph.specs.Graph.{path_of}
use Rattle.run_graph.specs.Schedule.{Plan, event_of, world_at}
use Rattle.run_layout.specs.Wording.{letter_of}
use Rattle.run_replay.specs.Held.{Field, Held, alone, cell_text}
use Rattle.run_replay.specs.Scenes.{Begun, Frame, Stepped, Begins, Steps, Ends, frame_of}
use Rattle.uni_core.specs.declared.stage.StepKind.TheVariants as kinds

-- What is told beside what the place of a step holds: the reply that is settled with a state, the cell that the step proposed, or
-- what the call returns.
abbrev pub settled_or : (settled : Option Field) → (proposed : Option Held) → (reply : Option (List ℕ)) → Option (List ℕ)
settled_or (Some field) proposed reply = Some field.text
settled_or None (Some held) reply = Some held.field.text
settled_or None None reply = reply

abbrev pub beside : Stepped → Option (List ℕ)
beside s = settled_or s.after.reply s.proposed s.reply

-- a call that leads to a node
abbrev pub begun_members : (to : ℕ) → Begun → List Member
begun_members to b =
    named (codes "to") (Number to) ∷ named (codes "call") (Text (cell_text (Some b.call))) ∷ named (codes "words") (Text b.words) ∷ []

abbrev pub begun_text : (to : ℕ) → Begun → List ℕ
begun_text to b = object_text (begun_members to b)

-- a step that leads to a node: the letter of its kind, its place, and what that holds after it
abbrev pub step_members : (to : ℕ) → Stepped → List Member
step_members to s =
    named (codes "to") (Number to) ∷ named (codes "kind") (Text (letter_of s.kind ∷ []))
    ∷ named (codes "place") (Text s.after.field.name) ∷ named (codes "text") (Text s.after.field.text)
    ∷ named (codes "beside") (MaybeText (beside s)) ∷ []

abbrev pub step_text : (to : ℕ) → Stepped → List ℕ
step_text to s = object_text (step_members to s)

abbrev pub frame_text : (to : ℕ) → Frame → List ℕ
frame_text to (Begins b) = begun_text to b
frame_text to (Steps s) = step_text to s
frame_text to (Ends e) = codes "null"

-- the text at a place
abbrev pub text_at : List (Vec ℕ Global) → ℕ → List ℕ
text_at texts k = option_map_or (λ (t : Vec ℕ Global). t.items) (slice_get texts k) []

module _ {S I R : Type 0} (plan : Plan S I R) (l : Language I R) (text : S → List ℕ) where
  -- what the event of process p does at the end of a path
  abbrev pub frame_at : List ℕ → (p : ℕ) → Option Frame
  frame_at path p = option_and_then (λ w. option_and_then (frame_of plan.object l text w) (event_of plan w p)) (world_at plan path)

  -- the edge at place k, where it has a target: that of process k % n in node k / n
  abbrev pub edge_text : List (Vec ℕ Global) → (k : ℕ) → (target : Option ℕ) → List ℕ
  edge_text paths k None = codes "null"
  edge_text paths k (Some to) = option_map_or (frame_text to) (frame_at (path_of paths (k / plan.n)) (k % plan.n)) (codes "null")

  -- these are the texts of all edges
  pub record AreEdges (paths : List (Vec ℕ Global)) (targets : List (Option ℕ)) (texts : List (Vec ℕ Global)) : Type 0 where
    pub count : length texts ≡ length targets
    pub each : (k : ℕ) → k < length targets → text_at texts k ≡ edge_text paths k (slice_index_or targets k None)

-- process 0 begins its first call, and takes its first step
a_call : begun_text 7 (record { call = record { process = 0; nth = 0 }; words = codes "enq 5"; before = alone [] []; after = alone [] [] })
    ≡ codes "{\"to\":7,\"call\":\"0.0\",\"words\":\"enq 5\"}"
unfolding object_text digits
a_call = refl

a_step : step_text 8 (record {
  call = record { process = 0; nth = 0 };
  kind = kinds.Announce;
  before = alone (codes "announce[0]") (codes "anchor");
  after = alone (codes "announce[0]") (codes "0.0");
  proposed = None;
  next = Some kinds.ScanHead;
  steps = 1;
  turns = 0;
  reply = None;
})
    ≡ codes "{\"to\":8,\"kind\":\"A\",\"place\":\"announce[0]\",\"text\":\"0.0\",\"beside\":null}"
unfolding object_text digits
a_step = refl
