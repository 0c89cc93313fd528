-- The page of all schedules of a script's calls.
use Rattle.std.specs.Prelude.{◌≡◌, ℕ, ◌≤◌, Bool, true, false, if◌then◌else◌, List, [], ◌∷◌, Option, None, Some, map, codes, length, Vec, refl}
use Rattle.std.specs.Fmt.{digits}
use Rattle.std.specs.declared.alloc.Global.{Global}
use Rattle.run_tell.specs.Json.{Number, Text, Json, Member, named, object_text, list_text}
use Rattle.uni_model.specs.Worlds.{Event}
use Rattle.uni_script.specs.declared.remarks.PlacedRemark.{PlacedRemark}
use Rattle.uni_script.specs.declared.remarks.Remark.{Remark}
use Rattle.uni_script.specs.declared.remarks.Remark.TheVariants.{Heading, Note, Refused}
use Rattle.uni_script.specs.Objects.{SpokenObject, spoken_of}
use Rattle.uni_script.specs.Outcome.{outcome_of_script}
use Rattle.uni_script.specs.Remarks.{remark_at, remarks_of_script}
use Rattle.uni_script.specs.Replay.{IsInput, fault_of_script}
use Rattle.uni_script.specs.Schedules.{word_of_object}
use Rattle.uni_script.specs.Scripts.{ScriptSession, scripts_of}
use Rattle.run_layout.specs.Subject.{state_text_of}
use Rattle.run_graph.specs.Graph.{IsGraph}
use Rattle.run_graph.specs.Schedule.{plan_of}
use Rattle.run_play.specs.Plans.{AreCallsOf, has_one_era}
use Rattle.run_play.specs.Edges.{AreEdges}
use Rattle.run_tell.specs.Page.{page_text}
use Rattle.run_tell.specs.declared.viewer.TheConstants.{START, MIDDLE, END}

-- a graph with what its page needs beside it: the name of the object, how many processes and calls of a row, the first state,
-- and the text of the goal, which is empty where there is none
abbrev pub graph_members : (name : List ℕ) → (n row : ℕ) → (state goal : List ℕ) → (edges : List (List ℕ)) → List Member
graph_members name n row state goal edges =
    named (codes "object") (Text name) ∷ named (codes "processes") (Number n) ∷ named (codes "row") (Number row)
    ∷ named (codes "state") (Text state) ∷ named (codes "goal") (Text goal) ∷ named (codes "edges") (Json (list_text edges)) ∷ []

-- The page of the calls of some events of n processes from a number, on an object of this name whose states have these texts: it
-- tells the graph of all their schedules, and a goal.
pub record IsPageOf {S I R : Type 0} (o : SpokenObject S I R) (text : S → List ℕ) (name goal : List ℕ) (n row number : ℕ)
    (events : List (Event I)) (page : List ℕ) : Type 0 where
  pub from_1 : number ≡ 1
  pub one_era : has_one_era events ≡ true
  pub calls : List (Vec I Global)
  pub calls_are : AreCallsOf n events calls
  pub paths : List (Vec ℕ Global)
  pub targets : List (Option ℕ)
  pub few : length paths ≤ 20000
  pub graph : IsGraph (plan_of o.object n row calls) paths targets
  pub edges : List (Vec ℕ Global)
  pub edges_are : AreEdges (plan_of o.object n row calls) o.language text paths targets edges
  pub page_is : page ≡ page_text START.now [] MIDDLE.now (object_text (graph_members name n row (text o.object.initial) goal
      (map (λ (e : Vec ℕ Global). e.items) edges))) END.now

-- that of the session which a script leaves
abbrev pub IsPageOfSession : (goal : List ℕ) → ScriptSession → (page : List ℕ) → Type 0
IsPageOfSession goal b page =
    IsPageOf (spoken_of b.object) (state_text_of b.object) (word_of_object b.object) goal b.session.processes b.session.row
    b.session.first b.session.events page

-- whether a remark is a refusal
abbrev pub is_refusal : Remark → Bool
is_refusal (Refused command refusal) = true
is_refusal (Heading text) = false
is_refusal (Note text) = false

abbrev pub any_refused : List PlacedRemark → Bool
any_refused [] = false
any_refused (one ∷ remarks) = if is_refusal one.remark then true else any_refused remarks

-- the reader had a script without a fault, of which no command is refused, and this is the page of its calls, with a goal
pub record IsPlayed (goal : List ℕ) (left : Option (List ℕ)) (page : List ℕ) : Type 0 where
  pub script : List ℕ
  pub input : IsInput left script
  pub good : fault_of_script (scripts_of 1048576) script ≡ None
  pub session : ScriptSession
  pub session_is : (outcome_of_script (scripts_of 1048576) script).session ≡ Some session
  pub remarks : List PlacedRemark
  pub remarks_are : remarks_of_script (scripts_of 1048576) script ≡ map remark_at remarks
  pub accepted : any_refused remarks ≡ false
  pub page_of : IsPageOfSession goal session page

-- a goal's line of four characters, one of them a quote, in a queue's graph of no edge
a_goal : object_text (graph_members (codes "queue") 1 4 (codes "[]") (codes "a \"b\n") [])
    ≡ codes "{\"object\":\"queue\",\"processes\":1,\"row\":4,\"state\":\"[]\",\"goal\":\"a \\\"b\\u000a\",\"edges\":[]}"
unfolding object_text list_text digits
a_goal = refl
