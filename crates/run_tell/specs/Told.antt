-- The run of a script, told: how it opened, in which order its pieces are told, and what is written of a text that comes piece by piece.
use Rattle.std.specs.Prelude.{Bool, List, MatchResult, None, Option, Result, Some, Vec, [], drop, flat_map, if◌then◌else◌, length, map, nat_le, option_map, refl, slice_get, take, ℕ, ◌++◌, ◌+◌, ◌∷◌, ◌≡◌, ◌≤◌, ◌⊎◌}
use Rattle.run_tell.specs.Vocabulary.{Appends, AppendsPrefix, AreAccepted, Event, IsInput, IsLinearizableHistory, PlacedRemark, Range, Recording, Refused, Scene, ScriptSession, Sequence, Sequential, SpokenObject, Start, count_in, events_shown, excerpt_of, fault_of_script, is_told_in, observed_in, opened_world, prefix_len, range_fault, scripts_of, spoken_of, start_shown, state_text_of, word_of_object}
use Rattle.std.specs.declared.alloc.Global.{Global}
use Rattle.uni_script.specs.Outcome.{outcome_of_script}
use Rattle.uni_script.specs.Remarks.{event_lines_of_script, remark_at, remarks_of_script}
use Rattle.run_tell.specs.declared.opened.Opened.{Opened}

-- a run: the word of its object, how many processes there were first, how many calls a process can make in an era, and the number
-- and the state of the first anchor; and where the events begin that are told, if not with the run's first
pub record Opening : Type 0 where
  pub object : List ℕ
  pub processes : ℕ
  pub row : ℕ
  pub number : ℕ
  pub state : List ℕ
  pub start : Option Start

abbrev pub opening : (object : List ℕ) (processes row number : ℕ) (state : List ℕ) → Option Start → Opening
opening object processes row number state start =
    record { object = object; processes = processes; row = row; number = number; state = state; start = start }

-- the trace of some events of a run: which these are, how it opened, and what each of them did
pub record Trace : Type 0 where
  pub range : Range
  pub opening : Opening
  pub scenes : List (Option Scene)

-- what the code's opening is in the definitions, and the trace of some events of a run that opened so
abbrev pub opening_shown : Opened → Opening
opening_shown o = opening o.object.now o.processes o.row o.number o.state.items (option_map start_shown o.start)

abbrev pub trace_with : Range → Opened → (scenes : List (Option Scene)) → Trace
trace_with range opened scenes = record { range = range; opening = opening_shown opened; scenes = scenes }

-- whether the whole memory is to be told after each event; and the texts of the pieces: how the run opened, an event with its number
-- and with that of the script's line that stored it, and what is told beside the events
pub record Wording : Type 0 where
  pub is_whole : Bool
  pub opening : Opening → List ℕ
  pub event : ℕ → (line : Option ℕ) → Scene → List ℕ
  pub remark : PlacedRemark → List ℕ

-- the text of an event; there is none where there is no scene, as of no event of a run
abbrev pub event_text : Wording → (event : ℕ) → (line : Option ℕ) → Option Scene → List ℕ
event_text words k line None = []
event_text words k line (Some scene) = words.event k line scene

-- how many of these remarks stand first that are told before an event
abbrev pub told_before : (event : ℕ) → List PlacedRemark → ℕ
told_before k remarks = prefix_len (λ one. nat_le one.before k) remarks

told_before_the_second : (command : Vec ℕ Global)
    → told_before 1 (record { line = 3; before = 1; remark = Refused command Sequence }
    ∷ record { line = 5; before = 2; remark = Refused command Sequence } ∷ []) ≡ 1
told_before_the_second command = refl

-- the text of a remark, where it is told beside the events that are chosen
abbrev pub remark_told : Wording → Range → PlacedRemark → List ℕ
remark_told words range one = if is_told_in range one then words.remark one else []

-- the texts of events from one on, each behind what is told before it, and of what is told after the last; `lines` has the line of
-- each event of the run, from its first on
abbrev pub told_from : Wording → Range → (lines : List ℕ) → (event : ℕ) → List (Option Scene) → List PlacedRemark → List ℕ
told_from words range lines k [] remarks = flat_map (remark_told words range) remarks
told_from words range lines k (scene ∷ scenes) remarks =
    flat_map (remark_told words range) (take (told_before k remarks) remarks) ++ event_text words k (slice_get lines k) scene
    ++ told_from words range lines (k + 1) scenes (drop (told_before k remarks) remarks)

-- the events of a trace, told
abbrev pub told_text : Wording → Trace → (lines : List ℕ) → List PlacedRemark → List ℕ
told_text words trace lines remarks =
    words.opening trace.opening ++ told_from words trace.range lines trace.range.from trace.scenes remarks

-- the trace of those that are chosen of some events of n processes, on an object of this name whose states have these texts
abbrev pub trace_of_events : {S I R : Type 0} → Range → (is_whole : Bool) → SpokenObject S I R → (S → List ℕ) → (name : List ℕ)
    → (n row first : ℕ) → List (Event I) → Trace
trace_of_events range is_whole o text name n row first events =
    let part = excerpt_of o.object o.language text is_whole range.from (count_in range (length events))
    (opened_world n o.object.initial first) events in
    record {
      range = range;
      opening = opening name n row first (text o.object.initial) part.start;
      scenes = part.scenes;
    }

-- those of the events that a record has stored, told; `lines` has the script's lines that stored its events
abbrev pub text_of_record : {O S I R : Type 0} → Wording → Range → SpokenObject S I R → (S → List ℕ) → (name : List ℕ)
    → Recording O S I R → (lines : List ℕ) → List PlacedRemark → List ℕ
text_of_record words range o text name r =
    told_text words
    (trace_of_events range words.is_whole o text name r.processes r.world.row r.first (events_shown r.events))

-- that of the session which a script leaves
abbrev pub trace_of_session : Range → (is_whole : Bool) → ScriptSession → Trace
trace_of_session range is_whole b =
    trace_of_events range is_whole (spoken_of b.object) (state_text_of b.object) (word_of_object b.object)
    b.session.processes b.session.row b.session.first b.session.events

-- the session, told, with the script's lines that stored its events, and what it tells beside them
abbrev pub text_of_session : Wording → Range → ScriptSession → (lines : List ℕ) → List PlacedRemark → List ℕ
text_of_session words range b = told_text words (trace_of_session range words.is_whole b)

-- Events of n processes from an opening could come, and what is observed of them is a linearizable history of the object, from its
-- first state.
pub record IsLinearizableRun {S I R : Type 0} (object : Sequential S I R) (n first : ℕ) (events : List (Event I)) : Type 0 where
  pub positive : 1 ≤ first
  pub accepted : AreAccepted object (opened_world n object.initial first) events
  pub linearizable : IsLinearizableHistory object object.initial
      (observed_in object (opened_world n object.initial first) events)

-- so are those of the session which a script leaves
abbrev pub IsLinearizableSession : ScriptSession → Type 0
IsLinearizableSession b = IsLinearizableRun (spoken_of b.object).object b.session.processes b.session.first b.session.events

-- the reader had a script without a fault, of which these events can be chosen, and they are told so: of a linearizable run
pub record IsToldBy (tell : ScriptSession → (lines : List ℕ) → List PlacedRemark → List ℕ) (range : Range)
    (left : Option (List ℕ)) (text : List ℕ) : Type 0 where
  pub script : List ℕ
  pub input : IsInput left script
  pub good : fault_of_script (scripts_of 1048576) script ≡ None
  pub session : ScriptSession
  pub session_is : (outcome_of_script (scripts_of 1048576) script).session ≡ Some session
  pub fits : range_fault range ((scripts_of 1048576).events session) ≡ None
  pub lines : List ℕ
  pub lines_are : event_lines_of_script (scripts_of 1048576) script ≡ lines
  pub remarks : List PlacedRemark
  pub remarks_are : remarks_of_script (scripts_of 1048576) script ≡ map remark_at remarks
  pub text_is : text ≡ tell session lines remarks
  pub linearizable : IsLinearizableSession session

-- the same in these words
abbrev pub IsTold : (words : Wording) → Range → (left : Option (List ℕ)) (text : List ℕ) → Type 0
IsTold words range left text = IsToldBy (text_of_session words range) range left text

-- known bytes grew by a text; after an error by a prefix of it
abbrev pub WritesText : {T E : Type 0} → Result T E → (old new : Option (List ℕ)) → (text : List ℕ) → Type 0
WritesText result old new text = MatchResult result (λ _. Appends old new text) (λ _. AppendsPrefix old new text)

-- they grew by a text of which this holds
abbrev pub Writes : (Holds : List ℕ → Type 0) → (old new : Option (List ℕ)) → Type 0
Writes Holds old new = (text : List ℕ) × Holds text × Appends old new text

-- they stayed, or grew by a prefix of such a text
abbrev pub WritesPart : (Holds : List ℕ → Type 0) → (old new : Option (List ℕ)) → Type 0
WritesPart Holds old new = (new ≡ old) ⊎ ((text : List ℕ) × Holds text × AppendsPrefix old new text)

-- the one where all went well, and the other after an error
abbrev pub WritesSuch : {T E : Type 0} → Result T E → (Holds : List ℕ → Type 0) → (old new : Option (List ℕ)) → Type 0
WritesSuch result Holds old new = MatchResult result (λ _. Writes Holds old new) (λ _. WritesPart Holds old new)
