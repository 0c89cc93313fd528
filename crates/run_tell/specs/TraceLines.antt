-- The lines of a trace, each an object: its members.
use Rattle.std.specs.Prelude.{Bool, List, None, Option, Some, [], codes, false, flat_map, map, option_map, refl, true, ℕ, ◌++◌, ◌∷◌, ◌≡◌}
use Rattle.run_tell.specs.Vocabulary.{Begins, Begun, Change, Ended, Ends, Field, Frame, Heading, Held, Note, PlacedRemark, Refusal, Refused, Remark, Scene, Start, StepKind, Stepped, Steps, alone, cell_text, changes_between, lane_of, letter_of, meaning_of, option_map_or, refusal_words}
use Rattle.run_tell.specs.Json.{Flag, Json, MaybeNumber, MaybeText, Member, Number, Text, Value, list_text, named, object_text}
use Rattle.run_tell.specs.Sentences.{access_of}
use Rattle.run_tell.specs.Told.{Opening, Wording}

-- ---- values

-- the letter of a kind of step, as a text
abbrev pub letter_text : StepKind → List ℕ
letter_text kind = letter_of kind ∷ []

-- ---- the memory

-- a place that has changed
abbrev pub change_members : Change → List Member
change_members c = named (codes "place") (Text c.name) ∷ named (codes "before") (Text c.before) ∷ named (codes "after") (Text c.after) ∷ []

abbrev pub changes_text : List Change → List ℕ
changes_text changes = list_text (map (λ c. object_text (change_members c)) changes)

-- whether anything has changed
abbrev pub is_any : List Change → Bool
is_any [] = false
is_any (c ∷ changes) = true

-- the places that have changed, from what a place held to what it holds
abbrev pub changes_json : (before after : Held) → Value
changes_json before after = Json (changes_text (changes_between before after))

abbrev pub is_changed : (before after : Held) → Value
is_changed before after = Flag (is_any (changes_between before after))

-- ---- events

-- a call that begins
abbrev pub begun_members : (event : ℕ) → (line : Option ℕ) → Begun → List Member
begun_members k line b =
    named (codes "what") (Text (codes "call")) ∷ named (codes "line") (MaybeNumber line)
    ∷ named (codes "event") (Number k) ∷ named (codes "process") (Number b.call.process)
    ∷ named (codes "call") (Text (cell_text (Some b.call))) ∷ named (codes "words") (Text b.words)
    ∷ named (codes "place") (Text b.after.field.name)
    ∷ named (codes "before") (Text b.before.field.text) ∷ named (codes "after") (Text b.after.field.text)
    ∷ named (codes "changed") (is_changed b.before b.after) ∷ named (codes "changes") (changes_json b.before b.after) ∷ []

-- a step: what was done in which call; what became of its place, and what it proposed for that, if it did: of a state and a reply
-- the state; and what became of its call
unfoldable pub step_members : (event : ℕ) → (line : Option ℕ) → Stepped → List Member
step_members k line s =
    named (codes "what") (Text (codes "step")) ∷ named (codes "line") (MaybeNumber line)
    ∷ named (codes "event") (Number k) ∷ named (codes "process") (Number s.call.process)
    ∷ named (codes "call") (Text (cell_text (Some s.call))) ∷ named (codes "kind") (Text (letter_text s.kind))
    ∷ named (codes "meaning") (Text (meaning_of s.kind)) ∷ named (codes "access") (Text (access_of s.kind))
    ∷ named (codes "place") (Text s.after.field.name) ∷ named (codes "before") (Text s.before.field.text)
    ∷ named (codes "after") (Text s.after.field.text) ∷ named (codes "proposed") (MaybeText (option_map (λ h. h.field.text) s.proposed))
    ∷ named (codes "changed") (is_changed s.before s.after) ∷ named (codes "changes") (changes_json s.before s.after)
    ∷ named (codes "next") (MaybeText (option_map letter_text s.next)) ∷ named (codes "steps") (Number s.steps)
    ∷ named (codes "turns") (Number s.turns) ∷ named (codes "reply") (MaybeText s.reply) ∷ []

-- how an era ends
abbrev pub end_word : Option ℕ → List ℕ
end_word None = codes "trim"
end_word (Some processes) = codes "reshape"

-- the end of an era
abbrev pub end_members : (event : ℕ) → (line : Option ℕ) → Ended → List Member
end_members k line e =
    named (codes "what") (Text (end_word e.reshaped)) ∷ named (codes "line") (MaybeNumber line)
    ∷ named (codes "event") (Number k) ∷ named (codes "processes") (MaybeNumber e.reshaped) ∷ named (codes "number") (Number e.number)
    ∷ named (codes "state") (Text e.anchor.field.text) ∷ []

abbrev pub frame_members : (event : ℕ) → (line : Option ℕ) → Frame → List Member
frame_members k line (Begins b) = begun_members k line b
frame_members k line (Steps s) = step_members k line s
frame_members k line (Ends e) = end_members k line e

-- ---- the whole memory

-- a field, and what it holds
abbrev pub field_members : Field → List Member
field_members f = named (codes "place") (Text f.name) ∷ named (codes "content") (Text f.text) ∷ []

abbrev pub field_text : Field → List ℕ
field_text f = object_text (field_members f)

-- the fields of a place: beside a state the reply
abbrev pub held_fields : Held → List Field
held_fields h = h.field ∷ option_map_or (λ reply. reply ∷ []) h.reply []

abbrev pub memory_text : List Held → List ℕ
memory_text memory = list_text (map field_text (flat_map held_fields memory))

abbrev pub memory_members : Option (List Held) → List Member
memory_members None = []
memory_members (Some memory) = named (codes "memory") (Json (memory_text memory)) ∷ []

-- an event, and the whole memory after it where that is told
abbrev pub scene_members : (event : ℕ) → (line : Option ℕ) → Scene → List Member
scene_members k line s = frame_members k line s.frame ++ memory_members s.memory

-- ---- what is told beside the events

-- a note, with its line, and with how many events came before it
abbrev pub note_members : (what : List ℕ) (line events : ℕ) (text : List ℕ) → List Member
note_members what line k text =
    named (codes "what") (Text what) ∷ named (codes "line") (Number line) ∷ named (codes "events") (Number k)
    ∷ named (codes "text") (Text text) ∷ []

-- a refusal, with the process of which it is, and why
abbrev pub refusal_members : (line events : ℕ) → Refusal → List Member
refusal_members line k refusal =
    named (codes "what") (Text (codes "refusal")) ∷ named (codes "line") (Number line) ∷ named (codes "events") (Number k)
    ∷ named (codes "process") (MaybeNumber (lane_of refusal)) ∷ named (codes "reason") (Text (refusal_words refusal)) ∷ []

abbrev pub remark_members : (line events : ℕ) → Remark → List Member
remark_members line k (Heading text) = note_members (codes "heading") line k text.items
remark_members line k (Note text) = note_members (codes "note") line k text.items
remark_members line k (Refused command refusal) = refusal_members line k refusal

-- ---- the run

abbrev pub run_members : Opening → List Member
run_members o =
    named (codes "what") (Text (codes "run")) ∷ named (codes "trace") (Number 2) ∷ named (codes "object") (Text o.object)
    ∷ named (codes "processes") (Number o.processes) ∷ named (codes "row") (Number o.row)
    ∷ named (codes "number") (Number o.number) ∷ named (codes "state") (Text o.state) ∷ []

-- where the events begin that are told, if not with the run's first: how many came before, how many processes there are then, and the
-- whole memory
abbrev pub start_text : Start → List ℕ
start_text s =
    object_text (named (codes "events") (Number s.events) ∷ named (codes "processes") (Number s.processes)
    ∷ named (codes "memory") (Json (memory_text s.memory)) ∷ [])

abbrev pub start_member : Option Start → List Member
start_member None = []
start_member (Some s) = named (codes "start") (Json (start_text s)) ∷ []

abbrev pub opening_members : Opening → List Member
opening_members o = run_members o ++ start_member o.start

-- ---- lines

-- an object on a line of its own
abbrev pub line_text : List Member → List ℕ
line_text members = object_text members ++ codes "\n"

abbrev pub remark_line : PlacedRemark → List ℕ
remark_line one = line_text (remark_members one.line one.before one.remark)

abbrev pub scene_line : (event : ℕ) → (line : Option ℕ) → Scene → List ℕ
scene_line k line scene = line_text (scene_members k line scene)

-- a run, in lines of JSON; the whole memory after each event too, where that is told
abbrev pub lines_wording : (is_whole : Bool) → Wording
lines_wording is_whole =
    record { is_whole = is_whole; opening = λ o. line_text (opening_members o); event = scene_line; remark = remark_line }

abbrev pub json_wording : Wording
json_wording = lines_wording false

abbrev pub whole_wording : Wording
whole_wording = lines_wording true

-- a head, and what is settled in an anchor
two_places : memory_text (alone (codes "head[0]") (codes "anchor") ∷ record {
  field = record { name = codes "anchor.state"; text = codes "[]" };
  reply = Some (record { name = codes "anchor.reply"; text = codes "none" });
} ∷ [])
    ≡ codes "[{\"place\":\"head[0]\",\"content\":\"anchor\"},{\"place\":\"anchor.state\",\"content\":\"[]\"},"
    ++ codes "{\"place\":\"anchor.reply\",\"content\":\"none\"}]"
unfolding object_text list_text
two_places = refl
