-- What a picture shows of a script.
use Rattle.std.specs.Prelude.{◌≡◌, ℕ, List, ◌++◌, length, map, Option, None, Some, codes}
use Rattle.run_layout.specs.Vocabulary.{pairs_text, numbers_text, sticky_text, Event, opened_world, events_shown, ObjectName, ScriptRecord, Queue, Directory, Book, Sticky, PlacedRemark, fault_text, InvOf, SpokenObject, StateOf, spoken_of, Kind, outcome_of_script, word_of_object, ScriptSession, OwnSession, scripts_of, IsInput, fault_of_script, remark_at, remarks_of_script, RunMarks, marks_of_run, PictureFault, Script, OfRange, Misdrawn, Range, RangeFault, PastEnd, TooManyEvents}
use Rattle.run_layout.specs.Choice.{range_fault}
use Rattle.uni_script.specs.declared.grammar.ObjectName.TheVariants as name

-- the text of the states of a named object
abbrev pub state_text_of : (object : ObjectName) → StateOf object → List ℕ
state_text_of name.Queue = numbers_text
state_text_of name.Directory = pairs_text
state_text_of name.Book = numbers_text
state_text_of name.Sticky = sticky_text

-- the marks of some events of n processes, on an object of this name, with the text of each of its states
unfoldable pub marks_of_events : {S I R : Type 0} → SpokenObject S I R → (S → List ℕ) → (name : List ℕ) → (n first : ℕ)
    → List (Event I) → RunMarks
marks_of_events o text name n first events = marks_of_run o text name (opened_world n o.object.initial first) events

-- those of a named object
abbrev pub marks_of_named : (object : ObjectName) → (n first : ℕ) → List (Event (InvOf object)) → RunMarks
marks_of_named object = marks_of_events (spoken_of object) (state_text_of object) (word_of_object object)

-- those of a record, by its object
abbrev pub marks_of_record : ScriptRecord → RunMarks
marks_of_record (Queue r) = marks_of_named name.Queue r.processes r.first (events_shown r.events)
marks_of_record (Directory r) = marks_of_named name.Directory r.processes r.first (events_shown r.events)
marks_of_record (Book r) = marks_of_named name.Book r.processes r.first (events_shown r.events)
marks_of_record (Sticky r) = marks_of_named name.Sticky r.processes r.first (events_shown r.events)

-- how many events it has
abbrev pub events_of_record : ScriptRecord → ℕ
events_of_record (Queue r) = length (events_shown r.events)
events_of_record (Directory r) = length (events_shown r.events)
events_of_record (Book r) = length (events_shown r.events)
events_of_record (Sticky r) = length (events_shown r.events)

-- those of the session which a script leaves
abbrev pub marks_of_session : ScriptSession → RunMarks
marks_of_session b = marks_of_named b.object b.session.processes b.session.first b.session.events

-- that there are too many events, for what was asked for
abbrev pub too_many_text : (form : List ℕ) → List ℕ
too_many_text form = codes "too many events for " ++ form ++ codes ": at most 2000"

-- the text of a fault
abbrev pub picture_fault_text : PictureFault → List ℕ
picture_fault_text (Script e) = fault_text e
picture_fault_text (OfRange PastEnd) = codes "no event is left: the range begins after the last one"
picture_fault_text (OfRange TooManyEvents) = too_many_text (codes "a picture")
picture_fault_text Misdrawn = codes "the picture does not show its run"

-- a fault of the choice of events
abbrev pub IsOfRange : PictureFault → Type 0
IsOfRange (OfRange e) = Unit {0}
IsOfRange _ = ⊥

-- those of a session of scripts over one object, which this word names
abbrev pub marks_of_own : {S I R : Type 0} → SpokenObject S I R → (S → List ℕ) → (name : List ℕ) → OwnSession S I R → RunMarks
marks_of_own o text name b = marks_of_events o text name b.session.processes b.session.first b.session.events

-- the reader had a script without a fault, of which these events can be chosen; these are the marks of its session, and what it
-- tells
pub record IsSubjectOf {B : Type 0} (kind : Kind B) (marks_in : B → RunMarks) (range : Range) (left : Option (List ℕ)) (marks : RunMarks)
    (remarks : List PlacedRemark) : Type 0 where
  pub script : List ℕ
  pub input : IsInput left script
  pub good : fault_of_script kind script ≡ None
  pub session : B
  pub session_is : (outcome_of_script kind script).session ≡ Some session
  pub fits : range_fault range (kind.events session) ≡ None
  pub marks_are : marks ≡ marks_in session
  pub remarks_are : remarks_of_script kind script ≡ map remark_at remarks

-- the reader had a script without a fault, of which these events can't be chosen, and this is why
pub record HasRangeFaultOf {B : Type 0} (kind : Kind B) (range : Range) (e : RangeFault) (left : Option (List ℕ)) : Type 0 where
  pub script : List ℕ
  pub input : IsInput left script
  pub good : fault_of_script kind script ≡ None
  pub session : B
  pub session_is : (outcome_of_script kind script).session ≡ Some session
  pub fault : range_fault range (kind.events session) ≡ Some e

-- the same of scripts over the named objects
abbrev pub IsSubject : Range → (left : Option (List ℕ)) (marks : RunMarks) (remarks : List PlacedRemark) → Type 0
IsSubject range left marks remarks = IsSubjectOf (scripts_of 1048576) marks_of_session range left marks remarks

abbrev pub HasRangeFault : Range → RangeFault → (left : Option (List ℕ)) → Type 0
HasRangeFault range e left = HasRangeFaultOf (scripts_of 1048576) range e left
