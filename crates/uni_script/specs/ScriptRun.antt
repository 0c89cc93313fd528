-- The run of a script whose record is kept.
use Rattle.std.specs.Prelude.{◌≡◌, ◌≤◌, ℕ, List, length, Option, None, Some, map}
use Rattle.uni_script.specs.declared.grammar.Version.{Version}
use Rattle.uni_script.specs.declared.grammar.ObjectName.TheVariants as name
use Rattle.uni_script.specs.declared.script_run.Ran.{Ran}
use Rattle.uni_script.specs.declared.script_run.ScriptRun.{ScriptRun}
use Rattle.uni_script.specs.declared.script_run.ScriptRecord.{ScriptRecord}
use Rattle.uni_script.specs.declared.script_run.ScriptRecord.TheVariants.{Queue, Directory, Book, Sticky}
use Rattle.uni_script.specs.Remarks.{Heard, remark_at, heard_of_script}
use Rattle.uni_record.specs.Recorded.{Recording}
use Rattle.uni_script.specs.declared.summary.Summary.{Summary}
use Rattle.uni_script.specs.declared.options.Options.{Options}
use Rattle.uni_script.specs.Objects.{SpokenObject}
use Rattle.uni_script.specs.Meaning.{Session, session_of}
use Rattle.uni_script.specs.Outcome.{Kind, outcome_of_script}
use Rattle.uni_script.specs.Scripts.{ScriptSession, OwnSession, script_session, scripts}
use Rattle.uni_script.specs.Promises.{IsPromised, IsPromisedSession}
use Rattle.uni_script.specs.Summary.{summary_of, summary_of_session}
use Rattle.uni_script.specs.Replay.{IsInput, fault_of_script}

-- the session of a script in a version of the language whose record this is
abbrev pub session_of_record : Version → ScriptRecord → ScriptSession
session_of_record version (Queue recorded) = script_session name.Queue version (session_of recorded)
session_of_record version (Directory recorded) = script_session name.Directory version (session_of recorded)
session_of_record version (Book recorded) = script_session name.Book version (session_of recorded)
session_of_record version (Sticky recorded) = script_session name.Sticky version (session_of recorded)

-- the run of a script that leaves this session and tells this; each of its lines, 100,000 at most, has one remark at most
pub record IsRunOf (b : ScriptSession) (heard : Heard) (run : ScriptRun ScriptRecord) : Type 0 where
  pub version : Version
  pub session : b ≡ session_of_record version run.record
  pub remarks_are : heard.remarks ≡ map remark_at run.remarks.items
  pub lines_are : heard.lines ≡ run.lines.items
  pub few : length run.remarks.items ≤ 100000

-- the reader had a script without a fault that leaves a session and tells something, of which this holds
abbrev pub HasRunWhole : {B : Type 0} (kind : Kind B) (left : Option (List ℕ)) (Holds : B → Heard → Type 0) → Type 0
HasRunWhole {B = B} kind left Holds =
    (script : List ℕ) × IsInput left script × (fault_of_script kind script ≡ None)
    × ((b : B) × ((outcome_of_script kind script).session ≡ Some b) × Holds b (heard_of_script kind script))

-- the reader had a script without a fault, whose run this is
abbrev pub IsScriptRun : (options : Options) (left : Option (List ℕ)) → ScriptRun ScriptRecord → Type 0
IsScriptRun options left run = HasRunWhole (scripts options) left (λ b heard. IsRunOf b heard run)

-- what was made of a script of so many lines that leaves this session, a session of this object, seen so: the summary is that of the
-- object's session, and what is promised of it holds
abbrev pub IsSummaryOf : {B S I R : Type 0} → SpokenObject S I R → (inside : Session S I R → B) → Session S I R → (lines : ℕ)
    → B → Summary → Type 0
IsSummaryOf o inside after lines b summary = (b ≡ inside after) × (summary ≡ summary_of o lines after) × IsPromised o after

-- a record of it, and how much it has done
abbrev pub IsRanAs : {B O S I R : Type 0} → SpokenObject S I R → (inside : Session S I R → B) → (lines : ℕ) → B
    → Ran (Recording O S I R) → Type 0
IsRanAs o inside lines b ran = IsSummaryOf o inside (session_of ran.record) lines b ran.summary

-- the record of a script over the named objects
abbrev pub IsRan : (lines : ℕ) → ScriptSession → Ran ScriptRecord → Type 0
IsRan lines b ran =
    (ran.summary ≡ summary_of_session lines b) × IsPromisedSession b
    × ((version : Version) × (b ≡ session_of_record version ran.record))

-- the record of a script over one object
abbrev pub IsOwnRan : {O S I R : Type 0} → SpokenObject S I R → (lines : ℕ) → OwnSession S I R → Ran (Recording O S I R)
    → Type 0
IsOwnRan o lines b ran = (ran.summary ≡ summary_of o lines b.session) × IsPromised o b.session × (b.session ≡ session_of ran.record)

-- the run of a script over one object that leaves this session and tells this
pub record IsOwnRunOf {O S I R : Type 0} (o : SpokenObject S I R) (b : OwnSession S I R) (heard : Heard)
    (run : ScriptRun (Recording O S I R)) : Type 0 where
  pub session : b.session ≡ session_of run.record
  pub promised : IsPromised o b.session
  pub remarks_are : heard.remarks ≡ map remark_at run.remarks.items
  pub lines_are : heard.lines ≡ run.lines.items
  pub few : length run.remarks.items ≤ 100000
