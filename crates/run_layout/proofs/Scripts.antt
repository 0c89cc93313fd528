-- What a picture shows of a script, by the record of its run.
use Rattle.run_layout.proofs.Vocabulary.{Event, HasRangeFault, HasRangeFaultOf, HasRunWhole, Heard, IsOwnRunOf, IsRunOf, IsScriptRun, IsSubject, IsSubjectOf, Kind, List, None, Off, Option, Options, PlacedRemark, Queue, Range, Recording, RangeFault, RunMarks, ScriptRecord, ScriptRun, ScriptSession, Session, Some, SpokenObject, Version, ap, count_in, events_of_record, events_shown, length, map, marks_of_events, marks_of_own, marks_of_record, marks_of_session, own_scripts, own_scripts_of, range_fault, refl, remark_at, remarks_of_script, scripts_of, session_of_record, subst, sym, ℕ, ◌∙◌, ◌≡◌, ◌≤◌}
use Rattle.run_layout.proofs.Ranges.{few_in}

marks_of_session-record : (version : Version) (r : ScriptRecord) → marks_of_session (session_of_record version r) ≡ marks_of_record r
marks_of_session-record version (Queue r) = refl
marks_of_session-record version r = refl

events-record : (version : Version) (r : ScriptRecord) → length (session_of_record version r).session.events ≡ events_of_record r
events-record version (Queue r) = refl
events-record version r = refl

-- the marks of a record tell how many events it has
events-marks : (r : ScriptRecord) → (marks_of_record r).events ≡ events_of_record r
unfolding marks_of_events
events-marks (Queue r) = refl
events-marks r = refl

-- the session of a run has the events of its record
pub events-run : (b : ScriptSession) (version : Version) (r : ScriptRecord) → b ≡ session_of_record version r → length b.session.events ≡ events_of_record r
events-run b version r is = ap (λ (s : ScriptSession). length s.session.events) is ∙ events-record version r

-- a run with the options by default
pub default_run : (options : Options) (left : Option (List ℕ)) (run : ScriptRun ScriptRecord) → options ≡ record { history = 1048576; echo = Off } → IsScriptRun options left run
    → IsScriptRun (record { history = 1048576; echo = Off }) left run
default_run options left run same is = subst (λ o. IsScriptRun o left run) same is

pub default_own_run : {O S I R : Type 0} (o : SpokenObject S I R) (name : List ℕ) (options : Options) (left : Option (List ℕ)) (run : ScriptRun (Recording O S I R)) → options ≡ record { history = 1048576; echo = Off }
    → HasRunWhole (own_scripts o name options) left (λ b remarks. IsOwnRunOf o b remarks run)
    → HasRunWhole (own_scripts o name (record { history = 1048576; echo = Off })) left (λ b remarks. IsOwnRunOf o b remarks run)
default_own_run o name options left run same is = subst (λ options. HasRunWhole (own_scripts o name options) left (λ b remarks. IsOwnRunOf o b remarks run)) same is

-- a script that has run whole is a subject, or these events can't be chosen of it
module _ {B : Type 0} (kind : Kind B) (marks_in : B → RunMarks) (range : Range) (left : Option (List ℕ)) (Holds : B → Heard → Type 0) (is : HasRunWhole kind left Holds) where
  as_subject : (marks : RunMarks) (remarks : List PlacedRemark) → range_fault range (kind.events is.3.0) ≡ None → marks ≡ marks_in is.3.0
      → remarks_of_script kind is.0 ≡ map remark_at remarks → IsSubjectOf kind marks_in range left marks remarks
  as_subject marks remarks fits same told =
      record { script = is.0; input = is.1; good = is.2; session = is.3.0; session_is = is.3.1; fits = fits; marks_are = same; remarks_are = told }

  as_fault : (e : RangeFault) → range_fault range (kind.events is.3.0) ≡ Some e → HasRangeFaultOf kind range e left
  as_fault e fault = record { script = is.0; input = is.1; good = is.2; session = is.3.0; session_is = is.3.1; fault = fault }

module _ (range : Range) (left : Option (List ℕ)) (run : ScriptRun ScriptRecord) (is : IsScriptRun (record { history = 1048576; echo = Off }) left run) where
  pub subject_run : (marks : RunMarks) → range_fault range (events_of_record run.record) ≡ None → marks ≡ marks_of_record run.record → IsSubject range left marks run.remarks.items
  subject_run marks fits same =
      let of = is.3.2 in
      as_subject (scripts_of 1048576) marks_of_session range left (λ b heard. IsRunOf b heard run) is marks run.remarks.items
      (subst (λ n. range_fault range n ≡ None) (sym (events-run is.3.0 of.version run.record of.session)) fits)
      (same ∙ sym (marks_of_session-record of.version run.record) ∙ ap marks_of_session (sym of.session)) of.remarks_are

  pub fault_run : (e : RangeFault) → range_fault range (events_of_record run.record) ≡ Some e → HasRangeFault range e left
  fault_run e fault =
      as_fault (scripts_of 1048576) marks_of_session range left (λ b heard. IsRunOf b heard run) is e
      (subst (λ n. range_fault range n ≡ Some e) (sym (events-run is.3.0 is.3.2.version run.record is.3.2.session)) fault)

-- a subject has as many events as its record
pub few_run : (range : Range) (r : ScriptRecord) (marks : RunMarks) → marks ≡ marks_of_record r → range_fault range (events_of_record r) ≡ None → count_in range marks.events ≤ 2000
few_run range r marks same fits = subst (λ n. count_in range n ≤ 2000) (sym (ap (λ (m : RunMarks). m.events) same ∙ events-marks r)) (few_in range (events_of_record r) fits)

-- the same of the run of a script over one object
module _ {O S I R : Type 0} (o : SpokenObject S I R) (text : S → List ℕ) (name : List ℕ) (range : Range) (left : Option (List ℕ)) (run : ScriptRun (Recording O S I R))
    (is : HasRunWhole (own_scripts_of o name 1048576) left (λ b remarks. IsOwnRunOf o b remarks run)) where
  abbrev stored : List (Event I)
  stored = events_shown run.record.events

  pub own_subject : (marks : RunMarks) → range_fault range (length stored) ≡ None → marks ≡ marks_of_events o text name run.record.processes run.record.first stored
      → IsSubjectOf (own_scripts_of o name 1048576) (marks_of_own o text name) range left marks run.remarks.items
  own_subject marks fits same =
      let of = is.3.2 in
      as_subject (own_scripts_of o name 1048576) (marks_of_own o text name) range left (λ b heard. IsOwnRunOf o b heard run) is marks run.remarks.items
      (subst (λ (s : Session S I R). range_fault range (length s.events) ≡ None) (sym of.session) fits)
      (same ∙ ap (λ (s : Session S I R). marks_of_events o text name s.processes s.first s.events) (sym of.session)) of.remarks_are

  pub own_few : (marks : RunMarks) → range_fault range (length stored) ≡ None → marks ≡ marks_of_events o text name run.record.processes run.record.first stored → count_in range marks.events ≤ 2000
  unfolding marks_of_events
  own_few marks fits same = subst (λ n. count_in range n ≤ 2000) (sym (ap (λ (m : RunMarks). m.events) same)) (few_in range (length stored) fits)

  pub own_remarks : length run.remarks.items ≤ 100000
  own_remarks = is.3.2.few

  pub own_fault : (e : RangeFault) → range_fault range (length stored) ≡ Some e → HasRangeFaultOf (own_scripts_of o name 1048576) range e left
  own_fault e fault =
      as_fault (own_scripts_of o name 1048576) (marks_of_own o text name) range left (λ b heard. IsOwnRunOf o b heard run) is e
      (subst (λ (s : Session S I R). range_fault range (length s.events) ≡ Some e) (sym is.3.2.session) fault)
