-- How much a script has done.
use Rattle.std.specs.Prelude.{ℕ, length}
use Rattle.uni_model.specs.Worlds.{opened_world}
use Rattle.uni_model.specs.History.{history_of}
use Rattle.uni_record.specs.Event.{calls_in, responses_in}
use Rattle.uni_script.specs.declared.summary.Summary.{Summary}
use Rattle.uni_script.specs.Objects.{SpokenObject, spoken_of}
use Rattle.uni_script.specs.Meaning.{Session}
use Rattle.uni_script.specs.Scripts.{ScriptSession}

-- how many responses the history of a session has
abbrev pub responses_of : {S I R : Type 0} → SpokenObject S I R → Session S I R → ℕ
responses_of o b = length (responses_in (history_of o.object (opened_world b.processes o.object.initial b.first) b.events))

-- so many lines, the events that are calls, and the responses
abbrev pub summary_of : {S I R : Type 0} → SpokenObject S I R → (lines : ℕ) → Session S I R → Summary
summary_of o lines b = record { lines = lines; calls = calls_in b.events; returns = responses_of o b }

abbrev pub summary_of_session : (lines : ℕ) → ScriptSession → Summary
summary_of_session lines b = summary_of (spoken_of b.object) lines b.session
