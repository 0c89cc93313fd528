-- The kinds of scripts: those over the objects that have names, and those over one object that somebody names.
use Rattle.std.specs.Prelude.{◌≡◌, ℕ, List, length, Option, Some, None, if◌then◌else◌, option_map, option_and_then}
use Rattle.std.specs.Str.{bytes_eq}
use Rattle.uni_script.specs.declared.grammar.ObjectName.{ObjectName}
use Rattle.uni_script.specs.declared.grammar.Version.{Version}
use Rattle.uni_script.specs.declared.grammar.Header.{Header}
use Rattle.uni_script.specs.declared.answer.Refusal.{Refusal}
use Rattle.uni_script.specs.declared.options.Options.{Options}
use Rattle.uni_script.specs.declared.options.Dialect.{Dialect}
use Rattle.uni_script.specs.declared.options.Echo.TheVariants.{Off}
use Rattle.uni_script.specs.Grammar.{header_by, object_of_word, command_of_words}
use Rattle.uni_script.specs.Objects.{SpokenObject, StateOf, InvOf, RespOf, spoken_of}
use Rattle.uni_script.specs.Meaning.{Session, session_after, opened_session, result_of_command, refusal_of_command}
use Rattle.uni_script.specs.Outcome.{Kind, Answered}

-- what words make of the session of an object, if they are a command: the session is seen as one of scripts
abbrev pub answered : {S I R B : Type 0} → SpokenObject S I R → Version → (inside : Session S I R → B) → Session S I R
    → (words : List (List ℕ)) → Option (Answered B)
answered o version inside b words =
    option_map (λ command. let result = result_of_command o b command in
    record { session = inside (session_after o b result.events); text = result.text })
    (command_of_words version o.language.inv_of_words words)

-- why words that are a command are refused on it, if they are
abbrev pub refusal_of_words : {S I R : Type 0} → SpokenObject S I R → Version → Session S I R → (words : List (List ℕ))
    → Option Refusal
refusal_of_words o version b words =
    option_and_then (refusal_of_command b) (command_of_words version o.language.inv_of_words words)

-- scripts of this kind are about this object in this dialect, where their sessions are those of the object, seen so
pub record IsAbout {B S I R : Type 0} (kind : Kind B) (o : SpokenObject S I R) (dialect : Dialect)
    (inside : Session S I R → B) : Type 0 where
  pub made : (b : Session S I R) (words : List (List ℕ)) → kind.made (inside b) words ≡ answered o dialect.version inside b words
  pub refusal : (b : Session S I R) (words : List (List ℕ))
      → kind.refusal (inside b) words ≡ refusal_of_words o dialect.version b words
  pub events : (b : Session S I R) → kind.events (inside b) ≡ length b.events
  pub echo : kind.echo ≡ dialect.echo

-- the session of a script in a version of the language: of processes that share the object of this name
pub record ScriptSession : Type 0 where
  pub version : Version
  pub object : ObjectName
  pub session : Session (StateOf object) (InvOf object) (RespOf object)

-- the one of an object's session
abbrev pub script_session : (object : ObjectName) → Version → Session (StateOf object) (InvOf object) (RespOf object) → ScriptSession
script_session object version b = record { version = version; object = object; session = b }

-- the one that a header opens
abbrev pub session_of_header : (limit : ℕ) → Header ObjectName → ScriptSession
session_of_header limit header = script_session header.object header.version (opened_session (spoken_of header.object) limit header)

-- scripts over the objects that have names
abbrev pub scripts : Options → Kind ScriptSession
scripts options = record {
  opened = λ words. option_map (session_of_header options.history) (header_by object_of_word words);
  made = λ b words. answered (spoken_of b.object) b.version (script_session b.object b.version) b.session words;
  refusal = λ b words. refusal_of_words (spoken_of b.object) b.version b.session words;
  events = λ b. length b.session.events;
  echo = options.echo;
}

-- those whose answers alone are written, and whose history can have so many events
abbrev pub scripts_of : (limit : ℕ) → Kind ScriptSession
scripts_of limit = scripts (record { history = limit; echo = Off })

-- the session of a script over one object, in a version of the language
pub record OwnSession (S I R : Type 0) : Type 0 where
  pub version : Version
  pub session : Session S I R

-- the one of the object's session
abbrev pub own_session : {S I R : Type 0} → Version → Session S I R → OwnSession S I R
own_session version b = record { version = version; session = b }

-- the one word that names the object
abbrev pub named_by : (name word : List ℕ) → Option (Unit {0})
named_by name word = if bytes_eq word name then Some tt else None

-- the session that a header opens
abbrev pub own_session_of_header : {S I R : Type 0} → SpokenObject S I R → (limit : ℕ) → Header (Unit {0}) → OwnSession S I R
own_session_of_header o limit header = own_session header.version (opened_session o limit header)

-- scripts over one object, which their headers name by this word
abbrev pub own_scripts : {S I R : Type 0} → SpokenObject S I R → (name : List ℕ) → Options → Kind (OwnSession S I R)
own_scripts o name options = record {
  opened = λ words. option_map (own_session_of_header o options.history) (header_by (named_by name) words);
  made = λ b words. answered o b.version (own_session b.version) b.session words;
  refusal = λ b words. refusal_of_words o b.version b.session words;
  events = λ b. length b.session.events;
  echo = options.echo;
}

-- those whose answers alone are written, and whose history can have so many events
abbrev pub own_scripts_of : {S I R : Type 0} → SpokenObject S I R → (name : List ℕ) → (limit : ℕ) → Kind (OwnSession S I R)
own_scripts_of o name limit = own_scripts o name (record { history = limit; echo = Off })
