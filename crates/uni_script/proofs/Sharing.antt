-- Words on the session of an object, seen as one of scripts.
use Rattle.uni_script.proofs.Vocabulary.{IsAbout, List, None, Session, Some, SpokenObject, answered, command_of_words, own_scripts, own_session, refl, refusal_of_command, refusal_of_words, result_of_command, script_session, scripts, session_after, spoken_of, ℕ, ◌≡◌}
use Rattle.uni_script.specs.declared.grammar.ObjectName.{ObjectName}
use Rattle.uni_script.specs.declared.options.Options.{Options}
use Rattle.uni_script.specs.declared.grammar.Version.{Version}
use Rattle.uni_script.specs.declared.grammar.Command.{Command}

module _ {S I R B : Type 0} (o : SpokenObject S I R) (version : Version) (inside : Session S I R → B) (b : Session S I R) (words : List (List ℕ)) where
  pub answered-some : (command : Command I) → command_of_words version o.language.inv_of_words words ≡ Some command
      → answered o version inside b words ≡ Some (record { session = inside (session_after o b (result_of_command o b command).events); text = (result_of_command o b command).text })
  answered-some command is = rw is refl

  pub answered-none : command_of_words version o.language.inv_of_words words ≡ None → answered o version inside b words ≡ None
  answered-none none = rw none refl

  pub refusal_of_words-some : (command : Command I) → command_of_words version o.language.inv_of_words words ≡ Some command
      → refusal_of_words o version b words ≡ refusal_of_command b command
  refusal_of_words-some command is = rw is refl

-- scripts over the objects that have names are about each of them
pub scripts_are_about : (options : Options) (object : ObjectName) (version : Version)
    → IsAbout (scripts options) (spoken_of object) (record { version = version; echo = options.echo }) (script_session object version)
scripts_are_about options object version = record { made = λ b words. refl; refusal = λ b words. refl; events = λ b. refl; echo = refl }

-- and scripts over one object about it
pub own_scripts_are_about : {S I R : Type 0} (o : SpokenObject S I R) (name : List ℕ) (options : Options) (version : Version)
    → IsAbout (own_scripts o name options) o (record { version = version; echo = options.echo }) (own_session version)
own_scripts_are_about o name options version = record { made = λ b words. refl; refusal = λ b words. refl; events = λ b. refl; echo = refl }
