-- What `finish` answers.
use Rattle.std.specs.Prelude.{◌≡◌, ◌⊎◌, ℕ, List}
use Rattle.seq_object.specs.declared.call_id.CallId.{CallId}
use Rattle.uni_script.specs.declared.answer.Refusal.{Refusal}
use Rattle.uni_script.specs.declared.grammar.Command.TheVariants.{Finish}
use Rattle.uni_script.specs.Answer.{refused_text, returned_text}
use Rattle.uni_script.specs.Objects.{SpokenObject}
use Rattle.uni_script.specs.Meaning.{Session, result_of_command}

-- a text says that a command was refused
abbrev pub IsRefused : List ℕ → Type 0
IsRefused text = (refusal : Refusal) × (text ≡ refused_text refusal)

-- a text says that a call has returned
abbrev pub IsReturned : List ℕ → Type 0
IsReturned text = (call : CallId) × (reply : List ℕ) × (steps : ℕ) × (turns : ℕ) × (text ≡ returned_text call reply steps turns)

-- `finish` is refused, or the call returns: it never goes on
abbrev pub FinishReturns : {S I R : Type 0} → SpokenObject S I R → Session S I R → ℕ → Type 0
FinishReturns o b p = let text = (result_of_command o b (Finish p)).text in IsRefused text ⊎ IsReturned text
