-- What is written of a command that was made.
use Rattle.std.specs.Prelude.{ℕ, List, Option, None, Some}
use Rattle.uni_model.specs.Places.{head_seq}
use Rattle.uni_model.specs.Worlds.{WorldOf}
use Rattle.uni_script.specs.declared.answer.Refusal.{Refusal}
use Rattle.uni_script.specs.declared.answer.Answer.{Answer}
use Rattle.uni_script.specs.declared.answer.Answer.TheVariants.{Called, Refused, Returned, Going, Trimmed, Reshaped, Heads, Log}
use Rattle.uni_script.specs.Answer.{called_text, refused_text, returned_text, going_text, trimmed_text, reshaped_text, heads_text}
use Rattle.uni_script.specs.Objects.{SpokenObject}
use Rattle.uni_script.specs.Meaning.{log_text}

-- the lines of an answer, where this is the world after the command
abbrev pub answer_text : {S I R : Type 0} → SpokenObject S I R → WorldOf S I R → Answer R → List ℕ
answer_text o w (Called call) = called_text call
answer_text o w (Refused refusal) = refused_text refusal
answer_text o w (Returned call response steps turns) = returned_text call (o.language.resp_text response) steps turns
answer_text o w (Going call steps turns) = going_text call steps turns
answer_text o w (Trimmed number) = trimmed_text number
answer_text o w (Reshaped count number) = reshaped_text count number
answer_text o w Heads = heads_text w.n (head_seq w.memory)
answer_text o w Log = log_text o w

-- why a command was refused, where that is the answer
abbrev pub refusal_in : {R : Type 0} → Answer R → Option Refusal
refusal_in (Refused refusal) = Some refusal
refusal_in (Called call) = None
refusal_in (Returned call response steps turns) = None
refusal_in (Going call steps turns) = None
refusal_in (Trimmed number) = None
refusal_in (Reshaped count number) = None
refusal_in Heads = None
refusal_in Log = None

-- the answer to a command after which the process has no call pending
abbrev pub IsOver : {R : Type 0} → Answer R → Type 0
IsOver (Going call steps turns) = ⊥
IsOver _ = Unit {0}
