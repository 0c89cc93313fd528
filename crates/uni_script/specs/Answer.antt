-- The texts of answers.
use Rattle.std.specs.Prelude.{◌≡◌, ℕ, zero, suc, ◌+◌, List, [], ◌∷◌, ◌++◌, map, Option, Some, None, codes, refl}
use Rattle.std.specs.Fmt.{decimal, digits}
use Rattle.std.specs.Option.{option_map_or}
use Rattle.seq_object.specs.declared.call_id.CallId.{CallId}
use Rattle.uni_script.specs.declared.answer.Refusal.{Refusal}
use Rattle.uni_script.specs.declared.answer.Refusal.TheVariants.{Process, Busy, Row, Idle, Pending, Sequence, History, Count}
use Rattle.uni_model.specs.Chain.{Entry}

-- the text of a call's name
abbrev pub call_text : CallId → List ℕ
call_text call = decimal call.process ++ codes "." ++ decimal call.nth

-- the text of a refusal
abbrev pub refusal_text : Refusal → List ℕ
refusal_text (Process p) = codes "refused process " ++ decimal p
refusal_text (Busy p) = codes "refused busy " ++ decimal p
refusal_text (Row p) = codes "refused row " ++ decimal p
refusal_text (Idle p) = codes "refused idle " ++ decimal p
refusal_text (Pending p) = codes "refused pending " ++ decimal p
refusal_text Sequence = codes "refused sequence"
refusal_text History = codes "refused history"
refusal_text (Count m) = codes "refused count " ++ decimal m

-- how far a call has come
abbrev pub progress_text : (steps turns : ℕ) → List ℕ
progress_text steps turns = codes " steps " ++ decimal steps ++ codes " turns " ++ decimal turns ++ 10 ∷ []

-- the line of a call that began
abbrev pub called_text : CallId → List ℕ
called_text call = codes "called " ++ call_text call ++ 10 ∷ []

-- the line of a command that was refused
abbrev pub refused_text : Refusal → List ℕ
refused_text refusal = refusal_text refusal ++ 10 ∷ []

-- the line of a call that returned, with the text of its response
abbrev pub returned_text : CallId → List ℕ → (steps turns : ℕ) → List ℕ
returned_text call reply steps turns = codes "returned " ++ call_text call ++ codes " " ++ reply ++ progress_text steps turns

-- the line of a call that goes on
abbrev pub going_text : CallId → (steps turns : ℕ) → List ℕ
going_text call steps turns = codes "going " ++ call_text call ++ progress_text steps turns

-- the numbers of the heads of so many processes, with a space before each
abbrev pub numbers_text : ℕ → (ℕ → ℕ) → List ℕ
numbers_text zero number = []
numbers_text (suc p) number = numbers_text p number ++ codes " " ++ decimal (number p)

-- the line of the heads
abbrev pub heads_text : ℕ → (ℕ → ℕ) → List ℕ
heads_text n number = codes "heads" ++ numbers_text n number ++ 10 ∷ []

-- the line of an era that ended, with the number of the new anchor
abbrev pub trimmed_text : (number : ℕ) → List ℕ
trimmed_text number = codes "trimmed " ++ decimal number ++ 10 ∷ []

-- and of one after which there are so many processes
abbrev pub reshaped_text : (count number : ℕ) → List ℕ
reshaped_text count number = codes "reshaped " ++ decimal count ++ codes " at " ++ decimal number ++ 10 ∷ []

-- the last line of a script
abbrev pub end_text : List ℕ
end_text = codes "end" ++ 10 ∷ []

-- the line of an entry of the log, with these texts of invocations and responses; the response is a question mark where
-- there is none yet
abbrev pub entry_text : {I R : Type 0} → (I → List ℕ) → (R → List ℕ) → Entry I R → List ℕ
entry_text inv_text resp_text entry =
    decimal entry.number ++ codes " " ++ decimal entry.call.process ++ codes "." ++ decimal entry.call.nth ++ codes " "
    ++ inv_text entry.call.inv ++ codes " -> " ++ option_map_or resp_text entry.response (codes "?") ++ 10 ∷ []

a_call_began : called_text (record { process = 0; nth = 1 }) ≡ codes "called 0.1" ++ 10 ∷ []
unfolding digits
a_call_began = refl

a_process_is_refused : refused_text (Process 9) ≡ codes "refused process 9" ++ 10 ∷ []
unfolding digits
a_process_is_refused = refl

a_call_goes_on : going_text (record { process = 0; nth = 0 }) 10 1 ≡ codes "going 0.0 steps 10 turns 1" ++ 10 ∷ []
unfolding digits
a_call_goes_on = refl

an_era_ends : reshaped_text 2 3 ≡ codes "reshaped 2 at 3" ++ 10 ∷ []
unfolding digits
an_era_ends = refl

two_heads : heads_text 2 (λ p. p + 3) ≡ codes "heads 3 4" ++ 10 ∷ []
unfolding digits
two_heads = refl

-- each text once
texts_of_refusals : map refusal_text (Process 9 ∷ Busy 9 ∷ Row 9 ∷ Idle 9 ∷ Pending 9 ∷ Sequence ∷ History ∷ Count 65 ∷ [])
    ≡ codes "refused process 9" ∷ codes "refused busy 9" ∷ codes "refused row 9" ∷ codes "refused idle 9"
    ∷ codes "refused pending 9"
    ∷ codes "refused sequence" ∷ codes "refused history" ∷ codes "refused count 65" ∷ []
unfolding digits
texts_of_refusals = refl

a_call_has_returned : returned_text (record { process = 63; nth = 4095 }) (codes "ok") 652 65
    ≡ codes "returned 63.4095 ok steps 652 turns 65" ++ 10 ∷ []
unfolding digits
a_call_has_returned = refl

an_era_is_trimmed : trimmed_text 281474976710655 ≡ codes "trimmed 281474976710655" ++ 10 ∷ []
unfolding digits
an_era_is_trimmed = refl

a_script_ends : end_text ≡ codes "end" ++ 10 ∷ []
a_script_ends = refl

no_heads : heads_text 0 (λ p. p) ≡ codes "heads" ++ 10 ∷ []
no_heads = refl

abbrev sample_entry_text : Option (List ℕ) → List ℕ
sample_entry_text response =
    entry_text (λ inv. inv) (λ resp. resp) (record
    { number = 2; call = record { process = 1; nth = 0; inv = codes "deq" }; response = response })

an_entry_has_a_response : sample_entry_text (Some (codes "empty")) ≡ codes "2 1.0 deq -> empty" ++ 10 ∷ []
unfolding digits
an_entry_has_a_response = refl

an_entry_has_none : sample_entry_text None ≡ codes "2 1.0 deq -> ?" ++ 10 ∷ []
unfolding digits
an_entry_has_none = refl
