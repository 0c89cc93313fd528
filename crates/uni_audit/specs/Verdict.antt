-- The verdict of an audit: the first fault of a list of entries and a list of returns, as the check goes over them.
-- What `Agrees` means is told by `IsAudited`.
use Rattle.std.specs.Prelude.{◌≡◌, ℕ, ◌==◌, ◌&&◌, Bool, if◌then◌else◌, List, [], ◌∷◌, ◌++◌, Option, Some}
use Rattle.std.specs.Prelude.{None, length, count_by, find, option_and_then, refl}
use Rattle.std.specs.Option.{option_map_or}
use Rattle.std.specs.List.{list_any}
use Rattle.seq_object.specs.Sequential.{Sequential}
use Rattle.seq_object.specs.declared.call_id.CallId.{CallId}
use Rattle.uni_log.specs.declared.entry.Entry.{Entry}
use Rattle.uni_audit.specs.declared.verdict.Return.{Return}
use Rattle.uni_audit.specs.declared.verdict.Verdict.{Verdict}
use Rattle.uni_audit.specs.declared.verdict.Verdict.TheVariants.{Agrees, BadCall, BadReply, Missing, BadReturn, Twice}

-- whether two calls are the same
abbrev pub same_call : CallId → CallId → Bool
same_call a b = (a.process == b.process) && (a.nth == b.nth)

-- how many of these entries are calls of a process
abbrev pub count_calls_of : {I R : Type 0} → ℕ → List (Entry I R) → ℕ
count_calls_of process entries = count_by (λ e. e.call.process == process) entries

-- the reply to a call in the first of these entries that is of it; nothing where none is of it, or it has none
abbrev pub reply_to : {I R : Type 0} → CallId → List (Entry I R) → Option R
reply_to call entries = option_and_then (λ e. e.reply) (find (λ e. same_call e.call call) entries)

-- whether a call is among these returns
abbrev pub has_returned : {R : Type 0} → CallId → List (Return R) → Bool
has_returned call returns = list_any (λ r. same_call r.call call) returns

-- the first fault of two verdicts
abbrev pub first : Verdict → Verdict → Verdict
first Agrees later = later
first fault later = fault

-- an entry after these earlier ones, in a state of the object, where `same` tells whether two responses are the same
abbrev pub entry_verdict : {S I R : Type 0} → (same : R → R → Bool) → Sequential S I R → S → (earlier : List (Entry I R))
    → Entry I R → Verdict
entry_verdict same object state earlier entry =
    if entry.call.nth == count_calls_of entry.call.process earlier
    then option_map_or (λ reply. if same reply (object.answer state entry.inv) then Agrees else BadReply (length earlier))
    entry.reply Agrees
    else BadCall (length earlier)

-- these later entries, one after the other
abbrev pub entries_verdict : {S I R : Type 0} → (same : R → R → Bool) → Sequential S I R → S
    → (earlier later : List (Entry I R)) → Verdict
entries_verdict same object state earlier [] = Agrees
entries_verdict same object state earlier (entry ∷ later) =
    first (entry_verdict same object state earlier entry)
    (entries_verdict same object (object.next state entry.inv) (earlier ++ entry ∷ []) later)

-- a return after these earlier ones
abbrev pub return_verdict : {I R : Type 0} → (same : R → R → Bool) → List (Entry I R) → (earlier : List (Return R)) → Return R
    → Verdict
return_verdict same entries earlier returned =
    if has_returned returned.call earlier
    then Twice returned.call
    else option_map_or (λ reply. if same reply returned.reply then Agrees else BadReturn returned.call) (reply_to returned.call entries)
    (Missing returned.call)

-- these later returns, one after the other
abbrev pub returns_verdict : {I R : Type 0} → (same : R → R → Bool) → List (Entry I R) → (earlier later : List (Return R))
    → Verdict
returns_verdict same entries earlier [] = Agrees
returns_verdict same entries earlier (returned ∷ later) =
    first (return_verdict same entries earlier returned) (returns_verdict same entries (earlier ++ returned ∷ []) later)

-- first the entries from the object's start state, then the returns
abbrev pub verdict_of : {S I R : Type 0} → (same : R → R → Bool) → Sequential S I R → List (Entry I R) → List (Return R)
    → Verdict
verdict_of same object entries returns =
    first (entries_verdict same object object.initial [] entries) (returns_verdict same entries [] returns)

-- An object that keeps the last number and answers the one before, from 9. Process 0 asks for 7, and is answered 9; 5 is a wrong reply.
abbrev sample_call : ℕ → CallId
sample_call nth = record { process = 0; nth = nth }

abbrev sample_entry : ℕ → Option ℕ → Entry ℕ ℕ
sample_entry nth reply = record { seq = 2; call = sample_call nth; inv = 7; reply = reply }

abbrev sample_return : ℕ → Return ℕ
sample_return reply = record { call = sample_call 0; reply = reply }

abbrev sample_verdict : List (Entry ℕ ℕ) → List (Return ℕ) → Verdict
sample_verdict entries returns =
    verdict_of (λ r s. r == s) (record { initial = 9; next = λ state i. i; answer = λ state i. state }) entries returns

sample_agrees : sample_verdict (sample_entry 0 (Some 9) ∷ []) (sample_return 9 ∷ []) ≡ Agrees
sample_agrees = refl

sample_bad_reply : sample_verdict (sample_entry 0 (Some 5) ∷ []) (sample_return 9 ∷ []) ≡ BadReply 0
sample_bad_reply = refl

sample_bad_call : sample_verdict (sample_entry 1 (Some 9) ∷ []) (sample_return 9 ∷ []) ≡ BadCall 0
sample_bad_call = refl

sample_no_entry : sample_verdict [] (sample_return 9 ∷ []) ≡ Missing (sample_call 0)
sample_no_entry = refl

sample_no_reply : sample_verdict (sample_entry 0 None ∷ []) (sample_return 9 ∷ []) ≡ Missing (sample_call 0)
sample_no_reply = refl

sample_bad_return : sample_verdict (sample_entry 0 (Some 9) ∷ []) (sample_return 5 ∷ []) ≡ BadReturn (sample_call 0)
sample_bad_return = refl

sample_twice : sample_verdict (sample_entry 0 (Some 9) ∷ []) (sample_return 9 ∷ sample_return 9 ∷ []) ≡ Twice (sample_call 0)
sample_twice = refl

-- on one entry the call comes before the reply, and on one return the second time before the reply
sample_call_first : sample_verdict (sample_entry 1 (Some 5) ∷ []) [] ≡ BadCall 0
sample_call_first = refl

sample_twice_first : sample_verdict (sample_entry 0 (Some 9) ∷ []) (sample_return 9 ∷ sample_return 5 ∷ []) ≡ Twice (sample_call 0)
sample_twice_first = refl

-- the entries come before the returns
sample_entries_first : sample_verdict (sample_entry 0 (Some 5) ∷ []) (sample_return 9 ∷ sample_return 9 ∷ []) ≡ BadReply 0
sample_entries_first = refl

-- the state goes on: a second call is answered 7
sample_second : sample_verdict (sample_entry 0 (Some 9) ∷ sample_entry 1 (Some 9) ∷ []) [] ≡ BadReply 1
sample_second = refl
