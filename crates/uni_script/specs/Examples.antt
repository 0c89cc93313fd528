-- Scripts, with the text of their answers and their first fault.
use Rattle.std.specs.Prelude.{◌≡◌, ℕ, List, [], ◌∷◌, ◌++◌, length, map, replicate, Option, None, Some, option_map, codes}
use Rattle.std.specs.Prelude.{refl}
use Rattle.std.specs.Fmt.{digits}
use Rattle.ready_objects.specs.Number.{number_of_word, number_below}
use Rattle.uni_script.specs.declared.fault.BenchFault.TheVariants.{NoHeader, BadHeader, TooLong, BadByte, BadLine, TooMany}
use Rattle.uni_model.specs.Bound.{most_steps}
use Rattle.uni_model.specs.Worlds.{opened_world}
use Rattle.uni_script.specs.declared.answer.Refusal.TheVariants.{Row, Sequence, History, Count}
use Rattle.uni_script.specs.Meaning.{Session, refusal_of_call, refusal_of_end, refusal_of_reshape}
use Rattle.uni_script.specs.Outcome.{Kind, outcome_of_line, outcome_of_fault, outcome_of_script}
use Rattle.uni_script.specs.Scripts.{ScriptSession, OwnSession, scripts, scripts_of, own_scripts}
use Rattle.uni_script.specs.Summary.{summary_of_session}
use Rattle.uni_script.specs.Replay.{text_of_script, fault_of_script}
use Rattle.uni_script.specs.declared.options.Echo.TheVariants.{On}
use Rattle.uni_script.specs.declared.summary.Summary.{Summary}
use Rattle.uni_script.specs.declared.grammar.ObjectName.TheVariants.{Queue}
use Rattle.uni_script.specs.Grammar.{lines_of}
use Rattle.uni_script.specs.Objects.{StateOf, InvOf, RespOf, spoken_of}

abbrev plain : Kind ScriptSession
plain = scripts_of 1048576

-- how much a script has done
abbrev summary_of_script : List ℕ → Option Summary
summary_of_script script = option_map (summary_of_session (length (lines_of script))) (outcome_of_script plain script).session

-- a line with its end, before a text
abbrev line : List ℕ → List ℕ → List ℕ
line bytes text = bytes ++ 10 ∷ text

abbrev header : List ℕ → List ℕ
header rest = line (codes "universal 1 queue 1 8") rest

-- a value is put into the queue, and the log is read
abbrev one_call : List ℕ → List ℕ
one_call rest = header (line (codes "call 0 enq 7") (line (codes "finish 0") (line (codes "log") rest)))

abbrev one_answer : List ℕ → List ℕ
one_answer rest = line (codes "called 0.0") (line (codes "returned 0.0 ok steps 14 turns 1") (line (codes "2 0.0 enq 7 -> ok") rest))

one_call_answered : text_of_script plain (one_call []) ≡ one_answer (line (codes "end") [])
unfolding digits number_of_word
one_call_answered = refl

one_call_is_good : fault_of_script plain (one_call []) ≡ None
unfolding digits number_of_word
one_call_is_good = refl

one_call_summary : summary_of_script (one_call []) ≡ Some (record { lines = 4; calls = 1; returns = 1 })
unfolding digits number_of_word
one_call_summary = refl

-- it is read back
abbrev two_calls : List ℕ
two_calls = one_call (line (codes "call 0 deq") (line (codes "finish 0") []))

two_calls_answered : text_of_script plain two_calls
    ≡ one_answer (line (codes "called 0.1") (line (codes "returned 0.1 7 steps 14 turns 1") (line (codes "end") [])))
unfolding digits number_of_word
two_calls_answered = refl

-- a header alone
header_answered : text_of_script plain (header []) ≡ line (codes "end") []
unfolding digits number_of_word
header_answered = refl

-- the last line may lack its end
last_end_missing : text_of_script plain (header (line (codes "call 0 enq 7") (codes "finish 0")))
    ≡ text_of_script plain (header (line (codes "call 0 enq 7") (line (codes "finish 0") [])))
unfolding digits number_of_word
last_end_missing = refl

-- the answers before a fault stay
bad_line : fault_of_script plain (header (line (codes "call 0 enq 7") (codes "fin"))) ≡ Some (BadLine 3)
unfolding digits number_of_word
bad_line = refl

answers_before_bad_line : text_of_script plain (header (line (codes "call 0 enq 7") (codes "fin"))) ≡ line (codes "called 0.0") []
unfolding digits number_of_word
answers_before_bad_line = refl

leading_zeros : fault_of_script plain (header (codes "call 0 enq 007")) ≡ Some (BadLine 2)
unfolding digits number_of_word
leading_zeros = refl

no_operation_of_a_queue : fault_of_script plain (header (codes "call 0 get a")) ≡ Some (BadLine 2)
unfolding digits number_of_word
no_operation_of_a_queue = refl

-- no line is a header
nothing : fault_of_script plain [] ≡ Some (NoHeader 1)
nothing = refl

nothing_answered : text_of_script plain [] ≡ []
nothing_answered = refl

notes_alone : fault_of_script plain (line (codes "# a note") (line [] [])) ≡ Some (NoHeader 3)
notes_alone = refl

too_many_processes : fault_of_script plain (line (codes "universal 1 queue 17 8") []) ≡ Some (BadHeader 1)
unfolding digits number_of_word
too_many_processes = refl

-- notes count as lines, and their bytes are looked at
bad_byte_of_a_note : fault_of_script plain (header (line (codes "# a" ++ 9 ∷ []) [])) ≡ Some (BadByte 2)
unfolding digits number_of_word
bad_byte_of_a_note = refl

line_end_of_two_bytes : fault_of_script plain (header (line (codes "log" ++ 13 ∷ []) [])) ≡ Some (BadByte 2)
unfolding digits number_of_word
line_end_of_two_bytes = refl

note_of_200_bytes : text_of_script plain (header (line (replicate 200 35) [])) ≡ line (codes "end") []
unfolding digits number_of_word
note_of_200_bytes = refl

note_of_201_bytes : fault_of_script plain (header (line (replicate 201 35) [])) ≡ Some (TooLong 2)
unfolding digits number_of_word
note_of_201_bytes = refl

-- a line that is too long is that before it has a bad byte
too_long_comes_first : fault_of_script plain (header (line (replicate 201 9) [])) ≡ Some (TooLong 2)
unfolding digits number_of_word
too_long_comes_first = refl

-- and line 100001 is one too many before it is too long
too_many_comes_first : outcome_of_line plain 100001 None (replicate 201 9) ≡ outcome_of_fault None TooMany
too_many_comes_first = refl

-- what is refused is answered, and changes nothing
refusals : text_of_script plain (header (line (codes "finish 0")
    (line (codes "call 9 deq") (line (codes "call 0 deq") (line (codes "call 0 deq") [])))))
    ≡ line (codes "refused idle 0") (line (codes "refused process 9")
    (line (codes "called 0.0") (line (codes "refused busy 0") (line (codes "end") []))))
unfolding digits number_of_word
refusals = refl

-- of two processes, one stops after its first step, and the other places its call
abbrev stopped : List ℕ
stopped = line (codes "universal 1 queue 2 8") (line (codes "call 1 enq 5")
    (line (codes "step 1") (line (codes "call 0 enq 6") (line (codes "finish 0") (line (codes "heads") (line (codes "log") []))))))

stopped_answered : text_of_script plain stopped
    ≡ line (codes "called 1.0") (line (codes "going 1.0 steps 1 turns 0")
    (line (codes "called 0.0") (line (codes "returned 0.0 ok steps 24 turns 2")
    (line (codes "heads 3 1") (line (codes "2 1.0 enq 5 -> ok") (line (codes "3 0.0 enq 6 -> ok") (line (codes "end") [])))))))
unfolding digits number_of_word
stopped_answered = refl

-- one of them meets the bound, of 32 steps and 3 turns
abbrev bound_met : List ℕ
bound_met = line (codes "universal 1 queue 2 8") (line (codes "call 0 enq 10")
    (line (codes "step 0 10") (line (codes "call 1 deq") (line (codes "step 1 14")
    (line (codes "finish 0") (line (codes "call 0 enq 20") (line (codes "step 0") (line (codes "finish 1") []))))))))

bound_met_answered : text_of_script plain bound_met
    ≡ line (codes "called 0.0") (line (codes "going 0.0 steps 10 turns 1")
    (line (codes "called 1.0") (line (codes "going 1.0 steps 14 turns 1") (line (codes "returned 0.0 ok steps 16 turns 1")
    (line (codes "called 0.1") (line (codes "going 0.1 steps 1 turns 0")
    (line (codes "returned 1.0 10 steps 32 turns 3") (line (codes "end") []))))))))
unfolding digits number_of_word
bound_met_answered = refl

-- the first proposal to a sticky register holds
abbrev proposals : List ℕ
proposals = line (codes "universal 1 sticky 2 8")
    (line (codes "call 0 stick 5") (line (codes "finish 0") (line (codes "call 1 stick 9") (line (codes "finish 1") []))))

proposals_answered : text_of_script plain proposals
    ≡ line (codes "called 0.0") (line (codes "returned 0.0 5 steps 16 turns 1")
    (line (codes "called 1.0") (line (codes "returned 1.0 5 steps 16 turns 1") (line (codes "end") []))))
unfolding digits number_of_word
proposals_answered = refl

-- the words of a queue are none of a directory
words_of_a_queue : fault_of_script plain (line (codes "universal 1 directory 1 8") (codes "call 0 enq 7")) ≡ Some (BadLine 2)
unfolding digits number_of_word
words_of_a_queue = refl

no_such_object : fault_of_script plain (codes "universal 1 stack 1 8") ≡ Some (BadHeader 1)
unfolding digits number_of_word
no_such_object = refl

-- lines, each with its end
abbrev lines : List (List ℕ) → List ℕ
lines [] = []
lines (bytes ∷ rest) = line bytes (lines rest)

-- numbers go on after a trim, and the state stays
abbrev trimmed : List ℕ
trimmed = lines (codes "universal 1 queue 2 8" ∷ codes "call 0 enq 1" ∷ codes "finish 0" ∷ codes "trim" ∷ codes "call 1 enq 2"
    ∷ codes "step 1" ∷ codes "call 0 deq" ∷ codes "finish 0" ∷ codes "log" ∷ [])

trimmed_answered : text_of_script plain trimmed
    ≡ lines (codes "called 0.0" ∷ codes "returned 0.0 ok steps 16 turns 1" ∷ codes "trimmed 2" ∷ codes "called 1.0"
    ∷ codes "going 1.0 steps 1 turns 0"
    ∷ codes "called 0.1" ∷ codes "returned 0.1 1 steps 16 turns 1" ∷ codes "3 0.1 deq -> 1" ∷ codes "end" ∷ [])
unfolding digits number_of_word
trimmed_answered = refl

-- a row is full by the calls of the era
abbrev rows_of_one : List ℕ
rows_of_one = lines (codes "universal 1 queue 2 1" ∷ codes "call 0 enq 1" ∷ codes "finish 0" ∷ codes "call 0 enq 2"
    ∷ codes "call 1 deq" ∷ codes "finish 1" ∷ codes "trim" ∷ codes "call 0 enq 2" ∷ codes "finish 0" ∷ codes "log" ∷ [])

rows_of_one_answered : text_of_script plain rows_of_one
    ≡ lines (codes "called 0.0" ∷ codes "returned 0.0 ok steps 16 turns 1" ∷ codes "refused row 0" ∷ codes "called 1.0"
    ∷ codes "returned 1.0 1 steps 16 turns 1"
    ∷ codes "trimmed 3" ∷ codes "called 0.1" ∷ codes "returned 0.1 ok steps 16 turns 1" ∷ codes "4 0.1 enq 2 -> ok"
    ∷ codes "end" ∷ [])
unfolding digits number_of_word
rows_of_one_answered = refl

-- a script that is drawn from the words 33, 22, 20 and 16
abbrev drawn : List ℕ
drawn = lines (codes "universal 1 queue 2 8" ∷ codes "call 0 enq 7" ∷ codes "step 1" ∷ codes "trim" ∷ codes "finish 0"
    ∷ codes "finish 1" ∷ codes "log" ∷ [])

drawn_answered : text_of_script plain drawn
    ≡ lines (codes "called 0.0" ∷ codes "refused idle 1" ∷ codes "refused pending 0" ∷ codes "returned 0.0 ok steps 16 turns 1"
    ∷ codes "refused idle 1" ∷ codes "2 0.0 enq 7 -> ok" ∷ codes "end" ∷ [])
unfolding digits number_of_word
drawn_answered = refl

-- a call of one process needs room for 23 events; once it has returned, what it didn't use is free again
abbrev second_call : List ℕ
second_call = lines (codes "universal 1 queue 1 8" ∷ codes "call 0 enq 7" ∷ codes "finish 0" ∷ codes "call 0 deq"
    ∷ codes "trim" ∷ [])

second_call_refused : text_of_script (scripts_of 23) second_call
    ≡ lines (codes "called 0.0" ∷ codes "returned 0.0 ok steps 14 turns 1" ∷ codes "refused history" ∷ codes "trimmed 2"
    ∷ codes "end" ∷ [])
unfolding digits number_of_word
second_call_refused = refl

first_call_refused : text_of_script (scripts_of 22) second_call
    ≡ lines (codes "refused history" ∷ codes "refused idle 0" ∷ codes "refused history" ∷ codes "trimmed 1" ∷ codes "end" ∷ [])
unfolding digits number_of_word
first_call_refused = refl

-- in version 2 the number of processes can change
abbrev reshaped : List ℕ
reshaped = lines (codes "universal 2 queue 1 8" ∷ codes "call 0 enq 7" ∷ codes "finish 0" ∷ codes "reshape 2" ∷ codes "heads"
    ∷ codes "call 1 deq" ∷ codes "finish 1" ∷ codes "log" ∷ [])

reshaped_answered : text_of_script plain reshaped
    ≡ lines (codes "called 0.0" ∷ codes "returned 0.0 ok steps 14 turns 1" ∷ codes "reshaped 2 at 2" ∷ codes "heads 2 2"
    ∷ codes "called 1.0" ∷ codes "returned 1.0 7 steps 16 turns 1" ∷ codes "3 1.0 deq -> 7" ∷ codes "end" ∷ [])
unfolding digits number_of_word
reshaped_answered = refl

reshaped_summary : summary_of_script reshaped ≡ Some (record { lines = 8; calls = 2; returns = 2 })
unfolding digits number_of_word
reshaped_summary = refl

no_reshape_in_version_1 : fault_of_script plain (header (codes "reshape 2")) ≡ Some (BadLine 2)
unfolding digits number_of_word
no_reshape_in_version_1 = refl

-- line 100000 is the last one
line_100000_is_taken : outcome_of_line plain 100000 None (codes "# a note") ≡ record { session = None; text = []; fault = None }
line_100000_is_taken = refl

line_100001_is_too_many : outcome_of_line plain 100001 None (codes "# a note") ≡ outcome_of_fault None TooMany
line_100001_is_too_many = refl

-- a line has at most 200 bytes
line_of_200_bytes : outcome_of_line plain 1 None (replicate 200 48) ≡ outcome_of_fault None (BadHeader 1)
line_of_200_bytes = refl

line_of_201_bytes : outcome_of_line plain 1 None (replicate 201 48) ≡ outcome_of_fault None (TooLong 1)
line_of_201_bytes = refl

-- from 32 to 126
bytes_32_and_126 : text_of_script plain (header (line (35 ∷ 32 ∷ 126 ∷ []) [])) ≡ line (codes "end") []
unfolding digits number_of_word
bytes_32_and_126 = refl

byte_31 : fault_of_script plain (header (line (35 ∷ 31 ∷ []) [])) ≡ Some (BadByte 2)
unfolding digits number_of_word
byte_31 = refl

byte_127 : fault_of_script plain (header (line (35 ∷ 127 ∷ []) [])) ≡ Some (BadByte 2)
unfolding digits number_of_word
byte_127 = refl

-- the last process of two is process 1
abbrev last_process : List ℕ
last_process = lines (codes "universal 1 queue 2 8" ∷ codes "step 1" ∷ codes "step 2" ∷ codes "finish 2" ∷ codes "call 2 deq"
    ∷ codes "call 1 deq" ∷ codes "step 1" ∷ codes "heads" ∷ [])

last_process_answered : text_of_script plain last_process
    ≡ lines (codes "refused idle 1" ∷ codes "refused process 2" ∷ codes "refused process 2" ∷ codes "refused process 2"
    ∷ codes "called 1.0" ∷ codes "going 1.0 steps 1 turns 0" ∷ codes "heads 1 1" ∷ codes "end" ∷ [])
unfolding digits number_of_word
last_process_answered = refl

-- the 14th step of a call of one process is its last one
abbrev steps_of_one : List ℕ
steps_of_one = header (lines (codes "call 0 deq" ∷ codes "step 0 13" ∷ codes "step 0 1000" ∷ codes "step 0" ∷ []))

steps_of_one_answered : text_of_script plain steps_of_one
    ≡ lines (codes "called 0.0" ∷ codes "going 0.0 steps 13 turns 1" ∷ codes "returned 0.0 empty steps 14 turns 1"
    ∷ codes "refused idle 0" ∷ codes "end" ∷ [])
unfolding digits number_of_word
steps_of_one_answered = refl

-- calls of two processes need room for 33 events each
abbrev both_call : List ℕ
both_call = lines (codes "universal 1 queue 2 8" ∷ codes "call 0 deq" ∷ codes "call 1 deq" ∷ [])

both_call_in_66_events : text_of_script (scripts_of 66) both_call
    ≡ lines (codes "called 0.0" ∷ codes "called 1.0" ∷ codes "end" ∷ [])
unfolding digits number_of_word
both_call_in_66_events = refl

second_is_refused_in_65 : text_of_script (scripts_of 65) both_call
    ≡ lines (codes "called 0.0" ∷ codes "refused history" ∷ codes "end" ∷ [])
unfolding digits number_of_word
second_is_refused_in_65 = refl

-- an era ends by an event
trims_in_one_event : text_of_script (scripts_of 1) (header (lines (codes "trim" ∷ codes "trim" ∷ [])))
    ≡ lines (codes "trimmed 1" ∷ codes "refused history" ∷ codes "end" ∷ [])
unfolding digits number_of_word
trims_in_one_event = refl

-- a session of two processes whose list is an anchor with a number, with rows of four calls
abbrev anchored : (number : ℕ) → Session ℕ ℕ ℕ
anchored number = record { processes = 2; first = number; row = 4; limit = 8; events = []; world = opened_world 2 9 number }

-- the greatest number is 2^48 - 1
numbers_that_fit : refusal_of_end (anchored 281474976710647) 2 ≡ None
numbers_that_fit = refl

numbers_past_the_greatest : refusal_of_end (anchored 281474976710648) 2 ≡ Some Sequence
numbers_past_the_greatest = refl

-- there can be 1 to 64 processes
reshapes_to_1_and_64 : map (refusal_of_reshape (anchored 1)) (1 ∷ 64 ∷ []) ≡ None ∷ None ∷ []
reshapes_to_1_and_64 = refl

reshapes_to_0_and_65 : map (refusal_of_reshape (anchored 1)) (0 ∷ 65 ∷ []) ≡ Some (Count 0) ∷ Some (Count 65) ∷ []
reshapes_to_0_and_65 = refl

-- names, places and accounts in calls
abbrev names : List ℕ
names = lines (codes "universal 1 directory 1 8" ∷ codes "call 0 put az09 7" ∷ codes "finish 0" ∷ codes "call 0 at 255"
    ∷ codes "finish 0" ∷ codes "call 0 size" ∷ codes "finish 0" ∷ codes "log" ∷ [])

names_answered : text_of_script plain names
    ≡ lines (codes "called 0.0" ∷ codes "returned 0.0 new steps 14 turns 1" ∷ codes "called 0.1"
    ∷ codes "returned 0.1 none steps 14 turns 1" ∷ codes "called 0.2" ∷ codes "returned 0.2 1 steps 14 turns 1"
    ∷ codes "2 0.0 put az09 7 -> new" ∷ codes "3 0.1 at 255 -> none" ∷ codes "4 0.2 size -> 1" ∷ codes "end" ∷ [])
unfolding digits number_below number_of_word
names_answered = refl

place_256_is_none : fault_of_script plain (lines (codes "universal 1 directory 1 8" ∷ codes "call 0 at 256" ∷ [])) ≡ Some (BadLine 2)
unfolding digits number_below number_of_word
place_256_is_none = refl

abbrev accounts : List ℕ
accounts = lines (codes "universal 1 book 1 8" ∷ codes "call 0 deposit 15 999999999999" ∷ codes "finish 0"
    ∷ codes "call 0 deposit 15 1" ∷ codes "finish 0" ∷ codes "log" ∷ [])

accounts_answered : text_of_script plain accounts
    ≡ lines (codes "called 0.0" ∷ codes "returned 0.0 999999999999 steps 14 turns 1" ∷ codes "called 0.1"
    ∷ codes "returned 0.1 over steps 14 turns 1"
    ∷ codes "2 0.0 deposit 15 999999999999 -> 999999999999" ∷ codes "3 0.1 deposit 15 1 -> over" ∷ codes "end" ∷ [])
unfolding digits number_below number_of_word
accounts_answered = refl

account_16_is_none : fault_of_script plain (lines (codes "universal 1 book 1 8" ∷ codes "call 0 deposit 16 1" ∷ []))
    ≡ Some (BadLine 2)
unfolding digits number_below number_of_word
account_16_is_none = refl

-- the last process of the most that each version has
abbrev last_process_of : (version most last : List ℕ) → List ℕ
last_process_of version most last =
    lines ((codes "universal " ++ version ++ codes " queue " ++ most ++ codes " 4096") ∷ (codes "step " ++ last)
    ∷ (codes "step " ++ most) ∷ (codes "finish " ++ last) ∷ (codes "finish " ++ most)
    ∷ (codes "call " ++ most ++ codes " deq") ∷ (codes "call " ++ last ++ codes " deq") ∷ (codes "step " ++ last) ∷ [])

process_15_of_16_answered : text_of_script plain (last_process_of (codes "1") (codes "16") (codes "15"))
    ≡ lines (codes "refused idle 15" ∷ codes "refused process 16" ∷ codes "refused idle 15" ∷ codes "refused process 16"
    ∷ codes "refused process 16" ∷ codes "called 15.0" ∷ codes "going 15.0 steps 1 turns 0" ∷ codes "end" ∷ [])
unfolding digits number_of_word
process_15_of_16_answered = refl

process_63_of_64_answered : text_of_script plain (last_process_of (codes "2") (codes "64") (codes "63"))
    ≡ lines (codes "refused idle 63" ∷ codes "refused process 64" ∷ codes "refused idle 63" ∷ codes "refused process 64"
    ∷ codes "refused process 64" ∷ codes "called 63.0" ∷ codes "going 63.0 steps 1 turns 0" ∷ codes "end" ∷ [])
unfolding digits number_of_word
process_63_of_64_answered = refl

process_16_is_there_in_version_2 : text_of_script plain
    (lines (codes "universal 2 queue 17 8" ∷ codes "step 16" ∷ codes "step 17" ∷ []))
    ≡ lines (codes "refused idle 16" ∷ codes "refused process 17" ∷ codes "end" ∷ [])
unfolding digits number_of_word
process_16_is_there_in_version_2 = refl

-- the greatest number of a process is read, and refused
process_999999999999_is_refused : text_of_script plain
    (header (lines (codes "call 999999999999 deq" ∷ codes "step 999999999999 1000" ∷ codes "finish 999999999999" ∷ [])))
    ≡ lines (codes "refused process 999999999999" ∷ codes "refused process 999999999999" ∷ codes "refused process 999999999999"
    ∷ codes "end" ∷ [])
unfolding digits number_of_word
process_999999999999_is_refused = refl

process_1000000000000_is_none : map (λ command. fault_of_script plain (header command))
    (codes "call 1000000000000 deq" ∷ codes "step 1000000000000 1000" ∷ codes "finish 1000000000000" ∷ [])
    ≡ Some (BadLine 2) ∷ Some (BadLine 2) ∷ Some (BadLine 2) ∷ []
unfolding digits number_of_word
process_1000000000000_is_none = refl

-- up to 1000 steps are a line, whether or not they are refused
steps_1_and_1000_are_refused : text_of_script plain (header (lines (codes "step 0 1" ∷ codes "step 0 1000" ∷ [])))
    ≡ lines (codes "refused idle 0" ∷ codes "refused idle 0" ∷ codes "end" ∷ [])
unfolding digits number_of_word
steps_1_and_1000_are_refused = refl

steps_0_and_1001_are_none : map (λ command. fault_of_script plain (header command)) (codes "step 0 0" ∷ codes "step 0 1001" ∷ [])
    ≡ Some (BadLine 2) ∷ Some (BadLine 2) ∷ []
unfolding digits number_of_word
steps_0_and_1001_are_none = refl

reshapes_answered : text_of_script plain (lines (codes "universal 2 queue 2 8" ∷ codes "reshape 0" ∷ codes "reshape 65"
    ∷ codes "reshape 999999999999" ∷ codes "step 2" ∷ codes "reshape 64" ∷ codes "step 63" ∷ codes "step 64" ∷ codes "reshape 1"
    ∷ codes "step 1" ∷ []))
    ≡ lines (codes "refused count 0" ∷ codes "refused count 65" ∷ codes "refused count 999999999999" ∷ codes "refused process 2"
    ∷ codes "reshaped 64 at 1" ∷ codes "refused idle 63" ∷ codes "refused process 64" ∷ codes "reshaped 1 at 1"
    ∷ codes "refused process 1" ∷ codes "end" ∷ [])
unfolding digits number_of_word
reshapes_answered = refl

reshape_1000000000000_is_none : fault_of_script plain (lines (codes "universal 2 queue 2 8" ∷ codes "reshape 1000000000000" ∷ []))
    ≡ Some (BadLine 2)
unfolding digits number_of_word
reshape_1000000000000_is_none = refl

-- so many steps a call takes at most
steps_of_1_and_64_processes : map most_steps (1 ∷ 64 ∷ []) ≡ 22 ∷ 652 ∷ []
steps_of_1_and_64_processes = refl

-- a session of 64 processes with rows of 4096 calls, in which each has made so many, with a history of so many events at most
abbrev begun_by_each : (calls limit : ℕ) → Session ℕ ℕ ℕ
begun_by_each calls limit =
    record {
      processes = 64;
      first = 1;
      row = 4096;
      limit = limit;
      events = [];
      world = record (opened_world 64 9 1) { begun = λ p. calls };
    }

calls_4096_and_4097_of_a_row : map (λ calls. refusal_of_call (begun_by_each calls 1048576) 63) (4095 ∷ 4096 ∷ [])
    ≡ None ∷ Some (Row 63) ∷ []
calls_4096_and_4097_of_a_row = refl

-- a call of 64 processes needs room for 653 events
events_for_a_call_of_64 : map (λ limit. refusal_of_call (begun_by_each 0 limit) 63) (653 ∷ 652 ∷ []) ≡ None ∷ Some History ∷ []
events_for_a_call_of_64 = refl

-- line 100000 can have each of the other faults, and line 100001 has none of them
faults_of_line_100000 : map (λ bytes. (outcome_of_line plain 100000 None bytes).fault)
    (replicate 201 48 ∷ (31 ∷ []) ∷ (48 ∷ []) ∷ [])
    ≡ Some (TooLong 100000) ∷ Some (BadByte 100000) ∷ Some (BadHeader 100000) ∷ []
faults_of_line_100000 = refl

faults_of_line_100001 : map (λ bytes. (outcome_of_line plain 100001 None bytes).fault)
    (replicate 201 48 ∷ (31 ∷ []) ∷ (48 ∷ []) ∷ [] ∷ [])
    ≡ Some TooMany ∷ Some TooMany ∷ Some TooMany ∷ Some TooMany ∷ []
faults_of_line_100001 = refl

-- the bytes beside 10, which ends a line, and the greatest byte
bytes_9_11_and_255 : map (λ b. fault_of_script plain (header (line (35 ∷ b ∷ []) []))) (0 ∷ 9 ∷ 11 ∷ 128 ∷ 255 ∷ [])
    ≡ Some (BadByte 2) ∷ Some (BadByte 2) ∷ Some (BadByte 2) ∷ Some (BadByte 2) ∷ Some (BadByte 2) ∷ []
unfolding digits number_of_word
bytes_9_11_and_255 = refl

place_255_is_taken : text_of_script plain (lines (codes "universal 1 directory 1 8" ∷ codes "call 0 at 255" ∷ []))
    ≡ lines (codes "called 0.0" ∷ codes "end" ∷ [])
unfolding digits number_below number_of_word
place_255_is_taken = refl

-- names of 16 and of 17 bytes
name_of_16_bytes_is_taken : text_of_script plain (lines (codes "universal 1 directory 1 8" ∷ codes "call 0 get abcdefghijklmnop" ∷ []))
    ≡ lines (codes "called 0.0" ∷ codes "end" ∷ [])
unfolding digits number_of_word
name_of_16_bytes_is_taken = refl

name_of_17_bytes_is_none : fault_of_script plain (lines (codes "universal 1 directory 1 8" ∷ codes "call 0 get abcdefghijklmnopq" ∷ []))
    ≡ Some (BadLine 2)
unfolding digits number_of_word
name_of_17_bytes_is_none = refl

value_1000000000000_is_none : fault_of_script plain
    (lines (codes "universal 1 book 1 8" ∷ codes "call 0 deposit 15 1000000000000" ∷ [])) ≡ Some (BadLine 2)
unfolding digits number_below number_of_word
value_1000000000000_is_none = refl

-- each line is written before its answers, but for one with a fault
echoed : text_of_script (scripts (record { history = 100; echo = On }))
    (line (codes "# a note") (header (line (codes "call 0 deq") (line (codes "bad") []))))
    ≡ line (codes "> # a note") (line (codes "> universal 1 queue 1 8") (line (codes "> call 0 deq") (line (codes "called 0.0") [])))
unfolding digits number_of_word
echoed = refl

-- scripts over one object name it by its own word alone
abbrev fifo : Kind (OwnSession (StateOf Queue) (InvOf Queue) (RespOf Queue))
fifo = own_scripts (spoken_of Queue) (codes "fifo") (record { history = 100; echo = On })

a_word_of_its_own : text_of_script fifo (line (codes "universal 2 fifo 1 8") (line (codes "trim") []))
    ≡ line (codes "> universal 2 fifo 1 8") (line (codes "> trim") (line (codes "trimmed 1") (line (codes "end") [])))
unfolding digits number_of_word
a_word_of_its_own = refl

no_other_word : fault_of_script fifo (header []) ≡ Some (BadHeader 1)
unfolding digits number_of_word
no_other_word = refl
