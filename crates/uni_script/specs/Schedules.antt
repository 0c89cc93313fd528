-- Schedules: scripts that are drawn from words of 64 bits.
use Rattle.std.specs.Prelude.{◌≡◌, ◌≤◌, ℕ, zero, suc, ◌+◌, ◌/◌, ◌%◌, ◌==◌, nat_le, if◌then◌else◌, List}
use Rattle.std.specs.Prelude.{[], ◌∷◌, ◌++◌, map, get_or, codes, refl}
use Rattle.std.specs.Fmt.{decimal, digits}
use Rattle.std.proofs.Common.{arith}
use Rattle.rand_xoshiro.specs.Xoshiro256.{plus_plus}
use Rattle.ready_objects.specs.Spoken.{Language}
use Rattle.ready_objects.specs.Queue.{queue_language}
use Rattle.ready_objects.specs.Words.{text_of_words}
use Rattle.uni_script.specs.declared.grammar.ObjectName.{ObjectName}
use Rattle.uni_script.specs.declared.grammar.ObjectName.TheVariants.{Queue, Directory, Book, Sticky}
use Rattle.uni_script.specs.declared.schedules.Plan.{Plan}
use Rattle.uni_script.specs.Objects.{spoken_of}

-- the numbers of a plan are in range
abbrev pub IsPlan : Plan → Type 0
IsPlan plan =
    (1 ≤ plan.processes) × (plan.processes ≤ 64) × (1 ≤ plan.row) × (plan.row ≤ 4096) × (1 ≤ plan.events)
    × (plan.events ≤ 99000)

-- the word that names an object
abbrev pub word_of_object : ObjectName → List ℕ
word_of_object Queue = codes "queue"
word_of_object Directory = codes "directory"
word_of_object Book = codes "book"
word_of_object Sticky = codes "sticky"

-- the version of the language in which so many processes can be asked for
abbrev pub version_of : (n : ℕ) → ℕ
version_of n = if nat_le n 16 then 1 else 2

abbrev pub header_line : Plan → List ℕ
header_line plan =
    codes "universal " ++ decimal (version_of plan.processes) ++ codes " " ++ word_of_object plan.object
    ++ codes " " ++ decimal plan.processes ++ codes " " ++ decimal plan.row ++ 10 ∷ []

-- the call of process p that a word v stands for
abbrev pub call_line : {I R : Type 0} → Language I R → (p v : ℕ) → List ℕ
call_line l p v = codes "call " ++ decimal p ++ codes " " ++ text_of_words (l.inv_words (l.inv_of_word v)) ++ 10 ∷ []

-- an event of n processes, by the word w that is drawn for it: a trim, or a call or a step of process p. A further word v
-- is drawn for a call.
abbrev pub event_line : {I R : Type 0} → Language I R → (n w v : ℕ) → List ℕ
event_line l n w v = let a = w % 16 in let p = w / 16 % n in
    if a == 0 then codes "trim" ++ 10 ∷ [] else if nat_le a 3 then call_line l p v else codes "step " ++ decimal p ++ 10 ∷ []

-- how many words are drawn for it
abbrev pub words_of_event : (w : ℕ) → ℕ
words_of_event w = let a = w % 16 in if a == 0 then 1 else if nat_le a 3 then 2 else 1

-- m events, drawn from word number i on
abbrev pub event_lines : {I R : Type 0} → Language I R → (n : ℕ) (word : ℕ → ℕ) (i m : ℕ) → List ℕ
event_lines l n word i zero = []
event_lines l n word i (suc m) = event_line l n (word i) (word (i + 1)) ++ event_lines l n word (i + words_of_event (word i)) m

-- the number of the word after them
abbrev pub words_of_events : (word : ℕ → ℕ) (i m : ℕ) → ℕ
words_of_events word i zero = i
words_of_events word i (suc m) = words_of_events word (i + words_of_event (word i)) m

-- the calls of n processes are ended
abbrev pub finish_lines : (n : ℕ) → List ℕ
finish_lines zero = []
finish_lines (suc p) = finish_lines p ++ codes "finish " ++ decimal p ++ 10 ∷ []

-- the schedule that words stand for
abbrev pub schedule_text : Plan → (word : ℕ → ℕ) → List ℕ
schedule_text plan word =
    header_line plan ++ event_lines (spoken_of plan.object).language plan.processes word 0 plan.events
    ++ finish_lines plan.processes ++ codes "log" ++ 10 ∷ []

-- the words that xoshiro256++ gives from a state on
abbrev pub xoshiro_word : List ℕ → ℕ → ℕ
xoshiro_word state zero = (plus_plus state).0
xoshiro_word state (suc i) = xoshiro_word (plus_plus state).1 i

-- the words of a list, and then zeros
abbrev pub listed : List ℕ → ℕ → ℕ
listed words i = get_or words i 0

abbrev three_events : Plan
three_events = record { object = Queue; processes = 2; row = 8; events = 3 }

abbrev line : List ℕ → List ℕ → List ℕ
line bytes text = bytes ++ 10 ∷ text

-- a call that takes two words, a step and a trim
four_words_make_three_events : schedule_text three_events (listed (33 ∷ 22 ∷ 20 ∷ 16 ∷ []))
    ≡ line (codes "universal 1 queue 2 8") (line (codes "call 0 enq 7") (line (codes "step 1") (line (codes "trim")
    (line (codes "finish 0") (line (codes "finish 1") (line (codes "log") []))))))
unfolding digits
four_words_make_three_events = refl

they_are_all_drawn : words_of_events (listed (33 ∷ 22 ∷ 20 ∷ 16 ∷ [])) 0 3 ≡ 4
they_are_all_drawn = refl

seventeen_processes_ask_for_version_2 : header_line (record three_events { processes = 17 }) ≡ codes "universal 2 queue 17 8" ++ 10 ∷ []
unfolding digits
seventeen_processes_ask_for_version_2 = refl

sixteen_ask_for_version_1 : map version_of (1 ∷ 16 ∷ 17 ∷ 64 ∷ []) ≡ 1 ∷ 1 ∷ 2 ∷ 2 ∷ []
sixteen_ask_for_version_1 = refl

words_of_objects : map word_of_object (Queue ∷ Directory ∷ Book ∷ Sticky ∷ [])
    ≡ codes "queue" ∷ codes "directory" ∷ codes "book" ∷ codes "sticky" ∷ []
words_of_objects = refl

-- an event of 64 processes at each residue, where a call would be `deq`: the first word after which the residues come again is
-- 1024, and the greatest word is 2^64 - 1
events_at_each_residue : map (λ w. event_line queue_language 64 w 0) (0 ∷ 1 ∷ 3 ∷ 4 ∷ 15 ∷ 16 ∷ 17 ∷ 20 ∷ [])
    ≡ line (codes "trim") [] ∷ line (codes "call 0 deq") [] ∷ line (codes "call 0 deq") [] ∷ line (codes "step 0") []
    ∷ line (codes "step 0") []
    ∷ line (codes "trim") [] ∷ line (codes "call 1 deq") [] ∷ line (codes "step 1") [] ∷ []
unfolding digits
events_at_each_residue = refl

processes_are_below_64 : map (λ w. event_line queue_language 64 w 0) (1023 ∷ 1024 ∷ 1028 ∷ 18446744073709551615 ∷ [])
    ≡ line (codes "step 63") [] ∷ line (codes "trim") [] ∷ line (codes "step 0") [] ∷ line (codes "step 63") [] ∷ []
unfolding digits
processes_are_below_64 = refl

a_call_takes_two_words : map words_of_event (0 ∷ 1 ∷ 3 ∷ 4 ∷ 15 ∷ 16 ∷ []) ≡ 1 ∷ 2 ∷ 2 ∷ 1 ∷ 1 ∷ 1 ∷ []
a_call_takes_two_words = refl

-- the least and the greatest plan, and what is just outside
the_least_plan : IsPlan (record { object = Queue; processes = 1; row = 1; events = 1 })
the_least_plan = (omega arith, omega arith, omega arith, omega arith, omega arith, omega arith)

the_greatest_plan : IsPlan (record { object = Queue; processes = 64; row = 4096; events = 99000 })
the_greatest_plan = (omega arith, omega arith, omega arith, omega arith, omega arith, omega arith)

no_plan_has_no_process : ¬ (IsPlan (record { object = Queue; processes = 0; row = 1; events = 1 }))
no_plan_has_no_process = λ plan. let least = plan.0 in omega arith

no_plan_has_65_processes : ¬ (IsPlan (record { object = Queue; processes = 65; row = 1; events = 1 }))
no_plan_has_65_processes = λ plan. let most = plan.1 in omega arith

no_plan_has_a_row_of_0 : ¬ (IsPlan (record { object = Queue; processes = 1; row = 0; events = 1 }))
no_plan_has_a_row_of_0 = λ plan. let least = plan.2 in omega arith

no_plan_has_a_row_of_4097 : ¬ (IsPlan (record { object = Queue; processes = 1; row = 4097; events = 1 }))
no_plan_has_a_row_of_4097 = λ plan. let most = plan.3 in omega arith

no_plan_has_no_event : ¬ (IsPlan (record { object = Queue; processes = 1; row = 1; events = 0 }))
no_plan_has_no_event = λ plan. let least = plan.4 in omega arith

no_plan_has_99001_events : ¬ (IsPlan (record { object = Queue; processes = 1; row = 1; events = 99001 }))
no_plan_has_99001_events = λ plan. let most = plan.5 in omega arith

events_take_one_or_two_words : map words_of_event
    (0 ∷ 1 ∷ 2 ∷ 3 ∷ 4 ∷ 5 ∷ 6 ∷ 7 ∷ 8 ∷ 9 ∷ 10 ∷ 11 ∷ 12 ∷ 13 ∷ 14 ∷ 15 ∷ [])
    ≡ 1 ∷ 2 ∷ 2 ∷ 2 ∷ 1 ∷ 1 ∷ 1 ∷ 1 ∷ 1 ∷ 1 ∷ 1 ∷ 1 ∷ 1 ∷ 1 ∷ 1 ∷ 1 ∷ []
events_take_one_or_two_words = refl

-- whatever word is drawn, one process is process 0
one_process_is_process_0 : map (λ w. event_line queue_language 1 w 0) (4 ∷ 20 ∷ 18446744073709551615 ∷ [])
    ≡ line (codes "step 0") [] ∷ line (codes "step 0") [] ∷ line (codes "step 0") [] ∷ []
unfolding digits
one_process_is_process_0 = refl

-- calls of the last process, by the greatest words that stand for an invocation with a number
the_greatest_word_of_a_queue : event_line (spoken_of Queue).language 64 1009 18446744073709551614 ≡ line (codes "call 63 enq 204") []
unfolding digits
the_greatest_word_of_a_queue = refl

the_greatest_word_of_a_directory : event_line (spoken_of Directory).language 64 1009 18446744073709551615 ≡ line (codes "call 63 at 1") []
unfolding digits
the_greatest_word_of_a_directory = refl

the_greatest_word_of_a_book : event_line (spoken_of Book).language 64 1009 18446744073709551614 ≡ line (codes "call 63 move 15 15 983") []
unfolding digits
the_greatest_word_of_a_book = refl

the_greatest_word_of_a_sticky : event_line (spoken_of Sticky).language 64 1009 18446744073709551615 ≡ line (codes "call 63 stick 807") []
unfolding digits
the_greatest_word_of_a_sticky = refl

the_header_of_16_processes : header_line (record { object = Book; processes = 16; row = 1; events = 1 })
    ≡ line (codes "universal 1 book 16 1") []
unfolding digits
the_header_of_16_processes = refl

the_header_of_the_greatest_plan : header_line (record { object = Sticky; processes = 64; row = 4096; events = 99000 })
    ≡ line (codes "universal 2 sticky 64 4096") []
unfolding digits
the_header_of_the_greatest_plan = refl
