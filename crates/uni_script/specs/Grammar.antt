-- The lines of a script, and what each of them means.
use Rattle.std.specs.Prelude.{◌≡◌, ◌≤◌, ℕ, ◌==◌, nat_le, ◌&&◌, if◌then◌else◌, Bool, true, false, List, []}
use Rattle.std.specs.Prelude.{◌∷◌, ◌++◌, map, Option, Some, None, option_map, option_and_then, codes, refl}
use Rattle.std.specs.Str.{bytes_eq}
use Rattle.std.proofs.Common.{arith}
use Rattle.ready_objects.specs.Number.{number_of_word}
use Rattle.ready_objects.specs.Queue.{queue_inv_of_words}
use Rattle.ready_objects.specs.declared.queue.QueueInv.{QueueInv}
use Rattle.ready_objects.specs.declared.queue.QueueInv.TheVariants.{Enq, Deq}
use Rattle.ready_objects.specs.Words.{words_of_text}
use Rattle.uni_script.specs.declared.grammar.ObjectName.{ObjectName}
use Rattle.uni_script.specs.declared.grammar.ObjectName.TheVariants.{Queue, Directory, Book, Sticky}
use Rattle.uni_script.specs.declared.grammar.Version.{Version}
use Rattle.uni_script.specs.declared.grammar.Version.TheVariants.{One, Two}
use Rattle.uni_script.specs.declared.grammar.Header.{Header}
use Rattle.uni_script.specs.declared.grammar.Command.{Command}
use Rattle.uni_script.specs.declared.grammar.Command.TheVariants.{Call, Step, Finish, Log, Heads, Trim, Reshape}

-- a text cut at its line ends, which are bytes 10: its whole lines, without their ends, and the bytes after them
pub record Cut : Type 0 where
  pub whole : List (List ℕ)
  pub tail : List ℕ

-- a byte that ends no line, before these whole lines and this tail: it belongs to the first line
abbrev pub with_first : ℕ → (whole : List (List ℕ)) (tail : List ℕ) → Cut
with_first b [] tail = record { whole = []; tail = b ∷ tail }
with_first b (line ∷ lines) tail = record { whole = (b ∷ line) ∷ lines; tail = tail }

-- a byte before a text that is cut
abbrev pub after_byte : ℕ → Cut → Cut
after_byte b rest = if b == 10 then record { whole = [] ∷ rest.whole; tail = rest.tail } else with_first b rest.whole rest.tail

abbrev pub cut : List ℕ → Cut
cut [] = record { whole = []; tail = [] }
cut (b ∷ bytes) = after_byte b (cut bytes)

-- the line of the bytes after the last line end: there is none where there are no bytes
abbrev pub last_line : List ℕ → List (List ℕ)
last_line [] = []
last_line (b ∷ bytes) = (b ∷ bytes) ∷ []

-- the lines of a text: each ends with byte 10, which the last may lack
abbrev pub lines_of : List ℕ → List (List ℕ)
lines_of bytes = let c = cut bytes in c.whole ++ last_line c.tail

-- a byte that may stand in a line
abbrev pub is_plain_byte : ℕ → Bool
is_plain_byte b = nat_le 32 b && nat_le b 126

-- an empty line, or one that begins with `#`
abbrev pub is_note : List ℕ → Bool
is_note [] = true
is_note (b ∷ bytes) = b == 35

-- the object that a word names
abbrev pub object_of_word : List ℕ → Option ObjectName
object_of_word word =
    if bytes_eq word (codes "queue") then Some Queue
    else if bytes_eq word (codes "directory") then Some Directory
    else if bytes_eq word (codes "book") then Some Book
    else if bytes_eq word (codes "sticky") then Some Sticky
    else None

-- the version that a word names
abbrev pub version_of_word : List ℕ → Option Version
version_of_word word = if bytes_eq word (codes "1") then Some One else if bytes_eq word (codes "2") then Some Two else None

-- the most processes that a header can have
abbrev pub most_processes : Version → ℕ
most_processes One = 16
most_processes Two = 64

-- the header of so many processes, with rows of so many cells, 1 to 4096
abbrev pub header_with : {N : Type 0} → Version → N → (n k : ℕ) → Option (Header N)
header_with version object n k =
    if nat_le 1 n && nat_le n (most_processes version) && nat_le 1 k
    && nat_le k 4096 then Some (record { version = version; object = object; processes = n; row = k })
    else None

-- the numbers of a header are in range
abbrev pub IsInRange : {N : Type 0} → Header N → Type 0
IsInRange header = (1 ≤ header.processes) × (header.processes ≤ 64) × (1 ≤ header.row) × (header.row ≤ 4096)

-- a header, where its four parts are read
abbrev pub header_of : {N : Type 0} → Option Version → Option N → Option ℕ → Option ℕ → Option (Header N)
header_of (Some version) (Some object) (Some n) (Some k) = header_with version object n k
header_of _ _ _ _ = None

-- the header that words are, where words name objects so
abbrev pub header_by : {N : Type 0} → (named : List ℕ → Option N) → List (List ℕ) → Option (Header N)
header_by named (name ∷ version ∷ object ∷ n ∷ k ∷ []) =
    if bytes_eq name (codes "universal") then header_of (version_of_word version) (named object) (number_of_word n) (number_of_word k)
    else None
header_by named _ = None

-- the header that words are
abbrev pub header_of_words : List (List ℕ) → Option (Header ObjectName)
header_of_words words = header_by object_of_word words

-- a call of a process, where both are read
abbrev pub call_of : {I : Type 0} → Option ℕ → Option I → Option (Command I)
call_of (Some p) (Some inv) = Some (Call p inv)
call_of _ _ = None

-- how many steps are asked for: 1 to 1000
abbrev pub count_of_number : ℕ → Option ℕ
count_of_number m = if nat_le 1 m && nat_le m 1000 then Some m else None

-- steps of a process, where both are read
abbrev pub step_of : {I : Type 0} → Option ℕ → Option ℕ → Option (Command I)
step_of (Some p) (Some m) = Some (Step p m)
step_of _ _ = None

-- a change of the number of processes, which version 1 doesn't have
abbrev pub reshape_of : {I : Type 0} → Version → (processes : ℕ) → Option (Command I)
reshape_of One m = None
reshape_of Two m = Some (Reshape m)

-- a command that isn't a call: its name, a number, and the words after it
abbrev pub command_of_number : {I : Type 0} → Version → (name : List ℕ) → Option ℕ → List (List ℕ) → Option (Command I)
command_of_number version name p [] =
    if bytes_eq name (codes "finish") then option_map Finish p
    else if bytes_eq name (codes "reshape") then option_and_then (reshape_of version) p
    else if bytes_eq name (codes "step") then step_of p (Some 1)
    else None
command_of_number version name p (m ∷ []) =
    if bytes_eq name (codes "step") then step_of p (option_and_then count_of_number (number_of_word m)) else None
command_of_number version name p _ = None

-- the command that one word is
abbrev pub command_of_name : {I : Type 0} → (name : List ℕ) → Option (Command I)
command_of_name name =
    if bytes_eq name (codes "log") then Some Log
    else if bytes_eq name (codes "heads") then Some Heads
    else if bytes_eq name (codes "trim") then Some Trim
    else None

-- the command that words are in a version of the language, with the object's reading of invocations
abbrev pub command_of_words : {I : Type 0} → Version → (List (List ℕ) → Option I) → List (List ℕ) → Option (Command I)
command_of_words version inv_of_words [] = None
command_of_words version inv_of_words (name ∷ []) = command_of_name name
command_of_words version inv_of_words (name ∷ p ∷ words) =
    if bytes_eq name (codes "call") then call_of (number_of_word p) (inv_of_words words)
    else command_of_number version name (number_of_word p) words

the_last_line_may_lack_its_end : lines_of (97 ∷ 10 ∷ 98 ∷ []) ≡ (97 ∷ []) ∷ (98 ∷ []) ∷ []
the_last_line_may_lack_its_end = refl

no_line_follows_the_last_end : lines_of (97 ∷ 10 ∷ []) ≡ (97 ∷ []) ∷ []
no_line_follows_the_last_end = refl

a_line_may_be_empty : lines_of (10 ∷ 10 ∷ []) ≡ [] ∷ [] ∷ []
a_line_may_be_empty = refl

a_header : header_of_words (words_of_text (codes "universal 1 queue 2 8"))
    ≡ Some (record { version = One; object = Queue; processes = 2; row = 8 })
unfolding number_of_word
a_header = refl

seventeen_processes_are_none : header_of_words (words_of_text (codes "universal 1 queue 17 8")) ≡ None
unfolding number_of_word
seventeen_processes_are_none = refl

but_not_in_version_2 : header_of_words (words_of_text (codes "universal 2 queue 17 8"))
    ≡ Some (record { version = Two; object = Queue; processes = 17; row = 8 })
unfolding number_of_word
but_not_in_version_2 = refl

sixty_five_processes_are_none : header_of_words (words_of_text (codes "universal 2 queue 65 8")) ≡ None
unfolding number_of_word
sixty_five_processes_are_none = refl

a_row_of_4097_is_none : header_of_words (words_of_text (codes "universal 1 queue 1 4097")) ≡ None
unfolding number_of_word
a_row_of_4097_is_none = refl

a_call : command_of_words One queue_inv_of_words (words_of_text (codes "call 0 enq 7")) ≡ Some (Call 0 (Enq 7))
unfolding number_of_word
a_call = refl

a_finish : command_of_words One queue_inv_of_words (words_of_text (codes "finish 12")) ≡ Some (Finish 12)
unfolding number_of_word
a_finish = refl

a_log : command_of_words One queue_inv_of_words (words_of_text (codes "log")) ≡ Some Log
a_log = refl

a_step : command_of_words One queue_inv_of_words (words_of_text (codes "step 3")) ≡ Some (Step 3 1)
unfolding number_of_word
a_step = refl

ten_steps : command_of_words One queue_inv_of_words (words_of_text (codes "step 3 10")) ≡ Some (Step 3 10)
unfolding number_of_word
ten_steps = refl

no_steps_are_no_command : command_of_words One queue_inv_of_words (words_of_text (codes "step 3 0")) ≡ None
unfolding number_of_word
no_steps_are_no_command = refl

the_heads : command_of_words One queue_inv_of_words (words_of_text (codes "heads")) ≡ Some Heads
the_heads = refl

no_command : command_of_words One queue_inv_of_words (words_of_text (codes "fin")) ≡ None
no_command = refl

a_leading_zero_is_no_command : command_of_words One queue_inv_of_words (words_of_text (codes "call 0 enq 007")) ≡ None
unfolding number_of_word
a_leading_zero_is_no_command = refl

two_spaces_are_no_command : command_of_words One queue_inv_of_words (words_of_text (codes "call  0 deq")) ≡ None
unfolding number_of_word
two_spaces_are_no_command = refl

a_trim : command_of_words One queue_inv_of_words (words_of_text (codes "trim")) ≡ Some Trim
a_trim = refl

a_reshape : command_of_words Two queue_inv_of_words (words_of_text (codes "reshape 3")) ≡ Some (Reshape 3)
unfolding number_of_word
a_reshape = refl

version_1_has_none : command_of_words One queue_inv_of_words (words_of_text (codes "reshape 3")) ≡ None
unfolding number_of_word
version_1_has_none = refl

bytes_32_and_126_are_plain : map is_plain_byte (32 ∷ 126 ∷ []) ≡ true ∷ true ∷ []
bytes_32_and_126_are_plain = refl

bytes_31_and_127_are_not : map is_plain_byte (31 ∷ 127 ∷ []) ≡ false ∷ false ∷ []
bytes_31_and_127_are_not = refl

a_note_is_empty_or_begins_with_byte_35 : map is_note ([] ∷ (35 ∷ []) ∷ (34 ∷ []) ∷ (36 ∷ []) ∷ (32 ∷ 35 ∷ []) ∷ [])
    ≡ true ∷ true ∷ false ∷ false ∷ false ∷ []
a_note_is_empty_or_begins_with_byte_35 = refl

four_words_are_objects : map object_of_word (codes "queue" ∷ codes "directory" ∷ codes "book" ∷ codes "sticky"
    ∷ codes "tally" ∷ [])
    ≡ Some Queue ∷ Some Directory ∷ Some Book ∷ Some Sticky ∷ None ∷ []
four_words_are_objects = refl

two_words_are_versions : map version_of_word (codes "0" ∷ codes "1" ∷ codes "2" ∷ codes "3" ∷ [])
    ≡ None ∷ Some One ∷ Some Two ∷ None ∷ []
two_words_are_versions = refl

-- the header of a queue that a text is
abbrev header_of_text : List ℕ → Option (Header ObjectName)
header_of_text text = header_of_words (words_of_text text)

version_1_has_1_to_16_processes : map header_of_text
    (codes "universal 1 queue 0 8" ∷ codes "universal 1 queue 1 8" ∷ codes "universal 1 queue 16 8"
    ∷ codes "universal 1 queue 17 8" ∷ [])
    ≡ None ∷ Some (record { version = One; object = Queue; processes = 1; row = 8 })
    ∷ Some (record { version = One; object = Queue; processes = 16; row = 8 }) ∷ None ∷ []
unfolding number_of_word
version_1_has_1_to_16_processes = refl

version_2_has_1_to_64_processes : map header_of_text
    (codes "universal 2 queue 0 8" ∷ codes "universal 2 queue 1 8" ∷ codes "universal 2 queue 64 8"
    ∷ codes "universal 2 queue 65 8" ∷ [])
    ≡ None ∷ Some (record { version = Two; object = Queue; processes = 1; row = 8 })
    ∷ Some (record { version = Two; object = Queue; processes = 64; row = 8 }) ∷ None ∷ []
unfolding number_of_word
version_2_has_1_to_64_processes = refl

a_row_has_1_to_4096_cells : map header_of_text (codes "universal 1 queue 2 0" ∷ codes "universal 1 queue 2 1"
    ∷ codes "universal 1 queue 2 4096" ∷ codes "universal 1 queue 2 4097" ∷ [])
    ≡ None ∷ Some (record { version = One; object = Queue; processes = 2; row = 1 })
    ∷ Some (record { version = One; object = Queue; processes = 2; row = 4096 }) ∷ None ∷ []
unfolding number_of_word
a_row_has_1_to_4096_cells = refl

the_greatest_header_is_in_range : IsInRange (record { version = Two; object = Queue; processes = 64; row = 4096 })
the_greatest_header_is_in_range = (omega arith, omega arith, omega arith, omega arith)

sixty_five_processes_are_out_of_range : ¬ (IsInRange (record { version = Two; object = Queue; processes = 65; row = 4096 }))
sixty_five_processes_are_out_of_range = λ range. let most = range.1 in omega arith

a_row_of_4097_is_out_of_range : ¬ (IsInRange (record { version = Two; object = Queue; processes = 64; row = 4097 }))
a_row_of_4097_is_out_of_range = λ range. let most = range.3 in omega arith

-- the command of a queue that a text is, in version 2
abbrev command_of_text : List ℕ → Option (Command QueueInv)
command_of_text text = command_of_words Two queue_inv_of_words (words_of_text text)

one_to_1000_steps : map command_of_text (codes "step 3 0" ∷ codes "step 3 1" ∷ codes "step 3 1000" ∷ codes "step 3 1001" ∷ [])
    ≡ None ∷ Some (Step 3 1) ∷ Some (Step 3 1000) ∷ None ∷ []
unfolding number_of_word
one_to_1000_steps = refl

number_999999999999_is_taken : map command_of_text
    (codes "call 999999999999 deq" ∷ codes "step 999999999999" ∷ codes "step 999999999999 1" ∷ codes "finish 999999999999"
    ∷ codes "reshape 999999999999" ∷ [])
    ≡ Some (Call 999999999999 Deq) ∷ Some (Step 999999999999 1) ∷ Some (Step 999999999999 1) ∷ Some (Finish 999999999999)
    ∷ Some (Reshape 999999999999) ∷ []
unfolding number_of_word
number_999999999999_is_taken = refl

number_1000000000000_is_not : map command_of_text
    (codes "call 1000000000000 deq" ∷ codes "step 1000000000000" ∷ codes "step 1000000000000 1" ∷ codes "finish 1000000000000"
    ∷ codes "reshape 1000000000000" ∷ [])
    ≡ None ∷ None ∷ None ∷ None ∷ None ∷ []
unfolding number_of_word
number_1000000000000_is_not = refl

-- it is refused once it is run
a_reshape_to_0_is_a_command : command_of_text (codes "reshape 0") ≡ Some (Reshape 0)
unfolding number_of_word
a_reshape_to_0_is_a_command = refl

-- the other ends of the numbers of a header
the_least_header_is_in_range : IsInRange (record { version = One; object = Queue; processes = 1; row = 1 })
the_least_header_is_in_range = (omega arith, omega arith, omega arith, omega arith)

no_process_is_out_of_range : ¬ (IsInRange (record { version = One; object = Queue; processes = 0; row = 1 }))
no_process_is_out_of_range = λ range. let least = range.0 in omega arith

a_row_of_0_is_out_of_range : ¬ (IsInRange (record { version = One; object = Queue; processes = 1; row = 0 }))
a_row_of_0_is_out_of_range = λ range. let least = range.2 in omega arith

a_row_of_version_2_has_1_to_4096_cells : map header_of_text
    (codes "universal 2 queue 64 0" ∷ codes "universal 2 queue 64 1" ∷ codes "universal 2 queue 64 4096"
    ∷ codes "universal 2 queue 64 4097" ∷ [])
    ≡ None ∷ Some (record { version = Two; object = Queue; processes = 64; row = 1 })
    ∷ Some (record { version = Two; object = Queue; processes = 64; row = 4096 }) ∷ None ∷ []
unfolding number_of_word
a_row_of_version_2_has_1_to_4096_cells = refl

versions_0_and_3_are_none : map header_of_text (codes "universal 0 queue 2 8" ∷ codes "universal 3 queue 2 8"
    ∷ codes "universal 11 queue 2 8" ∷ codes "universal 999999999999 queue 2 8" ∷ []) ≡ None ∷ None ∷ None ∷ None ∷ []
unfolding number_of_word
versions_0_and_3_are_none = refl

leading_zeros_are_in_no_header : map header_of_text
    (codes "universal 01 queue 2 8" ∷ codes "universal 1 queue 02 8" ∷ codes "universal 1 queue 2 08" ∷ [])
    ≡ None ∷ None ∷ None ∷ []
unfolding number_of_word
leading_zeros_are_in_no_header = refl

the_greatest_numbers_are_in_no_header : map header_of_text
    (codes "universal 2 queue 999999999999 8" ∷ codes "universal 2 queue 2 999999999999" ∷ codes "universal 2 queue 1000000000000 8"
    ∷ codes "universal 2 queue 2 1000000000000" ∷ [])
    ≡ None ∷ None ∷ None ∷ None ∷ []
unfolding number_of_word
the_greatest_numbers_are_in_no_header = refl

-- the other ends of the numbers of a command
counts_are_1_to_1000 : map count_of_number (0 ∷ 1 ∷ 1000 ∷ 1001 ∷ []) ≡ None ∷ Some 1 ∷ Some 1000 ∷ None ∷ []
counts_are_1_to_1000 = refl

the_greatest_numbers_are_no_counts : map command_of_text (codes "step 3 999999999999" ∷ codes "step 3 1000000000000" ∷ [])
    ≡ None ∷ None ∷ []
unfolding number_of_word
the_greatest_numbers_are_no_counts = refl

number_0_is_taken : map command_of_text (codes "call 0 deq" ∷ codes "step 0" ∷ codes "step 0 1" ∷ codes "finish 0" ∷ [])
    ≡ Some (Call 0 Deq) ∷ Some (Step 0 1) ∷ Some (Step 0 1) ∷ Some (Finish 0) ∷ []
unfolding number_of_word
number_0_is_taken = refl

leading_zeros_are_in_no_command : map command_of_text
    (codes "call 00 deq" ∷ codes "step 03" ∷ codes "step 3 01" ∷ codes "step 3 00" ∷ codes "finish 03"
    ∷ codes "reshape 03" ∷ [])
    ≡ None ∷ None ∷ None ∷ None ∷ None ∷ None ∷ []
unfolding number_of_word
leading_zeros_are_in_no_command = refl

-- they too are refused once they are run, but for 64
reshapes_to_64_and_65_are_commands : map command_of_text (codes "reshape 64" ∷ codes "reshape 65" ∷ [])
    ≡ Some (Reshape 64) ∷ Some (Reshape 65) ∷ []
unfolding number_of_word
reshapes_to_64_and_65_are_commands = refl
