-- The directory: its state is the list of its pairs of a name and a value, in order of insertion.
use Rattle.std.specs.Prelude.{◌≡◌, ℕ, ◌/◌, ◌%◌, ◌==◌, nat_lt, if◌then◌else◌, List, [], ◌∷◌, ◌++◌}
use Rattle.std.specs.Prelude.{length, map, replicate, slice_get, Option, Some, None, is_some, option_map, option_and_then, codes, refl}
use Rattle.std.specs.Fmt.{decimal, digits}
use Rattle.std.specs.Map.{lookup, set_value, remove_entry}
use Rattle.std.specs.Str.{bytes_eq}
use Rattle.seq_object.specs.Sequential.{Sequential}
use Rattle.ready_objects.specs.Spoken.{Language}
use Rattle.ready_objects.specs.Name.{name_of_word, drawn_name}
use Rattle.ready_objects.specs.Number.{number_of_word, number_below}
use Rattle.ready_objects.specs.Words.{spaced_from, words_of_text}
use Rattle.ready_objects.specs.declared.directory.DirectoryInv.{DirectoryInv}
use Rattle.ready_objects.specs.declared.directory.DirectoryInv.TheVariants.{Put, Get, Del, Size, At}
use Rattle.ready_objects.specs.declared.directory.DirectoryResp.{DirectoryResp}
use Rattle.ready_objects.specs.declared.directory.DirectoryResp.TheVariants.{Was, New, Full, Found, Absent, Count}

abbrev pub Pairs : Type 0
Pairs = List (List ℕ × ℕ)

-- the value of a name, where it is there
abbrev pub value_of : Pairs → List ℕ → Option ℕ
value_of pairs name = lookup (bytes_eq name) pairs

-- the value at a place, where there is one
abbrev pub value_at : Pairs → ℕ → Option ℕ
value_at pairs place = option_map (λ pair. pair.1) (slice_get pairs place)

-- the pairs after an invocation: at most 256
abbrev pub directory_next : Pairs → DirectoryInv → Pairs
directory_next pairs (Put name v) =
    if is_some (value_of pairs name) then set_value (bytes_eq name) pairs v
    else if nat_lt (length pairs) 256 then pairs ++ (name, v) ∷ [] else pairs
directory_next pairs (Get name) = pairs
directory_next pairs (Del name) = remove_entry (bytes_eq name) pairs
directory_next pairs Size = pairs
directory_next pairs (At place) = pairs

-- the response to a put, by the number of pairs and the value before
abbrev pub put_answer : ℕ → Option ℕ → DirectoryResp
put_answer count (Some w) = Was w
put_answer count None = if nat_lt count 256 then New else Full

-- the response that tells a value, or that there is none
abbrev pub value_answer : Option ℕ → DirectoryResp
value_answer (Some v) = Found v
value_answer None = Absent

-- the response to an invocation
abbrev pub directory_answer : Pairs → DirectoryInv → DirectoryResp
directory_answer pairs (Put name v) = put_answer (length pairs) (value_of pairs name)
directory_answer pairs (Get name) = value_answer (value_of pairs name)
directory_answer pairs (Del name) = value_answer (value_of pairs name)
directory_answer pairs Size = Count (length pairs)
directory_answer pairs (At place) = value_answer (value_at pairs place)

-- the object
abbrev pub directory : Sequential Pairs DirectoryInv DirectoryResp
directory = record { initial = []; next = directory_next; answer = directory_answer }

-- the words of an invocation
abbrev pub directory_words : DirectoryInv → List (List ℕ)
directory_words (Put name v) = codes "put" ∷ name ∷ decimal v ∷ []
directory_words (Get name) = codes "get" ∷ name ∷ []
directory_words (Del name) = codes "del" ∷ name ∷ []
directory_words Size = codes "size" ∷ []
directory_words (At place) = codes "at" ∷ decimal place ∷ []

-- a put of a name and a value
abbrev pub put_of : List ℕ → List ℕ → Option DirectoryInv
put_of name v = option_and_then (λ n. option_map (λ value. Put n value) (number_of_word v)) (name_of_word name)

-- the invocation that words are
abbrev pub directory_inv_of_words : List (List ℕ) → Option DirectoryInv
directory_inv_of_words (operation ∷ []) = if bytes_eq operation (codes "size") then Some Size else None
directory_inv_of_words (operation ∷ word ∷ []) =
    if bytes_eq operation (codes "get") then option_map Get (name_of_word word)
    else if bytes_eq operation (codes "del") then option_map Del (name_of_word word)
    else if bytes_eq operation (codes "at") then option_map At (number_below 256 word) else None
directory_inv_of_words (operation ∷ name ∷ v ∷ []) = if bytes_eq operation (codes "put") then put_of name v else None
directory_inv_of_words _ = None

-- the text of a response
abbrev pub directory_resp_text : DirectoryResp → List ℕ
directory_resp_text (Was w) = codes "was " ++ decimal w
directory_resp_text New = codes "new"
directory_resp_text Full = codes "full"
directory_resp_text (Found v) = decimal v
directory_resp_text Absent = codes "none"
directory_resp_text (Count n) = decimal n

-- what a drawn word stands for
abbrev pub directory_inv_of_word : ℕ → DirectoryInv
directory_inv_of_word word =
    let name = drawn_name (word / 8) in
    let r = word % 8 in
    if nat_lt r 3 then Put name (word / 80 % 1000)
    else if nat_lt r 5 then Get name
    else if r == 5 then Del name
    else if r == 6 then Size else At (word / 8 % 10)

-- the text of a pair: its name, a colon and its value
abbrev pub pair_text : List ℕ × ℕ → List ℕ
pair_text pair = pair.0 ++ codes ":" ++ decimal pair.1

-- the text of a state: its pairs, as `{a:1 b:2}`
abbrev pub pairs_text : Pairs → List ℕ
pairs_text pairs = codes "{" ++ spaced_from pair_text 0 pairs ++ codes "}"

-- its words
abbrev pub directory_language : Language DirectoryInv DirectoryResp
directory_language =
    record {
      inv_words = directory_words;
      inv_of_words = directory_inv_of_words;
      resp_text = directory_resp_text;
      inv_of_word = directory_inv_of_word;
    }

a_new_pair_goes_last : directory_next ((codes "b", 1) ∷ []) (Put (codes "a") 2) ≡ (codes "b", 1) ∷ (codes "a", 2) ∷ []
a_new_pair_goes_last = refl

a_put_keeps_its_place : directory_next ((codes "b", 1) ∷ (codes "a", 2) ∷ []) (Put (codes "b") 3)
    ≡ (codes "b", 3) ∷ (codes "a", 2) ∷ []
a_put_keeps_its_place = refl

a_put_tells_the_old_value : directory_answer ((codes "b", 1) ∷ (codes "a", 2) ∷ []) (Put (codes "b") 3) ≡ Was 1
a_put_tells_the_old_value = refl

later_pairs_close_up : directory_next ((codes "b", 3) ∷ (codes "a", 2) ∷ (codes "c", 4) ∷ []) (Del (codes "b"))
    ≡ (codes "a", 2) ∷ (codes "c", 4) ∷ []
later_pairs_close_up = refl

a_full_directory_refuses_a_new_name : directory_answer (replicate 256 (codes "b", 1)) (Put (codes "a") 2) ≡ Full
a_full_directory_refuses_a_new_name = refl

a_full_directory_takes_a_present_name : directory_answer (replicate 256 (codes "b", 1)) (Put (codes "b") 2) ≡ Was 1
a_full_directory_takes_a_present_name = refl

a_place_has_a_value : directory_answer ((codes "b", 3) ∷ (codes "a", 2) ∷ []) (At 1) ≡ Found 2
a_place_has_a_value = refl

no_value_at_a_later_place : directory_answer ((codes "b", 3) ∷ (codes "a", 2) ∷ []) (At 2) ≡ Absent
no_value_at_a_later_place = refl

drawn_80 : directory_inv_of_word 80 ≡ Put (codes "n0") 1
unfolding digits
drawn_80 = refl

drawn_13 : directory_inv_of_word 13 ≡ Del (codes "n1")
unfolding digits
drawn_13 = refl

a_directory_of_255_names_takes_a_new_one : directory_answer (replicate 255 (codes "b", 1)) (Put (codes "a") 2) ≡ New
a_directory_of_255_names_takes_a_new_one = refl

it_has_256_names_then : length (directory_next (replicate 255 (codes "b", 1)) (Put (codes "a") 2)) ≡ 256
it_has_256_names_then = refl

a_full_directory_stays : directory_next (replicate 256 (codes "b", 1)) (Put (codes "a") 2) ≡ replicate 256 (codes "b", 1)
a_full_directory_stays = refl

place_255_of_256_has_a_value : directory_answer (replicate 256 (codes "b", 1)) (At 255) ≡ Found 1
place_255_of_256_has_a_value = refl

place_255_of_255_has_none : directory_answer (replicate 255 (codes "b", 1)) (At 255) ≡ Absent
place_255_of_255_has_none = refl

-- each word and each text
put_is_read : directory_inv_of_words (words_of_text (codes "put a 7")) ≡ Some (Put (codes "a") 7)
unfolding number_of_word
put_is_read = refl

get_is_read : directory_inv_of_words (words_of_text (codes "get a")) ≡ Some (Get (codes "a"))
get_is_read = refl

del_is_read : directory_inv_of_words (words_of_text (codes "del a")) ≡ Some (Del (codes "a"))
del_is_read = refl

size_is_read : directory_inv_of_words (words_of_text (codes "size")) ≡ Some Size
size_is_read = refl

words_of_invocations : map directory_words (Put (codes "a") 7 ∷ Get (codes "a") ∷ Del (codes "a") ∷ Size ∷ At 255 ∷ [])
    ≡ (codes "put" ∷ codes "a" ∷ codes "7" ∷ []) ∷ (codes "get" ∷ codes "a" ∷ []) ∷ (codes "del" ∷ codes "a" ∷ [])
    ∷ (codes "size" ∷ []) ∷ (codes "at" ∷ codes "255" ∷ []) ∷ []
unfolding digits
words_of_invocations = refl

texts_of_responses : map directory_resp_text (Was 7 ∷ New ∷ Full ∷ Found 7 ∷ Absent ∷ Count 256 ∷ [])
    ≡ codes "was 7" ∷ codes "new" ∷ codes "full" ∷ codes "7" ∷ codes "none" ∷ codes "256" ∷ []
unfolding digits
texts_of_responses = refl

place_255_is_taken : directory_inv_of_words (words_of_text (codes "at 255")) ≡ Some (At 255)
unfolding number_below number_of_word
place_255_is_taken = refl

place_256_is_not : directory_inv_of_words (words_of_text (codes "at 256")) ≡ None
unfolding number_below number_of_word
place_256_is_not = refl

value_999999999999_is_taken : directory_inv_of_words (words_of_text (codes "put a 999999999999")) ≡ Some (Put (codes "a") 999999999999)
unfolding number_of_word
value_999999999999_is_taken = refl

value_1000000000000_is_not : directory_inv_of_words (words_of_text (codes "put a 1000000000000")) ≡ None
unfolding number_of_word
value_1000000000000_is_not = refl

a_name_of_16_bytes_is_taken : directory_inv_of_words (words_of_text (codes "get abcdefghijklmnop"))
    ≡ Some (Get (codes "abcdefghijklmnop"))
a_name_of_16_bytes_is_taken = refl

a_name_of_17_bytes_is_not : directory_inv_of_words (words_of_text (codes "get abcdefghijklmnopq")) ≡ None
a_name_of_17_bytes_is_not = refl

-- drawn words at each residue, and on both sides of ten names, ten places and 1000 values
drawn_at_each_residue : map directory_inv_of_word (0 ∷ 1 ∷ 2 ∷ 3 ∷ 4 ∷ 5 ∷ 6 ∷ 7 ∷ [])
    ≡ Put (codes "n0") 0 ∷ Put (codes "n0") 0 ∷ Put (codes "n0") 0 ∷ Get (codes "n0") ∷ Get (codes "n0") ∷ Del (codes "n0")
    ∷ Size ∷ At 0 ∷ []
unfolding digits
drawn_at_each_residue = refl

drawn_names_are_ten : map directory_inv_of_word (75 ∷ 83 ∷ []) ≡ Get (codes "n9") ∷ Get (codes "n0") ∷ []
unfolding digits
drawn_names_are_ten = refl

drawn_places_are_below_10 : map directory_inv_of_word (79 ∷ 87 ∷ []) ≡ At 9 ∷ At 0 ∷ []
unfolding digits
drawn_places_are_below_10 = refl

drawn_values_are_below_1000 : map directory_inv_of_word (79994 ∷ 80000 ∷ []) ≡ Put (codes "n9") 999 ∷ Put (codes "n0") 0 ∷ []
unfolding digits
drawn_values_are_below_1000 = refl

drawn_from_the_greatest_word : directory_inv_of_word 18446744073709551615 ≡ At 1
unfolding digits
drawn_from_the_greatest_word = refl

value_0_is_taken : directory_inv_of_words (words_of_text (codes "put a 0")) ≡ Some (Put (codes "a") 0)
unfolding number_of_word
value_0_is_taken = refl

place_0_is_taken : directory_inv_of_words (words_of_text (codes "at 0")) ≡ Some (At 0)
unfolding number_below number_of_word
place_0_is_taken = refl

a_leading_zero_is_not : map (λ text. directory_inv_of_words (words_of_text text))
    (codes "put a 00" ∷ codes "at 00" ∷ codes "at 0255" ∷ []) ≡ None ∷ None ∷ None ∷ []
unfolding number_below number_of_word
a_leading_zero_is_not = refl

places_far_past_255_are_not : map (λ text. directory_inv_of_words (words_of_text text))
    (codes "at 999999999999" ∷ codes "at 1000000000000" ∷ []) ≡ None ∷ None ∷ []
unfolding number_below number_of_word
places_far_past_255_are_not = refl

-- in each word's place
names_of_16_bytes_are_taken : map (λ text. directory_inv_of_words (words_of_text text))
    (codes "put abcdefghijklmnop 7" ∷ codes "get qrstuvwxyz012345" ∷ codes "del 6789678967896789" ∷ [])
    ≡ Some (Put (codes "abcdefghijklmnop") 7) ∷ Some (Get (codes "qrstuvwxyz012345")) ∷ Some (Del (codes "6789678967896789")) ∷ []
unfolding number_of_word
names_of_16_bytes_are_taken = refl

names_of_17_bytes_are_not : map (λ text. directory_inv_of_words (words_of_text text))
    (codes "put abcdefghijklmnopq 7" ∷ codes "get qrstuvwxyz0123456" ∷ codes "del 67896789678967896" ∷ [])
    ≡ None ∷ None ∷ None ∷ []
unfolding number_of_word
names_of_17_bytes_are_not = refl

-- between two spaces
an_empty_name_is_not : map (λ text. directory_inv_of_words (words_of_text text)) (codes "put  7" ∷ codes "get " ∷ codes "del " ∷ [])
    ≡ None ∷ None ∷ None ∷ []
unfolding number_of_word
an_empty_name_is_not = refl

put_answers_at_255_and_256_names : map (λ count. put_answer count None) (0 ∷ 255 ∷ 256 ∷ []) ≡ New ∷ New ∷ Full ∷ []
put_answers_at_255_and_256_names = refl

a_present_name_is_answered_at_256_names : put_answer 256 (Some 7) ≡ Was 7
a_present_name_is_answered_at_256_names = refl

sizes_of_255_and_256_names : map (λ count. directory_answer (replicate count (codes "b", 1)) Size) (255 ∷ 256 ∷ [])
    ≡ Count 255 ∷ Count 256 ∷ []
sizes_of_255_and_256_names = refl

a_full_directory_keeps_256_names : length (directory_next (replicate 256 (codes "b", 1)) (Put (codes "b") 2)) ≡ 256
a_full_directory_keeps_256_names = refl

text_of_two_pairs : pairs_text ((codes "a", 1) ∷ (codes "b", 20) ∷ []) ≡ codes "{a:1 b:20}"
unfolding digits
text_of_two_pairs = refl

text_of_no_pair : pairs_text [] ≡ codes "{}"
text_of_no_pair = refl
