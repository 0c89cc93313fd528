-- A map from words to words with a capacity: its state is the list of its pairs, in the order in which their keys came.
use Rattle.std.specs.Prelude.{◌≡◌, ◌≢◌, ◌<◌, ◌≤◌, ℕ, ◌*◌, ◌+◌, ◌==◌, List, [], ◌∷◌, ◌++◌, Option, None, Some, is_some, nat_eq, nat_lt, if◌then◌else◌}
use Rattle.std.specs.Prelude.{length, take, drop, refl, slice_index}
use Rattle.std.specs.Map.{lookup, remove_entry, set_value}
use Rattle.seq_object.specs.Sequential.{Sequential}
use Rattle.std.proofs.Common.{◌∙◌, ap, suc, sym}
use Rattle.uni_small.specs.Image.{IsSteady, Meaning}
use Rattle.small_objects.specs.Encoding.{encoded, in_words, steady_in_words}
use Rattle.small_objects.specs.Padded.{length-padded, padded}
use Rattle.small_objects.specs.declared.map.MapCall.{MapCall}
use Rattle.small_objects.specs.declared.map.MapCall.TheVariants.{Get, Insert, Remove}
use Rattle.small_objects.specs.declared.map.MapReply.{MapReply}
use Rattle.small_objects.specs.declared.map.MapReply.TheVariants.{Absent, Full, Value}

-- the value of a key, where it is there
abbrev pub value_of : List (ℕ × ℕ) → (key : ℕ) → Option ℕ
value_of pairs key = lookup (nat_eq key) pairs

-- the pairs after a call: a present key keeps its place, and a new one goes last, where there is room
abbrev pub map_next : (capacity : ℕ) → List (ℕ × ℕ) → MapCall → List (ℕ × ℕ)
map_next capacity pairs (Get key) = pairs
map_next capacity pairs (Insert key value) =
    if is_some (value_of pairs key) then set_value (nat_eq key) pairs value
    else if nat_lt (length pairs) capacity then pairs ++ (key, value) ∷ [] else pairs
map_next capacity pairs (Remove key) = remove_entry (nat_eq key) pairs

-- the reply that tells the value before, or that there was none
abbrev pub before : Option ℕ → MapReply
before (Some value) = Value value
before None = Absent

-- the reply to an insertion, by how many pairs there are and the value before
abbrev pub insert_answer : (capacity count : ℕ) → Option ℕ → MapReply
insert_answer capacity count (Some value) = Value value
insert_answer capacity count None = if nat_lt count capacity then Absent else Full

-- the reply to a call
abbrev pub map_answer : (capacity : ℕ) → List (ℕ × ℕ) → MapCall → MapReply
map_answer capacity pairs (Get key) = before (value_of pairs key)
map_answer capacity pairs (Insert key value) = insert_answer capacity (length pairs) (value_of pairs key)
map_answer capacity pairs (Remove key) = before (value_of pairs key)

-- a map of at most so many pairs, which starts empty
abbrev pub bounded_map : (capacity : ℕ) → Sequential (List (ℕ × ℕ)) MapCall MapReply
bounded_map capacity = record { initial = []; next = map_next capacity; answer = map_answer capacity }

-- the words of pairs, each key before its value, and the pairs that such words are
abbrev pub flat : List (ℕ × ℕ) → List ℕ
flat [] = []
flat (pair ∷ pairs) = pair.0 ∷ pair.1 ∷ flat pairs

abbrev pub paired : List ℕ → List (ℕ × ℕ)
paired [] = []
paired (key ∷ []) = []
paired (key ∷ value ∷ words) = (key, value) ∷ paired words

-- the words of a state: how many pairs there are, then they, and zeros in the room that is left; and the pairs in such words
abbrev pub map_words : (capacity : ℕ) → List (ℕ × ℕ) → List ℕ
map_words capacity pairs = length pairs ∷ padded (2 * capacity) (flat pairs)

abbrev pub pairs_in : List ℕ → List (ℕ × ℕ)
pairs_in words = paired (take (2 * slice_index words 0) (drop 1 words))

-- words of the pairs in them, of which there are no more than fit
pub record IsMap (capacity : ℕ) (words : List ℕ) : Type 0 where
  pub wide : length words ≡ 2 * capacity + 1
  pub few : slice_index words 0 ≤ capacity
  pub words_are : words ≡ map_words capacity (pairs_in words)

-- the pair at an index is the first one in such words with a key; and no pair has it
pub record IsFirst (words : List ℕ) (key i : ℕ) : Type 0 where
  pub below : i < slice_index words 0
  pub here : slice_index words (1 + 2 * i) ≡ key
  pub first : (j : ℕ) → j < i → slice_index words (1 + 2 * j) ≢ key

pub record IsAbsent (words : List ℕ) (key : ℕ) : Type 0 where
  pub none : (j : ℕ) → j < slice_index words 0 → slice_index words (1 + 2 * j) ≢ key

-- the map on words
abbrev pub map : (capacity : ℕ) → Sequential (List ℕ) MapCall MapReply
map capacity = encoded (bounded_map capacity) (map_words capacity) pairs_in

-- the words of a call: which one it is, its key, and the value that is inserted
abbrev pub call_words : MapCall → List ℕ
call_words (Get key) = 0 ∷ key ∷ 0 ∷ []
call_words (Insert key value) = 1 ∷ key ∷ value ∷ []
call_words (Remove key) = 2 ∷ key ∷ 0 ∷ []

abbrev pub call_in : List ℕ → MapCall
call_in words =
    if slice_index words 0 == 1 then Insert (slice_index words 1) (slice_index words 2)
    else if slice_index words 0 == 2 then Remove (slice_index words 1) else Get (slice_index words 1)

-- the words of a reply: which one it is, and its value
abbrev pub reply_words : MapReply → List ℕ
reply_words Absent = 0 ∷ 0 ∷ []
reply_words (Value value) = 1 ∷ value ∷ []
reply_words Full = 2 ∷ 0 ∷ []

abbrev pub reply_in : List ℕ → MapReply
reply_in words =
    if slice_index words 0 == 1 then Value (slice_index words 1)
    else if slice_index words 0 == 2 then Full else Absent

pub call_long : (call : MapCall) → length (call_words call) ≡ 3
call_long (Get key) = refl
call_long (Insert key value) = refl
call_long (Remove key) = refl

pub call_fits : (call : MapCall) → call_in (call_words call) ≡ call
call_fits (Get key) = refl
call_fits (Insert key value) = refl
call_fits (Remove key) = refl

pub reply_long : (reply : MapReply) → length (reply_words reply) ≡ 2
reply_long Absent = refl
reply_long (Value value) = refl
reply_long Full = refl

pub reply_fits : (reply : MapReply) → reply_in (reply_words reply) ≡ reply
reply_fits Absent = refl
reply_fits (Value value) = refl
reply_fits Full = refl

-- the map with its calls and replies in words
abbrev pub spelled : (capacity : ℕ) → Meaning
spelled capacity = record { object = in_words (map capacity) call_in reply_words; invocation = 3; reply = 2 }

-- all its states have as many words, and all replies
pub map_steady : (capacity : ℕ) → IsSteady (spelled capacity).object 2
map_steady capacity = steady_in_words (map capacity) call_in reply_words 2
    (λ state call long. ap suc (length-padded (2 * capacity) (flat (map_next capacity (pairs_in state) call)) ∙ sym (length-padded (2 * capacity) []))) reply_long

sample_new : map_next 2 ((7, 70) ∷ []) (Insert 8 80) ≡ (7, 70) ∷ (8, 80) ∷ []
sample_new = refl

sample_again : map_next 2 ((7, 70) ∷ (8, 80) ∷ []) (Insert 7 71) ≡ (7, 71) ∷ (8, 80) ∷ []
sample_again = refl

sample_full : map_next 2 ((7, 70) ∷ (8, 80) ∷ []) (Insert 9 90) ≡ (7, 70) ∷ (8, 80) ∷ []
sample_full = refl

sample_removed : map_next 2 ((7, 70) ∷ (8, 80) ∷ []) (Remove 7) ≡ (8, 80) ∷ []
sample_removed = refl

sample_was_new : map_answer 2 ((7, 70) ∷ []) (Insert 8 80) ≡ Absent
sample_was_new = refl

sample_was : map_answer 2 ((7, 70) ∷ (8, 80) ∷ []) (Insert 7 71) ≡ Value 70
sample_was = refl

sample_was_full : map_answer 2 ((7, 70) ∷ (8, 80) ∷ []) (Insert 9 90) ≡ Full
sample_was_full = refl

sample_got : map_answer 2 ((7, 70) ∷ (8, 80) ∷ []) (Get 8) ≡ Value 80
sample_got = refl

sample_not_got : map_answer 2 ((7, 70) ∷ (8, 80) ∷ []) (Get 9) ≡ Absent
sample_not_got = refl

sample_was_removed : map_answer 2 ((7, 70) ∷ (8, 80) ∷ []) (Remove 7) ≡ Value 70
sample_was_removed = refl

sample_words : map_words 2 ((7, 70) ∷ []) ≡ 1 ∷ 7 ∷ 70 ∷ 0 ∷ 0 ∷ []
sample_words = refl

sample_spelled : (spelled 2).object.next (1 ∷ 7 ∷ 70 ∷ 0 ∷ 0 ∷ []) (1 ∷ 8 ∷ 80 ∷ []) ≡ 2 ∷ 7 ∷ 70 ∷ 8 ∷ 80 ∷ []
sample_spelled = refl

sample_other : call_in (3 ∷ 9 ∷ 9 ∷ []) ≡ Get 9
sample_other = refl
