-- The map of numbers: its state is the list of its entries, in rising order of their keys.
use Rattle.std.specs.Prelude.{◌≡◌, ◌==◌, ℕ, not, nat_lt, if◌then◌else◌, List, [], ◌∷◌, ◌++◌, filter, map, Option, Some, None, option_map, option_and_then, codes, refl}
use Rattle.std.specs.Fmt.{decimal}
use Rattle.std.specs.Str.{bytes_eq}
use Rattle.seq_object.specs.Sequential.{Sequential}
use Rattle.ready_objects.specs.Number.{number_of_word}
use Rattle.ready_objects.specs.Words.{words_of_text}
use Rattle.judged_objects.specs.Wording.{Wording}
use Rattle.judged_objects.specs.declared.entries.Entry.{Entry}
use Rattle.judged_objects.specs.declared.map.MapInv.{MapInv}
use Rattle.judged_objects.specs.declared.map.MapInv.TheVariants.{Get, Put, Insert, Remove}
use Rattle.judged_objects.specs.declared.map.MapResp.{MapResp}
use Rattle.judged_objects.specs.declared.map.MapResp.TheVariants.{Value, Missing, Written}

-- the value of a key
abbrev pub value_at : List Entry → ℕ → Option ℕ
value_at [] k = None
value_at (e ∷ entries) k = if e.key == k then Some e.value else value_at entries k

abbrev pub without : List Entry → ℕ → List Entry
without entries k = filter (λ e. not (e.key == k)) entries

-- those below the key, its entry, and those above it
abbrev pub with : List Entry → (k v : ℕ) → List Entry
with entries k v = filter (λ e. nat_lt e.key k) entries ++ record { key = k; value = v } ∷ filter (λ e. nat_lt k e.key) entries

-- what is answered of a value
abbrev pub found : Option ℕ → MapResp
found (Some v) = Value v
found None = Missing

-- the entries after an invocation
abbrev pub map_next : List Entry → MapInv → List Entry
map_next entries (Get k) = entries
map_next entries (Put k v) = with entries k v
map_next entries (Insert k v) = with entries k v
map_next entries (Remove k) = without entries k

-- the response to it: the value before, but for a Put
abbrev pub map_answer : List Entry → MapInv → MapResp
map_answer entries (Get k) = found (value_at entries k)
map_answer entries (Put k v) = Written
map_answer entries (Insert k v) = found (value_at entries k)
map_answer entries (Remove k) = found (value_at entries k)

abbrev pub map_object : Sequential (List Entry) MapInv MapResp
map_object = record { initial = []; next = map_next; answer = map_answer }

-- the key of an invocation
abbrev pub map_key : MapInv → ℕ
map_key (Get k) = k
map_key (Put k v) = k
map_key (Insert k v) = k
map_key (Remove k) = k

abbrev pub map_inv_of_words : List (List ℕ) → Option MapInv
map_inv_of_words (name ∷ k ∷ []) =
    if bytes_eq name (codes "get") then option_map Get (number_of_word k)
    else if bytes_eq name (codes "remove") then option_map Remove (number_of_word k)
    else None
map_inv_of_words (name ∷ k ∷ v ∷ []) =
    if bytes_eq name (codes "put") then option_and_then (λ a. option_map (λ b. Put a b) (number_of_word v)) (number_of_word k)
    else if bytes_eq name (codes "insert") then option_and_then (λ a. option_map (λ b. Insert a b) (number_of_word v)) (number_of_word k)
    else None
map_inv_of_words _ = None

abbrev pub map_resp_of_words : List (List ℕ) → Option MapResp
map_resp_of_words (word ∷ []) =
    if bytes_eq word (codes "ok") then Some Written
    else if bytes_eq word (codes "none") then Some Missing
    else option_map Value (number_of_word word)
map_resp_of_words _ = None

abbrev pub map_resp_text : MapResp → List ℕ
map_resp_text (Value v) = decimal v
map_resp_text Missing = codes "none"
map_resp_text Written = codes "ok"

abbrev pub map_inv_text : MapInv → List ℕ
map_inv_text (Get v) = codes "get " ++ decimal v
map_inv_text (Put u v) = (codes "put " ++ decimal u) ++ (codes " " ++ decimal v)
map_inv_text (Insert u v) = (codes "insert " ++ decimal u) ++ (codes " " ++ decimal v)
map_inv_text (Remove v) = codes "remove " ++ decimal v

abbrev pub map_wording : Wording MapInv MapResp
map_wording = record { inv_of_words = map_inv_of_words; resp_of_words = map_resp_of_words; inv_text = map_inv_text; resp_text = map_resp_text }

-- the entries 4: 40 and 7: 70
abbrev sample : List Entry
sample = record { key = 4; value = 40 } ∷ record { key = 7; value = 70 } ∷ []

a_value_is_set_in_its_place : map (λ e. e.key) (map_next sample (Put 5 50)) ≡ 4 ∷ 5 ∷ 7 ∷ []
a_value_is_set_in_its_place = refl

one_key_has_one_value : map (λ e. e.value) (map_next sample (Insert 7 71)) ≡ 40 ∷ 71 ∷ []
one_key_has_one_value = refl

a_key_is_taken_out : map (λ e. e.key) (map_next sample (Remove 4)) ≡ 7 ∷ []
a_key_is_taken_out = refl

what_is_answered : map (map_answer sample) (Get 4 ∷ Get 5 ∷ Put 4 1 ∷ Insert 7 71 ∷ Remove 5 ∷ [])
    ≡ Value 40 ∷ Missing ∷ Written ∷ Value 70 ∷ Missing ∷ []
what_is_answered = refl

words_of_calls : map (λ t. map_inv_of_words (words_of_text t))
    (codes "get 7" ∷ codes "put 7 1" ∷ codes "insert 7 1" ∷ codes "remove 7" ∷ codes "put 7" ∷ [])
    ≡ Some (Get 7) ∷ Some (Put 7 1) ∷ Some (Insert 7 1) ∷ Some (Remove 7) ∷ None ∷ []
unfolding number_of_word
words_of_calls = refl
