-- The set of numbers: its state is the list of its numbers, in rising order.
use Rattle.std.specs.Prelude.{◌≡◌, ◌==◌, ℕ, Bool, not, nat_lt, if◌then◌else◌, List, [], ◌∷◌, ◌++◌, filter, map, Option, Some, None, option_map, codes, refl}
use Rattle.std.specs.List.{list_any}
use Rattle.std.specs.Fmt.{decimal}
use Rattle.std.specs.Str.{bytes_eq}
use Rattle.seq_object.specs.Sequential.{Sequential}
use Rattle.ready_objects.specs.Number.{number_of_word}
use Rattle.ready_objects.specs.Words.{words_of_text}
use Rattle.judged_objects.specs.Wording.{Wording}
use Rattle.judged_objects.specs.declared.set.SetInv.{SetInv}
use Rattle.judged_objects.specs.declared.set.SetInv.TheVariants.{Add, Remove, Contains}
use Rattle.judged_objects.specs.declared.set.SetResp.{SetResp}
use Rattle.judged_objects.specs.declared.set.SetResp.TheVariants.{Yes, No}

abbrev pub has : List ℕ → ℕ → Bool
has numbers v = list_any (λ x. x == v) numbers

abbrev pub without : List ℕ → ℕ → List ℕ
without numbers v = filter (λ x. not (x == v)) numbers

-- those below it, the number, and those above it
abbrev pub with : List ℕ → ℕ → List ℕ
with numbers v = filter (λ x. nat_lt x v) numbers ++ v ∷ filter (λ x. nat_lt v x) numbers

abbrev pub said : Bool → SetResp
said is_so = if is_so then Yes else No

-- the numbers after an invocation
abbrev pub set_next : List ℕ → SetInv → List ℕ
set_next numbers (Add v) = with numbers v
set_next numbers (Remove v) = without numbers v
set_next numbers (Contains v) = numbers

-- the response to it: whether it changed the set, or found the number
abbrev pub set_answer : List ℕ → SetInv → SetResp
set_answer numbers (Add v) = said (not (has numbers v))
set_answer numbers (Remove v) = said (has numbers v)
set_answer numbers (Contains v) = said (has numbers v)

abbrev pub set : Sequential (List ℕ) SetInv SetResp
set = record { initial = []; next = set_next; answer = set_answer }

-- the number that an invocation is about
abbrev pub set_key : SetInv → ℕ
set_key (Add v) = v
set_key (Remove v) = v
set_key (Contains v) = v

abbrev pub set_inv_of_words : List (List ℕ) → Option SetInv
set_inv_of_words (name ∷ v ∷ []) =
    if bytes_eq name (codes "add") then option_map Add (number_of_word v)
    else if bytes_eq name (codes "remove") then option_map Remove (number_of_word v)
    else if bytes_eq name (codes "contains") then option_map Contains (number_of_word v)
    else None
set_inv_of_words _ = None

abbrev pub set_resp_of_words : List (List ℕ) → Option SetResp
set_resp_of_words (word ∷ []) =
    if bytes_eq word (codes "true") then Some Yes else if bytes_eq word (codes "false") then Some No else None
set_resp_of_words _ = None

abbrev pub set_resp_text : SetResp → List ℕ
set_resp_text Yes = codes "true"
set_resp_text No = codes "false"

abbrev pub set_inv_text : SetInv → List ℕ
set_inv_text (Add v) = codes "add " ++ decimal v
set_inv_text (Remove v) = codes "remove " ++ decimal v
set_inv_text (Contains v) = codes "contains " ++ decimal v

abbrev pub set_wording : Wording SetInv SetResp
set_wording = record { inv_of_words = set_inv_of_words; resp_of_words = set_resp_of_words; inv_text = set_inv_text; resp_text = set_resp_text }

a_number_stands_once_and_in_order : map (set_next (4 ∷ 7 ∷ [])) (Add 5 ∷ Add 7 ∷ Remove 4 ∷ Remove 5 ∷ Contains 4 ∷ [])
    ≡ (4 ∷ 5 ∷ 7 ∷ []) ∷ (4 ∷ 7 ∷ []) ∷ (7 ∷ []) ∷ (4 ∷ 7 ∷ []) ∷ (4 ∷ 7 ∷ []) ∷ []
a_number_stands_once_and_in_order = refl

what_is_answered : map (set_answer (4 ∷ 7 ∷ [])) (Add 5 ∷ Add 7 ∷ Remove 4 ∷ Remove 5 ∷ Contains 4 ∷ Contains 5 ∷ [])
    ≡ Yes ∷ No ∷ Yes ∷ No ∷ Yes ∷ No ∷ []
what_is_answered = refl

words_of_calls : map (λ t. set_inv_of_words (words_of_text t)) (codes "add 7" ∷ codes "remove 7" ∷ codes "contains 7" ∷ codes "add" ∷ [])
    ≡ Some (Add 7) ∷ Some (Remove 7) ∷ Some (Contains 7) ∷ None ∷ []
unfolding number_of_word
words_of_calls = refl
