-- The counter: its state is its sum, below 2^64.
use Rattle.std.specs.Prelude.{◌≡◌, ◌++◌, ◌+◌, ◌-◌, ◌%◌, ◌^◌, ℕ, if◌then◌else◌, List, [], ◌∷◌, map, Option, Some, None, option_map, codes, refl}
use Rattle.std.specs.Fmt.{decimal}
use Rattle.std.specs.Str.{bytes_eq}
use Rattle.seq_object.specs.Sequential.{Sequential}
use Rattle.ready_objects.specs.Number.{number_of_word}
use Rattle.ready_objects.specs.Words.{words_of_text}
use Rattle.judged_objects.specs.Wording.{Wording}
use Rattle.judged_objects.specs.declared.counter.CounterInv.{CounterInv}
use Rattle.judged_objects.specs.declared.counter.CounterInv.TheVariants.{Read, Add, GetAndAdd}
use Rattle.judged_objects.specs.declared.counter.CounterResp.{CounterResp}
use Rattle.judged_objects.specs.declared.counter.CounterResp.TheVariants.{Value, Added}

-- the sum after an invocation
abbrev pub counter_next : ℕ → CounterInv → ℕ
counter_next sum Read = sum
counter_next sum (Add v) = (sum + v) % 2 ^ 64
counter_next sum (GetAndAdd v) = (sum + v) % 2 ^ 64

-- the response to it
abbrev pub counter_answer : ℕ → CounterInv → CounterResp
counter_answer sum Read = Value sum
counter_answer sum (Add v) = Added
counter_answer sum (GetAndAdd v) = Value sum

abbrev pub counter : Sequential ℕ CounterInv CounterResp
counter = record { initial = 0; next = counter_next; answer = counter_answer }

abbrev pub counter_inv_of_words : List (List ℕ) → Option CounterInv
counter_inv_of_words (name ∷ []) = if bytes_eq name (codes "read") then Some Read else None
counter_inv_of_words (name ∷ v ∷ []) =
    if bytes_eq name (codes "add") then option_map Add (number_of_word v)
    else if bytes_eq name (codes "getadd") then option_map GetAndAdd (number_of_word v)
    else None
counter_inv_of_words _ = None

abbrev pub counter_resp_of_words : List (List ℕ) → Option CounterResp
counter_resp_of_words (word ∷ []) = if bytes_eq word (codes "ok") then Some Added else option_map Value (number_of_word word)
counter_resp_of_words _ = None

abbrev pub counter_resp_text : CounterResp → List ℕ
counter_resp_text (Value v) = decimal v
counter_resp_text Added = codes "ok"

abbrev pub counter_inv_text : CounterInv → List ℕ
counter_inv_text Read = codes "read"
counter_inv_text (Add v) = codes "add " ++ decimal v
counter_inv_text (GetAndAdd v) = codes "getadd " ++ decimal v

abbrev pub counter_wording : Wording CounterInv CounterResp
counter_wording = record {
  inv_of_words = counter_inv_of_words;
  resp_of_words = counter_resp_of_words;
  inv_text = counter_inv_text;
  resp_text = counter_resp_text;
}

a_number_is_added : map (counter_next 4) (Add 7 ∷ GetAndAdd 7 ∷ Read ∷ []) ≡ 11 ∷ 11 ∷ 4 ∷ []
a_number_is_added = refl

the_sum_before_is_answered : map (counter_answer 4) (Add 7 ∷ GetAndAdd 7 ∷ Read ∷ []) ≡ Added ∷ Value 4 ∷ Value 4 ∷ []
the_sum_before_is_answered = refl

it_goes_round : counter_next (2 ^ 64 - 1) (Add 2) ≡ 1
it_goes_round = refl

words_of_calls : map (λ t. counter_inv_of_words (words_of_text t)) (codes "read" ∷ codes "add 7" ∷ codes "getadd 7" ∷ [])
    ≡ Some Read ∷ Some (Add 7) ∷ Some (GetAndAdd 7) ∷ []
unfolding number_of_word
words_of_calls = refl
