-- The register with compare and exchange: its state is its number.
use Rattle.std.specs.Prelude.{◌≡◌, ◌++◌, ◌==◌, ℕ, if◌then◌else◌, List, [], ◌∷◌, map, Option, Some, None, option_map, option_and_then, codes, refl}
use Rattle.std.specs.Fmt.{decimal}
use Rattle.std.specs.Str.{bytes_eq}
use Rattle.seq_object.specs.Sequential.{Sequential}
use Rattle.ready_objects.specs.Number.{number_of_word}
use Rattle.ready_objects.specs.Words.{words_of_text}
use Rattle.judged_objects.specs.Wording.{Wording}
use Rattle.judged_objects.specs.declared.register.RegisterInv.{RegisterInv}
use Rattle.judged_objects.specs.declared.register.RegisterInv.TheVariants.{Read, Write, Exchange}
use Rattle.judged_objects.specs.declared.register.RegisterResp.{RegisterResp}
use Rattle.judged_objects.specs.declared.register.RegisterResp.TheVariants.{Value, Written, Exchanged, Kept}

-- the number after an invocation
abbrev pub register_next : ℕ → RegisterInv → ℕ
register_next number Read = number
register_next number (Write v) = v
register_next number (Exchange old new) = if number == old then new else number

-- the response to it
abbrev pub register_answer : ℕ → RegisterInv → RegisterResp
register_answer number Read = Value number
register_answer number (Write v) = Written
register_answer number (Exchange old new) = if number == old then Exchanged else Kept

abbrev pub register : Sequential ℕ RegisterInv RegisterResp
register = record { initial = 0; next = register_next; answer = register_answer }

abbrev pub register_inv_of_words : List (List ℕ) → Option RegisterInv
register_inv_of_words (name ∷ []) = if bytes_eq name (codes "read") then Some Read else None
register_inv_of_words (name ∷ v ∷ []) = if bytes_eq name (codes "write") then option_map Write (number_of_word v) else None
register_inv_of_words (name ∷ old ∷ new ∷ []) =
    if bytes_eq name (codes "cas")
    then option_and_then (λ a. option_map (λ b. Exchange a b) (number_of_word new)) (number_of_word old)
    else None
register_inv_of_words _ = None

abbrev pub register_resp_of_words : List (List ℕ) → Option RegisterResp
register_resp_of_words (word ∷ []) =
    if bytes_eq word (codes "ok") then Some Written
    else if bytes_eq word (codes "true") then Some Exchanged
    else if bytes_eq word (codes "false") then Some Kept
    else option_map Value (number_of_word word)
register_resp_of_words _ = None

abbrev pub register_resp_text : RegisterResp → List ℕ
register_resp_text (Value v) = decimal v
register_resp_text Written = codes "ok"
register_resp_text Exchanged = codes "true"
register_resp_text Kept = codes "false"

abbrev pub register_inv_text : RegisterInv → List ℕ
register_inv_text Read = codes "read"
register_inv_text (Write v) = codes "write " ++ decimal v
register_inv_text (Exchange u v) = (codes "cas " ++ decimal u) ++ (codes " " ++ decimal v)

abbrev pub register_wording : Wording RegisterInv RegisterResp
register_wording = record {
  inv_of_words = register_inv_of_words;
  resp_of_words = register_resp_of_words;
  inv_text = register_inv_text;
  resp_text = register_resp_text;
}

what_was_written_is_read : register_answer (register_next 4 (Write 7)) Read ≡ Value 7
what_was_written_is_read = refl

an_exchange_of_the_number : map (register_next 4) (Exchange 4 7 ∷ Exchange 5 7 ∷ []) ≡ 7 ∷ 4 ∷ []
an_exchange_of_the_number = refl

says_whether_it_was_made : map (register_answer 4) (Exchange 4 7 ∷ Exchange 5 7 ∷ []) ≡ Exchanged ∷ Kept ∷ []
says_whether_it_was_made = refl

words_of_calls : map (λ t. register_inv_of_words (words_of_text t)) (codes "read" ∷ codes "write 7" ∷ codes "cas 4 7" ∷ codes "cas 4" ∷ [])
    ≡ Some Read ∷ Some (Write 7) ∷ Some (Exchange 4 7) ∷ None ∷ []
unfolding number_of_word
words_of_calls = refl
