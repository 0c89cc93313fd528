-- The stack without a bound: its state is the list of its numbers, the newest of them first.
use Rattle.std.specs.Prelude.{◌≡◌, ◌++◌, ℕ, if◌then◌else◌, List, [], ◌∷◌, map, Option, Some, None, option_map, codes, refl}
use Rattle.std.specs.Fmt.{decimal}
use Rattle.std.specs.Str.{bytes_eq}
use Rattle.seq_object.specs.Sequential.{Sequential}
use Rattle.ready_objects.specs.Number.{number_of_word}
use Rattle.ready_objects.specs.Words.{words_of_text}
use Rattle.judged_objects.specs.Wording.{Wording}
use Rattle.judged_objects.specs.declared.stack.StackInv.{StackInv}
use Rattle.judged_objects.specs.declared.stack.StackInv.TheVariants.{Push, Pop}
use Rattle.judged_objects.specs.declared.stack.StackResp.{StackResp}
use Rattle.judged_objects.specs.declared.stack.StackResp.TheVariants.{Pushed, Popped, Empty}

-- the numbers after an invocation
abbrev pub stack_next : List ℕ → StackInv → List ℕ
stack_next numbers (Push v) = v ∷ numbers
stack_next [] Pop = []
stack_next (v ∷ numbers) Pop = numbers

-- the response to it
abbrev pub stack_answer : List ℕ → StackInv → StackResp
stack_answer numbers (Push v) = Pushed
stack_answer [] Pop = Empty
stack_answer (v ∷ numbers) Pop = Popped v

abbrev pub stack : Sequential (List ℕ) StackInv StackResp
stack = record { initial = []; next = stack_next; answer = stack_answer }

abbrev pub stack_inv_of_words : List (List ℕ) → Option StackInv
stack_inv_of_words (name ∷ []) = if bytes_eq name (codes "pop") then Some Pop else None
stack_inv_of_words (name ∷ v ∷ []) = if bytes_eq name (codes "push") then option_map Push (number_of_word v) else None
stack_inv_of_words _ = None

abbrev pub stack_resp_of_words : List (List ℕ) → Option StackResp
stack_resp_of_words (word ∷ []) =
    if bytes_eq word (codes "ok") then Some Pushed
    else if bytes_eq word (codes "empty") then Some Empty
    else option_map Popped (number_of_word word)
stack_resp_of_words _ = None

abbrev pub stack_resp_text : StackResp → List ℕ
stack_resp_text Pushed = codes "ok"
stack_resp_text (Popped v) = decimal v
stack_resp_text Empty = codes "empty"

abbrev pub stack_inv_text : StackInv → List ℕ
stack_inv_text (Push v) = codes "push " ++ decimal v
stack_inv_text Pop = codes "pop"

abbrev pub stack_wording : Wording StackInv StackResp
stack_wording = record {
  inv_of_words = stack_inv_of_words;
  resp_of_words = stack_resp_of_words;
  inv_text = stack_inv_text;
  resp_text = stack_resp_text;
}

a_number_comes_first : stack_next (4 ∷ []) (Push 7) ≡ 7 ∷ 4 ∷ []
a_number_comes_first = refl

the_newest_is_taken : stack_answer (7 ∷ 4 ∷ []) Pop ≡ Popped 7
the_newest_is_taken = refl

the_others_stay : stack_next (7 ∷ 4 ∷ []) Pop ≡ 4 ∷ []
the_others_stay = refl

an_empty_stack_says_so : stack_answer [] Pop ≡ Empty
an_empty_stack_says_so = refl

words_of_calls : map (λ t. stack_inv_of_words (words_of_text t)) (codes "push 7" ∷ codes "pop" ∷ codes "pop 7" ∷ [])
    ≡ Some (Push 7) ∷ Some Pop ∷ None ∷ []
unfolding number_of_word
words_of_calls = refl
