-- The stack: its state is its numbers, the newest of them last.
use Rattle.std.specs.Prelude.{◌≡◌, ℕ, ◌-◌, ◌/◌, ◌%◌, ◌^◌, ◌==◌, if◌then◌else◌, List, [], ◌∷◌}
use Rattle.std.specs.Prelude.{◌++◌, length, take, slice_get, Option, Some, None, option_map, codes, refl}
use Rattle.std.specs.Fmt.{decimal, digits}
use Rattle.std.specs.Str.{bytes_eq}
use Rattle.ready_objects.specs.Number.{number_below, number_of_word}
use Rattle.ready_objects.specs.Spoken.{Language}
use Rattle.seq_object.specs.Sequential.{Sequential}
use Rattle.stack.specs.declared.StackInv.{StackInv}
use Rattle.stack.specs.declared.StackInv.TheVariants.{Push, Pop}
use Rattle.stack.specs.declared.StackResp.{StackResp}
use Rattle.stack.specs.declared.StackResp.TheVariants.{Pushed, Popped, Empty}

abbrev pub stack_next : List ℕ → StackInv → List ℕ
stack_next values (Push v) = values ++ v ∷ []
stack_next values Pop = take (length values - 1) values

-- the response to a pop, by the newest number
abbrev pub popped : Option ℕ → StackResp
popped None = Empty
popped (Some v) = Popped v

abbrev pub stack_answer : List ℕ → StackInv → StackResp
stack_answer values (Push v) = Pushed
stack_answer values Pop = popped (slice_get values (length values - 1))

abbrev pub stack : Sequential (List ℕ) StackInv StackResp
stack = record { initial = []; next = stack_next; answer = stack_answer }

-- the words of an invocation
abbrev pub stack_words : StackInv → List (List ℕ)
stack_words (Push v) = codes "push" ∷ decimal v ∷ []
stack_words Pop = codes "pop" ∷ []

-- the invocation that words are
abbrev pub stack_inv_of_words : List (List ℕ) → Option StackInv
stack_inv_of_words (name ∷ []) = if bytes_eq name (codes "pop") then Some Pop else None
stack_inv_of_words (name ∷ v ∷ []) = if bytes_eq name (codes "push") then option_map Push (number_below (2 ^ 32) v) else None
stack_inv_of_words _ = None

-- the text of a response
abbrev pub stack_resp_text : StackResp → List ℕ
stack_resp_text Pushed = codes "pushed"
stack_resp_text (Popped v) = decimal v
stack_resp_text Empty = codes "empty"

-- what a drawn word stands for
abbrev pub stack_inv_of_word : ℕ → StackInv
stack_inv_of_word word = if word % 2 == 0 then Pop else Push (word / 2 % 1000)

abbrev pub stack_language : Language StackInv StackResp
stack_language =
    record { inv_words = stack_words; inv_of_words = stack_inv_of_words; resp_text = stack_resp_text; inv_of_word = stack_inv_of_word }

-- the text of a state, by the newest number
abbrev pub newest_text : Option ℕ → List ℕ
newest_text None = codes "empty"
newest_text (Some v) = decimal v

abbrev pub stack_text : List ℕ → List ℕ
stack_text values = newest_text (slice_get values (length values - 1))

next-push : stack_next (5 ∷ []) (Push 3) ≡ 5 ∷ 3 ∷ []
next-push = refl

next-pop : stack_next (5 ∷ 3 ∷ []) Pop ≡ 5 ∷ []
next-pop = refl

answer-pop : stack_answer (5 ∷ 3 ∷ []) Pop ≡ Popped 3
answer-pop = refl

answer-empty : stack_answer [] Pop ≡ Empty
answer-empty = refl

words-push : stack_inv_of_words (codes "push" ∷ codes "5" ∷ []) ≡ Some (Push 5)
unfolding number_below number_of_word
words-push = refl

words-push-too-far : stack_inv_of_words (codes "push" ∷ codes "4294967296" ∷ []) ≡ None
unfolding number_below number_of_word
words-push-too-far = refl

text-newest : stack_text (5 ∷ 3 ∷ []) ≡ codes "3"
unfolding digits
text-newest = refl
