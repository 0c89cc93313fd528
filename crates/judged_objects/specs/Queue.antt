-- The queue without a bound: its state is the list of its numbers, the first of them first.
use Rattle.std.specs.Prelude.{◌≡◌, ℕ, if◌then◌else◌, List, [], ◌∷◌, ◌++◌, map, Option, Some, None, option_map, codes, refl}
use Rattle.std.specs.Fmt.{decimal}
use Rattle.std.specs.Str.{bytes_eq}
use Rattle.seq_object.specs.Sequential.{Sequential}
use Rattle.ready_objects.specs.Number.{number_of_word}
use Rattle.ready_objects.specs.Words.{words_of_text}
use Rattle.judged_objects.specs.Wording.{Wording}
use Rattle.judged_objects.specs.declared.queue.QueueInv.{QueueInv}
use Rattle.judged_objects.specs.declared.queue.QueueInv.TheVariants.{Enq, Deq}
use Rattle.judged_objects.specs.declared.queue.QueueResp.{QueueResp}
use Rattle.judged_objects.specs.declared.queue.QueueResp.TheVariants.{Added, Taken, Empty}

-- the numbers after an invocation
abbrev pub queue_next : List ℕ → QueueInv → List ℕ
queue_next numbers (Enq v) = numbers ++ v ∷ []
queue_next [] Deq = []
queue_next (v ∷ numbers) Deq = numbers

-- the response to it
abbrev pub queue_answer : List ℕ → QueueInv → QueueResp
queue_answer numbers (Enq v) = Added
queue_answer [] Deq = Empty
queue_answer (v ∷ numbers) Deq = Taken v

abbrev pub queue : Sequential (List ℕ) QueueInv QueueResp
queue = record { initial = []; next = queue_next; answer = queue_answer }

abbrev pub queue_inv_of_words : List (List ℕ) → Option QueueInv
queue_inv_of_words (name ∷ []) = if bytes_eq name (codes "deq") then Some Deq else None
queue_inv_of_words (name ∷ v ∷ []) = if bytes_eq name (codes "enq") then option_map Enq (number_of_word v) else None
queue_inv_of_words _ = None

abbrev pub queue_resp_of_words : List (List ℕ) → Option QueueResp
queue_resp_of_words (word ∷ []) =
    if bytes_eq word (codes "ok") then Some Added
    else if bytes_eq word (codes "empty") then Some Empty
    else option_map Taken (number_of_word word)
queue_resp_of_words _ = None

abbrev pub queue_resp_text : QueueResp → List ℕ
queue_resp_text Added = codes "ok"
queue_resp_text (Taken v) = decimal v
queue_resp_text Empty = codes "empty"

abbrev pub queue_inv_text : QueueInv → List ℕ
queue_inv_text (Enq v) = codes "enq " ++ decimal v
queue_inv_text Deq = codes "deq"

abbrev pub queue_wording : Wording QueueInv QueueResp
queue_wording = record {
  inv_of_words = queue_inv_of_words;
  resp_of_words = queue_resp_of_words;
  inv_text = queue_inv_text;
  resp_text = queue_resp_text;
}

a_number_goes_last : queue_next (4 ∷ []) (Enq 7) ≡ 4 ∷ 7 ∷ []
a_number_goes_last = refl

the_first_is_taken : queue_answer (4 ∷ 7 ∷ []) Deq ≡ Taken 4
the_first_is_taken = refl

the_others_stay : queue_next (4 ∷ 7 ∷ []) Deq ≡ 7 ∷ []
the_others_stay = refl

an_empty_queue_says_so : queue_answer [] Deq ≡ Empty
an_empty_queue_says_so = refl

words_of_calls : map (λ t. queue_inv_of_words (words_of_text t)) (codes "enq 7" ∷ codes "deq" ∷ codes "deq 7" ∷ codes "enq" ∷ [])
    ≡ Some (Enq 7) ∷ Some Deq ∷ None ∷ None ∷ []
unfolding number_of_word
words_of_calls = refl

words_of_replies : map (λ t. queue_resp_of_words (words_of_text t)) (codes "ok" ∷ codes "7" ∷ codes "empty" ∷ codes "full" ∷ [])
    ≡ Some Added ∷ Some (Taken 7) ∷ Some Empty ∷ None ∷ []
unfolding number_of_word
words_of_replies = refl
