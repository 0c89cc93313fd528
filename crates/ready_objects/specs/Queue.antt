-- The queue: its state is the list of its values, the first of them first.
use Rattle.std.specs.Prelude.{◌≡◌, ℕ, ◌/◌, ◌%◌, ◌==◌, nat_lt, if◌then◌else◌, List, [], ◌∷◌, ◌++◌}
use Rattle.std.specs.Prelude.{length, map, replicate, Option, Some, None, option_map, codes, refl}
use Rattle.std.specs.Fmt.{decimal, digits}
use Rattle.std.specs.Str.{bytes_eq}
use Rattle.seq_object.specs.Sequential.{Sequential}
use Rattle.ready_objects.specs.Spoken.{Language}
use Rattle.ready_objects.specs.Number.{number_of_word}
use Rattle.ready_objects.specs.Words.{words_of_text}
use Rattle.ready_objects.specs.declared.queue.QueueInv.{QueueInv}
use Rattle.ready_objects.specs.declared.queue.QueueInv.TheVariants.{Enq, Deq}
use Rattle.ready_objects.specs.declared.queue.QueueResp.{QueueResp}
use Rattle.ready_objects.specs.declared.queue.QueueResp.TheVariants.{Added, Full, Taken, Empty}

-- the values after an invocation: at most 1,000
abbrev pub queue_next : List ℕ → QueueInv → List ℕ
queue_next values (Enq v) = if nat_lt (length values) 1000 then values ++ v ∷ [] else values
queue_next [] Deq = []
queue_next (v ∷ values) Deq = values

-- the response to it
abbrev pub queue_answer : List ℕ → QueueInv → QueueResp
queue_answer values (Enq v) = if nat_lt (length values) 1000 then Added else Full
queue_answer [] Deq = Empty
queue_answer (v ∷ values) Deq = Taken v

-- the object
abbrev pub queue : Sequential (List ℕ) QueueInv QueueResp
queue = record { initial = []; next = queue_next; answer = queue_answer }

-- the words of an invocation
abbrev pub queue_words : QueueInv → List (List ℕ)
queue_words (Enq v) = codes "enq" ∷ decimal v ∷ []
queue_words Deq = codes "deq" ∷ []

-- the invocation that words are
abbrev pub queue_inv_of_words : List (List ℕ) → Option QueueInv
queue_inv_of_words (name ∷ []) = if bytes_eq name (codes "deq") then Some Deq else None
queue_inv_of_words (name ∷ v ∷ []) = if bytes_eq name (codes "enq") then option_map Enq (number_of_word v) else None
queue_inv_of_words _ = None

-- the text of a response
abbrev pub queue_resp_text : QueueResp → List ℕ
queue_resp_text Added = codes "ok"
queue_resp_text Full = codes "full"
queue_resp_text (Taken v) = decimal v
queue_resp_text Empty = codes "empty"

-- what a drawn word stands for
abbrev pub queue_inv_of_word : ℕ → QueueInv
queue_inv_of_word word = if word % 3 == 0 then Deq else Enq (word / 3 % 1000)

-- its words
abbrev pub queue_language : Language QueueInv QueueResp
queue_language =
    record { inv_words = queue_words; inv_of_words = queue_inv_of_words; resp_text = queue_resp_text; inv_of_word = queue_inv_of_word }

a_value_is_added : queue_next (4 ∷ []) (Enq 7) ≡ 4 ∷ 7 ∷ []
a_value_is_added = refl

a_full_queue_stays : queue_next (replicate 1000 4) (Enq 7) ≡ replicate 1000 4
a_full_queue_stays = refl

a_full_queue_says_so : queue_answer (replicate 1000 4) (Enq 7) ≡ Full
a_full_queue_says_so = refl

the_first_is_taken : queue_answer (4 ∷ 7 ∷ []) Deq ≡ Taken 4
the_first_is_taken = refl

an_empty_queue_says_so : queue_answer [] Deq ≡ Empty
an_empty_queue_says_so = refl

words_of_enq : queue_words (Enq 7) ≡ codes "enq" ∷ codes "7" ∷ []
unfolding digits
words_of_enq = refl

drawn_22 : queue_inv_of_word 22 ≡ Enq 7
drawn_22 = refl

drawn_33 : queue_inv_of_word 33 ≡ Deq
drawn_33 = refl

a_queue_of_999_takes_a_value : queue_answer (replicate 999 4) (Enq 7) ≡ Added
a_queue_of_999_takes_a_value = refl

it_has_1000_values_then : length (queue_next (replicate 999 4) (Enq 7)) ≡ 1000
it_has_1000_values_then = refl

-- each word and each text
enq_is_read : queue_inv_of_words (words_of_text (codes "enq 7")) ≡ Some (Enq 7)
unfolding number_of_word
enq_is_read = refl

deq_is_read : queue_inv_of_words (words_of_text (codes "deq")) ≡ Some Deq
deq_is_read = refl

words_of_deq : queue_words Deq ≡ codes "deq" ∷ []
words_of_deq = refl

texts_of_responses : map queue_resp_text (Added ∷ Full ∷ Taken 7 ∷ Empty ∷ [])
    ≡ codes "ok" ∷ codes "full" ∷ codes "7" ∷ codes "empty" ∷ []
unfolding digits
texts_of_responses = refl

value_999999999999_is_taken : queue_inv_of_words (words_of_text (codes "enq 999999999999")) ≡ Some (Enq 999999999999)
unfolding number_of_word
value_999999999999_is_taken = refl

value_1000000000000_is_not : queue_inv_of_words (words_of_text (codes "enq 1000000000000")) ≡ None
unfolding number_of_word
value_1000000000000_is_not = refl

-- drawn words at each residue, on both sides of 1000 values, and the greatest ones
drawn_at_each_residue : map queue_inv_of_word (0 ∷ 1 ∷ 2 ∷ 3 ∷ []) ≡ Deq ∷ Enq 0 ∷ Enq 0 ∷ Deq ∷ []
drawn_at_each_residue = refl

drawn_values_are_below_1000 : map queue_inv_of_word (2999 ∷ 3001 ∷ []) ≡ Enq 999 ∷ Enq 0 ∷ []
drawn_values_are_below_1000 = refl

drawn_from_the_greatest_words : map queue_inv_of_word (18446744073709551614 ∷ 18446744073709551615 ∷ []) ≡ Enq 204 ∷ Deq ∷ []
drawn_from_the_greatest_words = refl

value_0_is_taken : queue_inv_of_words (words_of_text (codes "enq 0")) ≡ Some (Enq 0)
unfolding number_of_word
value_0_is_taken = refl

a_leading_zero_is_not : queue_inv_of_words (words_of_text (codes "enq 00")) ≡ None
unfolding number_of_word
a_leading_zero_is_not = refl
