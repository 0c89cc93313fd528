-- The sticky register: its state is its value, where that is settled.
use Rattle.std.specs.Prelude.{◌≡◌, ℕ, ◌/◌, ◌%◌, ◌==◌, if◌then◌else◌, List, [], ◌∷◌, ◌++◌, map, Option}
use Rattle.std.specs.Prelude.{Some, None, option_map, codes, refl}
use Rattle.std.specs.Fmt.{decimal, digits}
use Rattle.std.specs.Str.{bytes_eq}
use Rattle.seq_object.specs.History.{Call}
use Rattle.seq_object.specs.Sequential.{Sequential}
use Rattle.ready_objects.specs.Spoken.{Language}
use Rattle.ready_objects.specs.Number.{number_of_word}
use Rattle.ready_objects.specs.Words.{words_of_text}
use Rattle.ready_objects.specs.declared.sticky.StickyInv.{StickyInv}
use Rattle.ready_objects.specs.declared.sticky.StickyInv.TheVariants.{Stick, Read}
use Rattle.ready_objects.specs.declared.sticky.StickyResp.{StickyResp}
use Rattle.ready_objects.specs.declared.sticky.StickyResp.TheVariants.{Settled, Unset}

-- the value after an invocation: the first that is proposed stays
abbrev pub sticky_next : Option ℕ → StickyInv → Option ℕ
sticky_next None (Stick v) = Some v
sticky_next (Some w) (Stick v) = Some w
sticky_next value Read = value

-- the response to it: the value that is settled
abbrev pub sticky_answer : Option ℕ → StickyInv → StickyResp
sticky_answer (Some w) _ = Settled w
sticky_answer None (Stick v) = Settled v
sticky_answer None Read = Unset

-- the object
abbrev pub sticky : Sequential (Option ℕ) StickyInv StickyResp
sticky = record { initial = None; next = sticky_next; answer = sticky_answer }

-- the words of an invocation
abbrev pub sticky_words : StickyInv → List (List ℕ)
sticky_words (Stick v) = codes "stick" ∷ decimal v ∷ []
sticky_words Read = codes "read" ∷ []

-- the invocation that words are
abbrev pub sticky_inv_of_words : List (List ℕ) → Option StickyInv
sticky_inv_of_words (name ∷ []) = if bytes_eq name (codes "read") then Some Read else None
sticky_inv_of_words (name ∷ v ∷ []) = if bytes_eq name (codes "stick") then option_map Stick (number_of_word v) else None
sticky_inv_of_words _ = None

-- the text of a response
abbrev pub sticky_resp_text : StickyResp → List ℕ
sticky_resp_text (Settled v) = decimal v
sticky_resp_text Unset = codes "unset"

-- the text of a state: its value, or that there is none
abbrev pub sticky_text : Option ℕ → List ℕ
sticky_text (Some v) = decimal v
sticky_text None = codes "none"

-- what a drawn word stands for
abbrev pub sticky_inv_of_word : ℕ → StickyInv
sticky_inv_of_word word = if word % 2 == 0 then Read else Stick (word / 2 % 1000)

-- its words
abbrev pub sticky_language : Language StickyInv StickyResp
sticky_language =
    record { inv_words = sticky_words; inv_of_words = sticky_inv_of_words; resp_text = sticky_resp_text; inv_of_word = sticky_inv_of_word }

-- the reply to a call that proposes a value, where it is known
abbrev pub stick_reply : StickyInv → Option StickyResp → List StickyResp
stick_reply (Stick v) (Some reply) = reply ∷ []
stick_reply _ _ = []

-- the replies to the calls that propose a value
abbrev pub stick_replies : List (Call StickyInv StickyResp) → List StickyResp
stick_replies [] = []
stick_replies (call ∷ calls) = stick_reply call.inv call.response ++ stick_replies calls

the_first_value_stays : sticky_next (Some 5) (Stick 9) ≡ Some 5
the_first_value_stays = refl

a_later_proposal_is_told_the_first : sticky_answer (Some 5) (Stick 9) ≡ Settled 5
a_later_proposal_is_told_the_first = refl

a_first_proposal_is_told_its_own : sticky_answer None (Stick 5) ≡ Settled 5
a_first_proposal_is_told_its_own = refl

a_read_at_the_start_is_unset : sticky_answer None Read ≡ Unset
a_read_at_the_start_is_unset = refl

words_of_stick : sticky_words (Stick 9) ≡ codes "stick" ∷ codes "9" ∷ []
unfolding digits
words_of_stick = refl

drawn_19 : sticky_inv_of_word 19 ≡ Stick 9
drawn_19 = refl

drawn_18 : sticky_inv_of_word 18 ≡ Read
drawn_18 = refl

-- each word and each text
stick_is_read : sticky_inv_of_words (words_of_text (codes "stick 7")) ≡ Some (Stick 7)
unfolding number_of_word
stick_is_read = refl

read_is_read : sticky_inv_of_words (words_of_text (codes "read")) ≡ Some Read
read_is_read = refl

words_of_read : sticky_words Read ≡ codes "read" ∷ []
words_of_read = refl

texts_of_responses : map sticky_resp_text (Settled 7 ∷ Unset ∷ []) ≡ codes "7" ∷ codes "unset" ∷ []
unfolding digits
texts_of_responses = refl

texts_of_states : map sticky_text (Some 5 ∷ None ∷ []) ≡ codes "5" ∷ codes "none" ∷ []
unfolding digits
texts_of_states = refl

value_999999999999_is_taken : sticky_inv_of_words (words_of_text (codes "stick 999999999999")) ≡ Some (Stick 999999999999)
unfolding number_of_word
value_999999999999_is_taken = refl

value_1000000000000_is_not : sticky_inv_of_words (words_of_text (codes "stick 1000000000000")) ≡ None
unfolding number_of_word
value_1000000000000_is_not = refl

-- drawn words at each residue, on both sides of 1000 values, and the greatest ones
drawn_at_each_residue : map sticky_inv_of_word (0 ∷ 1 ∷ 2 ∷ 3 ∷ []) ≡ Read ∷ Stick 0 ∷ Read ∷ Stick 1 ∷ []
drawn_at_each_residue = refl

drawn_values_are_below_1000 : map sticky_inv_of_word (1999 ∷ 2001 ∷ []) ≡ Stick 999 ∷ Stick 0 ∷ []
drawn_values_are_below_1000 = refl

drawn_from_the_greatest_words : map sticky_inv_of_word (18446744073709551614 ∷ 18446744073709551615 ∷ []) ≡ Read ∷ Stick 807 ∷ []
drawn_from_the_greatest_words = refl

value_0_is_taken : sticky_inv_of_words (words_of_text (codes "stick 0")) ≡ Some (Stick 0)
unfolding number_of_word
value_0_is_taken = refl

a_leading_zero_is_not : sticky_inv_of_words (words_of_text (codes "stick 00")) ≡ None
unfolding number_of_word
a_leading_zero_is_not = refl

numbers_past_64_bits_are_not : map (λ text. sticky_inv_of_words (words_of_text text))
    (codes "stick 18446744073709551616" ∷ codes "stick 18446744073709551617" ∷ []) ≡ None ∷ None ∷ []
unfolding number_of_word
numbers_past_64_bits_are_not = refl
