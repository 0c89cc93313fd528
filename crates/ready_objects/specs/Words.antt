-- Words, and the text that they make.
use Rattle.std.specs.Prelude.{◌≡◌, ℕ, ◌+◌, ◌==◌, if◌then◌else◌, List, [], ◌∷◌, ◌++◌, map, codes, refl}
use Rattle.std.specs.Borrow.{Bor}
use Rattle.std.specs.List.{join_with_byte, slice_split}

-- the bytes of each word
abbrev pub bytes_of : List (Bor (List ℕ)) → List (List ℕ)
bytes_of words = map (λ word. word.now) words

-- the words with one space between
abbrev pub text_of_words : List (List ℕ) → List ℕ
text_of_words words = join_with_byte 32 words

-- the words of a text, cut at each space
abbrev pub words_of_text : List ℕ → List (List ℕ)
words_of_text text = slice_split (λ b. b == 32) text

-- what stands before a text at a place: a space, but for the first one
abbrev pub gap : (place : ℕ) → List ℕ
gap place = if place == 0 then [] else codes " "

-- texts with one space between, from this place on
abbrev pub spaced_from : {A : Type 0} → (A → List ℕ) → (place : ℕ) → List A → List ℕ
spaced_from text place [] = []
spaced_from text place (x ∷ xs) = gap place ++ text x ++ spaced_from text (place + 1) xs

two_words_make_a_text : text_of_words (codes "enq" ∷ codes "7" ∷ []) ≡ codes "enq 7"
two_words_make_a_text = refl

a_text_is_cut_into_words : words_of_text (codes "move 1 2 5") ≡ codes "move" ∷ codes "1" ∷ codes "2" ∷ codes "5" ∷ []
a_text_is_cut_into_words = refl

two_spaces_have_an_empty_word_between : words_of_text (codes "a  b") ≡ codes "a" ∷ [] ∷ codes "b" ∷ []
two_spaces_have_an_empty_word_between = refl

three_texts_have_two_spaces_between : spaced_from (λ b. b ∷ []) 0 (codes "abc") ≡ codes "a b c"
three_texts_have_two_spaces_between = refl
