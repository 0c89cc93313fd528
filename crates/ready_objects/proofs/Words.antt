-- Words without a space, and the text that they make.
use Rattle.ready_objects.proofs.Vocabulary.{All, AllPass-from_list_all, Bool, List, [], and_from, and_parts, ap, arith, bytes_eq, false, is_ascii_digit, list_all, nat_tests, not, not-true, refl, sym, text_of_words, true, words_of_text, ℕ, ◌&&◌, ◌==◌, ◌∙◌, ◌∷◌, ◌≡◌}
use Rattle.std.proofs.lemmas.List.Splits.{slice_split_none, slice_split_at}
use Rattle.std.proofs.lemmas.Slice.Eq.{bytes_eq-Decides}

-- no byte is a space
abbrev pub lacks_space : List ℕ → Bool
lacks_space word = list_all (λ b. not (b == 32)) word

-- the same, byte by byte
no_space : (word : List ℕ) → lacks_space word ≡ true → All (λ b. (b == 32) ≡ false) word
no_space word lacks = λ k d below. not-true _ (AllPass-from_list_all (λ b. not (b == 32)) word lacks k d below)

-- digits have no space among them
pub lacks_space-digits : (word : List ℕ) → list_all is_ascii_digit word ≡ true → lacks_space word ≡ true
lacks_space-digits [] digits = refl
lacks_space-digits (b ∷ word) digits =
    let parts = and_parts (is_ascii_digit b) (list_all is_ascii_digit word) digits in
    let head : not (b == 32) ≡ true = grind (arith, nat_tests) in
    and_from (not (b == 32)) (lacks_space word) head (lacks_space-digits word parts.1)

-- two words, and three
pub lack_two : (a b : List ℕ) → lacks_space a ≡ true → lacks_space b ≡ true → list_all lacks_space (a ∷ b ∷ []) ≡ true
lack_two a b first second = and_from (lacks_space a) (lacks_space b && true) first (and_from (lacks_space b) true second refl)

pub lack_three : (a b c : List ℕ) → lacks_space a ≡ true → lacks_space b ≡ true → lacks_space c ≡ true → list_all lacks_space (a ∷ b ∷ c ∷ []) ≡ true
lack_three a b c first second third = and_from (lacks_space a) (list_all lacks_space (b ∷ c ∷ [])) first (lack_two b c second third)

-- the text of some words is cut into them
pub words_of_text-text_of_words : (word : List ℕ) (words : List (List ℕ)) → list_all lacks_space (word ∷ words) ≡ true
    → words_of_text (text_of_words (word ∷ words)) ≡ word ∷ words
words_of_text-text_of_words word [] lack = slice_split_none (λ b. b == 32) word (no_space word (and_parts (lacks_space word) true lack).0)
words_of_text-text_of_words word (next ∷ words) lack =
    let parts = and_parts (lacks_space word) (list_all lacks_space (next ∷ words)) lack in
    slice_split_at (λ b. b == 32) word 32 (text_of_words (next ∷ words)) (no_space word parts.0) refl
    ∙ ap (λ later. word ∷ later) (words_of_text-text_of_words next words parts.1)

-- a word that is a text
pub named : (word text : List ℕ) → bytes_eq word text ≡ true → text ≡ word
named word text is = sym ((bytes_eq-Decides word text).0 is)
