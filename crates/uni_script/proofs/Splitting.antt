-- How a text is split at its spaces.
use Rattle.uni_script.proofs.Vocabulary.{Bool, List, None, Some, [], ap, arith, cond, drop, false, length, nat_lt, nat_tests, position, position_or_len, refl, suc, sym, take, true, words_of_text, ℕ, ◌+◌, ◌==◌, ◌∙◌, ◌∷◌, ◌≡◌, ◌≤◌}
use Rattle.std.proofs.lemmas.List.Splits.{slice_split_first, slice_split-cons_no}
use Rattle.std.specs.List.{onto_first}

abbrev pub is_space : ℕ → Bool
is_space b = b == 32

-- the text has no space
split_none : (bytes : List ℕ) → length bytes ≤ position_or_len is_space bytes → words_of_text bytes ≡ bytes ∷ []
split_none [] h = refl
split_none (b ∷ bytes) h = at (b == 32) refl (split_none bytes)
  where
    at : (q : Bool) → (b == 32) ≡ q → (length bytes ≤ position_or_len is_space bytes → words_of_text bytes ≡ bytes ∷ []) → words_of_text (b ∷ bytes) ≡ (b ∷ bytes) ∷ []
    at true e later = absurd (let f : position_or_len is_space (b ∷ bytes) ≡ 0 = rw e refl in omega arith)
    at false e later =
        let f : position_or_len is_space (b ∷ bytes) ≡ suc (position_or_len is_space bytes) = rw e (omega arith) in
        slice_split-cons_no is_space b bytes e ∙ ap (onto_first b) (later (omega arith))

pub words-none : (bytes : List ℕ) → None ≡ position is_space bytes → words_of_text bytes ≡ bytes ∷ []
words-none bytes e = split_none bytes (tested (nat_lt (position_or_len is_space bytes) (length bytes)) refl e)
  where
    tested : (q : Bool) → nat_lt (position_or_len is_space bytes) (length bytes) ≡ q → None ≡ cond q (Some (position_or_len is_space bytes)) None → length bytes ≤ position_or_len is_space bytes
    tested true t f = absurd (let g : None ≡ Some (position_or_len is_space bytes) = f in cc)
    tested false t f = grind (arith, nat_tests)

-- its first space is here
pub words-some : (bytes : List ℕ) (k : ℕ) → Some k ≡ position is_space bytes → words_of_text bytes ≡ take k bytes ∷ words_of_text (drop (k + 1) bytes)
words-some bytes k e = tested (nat_lt (position_or_len is_space bytes) (length bytes)) refl e
  where
    tested : (q : Bool) → nat_lt (position_or_len is_space bytes) (length bytes) ≡ q → Some k ≡ cond q (Some (position_or_len is_space bytes)) None → words_of_text bytes ≡ take k bytes ∷ words_of_text (drop (k + 1) bytes)
    tested true t f =
        let same : k ≡ position_or_len is_space bytes = cc in
        slice_split_first is_space bytes 0 (grind (arith, nat_tests)) ∙ ap (λ n. take n bytes ∷ words_of_text (drop (n + 1) bytes)) (sym same)
    tested false t f = absurd (let g : Some k ≡ None = f in cc)
