-- Rows of words, and the first words of a list.
use Rattle.uni_small.proofs.Vocabulary.{IsBeginning, List, [], ap, append_assoc, arith, drop, drop-append-le, drop-drop, drop-take, drop_at, get_or-append-add, get_or-set_other, get_or-set_same, get_or_append_left, joined, length, length-append, length-drop, length-set, lt_cases, mul-le-mul_right, nil_from_length, inl, inr, put_mid, refl, rows, set-get_or, slice_index, slice_index_or, slice_set, suc, suc-mul, sym, take, take-append-drop, take_all, take_at, take_more, take_more_set, with_row, zero, ℕ, ◌*◌, ◌++◌, ◌+◌, ◌-◌, ◌<◌, ◌∙◌, ◌∷◌, ◌≡◌, ◌≤◌, ◌⊎◌}
use Rattle.std.proofs.lemmas.List.{get_or-drop, get_or-take, length-take-le}
use Rattle.std.proofs.lemmas.Slice.{take-put_mid_below}

-- each of the rows has so many words
abbrev pub AreEven : (wide : ℕ) → List (List ℕ) → Type 0
AreEven wide xs = (r : ℕ) → r < length xs → length (slice_index_or xs r []) ≡ wide

even_rest : (wide : ℕ) (x : List ℕ) (xs : List (List ℕ)) → AreEven wide (x ∷ xs) → AreEven wide xs
even_rest wide x xs even r below = even (suc r) (omega arith)

pub joined-length : (wide : ℕ) (xs : List (List ℕ)) → AreEven wide xs → length (joined xs) ≡ length xs * wide
joined-length wide [] even = omega arith
joined-length wide (x ∷ xs) even =
    let first : length x ≡ wide = even 0 (omega arith) in
    let rest = joined-length wide xs (even_rest wide x xs even) in
    let more : suc (length xs) * wide ≡ length xs * wide + wide = suc-mul (length xs) wide in
    let both = length-append x (joined xs) in
    omega arith

pub joined-index : (wide : ℕ) (xs : List (List ℕ)) (rest : List ℕ) → AreEven wide xs → (r k : ℕ) → r < length xs → k < wide
    → slice_index (joined xs ++ rest) (r * wide + k) ≡ slice_index (slice_index_or xs r []) k
joined-index wide [] rest even r k below inside = absurd (omega arith)
joined-index wide (x ∷ xs) rest even zero k below inside =
    let first : length x ≡ wide = even 0 (omega arith) in
    let e : 0 * wide + k ≡ k = omega arith in
    ap (slice_index ((x ++ joined xs) ++ rest)) e ∙ ap (λ ws. slice_index ws k) (append_assoc x (joined xs) rest) ∙ get_or_append_left x (joined xs ++ rest) 0 k (omega arith)
joined-index wide (x ∷ xs) rest even (suc r) k below inside =
    let first : length x ≡ wide = even 0 (omega arith) in
    let e : suc r * wide + k ≡ length x + (r * wide + k) = (let m : suc r * wide ≡ r * wide + wide = suc-mul r wide in omega arith) in
    ap (slice_index ((x ++ joined xs) ++ rest)) e ∙ ap (λ ws. slice_index ws (length x + (r * wide + k))) (append_assoc x (joined xs) rest)
    ∙ get_or-append-add x (joined xs ++ rest) (r * wide + k) 0 ∙ joined-index wide xs rest (even_rest wide x xs even) r k (omega arith) inside

-- rows are read back as they were written
pub rows-joined : (wide : ℕ) (xs : List (List ℕ)) (rest : List ℕ) → AreEven wide xs → rows (length xs) wide (joined xs ++ rest) ≡ xs
rows-joined wide [] rest even = refl
rows-joined wide (x ∷ xs) rest even =
    let first : length x ≡ wide = even 0 (omega arith) in
    let whole : (x ++ joined xs) ++ rest ≡ x ++ (joined xs ++ rest) = append_assoc x (joined xs) rest in
    let a : take wide ((x ++ joined xs) ++ rest) ≡ x = ap (take wide) whole ∙ take_at x (joined xs ++ rest) wide first in
    let b : drop wide ((x ++ joined xs) ++ rest) ≡ joined xs ++ rest = ap (drop wide) whole ∙ drop_at x (joined xs ++ rest) wide first in
    (λ i. a i ∷ rows (length xs) wide (b i)) ∙ ap (λ l. x ∷ l) (rows-joined wide xs rest (even_rest wide x xs even))

-- words are written as they were read
pub joined-rows : (count wide : ℕ) (words : List ℕ) → length words ≡ count * wide → joined (rows count wide words) ≡ words
joined-rows zero wide words long = sym (nil_from_length words (omega arith))
joined-rows (suc count) wide words long =
    let more : suc count * wide ≡ count * wide + wide = suc-mul count wide in
    let l = length-drop wide words in
    ap (λ l. take wide words ++ l) (joined-rows count wide (drop wide words) (omega arith)) ∙ take-append-drop wide words

pub rows-length : (count wide : ℕ) (words : List ℕ) → length (rows count wide words) ≡ count
rows-length zero wide words = refl
rows-length (suc count) wide words = ap suc (rows-length count wide (drop wide words))

pub rows-even : (count wide : ℕ) (words : List ℕ) → length words ≡ count * wide → AreEven wide (rows count wide words)
rows-even zero wide words long r below = absurd (omega arith)
rows-even (suc count) wide words long zero below =
    let more : suc count * wide ≡ count * wide + wide = suc-mul count wide in
    length-take-le wide words (omega arith)
rows-even (suc count) wide words long (suc r) below =
    let more : suc count * wide ≡ count * wide + wide = suc-mul count wide in
    let l = length-drop wide words in
    rows-even count wide (drop wide words) (omega arith) r (omega arith)

-- the words of a row end before those of later ones begin
pub later : (r count wide : ℕ) → r < count → r * wide + wide ≤ count * wide
later r count wide below = let h : suc r * wide ≤ count * wide = mul-le-mul_right wide (let b : suc r ≤ count = omega arith in b) in let s : suc r * wide ≡ r * wide + wide = suc-mul r wide in omega arith

-- where a row is written over in the words, it is
pub rows-set : (count wide r : ℕ) (words row : List ℕ) → r < count → length words ≡ count * wide → length row ≡ wide
    → rows count wide (put_mid (r * wide) wide words row) ≡ slice_set (rows count wide words) r row
rows-set zero wide r words row below long full = absurd (omega arith)
rows-set (suc count) wide zero words row below long full =
    let z : 0 * wide ≡ 0 = omega arith in
    let a : take wide (put_mid (0 * wide) wide words row) ≡ row = ap (λ k. take wide (put_mid k wide words row)) z ∙ take_at row (drop wide words) wide full in
    let b : drop wide (put_mid (0 * wide) wide words row) ≡ drop wide words = ap (λ k. drop wide (put_mid k wide words row)) z ∙ drop_at row (drop wide words) wide full in
    (λ i. a i ∷ rows count wide (b i))
rows-set (suc count) wide (suc r) words row below long full =
    let m : suc r * wide ≡ wide + r * wide = (let e : suc r * wide ≡ r * wide + wide = suc-mul r wide in omega arith) in
    let more : suc count * wide ≡ count * wide + wide = suc-mul count wide in
    let at : put_mid (suc r * wide) wide words row ≡ put_mid (wide + r * wide) wide words row = ap (λ k. put_mid k wide words row) m in
    let room : r * wide + wide ≤ count * wide = later r count wide (omega arith) in
    let first : take wide (put_mid (suc r * wide) wide words row) ≡ take wide words = ap (take wide) at ∙ take-put_mid_below (wide + r * wide) wide words row wide (omega arith) (omega arith) in
    let l = length-take-le (wide + r * wide) words (omega arith) in
    let d : drop wide (put_mid (suc r * wide) wide words row) ≡ put_mid (r * wide) wide (drop wide words) row
    = ap (drop wide) at ∙ drop-append-le wide (take (wide + r * wide) words) (row ++ drop wide (drop (wide + r * wide) words)) (omega arith)
    ∙ (λ i. drop-take wide (r * wide) words i ++ (row ++ drop wide (sym (drop-drop (r * wide) wide words) i))) in
    (λ i. first i ∷ rows count wide (d i)) ∙ ap (λ l. take wide words ∷ l) (rows-set count wide r (drop wide words) row (omega arith) (let k = length-drop wide words in omega arith) full)

-- where words are put in the place of so many, those beside them stay
pub put_mid-beside : (a k : ℕ) (words row : List ℕ) → a + k ≤ length words → length row ≡ k → (i : ℕ) → (i < a) ⊎ (a + k ≤ i)
    → slice_index (put_mid a k words row) i ≡ slice_index words i
put_mid-beside a k words row room long i (inl sooner) =
    let l = length-take-le a words (omega arith) in
    get_or_append_left (take a words) (row ++ drop k (drop a words)) 0 i (omega arith) ∙ get_or-take a words i 0 sooner
put_mid-beside a k words row room long i (inr later) =
    let l = length-take-le a words (omega arith) in
    let j = i - (a + k) in
    ap (slice_index (put_mid a k words row)) (let e : i ≡ length (take a words) + (length row + j) = omega arith in e)
    ∙ get_or-append-add (take a words) (row ++ drop k (drop a words)) (length row + j) 0 ∙ get_or-append-add row (drop k (drop a words)) j 0
    ∙ get_or-drop k (drop a words) j 0 ∙ get_or-drop a words (k + j) 0 ∙ ap (slice_index words) (let e : a + (k + j) ≡ i = omega arith in e)

module _ (part whole : List ℕ) (begins : IsBeginning part whole) (room : length part < length whole) where
  -- one more of the first words
  pub begins_more : (x : ℕ) → x ≡ slice_index whole (length part) → IsBeginning (part ++ x ∷ []) whole
  begins_more x is =
      ap (λ k. take k whole) (length-append part (x ∷ [])) ∙ take_more whole (length part) 0 room
      ∙ (λ i. begins i ++ sym is i ∷ [])

  pub begins_set : (x : ℕ) → IsBeginning (part ++ x ∷ []) (slice_set whole (length part) x)
  begins_set x =
      ap (λ k. take k (slice_set whole (length part) x)) (length-append part (x ∷ [])) ∙ take_more_set whole (length part) x room
      ∙ ap (λ ws. ws ++ x ∷ []) begins

-- all of them
pub begins_whole : (part whole : List ℕ) → IsBeginning part whole → length part ≡ length whole → whole ≡ part
begins_whole part whole begins long = sym (take_all (length part) whole (omega arith)) ∙ begins

-- a row that is put into words
pub with_row-length : (words : List ℕ) (from : ℕ) (row : List ℕ) → length (with_row words from row) ≡ length words
with_row-length words from [] = refl
with_row-length words from (x ∷ row) = with_row-length (slice_set words from x) (from + 1) row ∙ length-set words from x

pub with_row-append : (words : List ℕ) (from : ℕ) (row more : List ℕ) → with_row words from (row ++ more) ≡ with_row (with_row words from row) (from + length row) more
with_row-append words from [] more = ap (λ k. with_row words k more) (let e : from ≡ from + 0 = omega arith in e)
with_row-append words from (x ∷ row) more =
    with_row-append (slice_set words from x) (from + 1) row more
    ∙ ap (λ k. with_row (with_row (slice_set words from x) (from + 1) row) k more) (let e : from + 1 + length row ≡ from + suc (length row) = omega arith in e)

-- three rows, one after another
pub with_rows : (words : List ℕ) (from : ℕ) (a b d : List ℕ) → with_row (with_row (with_row words from a) (from + length a) b) (from + length a + length b) d ≡ with_row words from (a ++ (b ++ d))
with_rows words from a b d = sym (with_row-append words from a (b ++ d) ∙ with_row-append (with_row words from a) (from + length a) b d)

-- the words before it stay
pub with_row-before : (words : List ℕ) (from : ℕ) (row : List ℕ) (j : ℕ) → j < from → slice_index (with_row words from row) j ≡ slice_index words j
with_row-before words from [] j before = refl
with_row-before words from (x ∷ row) j before =
    with_row-before (slice_set words from x) (from + 1) row j (omega arith) ∙ get_or-set_other words from j x 0 (λ (e : j ≡ from). omega arith)

-- its words are there
pub with_row-index : (words : List ℕ) (from : ℕ) (row : List ℕ) (i : ℕ) → i < length row → from + length row ≤ length words → slice_index (with_row words from row) (from + i) ≡ slice_index row i
with_row-index words from [] i below room = absurd (omega arith)
with_row-index words from (x ∷ row) zero below room =
    with_row-before (slice_set words from x) (from + 1) row (from + 0) (omega arith)
    ∙ ap (slice_index (slice_set words from x)) (let e : from + 0 ≡ from = omega arith in e) ∙ get_or-set_same words from x 0 (omega arith)
with_row-index words from (x ∷ row) (suc i) below room =
    ap (slice_index (with_row (slice_set words from x) (from + 1) row)) (let e : from + suc i ≡ from + 1 + i = omega arith in e)
    ∙ with_row-index (slice_set words from x) (from + 1) row i (omega arith) (let l = length-set words from x in omega arith)

-- one more of its first words is put there; where it was there before, nothing is to do
pub with_row-more : (words : List ℕ) (from : ℕ) (row : List ℕ) (i : ℕ) → i < length row
    → slice_set (with_row words from (take i row)) (from + i) (slice_index row i) ≡ with_row words from (take (i + 1) row)
with_row-more words from row i below =
    let l : length (take i row) ≡ i = length-take-le i row (omega arith) in
    ap (λ k. slice_set (with_row words from (take i row)) (from + k) (slice_index row i)) (sym l)
    ∙ sym (with_row-append words from (take i row) (slice_index row i ∷ [])) ∙ ap (with_row words from) (sym (take_more row i 0 below))

pub with_row-same : (words : List ℕ) (from : ℕ) (row : List ℕ) (i : ℕ) → i < length row → slice_index (with_row words from (take i row)) (from + i) ≡ slice_index row i
    → with_row words from (take i row) ≡ with_row words from (take (i + 1) row)
with_row-same words from row i below same =
    sym (set-get_or (with_row words from (take i row)) (from + i) 0) ∙ ap (slice_set (with_row words from (take i row)) (from + i)) same ∙ with_row-more words from row i below

-- the words after it stay
pub with_row-after : (words : List ℕ) (from : ℕ) (row : List ℕ) (j : ℕ) → from + length row ≤ j → slice_index (with_row words from row) j ≡ slice_index words j
with_row-after words from [] j after = refl
with_row-after words from (x ∷ row) j after =
    with_row-after (slice_set words from x) (from + 1) row j (omega arith) ∙ get_or-set_other words from j x 0 (λ (e : j ≡ from). omega arith)

-- where more of its words were there before, nothing is to do
pub with_row-skip : (words : List ℕ) (from : ℕ) (row : List ℕ) (i d : ℕ) → ((k : ℕ) → i ≤ k → k < i + d → k < length row → slice_index words (from + k) ≡ slice_index row k)
    → with_row words from (take i row) ≡ with_row words from (take (i + d) row)
with_row-skip words from row i zero alike = ap (λ k. with_row words from (take k row)) (let e : i ≡ i + zero = omega arith in e)
with_row-skip words from row i (suc d) alike =
    let before = with_row-skip words from row i d (λ k a b within. alike k a (omega arith) within) in
    let last : with_row words from (take (i + d) row) ≡ with_row words from (take (i + d + 1) row)
    = elim (lt_cases (i + d) (length row)) [
      | inl less ↦ with_row-same words from row (i + d) less.0
          (with_row-after words from (take (i + d) row) (from + (i + d)) (let l = length-take-le (i + d) row (let b = less.0 in omega arith) in omega arith) ∙ alike (i + d) (omega arith) (omega arith) less.0)
      | inr more ↦ ap (with_row words from) (take_all (i + d) row more.0 ∙ sym (take_all (i + d + 1) row (let b = more.0 in omega arith)))
    ] in
    before ∙ last ∙ ap (λ k. with_row words from (take k row)) (let e : i + d + 1 ≡ i + suc d = omega arith in e)

-- so many of the first words are more than one before them
pub take_reaches : (i n : ℕ) (row : List ℕ) → i < length row → i < n → i + 1 ≤ length (take n row)
take_reaches i n [] below less = absurd (omega arith)
take_reaches i zero (x ∷ row) below less = absurd (omega arith)
take_reaches zero (suc n) (x ∷ row) below less = omega arith
take_reaches (suc i) (suc n) (x ∷ row) below less = let h = take_reaches i n row (omega arith) (omega arith) in omega arith
