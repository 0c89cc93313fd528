-- Lists that are made step by step: what is added, and what is to come.
use Rattle.run_layout.proofs.Vocabulary.{List, Name, PlacedRemark, [], after_space, ap, append-nil, append_assoc, arith, at, drop, drop_all, drop_more, fitting_len, get_or, label_after, labels_from, length, lines_of, map, map-append, name_text, names_from, refl, suc, sym, take, take_rest, times_after, zero, ℕ, ◌++◌, ◌+◌, ◌-◌, ◌<◌, ◌∙◌, ◌∷◌, ◌≡◌, ◌≤◌}

-- what is added stands first of what was to come
pub added_first : {A : Type 0} (now after prefix rest whole : List A) → now ++ (prefix ++ rest) ≡ whole → after ≡ now ++ prefix → after ++ rest ≡ whole
added_first now after prefix rest whole is added = ap (λ l. l ++ rest) added ∙ append_assoc now prefix rest ∙ is

-- nothing is to come
pub added_all : {A : Type 0} (now rest whole : List A) → now ++ rest ≡ whole → rest ≡ [] → now ≡ whole
added_all now rest whole is none = sym (ap (λ l. now ++ l) none ∙ append-nil now) ∙ is

-- one more element, as it is seen
pub map_pushed : {A B : Type 0} (f : A → B) (old new : List A) (x : A) (y : B) → new ≡ old ++ x ∷ [] → f x ≡ y → map f new ≡ map f old ++ y ∷ []
map_pushed f old new x y is same = ap (map f) is ∙ map-append f old (x ∷ []) ∙ ap (λ z. map f old ++ z ∷ []) same

-- ---- the names of lanes

pub names_from-more : (event process n m : ℕ) → n ≡ suc m
    → names_from event process n ≡ at Name event process (name_text process) ∷ names_from event (process + 1) m
unfolding names_from
names_from-more event process n m e = ap (names_from event process) e

pub names_from-none : (event process n : ℕ) → n ≡ 0 → names_from event process n ≡ []
unfolding names_from
names_from-none event process n e = ap (names_from event process) e

-- ---- the labels of what is told

-- the label of a remark, and those of the rest
pub labels_more : (times next i : ℕ) (remarks : List PlacedRemark) (one : PlacedRemark) → i < length remarks → one ≡ get_or remarks i one → next ≡ times_after times one (drop (i + 1) remarks)
    → labels_from times (drop i remarks) ≡ label_after times one (drop (i + 1) remarks) ∷ labels_from next (drop (i + 1) remarks)
unfolding labels_from
labels_more times next i remarks one inside is after =
    ap (labels_from times) (drop_more remarks i one inside ∙ ap (λ y. y ∷ drop (i + 1) remarks) (sym is))
    ∙ ap (λ n. label_after times one (drop (i + 1) remarks) ∷ labels_from n (drop (i + 1) remarks)) (sym after)

pub labels_none : (times i : ℕ) (remarks : List PlacedRemark) → length remarks ≤ i → labels_from times (drop i remarks) ≡ []
unfolding labels_from
labels_none times i remarks past = ap (labels_from times) (drop_all i remarks past)

-- ---- the lines of a text

-- an empty text has no lines
pub lines_of-empty : (n most : ℕ) (text : List ℕ) → length text ≡ 0 → lines_of n most text ≡ []
unfolding lines_of
lines_of-empty zero most text e = refl
lines_of-empty (suc n) most [] e = refl
lines_of-empty (suc n) most (b ∷ bs) e = absurd (omega arith)

pub lines_of-none : (n most : ℕ) (text : List ℕ) → n ≡ 0 → lines_of n most text ≡ []
unfolding lines_of
lines_of-none zero most text e = refl
lines_of-none (suc n) most text e = absurd (omega arith)

-- the first line of a text, and those of the rest
pub lines_of-more : (n m most : ℕ) (text : List ℕ) → 0 < length text → n ≡ suc m
    → lines_of n most text ≡ take (fitting_len text most) text ∷ lines_of m most (after_space (drop (fitting_len text most) text))
unfolding lines_of
lines_of-more n m most [] l e = absurd (omega arith)
lines_of-more n m most (b ∷ bs) l e = ap (λ k. lines_of k most (b ∷ bs)) e

-- a part of a text, and what comes after it
pub sliced_front : (i k : ℕ) (text part : List ℕ) → i ≡ k → part ≡ take (i - 0) text → part ≡ take k text
sliced_front i k text part e is = is ∙ ap (λ j. take j text) (let same : i - 0 ≡ k = omega arith in same)

pub sliced_rest : (i k : ℕ) (text : List ℕ) → i ≡ k → after_space (take (length text - i) (drop i text)) ≡ after_space (drop k text)
sliced_rest i k text e = ap after_space (take_rest text i ∙ ap (λ j. drop j text) e)
