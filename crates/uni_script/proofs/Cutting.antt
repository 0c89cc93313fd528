-- How a text is cut into lines.
use Rattle.uni_script.proofs.Vocabulary.{Bool, Cut, List, None, Option, Some, [], after_byte, ap, append_assoc, arith, cond, cut, false, last_line, length, lines_of, nat_lt, nat_tests, position, position_or_len, refl, suc, sym, true, with_first, ℕ, ◌++◌, ◌+◌, ◌<◌, ◌==◌, ◌∙◌, ◌∷◌, ◌≡◌, ◌≤◌}
use Rattle.std.proofs.lemmas.List.Sums.{position_or_len_is}
use Rattle.memchr.specs.Find.{IsFirstByte, is_byte}

abbrev ends : ℕ → Bool
ends b = b == 10

-- where the first line ends: nowhere in the text, where this is its length
abbrev pub end_of : List ℕ → ℕ
end_of bytes = position_or_len ends bytes

abbrev pub cut_is : Cut → (whole : List (List ℕ)) (tail : List ℕ) → Type 0
cut_is c whole tail = c ≡ record { whole = whole; tail = tail }

after_other : (b : ℕ) (c : Cut) → (b == 10) ≡ false → after_byte b c ≡ with_first b c.whole c.tail
after_other b c e = rw e refl

pub end_of-end : (b : ℕ) (bytes : List ℕ) → (b == 10) ≡ true → end_of (b ∷ bytes) ≡ 0
end_of-end b bytes e = rw e refl

pub end_of-other : (b : ℕ) (bytes : List ℕ) → (b == 10) ≡ false → end_of (b ∷ bytes) ≡ suc (end_of bytes)
end_of-other b bytes e = rw e (omega arith)

-- a text after another one goes on with its last line
pub cut-append : (xs ys : List ℕ) → let rest = cut ((cut xs).tail ++ ys) in cut_is (cut (xs ++ ys)) ((cut xs).whole ++ rest.whole) rest.tail
cut-append [] ys = refl
cut-append (x ∷ xs) ys = rw (cut-append xs ys) (at (x == 10) refl (cut xs))
  where
    at : (q : Bool) → (x == 10) ≡ q → (c : Cut)
        → let rest = cut (c.tail ++ ys) in let later = cut ((after_byte x c).tail ++ ys) in
        cut_is (after_byte x (record { whole = c.whole ++ rest.whole; tail = rest.tail })) ((after_byte x c).whole ++ later.whole) later.tail
    at true e c = rw e refl
    at false e c = rw e (first c.whole)
      where
        first : (whole : List (List ℕ)) → let rest = cut (c.tail ++ ys) in let later = cut ((with_first x whole c.tail).tail ++ ys) in
            cut_is (with_first x (whole ++ rest.whole) rest.tail) ((with_first x whole c.tail).whole ++ later.whole) later.tail
        first [] = sym (after_other x (cut (c.tail ++ ys)) e)
        first (line ∷ lines) = refl

-- the lines of a text after another one
pub lines_of-append : (xs ys : List ℕ) → lines_of (xs ++ ys) ≡ (cut xs).whole ++ lines_of ((cut xs).tail ++ ys)
lines_of-append xs ys = let rest = cut ((cut xs).tail ++ ys) in rw (cut-append xs ys) (append_assoc (cut xs).whole rest.whole (last_line rest.tail))

-- a byte before the first of some lines
abbrev before_first : ℕ → List (List ℕ) → List (List ℕ)
before_first b [] = (b ∷ []) ∷ []
before_first b (line ∷ lines) = (b ∷ line) ∷ lines

lines_of-other : (b : ℕ) (bytes : List ℕ) → (b == 10) ≡ false → lines_of (b ∷ bytes) ≡ before_first b (lines_of bytes)
lines_of-other b bytes e = rw e (first (cut bytes).whole (cut bytes).tail)
  where
    first : (whole : List (List ℕ)) (tail : List ℕ) → let c = with_first b whole tail in c.whole ++ last_line c.tail ≡ before_first b (whole ++ last_line tail)
    first [] [] = refl
    first [] (x ∷ tail) = refl
    first (line ∷ lines) tail = refl

-- there is a line of at least so many bytes after those that are whole in xs, and it goes on with the last line of xs
pub record GoesOn (xs ys : List ℕ) (more : ℕ) : Type 0 where
  pub line : List ℕ
  pub lines : List (List ℕ)
  pub cut_as : lines_of (xs ++ ys) ≡ (cut xs).whole ++ line ∷ lines
  pub long : length (cut xs).tail + more ≤ length line

-- the first line of some bytes has no more than their bytes before its end
pub GoesOn-start : (b : ℕ) (bytes : List ℕ) → GoesOn [] (b ∷ bytes) 0
GoesOn-start b bytes = at (b == 10) refl
  where
    at : (q : Bool) → (b == 10) ≡ q → GoesOn [] (b ∷ bytes) 0
    at true e = record { line = []; lines = lines_of bytes; cut_as = rw e refl; long = grind arith }
    at false e = first (lines_of bytes) refl
      where
        first : (ls : List (List ℕ)) → lines_of bytes ≡ ls → GoesOn [] (b ∷ bytes) 0
        first [] f = record { line = b ∷ []; lines = []; cut_as = lines_of-other b bytes e ∙ ap (before_first b) f; long = grind arith }
        first (line ∷ lines) f = record { line = b ∷ line; lines = lines; cut_as = lines_of-other b bytes e ∙ ap (before_first b) f; long = grind arith }

pub GoesOn-start_other : (b : ℕ) (bytes : List ℕ) → (b == 10) ≡ false → GoesOn [] (b ∷ bytes) 1
GoesOn-start_other b bytes e = first (lines_of bytes) refl
  where
    first : (ls : List (List ℕ)) → lines_of bytes ≡ ls → GoesOn [] (b ∷ bytes) 1
    first [] f = record { line = b ∷ []; lines = []; cut_as = lines_of-other b bytes e ∙ ap (before_first b) f; long = grind arith }
    first (line ∷ lines) f = record { line = b ∷ line; lines = lines; cut_as = lines_of-other b bytes e ∙ ap (before_first b) f; long = grind arith }

pub GoesOn-after : (xs ys : List ℕ) (more : ℕ) → GoesOn [] ys more → GoesOn xs ys more
GoesOn-after [] ys more start = start
GoesOn-after (x ∷ xs) ys more start = at (x == 10) refl (GoesOn-after xs ys more start)
  where
    at : (q : Bool) → (x == 10) ≡ q → GoesOn xs ys more → GoesOn (x ∷ xs) ys more
    at true e g = record { line = g.line; lines = g.lines; cut_as = rw e (ap (λ l. [] ∷ l) g.cut_as); long = rw e g.long }
    at false e g = first (cut xs).whole refl
      where
        first : (whole : List (List ℕ)) → (cut xs).whole ≡ whole → GoesOn (x ∷ xs) ys more
        first [] f = record {
          line = x ∷ g.line;
          lines = g.lines;
          cut_as = lines_of-other x (xs ++ ys) e ∙ ap (before_first x) (g.cut_as ∙ ap (λ w. w ++ g.line ∷ g.lines) f) ∙ sym (rw e (rw f refl));
          long = rw e (rw f (let h = g.long in omega arith));
        }
        first (w ∷ ws) f = record {
          line = g.line;
          lines = g.lines;
          cut_as = lines_of-other x (xs ++ ys) e ∙ ap (before_first x) (g.cut_as ∙ ap (λ v. v ++ g.line ∷ g.lines) f) ∙ sym (rw e (rw f refl));
          long = rw e (rw f g.long);
        }

-- where a line ends, and where none does
pub end_is : (bytes : List ℕ) (at : ℕ) → Some at ≡ position ends bytes → (end_of bytes < length bytes) × (at ≡ end_of bytes)
end_is bytes at e = tested (nat_lt (end_of bytes) (length bytes)) refl e
  where
    tested : (q : Bool) → nat_lt (end_of bytes) (length bytes) ≡ q → Some at ≡ cond q (Some (end_of bytes)) None → (end_of bytes < length bytes) × (at ≡ end_of bytes)
    tested true t f = (grind (arith, nat_tests), cc)
    tested false t f = absurd (let g : Some at ≡ None = f in cc)

pub none_is : (bytes : List ℕ) → None ≡ position ends bytes → length bytes ≤ end_of bytes
none_is bytes e = tested (nat_lt (end_of bytes) (length bytes)) refl e
  where
    tested : (q : Bool) → nat_lt (end_of bytes) (length bytes) ≡ q → None ≡ cond q (Some (end_of bytes)) None → length bytes ≤ end_of bytes
    tested true t f = absurd (let g : None ≡ Some (end_of bytes) = f in cc)
    tested false t f = grind (arith, nat_tests)

-- the first place of a line end is where the first line ends
pub IsFirstByte-position : (bytes : List ℕ) (found : Option ℕ) → IsFirstByte (is_byte 10) bytes found → found ≡ position ends bytes
IsFirstByte-position bytes found is = at found is
  where
    other : (q : Bool) → (q ≡ true → ⊥) → q ≡ false
    other true no_end = absurd (no_end refl)
    other false no_end = refl

    at : (found : Option ℕ) → IsFirstByte (is_byte 10) bytes found → found ≡ position ends bytes
    at None is =
        let e = position_or_len_is ends bytes (length bytes) 0 (omega arith) (λ k below. other _ (is k (omega arith) below)) (λ below. absurd (omega arith)) in
        let past : nat_lt (length bytes) (length bytes) ≡ false = grind (arith, nat_tests) in
        rw e (rw past refl)
    at (Some k) is =
        let high = is.0.high in
        let e = position_or_len_is ends bytes k 0 (omega arith) (λ j below. other _ (is.0.before j (omega arith) below)) (λ below. is.1) in
        let inside : nat_lt k (length bytes) ≡ true = grind (arith, nat_tests) in
        rw e (rw inside refl)
