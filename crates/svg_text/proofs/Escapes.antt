-- What `escaped` makes.
use Rattle.svg_text.proofs.Vocabulary.{AllByRecursion, Anchor, IsNoMarkup, List, None, [], anchor_name, ap, arith, decimal, digit_glyph, digits, digits_onto, escaped, escaped_byte, false, flat_map-append, if◌then◌else◌, nat_tests, read_on, refl, suc, true, unescaped, zero, ℕ, ◌%◌, ◌++◌, ◌/◌, ◌<◌, ◌==◌, ◌∙◌, ◌∷◌, ◌≡◌}
use Rattle.svg_text.specs.declared.shape.Anchor.TheVariants.{Start}

-- a byte is read again
read_byte : (rest : List ℕ) (b : ℕ) → read_on None (escaped_byte b ++ rest) ≡ b ∷ read_on None rest
read_byte rest b = grind (arith, nat_tests)

pub escaped_reads_back : (text : List ℕ) → unescaped (escaped text) ≡ text
escaped_reads_back [] = refl
escaped_reads_back (b ∷ text) = read_byte (escaped text) b ∙ ap (λ l. b ∷ l) (escaped_reads_back text)

-- no byte of what is escaped is markup
no_markup_before : (rest : List ℕ) → AllByRecursion IsNoMarkup rest → (b : ℕ) → AllByRecursion IsNoMarkup (escaped_byte b ++ rest)
no_markup_before rest more b = grind (arith, nat_tests)

pub escaped_no_markup : (text : List ℕ) → AllByRecursion IsNoMarkup (escaped text)
escaped_no_markup [] = tt
escaped_no_markup (b ∷ text) = no_markup_before (escaped text) (escaped_no_markup text) b

-- ---- digits stay as they are

digit_plain : (d : ℕ) → d < 10 → escaped_byte (digit_glyph false d) ≡ digit_glyph false d ∷ []
digit_plain d small = grind (arith, nat_tests)

digits_plain : (k n : ℕ) (after : List ℕ) → escaped after ≡ after → escaped (digits_onto k 10 false n after) ≡ digits_onto k 10 false n after
digits_plain zero n after plain = plain
digits_plain (suc k) n after plain =
    let d = digit_glyph false (n % 10) in
    let more : escaped (d ∷ after) ≡ d ∷ after = ap (λ l. l ++ escaped after) (digit_plain (n % 10) (omega arith)) ∙ ap (λ l. d ∷ l) plain in
    let P : List ℕ → Type 0 = λ l. escaped l ≡ l in
    elim (n / 10 == 0) as (λ last. P (if last then d ∷ after else digits_onto k 10 false (n / 10) (d ∷ after))) [ true ↦ more | false ↦ digits_plain k (n / 10) (d ∷ after) more ]

pub escaped_decimal : (n : ℕ) → escaped (decimal n) ≡ decimal n
unfolding digits
escaped_decimal n = digits_plain 64 n [] refl

pub anchor_text : (a : Anchor) → escaped (anchor_name a) ≡ anchor_name a
anchor_text Start = refl
anchor_text a = refl

pub escaped_append : (a b : List ℕ) → escaped (a ++ b) ≡ escaped a ++ escaped b
escaped_append = flat_map-append escaped_byte
