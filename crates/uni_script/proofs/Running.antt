-- What lines come to, one after the other.
use Rattle.uni_script.proofs.Vocabulary.{Answered, BadLine, BenchFault, Bool, Kind, List, None, Option, Outcome, Some, [], and_then, and_then_from, ap, append_assoc, arith, echoed, false, is_note, is_plain_byte, length, list_all, nat_le, nat_lt, nat_tests, outcome_of_echoed_line, outcome_of_fault, outcome_of_line, outcome_of_lines, outcome_of_short_line, outcome_of_text, outcome_of_words, refl, sym, true, words_of_text, ℕ, ◌++◌, ◌+◌, ◌<◌, ◌∙◌, ◌∷◌, ◌≡◌, ◌≤◌}
use Rattle.uni_script.specs.declared.fault.BenchFault.TheVariants.{TooLong, TooMany}

-- a line that isn't too long
abbrev pub is_short : List ℕ → Bool
is_short line = nat_le (length line) 200

-- an outcome with a text before its text
abbrev pub after_text : {B : Type 0} → List ℕ → Outcome B → Outcome B
after_text text outcome = record outcome { text = text ++ outcome.text }

-- what comes after an outcome counts at its session alone
pub and_then-same : {B : Type 0} (first : Outcome B) (rest other : Option B → Outcome B) → ((b : Option B) → rest b ≡ other b) → and_then first rest ≡ and_then first other
and_then-same first rest other same = ap (λ o. and_then_from first o first.fault) (same first.session)

pub and_then-assoc : {B : Type 0} (first : Outcome B) (second third : Option B → Outcome B) → and_then (and_then first second) third ≡ and_then first (λ b. and_then (second b) third)
and_then-assoc {B = B} first second third = at first.fault refl (second first.session) (second first.session).fault refl
  where
    at : (f : Option BenchFault) → first.fault ≡ f → (o : Outcome B) (g : Option BenchFault) → o.fault ≡ g
        → and_then (and_then_from first o f) third ≡ and_then_from first (and_then o third) f
    at (Some x) e o g h = rw e refl
    at None e o None h = rw h (ap (λ t. after (third o.session) t) (append_assoc first.text o.text (third o.session).text))
      where
        after : Outcome B → List ℕ → Outcome B
        after outcome text = record outcome { text = text }
    at None e o (Some y) h = rw h refl

-- where the first outcome has no fault
pub and_then-none : {B : Type 0} (first : Outcome B) (rest : Option B → Outcome B) → first.fault ≡ None → and_then first rest ≡ after_text first.text (rest first.session)
and_then-none first rest none = rw none refl

pub and_then-some : {B : Type 0} (first : Outcome B) (rest : Option B → Outcome B) (e : BenchFault) → first.fault ≡ Some e → and_then first rest ≡ first
and_then-some first rest e some = rw some refl

-- an outcome that goes on without a fault had none
pub and_then-quiet : {B : Type 0} (first : Outcome B) (rest : Option B → Outcome B) → (and_then first rest).fault ≡ None → first.fault ≡ None
and_then-quiet {B = B} first rest none = at first.fault refl
  where
    at : (f : Option BenchFault) → first.fault ≡ f → first.fault ≡ None
    at None e = e
    at (Some f) e = absurd (let h : Some f ≡ None = sym e ∙ sym (ap (λ (o : Outcome B). o.fault) (and_then-some first rest f e)) ∙ none in cc)

-- an outcome without a fault has the echo before its text, and one with a fault has none
pub echoed-none : {B : Type 0} (text : List ℕ) (o : Outcome B) → o.fault ≡ None → echoed text o ≡ after_text text o
echoed-none text o none = rw none refl

pub echoed-some : {B : Type 0} (text : List ℕ) (o : Outcome B) (e : BenchFault) → o.fault ≡ Some e → echoed text o ≡ o
echoed-some text o e some = rw some refl

module _ {B : Type 0} (kind : Kind B) where
  pub outcome_of_line-short : (number : ℕ) (b : Option B) (line : List ℕ) → number ≤ 100000 → is_short line ≡ true → outcome_of_line kind number b line ≡ outcome_of_echoed_line kind number b line
  outcome_of_line-short number b line few short = at (nat_lt 100000 number) refl (nat_lt 200 (length line)) refl
    where
      at : (p : Bool) → nat_lt 100000 number ≡ p → (q : Bool) → nat_lt 200 (length line) ≡ q → outcome_of_line kind number b line ≡ outcome_of_echoed_line kind number b line
      at true e q f = absurd (grind (arith, nat_tests))
      at false e true f = absurd (grind (arith, nat_tests))
      at false e false f = rw e (rw f refl)

  -- the lines of two lists are run one list after the other
  pub outcome_of_lines-append : (number : ℕ) (b : Option B) (xs ys : List (List ℕ))
      → outcome_of_lines kind number b (xs ++ ys) ≡ and_then (outcome_of_lines kind number b xs) (λ after. outcome_of_lines kind (number + length xs) after ys)
  outcome_of_lines-append number b [] ys = let e : number + 0 ≡ number = omega arith in rw e refl
  outcome_of_lines-append number b (x ∷ xs) ys =
      and_then-same (outcome_of_line kind number b x) _ (λ after. and_then (outcome_of_lines kind (number + 1) after xs) (λ later. outcome_of_lines kind (number + length (x ∷ xs)) later ys))
      (λ after. outcome_of_lines-append (number + 1) after xs ys ∙ ap (λ k. and_then (outcome_of_lines kind (number + 1) after xs) (λ later. outcome_of_lines kind k later ys)) (let e : number + 1 + length xs ≡ number + length (x ∷ xs) = omega arith in e))
      ∙ sym (and_then-assoc (outcome_of_line kind number b x) (λ after. outcome_of_lines kind (number + 1) after xs) (λ later. outcome_of_lines kind (number + length (x ∷ xs)) later ys))

  -- a line that is too long ends the run
  pub outcome_of_lines-too_long : (number : ℕ) (b : Option B) (line : List ℕ) (lines : List (List ℕ)) → number ≤ 100000 → 200 < length line
      → outcome_of_lines kind number b (line ∷ lines) ≡ outcome_of_fault b (TooLong number)
  outcome_of_lines-too_long number b line lines few long = at (nat_lt 100000 number) refl (nat_lt 200 (length line)) refl
    where
      at : (p : Bool) → nat_lt 100000 number ≡ p → (q : Bool) → nat_lt 200 (length line) ≡ q → outcome_of_lines kind number b (line ∷ lines) ≡ outcome_of_fault b (TooLong number)
      at true e q f = absurd (grind (arith, nat_tests))
      at false e false f = absurd (grind (arith, nat_tests))
      at false e true f = rw e (rw f refl)

  -- line 100001 ends the run
  pub outcome_of_lines-too_many : (b : Option B) (line : List ℕ) (lines : List (List ℕ)) → outcome_of_lines kind 100001 b (line ∷ lines) ≡ outcome_of_fault b TooMany
  outcome_of_lines-too_many b line lines = refl

  -- a line of plain bytes that isn't a note means what its words do: before the header they open a session
  pub outcome_of_short_line-header : (number : ℕ) (line : List ℕ) (known : Outcome B) → list_all is_plain_byte line ≡ true → is_note line ≡ false
      → outcome_of_words kind number None (words_of_text line) ≡ known → outcome_of_short_line kind number None line ≡ known
  outcome_of_short_line-header number line known plain note is =
      let meant : outcome_of_short_line kind number None line ≡ outcome_of_words kind number None (words_of_text line) = rw plain (rw note refl) in
      meant ∙ is

  -- after it they are a command, or none
  pub outcome_of_short_line-made : (number : ℕ) (b : B) (line : List ℕ) (a : Answered B) → list_all is_plain_byte line ≡ true → is_note line ≡ false
      → kind.made b (words_of_text line) ≡ Some a → outcome_of_short_line kind number (Some b) line ≡ outcome_of_text a.session a.text
  outcome_of_short_line-made number b line a plain note is = rw plain (rw note (rw is refl))

  pub outcome_of_short_line-bad : (number : ℕ) (b : B) (line : List ℕ) → list_all is_plain_byte line ≡ true → is_note line ≡ false
      → kind.made b (words_of_text line) ≡ None → outcome_of_short_line kind number (Some b) line ≡ outcome_of_fault (Some b) (BadLine number)
  outcome_of_short_line-bad number b line plain note none = rw plain (rw note (rw none refl))

  -- lines without a fault are no more than a script may have
  pub few_lines : (number : ℕ) (b : Option B) (lines : List (List ℕ)) → number ≤ 100001 → (outcome_of_lines kind number b lines).fault ≡ None → number + length lines ≤ 100001
  few_lines number b [] low none = omega arith
  few_lines number b (x ∷ xs) low none = at (nat_lt 100000 number) refl (λ low none. few_lines (number + 1) (outcome_of_line kind number b x).session xs low none)
    where
      rest : Option B → Outcome B
      rest after = outcome_of_lines kind (number + 1) after xs

      first : (outcome_of_line kind number b x).fault ≡ None
      first = and_then-quiet (outcome_of_line kind number b x) rest none

      later : (rest (outcome_of_line kind number b x).session).fault ≡ None
      later = sym (ap (λ (o : Outcome B). o.fault) (and_then-none (outcome_of_line kind number b x) rest first)) ∙ none

      at : (q : Bool) → nat_lt 100000 number ≡ q → (number + 1 ≤ 100001 → (rest (outcome_of_line kind number b x).session).fault ≡ None → number + 1 + length xs ≤ 100001) → number + length (x ∷ xs) ≤ 100001
      at true e further =
          let many : outcome_of_line kind number b x ≡ outcome_of_fault b TooMany = rw e refl in
          absurd (let h : Some TooMany ≡ None = sym (ap (λ (o : Outcome B). o.fault) many) ∙ first in cc)
      at false e further = let few = further (grind (arith, nat_tests)) later in omega arith
