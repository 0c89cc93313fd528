-- How lines are taken of the bytes that a reader gives.
use Rattle.uni_script.proofs.Vocabulary.{Bool, Consumes, Consumes-kept, Consumes-trans, Cut, End, Ended, Failed, HasBounds, HasStopped, HasTaken, IsAtEnd, Keeps, Lines, List, Open, Option, TakesOn, TooLong, TooMany, [], ap, append-nil, append_assoc, arith, cut, drop, drop-drop, drop-take, false, last_line, length, length-append, length-drop, length-take-le, line_of, list_all, list_all-append, nat_tests, not, refl, rest_of, subst, suc, sym, take, take_all, true, zero, ℕ, ◌&&◌, ◌++◌, ◌+◌, ◌-◌, ◌<◌, ◌==◌, ◌∙◌, ◌∷◌, ◌≡◌, ◌≢◌, ◌≤◌}
use Rattle.std.proofs.Math.Seq.{take-length}
use Rattle.uni_script.specs.Lines.{FitsAt, bytes_from}
use Rattle.uni_script.specs.declared.lines.Place.{Place}
use Rattle.uni_script.specs.declared.lines.Place.TheVariants.{Piece, Apart}
use Rattle.uni_script.specs.declared.lines.Taken.{Taken}
use Rattle.uni_script.specs.declared.lines.Taken.TheVariants as taken
use Rattle.uni_script.proofs.Cutting.{end_of, end_of-end, end_of-other, cut_is, cut-append}

-- a byte that ends no line
abbrev other : ℕ → Bool
other b = not (b == 10)

-- bytes that end no line
abbrev pub IsOneLine : List ℕ → Type 0
IsOneLine bytes = list_all other bytes ≡ true

IsOneLine-parts : (b : ℕ) (bytes : List ℕ) → IsOneLine (b ∷ bytes) → ((b == 10) ≡ false) × IsOneLine bytes
IsOneLine-parts b bytes e = at (b == 10) refl (list_all other bytes) e
  where
    at : (p : Bool) → (b == 10) ≡ p → (q : Bool) → not p && q ≡ true → ((b == 10) ≡ false) × (q ≡ true)
    at true f q g = absurd (let h : false ≡ true = g in cc)
    at false f q g = (f, g)

IsOneLine-append : (xs ys : List ℕ) → IsOneLine xs → IsOneLine ys → IsOneLine (xs ++ ys)
IsOneLine-append xs ys p q = rw (list_all-append other xs ys) (rw p (rw q refl))

cut-one_line : (bytes : List ℕ) → IsOneLine bytes → cut_is (cut bytes) [] bytes
cut-one_line [] h = refl
cut-one_line (b ∷ bytes) h = let p = IsOneLine-parts b bytes h in rw (cut-one_line bytes p.1) (rw p.0 refl)

cut-first_line : (line rest : List ℕ) → IsOneLine line → cut_is (cut (line ++ 10 ∷ rest)) (line ∷ (cut rest).whole) (cut rest).tail
cut-first_line [] rest h = refl
cut-first_line (b ∷ line) rest h = let p = IsOneLine-parts b line h in rw (cut-first_line line rest p.1) (rw p.0 refl)

-- the bytes up to the first line end
pub IsOneLine-take : (k : ℕ) (bytes : List ℕ) → k ≤ end_of bytes → IsOneLine (take k bytes)
IsOneLine-take zero bytes h = refl
IsOneLine-take (suc k) [] h = refl
IsOneLine-take (suc k) (b ∷ bytes) h = at (b == 10) refl (IsOneLine-take k bytes)
  where
    at : (q : Bool) → (b == 10) ≡ q → (k ≤ end_of bytes → IsOneLine (take k bytes)) → IsOneLine (b ∷ take k bytes)
    at true e later = absurd (let f = end_of-end b bytes e in omega arith)
    at false e later = let f = end_of-other b bytes e in rw e (later (omega arith))

pub IsOneLine-all : (bytes : List ℕ) → length bytes ≤ end_of bytes → IsOneLine bytes
IsOneLine-all bytes h = subst IsOneLine (take-length bytes) (IsOneLine-take (length bytes) bytes h)

-- the first line end
pub split_at_end : (bytes : List ℕ) → end_of bytes < length bytes → bytes ≡ take (end_of bytes) bytes ++ 10 ∷ drop (end_of bytes + 1) bytes
split_at_end [] h = absurd (grind arith)
split_at_end (b ∷ bytes) h = at (b == 10) refl (split_at_end bytes)
  where
    at : (q : Bool) → (b == 10) ≡ q → (end_of bytes < length bytes → bytes ≡ take (end_of bytes) bytes ++ 10 ∷ drop (end_of bytes + 1) bytes)
        → b ∷ bytes ≡ take (end_of (b ∷ bytes)) (b ∷ bytes) ++ 10 ∷ drop (end_of (b ∷ bytes) + 1) (b ∷ bytes)
    at true e later = let f : b ≡ 10 = grind (arith, nat_tests) in rw (end_of-end b bytes e) (rw f refl)
    at false e later =
        let k = end_of-other b bytes e in
        let one_on : suc (end_of bytes) + 1 ≡ suc (end_of bytes + 1) = omega arith in
        rw k (rw one_on (ap (λ l. b ∷ l) (later (omega arith))))

-- the byte after some bytes of a line
pub record Further (k : ℕ) (bytes : List ℕ) : Type 0 where
  pub byte : ℕ
  pub more : List ℕ
  pub split : bytes ≡ take k bytes ++ byte ∷ more
  pub is_other : byte ≢ 10

pub Further-before_end : (k : ℕ) (bytes : List ℕ) → k < end_of bytes → Further k bytes
Further-before_end k [] h = absurd (grind arith)
Further-before_end zero (b ∷ bytes) h = record {
  byte = b;
  more = bytes;
  split = refl;
  is_other = λ f. let e : (b == 10) ≡ true = grind (arith, nat_tests) in let g = end_of-end b bytes e in absurd (omega arith);
}
Further-before_end (suc k) (b ∷ bytes) h = at (b == 10) refl (Further-before_end k bytes)
  where
    at : (q : Bool) → (b == 10) ≡ q → (k < end_of bytes → Further k bytes) → Further (suc k) (b ∷ bytes)
    at true e later = absurd (let f = end_of-end b bytes e in omega arith)
    at false e later =
        let f = end_of-other b bytes e in
        let further = later (omega arith) in
        record { byte = further.byte; more = further.more; split = ap (λ l. b ∷ l) further.split; is_other = further.is_other }

-- since the bytes `first` were left a reader gave some more, of which those of a line were taken
pub record IsTaking (old now : Option (List ℕ)) (first line rest : List ℕ) : Type 0 where
  pub given : List ℕ
  pub consumed : Consumes old now given
  pub bytes : first ++ given ≡ line ++ rest
  pub one_line : IsOneLine line

module _ (old now : Option (List ℕ)) (first line rest : List ℕ) (is : IsTaking old now first line rest) where
  -- bytes of a line are taken
  pub IsTaking-part : (part left new : List ℕ) → IsOneLine part → rest ≡ part ++ left → new ≡ line ++ part → IsTaking old now first new left
  IsTaking-part part left new one split grown = record {
    given = is.given;
    consumed = is.consumed;
    bytes = is.bytes ∙ ap (λ l. line ++ l) split ∙ sym (append_assoc line part left) ∙ ap (λ l. l ++ left) (sym grown);
    one_line = subst IsOneLine (sym grown) (IsOneLine-append line part is.one_line one);
  }

  -- where none is left, the reader gives more
  pub IsTaking-read : (new : Option (List ℕ)) (read left : List ℕ) → rest ≡ [] → Consumes now new read → left ≡ read → IsTaking old new first line left
  IsTaking-read new read left none gave same = record {
    given = is.given ++ read;
    consumed = Consumes-trans old now new is.given read is.consumed gave;
    bytes =
        sym (append_assoc first is.given read) ∙ ap (λ l. l ++ read) (is.bytes ∙ ap (λ l. line ++ l) none ∙ append-nil line)
        ∙ ap (λ l. line ++ l) (sym same);
    one_line = is.one_line;
  }

pub IsTaking-kept : (old now new : Option (List ℕ)) (first line rest : List ℕ) → IsTaking old now first line rest → Keeps now new → IsTaking old new first line rest
IsTaking-kept old now new first line rest is kept = record { given = is.given; consumed = Consumes-kept old now new is.given is.consumed kept; bytes = is.bytes; one_line = is.one_line }

-- the fields of the lines
pub line_of-none : (lines : Lines) → lines.width ≡ 0 → line_of lines ≡ []
line_of-none lines e = ap (λ n. take n (bytes_from lines.place lines.line lines.piece)) e

pub line_of-apart : (lines : Lines) → lines.place ≡ Apart → line_of lines ≡ take lines.width lines.line
line_of-apart lines e = ap (λ p. take lines.width (bytes_from p lines.line lines.piece)) e

pub rest_of-none : (lines : Lines) → lines.end ≤ lines.start → rest_of lines ≡ []
rest_of-none lines e = ap (λ n. take n (drop lines.start lines.piece)) (let f : lines.end - lines.start ≡ 0 = omega arith in f)

pub rest_of-moved : (lines new : Lines) (k : ℕ) → k ≤ lines.end - lines.start → new.piece ≡ lines.piece → new.end ≡ lines.end → new.start ≡ lines.start + k → rest_of new ≡ drop k (rest_of lines)
rest_of-moved lines new k inside same end start =
    let left = new.end - new.start in
    let all : lines.end - lines.start ≡ k + left = omega arith in
    ap (λ p. take left (drop new.start p)) same ∙ ap (λ n. take left (drop n lines.piece)) start ∙ ap (λ l. take left l) (sym (drop-drop k lines.start lines.piece))
    ∙ sym (drop-take k left (drop lines.start lines.piece)) ∙ ap (λ n. drop k (take n (drop lines.start lines.piece))) (sym all)

module _ (lines : Lines) (held : HasBounds lines) where
  pub line_of-length : length (line_of lines) ≡ lines.width
  line_of-length = length-take-le lines.width (bytes_from lines.place lines.line lines.piece) (at lines.place held.place)
    where
      at : (place : Place) → FitsAt place lines.width → lines.width ≤ length (bytes_from place lines.line lines.piece)
      at (Piece from) fits = let n = held.piece_length in let d = length-drop from lines.piece in omega arith
      at Apart fits = let n = held.line_length in let w = held.width in omega arith

  pub rest_of-length : length (rest_of lines) ≡ lines.end - lines.start
  rest_of-length =
      let n = held.piece_length in let s = held.start in let e = held.end in
      let d = length-drop lines.start lines.piece in
      length-take-le (lines.end - lines.start) (drop lines.start lines.piece) (omega arith)

  pub rest_of-all : take (lines.end - lines.start) (rest_of lines) ≡ rest_of lines
  rest_of-all = let n = rest_of-length in take_all (lines.end - lines.start) (rest_of lines) (omega arith)

module _ (left old now : Option (List ℕ)) (lines : Lines) (taken : List (List ℕ)) (has : HasTaken left old lines taken) (unended : lines.source ≡ Open) (line rest : List ℕ) (is : IsTaking old now (rest_of lines) line rest) where
  consumed_all : Consumes left now (has.bytes ++ (line ++ rest))
  consumed_all =
      subst (Consumes left now) (append_assoc has.bytes (rest_of lines) is.given ∙ ap (λ l. has.bytes ++ l) is.bytes)
      (Consumes-trans left old now (has.bytes ++ rest_of lines) is.given has.consumed is.consumed)

  consumed_as : (bytes past : List ℕ) → bytes ++ past ≡ has.bytes ++ (line ++ rest) → Consumes left now (bytes ++ past)
  consumed_as bytes past e = subst (Consumes left now) (sym e) consumed_all

  whole_taken : (cut has.bytes).whole ≡ taken
  whole_taken = sym (append-nil (cut has.bytes).whole) ∙ ap (λ t. (cut has.bytes).whole ++ last_line t) (sym (has.whole unended)) ∙ has.taken_as

  -- what is cut after the lines that were taken
  cut-after : (bytes : List ℕ) → cut_is (cut (has.bytes ++ bytes)) (taken ++ (cut bytes).whole) (cut bytes).tail
  cut-after bytes =
      cut-append has.bytes bytes
      ∙ ap (λ t. let rest = cut (t ++ bytes) in after (cut has.bytes).whole rest) (has.whole unended)
      ∙ ap (λ w. after w (cut bytes)) whole_taken
    where
      after : List (List ℕ) → Cut → Cut
      after whole rest = record { whole = whole ++ rest.whole; tail = rest.tail }

  -- what is cut of bytes that end no line
  cut-after_line : (bytes : List ℕ) → IsOneLine bytes → cut_is (cut (has.bytes ++ bytes)) taken bytes
  cut-after_line bytes one =
      cut-after bytes ∙ ap (λ (c : Cut). after (taken ++ c.whole) c.tail) (cut-one_line bytes one) ∙ ap (λ w. after w bytes) (append-nil taken)
    where
      after : List (List ℕ) → List ℕ → Cut
      after whole tail = record { whole = whole; tail = tail }

  -- a line is taken with its end
  pub HasTaken-line : (new : Lines) → rest ≡ 10 ∷ rest_of new → line_of new ≡ line → new.count ≡ lines.count + 1 → new.source ≡ Open → HasTaken left now new (taken ++ line_of new ∷ [])
  HasTaken-line new ends same count still =
      let c = cut-after (line ++ 10 ∷ []) ∙ ap (λ (c : Cut). after (taken ++ c.whole) c.tail) (cut-first_line line [] is.one_line) in
      let before = has.count in record {
        bytes = has.bytes ++ (line ++ 10 ∷ []);
        consumed = consumed_as (has.bytes ++ (line ++ 10 ∷ [])) (rest_of new) (
            append_assoc has.bytes (line ++ 10 ∷ []) (rest_of new) ∙ ap (λ l. has.bytes ++ l) (append_assoc line (10 ∷ []) (rest_of new)) ∙ ap (λ l. has.bytes ++ (line ++ l)) (sym ends));
        taken_as = ap (λ (c : Cut). c.whole ++ last_line c.tail) c ∙ append-nil (taken ++ line ∷ []) ∙ ap (λ l. taken ++ l ∷ []) (sym same);
        count = length-append taken (line_of new ∷ []) ∙ ap (λ k. k + 1) before ∙ sym count;
        whole = λ e. ap (λ (c : Cut). c.tail) c;
        ended = λ e. absurd (let f : Open ≡ Ended = sym still ∙ e in cc);
      }
    where
      after : List (List ℕ) → List ℕ → Cut
      after whole tail = record { whole = whole; tail = tail }

  -- the last line is taken, which lacks its end
  pub HasTaken-last : (new : Lines) → rest ≡ [] → line_of new ≡ line → 0 < length line → new.count ≡ lines.count + 1 → new.source ≡ Ended → rest_of new ≡ [] → IsAtEnd now
      → HasTaken left now new (taken ++ line_of new ∷ [])
  HasTaken-last new none same some count ended nothing at_end = record {
    bytes = has.bytes ++ line;
    consumed = consumed_as (has.bytes ++ line) (rest_of new) (append_assoc has.bytes line (rest_of new) ∙ ap (λ l. has.bytes ++ (line ++ l)) (nothing ∙ sym none));
    taken_as = ap (λ (c : Cut). c.whole ++ last_line c.tail) (cut-after_line line is.one_line) ∙ ap (λ l. taken ++ l) (last line some) ∙ ap (λ l. taken ++ l ∷ []) (sym same);
    count = length-append taken (line_of new ∷ []) ∙ ap (λ k. k + 1) has.count ∙ sym count;
    whole = λ e. absurd (let f : Open ≡ Ended = sym e ∙ ended in cc);
    ended = λ e. (nothing, at_end);
  }
    where
      last : (l : List ℕ) → 0 < length l → last_line l ≡ l ∷ []
      last [] h = absurd (grind arith)
      last (x ∷ l) h = refl

  pub HasStopped-end : line ≡ [] → rest ≡ [] → IsAtEnd now → HasStopped left now End taken
  HasStopped-end none nothing at_end = record {
    bytes = has.bytes;
    read = record {
      past = [];
      consumed = consumed_as has.bytes [] (ap (λ l. has.bytes ++ l) (sym (ap (λ l. l ++ rest) none ∙ nothing)));
      stops = (refl, at_end);
    };
    taken_as = has.taken_as;
  }

  pub HasStopped-failed : rest ≡ [] → HasStopped left now Failed taken
  HasStopped-failed none = record {
    bytes = has.bytes ++ line;
    read = record { past = []; consumed = consumed_as (has.bytes ++ line) [] (append_assoc has.bytes line [] ∙ ap (λ l. has.bytes ++ (line ++ l)) (sym none)); stops = refl };
    taken_as = ap (λ (c : Cut). c.whole) (cut-after_line line is.one_line);
  }

  pub HasStopped-long : (k : ℕ) → k < end_of rest → length line + length (take k rest) ≡ 200 → lines.count < 100000 → HasStopped left now TooLong taken
  HasStopped-long k inside width few =
      let further = Further-before_end k rest inside in
      let part = take k rest in
      let c = cut-after_line (line ++ part) (IsOneLine-append line part is.one_line (IsOneLine-take k rest (omega arith))) in
      let count = has.count in record {
        bytes = has.bytes ++ (line ++ part);
        read = record {
          past = further.byte ∷ further.more;
          consumed = consumed_as (has.bytes ++ (line ++ part)) (further.byte ∷ further.more) (
              append_assoc has.bytes (line ++ part) (further.byte ∷ further.more)
              ∙ ap (λ l. has.bytes ++ l) (append_assoc line part (further.byte ∷ further.more) ∙ ap (λ l. line ++ l) (sym further.split)));
          stops = (
            rw c (omega arith),
            rw c (length-append line part ∙ width),
            (further.byte, further.more, refl, further.is_other),
          );
        };
        taken_as = ap (λ (c : Cut). c.whole) c;
      }

  pub HasStopped-many : line ≡ [] → 0 < length rest → lines.count ≡ 100000 → HasStopped left now TooMany taken
  HasStopped-many none some many = record {
    bytes = has.bytes;
    read = record {
      past = rest;
      consumed = consumed_as has.bytes rest (ap (λ l. has.bytes ++ l) (sym (ap (λ l. l ++ rest) none)));
      stops = (ap length whole_taken ∙ has.count ∙ many, begins rest some);
    };
    taken_as = whole_taken;
  }
    where
      begins : (l : List ℕ) → 0 < length l → (b : ℕ) × (more : List ℕ) × (l ≡ b ∷ more)
      begins [] h = absurd (grind arith)
      begins (b ∷ l) h = (b, l, refl)

-- the last line was taken, or there was none
pub TakesOn-cases : (old new : Option (List ℕ)) (before after : Lines) (t : Taken) → (t ≡ taken.Line → TakesOn old new before after taken.Line) → (t ≡ taken.End → TakesOn old new before after taken.End) → TakesOn old new before after t
TakesOn-cases old new before after taken.Line line end = line refl
TakesOn-cases old new before after taken.End line end = end refl
