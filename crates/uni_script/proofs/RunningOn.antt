-- The run of the lines of a script, one after the other.
use Rattle.uni_script.proofs.Vocabulary.{Answered, Appends, Appends-nil, Appends-trans, AppendsPrefix, BadByte, BadHeader, BadLine, BenchFault, Bool, Consumes, End, Ended, EndsAs, Err, Failed, FaultsAfter, HasEnded, HasFaultAfter, HasRun, HasStopped, HasTaken, Heard, HeardGrows, IfNone, IfOk, IfSome, IsHeld, Kind, Lines, List, Memory, Moves, None, Ok, OnOk, Open, Option, Outcome, Read, ReadsOn, Result, Some, Stop, TooLong, TooMany, Write, WritesAs, [], and_then, ap, append-nil, append_assoc, arith, cut, echo_of, echoed, false, fault_of_stop, heard_of_line, heard_of_lines, heard_then, if◌then◌else◌, inl, inr, is_note, is_plain_byte, last_line, length, line_of, lines_of_read, list_all, nat_tests, not, nothing, option_map_or, outcome_of_end, outcome_of_fault, outcome_of_line, outcome_of_lines, outcome_of_read, outcome_of_short_line, outcome_of_stop, outcome_of_text, outcome_of_words, refl, rest_of, subst, sym, true, words_of_text, ℕ, ◌++◌, ◌+◌, ◌↔◌, ◌∙◌, ◌∷◌, ◌≡◌, ◌≤◌, ◌⊎◌}
use Rattle.uni_script.specs.declared.fault.BenchFault.TheVariants as fault
use Rattle.uni_script.specs.declared.lines.Source.{Source}
use Rattle.uni_script.proofs.Cutting.{cut-append}
use Rattle.uni_script.proofs.Running.{is_short, after_text, echoed-none, echoed-some, and_then-none, and_then-some, and_then-assoc, outcome_of_line-short, outcome_of_lines-append}
use Rattle.uni_script.proofs.Taking.{line_of-length}
use Rattle.uni_script.proofs.Written.{AppendsPrefix-all, AppendsPrefix-more, AppendsPrefix-after}

-- a fault has no answer
abbrev IsSilent : {B : Type 0} → Outcome B → Type 0
IsSilent outcome = (e : BenchFault) → outcome.fault ≡ Some e → outcome.text ≡ []

IsSilent-none : {B : Type 0} (b : Option B) (text : List ℕ) → IsSilent (record { session = b; text = text; fault = None })
IsSilent-none b text e q = absurd (let f : None ≡ Some e = q in cc)

IsSilent-if : {B : Type 0} (c : Bool) (x y : Outcome B) → IsSilent x → IsSilent y → IsSilent (if c then x else y)
IsSilent-if true x y p q = p
IsSilent-if false x y p q = q

IsSilent-map_or : {A B : Type 0} (f : A → Outcome B) (o : Option A) (x : Outcome B) → ((a : A) → IsSilent (f a)) → IsSilent x → IsSilent (option_map_or f o x)
IsSilent-map_or f None x p q = q
IsSilent-map_or f (Some a) x p q = p a

-- nothing more is heard
pub heard_then-nothing : (first : Heard) → heard_then first nothing ≡ first
heard_then-nothing first = rw (append-nil first.remarks, append-nil first.lines) refl

heard_then-assoc : (a b c : Heard) → heard_then (heard_then a b) c ≡ heard_then a (heard_then b c)
heard_then-assoc a b c = rw (append_assoc a.remarks b.remarks c.remarks, append_assoc a.lines b.lines c.lines) refl

pub HeardGrows-nil : (heard : Option Heard) → HeardGrows heard heard nothing
HeardGrows-nil None = tt
HeardGrows-nil (Some heard) = sym (heard_then-nothing heard)

pub HeardGrows-trans : (a b c : Option Heard) (x y : Heard) → HeardGrows a b x → HeardGrows b c y → HeardGrows a c (heard_then x y)
HeardGrows-trans None b c x y p q = tt
HeardGrows-trans (Some a) None c x y p q = absurd p
HeardGrows-trans (Some a) (Some b) None x y p q = absurd q
HeardGrows-trans (Some a) (Some b) (Some c) x y p q = q ∙ ap (λ l. heard_then l y) p ∙ heard_then-assoc a x y

-- the fault with which reading stopped ends the run
stop_faults : {B : Type 0} (stop : Stop) (b : Option B) (n : ℕ) (e : BenchFault) → fault_of_stop stop n ≡ Some e → outcome_of_stop stop n b ≡ outcome_of_fault b e
stop_faults End b n e is = absurd (let f : None ≡ Some e = is in cc)
stop_faults Failed b n e is = ap (outcome_of_fault b) (let f : Some Read ≡ Some e = is in let g : Read ≡ e = cc in g)
stop_faults TooLong b n e is = ap (outcome_of_fault b) (let f : Some (fault.TooLong (n + 1)) ≡ Some e = is in let g : fault.TooLong (n + 1) ≡ e = cc in g)
stop_faults TooMany b n e is = ap (outcome_of_fault b) (let f : Some fault.TooMany ≡ Some e = is in let g : fault.TooMany ≡ e = cc in g)

-- a call that didn't fail so leaves an end as it was
pub stays_false : (b : Bool) (P : Type 0) → (P ↔ (b ≡ true)) → (P → ⊥) → b ≡ false
stays_false true P same other = absurd (other (same.1 refl))
stays_false false P same other = refl

-- a result has one fault
pub one_fault : {A : Type 0} (e f : BenchFault) (r : Result A BenchFault) → r ≡ Err e → r ≡ Err f → e ≡ f
one_fault e f r p q = let h : Err e ≡ Err f = sym p ∙ q in cc

pub OnOk-always : {A B : Type 0} (r : Result A B) (P : Type 0) → P → OnOk r P
OnOk-always (Ok x) P p = p
OnOk-always (Err e) P p = tt

pub IfOk-with : {A B : Type 0} (r : Result A B) (P : A → Type 0) (Q : Type 0) (R : A → Type 0) → ((x : A) → P x → Q → R x) → IfOk r P → OnOk r Q → IfOk r R
IfOk-with (Ok x) P Q R f p q = f x p q
IfOk-with (Err e) P Q R f p q = tt

pub is_short-line : (lines : Lines) → IsHeld lines → is_short (line_of lines) ≡ true
is_short-line lines held = let n = line_of-length lines held.bounds in let w = held.bounds.width in grind (arith, nat_tests)

pub of_some : {A : Type 0} (o : Option A) (x : A) (P : A → Type 0) → o ≡ Some x → IfSome o P → P x
of_some o x P e h = let g : IfSome (Some x) P = subst (λ q. IfSome q P) e h in g

pub of_none : {A : Type 0} (o : Option A) (P : Type 0) → o ≡ None → IfNone o P → P
of_none {A = A} o P e h = let none : Option A = None in let g : IfNone none P = subst (λ q. IfNone q P) e h in g

-- the run of one line is that of its line
and_then-done : {B : Type 0} (o : Outcome B) → and_then o (λ b. record { session = b; text = []; fault = None }) ≡ o
and_then-done {B = B} o = at o.fault refl
  where
    with_fault : Outcome B → List ℕ → Option BenchFault → Outcome B
    with_fault o text fault = record { session = o.session; text = text; fault = fault }

    at : (f : Option BenchFault) → o.fault ≡ f → and_then o (λ b. record { session = b; text = []; fault = None }) ≡ o
    at None e = and_then-none o (λ b. record { session = b; text = []; fault = None }) e ∙ ap (λ t. with_fault o t None) (append-nil o.text) ∙ ap (λ f. with_fault o o.text f) (sym e)
    at (Some f) e = and_then-some o (λ b. record { session = b; text = []; fault = None }) f e

-- what comes after an outcome has its text first
text_goes_on : {B : Type 0} (o : Outcome B) (rest : Option B → Outcome B) → (more : List ℕ) × ((and_then o rest).text ≡ o.text ++ more)
text_goes_on {B = B} o rest = at o.fault refl
  where
    at : (f : Option BenchFault) → o.fault ≡ f → (more : List ℕ) × ((and_then o rest).text ≡ o.text ++ more)
    at None e = ((rest o.session).text, ap (λ (x : Outcome B). x.text) (and_then-none o rest e))
    at (Some f) e = ([], ap (λ (x : Outcome B). x.text) (and_then-some o rest f e) ∙ sym (append-nil o.text))

-- the lines of what was read so far, and the whole lines of the piece
abbrev pub ReadsOn-taken : (old now : Option (List ℕ)) (lines : Lines) (taken : List (List ℕ)) → HasTaken old now lines taken → ReadsOn old now taken
ReadsOn-taken old now lines taken has = at lines.source refl
  where
    at : (s : Source) → lines.source ≡ s → ReadsOn old now taken
    at Ended e = record {
      stop = End;
      bytes = has.bytes;
      read = record { past = []; consumed = subst (λ l. Consumes old now (has.bytes ++ l)) (has.ended e).0 has.consumed; stops = (refl, (has.ended e).1) };
      more = [];
      lines = has.taken_as ∙ sym (append-nil taken);
    }
    at Open e =
        let rest = rest_of lines in
        let whole : (cut has.bytes).whole ≡ taken = sym (append-nil (cut has.bytes).whole) ∙ ap (λ t. (cut has.bytes).whole ++ last_line t) (sym (has.whole e)) ∙ has.taken_as in record {
          stop = Failed;
          bytes = has.bytes ++ rest;
          read = record { past = []; consumed = subst (Consumes old now) (sym (append-nil (has.bytes ++ rest))) has.consumed; stops = refl };
          more = (cut ((cut has.bytes).tail ++ rest)).whole;
          lines = ap (λ c. c.whole) (cut-append has.bytes rest) ∙ ap (λ w. w ++ (cut ((cut has.bytes).tail ++ rest)).whole) whole;
        }

module _ {B : Type 0} (kind : Kind B) where
  -- of lines without a fault is heard what they tell, and then of the further lines what they tell
  heard_of_lines-append : (number : ℕ) (a : Option B) (xs ys : List (List ℕ)) → (outcome_of_lines kind number a xs).fault ≡ None
      → heard_of_lines kind number a (xs ++ ys) ≡ heard_then (heard_of_lines kind number a xs) (heard_of_lines kind (number + length xs) (outcome_of_lines kind number a xs).session ys)
  heard_of_lines-append number a [] ys none = let e : number + 0 ≡ number = omega arith in rw e refl
  heard_of_lines-append number a (x ∷ xs) ys none = at first.fault refl (λ quiet. heard_of_lines-append (number + 1) first.session xs ys quiet)
    where
      first : Outcome B
      first = outcome_of_line kind number a x

      rest : Option B → Outcome B
      rest after = outcome_of_lines kind (number + 1) after xs

      one : Heard
      one = heard_of_line kind number a first.session x

      prefix : Heard
      prefix = heard_then one (heard_of_lines kind (number + 1) first.session xs)

      at : (f : Option BenchFault) → first.fault ≡ f
          → ((rest first.session).fault ≡ None
          → heard_of_lines kind (number + 1) first.session (xs ++ ys) ≡ heard_then (heard_of_lines kind (number + 1) first.session xs) (heard_of_lines kind (number + 1 + length xs) (rest first.session).session ys))
          → heard_of_lines kind number a (x ∷ xs ++ ys) ≡ heard_then (heard_of_lines kind number a (x ∷ xs)) (heard_of_lines kind (number + length (x ∷ xs)) (outcome_of_lines kind number a (x ∷ xs)).session ys)
      at (Some f) e further = absurd (let h : None ≡ Some f = sym none ∙ ap (λ (o : Outcome B). o.fault) (and_then-some first rest f e) ∙ e in cc)
      at None e further =
          let is = and_then-none first rest e in
          let quiet = sym (ap (λ (o : Outcome B). o.fault) is) ∙ none in
          ap (λ l. heard_then one l) (further quiet)
          ∙ sym (heard_then-assoc one (heard_of_lines kind (number + 1) first.session xs) (heard_of_lines kind (number + 1 + length xs) (rest first.session).session ys))
          ∙ ap (λ k. heard_then prefix (heard_of_lines kind k (rest first.session).session ys)) (let k : number + 1 + length xs ≡ number + length (x ∷ xs) = omega arith in k)
          ∙ ap (λ (o : Outcome B). heard_then prefix (heard_of_lines kind (number + length (x ∷ xs)) o.session ys)) (sym is)

  IsSilent-outcome_of_words : (number : ℕ) (b : Option B) (words : List (List ℕ)) → IsSilent (outcome_of_words kind number b words)
  IsSilent-outcome_of_words number None words =
      IsSilent-map_or (λ b. outcome_of_text b []) (kind.opened words) (outcome_of_fault None (BadHeader number)) (λ b. IsSilent-none (Some b) []) (λ e q. refl)
  IsSilent-outcome_of_words number (Some b) words =
      IsSilent-map_or (λ (a : Answered B). outcome_of_text a.session a.text) (kind.made b words) (outcome_of_fault (Some b) (BadLine number)) (λ (a : Answered B). IsSilent-none (Some a.session) a.text) (λ e q. refl)

  IsSilent-outcome_of_short_line : (number : ℕ) (b : Option B) (line : List ℕ) → IsSilent (outcome_of_short_line kind number b line)
  IsSilent-outcome_of_short_line number b line =
      let worded : Outcome B = outcome_of_words kind number b (words_of_text line) in
      let noted : Outcome B = record { session = b; text = []; fault = None } in
      let plain : Outcome B = if is_note line then noted else worded in
      IsSilent-if (not (list_all is_plain_byte line)) (outcome_of_fault b (BadByte number)) plain (λ e q. refl)
      (IsSilent-if (is_note line) noted worded (IsSilent-none b []) (IsSilent-outcome_of_words number b (words_of_text line)))

  pub HasRun-start : (left written : Option (List ℕ)) (heard : Option Heard) (lines : Lines) → HasTaken left left lines [] → HasRun kind left left lines written written [] heard heard [] None
  HasRun-start left written heard lines has = record { reading = has; fault = refl; session_after = refl; prefix = []; written_as = Appends-nil written; text_is = refl; heard_as = HeardGrows-nil heard }

  module _ (old now : Option (List ℕ)) (lines : Lines) (written_old written : Option (List ℕ)) (gathered : List ℕ) (heard_old heard : Option Heard) (taken : List (List ℕ)) (b : Option B)
      (run : HasRun kind old now lines written_old written gathered heard_old heard taken b) where
    abbrev pub before : Outcome B
    before = outcome_of_lines kind 1 None taken

    -- a part of what was gathered was written
    pub HasRun-moved : (written_new : Option (List ℕ)) (left : List ℕ) → Moves written written_new gathered left → HasRun kind old now lines written_old written_new left heard_old heard taken b
    HasRun-moved written_new left moved = record {
      reading = run.reading;
      fault = run.fault;
      session_after = run.session_after;
      prefix = run.prefix ++ moved.0;
      written_as = Appends-trans written_old written written_new run.prefix moved.0 run.written_as moved.1;
      text_is = run.text_is ∙ ap (λ t. run.prefix ++ t) moved.2 ∙ sym (append_assoc run.prefix moved.0 left);
      heard_as = run.heard_as;
    }

    -- all of the text was written, or a prefix of it
    pub text_written : gathered ≡ [] → Appends written_old written before.text
    text_written none = subst (Appends written_old written) (sym (run.text_is ∙ ap (λ t. run.prefix ++ t) none ∙ append-nil run.prefix)) run.written_as

    pub text_part : (written_new : Option (List ℕ)) → AppendsPrefix written written_new gathered → AppendsPrefix written_old written_new before.text
    text_part written_new part = subst (AppendsPrefix written_old written_new) (sym run.text_is) (AppendsPrefix-after written_old written written_new run.prefix gathered run.written_as part)

    module _ (new : Option (List ℕ)) (after : Lines) (line : List ℕ) (has : HasTaken old new after (taken ++ line ∷ [])) (short : is_short line ≡ true) (few : after.count ≤ 100000) where
      abbrev pub short_line : Outcome B
      short_line = outcome_of_short_line kind after.count b line

      abbrev pub echo : List ℕ
      echo = echo_of kind.echo line

      abbrev pub first : Outcome B
      first = echoed echo short_line

      number_is : 1 + length taken ≡ after.count
      number_is = let c = has.count in let n = length-snoc taken line in omega arith
        where
          length-snoc : (xs : List (List ℕ)) (x : List ℕ) → length (xs ++ x ∷ []) ≡ length xs + 1
          length-snoc [] x = refl
          length-snoc (y ∷ xs) x = let e = length-snoc xs x in grind arith

      outcome_with_line : outcome_of_lines kind 1 None (taken ++ line ∷ []) ≡ after_text before.text first
      outcome_with_line =
          outcome_of_lines-append kind 1 None taken (line ∷ [])
          ∙ and_then-none before (λ c. outcome_of_lines kind (1 + length taken) c (line ∷ [])) run.fault
          ∙ ap (λ c. after_text before.text (outcome_of_lines kind (1 + length taken) c (line ∷ []))) run.session_after
          ∙ ap (λ n. after_text before.text (outcome_of_lines kind n b (line ∷ []))) number_is
          ∙ ap (λ o. after_text before.text (and_then o (λ c. record { session = c; text = []; fault = None }))) (outcome_of_line-short kind after.count b line few short)
          ∙ ap (after_text before.text) (and_then-done first)

      heard_with_line : (b' : Option B) → short_line.fault ≡ None → short_line.session ≡ b'
          → heard_then (heard_of_lines kind 1 None taken) (heard_of_line kind after.count b b' line) ≡ heard_of_lines kind 1 None (taken ++ line ∷ [])
      heard_with_line b' none same =
          let ran : (outcome_of_line kind after.count b line).session ≡ b' =
          ap (λ (o : Outcome B). o.session) (outcome_of_line-short kind after.count b line few short ∙ echoed-none echo short_line none) ∙ same in
          ap (λ c. heard_then (heard_of_lines kind 1 None taken) (heard_of_line kind after.count b c line)) (sym ran)
          ∙ ap (heard_then (heard_of_lines kind 1 None taken)) (sym (heard_then-nothing (heard_of_line kind after.count b (outcome_of_line kind after.count b line).session line)))
          ∙ ap (λ n. heard_then (heard_of_lines kind 1 None taken) (heard_of_lines kind n b (line ∷ []))) (sym number_is)
          ∙ ap (λ s. heard_then (heard_of_lines kind 1 None taken) (heard_of_lines kind (1 + length taken) s (line ∷ []))) (sym run.session_after)
          ∙ sym (heard_of_lines-append 1 None taken (line ∷ []) run.fault)

      -- a line without a fault was run, its echo and its answer gathered, and what it tells heard
      pub HasRun-line : (b' : Option B) (gathered_new : List ℕ) (heard_new : Option Heard) → short_line.fault ≡ None → short_line.session ≡ b'
          → gathered_new ≡ gathered ++ (echo ++ short_line.text) → HeardGrows heard heard_new (heard_of_line kind after.count b b' line)
          → HasRun kind old new after written_old written gathered_new heard_old heard_new (taken ++ line ∷ []) b'
      HasRun-line b' gathered_new heard_new none same gathers tells = record {
        reading = has;
        fault = ap (λ (o : Outcome B). o.fault) goes ∙ none;
        session_after = ap (λ (o : Outcome B). o.session) goes ∙ same;
        prefix = run.prefix;
        written_as = run.written_as;
        text_is =
            ap (λ (o : Outcome B). o.text) goes ∙ ap (λ t. t ++ (echo ++ short_line.text)) run.text_is
            ∙ append_assoc run.prefix gathered (echo ++ short_line.text) ∙ ap (λ t. run.prefix ++ t) (sym gathers);
        heard_as = subst (HeardGrows heard_old heard_new) (heard_with_line b' none same) (HeardGrows-trans heard_old heard heard_new (heard_of_lines kind 1 None taken) (heard_of_line kind after.count b b' line) run.heard_as tells);
      }
        where
          goes : outcome_of_lines kind 1 None (taken ++ line ∷ []) ≡ after_text before.text (after_text echo short_line)
          goes = outcome_with_line ∙ ap (after_text before.text) (echoed-none echo short_line none)

      -- a line without a fault and without an answer was run
      pub HasRun-quiet : (b' : Option B) (gathered_new : List ℕ) (heard_new : Option Heard) → short_line ≡ record { session = b'; text = []; fault = None }
          → gathered_new ≡ gathered ++ echo → HeardGrows heard heard_new (heard_of_line kind after.count b b' line)
          → HasRun kind old new after written_old written gathered_new heard_old heard_new (taken ++ line ∷ []) b'
      HasRun-quiet b' gathered_new heard_new quiet gathers tells =
          HasRun-line b' gathered_new heard_new (ap (λ (o : Outcome B). o.fault) quiet) (ap (λ (o : Outcome B). o.session) quiet)
          (gathers ∙ ap (λ t. gathered ++ t) (sym (append-nil echo) ∙ ap (λ t. echo ++ t) (sym (ap (λ (o : Outcome B). o.text) quiet)))) tells

      abbrev pub whole : ReadsOn old new (taken ++ line ∷ [])
      whole = ReadsOn-taken old new after (taken ++ line ∷ []) has

      -- what was read has the lines before it too
      pub ReadsOn-before : ReadsOn old new taken
      ReadsOn-before = record { stop = whole.stop; bytes = whole.bytes; read = whole.read; more = line ∷ whole.more; lines = whole.lines ∙ append_assoc taken (line ∷ []) whole.more }

      abbrev pub rest_of_run : Option B → Outcome B
      rest_of_run c = and_then (outcome_of_lines kind (1 + length (taken ++ line ∷ [])) c whole.more) (λ d. outcome_of_stop whole.stop (length (lines_of_read whole.stop whole.bytes)) d)

      outcome_is : outcome_of_read kind whole.stop whole.bytes ≡ and_then (after_text before.text first) rest_of_run
      outcome_is =
          let stopped : Option B → Outcome B = λ d. outcome_of_stop whole.stop (length (lines_of_read whole.stop whole.bytes)) d in
          ap (λ l. and_then (outcome_of_lines kind 1 None l) stopped) whole.lines
          ∙ ap (λ o. and_then o stopped) (outcome_of_lines-append kind 1 None (taken ++ line ∷ []) whole.more)
          ∙ and_then-assoc (outcome_of_lines kind 1 None (taken ++ line ∷ [])) (λ c. outcome_of_lines kind (1 + length (taken ++ line ∷ [])) c whole.more) stopped
          ∙ ap (λ o. and_then o rest_of_run) outcome_with_line

      -- the line has a fault
      HasFaultAfter-line : (e : BenchFault) → short_line.fault ≡ Some e → HasFaultAfter kind old new taken e
      HasFaultAfter-line e has =
          let silent = echoed-some echo short_line e has in
          let same = outcome_is ∙ and_then-some (after_text before.text first) rest_of_run e (ap (λ (o : Outcome B). o.fault) silent ∙ has) ∙ ap (after_text before.text) silent in record {
            stop = whole.stop;
            bytes = whole.bytes;
            read = whole.read;
            fault = ap (λ (o : Outcome B). o.fault) same ∙ has;
            text = ap (λ (o : Outcome B). o.text) same ∙ ap (λ t. before.text ++ t) (IsSilent-outcome_of_short_line after.count b line e has) ∙ append-nil before.text;
          }

      -- or memory was refused for it
      pub FaultsAfter-line : (e : BenchFault) (before_line after_line : List ℕ) → EndsAs {A = Unit {0}} short_line before_line after_line (Err e) → FaultsAfter kind old new taken e
      FaultsAfter-line e before_line after_line (inl memory) = inl (memory, ReadsOn-before)
      FaultsAfter-line e before_line after_line (inr has) = inr (HasFaultAfter-line e has.0)

      pub FaultsAfter-header : (c : Option B) (e : BenchFault) → (e ≡ Memory) ⊎ (short_line ≡ outcome_of_fault c e) → FaultsAfter kind old new taken e
      FaultsAfter-header c e (inl memory) = inl (memory, ReadsOn-before)
      FaultsAfter-header c e (inr same) = inr (HasFaultAfter-line e (ap (λ (o : Outcome B). o.fault) same))

    module _ (new : Option (List ℕ)) (stop : Stop) (has : HasStopped old new stop taken) where
      outcome_of_stopped : (session : Option B) → session ≡ b → outcome_of_read kind stop has.bytes ≡ after_text before.text (outcome_of_stop stop (length taken) session)
      outcome_of_stopped session same =
          ap (λ l. and_then (outcome_of_lines kind 1 None l) (λ c. outcome_of_stop stop (length l) c)) has.taken_as
          ∙ and_then-none before (λ c. outcome_of_stop stop (length taken) c) run.fault
          ∙ ap (λ c. after_text before.text (outcome_of_stop stop (length taken) c)) (run.session_after ∙ sym same)

      pub ReadsOn-stopped : ReadsOn old new taken
      ReadsOn-stopped = record { stop = stop; bytes = has.bytes; read = has.read; more = []; lines = has.taken_as ∙ sym (append-nil taken) }

      -- no further line was taken, which is a fault
      pub FaultsAfter-stop : (e : BenchFault) → outcome_of_stop stop (length taken) b ≡ outcome_of_fault b e → FaultsAfter kind old new taken e
      FaultsAfter-stop e is =
          let same = outcome_of_stopped b refl ∙ ap (after_text before.text) is in
          inr (record { stop = stop; bytes = has.bytes; read = has.read; fault = ap (λ (o : Outcome B). o.fault) same; text = ap (λ (o : Outcome B). o.text) same ∙ append-nil before.text })

      pub FaultsAfter-take : (e : BenchFault) → fault_of_stop stop lines.count ≡ Some e → FaultsAfter kind old new taken e
      FaultsAfter-take e is = FaultsAfter-stop e (stop_faults stop b (length taken) e (ap (λ n. fault_of_stop stop n) run.reading.count ∙ is))

  module _ (old new written_old written : Option (List ℕ)) (heard_old heard : Option Heard) (taken : List (List ℕ)) {Made : Type 0} (IsMade : (lines : ℕ) → B → Made → Type 0) where
    -- the run ends early: memory was refused, or the writer failed
    pub HasEnded-early : (e : BenchFault) → (e ≡ Memory) ⊎ (e ≡ Write) → ReadsOn old new taken → AppendsPrefix written_old written (outcome_of_lines kind 1 None taken).text → HasEnded kind old new written_old written heard_old heard IsMade (Err e)
    HasEnded-early e early whole part =
        let run = outcome_of_lines kind 1 None taken in
        let stopped : Option B → Outcome B = λ d. outcome_of_stop whole.stop (length (lines_of_read whole.stop whole.bytes)) d in
        let rest : Option B → Outcome B = λ c. and_then (outcome_of_lines kind (1 + length taken) c whole.more) stopped in
        let same : outcome_of_read kind whole.stop whole.bytes ≡ and_then run rest =
        ap (λ l. and_then (outcome_of_lines kind 1 None l) stopped) whole.lines ∙ ap (λ o. and_then o stopped) (outcome_of_lines-append kind 1 None taken whole.more)
        ∙ and_then-assoc run (λ c. outcome_of_lines kind (1 + length taken) c whole.more) stopped in
        let goes = text_goes_on run rest in record {
          stop = whole.stop;
          bytes = whole.bytes;
          read = whole.read;
          ends = inl (early, subst (AppendsPrefix written_old written) (sym (ap (λ (o : Outcome B). o.text) same ∙ goes.1)) (AppendsPrefix-more written_old written run.text goes.0 part));
          made = tt;
          heard_as = tt;
        }

    -- the run ends with its fault, after all answers were written
    pub HasEnded-fault : (e : BenchFault) → FaultsAfter kind old new taken e → Appends written_old written (outcome_of_lines kind 1 None taken).text → HasEnded kind old new written_old written heard_old heard IsMade (Err e)
    HasEnded-fault e (inl memory) all = HasEnded-early e (inl memory.0) memory.1 (AppendsPrefix-all written_old written _ all)
    HasEnded-fault e (inr has) all = record { stop = has.stop; bytes = has.bytes; read = has.read; ends = inr (has.fault, subst (Appends written_old written) (sym has.text) all); made = tt; heard_as = tt }

    -- or the writer failed before that
    pub HasEnded-unwritten : (e : BenchFault) → FaultsAfter kind old new taken e → AppendsPrefix written_old written (outcome_of_lines kind 1 None taken).text → HasEnded kind old new written_old written heard_old heard IsMade (Err Write)
    HasEnded-unwritten e (inl memory) part = HasEnded-early Write (inr refl) memory.1 part
    HasEnded-unwritten e (inr has) part = record { stop = has.stop; bytes = has.bytes; read = has.read; ends = inl (inr refl, subst (AppendsPrefix written_old written) (sym has.text) part); made = tt; heard_as = tt }

  -- the run ends where the script does
  pub HasEnded-end : (old now : Option (List ℕ)) (lines : Lines) (written_old written : Option (List ℕ)) (gathered : List ℕ) (heard_old heard : Option Heard) (taken : List (List ℕ)) (b : B)
      {Made : Type 0} (IsMade : (lines : ℕ) → B → Made → Type 0)
      → HasRun kind old now lines written_old written gathered heard_old heard taken (Some b) → gathered ≡ [] → (new : Option (List ℕ)) → HasStopped old new End taken → (written_new : Option (List ℕ)) (result : Result Made BenchFault)
      → WritesAs (outcome_of_end lines.count (Some b)) written written_new result → IfOk result (λ m. IsMade lines.count b m)
      → HasEnded kind old new written_old written_new heard_old heard IsMade result
  HasEnded-end old now lines written_old written gathered heard_old heard taken b {Made = Made} IsMade run none new has written_new result ends is_made = record {
    stop = End;
    bytes = has.bytes;
    read = has.read;
    ends = ended result (subst (λ n. WritesAs (outcome_of_end n (Some b)) written written_new result) (sym run.reading.count) ends);
    made = made result is_made;
    heard_as = OnOk-always result _ (subst (λ l. HeardGrows heard_old heard (heard_of_lines kind 1 None l)) (sym has.taken_as) run.heard_as);
  }
    where
      same : outcome_of_read kind End has.bytes ≡ after_text (outcome_of_lines kind 1 None taken).text (outcome_of_end (length taken) (Some b))
      same = outcome_of_stopped old now lines written_old written gathered heard_old heard taken (Some b) run new End has (Some b) refl

      written_as : Appends written_old written (outcome_of_lines kind 1 None taken).text
      written_as = text_written old now lines written_old written gathered heard_old heard taken (Some b) run none

      ended : (r : Result Made BenchFault) → WritesAs (outcome_of_end (length taken) (Some b)) written written_new r → WritesAs (outcome_of_read kind End has.bytes) written_old written_new r
      ended (Ok s) w = (ap (λ (o : Outcome B). o.fault) same, subst (Appends written_old written_new) (sym (ap (λ (o : Outcome B). o.text) same)) (Appends-trans written_old written written_new (outcome_of_lines kind 1 None taken).text _ written_as w.1))
      ended (Err e) (inl early) = inl (early.0, subst (AppendsPrefix written_old written_new) (sym (ap (λ (o : Outcome B). o.text) same)) (AppendsPrefix-after written_old written written_new (outcome_of_lines kind 1 None taken).text _ written_as early.1))
      ended (Err e) (inr bad) = absurd (let f : None ≡ Some e = bad.0 in cc)

      made : (r : Result Made BenchFault) → IfOk r (λ m. IsMade lines.count b m)
          → IfOk r (λ m. (c : B) × ((outcome_of_read kind End has.bytes).session ≡ Some c) × IsMade (length (lines_of_read End has.bytes)) c m)
      made (Ok m) h = (b, ap (λ (o : Outcome B). o.session) same, subst (λ n. IsMade n b m) (sym (ap length has.taken_as ∙ run.reading.count)) h)
      made (Err e) h = tt

-- what was made of a script, seen otherwise
module _ {B : Type 0} (kind : Kind B) (old new written_old written : Option (List ℕ)) (heard_old heard : Option Heard) {X Y : Type 0}
    (P : (lines : ℕ) → B → X → Type 0) (Q : (lines : ℕ) → B → Y → Type 0) where
  pub HasEnded-map : (x : X) (y : Y) → ((n : ℕ) (s : B) → P n s x → Q n s y)
      → HasEnded kind old new written_old written heard_old heard P (Ok x) → HasEnded kind old new written_old written heard_old heard Q (Ok y)
  HasEnded-map x y f is = record {
    stop = is.stop;
    bytes = is.bytes;
    read = is.read;
    ends = is.ends;
    made = (is.made.0, is.made.1, f (length (lines_of_read is.stop is.bytes)) is.made.0 is.made.2);
    heard_as = is.heard_as;
  }

  -- a fault is a fault, whatever would have been made
  pub HasEnded-err : (e : BenchFault) → HasEnded kind old new written_old written heard_old heard P (Err e) → HasEnded kind old new written_old written heard_old heard Q (Err e)
  HasEnded-err e is = record { stop = is.stop; bytes = is.bytes; read = is.read; ends = is.ends; made = tt; heard_as = tt }

-- however the run ended
module _ {B : Type 0} (kind : Kind B) (old new written_old written : Option (List ℕ)) (heard_old heard : Option Heard) {X : Type 0} (P Q : (lines : ℕ) → B → X → Type 0) where
  pub HasEnded-as : (r : Result X BenchFault) → ((n : ℕ) (s : B) (x : X) → P n s x → Q n s x)
      → HasEnded kind old new written_old written heard_old heard P r → HasEnded kind old new written_old written heard_old heard Q r
  HasEnded-as (Ok x) f is = HasEnded-map kind old new written_old written heard_old heard P Q x x (λ n s. f n s x) is
  HasEnded-as (Err e) f is = HasEnded-err kind old new written_old written heard_old heard P Q e is
