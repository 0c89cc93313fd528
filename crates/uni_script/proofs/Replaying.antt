-- What was read of a script, and the whole script.
use Rattle.uni_script.proofs.Vocabulary.{Answered, Appends, AppendsPrefix, BenchFault, Bool, Consumes, End, Err, Failed, HasEnded, HasRunWhole, Heard, HeardGrows, IfErr, IsAtEnd, IsRead, Kind, List, Memory, NoHeader, None, Ok, OnOk, Option, Outcome, Read, Result, Some, Stop, StopsAt, TooLong, TooMany, Write, [], and_then, and_then_from, ap, append-nil, append_assoc, arith, cut, echo_of, echoed, echoed_from, end_text, false, heard_of_lines, if◌then◌else◌, inl, inr, is_note, is_plain_byte, length, lines_of, lines_of_read, list_all, nat_lt, nat_tests, not, option_map_or, outcome_of_end, outcome_of_fault, outcome_of_line, outcome_of_lines, outcome_of_read, outcome_of_script, outcome_of_stop, outcome_of_text, outcome_of_words, refl, subst, sym, true, words_of_text, ℕ, ◌++◌, ◌+◌, ◌==◌, ◌∙◌, ◌∷◌, ◌≡◌, ◌≤◌, ◌⊎◌}
use Rattle.uni_audit.specs.declared.verdict.Verdict.{Verdict}
use Rattle.uni_script.specs.declared.fault.BenchFault.TheVariants as fault
use Rattle.uni_script.specs.Replay.{IsInput, IsReplay, Leaves, IsPartOfReplay, HasAnswered, IsFaultOfScript, text_of_script}
use Rattle.uni_script.proofs.Cutting.{GoesOn-start, GoesOn-start_other, GoesOn-after, lines_of-append}
use Rattle.uni_script.proofs.Running.{after_text, and_then-same, and_then-assoc, and_then-none, and_then-some, and_then-quiet, outcome_of_lines-append, outcome_of_lines-too_long, outcome_of_lines-too_many, few_lines}
use Rattle.uni_script.proofs.Remarked.{remarks_of_lines-length}
use Rattle.uni_script.proofs.Written.{IsWritten-start, AppendsPrefix-all, AppendsPrefix-more}

other_byte : (b : ℕ) → (b ≡ 10 → ⊥) → (b == 10) ≡ false
other_byte b h = at (b == 10) refl
  where
    at : (q : Bool) → (b == 10) ≡ q → q ≡ false
    at true e = absurd (h (grind (arith, nat_tests)))
    at false e = refl

-- each fault that an outcome has is one of these
abbrev FaultsOnly : {B : Type 0} → (BenchFault → Type 0) → Outcome B → Type 0
FaultsOnly P outcome = (e : BenchFault) → outcome.fault ≡ Some e → P e

module _ {B : Type 0} (P : BenchFault → Type 0) where
  FaultsOnly-outcome_of_fault : (b : Option B) (f : BenchFault) → P f → FaultsOnly P (outcome_of_fault b f)
  FaultsOnly-outcome_of_fault b f p e q = subst P (same q) p
    where
      same : Some f ≡ Some e → f ≡ e
      same q = cc

  FaultsOnly-none : (b : Option B) (text : List ℕ) → FaultsOnly P (record { session = b; text = text; fault = None })
  FaultsOnly-none b text e q = absurd (let f : None ≡ Some e = q in cc)

  FaultsOnly-if : (c : Bool) (x y : Outcome B) → FaultsOnly P x → FaultsOnly P y → FaultsOnly P (if c then x else y)
  FaultsOnly-if true x y p q = p
  FaultsOnly-if false x y p q = q

  FaultsOnly-map_or : {A : Type 0} (f : A → Outcome B) (o : Option A) (x : Outcome B) → ((a : A) → FaultsOnly P (f a)) → FaultsOnly P x → FaultsOnly P (option_map_or f o x)
  FaultsOnly-map_or f None x p q = q
  FaultsOnly-map_or f (Some a) x p q = p a

  FaultsOnly-and_then : (first : Outcome B) (rest : Option B → Outcome B) → FaultsOnly P first → ((b : Option B) → FaultsOnly P (rest b)) → FaultsOnly P (and_then first rest)
  FaultsOnly-and_then first rest p q = at first.fault refl
    where
      at : (f : Option BenchFault) → first.fault ≡ f → FaultsOnly P (and_then_from first (rest first.session) f)
      at None e = q first.session
      at (Some f) e = p

  FaultsOnly-echoed : (text : List ℕ) (o : Outcome B) → FaultsOnly P o → FaultsOnly P (echoed text o)
  FaultsOnly-echoed text o p = at o.fault refl
    where
      at : (f : Option BenchFault) → o.fault ≡ f → FaultsOnly P (echoed_from text o f)
      at None e = p
      at (Some f) e = p

module _ {B : Type 0} (kind : Kind B) where
  FaultsOnly-outcome_of_words : (number : ℕ) (b : Option B) (words : List (List ℕ)) → FaultsOnly IsFaultOfScript (outcome_of_words kind number b words)
  FaultsOnly-outcome_of_words number None words =
      FaultsOnly-map_or IsFaultOfScript (λ b. outcome_of_text b []) (kind.opened words) (outcome_of_fault None (fault.BadHeader number))
      (λ b. FaultsOnly-none IsFaultOfScript (Some b) []) (FaultsOnly-outcome_of_fault {B = B} IsFaultOfScript None (fault.BadHeader number) tt)
  FaultsOnly-outcome_of_words number (Some b) words =
      FaultsOnly-map_or IsFaultOfScript (λ (a : Answered B). outcome_of_text a.session a.text) (kind.made b words) (outcome_of_fault (Some b) (fault.BadLine number))
      (λ (a : Answered B). FaultsOnly-none IsFaultOfScript (Some a.session) a.text) (FaultsOnly-outcome_of_fault IsFaultOfScript (Some b) (fault.BadLine number) tt)

  FaultsOnly-outcome_of_line : (number : ℕ) (b : Option B) (line : List ℕ) → FaultsOnly IsFaultOfScript (outcome_of_line kind number b line)
  FaultsOnly-outcome_of_line number b line =
      let worded : Outcome B = outcome_of_words kind number b (words_of_text line) in
      let noted : Outcome B = record { session = b; text = []; fault = None } in
      let plain : Outcome B = if is_note line then noted else worded in
      let short : Outcome B = if not (list_all is_plain_byte line) then outcome_of_fault b (fault.BadByte number) else plain in
      let shown : Outcome B = echoed (echo_of kind.echo line) short in
      let counted : Outcome B = if nat_lt 200 (length line) then outcome_of_fault b (fault.TooLong number) else shown in
      FaultsOnly-if IsFaultOfScript (nat_lt 100000 number) (outcome_of_fault b fault.TooMany) counted (FaultsOnly-outcome_of_fault IsFaultOfScript b fault.TooMany tt)
      (FaultsOnly-if IsFaultOfScript (nat_lt 200 (length line)) (outcome_of_fault b (fault.TooLong number)) shown (FaultsOnly-outcome_of_fault IsFaultOfScript b (fault.TooLong number) tt)
      (FaultsOnly-echoed IsFaultOfScript (echo_of kind.echo line) short
      (FaultsOnly-if IsFaultOfScript (not (list_all is_plain_byte line)) (outcome_of_fault b (fault.BadByte number)) plain (FaultsOnly-outcome_of_fault IsFaultOfScript b (fault.BadByte number) tt)
      (FaultsOnly-if IsFaultOfScript (is_note line) noted worded (FaultsOnly-none IsFaultOfScript b []) (FaultsOnly-outcome_of_words number b (words_of_text line))))))

  FaultsOnly-outcome_of_lines : (number : ℕ) (b : Option B) (lines : List (List ℕ)) → FaultsOnly IsFaultOfScript (outcome_of_lines kind number b lines)
  FaultsOnly-outcome_of_lines number b [] = FaultsOnly-none IsFaultOfScript b []
  FaultsOnly-outcome_of_lines number b (line ∷ lines) =
      FaultsOnly-and_then IsFaultOfScript (outcome_of_line kind number b line) (λ after. outcome_of_lines kind (number + 1) after lines) (FaultsOnly-outcome_of_line number b line) (λ after. FaultsOnly-outcome_of_lines (number + 1) after lines)

  FaultsOnly-outcome_of_end : (lines : ℕ) (b : Option B) → FaultsOnly IsFaultOfScript (outcome_of_end lines b)
  FaultsOnly-outcome_of_end lines None = FaultsOnly-outcome_of_fault {B = B} IsFaultOfScript None (NoHeader (lines + 1)) tt
  FaultsOnly-outcome_of_end lines (Some b) = FaultsOnly-none IsFaultOfScript (Some b) end_text

  -- a line that ends the run
  run_stopped : (before : List (List ℕ)) (line : List ℕ) (lines : List (List ℕ)) (f : BenchFault) (rest : Option B → Outcome B)
      → ((b : Option B) → outcome_of_lines kind (1 + length before) b (line ∷ lines) ≡ outcome_of_fault b f)
      → and_then (outcome_of_lines kind 1 None (before ++ line ∷ lines)) rest ≡ and_then (outcome_of_lines kind 1 None before) (λ b. outcome_of_fault b f)
  run_stopped before line lines f rest stops =
      ap (λ run. and_then run rest) (outcome_of_lines-append kind 1 None before (line ∷ lines))
      ∙ and_then-assoc (outcome_of_lines kind 1 None before) (λ b. outcome_of_lines kind (1 + length before) b (line ∷ lines)) rest
      ∙ and_then-same (outcome_of_lines kind 1 None before) (λ b. and_then (outcome_of_lines kind (1 + length before) b (line ∷ lines)) rest) (λ b. outcome_of_fault b f) (λ b. ap (λ run. and_then run rest) (stops b))

  -- a script that was read to its end, or to a byte that it may not have, comes to what was read of it
  pub outcome_of_script-read : (stop : Stop) (bytes past : List ℕ) (left : Option (List ℕ)) → StopsAt stop bytes past left → (stop ≡ Failed → ⊥) → outcome_of_script kind (bytes ++ past) ≡ outcome_of_read kind stop bytes
  outcome_of_script-read End bytes past left at other = rw at.0 (rw (append-nil bytes) refl)
  outcome_of_script-read Failed bytes past left at other = absurd (other refl)
  outcome_of_script-read TooLong bytes past left at other =
      let few = at.0 in
      let wide = at.1 in
      let g = GoesOn-after bytes (at.2.0 ∷ at.2.1) 1 (GoesOn-start_other at.2.0 at.2.1 (other_byte at.2.0 at.2.3)) in
      let long = g.long in
      let next : 1 + length (cut bytes).whole ≡ length (cut bytes).whole + 1 = omega arith in
      ap (λ p. outcome_of_script kind (bytes ++ p)) at.2.2
      ∙ ap (λ lines. and_then (outcome_of_lines kind 1 None lines) (λ after. outcome_of_end (length lines) after)) g.cut_as
      ∙ run_stopped (cut bytes).whole g.line g.lines (fault.TooLong (length (cut bytes).whole + 1)) (λ after. outcome_of_end (length ((cut bytes).whole ++ g.line ∷ g.lines)) after)
      (λ b. rw next (outcome_of_lines-too_long kind (length (cut bytes).whole + 1) b g.line g.lines (omega arith) (omega arith)))
  outcome_of_script-read TooMany bytes past left at other =
      let g = GoesOn-after bytes (at.1.0 ∷ at.1.1) 0 (GoesOn-start at.1.0 at.1.1) in
      let many = at.0 in
      let next : 1 + length (cut bytes).whole ≡ 100001 = omega arith in
      ap (λ p. outcome_of_script kind (bytes ++ p)) at.1.2
      ∙ ap (λ lines. and_then (outcome_of_lines kind 1 None lines) (λ after. outcome_of_end (length lines) after)) g.cut_as
      ∙ run_stopped (cut bytes).whole g.line g.lines fault.TooMany (λ after. outcome_of_end (length ((cut bytes).whole ++ g.line ∷ g.lines)) after) (λ b. rw next (outcome_of_lines-too_many kind b g.line g.lines))

  -- a script goes on after its whole lines
  outcome_of_script-whole : (bytes past : List ℕ) → (rest : Option B → Outcome B) × (outcome_of_script kind (bytes ++ past) ≡ and_then (outcome_of_lines kind 1 None (cut bytes).whole) rest)
  outcome_of_script-whole bytes past =
      let more = lines_of ((cut bytes).tail ++ past) in
      let number = 1 + length (cut bytes).whole in
      let finish : Option B → Outcome B = λ after. outcome_of_end (length ((cut bytes).whole ++ more)) after in (
        (λ b. and_then (outcome_of_lines kind number b more) finish),
        ap (λ lines. and_then (outcome_of_lines kind 1 None lines) (λ after. outcome_of_end (length lines) after)) (lines_of-append bytes past)
            ∙ ap (λ run. and_then run finish) (outcome_of_lines-append kind 1 None (cut bytes).whole more)
            ∙ and_then-assoc (outcome_of_lines kind 1 None (cut bytes).whole) (λ b. outcome_of_lines kind number b more) finish,
      )

  -- the bytes that a reader had, where it gave these ones: with what is left, where that is known
  abbrev pub with_left : (given : List ℕ) → Option (List ℕ) → List ℕ
  with_left given None = given
  with_left given (Some left) = given ++ left

  IsInput-with_left : (old new : Option (List ℕ)) (given : List ℕ) → Consumes old new given → IsInput old (with_left given new)
  IsInput-with_left None new given c = tt
  IsInput-with_left (Some x) None given c = absurd c
  IsInput-with_left (Some x) (Some y) given c = c

  -- what is past the bytes that were read of a script, with what is left
  abbrev past_left : (past : List ℕ) → Option (List ℕ) → List ℕ
  past_left past None = past
  past_left past (Some left) = past ++ left

  with_left-past : (bytes past : List ℕ) (left : Option (List ℕ)) → with_left (bytes ++ past) left ≡ bytes ++ past_left past left
  with_left-past bytes past None = refl
  with_left-past bytes past (Some left) = append_assoc bytes past left

  -- nothing is past a script that was read to its end
  past_left-end : (bytes past : List ℕ) (left : Option (List ℕ)) → StopsAt End bytes past left → past_left past left ≡ []
  past_left-end bytes past None at = at.0
  past_left-end bytes past (Some left) at = ap (λ p. p ++ left) at.0 ∙ at.1

  StopsAt-past_left : (stop : Stop) (bytes past : List ℕ) (left : Option (List ℕ)) → StopsAt stop bytes past left → (stop ≡ Failed → ⊥) → StopsAt stop bytes (past_left past left) left
  StopsAt-past_left stop bytes past None at other = at
  StopsAt-past_left End bytes past (Some left) at other = (ap (λ p. p ++ left) at.0 ∙ at.1, at.1)
  StopsAt-past_left Failed bytes past (Some left) at other = absurd (other refl)
  StopsAt-past_left TooLong bytes past (Some left) at other = (at.0, at.1, (at.2.0, at.2.1 ++ left, ap (λ p. p ++ left) at.2.2, at.2.3))
  StopsAt-past_left TooMany bytes past (Some left) at other = (at.0, (at.1.0, at.1.1 ++ left, ap (λ p. p ++ left) at.1.2))

  -- before anything is written
  pub IsPartOfReplay-start : (left contents : Option (List ℕ)) → IsPartOfReplay kind left contents contents
  IsPartOfReplay-start None contents = ([], tt, (text_of_script kind [], IsWritten-start contents (text_of_script kind [])))
  IsPartOfReplay-start (Some bytes) contents = (bytes, refl, (text_of_script kind bytes, IsWritten-start contents (text_of_script kind bytes)))

  is_failed : (stop : Stop) → (stop ≡ Failed) ⊎ (stop ≡ Failed → ⊥)
  is_failed End = inr (λ e. cc)
  is_failed Failed = inl refl
  is_failed TooLong = inr (λ e. cc)
  is_failed TooMany = inr (λ e. cc)

  -- the outcome of the whole lines of some bytes
  abbrev outcome_of_whole_lines : List ℕ → Outcome B
  outcome_of_whole_lines bytes = outcome_of_lines kind 1 None (cut bytes).whole

  -- where the reader failed: the whole lines have the fault, or have none
  outcome_of_failed_read : (bytes : List ℕ) → ((outcome_of_whole_lines bytes).fault ≡ None) × (outcome_of_read kind Failed bytes ≡ after_text (outcome_of_whole_lines bytes).text (outcome_of_fault (outcome_of_whole_lines bytes).session Read))
      ⊎ (e : BenchFault) × ((outcome_of_whole_lines bytes).fault ≡ Some e) × (outcome_of_read kind Failed bytes ≡ outcome_of_whole_lines bytes)
  outcome_of_failed_read bytes = at (outcome_of_whole_lines bytes).fault refl
    where
      at : (f : Option BenchFault) → (outcome_of_whole_lines bytes).fault ≡ f
          → ((outcome_of_whole_lines bytes).fault ≡ None) × (outcome_of_read kind Failed bytes ≡ after_text (outcome_of_whole_lines bytes).text (outcome_of_fault (outcome_of_whole_lines bytes).session Read))
          ⊎ (e : BenchFault) × ((outcome_of_whole_lines bytes).fault ≡ Some e) × (outcome_of_read kind Failed bytes ≡ outcome_of_whole_lines bytes)
      at None e = inl (e, and_then-none (outcome_of_whole_lines bytes) (λ b. outcome_of_fault b Read) e)
      at (Some f) e = inr (f, e, and_then-some (outcome_of_whole_lines bytes) (λ b. outcome_of_fault b Read) f e)

  -- a fault that reading a script or running it can have
  abbrev IsFaultOfRead : BenchFault → Type 0
  IsFaultOfRead e = IsFaultOfScript e ⊎ (e ≡ Read)

  FaultsOnly-outcome_of_read : (stop : Stop) (bytes : List ℕ) → FaultsOnly IsFaultOfRead (outcome_of_read kind stop bytes)
  FaultsOnly-outcome_of_read stop bytes =
      let lines = lines_of_read stop bytes in
      FaultsOnly-and_then IsFaultOfRead (outcome_of_lines kind 1 None lines) (λ after. outcome_of_stop stop (length lines) after) (λ e q. inl (FaultsOnly-outcome_of_lines 1 None lines e q)) (at stop (length lines))
    where
      at : (s : Stop) (n : ℕ) (b : Option B) → FaultsOnly IsFaultOfRead (outcome_of_stop s n b)
      at End n b = λ e q. inl (FaultsOnly-outcome_of_end n b e q)
      at Failed n b = FaultsOnly-outcome_of_fault IsFaultOfRead b Read (inr refl)
      at TooLong n b = FaultsOnly-outcome_of_fault IsFaultOfRead b (fault.TooLong (n + 1)) (inl tt)
      at TooMany n b = FaultsOnly-outcome_of_fault IsFaultOfRead b fault.TooMany (inl tt)

  FaultsOnly-outcome_of_script : (bytes : List ℕ) → FaultsOnly IsFaultOfScript (outcome_of_script kind bytes)
  FaultsOnly-outcome_of_script bytes =
      FaultsOnly-and_then IsFaultOfScript (outcome_of_lines kind 1 None (lines_of bytes)) (λ after. outcome_of_end (length (lines_of bytes)) after) (FaultsOnly-outcome_of_lines 1 None (lines_of bytes))
      (λ b. FaultsOnly-outcome_of_end (length (lines_of bytes)) b)

  -- only a script that was read to its end has no fault
  end_of_run : (stop : Stop) (bytes : List ℕ) → (outcome_of_read kind stop bytes).fault ≡ None → stop ≡ End
  end_of_run stop bytes none = at (outcome_of_lines kind 1 None (lines_of_read stop bytes)).fault refl stop (length (lines_of_read stop bytes)) none
    where
      at : (f : Option BenchFault) → (outcome_of_lines kind 1 None (lines_of_read stop bytes)).fault ≡ f → (s : Stop) (n : ℕ)
          → (and_then_from (outcome_of_lines kind 1 None (lines_of_read stop bytes)) (outcome_of_stop s n (outcome_of_lines kind 1 None (lines_of_read stop bytes)).session) f).fault ≡ None → s ≡ End
      at None g End n e = refl
      at None g Failed n e = absurd (let h : Some Read ≡ None = e in cc)
      at None g TooLong n e = absurd (let h : Some (fault.TooLong (n + 1)) ≡ None = e in cc)
      at None g TooMany n e = absurd (let h : Some fault.TooMany ≡ None = e in cc)
      at (Some f) g s n e = absurd (let h : Some f ≡ None = sym g ∙ e in cc)

  module _ (left left_after : Option (List ℕ)) (stop : Stop) (bytes : List ℕ) (is : IsRead left left_after stop bytes) where
    abbrev pub script : List ℕ
    script = with_left (bytes ++ is.past) left_after

    script_is : script ≡ bytes ++ past_left is.past left_after
    script_is = with_left-past bytes is.past left_after

    pub is_input : IsInput left script
    is_input = IsInput-with_left left left_after (bytes ++ is.past) is.consumed

    same_run : (stop ≡ Failed → ⊥) → outcome_of_script kind script ≡ outcome_of_read kind stop bytes
    same_run other =
        ap (λ s. outcome_of_script kind s) script_is
        ∙ outcome_of_script-read stop bytes (past_left is.past left_after) left_after (StopsAt-past_left stop bytes is.past left_after is.stops other) other

    -- the whole script goes on after the whole lines
    goes_on : (rest : Option B → Outcome B) × (outcome_of_script kind script ≡ and_then (outcome_of_whole_lines bytes) rest)
    goes_on = let whole = outcome_of_script-whole bytes (past_left is.past left_after) in (whole.0, ap (λ s. outcome_of_script kind s) script_is ∙ whole.1)

    read_failed : stop ≡ Failed → outcome_of_read kind stop bytes ≡ outcome_of_read kind Failed bytes
    read_failed failed = ap (λ s. outcome_of_read kind s bytes) failed

    -- what was read has a fault of the script: the script has it, after the same answers
    same_fault : (e : BenchFault) → (outcome_of_read kind stop bytes).fault ≡ Some e → IsFaultOfScript e → outcome_of_script kind script ≡ outcome_of_read kind stop bytes
    same_fault e has own = elim (is_failed stop) [
      | inr other ↦ same_run other
      | inl failed ↦ elim (outcome_of_failed_read bytes) [
        | inl clean ↦ absurd (subst IsFaultOfScript (let h : Some Read ≡ Some e = sym (ap fault_of (read_failed failed ∙ clean.1)) ∙ has in same h) own)
        | inr some ↦ goes_on.1 ∙ and_then-some (outcome_of_whole_lines bytes) goes_on.0 some.0 some.1 ∙ sym (read_failed failed ∙ some.2)
      ]
    ]
      where
        fault_of : Outcome B → Option BenchFault
        fault_of o = o.fault

        same : Some Read ≡ Some e → e ≡ Read
        same h = cc

    -- the answers to what was read are the first of the script's
    pub part_of : (old new : Option (List ℕ)) → AppendsPrefix old new (outcome_of_read kind stop bytes).text → IsPartOfReplay kind left old new
    part_of old new prefix = (
      script,
      is_input,
      elim (is_failed stop) [
        | inr other ↦ subst (λ (o : Outcome B). AppendsPrefix old new o.text) (sym (same_run other)) prefix
        | inl failed ↦ elim (outcome_of_failed_read bytes) [
          | inl clean ↦
              let whole = subst (AppendsPrefix old new) (ap (λ (o : Outcome B). o.text) (read_failed failed ∙ clean.1) ∙ append-nil (outcome_of_whole_lines bytes).text) prefix in
              subst (λ (o : Outcome B). AppendsPrefix old new o.text) (sym (goes_on.1 ∙ and_then-none (outcome_of_whole_lines bytes) goes_on.0 clean.0))
              (AppendsPrefix-more old new (outcome_of_whole_lines bytes).text (goes_on.0 (outcome_of_whole_lines bytes).session).text whole)
          | inr some ↦
              subst (λ (o : Outcome B). AppendsPrefix old new o.text) (read_failed failed ∙ some.2 ∙ sym (goes_on.1 ∙ and_then-some (outcome_of_whole_lines bytes) goes_on.0 some.0 some.1)) prefix
        ]
      ],
    )

    -- the script has this outcome, and the text of its answers was written
    replayed_as : (old new : Option (List ℕ)) (f : Option BenchFault) → outcome_of_script kind script ≡ outcome_of_read kind stop bytes → (outcome_of_read kind stop bytes).fault ≡ f
        → Appends old new (outcome_of_read kind stop bytes).text → IsReplay kind left old new f
    replayed_as old new f same has appends = (
      script,
      is_input,
      ap (λ (o : Outcome B). o.fault) same ∙ has,
      subst (Appends old new) (sym (ap (λ (o : Outcome B). o.text) same)) appends,
    )

    not_failed : (outcome_of_read kind stop bytes).fault ≡ None → stop ≡ Failed → ⊥
    not_failed none failed = let e = end_of_run stop bytes none in let f : End ≡ Failed = sym e ∙ failed in cc

    pub script_whole : stop ≡ End → script ≡ bytes
    script_whole e = script_is ∙ ap (λ p. bytes ++ p) (past_left-end bytes is.past left_after (subst (λ s. StopsAt s bytes is.past left_after) e is.stops)) ∙ append-nil bytes

    -- what holds of what was read to its end holds of the script
    same_session : (Holds : (lines : ℕ) → B → Type 0) → (outcome_of_read kind stop bytes).fault ≡ None
        → ((b : B) × ((outcome_of_read kind stop bytes).session ≡ Some b) × Holds (length (lines_of_read stop bytes)) b) → Leaves kind left Holds
    same_session Holds none kept =
        let whole = end_of_run stop bytes none in
        let lines : length (lines_of_read stop bytes) ≡ length (lines_of script) = ap (λ k. length (lines_of_read k bytes)) whole ∙ ap (λ t. length (lines_of t)) (sym (script_whole whole)) in
        (script, is_input, (kept.0, ap (λ (o : Outcome B). o.session) (same_run (not_failed none)) ∙ kept.1, subst (λ n. Holds n kept.0) lines kept.2))

    -- where the run of what was read ends with `Read`, the reader has failed after whole lines without a fault
    answered : (old new : Option (List ℕ)) → (outcome_of_read kind stop bytes).fault ≡ Some Read → Appends old new (outcome_of_read kind stop bytes).text → HasAnswered kind left left_after old new
    answered old new has appends = elim (is_failed stop) [
      | inr other ↦ absurd (FaultsOnly-outcome_of_script script Read (ap (λ (o : Outcome B). o.fault) (same_run other) ∙ has))
      | inl failed ↦
          let nothing_past = subst (λ s. StopsAt s bytes is.past left_after) failed is.stops in
          let given = subst (Consumes left left_after) (ap (λ p. bytes ++ p) nothing_past ∙ append-nil bytes) is.consumed in
          elim (outcome_of_failed_read bytes) [
            | inl clean ↦ (bytes, given, clean.0, subst (Appends old new) (ap (λ (o : Outcome B). o.text) (read_failed failed ∙ clean.1) ∙ append-nil (outcome_of_whole_lines bytes).text) appends)
            | inr some ↦ absurd (FaultsOnly-outcome_of_lines 1 None (cut bytes).whole Read (sym (ap (λ (o : Outcome B). o.fault) (read_failed failed ∙ some.2)) ∙ has))
          ]
    ]

  -- what is told of a run that has ended
  module _ (left left_after old new : Option (List ℕ)) (heard_old heard : Option Heard) {Made : Type 0} (IsMade : (lines : ℕ) → B → Made → Type 0) where
    abbrev Ended : Result Made BenchFault → Type 0
    Ended result = HasEnded kind left left_after old new heard_old heard IsMade result

    pub HasEnded-replayed : (result : Result Made BenchFault) → Ended result → OnOk result (IsReplay kind left old new None)
    HasEnded-replayed (Ok made) is = replayed_as left left_after is.stop is.bytes is.read old new None (same_run left left_after is.stop is.bytes is.read (not_failed left left_after is.stop is.bytes is.read is.ends.0)) is.ends.0 is.ends.1
    HasEnded-replayed (Err e) is = tt

    -- it was read to its end, without a fault; this was made of its session, and what it tells was heard
    pub HasEnded-whole : (made : Made) → Ended (Ok made)
        → HasRunWhole kind left (λ b more. ((lines : ℕ) × IsMade lines b made) × HeardGrows heard_old heard more × (length more.remarks ≤ 100000))
    HasEnded-whole made is =
        let s = script left left_after is.stop is.bytes is.read in
        let end = end_of_run is.stop is.bytes is.ends.0 in
        let same = same_run left left_after is.stop is.bytes is.read (not_failed left left_after is.stop is.bytes is.read is.ends.0) in
        let lines : lines_of_read is.stop is.bytes ≡ lines_of s = ap (λ k. lines_of_read k is.bytes) end ∙ ap lines_of (sym (script_whole left left_after is.stop is.bytes is.read end)) in
        let quiet : (outcome_of_script kind s).fault ≡ None = ap (λ (o : Outcome B). o.fault) same ∙ is.ends.0 in (
          s,
          is_input left left_after is.stop is.bytes is.read,
          quiet,
          (
            is.made.0,
            ap (λ (o : Outcome B). o.session) same ∙ is.made.1,
            (
              (length (lines_of_read is.stop is.bytes), is.made.2),
              subst (λ l. HeardGrows heard_old heard (heard_of_lines kind 1 None l)) lines is.heard_as,
              (let few = few_lines kind 1 None (lines_of s) (omega arith) (and_then-quiet (outcome_of_lines kind 1 None (lines_of s)) (λ after. outcome_of_end (length (lines_of s)) after) quiet) in
                  let remarks = remarks_of_lines-length kind 1 None (lines_of s) in
                  omega arith),
            ),
          ),
        )

    -- what follows from what was made of its session holds of what it leaves
    pub HasEnded-leaves : (made : Made) (Holds : (lines : ℕ) → B → Type 0) → ((lines : ℕ) (b : B) → IsMade lines b made → Holds lines b) → Ended (Ok made) → Leaves kind left Holds
    HasEnded-leaves made Holds so is = same_session left left_after is.stop is.bytes is.read Holds is.ends.0 (is.made.0, is.made.1, so (length (lines_of_read is.stop is.bytes)) is.made.0 is.made.2)

    -- no audit ends it
    pub HasEnded-audited : (result : Result Made BenchFault) → Ended result → (verdict : Verdict) → result ≡ Err (fault.Audit verdict) → ⊥
    HasEnded-audited (Ok made) is verdict bad = let f : Ok made ≡ Err (fault.Audit verdict) = bad in cc
    HasEnded-audited (Err e) is verdict same =
        let audit : e ≡ fault.Audit verdict = let f : Err e ≡ Err (fault.Audit verdict) = same in cc in
        elim is.ends [
          | inl early ↦ elim early.0 [ inl memory ↦ (let f : Memory ≡ fault.Audit verdict = sym memory ∙ audit in cc) | inr write ↦ (let f : Write ≡ fault.Audit verdict = sym write ∙ audit in cc) ]
          | inr has ↦ elim (FaultsOnly-outcome_of_read is.stop is.bytes e has.0) [
            | inl own ↦ subst IsFaultOfScript audit own
            | inr read ↦ (let f : Read ≡ fault.Audit verdict = sym read ∙ audit in cc)
          ]
        ]

    pub HasEnded-all_read : (result : Result Made BenchFault) → Ended result → OnOk result (IsAtEnd left_after)
    HasEnded-all_read (Ok made) is = (subst (λ s. StopsAt s is.bytes is.read.past left_after) (end_of_run is.stop is.bytes is.ends.0) is.read.stops).1
    HasEnded-all_read (Err e) is = tt

    pub HasEnded-bad : (result : Result Made BenchFault) → Ended result → IfErr result (λ e. IsFaultOfScript e → IsReplay kind left old new (Some e))
    HasEnded-bad (Ok made) is = tt
    HasEnded-bad (Err e) is = λ own. elim is.ends [
      | inl early ↦ absurd (elim early.0 [ inl memory ↦ subst IsFaultOfScript memory own | inr write ↦ subst IsFaultOfScript write own ])
      | inr has ↦ replayed_as left left_after is.stop is.bytes is.read old new (Some e) (same_fault left left_after is.stop is.bytes is.read e has.0 own) has.0 has.1
    ]

    pub HasEnded-part : (result : Result Made BenchFault) → Ended result → IfErr result (λ e. IsPartOfReplay kind left old new)
    HasEnded-part (Ok made) is = tt
    HasEnded-part (Err e) is = part_of left left_after is.stop is.bytes is.read old new (elim is.ends [ inl early ↦ early.1 | inr has ↦ AppendsPrefix-all old new _ has.1 ])

    pub HasEnded-read : (result : Result Made BenchFault) → Ended result → result ≡ Err Read → HasAnswered kind left left_after old new
    HasEnded-read (Ok made) is bad = absurd (let f : Ok made ≡ Err Read = bad in cc)
    HasEnded-read (Err e) is same =
        let read : e ≡ Read = let f : Err e ≡ Err Read = same in cc in
        elim is.ends [
          | inl early ↦ absurd (elim early.0 [ inl memory ↦ (let f : Memory ≡ Read = sym memory ∙ read in cc) | inr write ↦ (let f : Write ≡ Read = sym write ∙ read in cc) ])
          | inr has ↦ answered left left_after is.stop is.bytes is.read old new (has.0 ∙ ap Some read) has.1
        ]
