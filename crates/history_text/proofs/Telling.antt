-- What lines tell, one after another.
use Rattle.std.proofs.Common.{Err, Ok, Result, ◌≡◌, ◌++◌, ◌∷◌, ◌∙◌, ◌+◌, ◌<◌, [], ℕ, List, Option, Some, None, ap, append_assoc, drop, length, refl, sym}
use Rattle.std.proofs.Math.ListN.{get_or}
use Rattle.std.proofs.lemmas.List.{at_drop_more}
use Rattle.std.specs.Borrow.{Bor}
use Rattle.std.specs.Prelude.{IfErr, if◌then◌else◌, is_some, option_and_then, option_map}
use Rattle.lin_check.specs.declared.event.Event.TheVariants.{Call, Return}
use Rattle.ready_objects.specs.Words.{bytes_of}
use Rattle.judged_objects.specs.Wording.{Wording}
use Rattle.history_text.specs.Told.{events_of}
use Rattle.history_text.specs.Own.{AddsLine, NamesFirstBad, RefusesFirst, first_bad, line_tells, tolds_of}
use Rattle.history_text.specs.declared.fault.ReadError.{ReadError}
use Rattle.history_text.specs.declared.fault.ReadError.TheVariants.{Refused, Memory}
use Rattle.history_text.specs.declared.history.Told.{Told}
use Rattle.history_text.specs.declared.history.Told.TheVariants.{Begins, Ends, Ceases}

-- what holds of each error holds of a result's
pub err_from : {A E : Type 0} (r : Result A E) (P : E → Type 0) → ((e : E) → P e) → IfErr r P
err_from (Ok a) P each = tt
err_from (Err e) P each = each e

-- more is told, and then the rest
told_next : {T : Type 0} (before more : List T) (rest : Option (List T))
    → option_map (λ ts. before ++ ts) (option_map (λ ts. more ++ ts) rest) ≡ option_map (λ ts. (before ++ more) ++ ts) rest
told_next before more None = refl
told_next before more (Some ts) = ap Some (sym (append_assoc before more ts))

-- the events of what is told first come first
pub events-append : {I R : Type 0} (xs ys : List (Told I R)) → events_of (xs ++ ys) ≡ events_of xs ++ events_of ys
events-append [] ys = refl
events-append (Begins p i ∷ xs) ys = ap (λ es. Call p i ∷ es) (events-append xs ys)
events-append (Ends p r ∷ xs) ys = ap (λ es. Return p r ∷ es) (events-append xs ys)
events-append (Ceases p ∷ xs) ys = events-append xs ys

-- what line i tells, and what is left to be told from a line on
module _ {I R : Type 0} (wording : Wording I R) (lines : List (Bor (List ℕ))) (i : ℕ) (d : Bor (List ℕ)) (within : i < length lines) where
  abbrev line : List ℕ
  line = (get_or lines i d).now

  abbrev left : ℕ → List (List ℕ)
  left place = bytes_of (drop place lines)

  -- what was told, and what is left to be told, one line later
  pub line_added : (old new : List (Told I R)) → AddsLine wording line old new
      → option_map (λ ts. new ++ ts) (tolds_of wording (left (i + 1))) ≡ option_map (λ ts. old ++ ts) (tolds_of wording (left i))
  line_added old new adds =
      let rest = tolds_of wording (left (i + 1)) in
      ap (λ news. option_map (λ ts. news ++ ts) rest) adds.added
      ∙ sym (told_next old adds.more rest)
      ∙ sym (ap (λ told. option_map (λ ts. old ++ ts) (option_and_then (λ told. option_map (λ tolds. told ++ tolds) rest) told)) adds.tells)
      ∙ sym (at_drop_more (λ ls. option_map (λ ts. old ++ ts) (tolds_of wording (bytes_of ls))) lines i d within)

  -- a line that tells something is passed
  pub line_passed : (n : ℕ) (old new : List (Told I R)) → AddsLine wording line old new
      → first_bad wording (n + 1) (left (i + 1)) ≡ first_bad wording n (left i)
  line_passed n old new adds =
      sym (ap (λ told. if is_some told then first_bad wording (n + 1) (left (i + 1)) else Some n) adds.tells)
      ∙ sym (at_drop_more (λ ls. first_bad wording n (bytes_of ls)) lines i d within)

module _ {I R : Type 0} (wording : Wording I R) where
  -- where lines are read, none is bad
  pub none_bad : (n : ℕ) (lines : List (List ℕ)) (tolds : List (Told I R)) → tolds_of wording lines ≡ Some tolds → first_bad wording n lines ≡ None
  none_bad n [] tolds e = refl
  none_bad n (line ∷ lines) tolds e = step (line_tells wording line) (tolds_of wording lines) (λ ts r. none_bad (n + 1) lines ts r) e where
    step : (told rest : Option (List (Told I R))) → ((ts : List (Told I R)) → rest ≡ Some ts → first_bad wording (n + 1) lines ≡ None)
        → option_and_then (λ told. option_map (λ tolds. told ++ tolds) rest) told ≡ Some tolds
        → (if is_some told then first_bad wording (n + 1) lines else Some n) ≡ None
    step None rest so e = cc
    step (Some told) None so e = cc
    step (Some told) (Some ts) so e = so ts refl

  -- the first bad line is named
  pub names_first : (lines : List (List ℕ)) (error : ReadError) → RefusesFirst wording lines error → NamesFirstBad wording lines error
  names_first lines (Refused fault) first = λ number e. let is : Some fault.line ≡ Some number = sym first ∙ e in cc
  names_first lines Memory first = tt

  -- where none is bad, any may be named
  pub names_none : (lines : List (List ℕ)) (error : ReadError) → first_bad wording 1 lines ≡ None → NamesFirstBad wording lines error
  names_none lines (Refused fault) none = λ number e. let is : None ≡ Some number = sym none ∙ e in cc
  names_none lines Memory none = tt
