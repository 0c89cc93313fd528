-- What a process can do after one thing more.
use Rattle.std.proofs.Common.{Err, Ok, Result, ◌≡◌, ◌∷◌, ◌∙◌, ℕ, List, Option, None, Some, ap, refl, subst, sym}
use Rattle.std.specs.Prelude.{IfErr, IfNone, IfOk, IsSomeAnd, OnOk, option_and_then}
use Rattle.judged_objects.specs.Wording.{Wording}
use Rattle.history_text.specs.Own.{RefusesFirst, tolds_of}
use Rattle.history_text.specs.Refused.{IsRefusal}
use Rattle.history_text.specs.declared.fault.ReadError.{ReadError}
use Rattle.history_text.specs.declared.fault.ReadError.TheVariants.{Refused, Memory}
use Rattle.history_text.specs.declared.history.Told.{Told}
use Rattle.history_text.specs.declared.turns.Turn.{Turn}
use Rattle.history_text.specs.Turns.{AreInTurn, IsReadable, turn_in, turn_of}
use Rattle.history_text.proofs.Telling.{none_bad}

-- what holds where there is nothing, and there is nothing
pub if_none : {A : Type 0} (o : Option A) (P : Type 0) → IfNone o P → ((x : A) → o ≡ Some x → ⊥) → P
if_none None P has none = has
if_none (Some x) P has none = absurd (none x refl)

-- what it can do is done
pub goes_on : {I R : Type 0} (p : ℕ) (turn after : Turn) (told : Told I R) (rest : List (Told I R)) → turn_of p turn told ≡ Some after → turn_in p turn (told ∷ rest) ≡ turn_in p after rest
goes_on p turn after told rest goes = ap (λ t. option_and_then (λ after. turn_in p after rest) t) goes

-- what a result says, where it says what another fact asks
pub ok_then : {T E : Type 0} (r : Result T E) (Q : Type 0) {P : T → Type 0} → OnOk r Q → ((x : T) → Q → P x) → IfOk r P
ok_then (Ok x) Q so then = then x so
ok_then (Err e) Q so then = tt

pub err_then : {T E : Type 0} (r : Result T E) {Q P : E → Type 0} → IfErr r Q → ((e : E) → Q e → P e) → IfErr r P
err_then (Ok x) so then = tt
err_then (Err e) so then = then e so

-- lines that tell something, in turn, can be read
pub readable : {I R : Type 0} (wording : Wording I R) (lines : List (List ℕ)) (tolds : List (Told I R)) → tolds_of wording lines ≡ Some tolds
    → AreInTurn tolds → IsReadable wording lines
readable wording lines tolds is in_turn = subst (λ o. IsSomeAnd o AreInTurn) (sym is) in_turn

-- what lines that can be read tell is in turn
pub in_turn_of : {I R : Type 0} (wording : Wording I R) (lines : List (List ℕ)) (tolds : List (Told I R)) → tolds_of wording lines ≡ Some tolds
    → IsReadable wording lines → AreInTurn tolds
in_turn_of wording lines tolds is readable = subst (λ o. IsSomeAnd o AreInTurn) is readable

some_of : {A : Type 0} (o : Option A) (P : A → Type 0) → IsSomeAnd o P → (x : A) × (o ≡ Some x)
some_of None P has = absurd has
some_of (Some x) P has = (x, refl)

-- nor can lines be read of which the first that tells nothing is refused
pub unreadable_first : {I R : Type 0} (wording : Wording I R) (lines : List (List ℕ)) (error : ReadError) → RefusesFirst wording lines error
    → IsRefusal error → ¬ (IsReadable wording lines)
unreadable_first wording lines (Refused fault) first refusal readable =
    let tolds = some_of (tolds_of wording lines) AreInTurn readable in
    let bad : None ≡ Some fault.line = sym (none_bad wording 1 lines tolds.0 tolds.1) ∙ first in cc
unreadable_first wording lines Memory first refusal readable = refusal
