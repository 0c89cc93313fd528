-- The log is a legal history of the object.
use Rattle.uni_log.proofs.Vocabulary.{Anchor, Invariant, IsLegal, List, None, Sequential, Some, WorldOf, [], ap, call_shown, entry_shown, era_calls, legal_from, log, logged_call, map, new_of, refl, subst, sym, ◌∙◌, ◌∷◌, ◌≡◌}
use Rattle.uni_log.specs.declared.entry.Entry.{Entry as Shown}

-- the entries of the code are a legal history from the anchor's state
pub legal_log : {S I R : Type 0} (object : Sequential S I R) (w : WorldOf S I R) → Invariant object w → (entries : List (Shown I R)) → map entry_shown entries ≡ log w
    → (state : S) → new_of w.memory Anchor ≡ Some (state, None) → IsLegal object state (map call_shown entries)
legal_log {I = I} {R = R} object w inv entries is state settled =
    subst (IsLegal object state) (ap (map logged_call) (sym is) ∙ each entries)
    (legal_from object w inv.0 inv.1 inv.2 (era_calls w) Anchor _ (state, None) inv.2.numbered.first settled) where
      each : (es : List (Shown I R)) → map logged_call (map entry_shown es) ≡ map call_shown es
      each [] = refl
      each (e ∷ es) = ap (λ cs. call_shown e ∷ cs) (each es)
