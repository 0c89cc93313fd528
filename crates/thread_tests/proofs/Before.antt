-- The call that was asked about stands before those that are made then.
use Rattle.std.proofs.Common.{All, ◌≡◌, ℕ, ◌<◌, ◌≤◌, sym, subst, arith, List, [], ◌∷◌, ◌++◌, length, Contains}
use Rattle.std.proofs.lemmas.List.Elements.{All-contains, Contains-append_right}
use Rattle.seq_object.specs.declared.call_id.CallId.{CallId}
use Rattle.uni_model.specs.Chain.{Entry}
use Rattle.uni_model.specs.Eras.{StandsAt}
use Rattle.uni_model.specs.ProcessCalls.{ProcessCalls}
use Rattle.uni_words.specs.Log.{IsInOrder}
use Rattle.uni_words.specs.View.{Seen, seen_of, up_to}
use Rattle.uni_words.proofs.Views.{first_there}

pub stands_before : (log : List (Entry ℕ ℕ)) (call : CallId) (made : ProcessCalls ℕ ℕ) (old seen : List Seen) → seen ≡ old ++ seen_of made (up_to call ∷ []) → All (IsInOrder log) seen
    → (j place : ℕ) → length made.calls ≤ j → StandsAt log made.process j place → (before : ℕ) × (before < place) × StandsAt log call.process call.nth before
stands_before log call made old seen is all j place later stands = All-contains (IsInOrder log) seen (record { earlier = up_to call; made = made }) all
    (subst (λ l. Contains l (record { earlier = up_to call; made = made })) (sym is) (Contains-append_right old (seen_of made (up_to call ∷ [])) (record { earlier = up_to call; made = made }) (first_there (record { earlier = up_to call; made = made }) []))) call.nth j place (omega arith) later stands
