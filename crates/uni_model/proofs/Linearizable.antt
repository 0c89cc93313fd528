-- What is observed of a run is linearizable: its history has the linearization points.
use Rattle.uni_model.proofs.Vocabulary.{Act, AreAccepted, Call, Entry, Event, Invoke, Invoked, IsLinearizedAs, Linearize, List, Memory, Name, None, ObservesLinearizable, Option, Pending, Reshape, Respond, Sequential, Some, Step, Trim, WorldOf, [], acts_of, ap, calls_of, drop, history_of, length, log_of_run, map, observed, observed_at, observed_in, opened_world, option_map_or, refl, response_after, responses_of, sym, world_after, ℕ, ◌++◌, ◌∙◌, ◌∷◌, ◌≡◌, ◌≤◌}
use Rattle.uni_model.proofs.Linearized.{IsLinearizable-holds}

module _ {I R : Type 0} where
  observed-append : (xs ys : List (Act I R)) → observed (xs ++ ys) ≡ observed xs ++ observed ys
  observed-append [] ys = refl
  observed-append (Invoke p k i ∷ xs) ys = ap (λ acts. Invoke p k i ∷ acts) (observed-append xs ys)
  observed-append (Linearize c ∷ xs) ys = observed-append xs ys
  observed-append (Respond p k r ∷ xs) ys = ap (λ acts. Respond p k r ∷ acts) (observed-append xs ys)

  observed-points : (cs : List (Invoked I)) → observed {R = R} (map Linearize cs) ≡ []
  observed-points [] = refl
  observed-points (c ∷ cs) = observed-points cs

module _ {S I R : Type 0} (object : Sequential S I R) where
  observed-responses : (m : Memory S I R) (p : ℕ) (mine : Name) (r : Option R) → observed (responses_of m p mine r) ≡ responses_of m p mine r
  observed-responses m p mine None = refl
  observed-responses m p mine (Some r) = by_cell _ where
    by_cell : (o : Option (Invoked I)) → observed {I = I} {R = R} (option_map_or (λ c. Respond p c.nth r ∷ []) o []) ≡ option_map_or (λ c. Respond p c.nth r ∷ []) o []
    by_cell None = refl
    by_cell (Some c) = refl

  abbrev responses_by : WorldOf S I R → ℕ → Option Pending → List (Act I R)
  responses_by w p o = option_map_or (λ call. responses_of w.memory p call.mine (response_after call.mine call.stage w.memory)) o []

  observed-acts_of : (w : WorldOf S I R) (e : Event I) → observed (acts_of object w e) ≡ observed_at w e
  observed-acts_of w (Call p i) = refl
  observed-acts_of w (Step p) =
      observed-append (map Linearize (drop (length (calls_of w)) (calls_of (world_after object w (Step p))))) (responses_by w p (w.call p))
      ∙ ap (λ acts. acts ++ observed (responses_by w p (w.call p))) (observed-points (drop (length (calls_of w)) (calls_of (world_after object w (Step p)))))
      ∙ by_call (w.call p) where
        by_call : (o : Option Pending) → observed (responses_by w p o) ≡ responses_by w p o
        by_call None = refl
        by_call (Some call) = observed-responses w.memory p call.mine (response_after call.mine call.stage w.memory)
  observed-acts_of w Trim = refl
  observed-acts_of w (Reshape n) = refl

  pub observed-history_of : (w : WorldOf S I R) (es : List (Event I)) → observed (history_of object w es) ≡ observed_in object w es
  observed-history_of w [] = refl
  observed-history_of w (e ∷ es) =
      observed-append (acts_of object w e) (history_of object (world_after object w e) es)
      ∙ ap (λ acts. acts ++ observed (history_of object (world_after object w e) es)) (observed-acts_of w e)
      ∙ ap (λ acts. observed_at w e ++ acts) (observed-history_of (world_after object w e) es)

  -- what is observed of a run is linearizable in the order of the joined log
  pub IsLinearizedAs-holds : (n : ℕ) (start : S) (number : ℕ) (events : List (Event I)) → 1 ≤ number → AreAccepted object (opened_world n start number) events
      → IsLinearizedAs object start (observed_in object (opened_world n start number) events) (map (λ (e : Entry I R). e.call) (log_of_run object (opened_world n start number) events))
  IsLinearizedAs-holds n start number events positive ok =
      let shown = IsLinearizable-holds object n start number events positive ok in
      (history_of object (opened_world n start number) events, shown.0, observed-history_of (opened_world n start number) events, shown.2, sym shown.1.agreed)

  pub ObservesLinearizable-holds : (n : ℕ) (start : S) (number : ℕ) (events : List (Event I)) → ObservesLinearizable object n start number events
  ObservesLinearizable-holds n start number events positive ok =
      (map (λ (e : Entry I R). e.call) (log_of_run object (opened_world n start number) events), IsLinearizedAs-holds n start number events positive ok)
