-- The joined log linearizes strongly: it linearizes each run, and only grows.
use Rattle.uni_model.proofs.Vocabulary.{AreAccepted, Entry, Event, Invoke, Invoked, IsPrefixOf, List, Respond, Sequential, Some, [], ap, arith, inl, inr, length, log_of_run, map, observed_in, one_by_one, opened_world, refl, state_after, subst, suc, ℕ, ◌++◌, ◌+◌, ◌∙◌, ◌∷◌, ◌≡◌, ◌≤◌}
use Rattle.std.proofs.Math.Seq.{take-append_seam}
use Rattle.uni_model.specs.StrongLinearizable.{LinearizesStrongly, IsStronglyLinearizable}
use Rattle.uni_model.proofs.Joined.{JoinedLogGrows-holds}
use Rattle.uni_model.proofs.Linearizable.{IsLinearizedAs-holds}
use Rattle.uni_model.proofs.Completion.{completed}

module _ {I R : Type 0} where
  abbrev calls : List (Entry I R) → List (Invoked I)
  calls entries = map (λ (e : Entry I R). e.call) entries

  first_call : (e f : Entry I R) (es fs : List (Entry I R)) → IsPrefixOf (e ∷ es) (f ∷ fs) → f.call ≡ e.call
  first_call e f es fs prefix =
      let at = prefix.entries 0 e refl in
      let is : f ≡ at.0 = (let h : Some f ≡ Some at.0 = at.1 in cc) in
      ap (λ (x : Entry I R). x.call) is ∙ (elim at.2 [ inl same ↦ ap (λ (x : Entry I R). x.call) same | inr gets ↦ gets.1.call ])

  prefix_tail : (e f : Entry I R) (es fs : List (Entry I R)) → IsPrefixOf (e ∷ es) (f ∷ fs) → IsPrefixOf es fs
  prefix_tail e f es fs prefix = record {
    longer = let h : length (e ∷ es) ≤ length (f ∷ fs) = prefix.longer in omega arith;
    entries = λ j x is. let at = prefix.entries (suc j) x is in
        (at.0, at.1, elim at.2 [ inl same ↦ inl same | inr gets ↦ inr ((let h : suc j + 1 ≡ length (e ∷ es) = gets.0 in omega arith), gets.1) ]);
  }

  prefix_calls : (early late : List (Entry I R)) → IsPrefixOf early late → (further : List (Invoked I)) × (calls late ≡ calls early ++ further)
  prefix_calls [] late prefix = (calls late, refl)
  prefix_calls (e ∷ es) [] prefix = absurd (let h : length (e ∷ es) ≤ 0 = prefix.longer in omega arith)
  prefix_calls (e ∷ es) (f ∷ fs) prefix =
      let rest = prefix_calls es fs (prefix_tail e f es fs prefix) in
      (rest.0, ap (λ c. c ∷ calls fs) (first_call e f es fs prefix) ∙ ap (λ cs. e.call ∷ cs) rest.1)

module _ {S I R : Type 0} (object : Sequential S I R) where
  pub one_by_one-append : (s : S) (xs ys : List (Invoked I)) → one_by_one object s (xs ++ ys) ≡ one_by_one object s xs ++ one_by_one object (state_after object s (map (λ c. c.inv) xs)) ys
  one_by_one-append s [] ys = refl
  one_by_one-append s (c ∷ cs) ys = ap (λ acts. Invoke c.process c.nth c.inv ∷ Respond c.process c.nth (object.answer s c.inv) ∷ acts) (one_by_one-append (object.next s c.inv) cs ys)

  module _ (n : ℕ) (start : S) (number : ℕ) (positive : 1 ≤ number) where
    abbrev order : List (Event I) → List (Invoked I)
    order events = calls (log_of_run object (opened_world n start number) events)

    keeps : (events more : List (Event I)) → AreAccepted object (opened_world n start number) (events ++ more) → (further : List (Invoked I)) × (order (events ++ more) ≡ order events ++ further)
    keeps events more ok =
        prefix_calls (log_of_run object (opened_world n start number) events) (log_of_run object (opened_world n start number) (events ++ more))
        (subst (λ es. IsPrefixOf (log_of_run object (opened_world n start number) es) (log_of_run object (opened_world n start number) (events ++ more))) (take-append_seam events more)
        (JoinedLogGrows-holds object n start number (events ++ more) positive ok (length events)))

    strongly : LinearizesStrongly object n start number order
    strongly = record {
      linearizes = λ events ok. (completed object start (observed_in object (opened_world n start number) events) (order events) (IsLinearizedAs-holds object n start number events positive ok)).1;
      keeps_order = keeps;
      keeps_history = λ events more ok. let k = keeps events more ok in (
        one_by_one object (state_after object start (map (λ (c : Invoked I). c.inv) (order events))) k.0,
        ap (one_by_one object start) k.1 ∙ one_by_one-append start (order events) k.0,
      );
    }

  pub IsStronglyLinearizable-holds : (n : ℕ) (start : S) (number : ℕ) → IsStronglyLinearizable object n start number
  IsStronglyLinearizable-holds n start number positive = (order n start number positive, strongly n start number positive)
