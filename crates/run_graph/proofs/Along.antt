-- The world along a path.
use Rattle.run_graph.proofs.Vocabulary.{Global, List, None, Option, Plan, Sequential, Some, Vec, WorldOf, [], along, ap, arith, drop, get_or, length, moved, plan_of, refl, suc, sym, zero, ℕ, ◌+◌, ◌<◌, ◌∙◌, ◌∷◌, ◌≡◌, ◌≤◌}
use Rattle.std.proofs.lemmas.List.{drop_more}

module _ {S I R : Type 0} (plan : Plan S I R) where
  -- where an event doesn't come, neither do those after it
  pub along-none : (path : List ℕ) → along plan None path ≡ None
  along-none [] = refl
  along-none (p ∷ path) = along-none path

  -- one event more
  pub along-more : (w : WorldOf S I R) (path : List ℕ) (i p : ℕ) → i < length path → p ≡ get_or path i 0
      → along plan (Some w) (drop i path) ≡ along plan (moved plan p w) (drop (i + 1) path)
  along-more w path i p below is =
      ap (along plan (Some w)) (drop_more path i 0 below) ∙ ap (λ q. along plan (moved plan q w) (drop (i + 1) path)) (sym is)

pub drop-past : (xs : List ℕ) (i : ℕ) → length xs ≤ i → drop i xs ≡ []
drop-past [] zero past = refl
drop-past [] (suc i) past = refl
drop-past (x ∷ xs) zero past = absurd (omega arith)
drop-past (x ∷ xs) (suc i) past = drop-past xs i (omega arith)

-- one event more, as it is told of a world over the same object
pub along-taken : {O S I R : Type 0} (sequential : O → Sequential S I R) (object object' : O) (n n' row : ℕ) (calls : List (Vec I Global)) (w : WorldOf S I R) (o end : Option (WorldOf S I R))
    (path : List ℕ) (i : ℕ) → object' ≡ object → i < length path → moved (plan_of (sequential object') n' row calls) (get_or path i 0) w ≡ o
    → along (plan_of (sequential object) n row calls) (Some w) (drop i path) ≡ end → along (plan_of (sequential object) n row calls) o (drop (i + 1) path) ≡ end
along-taken sequential object object' n n' row calls w o end path i objects below told left =
    let p = get_or path i 0 in
    let plan = plan_of (sequential object) n row calls in
    let same : moved plan p w ≡ o = sym (ap (λ x. moved (plan_of (sequential x) n row calls) p w) objects) ∙ told in
    ap (λ z. along plan z (drop (i + 1) path)) (sym same) ∙ sym (along-more plan w path i p below refl) ∙ left
