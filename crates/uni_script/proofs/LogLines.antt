-- The lines of the log, entry by entry.
use Rattle.uni_script.proofs.Vocabulary.{List, Some, [], ap, append-nil, append_assoc, concat, concat-append, map, map-append, slice_get, sym, take, taken-more, ℕ, ◌++◌, ◌+◌, ◌∙◌, ◌∷◌, ◌≡◌}

module _ {A : Type 0} (line : A → List ℕ) where
  -- the lines of one entry more
  pub lines-one_more : (before now after : List ℕ) (xs : List A) (i : ℕ) (x : A) → slice_get xs i ≡ Some x → now ≡ before ++ concat (map line (take i xs)) → after ≡ now ++ line x
      → after ≡ before ++ concat (map line (take (i + 1) xs))
  lines-one_more before now after xs i x at now_is after_is =
      let lines : concat (map line (take (i + 1) xs)) ≡ concat (map line (take i xs)) ++ line x =
      ap (λ l. concat (map line l)) (taken-more xs i x at) ∙ ap concat (map-append line (take i xs) (x ∷ [])) ∙ concat-append (map line (take i xs)) (line x ∷ [])
      ∙ ap (λ l. concat (map line (take i xs)) ++ l) (append-nil (line x)) in
      after_is ∙ ap (λ l. l ++ line x) now_is ∙ append_assoc before (concat (map line (take i xs))) (line x) ∙ ap (λ l. before ++ l) (sym lines)
