-- A word that is memory_with is a place that is memory_with.
use Rattle.uni_words.proofs.Vocabulary.{Anchor, Bool, InvOf, IsShared, List, None, Of, Option, Place, Some, ap, cond, content_of, false, get_or-set_other, get_or-set_same, inl, inr, length, memory_of, memory_with, nat_lt, number_cases, option_map_or, place_eq, place_eq_false, place_eq_true, refl, slice_index, slice_set, subst, sym, true, word_at, word_of, words_of, ℕ, ◌<◌, ◌∙◌, ◌≡◌, ◌≢◌}
use Rattle.uni_model.specs.Places.Content.{Invocation}
use Rattle.uni_words.proofs.Columns.{one_place, word_below}

module _ (n row : ℕ) where
  -- the memory at a place is told by the word there
  pub same_word : (begun : ℕ → ℕ) (ws ws' : List ℕ) (x : Place) → word_at n row ws' x ≡ word_at n row ws x → memory_of n row ws' begun x ≡ memory_of n row ws begun x
  same_word begun ws ws' (InvOf Anchor) e = refl
  same_word begun ws ws' (InvOf (Of p k)) e = ap (λ u. Invocation (cond (nat_lt k (begun p)) (Some u) None)) e
  same_word begun ws ws' x e = ap (content_of n x) e

  pub memory_at : (ws : List ℕ) (begun : ℕ → ℕ) (x : Place) → IsShared x → memory_of n row ws begun x ≡ content_of n x (word_at n row ws x)
  memory_at ws begun (InvOf x) h = absurd h
  memory_at ws begun _ h = refl

  module _ (words : List ℕ) (wide : length words ≡ words_of n row) (t : Place) (i : ℕ) (is : word_of n row t ≡ Some i) where
    pub word_here : word_at n row words t ≡ slice_index words i
    word_here = ap (λ o. option_map_or (slice_index words) o 0) is

    inside : i < length words
    inside = subst (λ l. i < l) (sym wide) (word_below n row t i is)

    module _ (v : ℕ) where
      pub set_here : word_at n row (slice_set words i v) t ≡ v
      set_here = ap (λ o. option_map_or (slice_index (slice_set words i v)) o 0) is ∙ get_or-set_same words i v 0 inside

      pub set_elsewhere : (x : Place) → x ≢ t → word_at n row (slice_set words i v) x ≡ word_at n row words x
      set_elsewhere x apart = by_word (word_of n row x) refl where
        by_word : (o : Option ℕ) → word_of n row x ≡ o → option_map_or (slice_index (slice_set words i v)) o 0 ≡ option_map_or (slice_index words) o 0
        by_word None e = refl
        by_word (Some j) e = elim (number_cases j i) [
          | inl here ↦ absurd (apart (one_place n row x t i (e ∙ ap Some here.0) is))
          | inr other ↦ get_or-set_other words i j v 0 other.0
        ]

      -- a step writes one place
      pub words_written : (begun : ℕ → ℕ) → IsShared t → memory_of n row (slice_set words i v) begun ≡ memory_with (memory_of n row words begun) t (content_of n t v)
      words_written begun shared = λ k x. at_place x k where
        at_place : (x : Place) → memory_of n row (slice_set words i v) begun x ≡ memory_with (memory_of n row words begun) t (content_of n t v) x
        at_place x = by_test (place_eq x t) refl where
          by_test : (b : Bool) → place_eq x t ≡ b → memory_of n row (slice_set words i v) begun x ≡ cond b (content_of n t v) (memory_of n row words begun x)
          by_test true e = ap (memory_of n row (slice_set words i v) begun) (place_eq_true x t e) ∙ memory_at (slice_set words i v) begun t shared ∙ ap (content_of n t) set_here
          by_test false e = same_word begun words (slice_set words i v) x (set_elsewhere x (place_eq_false x t e))
