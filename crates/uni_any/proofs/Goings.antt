-- A seat that writes for one process after the other.
use Rattle.uni_any.proofs.Vocabulary.{Idle, Image, IsLaying, IsPosting, Posting, Sequential, Stage, View, Writing, ap, arith, block_news, call_news, goes, inl, inr, local_of, made_by, stage_of, subst, sym, ℕ, ◌+◌, ◌∙◌, ◌≡◌, ◌≤◌, ◌⊎◌}

-- it has written for so many, or for none
abbrev pub HasGone : {O I S R : Type 0} → View O I S R → (ℕ → Stage I S R) → ℕ → View O I S R → Type 0
HasGone v stage r w = ((r ≡ 0) × (w ≡ v)) ⊎ (w ≡ goes v (stage r))

module _ {O I S R : Type 0} (v w : View O I S R) (stage : ℕ → Stage I S R) (r : ℕ) (was : HasGone v stage r w) where
  -- all but its stage is as it was
  pub gone_made : made_by (local_of w) ≡ made_by (local_of v)
  gone_made = elim was [ inl none ↦ ap (λ (z : View O I S R). made_by (local_of z)) none.1 | inr some ↦ ap (λ (z : View O I S R). made_by (local_of z)) some ]

  pub gone_stage : ((r ≡ 0) × (stage_of w ≡ stage_of v)) ⊎ (stage_of w ≡ stage r)
  gone_stage = elim was [ inl none ↦ inl (none.0, ap (λ (z : View O I S R). stage_of z) none.1) | inr some ↦ inr (ap (λ (z : View O I S R). stage_of z) some) ]

  pub gone_on : (u : View O I S R) → u ≡ goes w (stage (r + 1)) → HasGone v stage (r + 1) u
  gone_on u next = inr (elim was [ inl none ↦ next ∙ ap (λ (z : View O I S R). goes z (stage (r + 1))) none.1 | inr some ↦ next ∙ ap (λ (z : View O I S R). goes z (stage (r + 1))) some ])

  pub gone_call : (inv : I) → call_news (local_of w) inv ≡ call_news (local_of v) inv
  gone_call inv = elim was [ inl none ↦ ap (λ (z : View O I S R). call_news (local_of z) inv) none.1 | inr some ↦ ap (λ (z : View O I S R). call_news (local_of z) inv) some ]

  pub gone_block : (inv : I) (image : Image S R) → block_news (local_of w) inv image ≡ block_news (local_of v) inv image
  gone_block inv image = elim was [ inl none ↦ ap (λ (z : View O I S R). block_news (local_of z) inv image) none.1 | inr some ↦ ap (λ (z : View O I S R). block_news (local_of z) inv image) some ]

pub gone_posting : {O I S R : Type 0} (v w : View O I S R) (inv : I) (r : ℕ) → stage_of v ≡ Idle → HasGone v (Posting inv) r w → IsPosting inv r w
gone_posting v w inv r idle was = elim (gone_stage v w (Posting inv) r was) [ inl none ↦ inl (none.0, none.1 ∙ idle) | inr some ↦ inr some ]

pub gone_laying : {O I S R : Type 0} (meaning : O → Sequential S I R) (v w : View O I S R) (inv : I) (tries : ℕ) (image : Image S R) (r : ℕ) → IsLaying meaning inv tries image 0 v → HasGone v (Writing inv tries image) r w → IsLaying meaning inv tries image r w
gone_laying {O} {I} {S} {R} meaning v w inv tries image r laying was = elim was [
  | inl none ↦ subst (λ (z : View O I S R). IsLaying meaning inv tries image r z) (sym none.1) (subst (λ k. IsLaying meaning inv tries image k v) (sym none.0) laying)
  | inr some ↦ inr (ap (λ (z : View O I S R). stage_of z) some)
]

pub gone_whole : {O I S R : Type 0} (v w : View O I S R) (stage : ℕ → Stage I S R) (r : ℕ) → HasGone v stage r w → 1 ≤ r → w ≡ goes v (stage r)
gone_whole v w stage r was some = elim was [ inl none ↦ absurd (let z = none.0 in omega (arith, some)) | inr gone ↦ gone ]
