-- The acts of a process in a history.
use Rattle.uni_any.proofs.Vocabulary.{Act, Invoke, Invoked, Linearize, List, Respond, Returned, [], acts_by, ap, append-nil, arith, inl, inr, length, map, number_cases, plain, refl, sequential_acts, suc, sym, ℕ, ◌++◌, ◌+◌, ◌∙◌, ◌∷◌, ◌≡◌, ◌≢◌}

pub acts_by-append : {I R : Type 0} (p : ℕ) (xs ys : List (Act I R)) → acts_by p (xs ++ ys) ≡ acts_by p xs ++ acts_by p ys
acts_by-append p [] ys = refl
acts_by-append p (Linearize c ∷ xs) ys = acts_by-append p xs ys
acts_by-append p (Invoke q k i ∷ xs) ys = elim (number_cases q p) [
  | inl same ↦ rw same.1 (ap (λ l. Invoke q k i ∷ l) (acts_by-append p xs ys))
  | inr other ↦ rw other.1 (acts_by-append p xs ys)
]
acts_by-append p (Respond q k r ∷ xs) ys = elim (number_cases q p) [
  | inl same ↦ rw same.1 (ap (λ l. Respond q k r ∷ l) (acts_by-append p xs ys))
  | inr other ↦ rw other.1 (acts_by-append p xs ys)
]

-- what takes effect is nobody's act
pub acts_by-linearized : {I R : Type 0} (p : ℕ) (cs : List (Invoked I)) (ys : List (Act I R)) → acts_by p (map (λ c. Linearize c) cs ++ ys) ≡ acts_by p ys
acts_by-linearized p [] ys = refl
acts_by-linearized p (c ∷ cs) ys = acts_by-linearized p cs ys

-- what another process does is no act of this one
pub invoked_other : {I R : Type 0} (q p k : ℕ) (i : I) (acts : List (Act I R)) → q ≢ p → acts_by q (acts ++ Invoke p k i ∷ []) ≡ acts_by q acts
invoked_other q p k i acts apart = acts_by-append q acts (Invoke p k i ∷ []) ∙ ap (λ l. acts_by q acts ++ l) (elim (number_cases p q) [
  | inl same ↦ absurd (apart (sym same.0))
  | inr other ↦ rw other.1 refl
]) ∙ append-nil (acts_by q acts)

pub responded_other : {I R : Type 0} (q p k : ℕ) (r : R) (acts : List (Act I R)) → q ≢ p → acts_by q (acts ++ Respond p k r ∷ []) ≡ acts_by q acts
responded_other q p k r acts apart = acts_by-append q acts (Respond p k r ∷ []) ∙ ap (λ l. acts_by q acts ++ l) (elim (number_cases p q) [
  | inl same ↦ absurd (apart (sym same.0))
  | inr other ↦ rw other.1 refl
]) ∙ append-nil (acts_by q acts)

pub invoked_own : {I R : Type 0} (p k : ℕ) (i : I) (acts : List (Act I R)) → acts_by p (acts ++ Invoke p k i ∷ []) ≡ acts_by p acts ++ Invoke p k i ∷ []
invoked_own p k i acts = acts_by-append p acts (Invoke p k i ∷ []) ∙ ap (λ l. acts_by p acts ++ l) (elim (number_cases p p) [
  | inl same ↦ rw same.1 refl
  | inr other ↦ absurd (other.0 refl)
])

pub responded_own : {I R : Type 0} (p k : ℕ) (r : R) (acts : List (Act I R)) → acts_by p (acts ++ Respond p k r ∷ []) ≡ acts_by p acts ++ Respond p k r ∷ []
responded_own p k r acts = acts_by-append p acts (Respond p k r ∷ []) ∙ ap (λ l. acts_by p acts ++ l) (elim (number_cases p p) [
  | inl same ↦ rw same.1 refl
  | inr other ↦ absurd (other.0 refl)
])

-- one call more
pub sequential_acts-snoc : {I R : Type 0} (p k : ℕ) (xs : List (Returned I R)) (c : Returned I R)
    → sequential_acts p k (map plain (xs ++ c ∷ [])) ≡ sequential_acts p k (map plain xs) ++ Invoke p (length xs + k) c.inv ∷ Respond p (length xs + k) c.reply ∷ []
sequential_acts-snoc p k [] c = (let e : k ≡ 0 + k = omega arith in ap (λ j. Invoke p j c.inv ∷ Respond p j c.reply ∷ []) e)
sequential_acts-snoc p k (x ∷ xs) c =
    let e : length xs + (k + 1) ≡ suc (length xs) + k = omega arith in
    ap (λ l. Invoke p k x.inv ∷ Respond p k x.reply ∷ l) (sequential_acts-snoc p (k + 1) xs c
    ∙ ap (λ j. sequential_acts p (k + 1) (map plain xs) ++ Invoke p j c.inv ∷ Respond p j c.reply ∷ []) e)
