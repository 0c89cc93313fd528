-- Cells by name and by index.
use Rattle.uni_model.proofs.Vocabulary.{Of, ap, arith, refl, suc, sym, zero, ℕ, ◌%◌, ◌*◌, ◌+◌, ◌/◌, ◌<◌, ◌∙◌, ◌≡◌}
use Rattle.std.proofs.lemmas.Nat.{div-mul-add, mod-mul-add, div-add-mod'}
use Rattle.uni_model.specs.Indices.{index_of, name_of, name_from}

pub index_of-name : (n i : ℕ) → index_of n (i % n) (i / n) ≡ suc i
index_of-name n i = let whole : i / n * n + i % n ≡ i = div-add-mod' i n in omega arith

-- in an era before which each process has begun so many calls
module _ (n : ℕ) (first : ℕ → ℕ) where
  pub name_from-index_of : (p k : ℕ) → p < n → name_from n first (index_of n p k) ≡ Of p (first p + k)
  name_from-index_of p k below =
      let same : index_of n p k ≡ suc (k * n + p) = omega arith in
      rw same (rw (mod-mul-add k n p below, div-mul-add k n p below) refl)

  -- two indices of one name are one
  pub same_index_from : (i j : ℕ) → name_from n first i ≡ name_from n first j → i ≡ j
  same_index_from zero zero e = refl
  same_index_from zero (suc j) e = cc
  same_index_from (suc i) zero e = cc
  same_index_from (suc i) (suc j) e =
      let process : i % n ≡ j % n = cc in
      let nth : first (i % n) + i / n ≡ first (j % n) + j / n = cc in
      let begun : first (i % n) ≡ first (j % n) = ap first process in
      let same : i / n ≡ j / n = omega arith in
      sym (index_of-name n i) ∙ ap (λ p. index_of n p (i / n)) process ∙ ap (index_of n (j % n)) same ∙ index_of-name n j

-- in the first era
name_from-first : (n i : ℕ) → name_from n (λ p. 0) i ≡ name_of n i
name_from-first n zero = refl
name_from-first n (suc i) = ap (Of (i % n)) (omega arith)

pub name_of-index_of : (n p k : ℕ) → p < n → name_of n (index_of n p k) ≡ Of p k
name_of-index_of n p k below = sym (name_from-first n (index_of n p k)) ∙ name_from-index_of n (λ q. 0) p k below ∙ ap (Of p) (omega arith)

pub same_index : (n i j : ℕ) → name_of n i ≡ name_of n j → i ≡ j
same_index n i j e = same_index_from n (λ p. 0) i j (name_from-first n i ∙ e ∙ sym (name_from-first n j))
