-- Indices of cells, and who made them.
use Rattle.cell_arena.proofs.Vocabulary.{ap, arith, div-add-mod', div-mul-add, index_of, mod-mul-add, nth_of, owner_of, ℕ, ◌%◌, ◌*◌, ◌+◌, ◌-◌, ◌/◌, ◌<◌, ◌∙◌, ◌≡◌}

module _ (n : ℕ) where
  pub owner_of-index_of : (p nth : ℕ) → p < n → owner_of n (index_of n p nth) ≡ p
  owner_of-index_of p nth within =
      let before : index_of n p nth - 1 ≡ nth * n + p = omega arith in
      ap (λ k. k % n) before ∙ mod-mul-add nth n p within

  pub nth_of-index_of : (p nth : ℕ) → p < n → nth_of n (index_of n p nth) ≡ nth
  nth_of-index_of p nth within =
      let before : index_of n p nth - 1 ≡ nth * n + p = omega arith in
      ap (λ k. k / n) before ∙ div-mul-add nth n p within

  -- an index is that of its owner and number
  pub index_of-owner_of : (index : ℕ) → 0 < index → index_of n (owner_of n index) (nth_of n index) ≡ index
  index_of-owner_of index made = omega (arith, div-add-mod' (index - 1) n)
