-- The cells of names, by their indices.
use Rattle.uni_core.proofs.Vocabulary.{Anchor, CellRecord, ChangesOnly, Name, Of, Option, ap, arith, cell_named, index_of, index_of-name, inl, inr, lt_cases, mod_below, name_from, name_from-index_of, number_cases, refl, same_index_from, suc, sym, zero, ℕ, ◌%◌, ◌+◌, ◌-◌, ◌/◌, ◌<◌, ◌∙◌, ◌≡◌, ◌≢◌, ◌≤◌, ◌⊎◌}

module _ {S I R : Type 0} (n : ℕ) (first : ℕ → ℕ) (positive : 1 ≤ n) (cell : ℕ → Option (CellRecord S I R)) where
  pub cell_named-name_from : (i : ℕ) → cell_named n first cell (name_from n first i) ≡ cell i
  cell_named-name_from zero = refl
  cell_named-name_from (suc i) = elim (lt_cases (i % n) n) [
    | inl below ↦ elim (lt_cases (first (i % n)) (first (i % n) + i / n + 1)) [
      | inl since ↦
          let nth : first (i % n) + i / n - first (i % n) ≡ i / n = omega arith in
          rw (below.1, since.1) (ap cell (ap (index_of n (i % n)) nth ∙ index_of-name n i))
      | inr before ↦ absurd (let high = before.0 in omega arith)
    ]
    | inr past ↦ absurd (let below : i % n < n = mod_below i n positive in let high = past.0 in omega arith)
  ]

  module _ (cell' : ℕ → Option (CellRecord S I R)) (id : ℕ) (v : Option (CellRecord S I R)) (changes : ChangesOnly cell cell' id v) where
    -- the cell at an index that is the one that changes, or isn't
    changed_at : (i : ℕ) → ((i ≡ id) × (cell' i ≡ v)) ⊎ ((i ≢ id) × (cell' i ≡ cell i))
    changed_at i = elim (number_cases i id) [
      | inl h ↦ inl (h.0, changes i ∙ rw h.1 refl)
      | inr h ↦ inr (h.0, changes i ∙ rw h.1 refl)
    ]

    not_past : (p k i : ℕ) → n ≤ p → Of p k ≢ name_from n first i
    not_past p k zero high e = cc
    not_past p k (suc i) high e =
        let process : p ≡ i % n = cc in
        let below : i % n < n = mod_below i n positive in
        omega arith

    not_before : (p k i : ℕ) → k < first p → Of p k ≢ name_from n first i
    not_before p k zero low e = cc
    not_before p k (suc i) low e =
        let process : p ≡ i % n = cc in
        let nth : k ≡ first (i % n) + i / n = cc in
        let begun : first p ≡ first (i % n) = ap first process in
        omega arith

    -- the cell of a name that is the one that changes, or isn't
    pub changed_named : (x : Name) → ((x ≡ name_from n first id) × (cell_named n first cell' x ≡ v)) ⊎ ((x ≢ name_from n first id) × (cell_named n first cell' x ≡ cell_named n first cell x))
    changed_named Anchor = elim (changed_at 0) [
      | inl h ↦ inl (ap (name_from n first) h.0, h.1)
      | inr h ↦ inr ((λ e. h.0 (same_index_from n first 0 id e)), h.1)
    ]
    changed_named (Of p k) = elim (lt_cases p n) [
      | inl below ↦ elim (lt_cases (first p) (k + 1)) [
        | inl since ↦
            let low : first p < k + 1 = since.0 in
            let nth : first p + (k - first p) ≡ k = omega arith in
            let name : name_from n first (index_of n p (k - first p)) ≡ Of p k = name_from-index_of n first p (k - first p) below.0 ∙ ap (Of p) nth in
            rw (below.1, since.1) (elim (changed_at (index_of n p (k - first p))) [
              | inl h ↦ inl (sym name ∙ ap (name_from n first) h.0, h.1)
              | inr h ↦ inr ((λ e. h.0 (same_index_from n first _ id (name ∙ e))), h.1)
            ])
        | inr before ↦ rw (below.1, before.1) (inr (not_before p k id (let high = before.0 in omega arith), refl))
      ]
      | inr past ↦ rw past.1 (inr (not_past p k id past.0, refl))
    ]
