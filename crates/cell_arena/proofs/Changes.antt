-- What one row that changes does to the cells of rows.
use Rattle.cell_arena.proofs.Vocabulary.{CellRecord, ChangesOnly, IsSome, List, Option, Rows, Some, [], ap, arith, cases_eq, cell_at, cells_of, cond-false, cond-true, eq-eqb, get_or-set_other, get_or-set_same, if◌then◌else◌, index_of, inl, inr, is_some, length, length-set, ne_eqb, nth_of, option_map, owner_of, refl, rows_of, slice_get, slice_set, sym, with_cell, ℕ, ◌++◌, ◌<◌, ◌==◌, ◌↔◌, ◌∙◌, ◌∷◌, ◌≡◌, ◌≢◌, ◌⊎◌}
use Rattle.cell_arena.proofs.Places.{owner_of-index_of, nth_of-index_of, index_of-owner_of}
use Rattle.cell_arena.proofs.Lists.{slice_get-set_same, slice_get-set_other, slice_get-append_same, slice_get-append_other, slice_get-within, slice_get-there, slice_index_or-within}

-- what an `if` on equal numbers is
pub at_same : {A : Type 0} (i j : ℕ) (x y : A) → i ≡ j → (if i == j then x else y) ≡ x
at_same i j x y same = cond-true (i == j) x y (eq-eqb i j same)

pub at_other : {A : Type 0} (i j : ℕ) (x y : A) → i ≢ j → (if i == j then x else y) ≡ y
at_other i j x y other = cond-false (i == j) x y (ne_eqb i j other)

module _ {S I R : Type 0} where
  -- rows with a row changed
  abbrev pub with_row : Rows S I R → ℕ → List (CellRecord S I R) → Rows S I R
  with_row a p cells = record a { rows = slice_set a.rows p cells }

  pub rows_of-with_row : (a : Rows S I R) (p : ℕ) (cells : List (CellRecord S I R)) → rows_of (with_row a p cells) ≡ rows_of a
  rows_of-with_row a p cells = simp length-set

  -- the cell at an index other than the anchor's
  cell_at-made : (a : Rows S I R) (i : ℕ) → i ≢ 0 → cell_at a i ≡ slice_get (cells_of a (owner_of (rows_of a) i)) (nth_of (rows_of a) i)
  cell_at-made a i made = at_other i 0 _ _ made

  cell_at-index_of : (a : Rows S I R) (p nth : ℕ) → p < rows_of a → cell_at a (index_of (rows_of a) p nth) ≡ slice_get (cells_of a p) nth
  cell_at-index_of a p nth within =
      let made : index_of (rows_of a) p nth ≢ 0 = omega arith in
      cell_at-made a _ made
      ∙ ap (λ q. slice_get (cells_of a q) (nth_of (rows_of a) (index_of (rows_of a) p nth))) (owner_of-index_of (rows_of a) p nth within)
      ∙ ap (λ k. slice_get (cells_of a p) k) (nth_of-index_of (rows_of a) p nth within)

  -- the cell at an index of an arena with a row changed
  cell_at-with_row : (a : Rows S I R) (p : ℕ) (cells : List (CellRecord S I R)) (i : ℕ) → i ≢ 0
      → cell_at (with_row a p cells) i ≡ slice_get (cells_of (with_row a p cells) (owner_of (rows_of a) i)) (nth_of (rows_of a) i)
  cell_at-with_row a p cells i made =
      cell_at-made (with_row a p cells) i made
      ∙ ap (λ n. slice_get (cells_of (with_row a p cells) (owner_of n i)) (nth_of n i)) (rows_of-with_row a p cells)

  -- a change at one place of a row is one at one index of the arena
  ChangesOnly-with_row : (a : Rows S I R) (p k : ℕ) (cells : List (CellRecord S I R)) (value : Option (CellRecord S I R)) → p < rows_of a
      → ChangesOnly (slice_get (cells_of a p)) (slice_get cells) k value
      → ChangesOnly (cell_at a) (cell_at (with_row a p cells)) (index_of (rows_of a) p k) value
  ChangesOnly-with_row a p k cells value within changes i =
      let n = rows_of a in
      let here = index_of n p k in
      elim (cases_eq i 0) [
        | inl anchor ↦ rw anchor (sym (at_other 0 here value (cell_at a 0) (omega arith)))
        | inr made ↦ elim (cases_eq (owner_of n i) p) [
          | inl own ↦
              cell_at-with_row a p cells i made
              ∙ ap (λ q. slice_get (cells_of (with_row a p cells) q) (nth_of n i)) own
              ∙ ap (λ row. slice_get row (nth_of n i)) (get_or-set_same a.rows p cells [] within)
              ∙ changes (nth_of n i)
              ∙ elim (cases_eq (nth_of n i) k) [
                | inl same ↦
                    at_same (nth_of n i) k value _ same
                    ∙ sym (at_same i here value (cell_at a i) (sym (index_of-owner_of n i (omega arith)) ∙ ap (λ q. index_of n q (nth_of n i)) own ∙ ap (λ j. index_of n p j) same))
                | inr other ↦
                    at_other (nth_of n i) k value _ other
                    ∙ ap (λ q. slice_get (cells_of a q) (nth_of n i)) (sym own)
                    ∙ sym (cell_at-made a i made)
                    ∙ sym (at_other i here value (cell_at a i) (λ same. other (ap (λ j. nth_of n j) same ∙ nth_of-index_of n p k within)))
              ]
          | inr other ↦
              cell_at-with_row a p cells i made
              ∙ ap (λ row. slice_get row (nth_of n i)) (get_or-set_other a.rows p (owner_of n i) cells [] other)
              ∙ sym (cell_at-made a i made)
              ∙ sym (at_other i here value (cell_at a i) (λ same. other (ap (λ j. owner_of n j) same ∙ owner_of-index_of n p k within)))
        ]
      ]

  -- a cell that changes is the only one
  ChangesOnly-with_cell : (a : Rows S I R) (i : ℕ) (c : CellRecord S I R) → IsSome (cell_at a i)
      → ChangesOnly (cell_at a) (cell_at (with_cell a i c)) i (Some c)
  ChangesOnly-with_cell a i c there =
      let n = rows_of a in
      let p = owner_of n i in
      let k = nth_of n i in
      elim (cases_eq i 0) [
        | inl anchor ↦ rw anchor (λ j. elim (cases_eq j 0) [
          | inl same ↦ rw same refl
          | inr other ↦ at_other j 0 _ _ other ∙ sym (at_other j 0 (Some c) (cell_at a j) other ∙ at_other j 0 _ _ other)
        ])
        | inr made ↦
            let in_row : k < length (cells_of a p) = slice_get-within (cells_of a p) k (rw (cell_at-made a i made) at there) in
            let row = slice_set (cells_of a p) k c in
            let changes : ChangesOnly (slice_get (cells_of a p)) (slice_get row) k (Some c) = λ j. elim (cases_eq j k) [
              | inl same ↦ rw same (slice_get-set_same (cells_of a p) k c in_row ∙ sym (at_same k k _ _ refl))
              | inr other ↦ slice_get-set_other (cells_of a p) k j c other ∙ sym (at_other j k _ _ other)
            ] in
            let in_arena : p < n = slice_index_or-within a.rows p k in_row in
            let place : index_of n p k ≡ i = index_of-owner_of n i (omega arith) in
            let whole : with_cell a i c ≡ with_row a p row = at_other i 0 _ _ made in
            λ j.
            ap (λ b. cell_at b j) whole
            ∙ ChangesOnly-with_row a p k row (Some c) in_arena changes j
            ∙ ap (λ q. if j == q then Some c else cell_at a j) place
      ]

  -- so is one that is changed by a function
  pub ChangesOnly-by : (f : CellRecord S I R → CellRecord S I R) (a : Rows S I R) (i : ℕ) (c d : CellRecord S I R)
      → cell_at a i ≡ Some c → d ≡ f c → ChangesOnly (cell_at a) (cell_at (with_cell a i d)) i (option_map f (cell_at a i))
  ChangesOnly-by f a i c d was is j =
      ChangesOnly-with_cell a i d (ap (λ o. is_some o) was) j
      ∙ ap (λ v. if j == i then v else cell_at a j) (ap Some is ∙ sym (ap (option_map f) was))

  -- a cell that is added is the only one that changes
  pub ChangesOnly-added : (a : Rows S I R) (p : ℕ) (c : CellRecord S I R) → p < rows_of a
      → ChangesOnly (cell_at a) (cell_at (with_row a p (cells_of a p ++ c ∷ []))) (index_of (rows_of a) p (length (cells_of a p))) (Some c)
  ChangesOnly-added a p c within =
      ChangesOnly-with_row a p (length (cells_of a p)) (cells_of a p ++ c ∷ []) (Some c) within (λ j. elim (cases_eq j (length (cells_of a p))) [
        | inl same ↦ rw same (slice_get-append_same (cells_of a p) c ∙ sym (at_same (length (cells_of a p)) (length (cells_of a p)) _ _ refl))
        | inr other ↦ slice_get-append_other (cells_of a p) c j other ∙ sym (at_other j (length (cells_of a p)) _ _ other)
      ])

  -- the cells that are there are those that their owners made
  pub cell_at-is_some : (a : Rows S I R) (p nth : ℕ) → p < rows_of a
      → (IsSome (cell_at a (index_of (rows_of a) p nth))) ↔ (nth < length (cells_of a p))
  cell_at-is_some a p nth within =
      let there = ap (λ o. is_some o) (cell_at-index_of a p nth within) in (
        λ some. slice_get-within (cells_of a p) nth (sym there ∙ some),
        λ made. there ∙ slice_get-there (cells_of a p) nth made,
      )

  pub cell_at-no_others : (a : Rows S I R) (i : ℕ) → IsSome (cell_at a i)
      → (i ≡ 0) ⊎ ((p : ℕ) × (nth : ℕ) × (p < rows_of a) × (nth < length (cells_of a p)) × (i ≡ index_of (rows_of a) p nth))
  cell_at-no_others a i there =
      let n = rows_of a in
      let p = owner_of n i in
      let k = nth_of n i in
      elim (cases_eq i 0) [
        | inl anchor ↦ inl anchor
        | inr made ↦
            let in_row : k < length (cells_of a p) = slice_get-within (cells_of a p) k (rw (cell_at-made a i made) at there) in
            inr (p, k, slice_index_or-within a.rows p k in_row, in_row, sym (index_of-owner_of n i (omega arith)))
      ]
