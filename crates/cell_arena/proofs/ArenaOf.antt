-- Rows, seen as an arena.
use Rattle.cell_arena.proofs.Vocabulary.{AreEmpty, AreRows, CellRecord, ChangesOnly, HasOnlyAnchor, IsSome, List, None, Option, Rows, Some, [], ap, arena_of, arith, cases_eq, cases_lt, cell_at, cell_of, cells_of, get_or-map-range_with_len, get_or-set_other, get_or-set_same, get_or_default, get_or_past, if◌then◌else◌, index_of, inl, inr, is_some, le-div, length, length-append, length-map, length-map-range_with_len, length-set, made_of, map, nth_of, option_map, owner_of, processes_of, refl, rows_of, slice_get, slice_get_past, slice_index_or, slice_set, suc, sym, with_cell, zero, ℕ, ◌*◌, ◌++◌, ◌+◌, ◌-◌, ◌<◌, ◌==◌, ◌↔◌, ◌∙◌, ◌∷◌, ◌≡◌, ◌≤◌, ◌⊎◌}
use Rattle.cell_arena.proofs.Changes.{with_row, rows_of-with_row, at_same, at_other, ChangesOnly-added, ChangesOnly-by, cell_at-is_some, cell_at-no_others}
use Rattle.cell_arena.proofs.Lists.{slice_get-within, slice_index_or-within}

module _ {S I R : Type 0} where
  pub processes_of-arena_of : (a : Rows S I R) → processes_of (arena_of a) ≡ rows_of a
  processes_of-arena_of a = length-map a.rows length

  length-cells : (rows : List (List (CellRecord S I R))) (p : ℕ) → slice_index_or (map length rows) p 0 ≡ length (slice_index_or rows p [])
  length-cells [] p = refl
  length-cells (row ∷ rows) zero = refl
  length-cells (row ∷ rows) (suc p) = length-cells rows p

  pub made_of-arena_of : (a : Rows S I R) (p : ℕ) → made_of (arena_of a) p ≡ length (cells_of a p)
  made_of-arena_of a p = length-cells a.rows p

  -- no row has a cell past the room
  cell_at-past : (a : Rows S I R) → AreRows a → (i : ℕ) → 1 + a.row * rows_of a ≤ i → cell_at a i ≡ None
  cell_at-past a are i past =
      let late : a.row ≤ nth_of (rows_of a) i = le-div a.row (i - 1) (rows_of a) (omega (arith, are.rows.0)) (omega arith) in
      at_other i 0 _ _ (omega arith)
      ∙ slice_get_past (cells_of a (owner_of (rows_of a) i)) (nth_of (rows_of a) i) (omega (arith, are.made (owner_of (rows_of a) i)))

  pub cell_of-arena_of : (a : Rows S I R) → AreRows a → (i : ℕ) → cell_of (arena_of a) i ≡ cell_at a i
  cell_of-arena_of a are i = elim (cases_lt i (1 + a.row * rows_of a)) [
    | inl within ↦ get_or-map-range_with_len (cell_at a) 0 (1 + a.row * rows_of a) i i None within (omega arith)
    | inr past ↦ get_or_past _ i None (omega (arith, length-map-range_with_len (cell_at a) 0 (1 + a.row * rows_of a))) ∙ sym (cell_at-past a are i past)
  ]

  -- a cell that the arena has is in the rows
  pub cell_at-there : (a : Rows S I R) → AreRows a → (i : ℕ) → IsSome (cell_of (arena_of a) i) → IsSome (cell_at a i)
  cell_at-there a are i there = rw (cell_of-arena_of a are i) at there

  -- where a cell is, in the code's terms: `row` is the row of its owner, which is read
  pub is_stored : (a : Rows S I R) → AreRows a → (n i p k : ℕ) (row : List (CellRecord S I R)) → n ≡ rows_of a → 0 < i → p ≡ owner_of n i → k ≡ nth_of n i
      → row ≡ slice_index_or a.rows p row → IsSome (cell_of (arena_of a) i) → (k < length row) × (cell_of (arena_of a) i ≡ slice_get row k)
  is_stored a are n i p k row n_is made p_is k_is read there =
      let in_row : k < length (cells_of a p) = slice_get-within (cells_of a p) k (rw (p_is, k_is, n_is) (rw (at_other i 0 _ _ (omega arith)) at (cell_at-there a are i there))) in
      let same : row ≡ cells_of a p = read ∙ get_or_default a.rows p row [] (slice_index_or-within a.rows p k in_row) in (
        rw same in_row,
        cell_of-arena_of a are i ∙ at_other i 0 _ _ (omega arith) ∙ rw (← n_is, ← p_is, ← k_is, ← same) refl,
      )

  -- a cell that is written in its row
  pub with_cell-read : (a : Rows S I R) → AreRows a → (n i p k : ℕ) (row : List (CellRecord S I R)) (c : CellRecord S I R) → n ≡ rows_of a → 0 < i → p ≡ owner_of n i → k ≡ nth_of n i
      → row ≡ slice_index_or a.rows p row → with_row a p (slice_set row k c) ≡ with_cell a i c
  with_cell-read a are n i p k row c n_is made p_is k_is read =
      let within : p < rows_of a = omega (arith, are.rows.0) in
      let same : row ≡ cells_of a p = read ∙ get_or_default a.rows p row [] within in
      rw (same, p_is, k_is, n_is) (sym (at_other i 0 _ _ (omega arith)))

  -- the cells that are there are those that their owners made
  pub cell_of-is_some : (a : Rows S I R) → AreRows a → (p nth : ℕ) → p < processes_of (arena_of a)
      → (IsSome (cell_of (arena_of a) (index_of (processes_of (arena_of a)) p nth))) ↔ (nth < made_of (arena_of a) p)
  cell_of-is_some a are p nth within =
      let among : p < rows_of a = omega (arith, processes_of-arena_of a) in
      rw (processes_of-arena_of a, made_of-arena_of a p, cell_of-arena_of a are (index_of (rows_of a) p nth)) (cell_at-is_some a p nth among)

  pub cell_of-no_others : (a : Rows S I R) → AreRows a → (i : ℕ) → IsSome (cell_of (arena_of a) i)
      → (i ≡ 0) ⊎ ((p : ℕ) × (nth : ℕ) × (p < processes_of (arena_of a)) × (nth < made_of (arena_of a) p) × (i ≡ index_of (processes_of (arena_of a)) p nth))
  cell_of-no_others a are i there = elim (cell_at-no_others a i (cell_at-there a are i there)) [
    | inl anchor ↦ inl anchor
    | inr made ↦ inr (made.0, made.1, omega (arith, processes_of-arena_of a, made.2), omega (arith, made_of-arena_of a made.0, made.3), rw (processes_of-arena_of a) made.4)
  ]

  ChangesOnly-arena_of : (a b : Rows S I R) → AreRows a → AreRows b → (i : ℕ) (value : Option (CellRecord S I R))
      → ChangesOnly (cell_at a) (cell_at b) i value → ChangesOnly (cell_of (arena_of a)) (cell_of (arena_of b)) i value
  ChangesOnly-arena_of a b are are' i value changes j =
      cell_of-arena_of b are' j ∙ changes j ∙ ap (λ c. if j == i then value else c) (sym (cell_of-arena_of a are j))

  -- rows that are written one by one
  AreRows-with_row : (a : Rows S I R) → AreRows a → (p : ℕ) (cells : List (CellRecord S I R)) → p < rows_of a → length cells ≤ a.row → AreRows (with_row a p cells)
  AreRows-with_row a are p cells within few = record {
    rows = rw (rows_of-with_row a p cells) are.rows;
    row = are.row;
    made = λ q. elim (cases_eq q p) [
      | inl same ↦ rw (same, get_or-set_same a.rows p cells [] within) few
      | inr other ↦ rw (get_or-set_other a.rows p q cells [] other) (are.made q)
    ];
  }

  AreRows-with_cell : (a : Rows S I R) → AreRows a → (i : ℕ) (c : CellRecord S I R) → IsSome (cell_at a i) → AreRows (with_cell a i c)
  AreRows-with_cell a are i c there =
      let p = owner_of (rows_of a) i in
      let k = nth_of (rows_of a) i in
      elim (cases_eq i 0) [
        | inl anchor ↦ rw anchor (record { rows = are.rows; row = are.row; made = are.made })
        | inr made ↦
            let in_row : k < length (cells_of a p) = slice_get-within (cells_of a p) k (rw (at_other i 0 _ _ made) at there) in
            let row = slice_set (cells_of a p) k c in
            let long : length row ≡ length (cells_of a p) = simp length-set in
            let whole : with_cell a i c ≡ with_row a p row = at_other i 0 _ _ made in
            rw whole (AreRows-with_row a are p row (slice_index_or-within a.rows p k in_row) (omega (arith, are.made p)))
      ]

  -- a cell that a function changes, in the code's terms: `c` is read, and `d` written
  pub ChangesOnly-by_cell : (f : CellRecord S I R → CellRecord S I R) (a : Rows S I R) → AreRows a → (i : ℕ) (c d : CellRecord S I R)
      → cell_at a i ≡ Some c → d ≡ f c
      → ChangesOnly (cell_of (arena_of a)) (cell_of (arena_of (with_cell a i d))) i (option_map f (cell_of (arena_of a) i))
  ChangesOnly-by_cell f a are i c d was is =
      rw (cell_of-arena_of a are i)
      (ChangesOnly-arena_of a (with_cell a i d) are (AreRows-with_cell a are i d (ap (λ o. is_some o) was)) i (option_map f (cell_at a i))
      (ChangesOnly-by f a i c d was is))

  -- how many cells there are stays where one changes
  pub made_of-with_cell : (a : Rows S I R) (i : ℕ) (c d : CellRecord S I R) → cell_at a i ≡ Some c → (p : ℕ) → made_of (arena_of (with_cell a i d)) p ≡ made_of (arena_of a) p
  made_of-with_cell a i c d was q =
      let p = owner_of (rows_of a) i in
      let k = nth_of (rows_of a) i in
      let there : IsSome (cell_at a i) = ap (λ o. is_some o) was in
      elim (cases_eq i 0) [
        | inl anchor ↦ rw anchor refl
        | inr made ↦
            let in_row : k < length (cells_of a p) = slice_get-within (cells_of a p) k (rw (at_other i 0 _ _ made) at there) in
            let row = slice_set (cells_of a p) k d in
            let long : length row ≡ length (cells_of a p) = simp length-set in
            let whole : with_cell a i d ≡ with_row a p row = at_other i 0 _ _ made in
            made_of-arena_of (with_cell a i d) q
            ∙ ap (λ b. length (cells_of b q)) whole
            ∙ elim (cases_eq q p) [
              | inl same ↦ rw same (ap length (get_or-set_same a.rows p row [] (slice_index_or-within a.rows p k in_row)) ∙ long)
              | inr other ↦ ap length (get_or-set_other a.rows p q row [] other)
            ]
            ∙ sym (made_of-arena_of a q)
      ]

  -- in the code's terms: `was` is the row, which is read, and `row` the one that is written
  pub ChangesOnly-by_row : (a : Rows S I R) → AreRows a → (p : ℕ) (was row : List (CellRecord S I R)) (c : CellRecord S I R) → p < rows_of a → length (cells_of a p) < a.row
      → was ≡ slice_index_or a.rows p was → row ≡ was ++ c ∷ []
      → ChangesOnly (cell_of (arena_of a)) (cell_of (arena_of (with_row a p row))) (index_of (processes_of (arena_of a)) p (made_of (arena_of a) p)) (Some c)
  ChangesOnly-by_row a are p was row c within room read written =
      let full : row ≡ cells_of a p ++ c ∷ [] = written ∙ ap (λ r. r ++ c ∷ []) (read ∙ get_or_default a.rows p was [] within) in
      let longer : length row ≡ length (cells_of a p) + 1 = ap length full ∙ length-append (cells_of a p) (c ∷ []) in
      rw (processes_of-arena_of a, made_of-arena_of a p)
      (ChangesOnly-arena_of a (with_row a p row) are (AreRows-with_row a are p row within (omega arith)) (index_of (rows_of a) p (length (cells_of a p))) (Some c)
      (rw full (ChangesOnly-added a p c within)))

  pub made_of-by_row : (a : Rows S I R) (p : ℕ) (was row : List (CellRecord S I R)) (c : CellRecord S I R) → p < rows_of a
      → was ≡ slice_index_or a.rows p was → row ≡ was ++ c ∷ []
      → ChangesOnly (made_of (arena_of a)) (made_of (arena_of (with_row a p row))) p (made_of (arena_of a) p + 1)
  made_of-by_row a p was row c within read written q =
      let full : row ≡ cells_of a p ++ c ∷ [] = written ∙ ap (λ r. r ++ c ∷ []) (read ∙ get_or_default a.rows p was [] within) in
      let longer : length row ≡ length (cells_of a p) + 1 = ap length full ∙ length-append (cells_of a p) (c ∷ []) in
      made_of-arena_of (with_row a p row) q
      ∙ elim (cases_eq q p) [
        | inl same ↦ rw same (ap length (get_or-set_same a.rows p row [] within) ∙ longer ∙ ap (λ k. k + 1) (sym (made_of-arena_of a p)) ∙ sym (at_same p p _ _ refl))
        | inr other ↦ ap length (get_or-set_other a.rows p q row [] other) ∙ sym (made_of-arena_of a q) ∙ sym (at_other q p _ _ other)
      ]

  -- empty rows
  cells_of-empty : (rows : List (List (CellRecord S I R))) → AreEmpty rows → (p : ℕ) → slice_index_or rows p [] ≡ []
  cells_of-empty rows empty p = elim (cases_lt p (length rows)) [
    | inl within ↦ empty p within
    | inr past ↦ get_or_past rows p [] past
  ]

  pub made_of-empty : (a : Rows S I R) → AreEmpty a.rows → (p : ℕ) → made_of (arena_of a) p ≡ 0
  made_of-empty a empty p = made_of-arena_of a p ∙ ap length (cells_of-empty a.rows empty p)

  AreRows-empty : (a : Rows S I R) → AreEmpty a.rows → (1 ≤ rows_of a) × (rows_of a ≤ 64) → a.row ≤ 4096 → AreRows a
  AreRows-empty a empty rows row = record {
    rows = rows;
    row = row;
    made = λ p. rw (cells_of-empty a.rows empty p) (omega arith);
  }

  pub HasOnlyAnchor-empty : (a : Rows S I R) → AreEmpty a.rows → (1 ≤ rows_of a) × (rows_of a ≤ 64) → a.row ≤ 4096 → HasOnlyAnchor (cell_of (arena_of a)) (Some a.anchor)
  HasOnlyAnchor-empty a empty rows row i =
      cell_of-arena_of a (AreRows-empty a empty rows row) i
      ∙ ap (λ cells. if i == 0 then Some a.anchor else slice_get cells (nth_of (rows_of a) i)) (cells_of-empty a.rows empty (owner_of (rows_of a) i))
