-- Cells that stand at their indices, seen as an arena.
use Rattle.cell_arena.proofs.Vocabulary.{CellRecord, ChangesOnly, Flat, HasOnlyAnchor, IsFlat, IsSome, IsSomeAnd, List, None, Option, Reserved, Some, [], anchor_for, anchor_with, ap, arith, at, blank, cases_eq, cases_lt, filled, get_or-replicate, get_or-set_other, get_or-set_same, get_or_past, if◌then◌else◌, index_of, inl, inr, is_some, length, length-replicate, length-set, made_by_owner, made_cell, made_cells, map, mul-add-lt, nth_of, option_map, owner_of, refl, replicate, slice_index_or, slice_set, suc, sym, zero, ℕ, ◌*◌, ◌+◌, ◌<◌, ◌==◌, ◌↔◌, ◌∙◌, ◌∷◌, ◌≡◌, ◌≢◌, ◌≤◌, ◌⊎◌}
use Rattle.cell_arena.specs.Columns.{with_cell}
use Rattle.cell_arena.proofs.CellsIn.{get_or-filled, length-filled}
use Rattle.cell_arena.proofs.Changes.{at_same, at_other}
use Rattle.cell_arena.proofs.Places.{owner_of-index_of, nth_of-index_of, index_of-owner_of}

module _ {S I R : Type 0} where
  get_or-map_made_cell : (cells : List (CellRecord S I R)) (i : ℕ) → slice_index_or (map made_cell cells) i None ≡ made_cell (slice_index_or cells i blank)
  get_or-map_made_cell [] i = refl
  get_or-map_made_cell (c ∷ cells) zero = refl
  get_or-map_made_cell (c ∷ cells) (suc i) = get_or-map_made_cell cells i

  get_or-made_cells : (cells : List (CellRecord S I R)) (i : ℕ) → 0 < i → slice_index_or (made_cells cells) i None ≡ made_cell (slice_index_or cells i blank)
  get_or-made_cells [] i made = refl
  get_or-made_cells (c ∷ cells) zero made = absurd (omega arith)
  get_or-made_cells (c ∷ cells) (suc i) made = get_or-map_made_cell cells i

  get_or-made_cells_anchor : (cells : List (CellRecord S I R)) → 0 < length cells → slice_index_or (made_cells cells) 0 None ≡ Some (slice_index_or cells 0 blank)
  get_or-made_cells_anchor [] some = absurd (omega arith)
  get_or-made_cells_anchor (c ∷ cells) some = refl

  is_made : (c : CellRecord S I R) → IsSome c.inv → made_cell c ≡ Some c
  is_made c made = rw made refl

  -- what is made isn't blank
  was_made : (c : CellRecord S I R) → IsSome (made_cell c) → IsSome c.inv
  was_made c made = go c.inv refl made
    where
      go : (o : Option I) → c.inv ≡ o → IsSome (made_cell c) → IsSome c.inv
      go None is made = absurd (cc)
      go (Some i) is made = ap (λ o. is_some o) is

  -- what stands past the end is blank, and not a cell
  pub get_or-within : (cells : List (CellRecord S I R)) (i : ℕ) → IsSome (slice_index_or cells i blank).inv → i < length cells
  get_or-within cells i made = elim (cases_lt i (length cells)) [
    | inl within ↦ within
    | inr past ↦ absurd (let is = ap (λ c. is_some c.inv) (get_or_past cells i blank past) in cc)
  ]

  -- a cell that the arena has stands at its index
  pub there-inv : (cells : List (CellRecord S I R)) (i : ℕ) → 0 < i → IsSome (slice_index_or (made_cells cells) i None) → IsSome (slice_index_or cells i blank).inv
  there-inv cells i made there = was_made _ (rw (get_or-made_cells cells i made) at there)

  pub there-is : (cells : List (CellRecord S I R)) (i : ℕ) → IsSome (slice_index_or (made_cells cells) i None) → slice_index_or (made_cells cells) i None ≡ Some (slice_index_or cells i blank)
  there-is [] i there = absurd (cc)
  there-is (c ∷ cells) zero there = refl
  there-is (c ∷ cells) (suc i) there = get_or-made_cells (c ∷ cells) (suc i) (omega arith) ∙ is_made _ (there-inv (c ∷ cells) (suc i) (omega arith) there)

  pub there-within : (cells : List (CellRecord S I R)) (i : ℕ) → IsSome (slice_index_or (made_cells cells) i None) → i < length cells
  there-within [] i there = absurd (cc)
  there-within (c ∷ cells) zero there = omega arith
  there-within (c ∷ cells) (suc i) there = get_or-within (c ∷ cells) (suc i) (there-inv (c ∷ cells) (suc i) (omega arith) there)

  -- what is written at one index changes the cell there alone
  pub ChangesOnly-set : (cells : List (CellRecord S I R)) (i : ℕ) (x : CellRecord S I R) → i < length cells → (0 < i → IsSome x.inv)
      → ChangesOnly (λ j. slice_index_or (made_cells cells) j None) (λ j. slice_index_or (made_cells (slice_set cells i x)) j None) i (Some x)
  ChangesOnly-set cells i x within made j =
      let some : 0 < length (slice_set cells i x) = simp length-set (omega arith) in
      elim (cases_eq j i) [
        | inl same ↦
            rw same (elim (cases_eq i 0) [
              | inl anchor ↦ ap (λ k. slice_index_or (made_cells (slice_set cells i x)) k None) anchor ∙ get_or-made_cells_anchor (slice_set cells i x) some
                  ∙ ap (λ k. Some (slice_index_or (slice_set cells i x) k blank)) (sym anchor) ∙ ap (λ c. Some c) (get_or-set_same cells i x blank within) ∙ sym (at_same i i _ _ refl)
              | inr later ↦ get_or-made_cells (slice_set cells i x) i (omega arith) ∙ ap (λ c. made_cell c) (get_or-set_same cells i x blank within) ∙ is_made x (made (omega arith)) ∙ sym (at_same i i _ _ refl)
            ])
        | inr other ↦
            elim (cases_eq j 0) [
              | inl anchor ↦ rw anchor (get_or-made_cells_anchor (slice_set cells i x) some
                  ∙ ap (λ c. Some c) (get_or-set_other cells i 0 x blank (λ is. other (anchor ∙ is))) ∙ sym (get_or-made_cells_anchor cells (omega arith))
                  ∙ sym (at_other 0 i _ _ (λ is. other (anchor ∙ is))))
              | inr later ↦ get_or-made_cells (slice_set cells i x) j (omega arith) ∙ ap (λ c. made_cell c) (get_or-set_other cells i j x blank other)
                  ∙ sym (get_or-made_cells cells j (omega arith)) ∙ sym (at_other j i _ _ other)
            ]
      ]

  -- a cell that a function changes, which keeps what its call asks for
  pub ChangesOnly-by_column : (f : CellRecord S I R → CellRecord S I R) → ((c : CellRecord S I R) → (f c).inv ≡ c.inv) → (cells : List (CellRecord S I R)) (i : ℕ) → IsSome (slice_index_or (made_cells cells) i None)
      → ChangesOnly (λ j. slice_index_or (made_cells cells) j None) (λ j. slice_index_or (made_cells (slice_set cells i (f (slice_index_or cells i blank)))) j None) i (option_map f (slice_index_or (made_cells cells) i None))
  ChangesOnly-by_column f keeps cells i there =
      rw (ap (option_map f) (there-is cells i there))
      (ChangesOnly-set cells i (f (slice_index_or cells i blank)) (there-within cells i there) (λ made. ap (λ o. is_some o) (keeps (slice_index_or cells i blank)) ∙ there-inv cells i made there))

  -- nobody has made a cell, and there is the anchor alone
  pub IsFlat-begun : (row room : ℕ) (made : List ℕ) (anchor : CellRecord S I R) → (1 ≤ length made) × (length made ≤ 64) → row ≤ 4096 → row * length made < room → ((p : ℕ) → slice_index_or made p 0 ≡ 0)
      → IsFlat (record { row = row; made = made; columns = record { room = room; cells = anchor ∷ [] } })
  IsFlat-begun row room made anchor processes few fits none = record {
    processes = processes;
    row = few;
    made = λ p. rw (none p) (omega arith);
    room = fits;
    anchor = omega arith;
    there = λ i later made_then. absurd (let zero_is = none (owner_of (length made) i) in omega arith);
    nothing = λ i later unmade. past i later;
  }
    where
      past : (i : ℕ) → 0 < i → slice_index_or (anchor ∷ []) i blank ≡ blank
      past zero later = absurd (omega arith)
      past (suc i) later = refl

  -- the anchor for a cell whose state is taken
  pub anchor_for-is : (c : CellRecord S I R) (state : S) → option_map (λ new. new.0) c.new ≡ Some state → anchor_for c ≡ anchor_with state c.seq
  anchor_for-is c state settled = ap (λ o. record { inv = None; seq = c.seq; before = None; after = None; new = o }) (go c.new settled)
    where
      bare : S → S × Option R
      bare s = (s, None)

      go : (o : Option (S × Option R)) → option_map (λ new. new.0) o ≡ Some state → option_map (λ new. bare new.0) o ≡ Some (bare state)
      go None is = absurd (cc)
      go (Some new) is = ap (option_map bare) is

  -- nothing stands where a process has not made a cell yet
  pub at-unmade : (a : Flat S I R) → IsFlat a → (p nth : ℕ) → p < length a.made → slice_index_or a.made p 0 ≤ nth → at a (index_of (length a.made) p nth) ≡ blank
  at-unmade a flat p nth within unmade =
      flat.nothing (index_of (length a.made) p nth) (omega arith)
      (rw (owner_of-index_of (length a.made) p nth within, nth_of-index_of (length a.made) p nth within) unmade)

  -- the cells that are there are those that their owners made
  pub flat-is_some : (a : Flat S I R) → IsFlat a → (p nth : ℕ) → p < length a.made
      → (IsSome (slice_index_or (made_cells a.columns.cells) (index_of (length a.made) p nth) None)) ↔ (nth < slice_index_or a.made p 0)
  flat-is_some a flat p nth within =
      let i = index_of (length a.made) p nth in (
        λ some. elim (cases_lt nth (slice_index_or a.made p 0)) [
          | inl made ↦ made
          | inr unmade ↦ absurd (let is = there-inv a.columns.cells i (omega arith) some in let none = ap (λ c. is_some c.inv) (at-unmade a flat p nth within unmade) in cc)
        ],
        λ made. ap (λ o. is_some o) (get_or-made_cells a.columns.cells i (omega arith)
            ∙ is_made _ (flat.there i (omega arith) (rw (owner_of-index_of (length a.made) p nth within, nth_of-index_of (length a.made) p nth within) made))),
      )

  pub flat-no_others : (a : Flat S I R) → IsFlat a → (i : ℕ) → IsSome (slice_index_or (made_cells a.columns.cells) i None)
      → (i ≡ 0) ⊎ ((p : ℕ) × (nth : ℕ) × (p < length a.made) × (nth < slice_index_or a.made p 0) × (i ≡ index_of (length a.made) p nth))
  flat-no_others a flat i there =
      let n = length a.made in
      let p = owner_of n i in
      let k = nth_of n i in
      elim (cases_eq i 0) [
        | inl anchor ↦ inl anchor
        | inr later ↦ inr (
          p,
          k,
          omega (arith, flat.processes.0),
          elim (cases_lt k (slice_index_or a.made p 0)) [
            | inl made ↦ made
            | inr unmade ↦ absurd (let is = there-inv a.columns.cells i (omega arith) there in let none = ap (λ c. is_some c.inv) (flat.nothing i (omega arith) unmade) in cc)
          ],
          sym (index_of-owner_of n i (omega arith)),
        )
      ]

  -- a cell that is there changes, and keeps what its call asks for
  pub IsFlat-set : (a : Flat S I R) → IsFlat a → (i : ℕ) (x : CellRecord S I R) → IsSome (slice_index_or (made_cells a.columns.cells) i None) → x.inv ≡ (at a i).inv → IsFlat (record a { columns = with_cell a.columns i x })
  IsFlat-set a flat i x there keeps =
      let within : i < length a.columns.cells = there-within a.columns.cells i there in
      record {
        processes = flat.processes;
        row = flat.row;
        made = flat.made;
        room = flat.room;
        anchor = simp length-set flat.anchor;
        there = λ j later made. elim (cases_eq j i) [
          | inl same ↦ rw (same, get_or-set_same a.columns.cells i x blank within) (ap (λ o. is_some o) keeps ∙ there-inv a.columns.cells i (omega arith) there)
          | inr other ↦ rw (get_or-set_other a.columns.cells i j x blank other) (flat.there j later made)
        ];
        nothing = λ j later unmade. elim (cases_eq j i) [
          | inl same ↦ absurd (let some = there-inv a.columns.cells i (omega arith) there in let none = ap (λ c. is_some c.inv) (ap (λ k. at a k) (sym same) ∙ flat.nothing j later unmade) in cc)
          | inr other ↦ rw (get_or-set_other a.columns.cells i j x blank other) (flat.nothing j later unmade)
        ];
      }

  -- there is room for each cell that a process can make
  pub index_of-within : (a : Flat S I R) → IsFlat a → (p nth i : ℕ) → p < length a.made → nth < a.row → i ≡ index_of (length a.made) p nth → i < a.columns.room
  index_of-within a flat p nth i among room i_is =
      omega (arith, flat.room, mul-add-lt nth (length a.made) p a.row room among)

  made_cells-filled : (c : Reserved S I R) (len j : ℕ) → 0 < length c.cells → slice_index_or (made_cells (filled c len).cells) j None ≡ slice_index_or (made_cells c.cells) j None
  made_cells-filled c len j some = elim (cases_eq j 0) [
    | inl anchor ↦ rw anchor (get_or-made_cells_anchor (filled c len).cells (omega (arith, length-filled c len)) ∙ ap (λ x. Some x) (get_or-filled c len 0) ∙ sym (get_or-made_cells_anchor c.cells some))
    | inr later ↦ get_or-made_cells (filled c len).cells j (omega arith) ∙ ap (λ x. made_cell x) (get_or-filled c len j) ∙ sym (get_or-made_cells c.cells j (omega arith))
  ]

  -- a cell that is made past what was filled
  pub ChangesOnly-made : (c : Reserved S I R) (i : ℕ) (x : CellRecord S I R) → 0 < length c.cells → IsSome x.inv
      → ChangesOnly (λ j. slice_index_or (made_cells c.cells) j None) (λ j. slice_index_or (made_cells (with_cell (filled c (i + 1)) i x).cells) j None) i (Some x)
  ChangesOnly-made c i x some made j =
      ChangesOnly-set (filled c (i + 1)).cells i x (omega (arith, length-filled c (i + 1))) (λ _. made) j
      ∙ ap (λ o. if j == i then Some x else o) (made_cells-filled c (i + 1) j some)

  -- a process makes its next cell
  pub IsFlat-made : (a : Flat S I R) → IsFlat a → (p i : ℕ) (nth : ℕ) (x : CellRecord S I R) → p < length a.made → nth ≡ slice_index_or a.made p 0 → nth < a.row → i ≡ index_of (length a.made) p nth → IsSome x.inv
      → IsFlat (record { row = a.row; made = slice_set a.made p (nth + 1); columns = with_cell (filled a.columns (i + 1)) i x })
  IsFlat-made a flat p i nth x among nth_is room i_is made =
      let n = length a.made in
      let few : length (slice_set a.made p (nth + 1)) ≡ n = simp length-set in
      let cells = (filled a.columns (i + 1)).cells in
      let within : i < length cells = omega (arith, length-filled a.columns (i + 1)) in
      let stays : (j : ℕ) → slice_index_or cells j blank ≡ at a j = get_or-filled a.columns (i + 1) in
      let own : owner_of n i ≡ p = ap (owner_of n) i_is ∙ owner_of-index_of n p nth among in
      let which : nth_of n i ≡ nth = ap (nth_of n) i_is ∙ nth_of-index_of n p nth among in
      let more : slice_index_or (slice_set a.made p (nth + 1)) p 0 ≡ nth + 1 = get_or-set_same a.made p (nth + 1) 0 among in
      record {
        processes = rw few flat.processes;
        row = flat.row;
        made = λ q. elim (cases_eq q p) [
          | inl same ↦ rw (same, more) (omega arith)
          | inr other ↦ rw (get_or-set_other a.made p q (nth + 1) 0 other) (flat.made q)
        ];
        room = rw few flat.room;
        anchor = simp length-set (omega arith);
        there = λ j later j_made. elim (cases_eq j i) [
          | inl same ↦ rw (same, get_or-set_same cells i x blank within) made
          | inr other ↦ rw (get_or-set_other cells i j x blank other ∙ stays j) (flat.there j later (elim (cases_eq (owner_of n j) p) [
            | inl by_p ↦
                let j_made_then : nth_of n j < nth + 1 = rw (few, by_p, more) at j_made in
                let not_that : nth_of n j ≢ nth = λ is. other (sym (index_of-owner_of n j later) ∙ ap (λ q. index_of n q (nth_of n j)) by_p ∙ ap (λ k. index_of n p k) is ∙ sym i_is) in
                rw (by_p, ← nth_is) (omega arith)
            | inr by_other ↦ rw (few, get_or-set_other a.made p (owner_of n j) (nth + 1) 0 by_other) at j_made
          ]))
        ];
        nothing = λ j later unmade. elim (cases_eq j i) [
          | inl same ↦ absurd (let late : nth + 1 ≤ nth = rw (few, same, own, which, more) at unmade in omega arith)
          | inr other ↦ rw (get_or-set_other cells i j x blank other ∙ stays j) (flat.nothing j later (elim (cases_eq (owner_of n j) p) [
            | inl by_p ↦ let late : nth + 1 ≤ nth_of n j = rw (few, by_p, more) at unmade in rw (by_p, ← nth_is) (omega arith)
            | inr by_other ↦ rw (few, get_or-set_other a.made p (owner_of n j) (nth + 1) 0 by_other) at unmade
          ]))
        ];
      }

  -- what an era begins with
  pub HasOnlyAnchor-alone : (anchor : CellRecord S I R) → HasOnlyAnchor (λ i. slice_index_or (made_cells (anchor ∷ [])) i None) (Some anchor)
  HasOnlyAnchor-alone anchor zero = refl
  HasOnlyAnchor-alone anchor (suc i) = sym (at_other (suc i) 0 _ _ (λ is. absurd (omega arith)))

  pub HasOnlyAnchor-begun : (cells : List (CellRecord S I R)) (last : ℕ) (state : S) (seq : ℕ) → IsSome (slice_index_or (made_cells cells) last None)
      → option_map (λ new. new.0) (slice_index_or cells last blank).new ≡ Some state → seq ≡ (slice_index_or cells last blank).seq
      → HasOnlyAnchor (λ i. slice_index_or (made_cells (anchor_with state seq ∷ [])) i None) (option_map anchor_for (slice_index_or (made_cells cells) last None))
  HasOnlyAnchor-begun cells last state seq there settled seq_is =
      let anchor : anchor_for (slice_index_or cells last blank) ≡ anchor_with state seq = anchor_for-is (slice_index_or cells last blank) state settled ∙ ap (anchor_with state) (sym seq_is) in
      rw (ap (option_map anchor_for) (there-is cells last there) ∙ ap (λ c. Some c) anchor)
      (HasOnlyAnchor-alone (anchor_with state seq))

-- nobody has made a cell
pub get_or-zero : (n p : ℕ) → slice_index_or (replicate {A = ℕ} n 0) p 0 ≡ 0
get_or-zero n p = elim (cases_lt p n) [
  | inl within ↦ get_or-replicate n p 0 0 within
  | inr past ↦ get_or_past _ p 0 (omega (arith, length-replicate {A = ℕ} n 0))
]

pub some_and : {A : Type 0} (P : A → Type 0) (o : Option A) → IsSomeAnd o P → IsSome o
some_and P None is = absurd is
some_and P (Some x) is = refl
