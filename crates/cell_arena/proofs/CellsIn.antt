-- Columns, seen as a list of cells.
use Rattle.cell_arena.proofs.Vocabulary.{AreEven, Bool, CellRecord, Fields, List, None, Option, Reserved, [], ap, arith, blank, cases_eq, cases_lt, cell_in, cells_in, ext_get_or, filled, get_or, get_or-map-range_with_len, get_or-replicate, get_or-set_other, get_or-set_same, get_or_default, get_or_past, if◌then◌else◌, inl, inr, length, length-map-range_with_len, length-replicate, length-set, refl, replicate, slice_index_or, slice_set, suc, sym, true, with_seq, zero, ℕ, ◌++◌, ◌+◌, ◌-◌, ◌<◌, ◌∙◌, ◌∷◌, ◌≡◌, ◌≢◌, ◌≤◌}
use Rattle.std.proofs.lemmas.List.{length-append}

-- a default at the end changes nothing that is read
pub get_or-and_default : {A : Type 0} (xs : List A) (j : ℕ) (d : A) → slice_index_or (xs ++ d ∷ []) j d ≡ slice_index_or xs j d
get_or-and_default [] zero d = refl
get_or-and_default [] (suc j) d = refl
get_or-and_default (x ∷ xs) zero d = refl
get_or-and_default (x ∷ xs) (suc j) d = get_or-and_default xs j d

-- a push that isn't refused
pub pushed : {A : Type 0} (old new : List A) (x : A) (ok : Bool) → new ≡ (if ok then old ++ x ∷ [] else old) → ok ≡ true → new ≡ old ++ x ∷ []
pushed old new x ok is fits = is ∙ ap (λ o. if o then old ++ x ∷ [] else old) fits

-- an index that each column has
pub record IsWithin {S I R : Type 0} (c : Fields S I R) (i : ℕ) : Type 0 where
  pub inv : i < length c.inv
  pub seq : i < length c.seq
  pub before : i < length c.before
  pub after : i < length c.after
  pub new : i < length c.new

module _ {S I R : Type 0} where
  pub length-cells_in : (c : Fields S I R) → length (cells_in c) ≡ length c.seq
  length-cells_in c = length-map-range_with_len (cell_in c) 0 (length c.seq)

  pub IsWithin-cells_in : (c : Fields S I R) → AreEven c → (i : ℕ) → i < length (cells_in c) → IsWithin c i
  IsWithin-cells_in c even i within =
      let here : i < length c.seq = rw length-cells_in at within in
      record { inv = rw even.inv here; seq = here; before = rw even.before here; after = rw even.after here; new = rw even.new here }

  -- past the columns each field is empty
  cell_in-past : (c : Fields S I R) → AreEven c → (i : ℕ) → length c.seq ≤ i → cell_in c i ≡ blank
  cell_in-past c even i past =
      rw (get_or_past c.inv i None (omega (arith, even.inv)), get_or_past c.seq i 0 past, get_or_past c.before i None (omega (arith, even.before)), get_or_past c.after i None (omega (arith, even.after)), get_or_past c.new i None (omega (arith, even.new))) refl

  pub get_or-cells_in : (c : Fields S I R) → AreEven c → (i : ℕ) → slice_index_or (cells_in c) i blank ≡ cell_in c i
  get_or-cells_in c even i = elim (cases_lt i (length c.seq)) [
    | inl within ↦ get_or-map-range_with_len (cell_in c) 0 (length c.seq) i i blank within (omega arith)
    | inr past ↦ get_or_past (cells_in c) i blank (omega (arith, length-cells_in c)) ∙ sym (cell_in-past c even i past)
  ]

  -- columns in which the fields at one index change
  cells_in-set : (c d : Fields S I R) → AreEven c → AreEven d → (i : ℕ) (x : CellRecord S I R) → length d.seq ≡ length c.seq → i < length (cells_in c)
      → cell_in d i ≡ x → ((j : ℕ) → j ≢ i → cell_in d j ≡ cell_in c j) → cells_in d ≡ slice_set (cells_in c) i x
  cells_in-set c d even even' i x long within same others =
      ext_get_or blank (cells_in d) (slice_set (cells_in c) i x)
      (length-cells_in d ∙ long ∙ sym (length-cells_in c) ∙ sym (simp length-set))
      (λ j among. get_or-cells_in d even' j ∙ elim (cases_eq j i) [
        | inl here ↦ ap (cell_in d) here ∙ same ∙ sym (get_or-set_same (cells_in c) i x blank within) ∙ ap (λ k. get_or (slice_set (cells_in c) i x) k blank) (sym here)
        | inr other ↦ others j other ∙ sym (get_or-cells_in c even j) ∙ sym (get_or-set_other (cells_in c) i j x blank other)
      ])

  -- one field that changes at one index, where `x` is what stands there
  module _ (c : Fields S I R) (even : AreEven c) (i : ℕ) (within : i < length (cells_in c)) where
    pub cells_in-inv : (v : Option I) → cells_in (record c { inv = slice_set c.inv i v }) ≡ slice_set (cells_in c) i (record (slice_index_or (cells_in c) i blank) { inv = v })
    cells_in-inv v =
        cells_in-set c (record c { inv = slice_set c.inv i v }) even (record { inv = simp length-set even.inv; before = even.before; after = even.after; new = even.new }) i _ refl within
        (rw (get_or-cells_in c even i, get_or-set_same c.inv i v None (omega (arith, even.inv, length-cells_in c))) refl)
        (λ j other. rw (get_or-set_other c.inv i j v None other) refl)

    pub cells_in-seq : (v : ℕ) → cells_in (record c { seq = slice_set c.seq i v }) ≡ slice_set (cells_in c) i (with_seq v (slice_index_or (cells_in c) i blank))
    cells_in-seq v =
        let long : length (slice_set c.seq i v) ≡ length c.seq = simp length-set in
        cells_in-set c (record c { seq = slice_set c.seq i v }) even (record { inv = even.inv ∙ sym long; before = even.before ∙ sym long; after = even.after ∙ sym long; new = even.new ∙ sym long }) i _ long within
        (rw (get_or-cells_in c even i, get_or-set_same c.seq i v 0 (omega (arith, length-cells_in c))) refl)
        (λ j other. rw (get_or-set_other c.seq i j v 0 other) refl)

    pub cells_in-before : (v : Option ℕ) → cells_in (record c { before = slice_set c.before i v }) ≡ slice_set (cells_in c) i (record (slice_index_or (cells_in c) i blank) { before = v })
    cells_in-before v =
        cells_in-set c (record c { before = slice_set c.before i v }) even (record { inv = even.inv; before = simp length-set even.before; after = even.after; new = even.new }) i _ refl within
        (rw (get_or-cells_in c even i, get_or-set_same c.before i v None (omega (arith, even.before, length-cells_in c))) refl)
        (λ j other. rw (get_or-set_other c.before i j v None other) refl)

    pub cells_in-after : (v : Option ℕ) → cells_in (record c { after = slice_set c.after i v }) ≡ slice_set (cells_in c) i (record (slice_index_or (cells_in c) i blank) { after = v })
    cells_in-after v =
        cells_in-set c (record c { after = slice_set c.after i v }) even (record { inv = even.inv; before = even.before; after = simp length-set even.after; new = even.new }) i _ refl within
        (rw (get_or-cells_in c even i, get_or-set_same c.after i v None (omega (arith, even.after, length-cells_in c))) refl)
        (λ j other. rw (get_or-set_other c.after i j v None other) refl)

    pub cells_in-new : (v : Option (S × Option R)) → cells_in (record c { new = slice_set c.new i v }) ≡ slice_set (cells_in c) i (record (slice_index_or (cells_in c) i blank) { new = v })
    cells_in-new v =
        cells_in-set c (record c { new = slice_set c.new i v }) even (record { inv = even.inv; before = even.before; after = even.after; new = simp length-set even.new }) i _ refl within
        (rw (get_or-cells_in c even i, get_or-set_same c.new i v None (omega (arith, even.new, length-cells_in c))) refl)
        (λ j other. rw (get_or-set_other c.new i j v None other) refl)

    pub cells_in-clear : cells_in (record { inv = slice_set c.inv i None; seq = slice_set c.seq i 0; before = slice_set c.before i None; after = slice_set c.after i None; new = slice_set c.new i None })
        ≡ slice_set (cells_in c) i blank
    cells_in-clear =
        let long : length (slice_set c.seq i 0) ≡ length c.seq = simp length-set in
        cells_in-set c _ even (record {
          inv = simp length-set even.inv;
          before = simp length-set even.before;
          after = simp length-set even.after;
          new = simp length-set even.new;
        }) i blank long within
        (rw (get_or-set_same c.inv i None None (omega (arith, even.inv, length-cells_in c)), get_or-set_same c.seq i 0 0 (omega (arith, length-cells_in c)), get_or-set_same c.before i None None (omega (arith, even.before, length-cells_in c)), get_or-set_same c.after i None None (omega (arith, even.after, length-cells_in c)), get_or-set_same c.new i None None (omega (arith, even.new, length-cells_in c))) refl)
        (λ j other. rw (get_or-set_other c.inv i j None None other, get_or-set_other c.seq i j 0 0 other, get_or-set_other c.before i j None None other, get_or-set_other c.after i j None None other, get_or-set_other c.new i j None None other) refl)

  -- the settled fields, in the code's terms: `v` is the element that is read
  module _ (c : Fields S I R) (even : AreEven c) (i : ℕ) (within : i < length (cells_in c)) where
    pub after-read : (v : Option ℕ) → v ≡ get_or c.after i v → (slice_index_or (cells_in c) i blank).after ≡ v
    after-read v read =
        ap (λ x. x.after) (get_or-cells_in c even i) ∙ sym (read ∙ get_or_default c.after i v None (omega (arith, even.after, length-cells_in c)))

    pub new-read : (v : Option (S × Option R)) → v ≡ get_or c.new i v → (slice_index_or (cells_in c) i blank).new ≡ v
    new-read v read =
        ap (λ x. x.new) (get_or-cells_in c even i) ∙ sym (read ∙ get_or_default c.new i v None (omega (arith, even.new, length-cells_in c)))

  -- the columns with a blank place more
  abbrev pub and_blank : Fields S I R → Fields S I R
  and_blank c = record { inv = c.inv ++ None ∷ []; seq = c.seq ++ 0 ∷ []; before = c.before ++ None ∷ []; after = c.after ++ None ∷ []; new = c.new ++ None ∷ [] }

  pub AreEven-and_blank : (c : Fields S I R) → AreEven c → AreEven (and_blank c)
  AreEven-and_blank c even = record {
    inv = omega (arith, even.inv, length-append c.inv (None ∷ []), length-append c.seq (0 ∷ []));
    before = omega (arith, even.before, length-append c.before (None ∷ []), length-append c.seq (0 ∷ []));
    after = omega (arith, even.after, length-append c.after (None ∷ []), length-append c.seq (0 ∷ []));
    new = omega (arith, even.new, length-append c.new (None ∷ []), length-append c.seq (0 ∷ []));
  }

  cell_in-and_blank : (c : Fields S I R) (j : ℕ) → cell_in (and_blank c) j ≡ cell_in c j
  cell_in-and_blank c j = rw (get_or-and_default c.inv j None, get_or-and_default c.seq j 0, get_or-and_default c.before j None, get_or-and_default c.after j None, get_or-and_default c.new j None) refl

  pub cells_in-and_blank : (c : Fields S I R) → AreEven c → cells_in (and_blank c) ≡ cells_in c ++ blank ∷ []
  cells_in-and_blank c even =
      ext_get_or blank (cells_in (and_blank c)) (cells_in c ++ blank ∷ [])
      (omega (arith, length-cells_in (and_blank c), length-cells_in c, length-append c.seq (0 ∷ []), length-append (cells_in c) (blank ∷ [])))
      (λ j among. get_or-cells_in (and_blank c) (AreEven-and_blank c even) j ∙ cell_in-and_blank c j ∙ sym (get_or-cells_in c even j) ∙ sym (get_or-and_default (cells_in c) j blank))

  -- what is filled holds no other cell
  pub get_or-filled : (c : Reserved S I R) (len i : ℕ) → slice_index_or (filled c len).cells i blank ≡ slice_index_or c.cells i blank
  get_or-filled c len i = go c.cells (len - length c.cells) i
    where
      blanks : (n i : ℕ) → slice_index_or (replicate n (blank {S = S} {I = I} {R = R})) i blank ≡ blank
      blanks n i = elim (cases_lt i n) [
        | inl within ↦ get_or-replicate n i blank blank within
        | inr past ↦ get_or_past _ i blank (omega (arith, length-replicate n (blank {S = S} {I = I} {R = R})))
      ]

      go : (cells : List (CellRecord S I R)) (n i : ℕ) → slice_index_or (cells ++ replicate n blank) i blank ≡ slice_index_or cells i blank
      go [] n i = blanks n i
      go (x ∷ cells) n zero = refl
      go (x ∷ cells) n (suc i) = go cells n i

  pub length-filled : (c : Reserved S I R) (len : ℕ) → length (filled c len).cells ≡ length c.cells + (len - length c.cells)
  length-filled c len = length-append c.cells (replicate (len - length c.cells) blank) ∙ ap (λ n. length c.cells + n) (length-replicate (len - length c.cells) blank)

  pub filled-one : (c : Reserved S I R) → record c { cells = c.cells ++ blank ∷ [] } ≡ filled c (length c.cells + 1)
  filled-one c = ap (λ n. record c { cells = c.cells ++ replicate n blank }) (let one : 1 ≡ length c.cells + 1 - length c.cells = omega arith in one)

  -- the same room, and the same at each index
  same_reserved : (c d : Reserved S I R) → c.room ≡ d.room → length c.cells ≡ length d.cells → ((i : ℕ) → slice_index_or c.cells i blank ≡ slice_index_or d.cells i blank) → c ≡ d
  same_reserved c d room long same =
      ap (λ n. record { room = n; cells = c.cells }) room ∙ ap (λ cells. record { room = d.room; cells = cells }) (ext_get_or blank c.cells d.cells long (λ i among. same i))

  pub filled-full : (c : Reserved S I R) (len : ℕ) → len ≤ length c.cells → c ≡ filled c len
  filled-full c len full = same_reserved c (filled c len) refl (omega (arith, length-filled c len)) (λ i. sym (get_or-filled c len i))

  pub filled-more : (c : Reserved S I R) (len : ℕ) → length c.cells ≤ len → filled (filled c len) (length (filled c len).cells + 1) ≡ filled c (len + 1)
  filled-more c len part =
      same_reserved (filled (filled c len) (length (filled c len).cells + 1)) (filled c (len + 1)) refl
      (omega (arith, length-filled (filled c len) (length (filled c len).cells + 1), length-filled c len, length-filled c (len + 1)))
      (λ i. get_or-filled (filled c len) (length (filled c len).cells + 1) i ∙ get_or-filled c len i ∙ sym (get_or-filled c (len + 1) i))

  -- what the check's own answers need of columns
  pub ruleset columns = (length-cells_in, get_or-cells_in)
