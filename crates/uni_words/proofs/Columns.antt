-- Each word is one place, and each place of the table has its own word.
use Rattle.uni_words.proofs.Vocabulary.{AfterOf, Anchor, Announced, BeforeOf, HeadOf, InvOf, Name, NewOf, None, Of, Option, Place, SeqOf, Some, ap, arith, cells_of, column_of, div-add-mod', if◌then◌else◌, index_in, index_of, inl, inr, lt_cases, mod_below, mul-le-mul_right, name_of, name_of-index_of, nat_lt, offset_of, option_map, refl, start_of, subst, suc, suc-mul, sym, word_of, words_of, zero, ℕ, ◌%◌, ◌*◌, ◌+◌, ◌/◌, ◌<◌, ◌∙◌, ◌≡◌, ◌≤◌}
use Rattle.std.proofs.Math.Nat.{div-lt_iff_lt-mul}

-- an index whose process and number fit is in the table
pub index_in-there : (n row i : ℕ) → i % n < n → i / n < row → suc i < cells_of n row
index_in-there n row i process nth =
    let below : i < row * n = (div-lt_iff_lt-mul {k = n} {x = i} {y = row} (omega (arith, process))).0 nth in
    omega arith

-- the cell at an index is there
pub index_in-name_of : (n row i : ℕ) → 1 ≤ n → i < cells_of n row → index_in n row (name_of n i) ≡ Some i
index_in-name_of n row zero positive below = refl
index_in-name_of n row (suc i) positive below =
    let whole : i / n * n + i % n ≡ i = div-add-mod' i n in
    let process : i % n < n = mod_below i n positive in
    let nth : i / n < row = (div-lt_iff_lt-mul {k = n} {x = i} {y = row} positive).1 (omega arith) in
    elim (lt_cases (i % n) n) [
      | inl a ↦ elim (lt_cases (i / n) row) [
        | inl b ↦ rw (a.1, b.1) (ap Some (omega arith))
        | inr b ↦ absurd (let h = b.0 in omega arith)
      ]
      | inr a ↦ absurd (let h = a.0 in omega arith)
    ]

map_some : {A B : Type 0} (f : A → B) (o : Option A) (b : B) → option_map f o ≡ Some b → (a : A) × (o ≡ Some a) × (f a ≡ b)
map_some f None b e = cc
map_some f (Some a) b e = (a, refl, cc)

module _ (n row : ℕ) where
  pub index_in-is : (x : Name) (j : ℕ) → index_in n row x ≡ Some j → (j < cells_of n row) × (name_of n j ≡ x)
  index_in-is Anchor j e =
      let zero_is : 0 ≡ j = cc in
      (omega arith, subst (λ i. name_of n i ≡ Anchor) zero_is refl)
  index_in-is (Of p k) j e = elim (lt_cases p n) [
    | inl process ↦ elim (lt_cases k row) [
      | inl nth ↦
          let is : index_of n p k ≡ j = (let f = rw (process.1, nth.1) at e in cc) in
          let room : suc k * n ≤ row * n = mul-le-mul_right n nth.0 in
          let below : p < n = process.0 in
          (omega (arith, suc-mul k n), subst (λ i. name_of n i ≡ Of p k) is (name_of-index_of n p k below))
      | inr nth ↦ absurd (let f = rw (process.1, nth.1) at e in cc)
    ]
    | inr process ↦ absurd (let f = rw process.1 at e in cc)
  ]

  place_at : (column j : ℕ) → Place
  place_at zero j = Announced j
  place_at (suc zero) j = HeadOf j
  place_at (suc (suc zero)) j = InvOf (name_of n j)
  place_at (suc (suc (suc zero))) j = SeqOf (name_of n j)
  place_at (suc (suc (suc (suc zero)))) j = BeforeOf (name_of n j)
  place_at (suc (suc (suc (suc (suc zero))))) j = AfterOf (name_of n j)
  place_at (suc (suc (suc (suc (suc (suc f)))))) j = NewOf (name_of n j)

  abbrev size_of : ℕ → ℕ
  size_of zero = n
  size_of (suc zero) = n
  size_of (suc (suc f)) = cells_of n row

  entry_is : (p j : ℕ) → (if nat_lt p n then Some p else None) ≡ Some j → (p ≡ j) × (j < n)
  entry_is p j e = elim (lt_cases p n) [
    | inl h ↦ (let is : p ≡ j = (let f = rw h.1 at e in cc) in (is, subst (λ i. i < n) is h.0))
    | inr h ↦ absurd (let f = rw h.1 at e in cc)
  ]

  row_is : (x : Place) (j : ℕ) → offset_of n row x ≡ Some j → (place_at (column_of x) j ≡ x) × (j < size_of (column_of x))
  unfolding place_at
  row_is (Announced p) j e = let h = entry_is p j e in (ap Announced (sym h.0), h.1)
  row_is (HeadOf p) j e = let h = entry_is p j e in (ap HeadOf (sym h.0), h.1)
  row_is (InvOf x) j e = let h = index_in-is x j e in (ap InvOf h.1, h.0)
  row_is (SeqOf x) j e = let h = index_in-is x j e in (ap SeqOf h.1, h.0)
  row_is (BeforeOf x) j e = let h = index_in-is x j e in (ap BeforeOf h.1, h.0)
  row_is (AfterOf x) j e = let h = index_in-is x j e in (ap AfterOf h.1, h.0)
  row_is (NewOf x) j e = let h = index_in-is x j e in (ap NewOf h.1, h.0)

  -- a column ends before the next one begins
  ends_before : (a b : ℕ) → a < b → start_of n row a + size_of a ≤ start_of n row b
  ends_before zero zero h = absurd (omega arith)
  ends_before zero (suc zero) h = omega arith
  ends_before zero (suc (suc g)) h = omega arith
  ends_before (suc zero) zero h = absurd (omega arith)
  ends_before (suc zero) (suc zero) h = absurd (omega arith)
  ends_before (suc zero) (suc (suc g)) h = omega arith
  ends_before (suc (suc f)) zero h = absurd (omega arith)
  ends_before (suc (suc f)) (suc zero) h = absurd (omega arith)
  ends_before (suc (suc f)) (suc (suc g)) h =
      let c : ℕ = cells_of n row in
      let less : suc f * c ≤ g * c = mul-le-mul_right c (omega arith) in
      omega (arith, suc-mul f c)

  one_column : (a b j l : ℕ) → j < size_of a → l < size_of b → start_of n row a + j ≡ start_of n row b + l → (a ≡ b) × (j ≡ l)
  one_column a b j l below_a below_b e = elim (lt_cases a b) [
    | inl less ↦ absurd (let h = ends_before a b less.0 in omega arith)
    | inr more ↦ elim (lt_cases b a) [
      | inl less ↦ absurd (let h = ends_before b a less.0 in omega arith)
      | inr same ↦
          let is : a ≡ b = omega (arith, more.0, same.0) in
          (is, let f : start_of n row b + j ≡ start_of n row b + l = subst (λ k. start_of n row k + j ≡ start_of n row b + l) is e in omega arith)
    ]
  ]

  pub one_place : (x y : Place) (i : ℕ) → word_of n row x ≡ Some i → word_of n row y ≡ Some i → x ≡ y
  one_place x y i e f =
      let a = map_some (λ j. start_of n row (column_of x) + j) (offset_of n row x) i e in
      let b = map_some (λ j. start_of n row (column_of y) + j) (offset_of n row y) i f in
      let at_x = row_is x a.0 a.1 in
      let at_y = row_is y b.0 b.1 in
      let same = one_column (column_of x) (column_of y) a.0 b.0 at_x.1 at_y.1 (a.2 ∙ sym b.2) in
      sym at_x.0 ∙ ap (λ c. place_at c a.0) same.0 ∙ ap (place_at (column_of y)) same.1 ∙ at_y.0

  few_columns : (x : Place) → column_of x < 7
  few_columns (Announced p) = omega arith
  few_columns _ = omega arith

  pub word_below : (x : Place) (i : ℕ) → word_of n row x ≡ Some i → i < words_of n row
  word_below x i e =
      let a = map_some (λ j. start_of n row (column_of x) + j) (offset_of n row x) i e in
      let below = (row_is x a.0 a.1).1 in
      let ends : start_of n row (column_of x) + size_of (column_of x) ≤ start_of n row 7 = ends_before (column_of x) 7 (few_columns x) in
      let is = a.2 in
      omega arith

  pub process_below : (p i : ℕ) → word_of n row (Announced p) ≡ Some i → p < n
  process_below p i e = let a = map_some (λ j. start_of n row 0 + j) (offset_of n row (Announced p)) i e in let h = entry_is p a.0 a.1 in subst (λ k. k < n) (sym h.0) h.1

  pub head_below : (p i : ℕ) → word_of n row (HeadOf p) ≡ Some i → p < n
  head_below p i e = let a = map_some (λ j. start_of n row 1 + j) (offset_of n row (HeadOf p)) i e in let h = entry_is p a.0 a.1 in subst (λ k. k < n) (sym h.0) h.1
