-- Where words and slots of buffers lie: those of two buffers are apart.
use Rattle.triple_buffers.proofs.Vocabulary.{Layout, ap, arith, inl, inr, lt_cases, mul-le-mul_right, slot_at, suc, suc-mul, word_at, ℕ, ◌*◌, ◌+◌, ◌<◌, ◌≡◌, ◌≤◌}

further : (x y n : ℕ) → x < y → x * n + n ≤ y * n
further x y n h = let a : suc x * n ≤ y * n = mul-le-mul_right n h in omega (arith, suc-mul x n)

-- a place in rows of n tells its row and its column
row_and_column : (n f e r c : ℕ) → r < n → c < n → f * n + r ≡ e * n + c → (f ≡ e) × (r ≡ c)
row_and_column n f e r c r_less c_less same = elim (lt_cases f e) [
  | inl a ↦ absurd (let m = further f e n a.0 in omega arith)
  | inr b ↦ elim (lt_cases e f) [
    | inl a ↦ absurd (let m = further e f n a.0 in omega arith)
    | inr d ↦
        let is : f ≡ e = (let x = b.0 in let y = d.0 in omega arith) in
        let row : f * n ≡ e * n = ap (λ k. k * n) is in
        (is, omega arith)
  ]
]

module _ (layout : Layout) where
  pub same_word : (f t g u : ℕ) → f < layout.parties → g < layout.parties → word_at layout f t ≡ word_at layout g u → (t ≡ u) × (f ≡ g)
  same_word f t g u f_in g_in e = row_and_column layout.parties t u f g f_in g_in (omega (arith, e))

  pub same_slot : (f t k g u j : ℕ) → f < layout.parties → g < layout.parties → k < 3 → j < 3 → slot_at layout f t k ≡ slot_at layout g u j → (t ≡ u) × (f ≡ g) × (k ≡ j)
  same_slot f t k g u j f_in g_in k_in j_in e =
      let x : ℕ = t * layout.parties + f in
      let y : ℕ = u * layout.parties + g in
      let e' : 3 * x + k ≡ 3 * y + j = e in
      let place : x ≡ y = omega (arith, e', k_in, j_in) in
      let both = row_and_column layout.parties t u f g f_in g_in place in
      (both.0, both.1, (omega (arith, e', place)))

  pub place_inside : (f t : ℕ) → f < layout.parties → t < layout.parties → t * layout.parties + f < layout.parties * layout.parties
  place_inside f t f_in t_in = let a = further t layout.parties layout.parties t_in in omega (arith, f_in)
