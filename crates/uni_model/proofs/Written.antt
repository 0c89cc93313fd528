-- What a memory contains after one place is written.
use Rattle.uni_model.proofs.Vocabulary.{AfterOf, Anchor, Announced, BeforeOf, Bool, CellName, HeadOf, InvOf, Invocation, Link, Memory, Name, NewOf, Number, Of, Option, Place, SeqOf, Settled, after_of, announce_of, ap, arith, before_of, cond, false, head_of, inl, inr, inv_of, memory_with, name_eq, nat_eq, nat_lt, nat_tests, new_of, place_eq, refl, seq_of, set_at, sym, true, ℕ, ◌<◌, ◌≡◌, ◌≢◌, ◌≤◌, ◌⊎◌}

pub name_eq_true : (x y : Name) → name_eq x y ≡ true → x ≡ y
name_eq_true Anchor Anchor e = refl
name_eq_true Anchor (Of q m) e = cc
name_eq_true (Of p k) Anchor e = cc
name_eq_true (Of p k) (Of q m) e = grind (arith, nat_tests)

pub name_eq_same : (x : Name) → name_eq x x ≡ true
name_eq_same Anchor = refl
name_eq_same (Of p k) = grind (arith, nat_tests)

pub name_eq_false : (x y : Name) → name_eq x y ≡ false → x ≢ y
name_eq_false x y e same = let t = name_eq_same x in cc

-- two names are one, or they aren't
pub name_cases : (x y : Name) → ((x ≡ y) × (name_eq x y ≡ true)) ⊎ ((x ≢ y) × (name_eq x y ≡ false))
name_cases x y = by_test (name_eq x y) refl where
  by_test : (b : Bool) → name_eq x y ≡ b → ((x ≡ y) × (name_eq x y ≡ true)) ⊎ ((x ≢ y) × (name_eq x y ≡ false))
  by_test true e = inl (name_eq_true x y e, e)
  by_test false e = inr (name_eq_false x y e, e)

-- Each kind of place, after another content was written to one place of that kind.
module _ {S I R : Type 0} (m : Memory S I R) (d x : Name) where
  pub seq_of-memory_with : (s : ℕ) → ((x ≡ d) × (seq_of (memory_with m (SeqOf d) (Number s)) x ≡ s)) ⊎ ((x ≢ d) × (seq_of (memory_with m (SeqOf d) (Number s)) x ≡ seq_of m x))
  seq_of-memory_with s = elim (name_cases x d) [ inl h ↦ inl (h.0, rw h.1 refl) | inr h ↦ inr (h.0, rw h.1 refl) ]

  pub after_of-memory_with : (l : Option Name) → ((x ≡ d) × (after_of (memory_with m (AfterOf d) (Link l)) x ≡ l)) ⊎ ((x ≢ d) × (after_of (memory_with m (AfterOf d) (Link l)) x ≡ after_of m x))
  after_of-memory_with l = elim (name_cases x d) [ inl h ↦ inl (h.0, rw h.1 refl) | inr h ↦ inr (h.0, rw h.1 refl) ]

  pub before_of-memory_with : (l : Option Name) → ((x ≡ d) × (before_of (memory_with m (BeforeOf d) (Link l)) x ≡ l)) ⊎ ((x ≢ d) × (before_of (memory_with m (BeforeOf d) (Link l)) x ≡ before_of m x))
  before_of-memory_with l = elim (name_cases x d) [ inl h ↦ inl (h.0, rw h.1 refl) | inr h ↦ inr (h.0, rw h.1 refl) ]

  pub new_of-memory_with : (v : Option (S × Option R)) → ((x ≡ d) × (new_of (memory_with m (NewOf d) (Settled v)) x ≡ v)) ⊎ ((x ≢ d) × (new_of (memory_with m (NewOf d) (Settled v)) x ≡ new_of m x))
  new_of-memory_with v = elim (name_cases x d) [ inl h ↦ inl (h.0, rw h.1 refl) | inr h ↦ inr (h.0, rw h.1 refl) ]

  pub inv_of-memory_with : (i : Option I) → ((x ≡ d) × (inv_of (memory_with m (InvOf d) (Invocation i)) x ≡ i)) ⊎ ((x ≢ d) × (inv_of (memory_with m (InvOf d) (Invocation i)) x ≡ inv_of m x))
  inv_of-memory_with i = elim (name_cases x d) [ inl h ↦ inl (h.0, rw h.1 refl) | inr h ↦ inr (h.0, rw h.1 refl) ]

-- two numbers are one, or they aren't
pub number_cases : (q p : ℕ) → ((q ≡ p) × (nat_eq q p ≡ true)) ⊎ ((q ≢ p) × (nat_eq q p ≡ false))
number_cases q p = by_test (nat_eq q p) refl where
  by_test : (b : Bool) → nat_eq q p ≡ b → ((q ≡ p) × (nat_eq q p ≡ true)) ⊎ ((q ≢ p) × (nat_eq q p ≡ false))
  by_test true e = inl (grind (arith, nat_tests), e)
  by_test false e = inr (grind (arith, nat_tests), e)

module _ {S I R : Type 0} (m : Memory S I R) (p q : ℕ) (x : Name) where
  pub head_of-memory_with : ((q ≡ p) × (head_of (memory_with m (HeadOf p) (CellName x)) q ≡ x)) ⊎ ((q ≢ p) × (head_of (memory_with m (HeadOf p) (CellName x)) q ≡ head_of m q))
  head_of-memory_with = elim (number_cases q p) [ inl h ↦ inl (h.0, rw h.1 refl) | inr h ↦ inr (h.0, rw h.1 refl) ]

  pub announce_of-memory_with : ((q ≡ p) × (announce_of (memory_with m (Announced p) (CellName x)) q ≡ x)) ⊎ ((q ≢ p) × (announce_of (memory_with m (Announced p) (CellName x)) q ≡ announce_of m q))
  announce_of-memory_with = elim (number_cases q p) [ inl h ↦ inl (h.0, rw h.1 refl) | inr h ↦ inr (h.0, rw h.1 refl) ]

pub set_at-cases : {A : Type 0} (f : ℕ → A) (p : ℕ) (v : A) (q : ℕ) → ((q ≡ p) × (set_at f p v q ≡ v)) ⊎ ((q ≢ p) × (set_at f p v q ≡ f q))
set_at-cases f p v q = elim (number_cases q p) [ inl h ↦ inl (h.0, rw h.1 refl) | inr h ↦ inr (h.0, rw h.1 refl) ]

-- one number is below another, or it isn't
pub lt_cases : (q p : ℕ) → ((q < p) × (nat_lt q p ≡ true)) ⊎ ((p ≤ q) × (nat_lt q p ≡ false))
lt_cases q p = by_test (nat_lt q p) refl where
  by_test : (b : Bool) → nat_lt q p ≡ b → ((q < p) × (nat_lt q p ≡ true)) ⊎ ((p ≤ q) × (nat_lt q p ≡ false))
  by_test true e = inl (grind (arith, nat_tests), e)
  by_test false e = inr (grind (arith, nat_tests), e)

pub place_eq_true : (x y : Place) → place_eq x y ≡ true → x ≡ y
place_eq_true (Announced p) (Announced q) e = let same : p ≡ q = grind (arith, nat_tests) in ap Announced same
place_eq_true (HeadOf p) (HeadOf q) e = let same : p ≡ q = grind (arith, nat_tests) in ap HeadOf same
place_eq_true (InvOf x) (InvOf y) e = ap InvOf (name_eq_true x y e)
place_eq_true (SeqOf x) (SeqOf y) e = ap SeqOf (name_eq_true x y e)
place_eq_true (AfterOf x) (AfterOf y) e = ap AfterOf (name_eq_true x y e)
place_eq_true (NewOf x) (NewOf y) e = ap NewOf (name_eq_true x y e)
place_eq_true (BeforeOf x) (BeforeOf y) e = ap BeforeOf (name_eq_true x y e)
place_eq_true _ _ e = cc

-- a place to which is written what it contains
module _ {S I R : Type 0} (m : Memory S I R) (place : Place) where
  same_at : (x : Place) → memory_with m place (m place) x ≡ m x
  same_at x = by_test (place_eq x place) refl where
    by_test : (b : Bool) → place_eq x place ≡ b → cond b (m place) (m x) ≡ m x
    by_test true e = ap m (sym (place_eq_true x place e))
    by_test false e = refl

  pub written_same : memory_with m place (m place) ≡ m
  written_same = λ i x. same_at x i
