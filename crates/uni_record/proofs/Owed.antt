-- What pending calls are owed: after a call was begun, after a step, where nobody has one.
use Rattle.uni_record.proofs.Vocabulary.{IsQuiescent, None, Option, Pending, Sequential, Some, WorldOf, ap, arith, cases_lt, inl, inr, option_map_or, owed, owed_by, pending_count, refl, set_aside, set_at, set_at_elsewhere, suc, sum_below, world_after_call, world_after_step, zero, ℕ, ◌*◌, ◌+◌, ◌-◌, ◌<◌, ◌∙◌, ◌≡◌, ◌≢◌, ◌≤◌}
use Rattle.uni_model.proofs.Written.{set_at-cases}
use Rattle.uni_model.proofs.Sums.{sum_below-le, sum_below-lt}

-- sums that differ at one place
sum_below-same : (n : ℕ) (f g : ℕ → ℕ) → ((q : ℕ) → q < n → f q ≡ g q) → sum_below n f ≡ sum_below n g
sum_below-same zero f g each = refl
sum_below-same (suc n) f g each =
    let rest : sum_below n f ≡ sum_below n g = sum_below-same n f g (λ q h. each q (omega arith)) in
    let here : f n ≡ g n = each n (omega arith) in omega arith

sum_below-at : (n : ℕ) (f g : ℕ → ℕ) (o : ℕ) → o < n → ((q : ℕ) → q ≢ o → f q ≡ g q) → sum_below n g + f o ≡ sum_below n f + g o
sum_below-at zero f g o inside each = absurd (omega arith)
sum_below-at (suc n) f g o inside each =
    elim (cases_lt o n) [
      | inl before ↦
          let rest : sum_below n g + f o ≡ sum_below n f + g o = sum_below-at n f g o before each in
          let here : f n ≡ g n = each n (λ e. omega arith) in omega arith
      | inr not_before ↦
          let last : o ≡ n = omega arith in
          let rest : sum_below n f ≡ sum_below n g = sum_below-same n f g (λ q h. each q (λ e. omega arith)) in
          let f_there : f o ≡ f n = ap f last in
          let g_there : g o ≡ g n = ap g last in omega arith
    ]

sum_below-zero : (n : ℕ) → sum_below n (λ p. 0) ≡ 0
sum_below-zero zero = refl
sum_below-zero (suc n) = let rest = sum_below-zero n in omega arith

sum_below-each : (n m : ℕ) → sum_below n (λ p. m) ≡ n * m
sum_below-each zero m = omega arith
sum_below-each (suc n) m = let rest = sum_below-each n m in grind arith

-- what one process's call is owed
abbrev pub weight : (f : ℕ → ℕ) → Option Pending → ℕ → ℕ
weight f call steps = option_map_or (λ (c : Pending). f steps) call 0

pub weight-le : (f : ℕ → ℕ) (call : Option Pending) (steps : ℕ) → weight f call steps ≤ f steps
weight-le f None steps = omega arith
weight-le f (Some c) steps = omega arith

pub set_at_here : {A : Type 0} (f : ℕ → A) (p : ℕ) (v : A) → set_at f p v p ≡ v
set_at_here f p v = elim (set_at-cases f p v p) [ inl h ↦ h.1 | inr h ↦ absurd (h.0 refl) ]

module _ {S I R : Type 0} (f : ℕ → ℕ) (w : WorldOf S I R) where
  -- where nobody has a call pending
  pub owed-quiescent : IsQuiescent w → owed f w ≡ 0
  owed-quiescent quiet = sum_below-same w.n (owed_by f w) (λ p. 0) (λ p h. rw (quiet p h) refl) ∙ sum_below-zero w.n

  -- where one process has another call and another number of steps
  owed-at : (v : WorldOf S I R) (p : ℕ) (call : Option Pending) (steps : ℕ) → v.n ≡ w.n → p < w.n
      → v.call ≡ set_at w.call p call → v.steps ≡ set_at w.steps p steps
      → owed f v + weight f (w.call p) (w.steps p) ≡ owed f w + weight f call steps
  owed-at v p call steps n inside calls counts = rw (n, ← there) sums where
    same : (q : ℕ) → q ≢ p → owed_by f w q ≡ owed_by f v q
    same q apart = rw (calls, counts, set_at_elsewhere w.call p call q apart, set_at_elsewhere w.steps p steps q apart) refl

    there : owed_by f v p ≡ weight f call steps
    there = rw (calls, counts, set_at_here w.call p call, set_at_here w.steps p steps) refl

    sums : sum_below w.n (owed_by f v) + owed_by f w p ≡ sum_below w.n (owed_by f w) + owed_by f v p
    sums = sum_below-at w.n (owed_by f w) (owed_by f v) p inside same

  pub owed-begun : (p : ℕ) (i : I) → p < w.n → w.call p ≡ None → owed f (world_after_call w p i) ≡ owed f w + f 0
  owed-begun p i inside idle =
      let sums : owed f (world_after_call w p i) + weight f (w.call p) (w.steps p) ≡ owed f w + f 0 = owed-at (world_after_call w p i) p _ 0 refl inside refl refl in
      let nothing : weight f (w.call p) (w.steps p) ≡ 0 = rw idle refl in omega arith

  -- what is owed after a step: what the process's call was owed is replaced by what it is owed then
  pub owed-stepped : (object : Sequential S I R) (p : ℕ) (c : Pending) → p < w.n → w.call p ≡ Some c
      → owed f (world_after_step object w p (Some c)) + f (w.steps p) ≡ owed f w + weight f ((world_after_step object w p (Some c)).call p) (w.steps p + 1)
  owed-stepped object p c inside is =
      let mine : weight f (w.call p) (w.steps p) ≡ f (w.steps p) = rw is refl in
      let sums = owed-at (world_after_step object w p (Some c)) p _ (w.steps p + 1) refl inside refl refl in
      rw (← mine, set_at_here w.call p _) sums

-- all processes together have set aside no more than each could
pub set_aside-le : {S I R : Type 0} (w : WorldOf S I R) → set_aside w ≤ w.n * (10 * w.n + 12)
set_aside-le w =
    let aside = λ (steps : ℕ). 10 * w.n + 12 - steps in
    let sums = sum_below-le w.n (owed_by aside w) (λ p. 10 * w.n + 12) (λ p h. let less = weight-le aside (w.call p) (w.steps p) in omega (arith, less)) in
    let all = sum_below-each w.n (10 * w.n + 12) in omega (arith, sums, all)

-- where a process has no call pending, fewer calls are pending than there are processes
pub one_idle : {S I R : Type 0} (w : WorldOf S I R) (p : ℕ) → p < w.n → w.call p ≡ None → pending_count w + 1 ≤ w.n
one_idle w p inside idle =
    let here : owed_by (λ steps. 1) w p ≡ 0 = rw idle refl in
    let sums = sum_below-lt w.n (owed_by (λ steps. 1) w) (λ q. 1) (λ q h. weight-le (λ steps. 1) (w.call q) (w.steps q)) p inside (rw here (omega arith)) in
    let all = sum_below-each w.n 1 in omega arith
