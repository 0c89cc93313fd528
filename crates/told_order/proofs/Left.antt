-- How many calls of each list were made, and of all.
use Rattle.told_order.proofs.Vocabulary.{Global, List, None, Option, Some, Vec, [], ap, arith, length, map, next_of, option_and_then, refl, slice_get, slice_index, subst, suc, sum, sum_by, sum_by-cons, sym, vec_len, zero, ℕ, ◌+◌, ◌<◌, ◌∙◌, ◌∷◌, ◌≡◌, ◌≤◌}

get_below : {A : Type 0} (xs : List A) (i : ℕ) (x : A) → slice_get xs i ≡ Some x → i < length xs
get_below [] i x e = absurd (let f : None ≡ Some x = e in cc)
get_below (y ∷ ys) zero x e = omega arith
get_below (y ∷ ys) (suc i) x e = let h = get_below ys i x e in omega arith

module _ {A : Type 0} where
  -- how many calls there are, by what the lists hold
  pub sum_of_lists : (lists : List (Vec A Global)) → sum_by vec_len lists ≡ sum_by length (map (λ own. own.items) lists)
  sum_of_lists [] = refl
  sum_of_lists (own ∷ lists) =
      let same : vec_len own ≡ length own.items = (let is = own.ok.0 in omega (arith, is)) in
      sum_by-cons vec_len own lists ∙ ap (λ n. n + sum_by vec_len lists) same ∙ ap (λ n. length own.items + n) (sum_of_lists lists)
      ∙ sym (sum_by-cons (λ (list : List A). length list) own.items (map (λ own. own.items) lists))

  get_past : (xs : List A) (i : ℕ) → slice_get xs i ≡ None → length xs ≤ i
  get_past [] i e = omega arith
  get_past (y ∷ ys) zero e = absurd (cc)
  get_past (y ∷ ys) (suc i) e = let h = get_past ys i e in omega arith

  pub none_past : (xs : List A) (i : ℕ) → length xs ≤ i → slice_get xs i ≡ None
  none_past [] i h = refl
  none_past (x ∷ xs) zero h = absurd (omega arith)
  none_past (x ∷ xs) (suc i) h = none_past xs i (omega arith)

  -- no more of a list were made than it has
  abbrev pub Fits : List (List A) → List ℕ → Type 0
  Fits lists made = (p : ℕ) (own : List A) → slice_get lists p ≡ Some own → slice_index made p ≤ length own

  made-le : (lists : List (List A)) (made : List ℕ) → length made ≡ length lists → Fits lists made → sum made ≤ sum_by length lists
  made-le [] [] long fits = omega arith
  made-le [] (m ∷ made) long fits = absurd (omega (arith, long))
  made-le (own ∷ lists) [] long fits = absurd (omega (arith, long))
  made-le (own ∷ lists) (m ∷ made) long fits =
      let rest = made-le lists made (omega (arith, long)) (λ p other at. fits (suc p) other at) in
      let first = fits 0 own refl in
      let all = sum_by-cons (λ (list : List A). length list) own lists in
      let made_all = sum_by-cons (λ (n : ℕ). n) m made in
      omega (arith, rest, first, all, made_all)

  -- where as many were made as there are, each list's all were
  pub all_made : (lists : List (List A)) (made : List ℕ) → length made ≡ length lists → Fits lists made → sum made ≡ sum_by length lists
      → (p : ℕ) (own : List A) → slice_get lists p ≡ Some own → slice_index made p ≡ length own
  all_made [] made long fits same p own at = absurd (let f : None ≡ Some own = at in cc)
  all_made (first ∷ lists) [] long fits same p own at = absurd (omega (arith, long))
  all_made (first ∷ lists) (m ∷ made) long fits same zero own at =
      let is : first ≡ own = (let f : Some first ≡ Some own = at in cc) in
      let rest = made-le lists made (omega (arith, long)) (λ p other at. fits (suc p) other at) in
      let few = fits 0 first refl in
      let all = sum_by-cons (λ (list : List A). length list) first lists in
      let made_all = sum_by-cons (λ (n : ℕ). n) m made in
      let whole : m ≡ length first = omega (arith, rest, few, all, made_all, same) in
      whole ∙ ap length is
  all_made (first ∷ lists) (m ∷ made) long fits same (suc p) own at =
      let rest = made-le lists made (omega (arith, long)) (λ p other at. fits (suc p) other at) in
      let few = fits 0 first refl in
      let all = sum_by-cons (λ (list : List A). length list) first lists in
      let made_all = sum_by-cons (λ (n : ℕ). n) m made in
      all_made lists made (omega (arith, long)) (λ q other here. fits (suc q) other here) (omega (arith, rest, few, all, made_all, same)) p own at

  -- where no list has a next call, as many were made as there are
  none_left : (lists : List (List A)) (made : List ℕ) → length made ≡ length lists → ((p : ℕ) → next_of lists made p ≡ None) → sum_by length lists ≤ sum made
  none_left [] made long none = omega arith
  none_left (own ∷ lists) [] long none = absurd (omega (arith, long))
  none_left (own ∷ lists) (m ∷ made) long none =
      let rest = none_left lists made (omega (arith, long)) (λ p. none (suc p)) in
      let first = get_past own m (none 0) in
      let all = sum_by-cons (λ (list : List A). length list) own lists in
      let made_all = sum_by-cons (λ (n : ℕ). n) m made in
      omega (arith, rest, first, all, made_all)

  pub some_left : (lists : List (List A)) (made : List ℕ) → length made ≡ length lists → sum made < sum_by length lists → ¬ ((p : ℕ) → next_of lists made p ≡ None)
  some_left lists made long less none = let all = none_left lists made long none in omega (arith, all, less)

  -- the next call of a process is in its list
  pub next_in : (lists : List (List A)) (made : List ℕ) (p : ℕ) (call : A) → next_of lists made p ≡ Some call
      → (own : List A) × (slice_get lists p ≡ Some own) × (slice_get own (slice_index made p) ≡ Some call)
  next_in lists made p call next = by_list (slice_get lists p) refl next where
    by_list : (list : Option (List A)) → slice_get lists p ≡ list → option_and_then (λ own. slice_get own (slice_index made p)) list ≡ Some call
        → (own : List A) × (slice_get lists p ≡ Some own) × (slice_get own (slice_index made p) ≡ Some call)
    by_list None at is = absurd (let f : None ≡ Some call = is in cc)
    by_list (Some own) at is = (own, at, is)

  pub next_below : (lists : List (List A)) (made : List ℕ) (p : ℕ) (call : A) → next_of lists made p ≡ Some call → p < length lists
  next_below lists made p call next = let its = next_in lists made p call next in get_below lists p its.0 its.1

  pub next_room : (lists : List (List A)) (made : List ℕ) (p : ℕ) (call : A) (own : List A) → slice_get lists p ≡ Some own → next_of lists made p ≡ Some call
      → slice_index made p < length own
  next_room lists made p call own at next =
      let its = next_in lists made p call next in
      let same : its.0 ≡ own = (let f : Some its.0 ≡ Some own = sym its.1 ∙ at in cc) in
      subst (λ l. slice_index made p < length l) same (get_below its.0 (slice_index made p) call its.2)
