-- Lists with one more element, and two lists with the same elements.
use Rattle.uni_small.proofs.Vocabulary.{Contains, List, None, Option, Some, [], ap, arith, drop, due_at, fold, get_elem?, get_or_from_slice_get, inl, inr, length, refl, slice_get, slice_get_within, slice_index, slice_index_or, slice_set, some, some-injective, some-ne-none, suc, suc-mul, sum, sym, zero, ℕ, ◌*◌, ◌++◌, ◌+◌, ◌<◌, ◌∙◌, ◌∷◌, ◌≡◌, ◌≢◌, ◌≤◌, ◌⊎◌}

pub index_snoc : (xs : List ℕ) (x j : ℕ) → j < length xs → slice_index (xs ++ x ∷ []) j ≡ slice_index xs j
index_snoc [] x j h = absurd (omega arith)
index_snoc (y ∷ xs) x zero h = refl
index_snoc (y ∷ xs) x (suc j) h = index_snoc xs x j (omega arith)

pub index_last : (xs : List ℕ) (x j : ℕ) → j ≡ length xs → slice_index (xs ++ x ∷ []) j ≡ x
index_last [] x zero e = refl
index_last [] x (suc j) e = absurd (omega arith)
index_last (y ∷ xs) x zero e = absurd (omega arith)
index_last (y ∷ xs) x (suc j) e = index_last xs x j (omega arith)

pub get_snoc : {A : Type 0} (xs : List A) (x : A) (j : ℕ) (y : A) → slice_get (xs ++ x ∷ []) j ≡ Some y → (slice_get xs j ≡ Some y) ⊎ ((j ≡ length xs) × (x ≡ y))
get_snoc [] x zero y e = inr (refl, cc)
get_snoc [] x (suc j) y e = absurd (let f = e in cc)
get_snoc (z ∷ xs) x zero y e = inl e
get_snoc (z ∷ xs) x (suc j) y e = elim (get_snoc xs x j y e) [ inl h ↦ inl h | inr h ↦ inr (ap suc h.0, h.1) ]

pub get_last : {A : Type 0} (xs : List A) (x : A) → slice_get (xs ++ x ∷ []) (length xs) ≡ Some x
get_last [] x = refl
get_last (y ∷ xs) x = get_last xs x

pub due_snoc : (seen : List (Option (List ℕ))) (o : Option (List ℕ)) (j : ℕ) → j < length seen → due_at (seen ++ o ∷ []) j ≡ due_at seen j
due_snoc [] o j h = absurd (omega arith)
due_snoc (None ∷ seen) o zero h = refl
due_snoc (Some i ∷ seen) o zero h = refl
due_snoc (None ∷ seen) o (suc j) h = due_snoc seen o j (omega arith)
due_snoc (Some i ∷ seen) o (suc j) h = due_snoc seen o j (omega arith)

pub due_last : (seen : List (Option (List ℕ))) (inv : List ℕ) (j : ℕ) → j ≡ length seen → due_at (seen ++ Some inv ∷ []) j ≡ 1
due_last [] inv zero e = refl
due_last [] inv (suc j) e = absurd (omega arith)
due_last (x ∷ seen) inv zero e = absurd (omega arith)
due_last (None ∷ seen) inv (suc j) e = due_last seen inv j (omega arith)
due_last (Some i ∷ seen) inv (suc j) e = due_last seen inv j (omega arith)

-- whatever words of an invocation are loaded, its process is due
pub due_same : (seen : List (Option (List ℕ))) (a b : List ℕ) (j : ℕ) → due_at (seen ++ Some a ∷ []) j ≡ due_at (seen ++ Some b ∷ []) j
due_same [] a b zero = refl
due_same [] a b (suc j) = refl
due_same (None ∷ seen) a b zero = refl
due_same (Some i ∷ seen) a b zero = refl
due_same (None ∷ seen) a b (suc j) = due_same seen a b j
due_same (Some i ∷ seen) a b (suc j) = due_same seen a b j

-- a process that is due was seen with an invocation
pub due_cases : (seen : List (Option (List ℕ))) (j : ℕ) → (due_at seen j ≡ 0) ⊎ ((inv : List ℕ) × (due_at seen j ≡ 1) × (slice_get seen j ≡ Some (Some inv)))
due_cases [] j = inl refl
due_cases (None ∷ seen) zero = inl refl
due_cases (Some i ∷ seen) zero = inr (i, refl, refl)
due_cases (None ∷ seen) (suc j) = due_cases seen j
due_cases (Some i ∷ seen) (suc j) = due_cases seen j

pub same_list : (xs ys : List ℕ) → length xs ≡ length ys → ((i : ℕ) → i < length xs → slice_index xs i ≡ slice_index ys i) → xs ≡ ys
same_list [] [] e h = refl
same_list [] (y ∷ ys) e h = absurd (omega arith)
same_list (x ∷ xs) [] e h = absurd (omega arith)
same_list (x ∷ xs) (y ∷ ys) e h =
    let first : x ≡ y = h 0 (omega arith) in
    let others : xs ≡ ys = same_list xs ys (omega arith) (λ i below. h (suc i) (omega arith)) in cc

-- a sum of numbers, each of which is at most m
pub sum_most : (m : ℕ) (xs : List ℕ) → ((i : ℕ) → i < length xs → slice_index xs i ≤ m) → sum xs ≤ length xs * m
sum_most m xs h = (let all : sum xs ≤ 0 + length xs * m = from 0 xs h in omega arith) where
  from : (a : ℕ) (ys : List ℕ) → ((i : ℕ) → i < length ys → slice_index ys i ≤ m) → fold (λ b x. b + x) a ys ≤ a + length ys * m
  from a [] k = omega arith
  from a (y ∷ ys) k =
      let here : y ≤ m = k 0 (omega arith) in
      let more : fold (λ b x. b + x) (a + y) ys ≤ (a + y) + length ys * m = from (a + y) ys (λ i below. k (suc i) (omega arith)) in
      let all : suc (length ys) * m ≡ length ys * m + m = suc-mul (length ys) m in
      omega arith

-- an element that is found in one way and in another
pub slice_index-get : (l : List ℕ) (i a : ℕ) → get_elem? l i ≡ some a → a ≡ slice_index l i
slice_index-get [] i a e = absurd (some-ne-none a (sym e))
slice_index-get (x ∷ xs) zero a e = sym (some-injective _ _ e)
slice_index-get (x ∷ xs) (suc i) a e = slice_index-get xs i a e

pub slice_get-index : {A : Type 0} (l : List A) (i : ℕ) (d : A) → i < length l → slice_get l i ≡ Some (slice_index_or l i d)
slice_get-index [] i d h = absurd (omega arith)
slice_get-index (x ∷ xs) zero d h = refl
slice_get-index (x ∷ xs) (suc i) d h = slice_get-index xs i d (omega arith)

pub get-contains : {A : Type 0} (xs : List A) (place : ℕ) (x : A) → slice_get xs place ≡ Some x → Contains xs x
get-contains xs place x e = (place, slice_get_within xs place x e, get_or_from_slice_get xs place x x e)

-- an element of two lists, one after the other
pub get-append : {A : Type 0} (xs ys : List A) (j : ℕ) (y : A) → slice_get (xs ++ ys) j ≡ Some y → (slice_get xs j ≡ Some y) ⊎ ((k : ℕ) × (j ≡ length xs + k) × (slice_get ys k ≡ Some y))
get-append [] ys j y e = inr (j, (let z : j ≡ 0 + j = omega arith in z), e)
get-append (x ∷ xs) ys zero y e = inl e
get-append (x ∷ xs) ys (suc j) y e = elim (get-append xs ys j y e) [ inl h ↦ inl h | inr h ↦ inr (h.0, (let i = h.1 in omega arith), h.2) ]

-- what was seen of another process
pub due-set : (seen : List (Option (List ℕ))) (p r : ℕ) (o : Option (List ℕ)) → r ≢ p → due_at (slice_set seen p o) r ≡ due_at seen r
due-set [] p r o apart = refl
due-set (x ∷ seen) zero zero o apart = absurd (apart refl)
due-set (None ∷ seen) zero (suc r) None apart = refl
due-set (None ∷ seen) zero (suc r) (Some i) apart = refl
due-set (Some j ∷ seen) zero (suc r) None apart = refl
due-set (Some j ∷ seen) zero (suc r) (Some i) apart = refl
due-set (None ∷ seen) (suc p) zero o apart = refl
due-set (Some j ∷ seen) (suc p) zero o apart = refl
due-set (None ∷ seen) (suc p) (suc r) o apart = due-set seen p r o (λ same. apart (ap suc same))
due-set (Some j ∷ seen) (suc p) (suc r) o apart = due-set seen p r o (λ same. apart (ap suc same))

pub due-here : (seen : List (Option (List ℕ))) (p : ℕ) (inv : List ℕ) → p < length seen → due_at (slice_set seen p (Some inv)) p ≡ 1
due-here [] p inv below = absurd (omega arith)
due-here (x ∷ seen) zero inv below = refl
due-here (None ∷ seen) (suc p) inv below = due-here seen p inv (omega arith)
due-here (Some j ∷ seen) (suc p) inv below = due-here seen p inv (omega arith)

pub get-set : {A : Type 0} (xs : List A) (p r : ℕ) (x y : A) → slice_get (slice_set xs p x) r ≡ Some y → ((r ≡ p) × (x ≡ y)) ⊎ ((r ≢ p) × (slice_get xs r ≡ Some y))
get-set [] p r x y e = absurd (let f = e in cc)
get-set (z ∷ xs) zero zero x y e = inl (refl, cc)
get-set (z ∷ xs) zero (suc r) x y e = inr ((λ same. omega arith), e)
get-set (z ∷ xs) (suc p) zero x y e = inr ((λ same. omega arith), e)
get-set (z ∷ xs) (suc p) (suc r) x y e = elim (get-set xs p r x y e) [ inl h ↦ inl (ap suc h.0, h.1) | inr h ↦ inr ((λ same. h.0 (omega arith)), h.1) ]

-- what was seen of a process, from one on
pub due-later : (x : Option (List ℕ)) (seen : List (Option (List ℕ))) (j : ℕ) → due_at (x ∷ seen) (suc j) ≡ due_at seen j
due-later None seen j = refl
due-later (Some i) seen j = refl

pub due-drop : (k : ℕ) (seen : List (Option (List ℕ))) (j : ℕ) → due_at (drop k seen) j ≡ due_at seen (k + j)
due-drop zero seen j = ap (due_at seen) (let e : j ≡ zero + j = omega arith in e)
due-drop (suc k) [] j = refl
due-drop (suc k) (x ∷ seen) j = due-drop k seen j ∙ sym (due-later x seen (k + j)) ∙ ap (due_at (x ∷ seen)) (let e : suc (k + j) ≡ suc k + j = omega arith in e)

-- nothing to apply was seen of one more process
pub due-none : (seen : List (Option (List ℕ))) (j : ℕ) → due_at (seen ++ None ∷ []) j ≡ due_at seen j
due-none [] zero = refl
due-none [] (suc j) = refl
due-none (None ∷ seen) zero = refl
due-none (Some i ∷ seen) zero = refl
due-none (None ∷ seen) (suc j) = due-none seen j
due-none (Some i ∷ seen) (suc j) = due-none seen j

-- a call of one more process was
pub due-elsewhere : (seen : List (Option (List ℕ))) (o : Option (List ℕ)) (j : ℕ) → j ≢ length seen → due_at (seen ++ o ∷ []) j ≡ due_at seen j
due-elsewhere [] o zero apart = absurd (apart refl)
due-elsewhere [] None (suc j) apart = refl
due-elsewhere [] (Some i) (suc j) apart = refl
due-elsewhere (None ∷ seen) o zero apart = refl
due-elsewhere (Some i ∷ seen) o zero apart = refl
due-elsewhere (None ∷ seen) o (suc j) apart = due-elsewhere seen o j (λ same. apart (ap suc same))
due-elsewhere (Some i ∷ seen) o (suc j) apart = due-elsewhere seen o j (λ same. apart (ap suc same))

-- and nothing more where it is forgotten
pub due-cleared : (seen : List (Option (List ℕ))) (p : ℕ) → due_at (slice_set seen p None) p ≡ 0
due-cleared [] p = refl
due-cleared (x ∷ seen) zero = refl
due-cleared (None ∷ seen) (suc p) = due-cleared seen p
due-cleared (Some j ∷ seen) (suc p) = due-cleared seen p
