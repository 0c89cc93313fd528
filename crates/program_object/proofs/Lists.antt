-- Lists by their places.
use Rattle.program_object.proofs.Vocabulary.{List, None, Option, Some, [], ap, arith, length, min, refl, replicate, slice_get, slice_index, slice_index_or, slice_set, suc, sym, take, zero, ℕ, ◌++◌, ◌+◌, ◌<◌, ◌∙◌, ◌∷◌, ◌≡◌, ◌≤◌}
use Rattle.program_object.proofs.Vocabulary.{Instruction, most_in, most_of}

pub inside_at : {A : Type 0} (xs : List A) (i : ℕ) (x : A) → slice_get xs i ≡ Some x → i < length xs
inside_at [] i x h = cc
inside_at (y ∷ ys) zero x h = omega arith
inside_at (y ∷ ys) (suc i) x h = (let e = inside_at ys i x h in omega arith)

pub outside_at : {A : Type 0} (xs : List A) (i : ℕ) → slice_get xs i ≡ None → length xs ≤ i
outside_at [] i h = omega arith
outside_at (y ∷ ys) zero h = cc
outside_at (y ∷ ys) (suc i) h = (let e = outside_at ys i h in omega arith)

pub zeros : (xs : List ℕ) → ((i : ℕ) → i < length xs → slice_index xs i ≡ 0) → xs ≡ replicate (length xs) 0
zeros [] h = refl
zeros (x ∷ xs) h =
    let first : x ≡ 0 = h 0 (omega arith) in
    let others = zeros xs (λ i b. h (suc i) (omega arith)) in
    ap (λ y. y ∷ xs) first ∙ ap (λ ys. 0 ∷ ys) others

pub zero_at : (n i : ℕ) → slice_index (replicate n 0) i ≡ 0
zero_at zero i = refl
zero_at (suc n) zero = refl
zero_at (suc n) (suc i) = zero_at n i

-- the instructions up to one more
pub most_more : (code : List Instruction) (k : ℕ) (d : Instruction) → k < length code
    → most_in (take (suc k) code) ≡ most_in (take k code) + most_of (slice_index_or code k d)
most_more [] k d h = absurd (omega arith)
most_more (x ∷ xs) zero d h = omega arith
most_more (x ∷ xs) (suc k) d h = (let e = most_more xs k d (omega arith) in omega arith)

capped : (most a b s : ℕ) → s ≡ min a most → min (s + b) most ≡ min (a + b) most
capped most a b s e = omega arith

pub capped_more : (most : ℕ) (code : List Instruction) (k sum one result : ℕ) (d : Instruction) → k < length code → sum ≡ min (most_in (take k code)) most
    → one ≡ most_of (slice_index_or code k d) → result ≡ min (sum + one) most → result ≡ min (most_in (take (k + 1) code)) most
capped_more most code k sum one result d inside sum_is one_is result_is =
    let next : k + 1 ≡ suc k = omega arith in
    result_is ∙ capped most (most_in (take k code)) one sum sum_is
    ∙ ap (λ x. min (most_in (take k code) + x) most) one_is
    ∙ ap (λ x. min x most) (sym (most_more code k d inside))
    ∙ ap (λ j. min (most_in (take j code)) most) (sym next)

pub none_at : {A : Type 0} (xs : List A) (i : ℕ) → length xs ≤ i → slice_get xs i ≡ None
none_at [] i h = refl
none_at (y ∷ ys) zero h = absurd (omega arith)
none_at (y ∷ ys) (suc i) h = none_at ys i (omega arith)

pub some_at : {A : Type 0} (xs : List A) (i : ℕ) (d : A) → i < length xs → slice_get xs i ≡ Some (slice_index_or xs i d)
some_at [] i d h = absurd (omega arith)
some_at (y ∷ ys) zero d h = refl
some_at (y ∷ ys) (suc i) d h = some_at ys i d (omega arith)

-- one more at a place makes no place less
pub more_at : (xs : List ℕ) (t u : ℕ) → slice_index xs u ≤ slice_index (slice_set xs t (slice_index xs t + 1)) u
more_at [] t u = omega arith
more_at (x ∷ xs) zero zero = omega arith
more_at (x ∷ xs) zero (suc u) = omega arith
more_at (x ∷ xs) (suc t) zero = omega arith
more_at (x ∷ xs) (suc t) (suc u) = more_at xs t u

pub one_more : (xs : List ℕ) (t : ℕ) → t < length xs → slice_index (slice_set xs t (slice_index xs t + 1)) t ≡ slice_index xs t + 1
one_more [] t h = absurd (omega arith)
one_more (x ∷ xs) zero h = refl
one_more (x ∷ xs) (suc t) h = one_more xs t (omega arith)

-- what holds of each place of a list holds of one more
pub pushed_each : {A : Type 0} (xs : List A) (x : A) (f : ℕ → Option A) → ((k : ℕ) → k < length xs → f k ≡ slice_get xs k) → f (length xs) ≡ Some x
    → (k : ℕ) → k < length xs + 1 → f k ≡ slice_get (xs ++ x ∷ []) k
pushed_each [] x f h e zero b = e
pushed_each [] x f h e (suc k) b = absurd (omega arith)
pushed_each (y ∷ ys) x f h e zero b = h 0 (omega arith)
pushed_each (y ∷ ys) x f h e (suc k) b = pushed_each ys x (λ j. f (suc j)) (λ j c. h (suc j) (omega arith)) e k (omega arith)
