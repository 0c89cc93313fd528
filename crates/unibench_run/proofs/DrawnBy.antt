-- What is drawn from words, and the seeds of jobs by their places.
use Rattle.unibench_run.proofs.Vocabulary.{List, None, Some, [], add-zero, ap, arith, cond, count_by, drawn_by, drawn_from, false, length, length-append, map, map-append, map-range_with_len_more, range_with_len, refl, seed_of, seeded_word, slice_get, slice_get-index, slice_get-map, slice_index_or, subst, suc, sum_by-cons, sym, zero, zero-add, ℕ, ◌++◌, ◌+◌, ◌<◌, ◌==◌, ◌∙◌, ◌∷◌, ◌≡◌}
use Rattle.std.proofs.lemmas.Bool.Decides.{nat_tests}

-- one word more
pub drawn-more : {I : Type 0} (read : ℕ → I) (word : ℕ → ℕ) (count : ℕ) → drawn_from read word (count + 1) ≡ drawn_from read word count ++ read (word count) ∷ []
drawn-more read word count = map-range_with_len_more (λ i. read (word i)) 0 count count (zero-add count)

-- one more is asked for, by the next word of a generator
pub drawn-next : {I C : Type 0} (read : ℕ → I) (asks : C → I) (seed count word : ℕ) (old new : List C) (call : C) → map asks old ≡ drawn_by read seed count
    → new ≡ old ++ call ∷ [] → asks call ≡ read word → word ≡ seeded_word seed (count + 0) → map asks new ≡ drawn_by read seed (count + 1)
drawn-next read asks seed count word old new call before are asked is =
    ap (map asks) are ∙ map-append asks old (call ∷ []) ∙ ap (λ l. l ++ asks call ∷ []) before
    ∙ ap (λ i. drawn_by read seed count ++ i ∷ []) (asked ∙ ap read (is ∙ ap (seeded_word seed) (add-zero count)))
    ∙ sym (drawn-more read (seeded_word seed) count)

-- the words after the next one
pub words-after : (word word_after : ℕ → ℕ) (seed count : ℕ) → ((i : ℕ) → word i ≡ seeded_word seed (count + i)) → ((i : ℕ) → word_after i ≡ word (1 + i))
    → (i : ℕ) → word_after i ≡ seeded_word seed (count + 1 + i)
words-after word word_after seed count before next i =
    let on : count + (1 + i) ≡ count + 1 + i = omega arith in next i ∙ before (1 + i) ∙ ap (seeded_word seed) on

-- an element of a list by places
pub at_of_range : {A : Type 0} (f : ℕ → A) (a n i : ℕ) (x : A) → slice_get (map f (range_with_len a n)) i ≡ Some x → x ≡ f (a + i)
at_of_range f a zero i x e = absurd (let g : None ≡ Some x = e in cc)
at_of_range f a (suc n) zero x e = let g : Some (f a) ≡ Some x = e in let same : f a ≡ x = cc in let here : a ≡ a + 0 = omega arith in sym same ∙ ap f here
at_of_range f a (suc n) (suc i) x e = let on : a + 1 + i ≡ a + suc i = omega arith in at_of_range f (a + 1) n i x e ∙ ap f on

-- where a list is given by places, so is what is of the place of an element
pub of_place : {J A : Type 0} (f : J → A) (g : ℕ → A) (n : ℕ) (jobs : List J) → map f jobs ≡ map g (range_with_len 0 n)
    → (i : ℕ) (job : J) → i < length jobs → job ≡ slice_index_or jobs i job → f job ≡ g i
of_place f g n jobs are i job below here =
    at_of_range g 0 n i (f job) (subst (λ l. slice_get l i ≡ Some (f job)) are (slice_get-map f jobs i job (slice_get-index jobs i job below ∙ ap Some (sym here))))
    ∙ ap g (zero-add i)

-- one job more, with the seed of its place
pub one_more_seed : {J : Type 0} (seed_in : J → ℕ) (seed : ℕ) (jobs more : List J) (job : J) → more ≡ jobs ++ job ∷ [] → seed_in job ≡ seed_of seed (length jobs)
    → map seed_in jobs ≡ map (seed_of seed) (range_with_len 0 (length jobs)) → map seed_in more ≡ map (seed_of seed) (range_with_len 0 (length more))
one_more_seed seed_in seed jobs more job are its before =
    let long : length more ≡ length jobs + 1 = ap length are ∙ length-append jobs (job ∷ []) in
    ap (map seed_in) are ∙ map-append seed_in jobs (job ∷ []) ∙ ap (λ l. l ++ seed_in job ∷ []) before
    ∙ ap (λ s. map (seed_of seed) (range_with_len 0 (length jobs)) ++ s ∷ []) its
    ∙ sym (map-range_with_len_more (seed_of seed) 0 (length jobs) (length jobs) (zero-add (length jobs)))
    ∙ ap (λ n. map (seed_of seed) (range_with_len 0 n)) (sym long)

-- numbers that are all below n are none of them n
pub none_is : {S : Type 0} (f : S → ℕ) (n : ℕ) (seats : List S) → ((i : ℕ) (s : S) → slice_get seats i ≡ Some s → f s < n) → count_by (λ s. f s == n) seats ≡ 0
none_is f n [] below = refl
none_is f n (s ∷ ss) below =
    let less = below 0 s refl in
    let other : (f s == n) ≡ false = grind (arith, nat_tests) in
    let rest = none_is f n ss (λ i x at. below (suc i) x at) in
    sum_by-cons (λ x. cond (f x == n) 1 0) s ss ∙ ap (λ b. cond b 1 0 + count_by (λ x. f x == n) ss) other ∙ zero-add (count_by (λ x. f x == n) ss) ∙ rest
