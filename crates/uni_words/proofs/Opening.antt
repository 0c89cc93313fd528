-- The table at the start meets the rule.
use Rattle.uni_words.proofs.Vocabulary.{AfterOf, Anchor, Announced, BeforeOf, CellName, Contains, CountsSteps-opened_world, HeadOf, HelpingInvariant-opened_world, InvOf, IsLocal, IsShown, LeadsTo, Link, List, Name, NewOf, None, Number, Of, Option, Place, SeqOf, Sequential, Settled, ShowsRun, Some, Tells, View, [], acts_in_view, anchor_memory, ap, arith, content_of, div-mul-add, first_view, first_words, get_elem?, inl, inr, length, length-replicate, length-set, link_of, lt_cases, memory_of, memory_with, name_of, new_of, no_calls, opened, opening, option_map_or, refl, replicate, settled_at, settled_word, slice_get, slice_index, slice_set, some, some-injective, some-ne-none, start_of, state_in, subst, suc, sym, word_at, word_of, words_of, zero, ℕ, ◌*◌, ◌+◌, ◌<◌, ◌^◌, ◌∙◌, ◌∷◌, ◌≡◌}
use Rattle.uni_words.specs.Execution.Execution.{Ends}
use Rattle.uni_words.proofs.Locality.{words_written}

anchor_code : (s : ℕ) → settled_at Anchor (settled_word s 0) ≡ Some (s, None)
anchor_code s =
    let whole : settled_word s 0 ≡ s * 4294967296 + 1 = omega arith in
    let state : state_in (settled_word s 0) ≡ s = rw whole (div-mul-add s 4294967296 1 (omega arith)) in
    let positive : settled_word s 0 ≡ suc (4294967296 * s) = omega arith in
    subst (λ x. settled_at Anchor x ≡ Some (state_in x, None)) (sym positive) refl ∙ ap (λ (x : ℕ). Some (x, None)) state

zero_at : (l k : ℕ) → slice_index (replicate l 0) k ≡ 0
zero_at zero k = refl
zero_at (suc l) zero = refl
zero_at (suc l) (suc k) = zero_at l k

module _ (object : Sequential ℕ ℕ ℕ) (n row : ℕ) (below : object.initial < 2 ^ 31) where
  abbrev i : ℕ
  i = start_of n row 3

  abbrev j : ℕ
  j = start_of n row 6

  seq_word : word_of n row (SeqOf Anchor) ≡ Some i
  seq_word = ap Some (let none : start_of n row 3 + 0 ≡ start_of n row 3 = omega arith in none)

  new_word : word_of n row (NewOf Anchor) ≡ Some j
  new_word = ap Some (let none : start_of n row 6 + 0 ≡ start_of n row 6 = omega arith in none)

  abbrev words : List ℕ
  words = first_words n row object.initial

  at_zero : (x : Place) → word_at n row (replicate (words_of n row) 0) x ≡ 0
  at_zero x = by_word (word_of n row x) where
    by_word : (o : Option ℕ) → option_map_or (slice_index (replicate (words_of n row) 0)) o 0 ≡ 0
    by_word None = refl
    by_word (Some k) = zero_at (words_of n row) k

  long : length {A = ℕ} (replicate (words_of n row) 0) ≡ words_of n row
  long = length-replicate {A = ℕ} (words_of n row) 0

  opened_memory : memory_of n row words (λ p. 0) ≡ anchor_memory object.initial 1
  opened_memory = words_written n row (slice_set (replicate (words_of n row) 0) i 1) (length-set _ i 1 ∙ long) (NewOf Anchor) j new_word (settled_word object.initial 0) (λ p. 0) tt
      ∙ (ap (λ m. memory_with m (NewOf Anchor) (content_of n (NewOf Anchor) (settled_word object.initial 0)))
      (words_written n row (replicate (words_of n row) 0) long (SeqOf Anchor) i seq_word 1 (λ p. 0) tt)
      ∙ (λ k x. at_place x k)) where
        at_place : (x : Place) → memory_with (memory_with (memory_of n row (replicate (words_of n row) 0) (λ p. 0)) (SeqOf Anchor) (Number 1)) (NewOf Anchor) (Settled (settled_at Anchor (settled_word object.initial 0))) x
            ≡ anchor_memory object.initial 1 x
        at_place (Announced p) = ap (λ u. CellName (name_of n u)) (at_zero (Announced p))
        at_place (HeadOf p) = ap (λ u. CellName (name_of n u)) (at_zero (HeadOf p))
        at_place (InvOf Anchor) = refl
        at_place (InvOf (Of p k)) = elim (lt_cases k 0) [ inl a ↦ absurd (let h = a.0 in omega arith) | inr a ↦ rw a.1 refl ]
        at_place (SeqOf Anchor) = refl
        at_place (SeqOf (Of p k)) = ap (λ u. Number u) (at_zero (SeqOf (Of p k)))
        at_place (AfterOf x) = ap (λ u. Link (link_of n u)) (at_zero (AfterOf x))
        at_place (NewOf Anchor) = ap (λ o. Settled o) (anchor_code object.initial)
        at_place (NewOf (Of p k)) = ap (λ u. Settled (settled_at (Of p k) u)) (at_zero (NewOf (Of p k)))
        at_place (BeforeOf x) = ap (λ u. Link (link_of n u)) (at_zero (BeforeOf x))

  new_fits : (y : Name) (u : ℕ × Option ℕ) → new_of (anchor_memory {S = ℕ} {I = ℕ} {R = ℕ} object.initial 1) y ≡ Some u → u.0 < 2 ^ 31
  new_fits Anchor u e = let f : (object.initial, None) ≡ u = cc in subst (λ (k : ℕ × Option ℕ). k.0 < 2 ^ 31) f below
  new_fits (Of p k) u e = absurd (let f : None ≡ Some u = e in cc)

  nothing_there : {A B : Type 0} (k : ℕ) (c : A) → slice_get [] k ≡ Some c → B
  nothing_there k c e = absurd (let f : None ≡ Some c = e in cc)

  first_local : (q : ℕ) → q < n → IsLocal (opened object n) q no_calls
  first_local q inside = record { inside = inside; call = refl; begun = refl; steps = refl; turns = refl; underway = tt; counted = refl; own = λ k c e. nothing_there k c e; number = refl }

  pub only_seat : (id : ℕ) (v : View) → get_elem? (first_view n row ∷ []) id ≡ some v → (id ≡ 0) × (first_view n row ≡ v)
  only_seat zero v e = (refl, some-injective _ _ e)
  only_seat (suc id) v e = absurd (some-ne-none v (sym e))

  opening_seats : (id : ℕ) (v : View) → get_elem? (first_view n row ∷ []) id ≡ some v → Tells (opened object n) (λ p. 0) row id v.known
  opening_seats id v e =
      let h = only_seat id v e in
      subst (λ k. Tells (opened object n) (λ p. 0) row k v.known) (sym h.0)
      (subst (λ (z : View). Tells (opened object n) (λ p. 0) row 0 z.known) h.1
      (record { processes = λ any. refl; calls = λ any. refl; several = λ two. refl; each = λ q from to. (refl, first_local q (omega arith)); taken = λ c has. absurd (let k = has.1 in omega arith) }))

  pub opening_shown : IsShown object row (opened object n) (opening {S = ℕ} words [] (first_view n row))
  opening_shown = record {
    words = record {
      wide = length-set _ j (settled_word object.initial 0) ∙ (length-set _ i 1 ∙ long);
      memory = sym opened_memory;
      number = refl;
      state = refl;
      room = λ p. omega arith;
      fits = new_fits;
    };
    seats = record { owner = λ p. 0; each = opening_seats };
    sound = HelpingInvariant-opened_world object n object.initial 1 (omega arith);
    counts = CountsSteps-opened_world object n object.initial 1;
  }

  pub opening_leads : LeadsTo object n [] (opened object n) (first_view n row ∷ [])
  opening_leads = record {
    accepted = tt;
    one_era = tt;
    reached = refl;
    acts = λ id v e p among. let h = only_seat id v e in subst (λ (z : View). [] ≡ acts_in_view p z.known) h.1 refl;
    taken = λ id v e c has. absurd (let h = only_seat id v e in let none : Contains (first_view n row).known.taken c = subst (λ (z : View). Contains z.known.taken c) (sym h.1) has in let k = none.1 in omega arith);
    seen = λ id v e t has. absurd (let h = only_seat id v e in let none : Contains (first_view n row).known.seen t = subst (λ (z : View). Contains z.known.seen t) (sym h.1) has in let k = none.1 in omega arith);
  }

pub opening_shows : (object : Sequential ℕ ℕ ℕ) (n row : ℕ) → object.initial < 2 ^ 31 → ShowsRun object n row (opening {S = ℕ} (first_words n row object.initial) [] (first_view n row))
opening_shows object n row below = (opened object n, refl, opening_shown object n row below, ([], opening_leads object n row below, (Ends, refl, refl)))

-- the words as the code writes them
pub words_made : (xs : List ℕ) (n row s start : ℕ) → xs ≡ replicate (words_of n row) 0 → s ≡ start
    → slice_set (slice_set xs (2 * n + (n * row + 1)) 1) (2 * n + 4 * (n * row + 1)) (1 + 4294967296 * s) ≡ first_words n row start
words_made xs n row s start e f =
    let i : 2 * n + (n * row + 1) ≡ start_of n row 3 = omega arith in
    let j : 2 * n + 4 * (n * row + 1) ≡ start_of n row 6 = omega arith in
    let v : 1 + 4294967296 * s ≡ settled_word start 0 = omega (arith, f) in
    ap (λ ys. slice_set (slice_set ys (2 * n + (n * row + 1)) 1) (2 * n + 4 * (n * row + 1)) (1 + 4294967296 * s)) e
    ∙ ap (λ x. slice_set (slice_set (replicate (words_of n row) 0) x 1) (2 * n + 4 * (n * row + 1)) (1 + 4294967296 * s)) i
    ∙ ap (λ x. slice_set (slice_set (replicate (words_of n row) 0) (start_of n row 3) 1) x (1 + 4294967296 * s)) j
    ∙ ap (λ x. slice_set (slice_set (replicate (words_of n row) 0) (start_of n row 3) 1) (start_of n row 6) x) v
