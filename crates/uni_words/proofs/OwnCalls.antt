-- The calls of a seat's process in the log are the seat's own calls.
use Rattle.uni_words.proofs.Vocabulary.{Anchor, HasOutcome, IsShown, IsSound, List, Name, None, Of, Option, Sequential, Some, State, View, WorldOf, [], after_of, ap, arith, calls_by, calls_in_era, cells_from, cond, drop, drop_all, enough, entries_from, era_calls, inl, inr, inv_of, invoked_at, length, log_of, lt_cases, map, number_cases, option_map_or, refl, replied, response_in, slice_get, subst, suc, sum_below-bound, sym, zero, ℕ, ◌*◌, ◌+◌, ◌<◌, ◌==◌, ◌∙◌, ◌∷◌, ◌≡◌, ◌≢◌, ◌≤◌}
use Rattle.uni_words.proofs.Closing.{log_is}
use Rattle.uni_words.proofs.Underway.{there_below}

pub drop-here : {A : Type 0} (l : List A) (i : ℕ) (a : A) → slice_get l i ≡ Some a → drop i l ≡ a ∷ drop (suc i) l
drop-here [] i a e = absurd (let f : None ≡ Some a = e in cc)
drop-here (x ∷ xs) zero a e = let same : x ≡ a = (let f : Some x ≡ Some a = e in cc) in ap (λ y. y ∷ xs) same
drop-here (x ∷ xs) (suc i) a e = drop-here xs i a e

-- a process that has no call pending, with the calls that it was given replies to
module _ (object : Sequential ℕ ℕ ℕ) (row : ℕ) (w : WorldOf ℕ ℕ ℕ) (s : State ℕ View) (is : IsShown object row w s)
    (p : ℕ) (own : List (ℕ × ℕ)) (all_returned : w.begun p ≡ length own)
    (returned : (j : ℕ) (c : ℕ × ℕ) → slice_get own j ≡ Some c → HasOutcome w.memory (Of p j) c.0 c.1) where
  abbrev num : Name → ℕ
  num = is.sound.0

  abbrev last : ℕ
  last = is.sound.1

  sound : IsSound object w is.sound.0 is.sound.1
  sound = is.sound.2

  own_linked : (k : ℕ) → k < length own → 1 ≤ num (Of p k)
  own_linked k below =
      let c = there_below own k below in
      let threaded = (returned k c.0 c.1).threaded in
      subst (λ t. 1 ≤ t) (sound.numbered.seq (Of p k) threaded) threaded

  -- of the own calls, those before i are linked at x or before it, and the others after it
  record AreAround (x : Name) (i : ℕ) : Type 0 where
    pub before : (k : ℕ) → k < i → num (Of p k) ≤ num x
    pub after : (k : ℕ) → i ≤ k → k < length own → num x < num (Of p k)

  -- where no cell comes after x, there is no further own call
  at_end : (x : Name) (i : ℕ) → 1 ≤ num x → AreAround x i → (num x < last → ⊥) → [] ≡ map replied (drop i own)
  at_end x i linked around end = elim (lt_cases i (length own)) [
    | inl less ↦ absurd (
        let more = around.after i (omega arith) less.0 in
        let top = sound.numbered.greatest (Of p i) in
        end (omega arith))
    | inr done ↦ sym (ap (map replied) (drop_all i own done.0))
  ]

  -- the next cell is that of the next own call
  next_is : (x : Name) (i k : ℕ) → 1 ≤ num x → AreAround x i → num (Of p k) ≡ num x + 1 → (k ≡ i) × (i < length own)
  next_is x i k linked around number =
      let its = sound.calls.begun p k (sound.calls.linked p k (omega arith)) in
      let all = all_returned in
      let below : k < length own = (let b = its.2 in omega arith) in
      let not_less : i ≤ k = elim (lt_cases k i) [ inl a ↦ absurd (let h = around.before k a.0 in omega arith) | inr a ↦ a.0 ] in
      elim (lt_cases i k) [
        | inl less ↦ absurd (
            let rest = around.after i (omega arith) (let l = less.0 in omega arith) in
            let order = sound.calls.order p i k less.0 (own_linked i (let l = less.0 in omega arith)) (omega arith) in
            omega arith)
        | inr more ↦ (let m = more.0 in omega arith, let m = more.0 in omega arith)
      ]

  around_next : (x : Name) (i : ℕ) → AreAround x i → num (Of p i) ≡ num x + 1 → i < length own → AreAround (Of p i) (suc i)
  around_next x i around number below = record {
    before = λ k less. elim (lt_cases k i) [
      | inl a ↦ (let h = around.before k a.0 in omega arith)
      | inr a ↦ (let same : k ≡ i = (let b = a.0 in omega arith) in subst (λ j. num (Of p j) ≤ num (Of p i)) (sym same) (omega arith))
    ];
    after = λ k more inside. sound.calls.order p i k (omega arith) (own_linked i below) (own_linked k inside);
  }

  around_other : (x : Name) (i q j : ℕ) → q ≢ p → 1 ≤ num x → AreAround x i → num (Of q j) ≡ num x + 1 → AreAround (Of q j) i
  around_other x i q j apart linked around number = record {
    before = λ k less. (let h = around.before k less in omega arith);
    after = λ k more inside. elim (number_cases (num (Of p k)) (num (Of q j))) [
      | inl same ↦ absurd (let e : Of p k ≡ Of q j = sound.numbered.one_each (Of p k) (Of q j) (own_linked k inside) same.0 in apart (let f : p ≡ q = cc in sym f))
      | inr other ↦ (let h = around.after k more inside in let o = other.0 in omega arith)
    ];
  }

  -- what is said of the cells after a further one
  abbrev Rest : (most number : ℕ) → Type 0
  Rest most number = (y : Name) (j : ℕ) → 1 ≤ num y → last ≤ num y + most → AreAround y j → calls_by p (entries_from w.memory (number + 1) (cells_from most w.memory y)) ≡ map replied (drop j own)

  rest_is : (most number : ℕ) (x : Name) (i : ℕ) → 1 ≤ num x → last ≤ num x + most → AreAround x i
      → calls_by p (entries_from w.memory number (cells_from most w.memory x)) ≡ map replied (drop i own)
  rest_is zero number x i linked bound around = at_end x i linked around (λ less. omega arith)
  rest_is (suc most) number x i linked bound around = by_after (λ y j l b a. rest_is most (number + 1) y j l b a) (after_of w.memory x) refl where
    by_call : Rest most number → (q k : ℕ) → num (Of q k) ≡ num x + 1 → (inv : ℕ) → inv_of w.memory (Of q k) ≡ Some inv
        → cond (q == p) ((inv, response_in w.memory (Of q k)) ∷ calls_by p (entries_from w.memory (number + 1) (cells_from most w.memory (Of q k)))) (calls_by p (entries_from w.memory (number + 1) (cells_from most w.memory (Of q k))))
        ≡ map replied (drop i own)
    by_call rest q k n inv asked = elim (number_cases q p) [
      | inl same ↦
          let mine : num (Of p k) ≡ num x + 1 = ap (λ r. num (Of r k)) (sym same.0) ∙ n in
          let next = next_is x i k linked around mine in
          let its : Of q k ≡ Of p i = ap (λ r. Of r k) same.0 ∙ ap (Of p) next.0 in
          let c = there_below own i next.1 in
          let its_return = returned i c.0 c.1 in
          let inv_same : inv ≡ c.0.0 = (let e = ap (inv_of w.memory) its in let f = its_return.inv_is in cc) in
          let reply_same : response_in w.memory (Of q k) ≡ Some c.0.1 = ap (response_in w.memory) its ∙ its_return.reply_is in
          let number_i : num (Of p i) ≡ num x + 1 = ap num (sym its) ∙ n in
          let further : calls_by p (entries_from w.memory (number + 1) (cells_from most w.memory (Of q k))) ≡ map replied (drop (suc i) own)
          = ap (λ y. calls_by p (entries_from w.memory (number + 1) (cells_from most w.memory y))) its
          ∙ rest (Of p i) (suc i) (omega arith) (omega arith) (around_next x i around number_i next.1) in
          rw same.1 (ap (λ y. (y, response_in w.memory (Of q k)) ∷ calls_by p (entries_from w.memory (number + 1) (cells_from most w.memory (Of q k)))) inv_same
          ∙ ap (λ r. (c.0.0, r) ∷ calls_by p (entries_from w.memory (number + 1) (cells_from most w.memory (Of q k)))) reply_same
          ∙ ap (λ l. (c.0.0, Some c.0.1) ∷ l) further
          ∙ sym (ap (map replied) (drop-here own i c.0 c.1)))
      | inr other ↦ rw other.1 (rest (Of q k) i (omega arith) (omega arith) (around_other x i q k other.0 linked around n))
    ]

    by_name : Rest most number → (y : Name) → num y ≡ num x + 1
        → calls_by p (option_map_or (λ call. record { number = number; call = call; response = response_in w.memory y } ∷ entries_from w.memory (number + 1) (cells_from most w.memory y)) (invoked_at w.memory y) []) ≡ map replied (drop i own)
    by_name rest Anchor n = absurd (let least = sound.numbered.least x linked in omega arith)
    by_name rest (Of q k) n =
        let asked = sound.calls.linked q k (omega arith) in
        rw asked.1 (by_call rest q k n asked.0 asked.1)

    by_after : Rest most number → (o : Option Name) → after_of w.memory x ≡ o
        → calls_by p (entries_from w.memory number (option_map_or (λ y. y ∷ cells_from most w.memory y) o [])) ≡ map replied (drop i own)
    by_after rest None e = at_end x i linked around (λ less. let more = sound.numbered.goes_on x linked less in let f = more.1 in cc)
    by_after rest (Some y) e = by_name rest y (sound.numbered.link x y e).1

  -- before the chain, all own calls are still to come
  around_anchor : AreAround Anchor 0
  around_anchor = record {
    before = λ k less. absurd (omega arith);
    after = λ k more inside.
        let linked = own_linked k inside in
        let least = sound.numbered.least (Of p k) linked in
        elim (number_cases (num Anchor) (num (Of p k))) [
          | inl same ↦ absurd (let e : Anchor ≡ Of p k = sound.numbered.one_each Anchor (Of p k) sound.numbered.first same.0 in cc)
          | inr other ↦ (let o = other.0 in omega arith)
        ];
  }

  pub own_is : calls_by p (log_of w.n row s.words) ≡ map replied own
  own_is =
      let all = enough object w is.sound.0 is.sound.1 sound in
      let each : era_calls w ≤ w.n * row = sum_below-bound w.n row (calls_in_era w) (λ q. let few = is.words.room q in omega arith) in
      ap (calls_by p) (log_is object row w s is) ∙ rest_is (w.n * row) 2 Anchor 0 sound.numbered.first (omega arith) around_anchor
