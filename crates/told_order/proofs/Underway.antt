-- A replay that has come so far: the first so many calls of each list are made.
use Rattle.told_order.proofs.Vocabulary.{AreAnswered, ArePlaced, InPlace, IsBegun, IsFirstDifference, IsReplayed, IsSome, List, Made, None, NoneTellsPlace, Option, Sequential, Some, [], ap, append-nil, arith, asked_in, calls_by, get_or-set_other, get_or-set_same, inl, inr, length, length-append, length-replicate, length-set, map-append, next_of, number_cases, refl, replicate, slice_get, slice_get-append_cases, slice_index, slice_set, state_after, state_after-append, subst, suc, sum, sum_by, sum_by-set, sym, take, take_all, zero, ℕ, ◌++◌, ◌+◌, ◌<◌, ◌∙◌, ◌∷◌, ◌≡◌, ◌≢◌, ◌⊎◌}
use Rattle.std.proofs.lemmas.List.Folds.{sum_by-replicate}
use Rattle.seq_object.specs.declared.call_id.CallId.{CallId}
use Rattle.told_order.proofs.Left.{Fits, all_made, next_below, next_in, next_room, some_left}

calls_by-append : {C R : Type 0} → (p : ℕ) (xs ys : List (Made C R)) → calls_by p (xs ++ ys) ≡ calls_by p xs ++ calls_by p ys
calls_by-append p [] ys = refl
calls_by-append p (x ∷ xs) ys = elim (number_cases x.process p) [
  | inl own ↦ rw own.1 (ap (λ l. x.call ∷ l) (calls_by-append p xs ys))
  | inr other ↦ rw other.1 (calls_by-append p xs ys)
]

take-suc : {A : Type 0} → (xs : List A) (n : ℕ) (x : A) → slice_get xs n ≡ Some x → take (suc n) xs ≡ take n xs ++ x ∷ []
take-suc {A} [] n x e = absurd (let f : None ≡ Some x = e in cc)
take-suc {A} (y ∷ ys) zero x e = let same : y ≡ x = (let f : Some y ≡ Some x = e in cc) in ap (λ z. z ∷ []) same
take-suc {A} (y ∷ ys) (suc n) x e = ap (λ l. y ∷ l) (take-suc ys n x e)

take_further : {A : Type 0} → (xs : List A) (n : ℕ) (x : A) → slice_get xs n ≡ Some x → take (n + 1) xs ≡ take n xs ++ x ∷ []
take_further xs n x e = let next : n + 1 ≡ suc n = omega arith in ap (λ k. take k xs) next ∙ take-suc xs n x e

module _ {S I A C R : Type 0} (object : Sequential S I A) (asks : C → I) (tells : R → A) where
  -- one more call that was told the object's reply
  answered-append : (state : S) (order : List (Made C R)) (m : Made C R) → AreAnswered object asks tells state order
      → tells m.call.1.reply ≡ object.answer (state_after object state (asked_in asks order)) (asks m.call.0)
      → AreAnswered object asks tells state (order ++ m ∷ [])
  answered-append state [] m all right = (right, tt)
  answered-append state (x ∷ order) m all right = (all.0, answered-append (object.next state (asks x.call.0)) order m all.1 right)

  module _ (lists : List (List (C × InPlace R))) where
    pub record IsUnderway (made : List ℕ) (place : ℕ) (reached : S) : Type 0 where
      pub order : List (Made C R)
      pub begun : IsBegun object asks tells lists made order reached
      pub count : length order ≡ place
      pub long : length made ≡ length lists
      pub sum : sum made ≡ place
      pub fits : Fits lists made

    pub underway-start : (made : List ℕ) (reached : S) → made ≡ replicate (length lists) 0 → reached ≡ object.initial → IsUnderway made 0 reached
    underway-start made reached none first = record {
      order = [];
      begun = record {
        answered = tt;
        placed = λ k m at. absurd (let f : None ≡ Some m = at in cc);
        calls = λ p own at. ap (λ n. take n own) (sym (zero_at p));
        state = sym first;
      };
      count = refl;
      long = ap length none ∙ length-replicate (length lists) 0;
      sum = ap sum none ∙ (let zeros = sum_by-replicate (λ (n : ℕ). n) (length lists) 0 in omega (arith, zeros));
      fits = λ p own at. (let none_made = zero_at p in omega (arith, none_made));
    } where
      zeros_at : (n p : ℕ) → slice_index (replicate n 0) p ≡ 0
      zeros_at zero p = refl
      zeros_at (suc n) zero = refl
      zeros_at (suc n) (suc p) = zeros_at n p

      zero_at : (p : ℕ) → slice_index made p ≡ 0
      zero_at p = ap (λ l. slice_index l p) none ∙ zeros_at (length lists) p

    module _ (made : List ℕ) (place : ℕ) (reached : S) (at : IsUnderway made place reached) where
      pub underway-all : place ≡ sum_by length lists → IsReplayed object asks tells lists reached
      underway-all whole = record {
        order = at.order;
        answered = at.begun.answered;
        placed = at.begun.placed;
        calls = λ p own here. at.begun.calls p own here
            ∙ take_all (slice_index made p) own (let all = all_made lists made at.long at.fits (at.sum ∙ whole) p own here in omega (arith, all));
        state = at.begun.state;
      }

      pub underway-left : place < sum_by length lists → ¬ ((p : ℕ) → next_of lists made p ≡ None)
      underway-left less = some_left lists made at.long (let same = at.sum in omega (arith, same, less))

      module _ (p : ℕ) (call : C × InPlace R) (next : next_of lists made p ≡ Some call) where
        pub underway-differs : (id : CallId) → id.process ≡ p → id.nth ≡ slice_index made p
            → (tells call.1.reply ≢ object.answer reached (asks call.0)) ⊎ NoneTellsPlace lists made place → IsFirstDifference object asks tells lists id
        underway-differs id process nth wrong = record {
          made = made;
          order = at.order;
          before = reached;
          begun = at.begun;
          nth = nth ∙ ap (slice_index made) (sym process);
          own = call;
          next = ap (next_of lists made) process ∙ next;
          differs = elim wrong [
            | inl reply ↦ inl reply
            | inr none ↦ inr (subst (NoneTellsPlace lists made) (sym at.count) none)
          ];
        }

      pub underway-none : (id : CallId) → id.nth ≡ slice_index made id.process → IsSome (next_of lists made id.process) → NoneTellsPlace lists made place
          → IsFirstDifference object asks tells lists id
      underway-none id nth some none = by_next (next_of lists made id.process) refl some where
        by_next : (o : Option (C × InPlace R)) → next_of lists made id.process ≡ o → IsSome o → IsFirstDifference object asks tells lists id
        by_next None is some = absurd (cc)
        by_next (Some call) is some = underway-differs id.process call is id refl nth (inr none)

      module _ (p : ℕ) (call : C × InPlace R) (next : next_of lists made p ≡ Some call) where
        its : (own : List (C × InPlace R)) × (slice_get lists p ≡ Some own) × (slice_get own (slice_index made p) ≡ Some call)
        its = next_in lists made p call next

        abbrev more : List ℕ
        more = slice_set made p (slice_index made p + 1)

        abbrev one : Made C R
        one = record { process = p; call = call }

        below : p < length made
        below = let inside = next_below lists made p call next in let same = at.long in omega (arith, inside, same)

        more_own : slice_index more p ≡ slice_index made p + 1
        more_own = get_or-set_same made p (slice_index made p + 1) 0 below

        more_other : (q : ℕ) → q ≢ p → slice_index more q ≡ slice_index made q
        more_other q other = get_or-set_other made p q (slice_index made p + 1) 0 other

        placed-further : call.1.place ≡ place → ArePlaced object asks tells lists (at.order ++ one ∷ [])
        placed-further here k m is = elim (slice_get-append_cases at.order (one ∷ []) k m is) [
          | inl before ↦ at.begun.placed k m before
          | inr behind ↦ last behind.0 behind.1 behind.2
        ] where
          last : (j : ℕ) → k ≡ length at.order + j → slice_get (one ∷ []) j ≡ Some m → (m.call.1.place ≡ k) × (m.process < length lists)
          last zero spot this =
              let same : one ≡ m = (let f : Some one ≡ Some m = this in cc) in
              let count = at.count in
              subst (λ (x : Made C R). (x.call.1.place ≡ k) × (x.process < length lists)) same
              (here ∙ (let e : place ≡ k = omega (arith, spot, count) in e), next_below lists made p call next)
          last (suc j) spot this = absurd (let f : None ≡ Some m = this in cc)

        calls-further : (q : ℕ) (own : List (C × InPlace R)) → slice_get lists q ≡ Some own
            → calls_by q (at.order ++ one ∷ []) ≡ take (slice_index more q) own
        calls-further q own here = elim (number_cases p q) [
          | inl same ↦
              let own_is : its.0 ≡ own = (let f : Some its.0 ≡ Some own = sym its.1 ∙ (ap (slice_get lists) same.0 ∙ here) in cc) in
              calls_by-append q at.order (one ∷ []) ∙ ap (λ l. l ++ calls_by q (one ∷ [])) (at.begun.calls q own here)
              ∙ rw same.1 (
              sym (take_further own (slice_index made q) call (subst (λ l. slice_get l (slice_index made q) ≡ Some call) own_is (subst (λ r. slice_get its.0 (slice_index made r) ≡ Some call) same.0 its.2)))
              ∙ ap (λ n. take n own) (sym (subst (λ r. slice_index more r ≡ slice_index made r + 1) same.0 more_own)))
          | inr other ↦
              calls_by-append q at.order (one ∷ []) ∙ ap (λ l. l ++ calls_by q (one ∷ [])) (at.begun.calls q own here)
              ∙ rw other.1 (append-nil (take (slice_index made q) own)
              ∙ ap (λ n. take n own) (sym (more_other q (λ e. other.0 (sym e)))))
        ]

        pub underway-further : call.1.place ≡ place → tells call.1.reply ≡ object.answer reached (asks call.0)
            → IsUnderway more (place + 1) (object.next reached (asks call.0))
        underway-further here right = record {
          order = at.order ++ one ∷ [];
          begun = record {
            answered = answered-append object.initial at.order one at.begun.answered (right ∙ ap (λ s. object.answer s (asks call.0)) (sym at.begun.state));
            placed = placed-further here;
            calls = calls-further;
            state = ap (state_after object object.initial) (map-append (λ (m : Made C R). asks m.call.0) at.order (one ∷ []))
                ∙ state_after-append object object.initial (asked_in asks at.order) (asks call.0 ∷ [])
                ∙ ap (λ s. object.next s (asks call.0)) at.begun.state;
          };
          count = length-append at.order (one ∷ []) ∙ ap (λ n. n + 1) at.count;
          long = length-set made p (slice_index made p + 1) ∙ at.long;
          sum = (let changed = sum_by-set (λ (n : ℕ). n) made p (slice_index made p + 1) 0 below in let before = at.sum in omega (arith, changed, before));
          fits = λ q own spot. elim (number_cases q p) [
            | inl same ↦
                let room = next_room lists made p call own (ap (slice_get lists) (sym same.0) ∙ spot) next in
                let now : slice_index more q ≡ slice_index made p + 1 = ap (slice_index more) same.0 ∙ more_own in
                omega (arith, room, now)
            | inr other ↦ let now = more_other q other.0 in let before = at.fits q own spot in omega (arith, now, before)
          ];
        }
