-- The order in which calls took effect stays, and grows.
use Rattle.uni_any.proofs.Vocabulary.{Contains, Invoked, List, Local, Returned, Sequential, Some, [], ap, arith, if◌then◌else◌, inl, inr, inv_of, length, length-append, lt_cases, map, map-append, nat_lt, refl, response_at, set_at, set_at-cases, slice_get, slice_get-append_left, slice_get_within, subst, suc, sym, zero, ℕ, ◌++◌, ◌+◌, ◌<◌, ◌∙◌, ◌∷◌, ◌≡◌, ◌≤◌, ◌⊎◌}
use Rattle.uni_any.specs.Order.{AreOrdered, IsOrdered, StandsIn}

get_append : {A : Type 0} (xs ys : List A) (j : ℕ) (y : A) → slice_get (xs ++ ys) j ≡ Some y → (slice_get xs j ≡ Some y) ⊎ ((k : ℕ) × (j ≡ length xs + k) × (slice_get ys k ≡ Some y))
get_append [] ys j y e = inr (j, (let z : j ≡ 0 + j = omega arith in z), e)
get_append (x ∷ xs) ys zero y e = inl e
get_append (x ∷ xs) ys (suc j) y e = elim (get_append xs ys j y e) [ inl h ↦ inl h | inr h ↦ inr (h.0, (let i = h.1 in omega arith), h.2) ]

pub get_snoc : {A : Type 0} (xs : List A) (a : A) (k : ℕ) (x : A) → slice_get (xs ++ a ∷ []) k ≡ Some x → (slice_get xs k ≡ Some x) ⊎ ((k ≡ length xs) × (a ≡ x))
get_snoc [] a zero x e = inr (refl, cc)
get_snoc [] a (suc k) x e = absurd cc
get_snoc (y ∷ ys) a zero x e = inl e
get_snoc (y ∷ ys) a (suc k) x e = elim (get_snoc ys a k x e) [ inl old ↦ inl old | inr new ↦ inr (ap suc new.0, new.1) ]

contained : {A : Type 0} (xs : List A) (k : ℕ) (x : A) → slice_get xs k ≡ Some x → Contains xs x
contained [] k x e = absurd cc
contained (y ∷ ys) zero x e = (0, omega arith, cc)
contained (y ∷ ys) (suc k) x e = (let h = contained ys k x e in (suc h.0, (let b = h.1 in omega arith), h.2))

-- a response stays when the log grows
pub response_stays : {S I R : Type 0} (object : Sequential S I R) (s : S) (is js : List I) (place : ℕ) (r : R) → response_at object s is place ≡ Some r → response_at object s (is ++ js) place ≡ Some r
response_stays object s [] js place r e = absurd (let f = e in cc)
response_stays object s (i ∷ is) js zero r e = e
response_stays object s (i ∷ is) js (suc place) r e = response_stays object (object.next s i) is js place r e

module _ {S I R : Type 0} (object : Sequential S I R) (n : ℕ) (agreed : List (Invoked I)) (calls_in_version : ℕ → ℕ) (present : ℕ) (local : ℕ → Local I S R) (was : AreOrdered object agreed calls_in_version n present local) where
  -- one process has another order
  pub order_with : (p : ℕ) (l' : Local I S R) → IsOrdered object agreed calls_in_version present p l'.after l'.own → AreOrdered object agreed calls_in_version n present (set_at local p l')
  order_with p l' h = record {
    counted = was.counted;
    rising = was.rising;
    each = λ q q_in. elim (set_at-cases local p l' q) [
      | inl here ↦ subst (λ (z : Local I S R). IsOrdered object agreed calls_in_version present q z.after z.own) (sym here.1) (subst (λ k. IsOrdered object agreed calls_in_version present k l'.after l'.own) (sym here.0) h)
      | inr other ↦ subst (λ (z : Local I S R). IsOrdered object agreed calls_in_version present q z.after z.own) (sym other.1) (was.each q q_in)
    ];
  }

  -- one that has returned from no other call, and follows no other version
  pub order_kept : (p : ℕ) (l l' : Local I S R) → p < n → local p ≡ l → l'.own ≡ l.own → l'.after ≡ l.after → AreOrdered object agreed calls_in_version n present (set_at local p l')
  order_kept p l l' p_in is own after = order_with p l' (subst (λ k. IsOrdered object agreed calls_in_version present p l'.after k) (sym own) (subst (λ k. IsOrdered object agreed calls_in_version present p k l.own) (sym after)
      (subst (λ (z : Local I S R). IsOrdered object agreed calls_in_version present p z.after z.own) is (was.each p p_in))))

  module _ (p after : ℕ) (own : List (Returned I R)) (its : IsOrdered object agreed calls_in_version present p after own) where
    -- it follows the present version, where none of its other calls has taken effect
    pub ordered_asked : ((c : Invoked I) → Contains agreed c → c.process ≡ p → c.nth < length own) → IsOrdered object agreed calls_in_version present p present own
    ordered_asked none = record {
      reached = omega arith;
      later = λ c place at mine from. absurd (let b = none c (contained agreed place c at) mine in omega (arith, from));
      known = its.known;
      stand = its.stand;
    }

    -- its call returns, which is in the present version
    module _ (inv : I) (x : R) (place : ℕ) (there : slice_get agreed place ≡ Some (record { process = p; nth = length own; inv = inv })) where
      follows_less : after < present
      follows_less = elim (lt_cases after present) [
        | inl less ↦ less.0
        | inr more ↦ absurd (let r = was.rising present after more.0 in let c = was.counted present (omega arith) in let w = slice_get_within agreed place _ there in
            let t = its.later (record { process = p; nth = length own; inv = inv }) place there refl (omega arith) in omega arith)
      ]

      pub version_rises : after < present
      version_rises = follows_less

      abbrev call : Returned I R
      call = record { inv = inv; reply = x; after = after; version = present }

      pub ordered_returned : response_at object object.initial (map (λ c. c.inv) agreed) place ≡ Some x → ((c : Invoked I) → Contains agreed c → c.process ≡ p → c.nth < length own + 1) → IsOrdered object agreed calls_in_version present p present (own ++ call ∷ [])
      ordered_returned reply none =
          let stands : StandsIn object agreed calls_in_version p (length own) call = record {
            place = place;
            there = there;
            reply = reply;
            after = its.later (record { process = p; nth = length own; inv = inv }) place there refl (omega arith);
            before = (let w = slice_get_within agreed place _ there in let c = was.counted present (omega arith) in omega arith);
          } in
          record {
            reached = omega arith;
            later = λ c j at mine from. absurd (let b = none c (contained agreed j c at) mine in let e = length-append own (call ∷ []) in omega (arith, from));
            known = λ k c at. elim (get_snoc own call k c at) [
              | inl old ↦ its.known k c old
              | inr new ↦ subst (λ (d : Returned I R). d.version ≤ present) new.1 (omega arith)
            ];
            stand = λ k c at. elim (get_snoc own call k c at) [
              | inl old ↦ its.stand k c old
              | inr new ↦ subst (λ (d : Returned I R). StandsIn object agreed calls_in_version p k d) new.1 (subst (λ j. StandsIn object agreed calls_in_version p j call) (sym new.0) stands)
            ];
          }

  -- these calls take effect, and are in the next version
  module _ (calls : List (Invoked I)) where
    abbrev grown : List (Invoked I)
    grown = agreed ++ calls

    abbrev pub in_next : ℕ → ℕ
    in_next = λ v. if nat_lt present v then length grown else calls_in_version v

    at_old : (v : ℕ) → v ≤ present → in_next v ≡ calls_in_version v
    at_old v old = elim (lt_cases present v) [ inl new ↦ absurd (let k = new.0 in omega arith) | inr h ↦ rw h.1 refl ]

    at_new : (v : ℕ) → present < v → in_next v ≡ length grown
    at_new v new = elim (lt_cases present v) [ inl h ↦ rw h.1 refl | inr old ↦ absurd (let o = old.0 in omega arith) ]

    longer : length grown ≡ length agreed + length calls
    longer = length-append agreed calls

    at_most : (v : ℕ) → v ≤ present → calls_in_version v ≤ length agreed
    at_most v old = (let r = was.rising v present old in let c = was.counted present (omega arith) in omega arith)

    rising' : (v w : ℕ) → v ≤ w → in_next v ≤ in_next w
    rising' v w below = elim (lt_cases present w) [
      | inl new ↦ elim (lt_cases present v) [
        | inl also ↦ (let a = at_new v also.0 in let b = at_new w new.0 in omega arith)
        | inr old ↦ (let a = at_old v old.0 in let b = at_new w new.0 in let m = at_most v old.0 in let k = longer in omega arith)
      ]
      | inr old ↦ (let o = old.0 in let a = at_old v (omega arith) in let b = at_old w (omega arith) in let r = was.rising v w below in omega arith)
    ]

    stands_stays : (q k : ℕ) (call : Returned I R) → call.version ≤ present → StandsIn object agreed calls_in_version q k call → StandsIn object grown in_next q k call
    stands_stays q k call known h =
        let first : call.after ≤ present = elim (lt_cases present call.after) [
          | inl late ↦ absurd (let e = late.0 in let r = was.rising call.version call.after (omega arith) in let a = h.after in let b = h.before in omega arith)
          | inr old ↦ old.0
        ] in
        record {
          place = h.place;
          there = slice_get-append_left agreed calls h.place _ h.there;
          reply = ap (λ js. response_at object object.initial js h.place) (map-append inv_of agreed calls) ∙ response_stays object object.initial (map inv_of agreed) (map inv_of calls) h.place call.reply h.reply;
          after = (let a = h.after in let o = at_old call.after first in omega arith);
          before = (let b = h.before in let o = at_old call.version known in omega arith);
        }

    ordered_stays : (q after : ℕ) (own : List (Returned I R)) → IsOrdered object agreed calls_in_version present q after own → IsOrdered object grown in_next (present + 1) q after own
    ordered_stays q after own h = record {
      reached = (let r = h.reached in omega arith);
      later = λ c place at mine from. elim (get_append agreed calls place c at) [
        | inl old ↦ (let k = h.later c place old mine from in let o = at_old after h.reached in omega arith)
        | inr new ↦ (let e = new.1 in let o = at_old after h.reached in let m = at_most after h.reached in omega arith)
      ];
      known = λ k call at. (let v = h.known k call at in omega arith);
      stand = λ k call at. stands_stays q k call (h.known k call at) (h.stand k call at);
    }

    pub order_grown : AreOrdered object grown in_next n (present + 1) local
    order_grown = record {
      counted = λ v from. at_new v (omega (arith, from));
      rising = rising';
      each = λ q q_in. ordered_stays q (local q).after (local q).own (was.each q q_in);
    }
