-- The order of calls and versions, as a process goes on.
use Rattle.uni_any.proofs.Vocabulary.{Act, AreOrdered, Board, Contains, HasFollowed, HasTaken, Invoked, IsOrdered, List, Local, Option, Returned, Sequential, Some, StandsIn, [], arith, ending, inl, inr, length, length-append, lt_cases, made_by, refl, set_at-cases, slice_get, subst, sym, ℕ, ◌++◌, ◌+◌, ◌<◌, ◌∷◌, ◌≡◌, ◌≤◌}
use Rattle.uni_any.proofs.Staying.{later, locals}
use Rattle.uni_any.proofs.Ordering.{get_snoc}
use Rattle.std.proofs.Common.{suc, zero}

contained : {A : Type 0} (xs : List A) (k : ℕ) (x : A) → slice_get xs k ≡ Some x → Contains xs x
contained [] k x e = absurd cc
contained (y ∷ ys) zero x e = (0, omega arith, cc)
contained (y ∷ ys) (suc k) x e = (let h = contained ys k x e in (suc h.0, (let b = h.1 in omega arith), h.2))

-- one call more, in the version that is followed then
pub followed_more : {I R : Type 0} (own : List (Returned I R)) (after : ℕ) (call : Returned I R) → HasFollowed after own → after ≤ call.version → HasFollowed call.version (own ++ call ∷ [])
followed_more own after call was more k c at = elim (get_snoc own call k c at) [
  | inl old ↦ (let a = was k c old in omega (arith, more))
  | inr new ↦ subst (λ (d : Returned _ _). d.version ≤ call.version) new.1 (omega arith)
]

module _ {S I R : Type 0} (object : Sequential S I R) (n : ℕ) (g : Board I S R) (local : ℕ → Local I S R) (p : ℕ) (l l' : Local I S R) (is : local p ≡ l)
    (since' : ℕ → ℕ) (open' : ℕ → Option (Invoked I)) (next' : ℕ → ℕ) (acts' : List (Act I R)) (was : AreOrdered object n g local) where
  abbrev Ordered : (q after : ℕ) → List (Returned I R) → Type 0
  Ordered q after own = IsOrdered object g.atomic.agreed g.calls_in g.number q after own

  -- one process has another order
  pub order_with : Ordered p l'.after l'.own → HasFollowed l'.after l'.own → AreOrdered object n (later object n g local p l l' is since' open' next' acts') (locals object n g local p l l' is since' open' next' acts')
  order_with h f = record {
    counted = was.counted;
    rising = was.rising;
    each = λ q q_in. elim (set_at-cases local p l' q) [
      | inl here ↦ subst (λ (z : Local I S R). Ordered q z.after z.own) (sym here.1) (subst (λ k. Ordered k l'.after l'.own) (sym here.0) h)
      | inr other ↦ subst (λ (z : Local I S R). Ordered q z.after z.own) (sym other.1) (was.each q q_in)
    ];
    followed = λ q q_in. elim (set_at-cases local p l' q) [
      | inl here ↦ subst (λ (z : Local I S R). HasFollowed z.after z.own) (sym here.1) f
      | inr other ↦ subst (λ (z : Local I S R). HasFollowed z.after z.own) (sym other.1) (was.followed q q_in)
    ];
  }

  module _ (p_in : p < n) where
    its : Ordered p l.after l.own
    its = subst (λ (z : Local I S R). Ordered p z.after z.own) is (was.each p p_in)

    its_followed : HasFollowed l.after l.own
    its_followed = subst (λ (z : Local I S R). HasFollowed z.after z.own) is (was.followed p p_in)

    -- one that has returned from no other call, and follows no other version
    pub order_kept : l'.own ≡ l.own → l'.after ≡ l.after → AreOrdered object n (later object n g local p l l' is since' open' next' acts') (locals object n g local p l l' is since' open' next' acts')
    order_kept own after = order_with (subst (λ k. Ordered p l'.after k) (sym own) (subst (λ k. Ordered p k l.own) (sym after) its))
        (subst (λ k. HasFollowed l'.after k) (sym own) (subst (λ k. HasFollowed k l.own) (sym after) its_followed))

    -- or follows a later one that has come, with all its calls in
    pub order_viewed : (in_is : (c : Invoked I) → Contains g.atomic.agreed c → c.process ≡ p → c.nth < length l.own) → l'.own ≡ l.own → l.after ≤ l'.after → l'.after ≤ g.number
        → AreOrdered object n (later object n g local p l l' is since' open' next' acts') (locals object n g local p l l' is since' open' next' acts')
    order_viewed in_is own more known = order_with (subst (λ k. Ordered p l'.after k) (sym own) (record {
      reached = known;
      later = λ c j at mine from. absurd (let b = in_is c (contained g.atomic.agreed j c at) mine in omega (arith, from));
      known = its.known;
      stand = its.stand;
    })) (subst (λ k. HasFollowed l'.after k) (sym own) (λ k call at. let a = its_followed k call at in omega (arith, more)))

    -- its call returns, which is in this version
    module _ (inv : I) (x : R) (number : ℕ) (known : number ≤ g.number) (taken : HasTaken object g.atomic.agreed (record { process = p; nth = made_by l; inv = inv }) x) (before : taken.place < g.calls_in number)
        (none : (c : Invoked I) → Contains g.atomic.agreed c → c.process ≡ p → c.nth < made_by l + 1) where
      after_less : g.calls_in l.after ≤ taken.place
      after_less = its.later (record { process = p; nth = made_by l; inv = inv }) taken.place taken.there refl (omega arith)

      pub version_rises : l.after < number
      version_rises = elim (lt_cases l.after number) [ inl less ↦ less.0 | inr more ↦ absurd (let r = was.rising number l.after more.0 in let a = after_less in omega (arith, before)) ]

      stands : StandsIn object g.atomic.agreed g.calls_in p (made_by l) (ending l inv x number)
      stands = record { place = taken.place; there = taken.there; reply = taken.reply_is; after = after_less; before = before }

      ordered : Ordered p number (l.own ++ ending l inv x number ∷ [])
      ordered = record {
        reached = known;
        later = λ c j at mine from. absurd (let b = none c (contained g.atomic.agreed j c at) mine in let e = length-append l.own (ending l inv x number ∷ []) in omega (arith, from));
        known = λ k c at. elim (get_snoc l.own (ending l inv x number) k c at) [
          | inl old ↦ its.known k c old
          | inr new ↦ subst (λ (d : Returned I R). d.version ≤ g.number) new.1 known
        ];
        stand = λ k c at. elim (get_snoc l.own (ending l inv x number) k c at) [
          | inl old ↦ its.stand k c old
          | inr new ↦ subst (λ (d : Returned I R). StandsIn object g.atomic.agreed g.calls_in p k d) new.1 (subst (λ j. StandsIn object g.atomic.agreed g.calls_in p j (ending l inv x number)) (sym new.0) stands)
        ];
      }

      pub order_ended : l'.own ≡ l.own ++ ending l inv x number ∷ [] → l'.after ≡ number → AreOrdered object n (later object n g local p l l' is since' open' next' acts') (locals object n g local p l l' is since' open' next' acts')
      order_ended own after = order_with (subst (λ k. Ordered p l'.after k) (sym own) (subst (λ k. Ordered p k (l.own ++ ending l inv x number ∷ [])) (sym after) ordered))
          (subst (λ k. HasFollowed l'.after k) (sym own) (subst (λ k. HasFollowed k (l.own ++ ending l inv x number ∷ [])) (sym after) (followed_more l.own l.after (ending l inv x number) its_followed (let a = version_rises in omega arith))))
