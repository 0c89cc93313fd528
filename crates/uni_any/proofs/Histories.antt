-- The history, as a process goes on at the same version.
use Rattle.uni_any.proofs.Vocabulary.{AcceptsAll-append, Act, Board, HasTaken, Invoke, Invoked, IsBoard, IsHistory, IsTold, List, Local, None, Option, Respond, Returned, Sequential, Some, [], ap, arith, at_start, ending, in_of, inl, inr, length-append, made_by, map, pending_of, plain, refl, response_at, sequential_acts, set_at, set_at-cases, set_at_elsewhere, set_at_same, subst, sym, ℕ, ◌++◌, ◌+◌, ◌<◌, ◌∙◌, ◌∷◌, ◌≡◌, ◌≢◌}
use Rattle.std.proofs.Common.{append_assoc}
use Rattle.uni_any.proofs.Staying.{later, locals}
use Rattle.uni_any.proofs.Acts.{invoked_other, invoked_own, responded_other, responded_own, sequential_acts-snoc}

module _ {S I R : Type 0} (object : Sequential S I R) (n : ℕ) (g : Board I S R) (local : ℕ → Local I S R) (p : ℕ) (l l' : Local I S R) (is : local p ≡ l) (since' : ℕ → ℕ) (was : IsHistory object n g local) (p_in : p < n) where
  pub own_told : IsTold object n g local p l.own (pending_of l.stage)
  own_told = subst (λ (z : Local I S R). IsTold object n g local p z.own (pending_of z.stage)) is (was.told p p_in)

  -- with no call begun or ended
  pub history_kept : l'.own ≡ l.own → pending_of l'.stage ≡ pending_of l.stage
      → IsHistory object n (later object n g local p l l' is since' g.atomic.open_call g.atomic.next_nth g.acts) (locals object n g local p l l' is since' g.atomic.open_call g.atomic.next_nth g.acts)
  history_kept own pending = record {
    image = was.image;
    agreed = was.agreed;
    start = was.start;
    accepted = was.accepted;
    told = λ q q_in. elim (set_at-cases local p l' q) [
      | inl here ↦ subst (λ (z : Local I S R). IsTold object n g' local' q z.own (pending_of z.stage)) (sym here.1) (subst (λ k. IsTold object n g' local' k l'.own (pending_of l'.stage)) (sym here.0)
          (told_as p l'.own (pending_of l'.stage) (subst (λ x. IsTold object n g local p l'.own x) (sym pending) (subst (λ x. IsTold object n g local p x (pending_of l.stage)) (sym own) own_told))))
      | inr other ↦ subst (λ (z : Local I S R). IsTold object n g' local' q z.own (pending_of z.stage)) (sym other.1) (told_as q (local q).own (pending_of (local q).stage) (was.told q q_in))
    ];
  } where
    g' : Board I S R
    g' = later object n g local p l l' is since' g.atomic.open_call g.atomic.next_nth g.acts

    local' : ℕ → Local I S R
    local' = locals object n g local p l l' is since' g.atomic.open_call g.atomic.next_nth g.acts

    told_as : (q : ℕ) (own : List (Returned I R)) (pend : Option I) → IsTold object n g local q own pend → IsTold object n (later object n g local p l l' is since' g.atomic.open_call g.atomic.next_nth g.acts) (locals object n g local p l l' is since' g.atomic.open_call g.atomic.next_nth g.acts) q own pend
    told_as q own None h = h
    told_as q own (Some i) h = h

  -- the next call begins
  module _ (inv : I) (none_was : pending_of l.stage ≡ None) (in_is : in_of g p ≡ made_by l) (board : IsBoard object n g local) where
    abbrev pub call : Invoked I
    call = record { process = p; nth = made_by l; inv = inv }

    abbrev pub open_with : ℕ → Option (Invoked I)
    open_with = set_at g.atomic.open_call p (Some call)

    abbrev pub next_with : ℕ → ℕ
    next_with = set_at g.atomic.next_nth p (made_by l + 1)

    abbrev pub acts_with : List (Act I R)
    acts_with = g.acts ++ Invoke p (made_by l) inv ∷ []

    none_told : IsTold object n g local p l.own None
    none_told = subst (λ x. IsTold object n g local p l.own x) none_was own_told

    pub history_begun : l'.own ≡ l.own → pending_of l'.stage ≡ Some inv → IsHistory object n (later object n g local p l l' is since' open_with next_with acts_with) (locals object n g local p l l' is since' open_with next_with acts_with)
    history_begun own pending = record {
      image = was.image;
      agreed = was.agreed;
      start = was.start;
      accepted = AcceptsAll-append object (at_start object.initial) g.atomic (later object n g local p l l' is since' open_with next_with acts_with).atomic g.acts (Invoke p (made_by l) inv ∷ []) was.accepted
          ((later object n g local p l l' is since' open_with next_with acts_with).atomic, (none_told.0, none_told.1, refl), refl);
      told = λ q q_in. elim (set_at-cases local p l' q) [
        | inl here ↦ subst (λ (z : Local I S R). Later q z.own (pending_of z.stage)) (sym here.1) (subst (λ k. Later k l'.own (pending_of l'.stage)) (sym here.0)
            (subst (λ x. Later p x (pending_of l'.stage)) (sym own) (subst (λ x. Later p l.own x) (sym pending) told_mine)))
        | inr other ↦ subst (λ (z : Local I S R). Later q z.own (pending_of z.stage)) (sym other.1) (told_else q (local q).own (pending_of (local q).stage) other.0 (was.told q q_in))
      ];
    } where
      Later : (q : ℕ) → List (Returned I R) → Option I → Type 0
      Later q own pend = IsTold object n (later object n g local p l l' is since' open_with next_with acts_with) (locals object n g local p l l' is since' open_with next_with acts_with) q own pend

      told_else : (q : ℕ) (own : List (Returned I R)) (pend : Option I) → q ≢ p → IsTold object n g local q own pend
          → IsTold object n (later object n g local p l l' is since' open_with next_with acts_with) (locals object n g local p l l' is since' open_with next_with acts_with) q own pend
      told_else q own None apart h = (
        set_at_elsewhere g.atomic.open_call p _ q apart ∙ h.0,
        set_at_elsewhere g.atomic.next_nth p _ q apart ∙ h.1,
        invoked_other q p (made_by l) inv g.acts apart ∙ h.2,
      )
      told_else q own (Some i) apart h = (
        set_at_elsewhere g.atomic.open_call p _ q apart ∙ h.0,
        set_at_elsewhere g.atomic.next_nth p _ q apart ∙ h.1,
        invoked_other q p (made_by l) inv g.acts apart ∙ h.2,
        h.3,
      )

      told_mine : IsTold object n (later object n g local p l l' is since' open_with next_with acts_with) (locals object n g local p l l' is since' open_with next_with acts_with) p l.own (Some inv)
      told_mine = (
        set_at_same g.atomic.open_call p _,
        set_at_same g.atomic.next_nth p _,
        invoked_own p (made_by l) inv g.acts ∙ ap (λ xs. xs ++ Invoke p (made_by l) inv ∷ []) none_told.2,
        (λ v x come applied reply. absurd (let r = board.rises v come p p_in in omega (arith, applied, in_is))),
      )

  -- the pending call ends with this reply, which the object gave it
  module _ (inv : I) (x : R) (number : ℕ) (one_was : pending_of l.stage ≡ Some inv) (taken : HasTaken object g.atomic.agreed (record { process = p; nth = made_by l; inv = inv }) x) where
    abbrev pub open_without : ℕ → Option (Invoked I)
    open_without = set_at g.atomic.open_call p None

    abbrev pub acts_then : List (Act I R)
    acts_then = g.acts ++ Respond p (made_by l) x ∷ []

    one_told : IsTold object n g local p l.own (Some inv)
    one_told = subst (λ z. IsTold object n g local p l.own z) one_was own_told

    pub history_ended : l'.own ≡ l.own ++ ending l inv x number ∷ [] → pending_of l'.stage ≡ None
        → IsHistory object n (later object n g local p l l' is since' open_without g.atomic.next_nth acts_then) (locals object n g local p l l' is since' open_without g.atomic.next_nth acts_then)
    history_ended own pending = record {
      image = was.image;
      agreed = was.agreed;
      start = was.start;
      accepted = AcceptsAll-append object (at_start object.initial) g.atomic (later object n g local p l l' is since' open_without g.atomic.next_nth acts_then).atomic g.acts (Respond p (made_by l) x ∷ []) was.accepted (
        (later object n g local p l l' is since' open_without g.atomic.next_nth acts_then).atomic,
        ((inv, taken.place, one_told.0, taken.there, subst (λ z. response_at object z (map (λ c. c.inv) g.atomic.agreed) taken.place ≡ Some x) (sym was.start) taken.reply_is), refl),
        refl,
      );
      told = λ q q_in. elim (set_at-cases local p l' q) [
        | inl here ↦ subst (λ (z : Local I S R). Later q z.own (pending_of z.stage)) (sym here.1) (subst (λ k. Later k l'.own (pending_of l'.stage)) (sym here.0)
            (subst (λ x. Later p x (pending_of l'.stage)) (sym own) (subst (λ z. Later p (l.own ++ ending l inv x number ∷ []) z) (sym pending) told_mine)))
        | inr other ↦ subst (λ (z : Local I S R). Later q z.own (pending_of z.stage)) (sym other.1) (told_else q (local q).own (pending_of (local q).stage) other.0 (was.told q q_in))
      ];
    } where
      Later : (q : ℕ) → List (Returned I R) → Option I → Type 0
      Later q own pend = IsTold object n (later object n g local p l l' is since' open_without g.atomic.next_nth acts_then) (locals object n g local p l l' is since' open_without g.atomic.next_nth acts_then) q own pend

      told_else : (q : ℕ) (own : List (Returned I R)) (pend : Option I) → q ≢ p → IsTold object n g local q own pend
          → IsTold object n (later object n g local p l l' is since' open_without g.atomic.next_nth acts_then) (locals object n g local p l l' is since' open_without g.atomic.next_nth acts_then) q own pend
      told_else q own None apart h = (set_at_elsewhere g.atomic.open_call p _ q apart ∙ h.0, h.1, responded_other q p (made_by l) x g.acts apart ∙ h.2)
      told_else q own (Some i) apart h = (set_at_elsewhere g.atomic.open_call p _ q apart ∙ h.0, h.1, responded_other q p (made_by l) x g.acts apart ∙ h.2, h.3)

      told_mine : IsTold object n (later object n g local p l l' is since' open_without g.atomic.next_nth acts_then) (locals object n g local p l l' is since' open_without g.atomic.next_nth acts_then) p (l.own ++ ending l inv x number ∷ []) None
      told_mine = (
        set_at_same g.atomic.open_call p None,
        one_told.1 ∙ sym (length-append l.own _),
        responded_own p (made_by l) x g.acts ∙ ap (λ xs. xs ++ Respond p (made_by l) x ∷ []) one_told.2 ∙ append_assoc (sequential_acts p 0 (map plain l.own)) (Invoke p (made_by l) inv ∷ []) (Respond p (made_by l) x ∷ [])
            ∙ sym (sequential_acts-snoc p 0 l.own (ending l inv x number)
            ∙ (λ k. sequential_acts p 0 (map plain l.own) ++ Invoke p ((let z : made_by l + 0 ≡ made_by l = omega arith in z) k) inv ∷ Respond p ((let z : made_by l + 0 ≡ made_by l = omega arith in z) k) x ∷ [])),
      )
