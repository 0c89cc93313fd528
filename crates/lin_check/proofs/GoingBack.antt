-- Going back over a history, with the response of the next return of each process.
use Rattle.std.proofs.Common.{get_or-set_same, get_or-set_other, length-set}
use Rattle.std.proofs.lemmas.List.Elements.{All-contains}
use Rattle.std.proofs.lemmas.Option.{slice_get_read}
use Rattle.lin_check.proofs.Vocabulary.{Call, Event, IsWithin, List, None, Option, Return, Some, [], ap, arith, drop, get_or, inl, inr, latest_after, length, member, next_return, number_cases, process_of, refl, replies_of, reply_in, slice_get, slice_set, suc, sym, zero, ℕ, ◌+◌, ◌<◌, ◌∙◌, ◌∷◌, ◌≡◌}
use Rattle.lin_check.proofs.Standing.{drop_at}

drop-set : {A : Type 0} (xs : List A) (at : ℕ) (v : A) → at < length xs → drop at (slice_set xs at v) ≡ v ∷ drop (at + 1) xs
drop-set [] at v less = absurd (omega arith)
drop-set (x ∷ xs) zero v less = refl
drop-set (x ∷ xs) (suc at) v less =
    let more : suc at + 1 ≡ suc (at + 1) = omega arith in
    let inside : at < length xs = omega arith in
    drop-set xs at v inside ∙ ap (λ j. v ∷ drop j (x ∷ xs)) (sym more)

none_left : {A : Type 0} (xs : List A) → drop (length xs) xs ≡ []
none_left [] = refl
none_left (x ∷ xs) = none_left xs

module _ {I R : Type 0} (n : ℕ) (history : List (Event I R)) where
  -- at the end nothing is left
  pub tail_at_end : (nones : List (Option R)) → length nones ≡ length history → drop (length history) nones ≡ replies_of (drop (length history) history)
  tail_at_end nones same = ap (λ j. drop j nones) (sym same) ∙ none_left nones ∙ sym (ap replies_of (none_left history))

  pub each_at_end : (p : ℕ) → None ≡ next_return p (drop (length history) history)
  each_at_end p = sym (ap (next_return p) (none_left history))

  -- one event back
  module _ (at : ℕ) (event : Event I R) (replies latest : List (Option R)) (is : event ≡ get_or history at event) (bound : at < length history) (within : IsWithin n history)
      (long : length replies ≡ length history) (many : length latest ≡ n)
      (tail : drop (at + 1) replies ≡ replies_of (drop (at + 1) history)) (each : (p : ℕ) → p < n → get_or latest p None ≡ next_return p (drop (at + 1) history)) where
    here : slice_get history at ≡ Some event
    here = slice_get_read history (length history) at event refl bound is

    pub small : process_of event < length latest
    small = let p : process_of event < n = All-contains (λ event. process_of event < n) history event within (member history at event here) in omega arith

    entry : (e : Event I R) → process_of e < n → replies_of (e ∷ drop (at + 1) history) ≡ reply_in e latest ∷ replies_of (drop (at + 1) history)
    entry (Call p i) less = ap (λ r. r ∷ replies_of (drop (at + 1) history)) (sym (each p less))
    entry (Return p r) less = refl

    pub tail_back : drop at (slice_set replies at (reply_in event latest)) ≡ replies_of (drop at history)
    tail_back =
        let less : at < length replies = omega arith in
        let p : process_of event < n = (let s = small in omega arith) in
        drop-set replies at (reply_in event latest) less ∙ ap (λ xs. reply_in event latest ∷ xs) tail ∙ sym (ap replies_of (drop_at history at event here) ∙ entry event p)

    pub many_back : length (latest_after event latest) ≡ n
    many_back = length_after event where
      length_after : (e : Event I R) → length (latest_after e latest) ≡ n
      length_after (Call p i) = many
      length_after (Return p r) = length-set latest p (Some r) ∙ many

    each_after : (e : Event I R) → process_of e < n → (q : ℕ) → q < n → get_or (latest_after e latest) q None ≡ next_return q (e ∷ drop (at + 1) history)
    each_after (Call p i) less q inside = each q inside
    each_after (Return p r) less q inside = elim (number_cases p q) [
      | inl own ↦
          let inside : p < length latest = omega arith in
          ap (λ x. get_or (slice_set latest p (Some r)) x None) (sym own.0) ∙ get_or-set_same latest p (Some r) None inside ∙ rw own.1 refl
      | inr other ↦ get_or-set_other latest p q (Some r) None (λ e. other.0 (sym e)) ∙ each q inside ∙ (rw other.1 refl)
    ]

    pub each_back : (q : ℕ) → q < n → get_or (latest_after event latest) q None ≡ next_return q (drop at history)
    each_back q inside =
        let p : process_of event < n = (let s = small in omega arith) in
        each_after event p q inside ∙ sym (ap (next_return q) (drop_at history at event here))
