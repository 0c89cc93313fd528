-- Events of a part, one after another.
use Rattle.std.proofs.Common.{get_or-set_same, get_or-set_other, length-set}
use Rattle.std.proofs.lemmas.List.{at_drop_more}
use Rattle.lin_check.specs.Parts.{events_of_part, part_in, parts_after}
use Rattle.lin_check.proofs.Vocabulary.{Bool, Call, Event, List, Return, [], ap, append_assoc, arith, cond, drop, false, get_or, inl, inr, length, nat_eq, number_cases, process_of, refl, set_at, slice_set, sym, true, ℕ, ◌++◌, ◌+◌, ◌<◌, ◌∙◌, ◌∷◌, ◌≡◌}

module _ {I R : Type 0} (part : I → ℕ) (x : ℕ) where
  -- the same parts of the last calls
  same_parts : (f g : ℕ → ℕ) → ((q : ℕ) → f q ≡ g q) → (events : List (Event I R)) → events_of_part part x f events ≡ events_of_part part x g events
  same_parts f g same [] = refl
  same_parts f g same (Call p i ∷ events) =
      let rest = same_parts (set_at f p (part i)) (set_at g p (part i)) (λ q. elim (number_cases q p) [ inl e ↦ rw e.1 refl | inr e ↦ rw e.1 (same q) ]) events in
      ap (λ es. cond (nat_eq (part i) x) (Call p i ∷ es) es) rest
  same_parts f g same (Return p r ∷ events) =
      ap (λ y. cond (nat_eq y x) (Return p r ∷ events_of_part part x f events) (events_of_part part x f events)) (same p)
      ∙ ap (λ es. cond (nat_eq (g p) x) (Return p r ∷ es) es) (same_parts f g same events)

  abbrev from : List ℕ → List (Event I R) → List (Event I R)
  from latest events = events_of_part part x (λ q. get_or latest q 0) events

  abbrev kept : Event I R → List ℕ → List (Event I R)
  kept event latest = cond (nat_eq (part_in part event latest) x) (event ∷ []) []

  put : (b : Bool) (event : Event I R) (es : List (Event I R)) → cond b (event ∷ es) es ≡ cond b (event ∷ []) [] ++ es
  put b event es = elim b as (λ b. cond b (event ∷ es) es ≡ cond b (event ∷ []) [] ++ es) [ true ↦ refl | false ↦ refl ]

  next_event : (event : Event I R) (latest : List ℕ) (events : List (Event I R)) → process_of event < length latest → from latest (event ∷ events) ≡ kept event latest ++ from (parts_after part event latest) events
  next_event (Call p i) latest events inside =
      put (nat_eq (part i) x) (Call p i) (events_of_part part x (set_at (λ q. get_or latest q 0) p (part i)) events)
      ∙ ap (λ es. cond (nat_eq (part i) x) (Call p i ∷ []) [] ++ es)
      (same_parts (set_at (λ q. get_or latest q 0) p (part i)) (λ q. get_or (slice_set latest p (part i)) q 0)
      (λ q. elim (number_cases q p) [
        | inl e ↦ rw e.1 (sym (ap (λ y. get_or (slice_set latest p (part i)) y 0) e.0 ∙ get_or-set_same latest p (part i) 0 inside))
        | inr e ↦ rw e.1 (sym (get_or-set_other latest p q (part i) 0 e.0))
      ]) events)
  next_event (Return p r) latest events inside = put (nat_eq (get_or latest p 0) x) (Return p r) (from latest events)

  pub many_after : (event : Event I R) (latest : List ℕ) → length (parts_after part event latest) ≡ length latest
  many_after (Call p i) latest = length-set latest p (part i)
  many_after (Return p r) latest = refl

  -- one event further
  pub cut_on : (events : List (Event I R)) (at n : ℕ) (event : Event I R) (latest later : List ℕ) (before after goal : List (Event I R)) (b : Bool) → event ≡ get_or events at event → at < length events → process_of event < n
      → length latest ≡ n → nat_eq (part_in part event latest) x ≡ b → after ≡ before ++ cond b (event ∷ []) [] → later ≡ parts_after part event latest
      → before ++ from latest (drop at events) ≡ goal → after ++ from later (drop (at + 1) events) ≡ goal
  cut_on events at n event latest later before after goal b here inside small many is added noted so_far =
      let within : process_of event < length latest = omega arith in
      let left = from (parts_after part event latest) (drop (at + 1) events) in
      ap (λ es. es ++ from later (drop (at + 1) events)) added
      ∙ ap (λ l. (before ++ cond b (event ∷ []) []) ++ from l (drop (at + 1) events)) noted
      ∙ append_assoc before (cond b (event ∷ []) []) left
      ∙ ap (λ y. before ++ (cond y (event ∷ []) [] ++ left)) (sym is)
      ∙ ap (λ es. before ++ es) (sym (next_event event latest (drop (at + 1) events) within))
      ∙ ap (λ e. before ++ from latest (e ∷ drop (at + 1) events)) here
      ∙ ap (λ es. before ++ es) (sym (at_drop_more (λ es. from latest es) events at event inside))
      ∙ so_far
