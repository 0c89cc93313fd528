-- Entries and returns, one after the other.
use Rattle.uni_audit.proofs.Vocabulary.{Agrees, Bool, Entry, List, Return, Sequential, Verdict, [], ap, at_drop_more, drop, entries_verdict, entry_verdict, first, get_or, length, return_verdict, returns_verdict, sym, take, take_more, ℕ, ◌++◌, ◌+◌, ◌<◌, ◌∙◌, ◌∷◌, ◌≡◌, ◌≢◌}
use Rattle.uni_audit.proofs.Faults.{first-fault}

module _ {S I R : Type 0} (same : R → R → Bool) (object : Sequential S I R) (state : S) (entries : List (Entry I R)) (i : ℕ) (entry : Entry I R)
    (within : i < length entries) (is : entry ≡ get_or entries i entry) (later : List (Entry I R)) where
  abbrev after_entry : Verdict
  after_entry = entries_verdict same object (object.next state entry.inv) (take (i + 1) entries) (drop (i + 1) entries ++ later)

  -- the verdict from a place on is that on the entry there, and then on those after it
  entries_verdict-at : entries_verdict same object state (take i entries) (drop i entries ++ later)
      ≡ first (entry_verdict same object state (take i entries) entry) after_entry
  entries_verdict-at =
      at_drop_more (λ left. entries_verdict same object state (take i entries) (left ++ later)) entries i entry within
      ∙ ap (λ e. entries_verdict same object state (take i entries) (e ∷ drop (i + 1) entries ++ later)) (sym is)
      ∙ ap (λ earlier. first (entry_verdict same object state (take i entries) entry) (entries_verdict same object (object.next state entry.inv) earlier (drop (i + 1) entries ++ later)))
      (sym (take_more entries i entry within ∙ ap (λ e. take i entries ++ e ∷ []) (sym is)))

  module _ (whole : Verdict) (rest : entries_verdict same object state (take i entries) (drop i entries ++ later) ≡ whole) where
    pub bad_entry_at : (verdict next : Verdict) → verdict ≡ entry_verdict same object state (take i entries) entry → verdict ≢ Agrees → first verdict next ≡ whole
    bad_entry_at verdict next this fault =
        first-fault verdict next fault ∙ sym (first-fault verdict after_entry fault) ∙ ap (λ v. first v after_entry) this ∙ sym entries_verdict-at ∙ rest

    pub good_entry_at : (after : S) → Agrees ≡ entry_verdict same object state (take i entries) entry → after ≡ object.next state entry.inv
        → entries_verdict same object after (take (i + 1) entries) (drop (i + 1) entries ++ later) ≡ whole
    good_entry_at after this next = rw next (ap (λ v. first v after_entry) this ∙ sym entries_verdict-at ∙ rest)

module _ {I R : Type 0} (same : R → R → Bool) (entries : List (Entry I R)) (returns : List (Return R)) (i : ℕ) (returned : Return R) (within : i < length returns) (is : returned ≡ get_or returns i returned) where
  abbrev later_verdict : Verdict
  later_verdict = returns_verdict same entries (take (i + 1) returns) (drop (i + 1) returns)

  -- the verdict from a place on is that on the return there, and then on those after it
  returns_verdict-at : returns_verdict same entries (take i returns) (drop i returns) ≡ first (return_verdict same entries (take i returns) returned) later_verdict
  returns_verdict-at =
      at_drop_more (returns_verdict same entries (take i returns)) returns i returned within
      ∙ ap (λ r. returns_verdict same entries (take i returns) (r ∷ drop (i + 1) returns)) (sym is)
      ∙ ap (λ earlier. first (return_verdict same entries (take i returns) returned) (returns_verdict same entries earlier (drop (i + 1) returns)))
      (sym (take_more returns i returned within ∙ ap (λ r. take i returns ++ r ∷ []) (sym is)))

  pub bad_return_at : (whole verdict : Verdict) → returns_verdict same entries (take i returns) (drop i returns) ≡ whole
      → verdict ≡ return_verdict same entries (take i returns) returned → verdict ≢ Agrees → verdict ≡ whole
  bad_return_at whole verdict rest this fault = sym (first-fault verdict later_verdict fault) ∙ ap (λ v. first v later_verdict) this ∙ sym returns_verdict-at ∙ rest

  pub good_return_at : (whole : Verdict) → returns_verdict same entries (take i returns) (drop i returns) ≡ whole
      → Agrees ≡ return_verdict same entries (take i returns) returned → later_verdict ≡ whole
  good_return_at whole rest this = ap (λ v. first v later_verdict) this ∙ sym returns_verdict-at ∙ rest
