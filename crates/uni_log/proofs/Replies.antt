-- Which entries have their responses.
use Rattle.uni_log.proofs.Vocabulary.{Anchor, Entry, Invariant, IsSome, IsSomeAnd, List, None, Option, Sequential, Some, WorldOf, ap, entry_shown, era_calls, length, length-map, log, map, option_map, settled_from, slice_get, subst, sym, ℕ, ◌+◌, ◌<◌, ◌∙◌, ◌≡◌}
use Rattle.std.proofs.lemmas.Option.{slice_get-map}
use Rattle.uni_log.specs.declared.entry.Entry.{Entry as Shown}

-- each entry of the code but the last has its reply
pub settled_but_last : {S I R : Type 0} (object : Sequential S I R) (w : WorldOf S I R) → Invariant object w → (entries : List (Shown I R))
    → map entry_shown entries ≡ log w → (i : ℕ) → i + 1 < length entries → IsSomeAnd (slice_get entries i) (λ e. IsSome e.reply)
settled_but_last {I = I} {R = R} object w inv entries is i more = by_entry (slice_get entries i) (subst (λ o. IsSomeAnd o (λ (e : Entry I R). IsSome e.response)) (ap (λ es. slice_get es i) (sym is) ∙ slice_get-map entry_shown entries i)
    (settled_from object w inv.0 inv.1 inv.2 (era_calls w) Anchor _ i inv.2.numbered.first (subst (λ k. i + 1 < k) (sym (length-map entries entry_shown) ∙ ap length is) more))) where
      by_entry : (o : Option (Shown I R)) → IsSomeAnd (option_map entry_shown o) (λ (e : Entry I R). IsSome e.response) → IsSomeAnd o (λ (e : Shown I R). IsSome e.reply)
      by_entry None h = h
      by_entry (Some e) h = h
