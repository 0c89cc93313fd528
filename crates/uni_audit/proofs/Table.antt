-- The table of calls, as entries are added, and their marks, as calls return.
use Rattle.uni_audit.proofs.Vocabulary.{Agrees, AreMarked, BadReturn, Bool, CallId, Entry, IsTable, List, Missing, None, Option, Return, Some, [], ap, arith, count_calls_of, cond, entry_place, eqb-false, eqb-true, false, get_or, get_or-set_other, get_or-set_same, has_returned, if◌then◌else◌, length, length-map, list_any-append, map, mark_at, option_and_then, option_map, option_map_or, option_or, place_of, refl, return_verdict, row_of, same_call, set, slice_get, slice_get-map, slice_get_past, slice_get_read, sum_by-append, sym, true, ℕ, ◌&&◌, ◌++◌, ◌+◌, ◌<◌, ◌==◌, ◌||◌, ◌∙◌, ◌∷◌, ◌≡◌, ◌≢◌}
use Rattle.std.proofs.Math.Bool.{or-false, or-true}
use Rattle.std.proofs.Math.ListN.{length-set}
use Rattle.std.proofs.lemmas.List.{length-append}
use Rattle.std.proofs.lemmas.List.Quantifiers.{position-Some}
use Rattle.uni_audit.specs.declared.call_places.CallPlaces.{CallPlaces}
use Rattle.uni_audit.proofs.Calls.{same_call-equal, same_call-same}
use Rattle.uni_audit.proofs.Elements.{find_place, position-more, slice_get-more_last, slice_get-more_other}

-- the rows with the place of the next call of a process
module _ {I R : Type 0} (earlier : List (Entry I R)) (entry : Entry I R) (calls after : CallPlaces) (table : IsTable earlier calls)
    (next : entry.call.nth ≡ length (row_of calls entry.call.process))
    (grown : (q : ℕ) → row_of after q ≡ (if entry.call.process == q then row_of calls q ++ length earlier ∷ [] else row_of calls q)) where
  counted_more : (process : ℕ) → length (row_of after process) ≡ count_calls_of process (earlier ++ entry ∷ [])
  counted_more process =
      let split = sum_by-append (λ e. cond (e.call.process == process) 1 0) earlier (entry ∷ []) in
      by_process (entry.call.process == process) refl (grown process) split where
        by_process : (t : Bool) → (entry.call.process == process) ≡ t
            → row_of after process ≡ (if t then row_of calls process ++ length earlier ∷ [] else row_of calls process)
            → count_calls_of process (earlier ++ entry ∷ []) ≡ count_calls_of process earlier + (0 + cond t 1 0)
            → length (row_of after process) ≡ count_calls_of process (earlier ++ entry ∷ [])
        by_process true is row split = ap length row ∙ length-append (row_of calls process) (length earlier ∷ []) ∙ (omega (arith, table.counted process, split))
        by_process false is row split = ap length row ∙ (omega (arith, table.counted process, split))

  next_place : (call : CallId) → (entry.call.process == call.process) ≡ true → entry.call.nth ≡ length (row_of calls call.process)
  next_place call process = next ∙ ap (λ q. length (row_of calls q)) (eqb-true _ _ process)

  placed_more : (call : CallId) → place_of after call ≡ entry_place call (earlier ++ entry ∷ [])
  placed_more call = by_process (entry.call.process == call.process) refl (grown call.process) ∙ sym (position-more (λ e. same_call e.call call) earlier entry) where
    with_entry : (t : Bool) → Option ℕ
    with_entry t = option_or (entry_place call earlier) (cond t (Some (length earlier)) None)

    no_entry : place_of calls call ≡ with_entry false
    no_entry = table.placed call ∙ by_place (entry_place call earlier) where
      by_place : (o : Option ℕ) → o ≡ option_or o None
      by_place None = refl
      by_place (Some place) = refl

    by_nth : (entry.call.process == call.process) ≡ true → (u : Bool) → (entry.call.nth == call.nth) ≡ u
        → slice_get (row_of calls call.process ++ length earlier ∷ []) call.nth ≡ with_entry (true && u)
    by_nth process true nth =
        let end : call.nth ≡ length (row_of calls call.process) = sym (eqb-true _ _ nth) ∙ next_place call process in
        let none : entry_place call earlier ≡ None = sym (table.placed call) ∙ slice_get_past (row_of calls call.process) call.nth (omega (arith, end)) in
        ap (λ n. slice_get (row_of calls call.process ++ length earlier ∷ []) n) end ∙ slice_get-more_last (row_of calls call.process) (length earlier) ∙ (rw none refl)
    by_nth process false nth =
        slice_get-more_other (row_of calls call.process) (length earlier) call.nth (λ e. eqb-false _ _ nth (next_place call process ∙ sym e)) ∙ no_entry

    by_process : (t : Bool) → (entry.call.process == call.process) ≡ t
        → row_of after call.process ≡ (if t then row_of calls call.process ++ length earlier ∷ [] else row_of calls call.process)
        → place_of after call ≡ with_entry (same_call entry.call call)
    by_process true is row = rw (row, is) (by_nth is (entry.call.nth == call.nth) refl)
    by_process false is row = rw (row, is) no_entry

  pub table_more : IsTable (earlier ++ entry ∷ []) after
  table_more = record { counted = counted_more; placed = placed_more }

module _ {I R : Type 0} where
  -- a call's place is within the entries
  pub place_within : (entries : List (Entry I R)) (call : CallId) (place : ℕ) → entry_place call entries ≡ Some place → place < length entries
  place_within [] call place at = absurd (cc)
  place_within (x ∷ xs) call place at = (position-Some (λ e. same_call e.call call) (x ∷ xs) place x at).0

  -- no two calls have one place
  one_place : (entries : List (Entry I R)) (a b : CallId) (place : ℕ) → entry_place a entries ≡ Some place → entry_place b entries ≡ Some place → a ≡ b
  one_place [] a b place at_a at_b = absurd (cc)
  one_place (x ∷ xs) a b place at_a at_b =
      let is_a = position-Some (λ e. same_call e.call a) (x ∷ xs) place x at_a in
      let is_b = position-Some (λ e. same_call e.call b) (x ∷ xs) place x at_b in
      sym (same_call-equal (get_or (x ∷ xs) place x).call a is_a.1) ∙ same_call-equal (get_or (x ∷ xs) place x).call b is_b.1

  -- the verdict on a return of a call with no place
  pub verdict_unplaced : (same : R → R → Bool) (entries : List (Entry I R)) (earlier : List (Return R)) (marks : List Bool) (returned : Return R) → AreMarked entries earlier marks
      → entry_place returned.call entries ≡ None → Missing returned.call ≡ return_verdict same entries earlier returned
  verdict_unplaced same entries earlier marks returned are none =
      let unmarked : has_returned returned.call earlier ≡ false = sym (are.marked returned.call) ∙ ap (mark_at marks) none in
      let no_entry = find_place (λ e. same_call e.call returned.call) entries ∙ ap (λ o. option_and_then (slice_get entries) o) none in
      rw (unmarked, no_entry) refl

  module _ (entries : List (Entry I R)) (earlier : List (Return R)) (marks : List Bool) (returned : Return R) (are : AreMarked entries earlier marks)
      (place : ℕ) (at : entry_place returned.call entries ≡ Some place) where
    -- the verdict on a return of a call whose place isn't marked
    pub verdict_unmarked : (same : R → R → Bool) (replies : List (Option R)) (reply : Option R) → replies ≡ map (λ e. e.reply) entries → reply ≡ get_or replies place reply → get_or marks place false ≡ false
        → option_map_or (λ r. if same r returned.reply then Agrees else BadReturn returned.call) reply (Missing returned.call) ≡ return_verdict same entries earlier returned
    verdict_unmarked same replies reply all is mark =
        let long : length replies ≡ length entries = ap length all ∙ length-map entries _ in
        let within : place < length replies = (let inside = place_within entries returned.call place at in omega arith) in
        let replied : slice_get (map (λ (e : Entry I R). e.reply) entries) place ≡ Some reply =
        ap (λ rs. slice_get rs place) (sym all) ∙ slice_get_read replies (length replies) place reply refl within is in
        let unmarked : has_returned returned.call earlier ≡ false = sym (are.marked returned.call) ∙ ap (mark_at marks) at ∙ mark in
        let found = find_place (λ e. same_call e.call returned.call) entries ∙ ap (λ o. option_and_then (slice_get entries) o) at in
        let told = of_entry (slice_get entries place) (sym (slice_get-map (λ (e : Entry I R). e.reply) entries place) ∙ replied) in
        rw (unmarked, found, told) refl where
          of_entry : (o : Option (Entry I R)) → option_map (λ (e : Entry I R). e.reply) o ≡ Some reply → option_and_then (λ (e : Entry I R). e.reply) o ≡ reply
          of_entry None e = absurd (cc)
          of_entry (Some entry) e = cc

    -- the marks after a return
    pub marked_more : AreMarked entries (earlier ++ returned ∷ []) (set marks place true)
    marked_more = record {
      each = length-set marks place true ∙ are.each;
      marked = λ call. by_same call (same_call returned.call call) refl ∙ sym (list_any-append (λ r. same_call r.call call) earlier (returned ∷ []));
    } where
      apart : (call : CallId) → same_call returned.call call ≡ false → (i : ℕ) → entry_place call entries ≡ Some i → i ≢ place
      apart call other i there is =
          let this = same_call-same returned.call call (one_place entries returned.call call place at (there ∙ ap (λ n. Some n) is)) in
          absurd (cc)

      by_same : (call : CallId) (t : Bool) → same_call returned.call call ≡ t
          → mark_at (set marks place true) (entry_place call entries) ≡ (has_returned call earlier || (same_call returned.call call || false))
      by_same call true this =
          let here : entry_place call entries ≡ Some place = ap (λ c. entry_place c entries) (sym (same_call-equal returned.call call this)) ∙ at in
          let within : place < length marks = omega (arith, are.each, place_within entries returned.call place at) in
          rw (here, this) (get_or-set_same marks place true false within ∙ sym (or-true (has_returned call earlier)))
      by_same call false other =
          rw other (by_place (entry_place call entries) refl ∙ are.marked call ∙ sym (or-false (has_returned call earlier))) where
            by_place : (o : Option ℕ) → entry_place call entries ≡ o → mark_at (set marks place true) o ≡ mark_at marks o
            by_place None there = refl
            by_place (Some i) there = get_or-set_other marks place i true false (apart call other i there)
