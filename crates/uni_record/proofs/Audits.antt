-- The entries of all eras of a record, as the code makes them one at a time.
use Rattle.uni_record.proofs.Vocabulary.{Agrees, Bool, Entry, Event, IsRecording, JoinsLegalLogs, List, LogsResponses, Recording, Sequential, Some, Verdict, [], ap, append_assoc, arith, drop, drop-at, entries_verdict, entry_shown, entry_verdict, first, log, map, map-append, meaning, option_map, refl, returns_verdict, slice_get, slice_get-map, suc, sym, take, taken-more, true, verdict_of, world_of, ℕ, ◌++◌, ◌+◌, ◌↔◌, ◌∙◌, ◌∷◌, ◌≡◌}
use Rattle.uni_model.specs.Chain.{Entry as Logged}
use Rattle.uni_record.proofs.Agreed.{IsAudited-record}
use Rattle.uni_audit.proofs.Faults.{first-agrees}
use Rattle.uni_audit.proofs.Meaning.{agrees_means}
use Rattle.uni_record.proofs.Promised.{entries_are_joined}

-- the entry that an entry of the log is
abbrev pub told : {I R : Type 0} → Logged I R → Entry I R
told x = record { seq = x.number; call = record { process = x.call.process; nth = x.call.nth }; inv = x.call.inv; reply = x.response }

module _ {I R : Type 0} where
  shown_told : (xs : List (Logged I R)) → map entry_shown (map told xs) ≡ xs
  shown_told [] = refl
  shown_told (x ∷ xs) = ap (λ ys. x ∷ ys) (shown_told xs)

  -- what the log has at a place is told as it was made
  pub told_at : (xs : List (Logged I R)) (place : ℕ) (e : Entry I R) → Some (entry_shown e) ≡ slice_get xs place → slice_get (map told xs) place ≡ Some e
  told_at xs place e at = slice_get-map told xs place ∙ ap (option_map told) (sym at)

-- the entries of all eras: those that are kept of the ended ones, and those of the present one
abbrev pub present_of : {O S I R : Type 0} → Recording O S I R → List (Entry I R)
present_of r = map told (log (world_of r.world))

-- an audit of all of them agrees
module _ {O S I R : Type 0} (sequential : O → Sequential S I R) (same : R → R → Bool) (equal : (a b : R) → (same a b ≡ true) ↔ (a ≡ b)) (r : Recording O S I R) (is : IsRecording sequential r)
    (legal : (n : ℕ) (start : S) (number : ℕ) (events : List (Event I)) → JoinsLegalLogs (meaning sequential r) n start number events)
    (responses : (n : ℕ) (start : S) (number : ℕ) (events : List (Event I)) → LogsResponses (meaning sequential r) n start number events) where
  whole : verdict_of same (meaning sequential r) (r.ended ++ present_of r) r.returns ≡ Agrees
  whole =
      let shown : map entry_shown (r.ended ++ present_of r) ≡ map entry_shown r.ended ++ log (world_of r.world) =
      map-append entry_shown r.ended (present_of r) ∙ ap (λ es. map entry_shown r.ended ++ es) (shown_told (log (world_of r.world))) in
      (agrees_means same equal (meaning sequential r) (r.ended ++ present_of r) r.returns _ refl).1
      (IsAudited-record sequential r (r.ended ++ present_of r) is (entries_are_joined sequential r r.ended (r.ended ++ present_of r) is shown refl) legal responses)

  pub entries_agree : entries_verdict same (meaning sequential r) (meaning sequential r).initial [] (r.ended ++ present_of r) ≡ Agrees
  entries_agree = (first-agrees _ _ whole).0

  -- the kept entries of the ended eras, with what comes after them
  pub ended_agree : (ended : List (Entry I R)) → ended ≡ r.ended → (object : Sequential S I R) → object ≡ meaning sequential r → (start : S) → start ≡ object.initial
      → (verdict after : Verdict) → first verdict after ≡ entries_verdict same object start [] (ended ++ present_of r) → (verdict ≡ Agrees) × (after ≡ Agrees)
  ended_agree ended kept object meant start begins verdict after is = first-agrees verdict after (is ∙ rw (begins, kept, meant) entries_agree)

  pub returns_agree : returns_verdict same (r.ended ++ present_of r) [] r.returns ≡ Agrees
  returns_agree = (first-agrees _ _ whole).1

-- one entry more of those that are left is gone over
module _ {S I R : Type 0} (same : R → R → Bool) (object : Sequential S I R) (state : S) (ended left : List (Entry I R)) (passed : ℕ) (entry : Entry I R)
    (at : slice_get left passed ≡ Some entry)
    (rest : entries_verdict same object state (ended ++ take passed left) (drop passed left) ≡ Agrees) where
  pub gone_further : (ended ++ take passed left) ++ entry ∷ [] ≡ ended ++ take (passed + 1) left
  gone_further = append_assoc ended (take passed left) (entry ∷ []) ∙ ap (λ es. ended ++ es) (sym (taken-more left passed entry at))

  both : first (entry_verdict same object state (ended ++ take passed left) entry) (entries_verdict same object (object.next state entry.inv) ((ended ++ take passed left) ++ entry ∷ []) (drop (passed + 1) left)) ≡ Agrees
  both = sym (ap (entries_verdict same object state (ended ++ take passed left)) (drop-at left passed entry at ∙ (let next : suc passed ≡ passed + 1 = omega arith in ap (λ n. entry ∷ drop n left) next))) ∙ rest

  pub entry_agrees : entry_verdict same object state (ended ++ take passed left) entry ≡ Agrees
  entry_agrees = (first-agrees _ _ both).0

  pub rest_agrees : (after : S) → after ≡ object.next state entry.inv → entries_verdict same object after (ended ++ take (passed + 1) left) (drop (passed + 1) left) ≡ Agrees
  rest_agrees after next = rw (next, ← gone_further) (first-agrees _ _ both).1
