-- `Agrees` is the verdict exactly where entries and returns agree.
use Rattle.uni_audit.proofs.Vocabulary.{Agrees, BadCall, BadReply, BadReturn, Bool, Entry, IfSome, IsAudited, IsLegal, List, Missing, None, Option, Return, Sequential, Some, Twice, Verdict, [], ap, call_shown, count_calls_of, entries_verdict, entry_verdict, eq-eqb, eqb-true, false, has_returned, if◌then◌else◌, length, map, option_map_or, refl, reply_to, return_verdict, returns_verdict, same_call, slice_get, subst, sym, take, true, verdict_of, ℕ, ◌++◌, ◌==◌, ◌↔◌, ◌∙◌, ◌∷◌, ◌≡◌, ◌≢◌}
use Rattle.uni_audit.proofs.Before.{EachAfter, EachAfter-none, EachAfter-cons, EachAfter-parts, none_before, none_of_first}
use Rattle.uni_audit.proofs.Calls.{same_call-equal, same_call-same, one_entry, reply_from, reply_at}
use Rattle.uni_audit.proofs.Faults.{first-agrees, passed}

module _ {R : Type 0} (same : R → R → Bool) (exact : (r s : R) → (same r s ≡ true) ↔ (r ≡ s)) where
  reply_agrees : (right : R) (place : ℕ) (o : Option R) → option_map_or (λ reply. if same reply right then Agrees else BadReply place) o Agrees ≡ Agrees → IfSome o (λ r. r ≡ right)
  reply_agrees right place None e = tt
  reply_agrees right place (Some r) e = (exact r right).0 (passed (same r right) Agrees (BadReply place) (λ f. absurd (cc)) e).0

  reply_right : (right : R) (place : ℕ) (o : Option R) → IfSome o (λ r. r ≡ right) → option_map_or (λ reply. if same reply right then Agrees else BadReply place) o Agrees ≡ Agrees
  reply_right right place None is = refl
  reply_right right place (Some r) is = let equal : same r right ≡ true = (exact r right).1 is in rw equal refl

  abbrev IsNext : {I : Type 0} → List (Entry I R) → Entry I R → Type 0
  IsNext earlier entry = entry.call.nth ≡ count_calls_of entry.call.process earlier

  module _ {S I : Type 0} (object : Sequential S I R) where
    pub entries_agree : (state : S) (earlier later : List (Entry I R)) → entries_verdict same object state earlier later ≡ Agrees
        → IsLegal object state (map call_shown later) × EachAfter IsNext earlier later
    entries_agree state earlier [] e = (tt, EachAfter-none IsNext earlier)
    entries_agree state earlier (entry ∷ later) e =
        let both = first-agrees (entry_verdict same object state earlier entry) _ e in
        let call = passed (entry.call.nth == count_calls_of entry.call.process earlier) _ (BadCall (length earlier)) (λ f. absurd (cc)) both.0 in
        let rest = entries_agree (object.next state entry.inv) (earlier ++ entry ∷ []) later both.1 in
        ((reply_agrees (object.answer state entry.inv) (length earlier) entry.reply call.1, rest.0), EachAfter-cons IsNext earlier entry later (eqb-true _ _ call.0) rest.1)

    pub agree_entries : (state : S) (earlier later : List (Entry I R)) → IsLegal object state (map call_shown later) → EachAfter IsNext earlier later
        → entries_verdict same object state earlier later ≡ Agrees
    agree_entries state earlier [] legal numbered = refl
    agree_entries state earlier (entry ∷ later) legal numbered =
        let parts = EachAfter-parts IsNext earlier entry later numbered in
        let call : (entry.call.nth == count_calls_of entry.call.process earlier) ≡ true = eq-eqb _ _ parts.0 in
        let rest = agree_entries (object.next state entry.inv) (earlier ++ entry ∷ []) later legal.1 parts.1 in
        rw (call, reply_right (object.answer state entry.inv) (length earlier) entry.reply legal.0, rest) refl

  module _ {I : Type 0} (entries : List (Entry I R)) where
    abbrev IsReplied : List (Return R) → Return R → Type 0
    IsReplied earlier returned = (has_returned returned.call earlier ≡ false) × (reply_to returned.call entries ≡ Some returned.reply)

    return_agrees : (earlier : List (Return R)) (returned : Return R) → return_verdict same entries earlier returned ≡ Agrees → IsReplied earlier returned
    return_agrees earlier returned e = by_returned (has_returned returned.call earlier) refl e where
      by_reply : (o : Option R) → option_map_or (λ reply. if same reply returned.reply then Agrees else BadReturn returned.call) o (Missing returned.call) ≡ Agrees → o ≡ Some returned.reply
      by_reply None e = absurd (cc)
      by_reply (Some r) e = ap (λ x. Some x) ((exact r returned.reply).0 (passed (same r returned.reply) Agrees (BadReturn returned.call) (λ f. absurd (cc)) e).0)

      by_returned : (t : Bool) → has_returned returned.call earlier ≡ t
          → (if t then Twice returned.call else option_map_or (λ reply. if same reply returned.reply then Agrees else BadReturn returned.call) (reply_to returned.call entries) (Missing returned.call)) ≡ Agrees
          → IsReplied earlier returned
      by_returned true is e = absurd (cc)
      by_returned false is e = (is, by_reply (reply_to returned.call entries) e)

    agree_return : (earlier : List (Return R)) (returned : Return R) → IsReplied earlier returned → return_verdict same entries earlier returned ≡ Agrees
    agree_return earlier returned is =
        let equal : same returned.reply returned.reply ≡ true = (exact returned.reply returned.reply).1 refl in
        rw (is.0, is.1, equal) refl

    pub returns_agree : (earlier later : List (Return R)) → returns_verdict same entries earlier later ≡ Agrees → EachAfter IsReplied earlier later
    returns_agree earlier [] e = EachAfter-none IsReplied earlier
    returns_agree earlier (returned ∷ later) e =
        let both = first-agrees (return_verdict same entries earlier returned) _ e in
        EachAfter-cons IsReplied earlier returned later (return_agrees earlier returned both.0) (returns_agree (earlier ++ returned ∷ []) later both.1)

    pub agree_returns : (earlier later : List (Return R)) → EachAfter IsReplied earlier later → returns_verdict same entries earlier later ≡ Agrees
    agree_returns earlier [] replied = refl
    agree_returns earlier (returned ∷ later) replied =
        let parts = EachAfter-parts IsReplied earlier returned later replied in
        rw (agree_return earlier returned parts.0, agree_returns (earlier ++ returned ∷ []) later parts.1) refl

module _ {S I R : Type 0} (same : R → R → Bool) (exact : (r s : R) → (same r s ≡ true) ↔ (r ≡ s)) (object : Sequential S I R) (entries : List (Entry I R)) (returns : List (Return R)) where
  pub audited : verdict_of same object entries returns ≡ Agrees → IsAudited object entries returns
  audited e =
      let both = first-agrees (entries_verdict same object object.initial [] entries) _ e in
      let good = entries_agree same exact object object.initial [] entries both.0 in
      let replied = returns_agree same exact entries [] returns both.1 in
      record {
        legal = good.0;
        numbered = good.1;
        once = λ i j r s less at_i at_j equal.
            let none = none_before (λ x. same_call x.call s.call) returns i j r less at_i (replied j s at_j).0 in
            let is : same_call r.call s.call ≡ true = same_call-same r.call s.call equal in
            absurd (cc);
        replied = λ i r at. reply_from r.call r.reply entries (replied i r at).1;
      }

  pub audited_agrees : IsAudited object entries returns → verdict_of same object entries returns ≡ Agrees
  audited_agrees a =
      let good = agree_entries same exact object object.initial [] entries a.legal a.numbered in
      let replied = agree_returns same exact entries [] returns (λ i r at. (not_before i r at, reply_there r (a.replied i r at))) in
      rw (good, replied) refl where
        not_before : (i : ℕ) (r : Return R) → slice_get returns i ≡ Some r → has_returned r.call (take i returns) ≡ false
        not_before i r at = none_of_first (λ x. same_call x.call r.call) returns i (λ k x less there. other x (same_call x.call r.call) refl (a.once k i x r less there at)) where
          other : (x : Return R) → (t : Bool) → same_call x.call r.call ≡ t → x.call ≢ r.call → same_call x.call r.call ≡ false
          other x true is differs = absurd (differs (same_call-equal _ _ is))
          other x false is differs = is

        reply_there : (r : Return R) → (place : ℕ) × (entry : Entry I R) × (slice_get entries place ≡ Some entry) × (entry.call ≡ r.call) × (entry.reply ≡ Some r.reply) → reply_to r.call entries ≡ Some r.reply
        reply_there r (place, entry, at, call, reply) =
            let first = reply_at entries place entry at (λ i e less there. one_entry entries a.numbered i place e entry less there at) in
            subst (λ c. reply_to c entries ≡ Some r.reply) call (first ∙ reply)

  pub agrees_means : (verdict : Verdict) → verdict ≡ verdict_of same object entries returns → (verdict ≡ Agrees) ↔ IsAudited object entries returns
  agrees_means verdict is = (λ e. audited (sym is ∙ e), λ a. is ∙ audited_agrees a)
