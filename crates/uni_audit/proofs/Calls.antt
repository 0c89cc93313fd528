-- Calls by their names, and the entry of a call.
use Rattle.uni_audit.proofs.Vocabulary.{Bool, CallId, Entry, List, Some, [], ap, arith, count_calls_of, cond, eq-eqb, eqb-true, false, find, option_and_then, refl, reply_to, same_call, slice_get, suc, take, true, zero, ℕ, ◌&&◌, ◌<◌, ◌==◌, ◌∙◌, ◌∷◌, ◌≡◌, ◌≢◌}
use Rattle.uni_audit.proofs.Before.{count_by-before}

abbrev pub call_named : (process nth : ℕ) → CallId
call_named p k = record { process = p; nth = k }

pub same_call-equal : (a b : CallId) → same_call a b ≡ true → a ≡ b
same_call-equal a b e = by_process (a.process == b.process) refl e where
  by_fields : a.process ≡ b.process → a.nth ≡ b.nth → a ≡ b
  by_fields process nth = ap (λ p. call_named p a.nth) process ∙ ap (call_named b.process) nth

  by_process : (t : Bool) → (a.process == b.process) ≡ t → (t && (a.nth == b.nth)) ≡ true → a ≡ b
  by_process true process nth = by_fields (eqb-true _ _ process) (eqb-true _ _ nth)
  by_process false process nth = absurd (cc)

pub same_call-same : (a b : CallId) → a ≡ b → same_call a b ≡ true
same_call-same a b e =
    let process : (a.process == b.process) ≡ true = eq-eqb _ _ (ap (λ c. c.process) e) in
    let nth : (a.nth == b.nth) ≡ true = eq-eqb _ _ (ap (λ c. c.nth) e) in
    rw (process, nth) refl

-- in entries that are each the next call of their process, no call has two
pub one_entry : {I R : Type 0} (entries : List (Entry I R)) → ((i : ℕ) (entry : Entry I R) → slice_get entries i ≡ Some entry → entry.call.nth ≡ count_calls_of entry.call.process (take i entries))
    → (i j : ℕ) (a b : Entry I R) → i < j → slice_get entries i ≡ Some a → slice_get entries j ≡ Some b → a.call ≢ b.call
one_entry entries numbered i j a b less at_i at_j same =
    let process : a.call.process ≡ b.call.process = ap (λ c. c.process) same in
    let nth : a.call.nth ≡ b.call.nth = ap (λ c. c.nth) same in
    let low : a.call.nth ≡ count_calls_of a.call.process (take i entries) = numbered i a at_i in
    let high : b.call.nth ≡ count_calls_of a.call.process (take j entries) = rw (← process) at (numbered j b at_j) in
    let more : count_calls_of a.call.process (take i entries) < count_calls_of a.call.process (take j entries) =
    count_by-before (λ e. e.call.process == a.call.process) entries i j a less at_i (eq-eqb a.call.process a.call.process refl) in
    absurd (omega arith)

-- a reply is that of an entry of the call
pub reply_from : {I R : Type 0} (call : CallId) (reply : R) (entries : List (Entry I R)) → reply_to call entries ≡ Some reply
    → (place : ℕ) × (entry : Entry I R) × (slice_get entries place ≡ Some entry) × (entry.call ≡ call) × (entry.reply ≡ Some reply)
reply_from call reply [] is = absurd (cc)
reply_from {I} {R} call reply (x ∷ xs) is = by_call (reply_from call reply xs) (same_call x.call call) refl is where
  by_call : (reply_to call xs ≡ Some reply → (place : ℕ) × (entry : Entry I R) × (slice_get xs place ≡ Some entry) × (entry.call ≡ call) × (entry.reply ≡ Some reply))
      → (t : Bool) → same_call x.call call ≡ t → option_and_then (λ e. e.reply) (cond t (Some x) (find (λ e. same_call e.call call) xs)) ≡ Some reply
      → (place : ℕ) × (entry : Entry I R) × (slice_get (x ∷ xs) place ≡ Some entry) × (entry.call ≡ call) × (entry.reply ≡ Some reply)
  by_call rest true test is = (zero, x, refl, same_call-equal x.call call test, is)
  by_call rest false test is = let later = rest is in (suc later.0, later.1, later.2, later.3, later.4)

-- and the first entry of a call is the one that counts
pub reply_at : {I R : Type 0} (entries : List (Entry I R)) (place : ℕ) (entry : Entry I R) → slice_get entries place ≡ Some entry
    → ((i : ℕ) (e : Entry I R) → i < place → slice_get entries i ≡ Some e → e.call ≢ entry.call) → reply_to entry.call entries ≡ entry.reply
reply_at [] place entry at none = absurd (cc)
reply_at (x ∷ xs) zero entry at none =
    let same : x ≡ entry = cc in
    let test : same_call x.call entry.call ≡ true = same_call-same x.call entry.call (ap (λ e. e.call) same) in
    rw test (ap (λ e. e.reply) same)
reply_at (x ∷ xs) (suc place) entry at none =
    let rest = reply_at xs place entry at (λ i e less there. none (suc i) e (omega arith) there) in
    by_call (same_call x.call entry.call) refl rest where
      by_call : (t : Bool) → same_call x.call entry.call ≡ t → reply_to entry.call xs ≡ entry.reply
          → option_and_then (λ e. e.reply) (cond t (Some x) (find (λ e. same_call e.call entry.call) xs)) ≡ entry.reply
      by_call true test rest = absurd (none zero x (omega arith) refl (same_call-equal x.call entry.call test))
      by_call false test rest = rest
