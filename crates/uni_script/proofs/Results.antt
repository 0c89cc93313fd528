-- What a command comes to.
use Rattle.uni_script.proofs.Vocabulary.{Bool, Busy, Call, CanBegin, CanEnd, CommandResult, Count, Err, History, Idle, IsBeginRefused, IsEndRefused, IsQuiescent, IsReshapeRefused, IsSome, LastStep, None, Ok, OnOk, Option, Pending, Process, Recording, Refusal, Reshape, Result, Row, Sequence, Session, Some, SpokenObject, Trim, WorldOf, [], ap, arith, called_text, calls_in_era, current_of, event_shown, events_shown, false, if◌then◌else◌, is_full, is_none, last_step, latest, least_pending, length, length-map, nat_le, nat_lt, nat_tests, option_map, refl, refusal_of_call, refusal_of_end, refusal_of_reshape, refusal_of_step, refused, reshaped_text, result_of_call, result_of_reshape, result_of_steps, result_of_trim, session_after, session_of, standing_of, steps_of, steps_taken, subst, suc, sym, text_of_steps, trimmed_text, true, world_after_all, world_of, zero, ℕ, ◌*◌, ◌+◌, ◌<◌, ◌==◌, ◌^◌, ◌∙◌, ◌∷◌, ◌≡◌, ◌≤◌}
use Rattle.seq_object.specs.declared.call_id.CallId.{CallId}
use Rattle.uni_model.specs.Stages.{Pending as Stands}
use Rattle.uni_record.specs.declared.fault.RecordTrimFault.TheVariants as trim
use Rattle.uni_record.specs.declared.fault.RecordReshapeFault.TheVariants as reshape
use Rattle.uni_core.specs.Refusals.{IsCount}
use Rattle.uni_record.specs.declared.fault.RecordBeginFault.TheVariants as begin
use Rattle.uni_core.specs.Ends.{last_number}
use Rattle.uni_script.proofs.Stepping.{session_after-none}

at_least : (n p : ℕ) → n ≤ p → nat_le n p ≡ true
at_least n p high = at (nat_le n p) refl
  where
    at : (b : Bool) → nat_le n p ≡ b → nat_le n p ≡ true
    at true e = e
    at false e = absurd (grind (arith, nat_tests))

below : (n p : ℕ) → p < n → nat_le n p ≡ false
below n p low = at (nat_le n p) refl
  where
    at : (b : Bool) → nat_le n p ≡ b → nat_le n p ≡ false
    at true e = absurd (grind (arith, nat_tests))
    at false e = e

more_than : (n p : ℕ) → n < p → nat_lt n p ≡ true
more_than n p high = at (nat_lt n p) refl
  where
    at : (b : Bool) → nat_lt n p ≡ b → nat_lt n p ≡ true
    at true e = e
    at false e = absurd (grind (arith, nat_tests))

at_most : (n p : ℕ) → p ≤ n → nat_lt n p ≡ false
at_most n p low = at (nat_lt n p) refl
  where
    at : (b : Bool) → nat_lt n p ≡ b → nat_lt n p ≡ false
    at true e = absurd (grind (arith, nat_tests))
    at false e = e

equal : (m k : ℕ) → m ≡ k → (m == k) ≡ true
equal m k same = at (m == k) refl
  where
    at : (b : Bool) → (m == k) ≡ b → (m == k) ≡ true
    at true e = e
    at false e = absurd (grind (arith, nat_tests))

fewer : (m k : ℕ) → m < k → (m == k) ≡ false
fewer m k low = at (m == k) refl
  where
    at : (b : Bool) → (m == k) ≡ b → (m == k) ≡ false
    at true e = absurd (grind (arith, nat_tests))
    at false e = e

module _ {O S I R : Type 0} (r : Recording O S I R) (p : ℕ) where
  stored_is : length (events_shown r.events) ≡ length r.events
  stored_is = length-map r.events event_shown

  pub refusal_of_call-BadProcess : IsBeginRefused (standing_of r) p begin.BadProcess → refusal_of_call (session_of r) p ≡ Some (Process p)
  refusal_of_call-BadProcess high = rw (at_least (world_of r.world).n p high) refl

  pub refusal_of_call-Busy : (q : ℕ) → IsBeginRefused (standing_of r) p (begin.Busy q) → refusal_of_call (session_of r) p ≡ Some (Busy q)
  refusal_of_call-Busy q is = rw (below (world_of r.world).n p is.1) (rw is.2 (rw is.0 refl))

  pub refusal_of_call-RowFull : (q : ℕ) → IsBeginRefused (standing_of r) p (begin.RowFull q) → refusal_of_call (session_of r) p ≡ Some (Row q)
  refusal_of_call-RowFull q is = rw (below (world_of r.world).n p is.1) (rw is.2 (rw (equal (calls_in_era (world_of r.world) p) r.world.row is.3) (rw is.0 refl)))

  module _ (can : (p < (world_of r.world).n) × ((world_of r.world).call p ≡ None) × (calls_in_era (world_of r.world) p < r.world.row)) where
    refusal_of_call-full : (full : Bool) → is_full (session_of r) ≡ full → refusal_of_call (session_of r) p ≡ (if full then Some History else None)
    refusal_of_call-full full is = rw (below (world_of r.world).n p can.0) (rw can.1 (rw (fewer (calls_in_era (world_of r.world) p) r.world.row can.2) (rw is refl)))

  pub refusal_of_call-HistoryFull : IsBeginRefused (standing_of r) p begin.HistoryFull → refusal_of_call (session_of r) p ≡ Some History
  refusal_of_call-HistoryFull is = refusal_of_call-full is.0 true (let long = stored_is in let over = is.1 in more_than r.limit _ (omega arith))

  pub refusal_of_call-none : CanBegin (standing_of r) p → refusal_of_call (session_of r) p ≡ None
  refusal_of_call-none is = refusal_of_call-full is.0 false (let long = stored_is in let fits = is.1 in at_most r.limit _ (omega arith))

not_below : (n p : ℕ) → (p < n → ⊥) → nat_le n p ≡ true
not_below n p high = at (nat_le n p) refl
  where
    at : (b : Bool) → nat_le n p ≡ b → nat_le n p ≡ true
    at true e = e
    at false e = absurd (high (grind (arith, nat_tests)))

module _ {S I R : Type 0} (w : WorldOf S I R) where
  least_pending-none : (m : ℕ) → ((q : ℕ) → q < m → w.call q ≡ None) → least_pending w m ≡ None
  least_pending-none zero none = refl
  least_pending-none (suc m) none =
      let before : least_pending w m ≡ None = least_pending-none m (λ q low. none q (omega arith)) in
      let last : w.call m ≡ None = none m (omega arith) in
      rw before (rw last refl)

  least_pending-some : (m p : ℕ) → p < m → IsSome (w.call p) → ((q : ℕ) → q < p → w.call q ≡ None) → least_pending w m ≡ Some p
  least_pending-some zero p low pending none = absurd (omega arith)
  least_pending-some (suc m) p low pending none = at (nat_lt p m) refl (λ lower. least_pending-some m p lower pending none)
    where
      at : (b : Bool) → nat_lt p m ≡ b → (p < m → least_pending w m ≡ Some p) → least_pending w (suc m) ≡ Some p
      at true e earlier = let before : least_pending w m ≡ Some p = earlier (grind (arith, nat_tests)) in rw before refl
      at false e earlier =
          let same : p ≡ m = (let high : m ≤ p = grind (arith, nat_tests) in omega arith) in
          let before : least_pending w m ≡ None = least_pending-none m (λ q few. none q (omega arith)) in
          let last : IsSome (w.call m) = (subst (λ q. IsSome (w.call q)) same pending) in
          rw before (rw last (ap Some (sym same)))

module _ {O S I R : Type 0} (r : Recording O S I R) (m : ℕ) where
  pub refusal_of_end-Pending : (p : ℕ) → IsEndRefused (standing_of r) m (trim.Pending p) → refusal_of_end (session_of r) m ≡ Some (Pending p)
  refusal_of_end-Pending p is = rw (least_pending-some (world_of r.world) (world_of r.world).n p is.0 is.1 is.2) refl

  module _ (quiet : IsQuiescent (world_of r.world)) where
    refusal_of_end-numbers : (full : Bool) → nat_le (2 ^ 48) (last_number (world_of r.world) + m * r.world.row) ≡ full → (over : Bool) → nat_lt r.limit (length (events_shown r.events) + 1) ≡ over
        → refusal_of_end (session_of r) m ≡ (if full then Some Sequence else if over then Some History else None)
    refusal_of_end-numbers full is over is_over = rw (least_pending-none (world_of r.world) (world_of r.world).n quiet) (rw is (rw is_over refl))

  pub refusal_of_end-SeqFull : IsEndRefused (standing_of r) m trim.SeqFull → refusal_of_end (session_of r) m ≡ Some Sequence
  refusal_of_end-SeqFull is = refusal_of_end-numbers is.0 true (not_below (2 ^ 48) _ is.1) _ refl

  pub refusal_of_end-HistoryFull : IsEndRefused (standing_of r) m trim.HistoryFull → refusal_of_end (session_of r) m ≡ Some History
  refusal_of_end-HistoryFull is = refusal_of_end-numbers is.0 false (below (2 ^ 48) _ is.1) true (let long = length-map r.events event_shown in let few = is.2 in more_than r.limit _ (omega arith))

  pub refusal_of_end-none : CanEnd (standing_of r) m → refusal_of_end (session_of r) m ≡ None
  refusal_of_end-none is = refusal_of_end-numbers is.0 false (below (2 ^ 48) _ is.1) false (let long = length-map r.events event_shown in let fits = is.2 in at_most r.limit _ (omega arith))

  pub refusal_of_reshape-count : IsCount m → refusal_of_reshape (session_of r) m ≡ refusal_of_end (session_of r) m
  refusal_of_reshape-count is = rw (at_least 1 m is.0) (rw (at_least m 64 is.1) refl)

  pub refusal_of_reshape-BadCount : IsReshapeRefused (standing_of r) m reshape.BadCount → refusal_of_reshape (session_of r) m ≡ Some (Count m)
  refusal_of_reshape-BadCount other = at (nat_le 1 m) refl (nat_le m 64) refl
    where
      at : (b : Bool) → nat_le 1 m ≡ b → (c : Bool) → nat_le m 64 ≡ c → refusal_of_reshape (session_of r) m ≡ Some (Count m)
      at false e c f = rw e refl
      at true e false f = rw e (rw f refl)
      at true e true f = absurd (other (grind (arith, nat_tests), grind (arith, nat_tests)))

module _ {S I R : Type 0} (w : WorldOf S I R) (p : ℕ) where
  pub refusal_of_step-idle : p < w.n → None ≡ current_of w p → refusal_of_step w p ≡ Some (Idle p)
  refusal_of_step-idle low e = rw (below w.n p low) (at (w.call p) e)
    where
      at : (c : Option Stands) → None ≡ option_map (λ (x : Stands). latest w p) c → (if is_none c then Some (Idle p) else None) ≡ Some (Idle p)
      at None f = refl
      at (Some x) f = absurd (cc)

  pub refusal_of_step-none : (call : CallId) → p < w.n → Some call ≡ current_of w p → refusal_of_step w p ≡ None
  refusal_of_step-none call low e = rw (below w.n p low) (at (w.call p) e)
    where
      at : (c : Option Stands) → Some call ≡ option_map (λ (x : Stands). latest w p) c → (if is_none c then Some (Idle p) else None) ≡ None
      at None f = absurd (cc)
      at (Some x) f = refl

-- what is refused leaves a session as it was
pub session_after-refused : {S I R : Type 0} (o : SpokenObject S I R) (b b' : Session S I R) (result : CommandResult I) (refusal : Refusal) → b' ≡ b → result ≡ refused refusal → b' ≡ session_after o b result.events
session_after-refused o b b' result refusal same is = same ∙ sym (session_after-none o b) ∙ ap (λ (x : CommandResult _). session_after o b x.events) (sym is)

module _ {S I R : Type 0} (b : Session S I R) (p : ℕ) (i : I) where
  pub result_of_call-begun : refusal_of_call b p ≡ None → result_of_call b p i ≡ record { events = Call p i ∷ []; text = called_text (record { process = p; nth = b.world.begun p }) }
  result_of_call-begun none = rw none refl

  pub result_of_call-refused : (refusal : Refusal) → refusal_of_call b p ≡ Some refusal → result_of_call b p i ≡ refused refusal
  result_of_call-refused refusal some = rw some refl

module _ {S I R : Type 0} (b : Session S I R) where
  pub result_of_trim-ended : refusal_of_end b b.world.n ≡ None → result_of_trim b ≡ record { events = Trim ∷ []; text = trimmed_text (last_number b.world) }
  result_of_trim-ended none = rw none refl

  pub result_of_trim-refused : (refusal : Refusal) → refusal_of_end b b.world.n ≡ Some refusal → result_of_trim b ≡ refused refusal
  result_of_trim-refused refusal some = rw some refl

  pub result_of_reshape-ended : (m : ℕ) → refusal_of_reshape b m ≡ None → result_of_reshape b m ≡ record { events = Reshape m ∷ []; text = reshaped_text m (last_number b.world) }
  result_of_reshape-ended m none = rw none refl

  pub result_of_reshape-refused : (m : ℕ) (refusal : Refusal) → refusal_of_reshape b m ≡ Some refusal → result_of_reshape b m ≡ refused refusal
  result_of_reshape-refused m refusal some = rw some refl

module _ {S I R : Type 0} (o : SpokenObject S I R) (w : WorldOf S I R) (p most : ℕ) where
  pub result_of_steps-refused : (refusal : Refusal) → refusal_of_step w p ≡ Some refusal → result_of_steps o w p most ≡ refused refusal
  result_of_steps-refused refusal some = rw some refl

  pub result_of_steps-taken : refusal_of_step w p ≡ None → (last : Option (LastStep R)) → last_step o w p most ≡ last
      → result_of_steps o w p most ≡ record { events = steps_of p (steps_taken most last); text = text_of_steps o (world_after_all o.object w (steps_of p (steps_taken most last))) last p (latest w p) }
  result_of_steps-taken none last is = rw none (rw is refl)

-- a fact that holds of any result
pub OnOk-always : {A E P : Type 0} (r : Result A E) → P → OnOk r P
OnOk-always (Ok x) p = p
OnOk-always (Err e) p = tt
