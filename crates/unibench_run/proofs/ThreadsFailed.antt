-- What threads come to, by the fault that ended them.
use Rattle.unibench_run.proofs.Vocabulary.{AppendsPrefix, Bool, IsSome, IsStatusOfThreads, IsThreadsRun, List, None, OfAgreed, Option, Plan, Some, ThreadsFault, ap, are_too_many, arith, cond, events_of, false, has_form, inl, inr, refl, refusal_of, status_of_threads, sym, true, ℕ, ◌*◌, ◌∙◌, ◌≡◌, ◌≢◌, ◌⊎◌}
use Rattle.unibench_run.specs.declared.request.Form.TheVariants.{Words}
use Rattle.unibench_run.specs.declared.threads.ThreadsFault.TheVariants as fault

-- a plan is refused for one of two reasons
two_refusals : (plan : Plan) → IsSome (refusal_of plan) → (refusal_of plan ≡ Some fault.NoSuchObject) ⊎ (refusal_of plan ≡ Some fault.CallsTooMany)
two_refusals plan some = by_tests (has_form plan.form plan.object) (are_too_many plan.form plan.calls (events_of plan) (plan.processes * plan.calls)) some where
  by_tests : (there many : Bool) → IsSome (cond there (cond many (Some fault.CallsTooMany) None) (Some fault.NoSuchObject))
      → (cond there (cond many (Some fault.CallsTooMany) None) (Some fault.NoSuchObject) ≡ Some fault.NoSuchObject)
      ⊎ (cond there (cond many (Some fault.CallsTooMany) None) (Some fault.NoSuchObject) ≡ Some fault.CallsTooMany)
  by_tests false many some = inl refl
  by_tests true true some = inr refl
  by_tests true false some = absurd (cc)

-- which faults have a status
status_2 : (f : ThreadsFault) → status_of_threads f ≡ 2 → (f ≡ fault.NoSuchObject) ⊎ (f ≡ fault.CallsTooMany)
status_2 fault.NoSuchObject e = inl refl
status_2 fault.CallsTooMany e = inr refl
status_2 _ e = absurd (omega (arith, e))

status_3 : (f : ThreadsFault) → status_of_threads f ≡ 3 → f ≡ fault.Write
status_3 fault.Write e = refl
status_3 _ e = absurd (omega (arith, e))

no_status_0 : (f : ThreadsFault) → status_of_threads f ≢ 0
no_status_0 fault.Write e = omega (arith, e)
no_status_0 _ e = omega (arith, e)

module _ (plan : Plan) (old new : Option (List ℕ)) (failed : Bool) (f : ThreadsFault) (status : ℕ) (is : IsStatusOfThreads f status)
    (there : (f ≡ fault.NoSuchObject → refusal_of plan ≡ Some fault.NoSuchObject) × (refusal_of plan ≡ Some fault.NoSuchObject → f ≡ fault.NoSuchObject))
    (few : (f ≡ fault.CallsTooMany → refusal_of plan ≡ Some fault.CallsTooMany) × (refusal_of plan ≡ Some fault.CallsTooMany → f ≡ fault.CallsTooMany))
    (wrote : (f ≡ fault.Write → failed ≡ true) × (failed ≡ true → f ≡ fault.Write)) where
  -- a status other than that of the fault is 4, where a closing's text was refused memory
  by_status : (n : ℕ) → status ≡ n → n ≢ 4 → status_of_threads f ≡ n
  by_status n same other = elim is [
    | inl own ↦ sym own ∙ same
    | inr text ↦ absurd (other (sym same ∙ text.1))
  ]

  own_status : status_of_threads f ≢ 5 → status ≡ status_of_threads f
  own_status other = elim is [
    | inl own ↦ own
    | inr text ↦ absurd (other text.0)
  ]

  refused_there : IsSome (refusal_of plan) → status ≡ 2
  refused_there some = elim (two_refusals plan some) [
    | inl nowhere ↦ of_two (ap status_of_threads (there.1 nowhere))
    | inr many ↦ of_two (ap status_of_threads (few.1 many))
  ] where
    of_two : status_of_threads f ≡ 2 → status ≡ 2
    of_two two = own_status (λ five. omega (arith, two, five)) ∙ two

  written : failed ≡ true → status ≡ 3
  written bad =
      let three : status_of_threads f ≡ 3 = ap status_of_threads (wrote.1 bad) in
      own_status (λ five. omega (arith, three, five)) ∙ three

  pub threads_failed : (f ≡ fault.Write → OfAgreed plan (AppendsPrefix old new)) → (failed ≡ false → new ≡ old)
      → (status_of_threads f ≡ 5 → plan.form ≢ Words) → IsThreadsRun plan old new failed status
  threads_failed prefix kept closing = record {
    there = λ two. elim (status_2 f (by_status 2 two (λ e. omega (arith, e)))) [
      | inl nowhere ↦ rw (there.0 nowhere) (refl {a = true})
      | inr many ↦ rw (few.0 many) (refl {a = true})
    ];
    nowhere = λ some. inl (refused_there some);
    agreed = λ zero. absurd (no_status_0 f (by_status 0 zero (λ e. omega (arith, e))));
    prefix = λ three. prefix (status_3 f (by_status 3 three (λ e. omega (arith, e))));
    failed = ((λ three. wrote.0 (status_3 f (by_status 3 three (λ e. omega (arith, e))))), written);
    nothing = λ _ other. kept (good failed refl other);
    closing = λ five. closing (by_status 5 five (λ e. omega (arith, e)));
  } where
    good : (t : Bool) → failed ≡ t → status ≢ 3 → failed ≡ false
    good true bad other = absurd (other (written bad))
    good false is other = is
