-- What a comparison that agrees says of the run that it compared.
use Rattle.std.proofs.Common.{◌≡◌, ◌≢◌, ◌≤◌, ◌↔◌, ◌∙◌, ℕ, List, [], Option, Some, None, Result, Bool, true, false, IfOk, Ok, Err, zero, suc, refl, sym, ap, subst, arith}
use Rattle.uni_script.specs.declared.options.Options.{Options}
use Rattle.uni_script.specs.Scripts.{scripts}
use Rattle.uni_script.specs.Replay.{fault_of_script, text_of_script, IsReplay, IsBadReplay}
use Rattle.unibench_run.specs.Runs.{IsReplayRun, IsRunOf}
use Rattle.unibench_run.specs.declared.request.Request.{Request}
use Rattle.cases.specs.Comparing.{IsAnsweredBy}

-- what follows of an agreement, where it is one of these facts
pub if_agreed : {E : Type 0} {Few Same Fact : Type 0} (r : Result Bool E) → IfOk r (λ _. Few) → IfOk r (λ same. same ≡ true ↔ Same) → (Few → Same → Fact)
    → IfOk r (λ same. same ≡ true → Fact)
if_agreed (Ok same) few is fact = λ agreed. fact few (is.0 agreed)
if_agreed (Err e) few is fact = tt

-- an agreement is the same as another fact, where the facts are
pub if_same : {E : Type 0} {Few Same Fact : Type 0} (r : Result Bool E) → IfOk r (λ _. Few) → IfOk r (λ same. same ≡ true ↔ Same) → (Few → Same ↔ Fact)
    → IfOk r (λ same. same ≡ true ↔ Fact)
if_same (Ok same) few is fact = ((λ agreed. (fact few).0 (is.0 agreed)), (λ f. is.1 ((fact few).1 f)))
if_same (Err e) few is fact = tt

-- the replay of a known script that ended well wrote its text
text_of_replay : (options : Options) (script out : List ℕ) → IsReplay (scripts options) (Some script) (Some []) (Some out) None → IsAnsweredBy options script out
text_of_replay options script out replay =
    let same : script ≡ replay.0 = replay.1 in
    ((ap (fault_of_script (scripts options)) same ∙ replay.2), (ap (text_of_script (scripts options)) same ∙ sym replay.3))

-- a script with a fault has one
no_bad_replay : (options : Options) (script out : List ℕ) → IsBadReplay (scripts options) (Some script) (Some []) (Some out) → fault_of_script (scripts options) script ≢ None
no_bad_replay options script out bad good =
    let replay = bad.2 in
    let same : script ≡ replay.0 = replay.1 in
    absurd (cc' (sym good ∙ ap (fault_of_script (scripts options)) same ∙ replay.2))
  where
    cc' : None ≢ Some bad.0
    cc' e = cc

-- a fact of a run that began with nothing written, with what it wrote and how it ended by other names
pub as_wanted : (P : Option (List ℕ) → Option (List ℕ) → Bool → ℕ → Type 0) (old new : Option (List ℕ)) (failed : Bool) (status : ℕ) (out answers : List ℕ) (wanted : ℕ)
    → P old new failed status → old ≡ Some [] → new ≡ Some out → failed ≡ false → status ≡ wanted → out ≡ answers → P (Some []) (Some answers) false wanted
as_wanted P old new failed status out answers wanted run was is good ended same =
    let from_nothing = subst (λ x. P x new failed status) was run in
    let to_out = subst (λ x. P (Some []) x failed status) is from_nothing in
    let not_failed = subst (λ x. P (Some []) (Some out) x status) good to_out in
    let with_status = subst (λ x. P (Some []) (Some out) false x) ended not_failed in
    subst (λ x. P (Some []) (Some x) false wanted) same with_status

-- a status of at most 2 that is neither 1 nor 2
no_other : (status : ℕ) → status ≤ 2 → status ≢ 1 → status ≢ 2 → status ≡ 0
no_other zero few not_1 not_2 = refl
no_other (suc zero) few not_1 not_2 = absurd (not_1 refl)
no_other (suc (suc zero)) few not_1 not_2 = absurd (not_2 refl)
no_other (suc (suc (suc n))) few not_1 not_2 = absurd (omega arith)

-- where no fault is wanted, a replay agrees exactly where the script is good and has these answers
pub good_agrees : (options : Options) (left after : Option (List ℕ)) (failed : Bool) (status : ℕ) (script out told answers fault : List ℕ) (wanted : ℕ)
    → IsReplayRun options left after (Some []) (Some out) failed status → left ≡ Some script → status ≤ 2 → status ≢ 1 → (status ≡ 0 → told ≡ []) → wanted ≡ 0 → fault ≡ []
    → ((status ≡ wanted) × (out ≡ answers) × (told ≡ fault)) ↔ IsAnsweredBy options script answers
good_agrees options left after failed status script out told answers fault wanted run is few not_1 silent good none =
    let well : status ≡ 0 → IsAnsweredBy options script out =
    λ ended. text_of_replay options script out (subst (λ l. IsReplay (scripts options) l (Some []) (Some out) None) is (run.replayed ended)) in (
      (λ same. let answered = well (same.0 ∙ good) in (answered.0, answered.1 ∙ same.1)),
      (λ answered.
          let not_2 : status ≢ 2 = λ two. no_bad_replay options script out (subst (λ l. IsBadReplay (scripts options) l (Some []) (Some out)) is (run.bad two)) answered.0 in
          let ended : status ≡ 0 = no_other status few not_1 not_2 in
          (ended ∙ sym good, sym (well ended).1 ∙ answered.1, silent ended ∙ sym none)),
    )

-- an end hasn't failed, where only one status says so
pub not_failed : (failed : Bool) (status : ℕ) → (failed ≡ true → status ≡ 3) → status ≤ 2 → failed ≡ false
not_failed false status three few = refl
not_failed true status three few = let ended = three refl in absurd (omega arith)

pub run_as_wanted : (r : Request) (left after old new : Option (List ℕ)) (failed : Bool) (status : ℕ) (out answers : List ℕ) (wanted : ℕ)
    → IsRunOf r left after old new failed status → old ≡ Some [] → new ≡ Some out → failed ≡ false → status ≡ wanted → out ≡ answers
    → IsRunOf r left after (Some []) (Some answers) false wanted
run_as_wanted r left after = as_wanted (λ old new failed status. IsRunOf r left after old new failed status)

-- the same of a replay, as it is compared
pub replay_agrees : (options : Options) (left after old new : Option (List ℕ)) (failed : Bool) (status : ℕ) (script out told answers fault : List ℕ) (wanted : ℕ)
    → IsReplayRun options left after old new failed status → old ≡ Some [] → new ≡ Some out → left ≡ Some script → status ≤ 2 → status ≢ 1 → (status ≡ 0 → told ≡ [])
    → wanted ≡ 0 → fault ≡ [] → ((status ≡ wanted) × (out ≡ answers) × (told ≡ fault)) ↔ IsAnsweredBy options script answers
replay_agrees options left after old new failed status script out told answers fault wanted run was is =
    let from_nothing = subst (λ x. IsReplayRun options left after x new failed status) was run in
    let to_out = subst (λ x. IsReplayRun options left after (Some []) x failed status) is from_nothing in
    good_agrees options left after failed status script out told answers fault wanted to_out
