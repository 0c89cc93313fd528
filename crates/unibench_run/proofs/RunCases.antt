-- What a run comes to by what was asked for, and what refused memory leaves.
use Rattle.unibench_run.proofs.Vocabulary.{Appends, AppendsPrefix, Bool, Explained, IsFaultOfScript, IsRunOf, Language, List, Memory, Option, Random, Replay, Request, Tells, TellsThreadsFault, Threads, ThreadsFault, arith, false, inl, inr, refl, refusal_of, scripts, subst, sym, ℕ, ◌∙◌, ◌≡◌}
use Rattle.uni_script.specs.Fault.{fault_line}
use Rattle.uni_script.specs.declared.fault.BenchFault.{BenchFault}
use Rattle.uni_script.specs.declared.fault.BenchFault.TheVariants as bench
use Rattle.uni_script.proofs.Replaying.{IsPartOfReplay-start}
use Rattle.uni_script.specs.Statuses.{IsStatusOf, TellsFault, TellsLine, status_of}
use Rattle.script_advice.proofs.More.{told_more}

-- refused memory is a run of anything that has read and written nothing
pub run_of_memory : (r : Request) (left old : Option (List ℕ)) (failed : Bool) (status : ℕ) → failed ≡ false → status ≡ 4 → IsRunOf r left left old old failed status
run_of_memory (Replay options) left old failed status good four = record { replayed = λ e. cc; bad = λ e. cc; read = λ e _. cc; part = IsPartOfReplay-start (scripts options) _ _ }
run_of_memory (Explained options) left old failed status good four = record { replayed = λ e. cc; bad = λ e. cc; read = λ e _. cc; part = IsPartOfReplay-start (scripts options) _ _ }
run_of_memory (Language object) left old failed status good four =
    record { statuses = inr (inr four); printed = λ e. cc; prefix = λ e. cc; failed = ((λ e. cc), (λ e. cc)); nothing = λ e. refl }
run_of_memory (Random plan) left old failed status good four =
    record { statuses = inr (inr four); drawn = λ e. cc; prefix = λ e. cc; failed = ((λ e. cc), (λ e. cc)); nothing = λ e. refl }
run_of_memory (Threads plan) left old failed status good four =
    record { there = λ e. cc; nowhere = λ e. inr four; agreed = λ e. cc; prefix = λ e. cc; failed = ((λ e. cc), (λ e. cc)); nothing = λ a b. refl; closing = λ e. cc }

-- its line is one for all
threads_told : (refusal : Option ThreadsFault) (old new : Option (List ℕ)) (failed : Bool) (status : ℕ)
    → status ≡ 4 → TellsFault old new failed status → TellsThreadsFault refusal old new failed status
threads_told refusal old new failed status four told = by_fault told.fault told.status_is told.prefix told.whole
  where
    by_fault : (f : BenchFault) → status ≡ status_of f → AppendsPrefix old new (fault_line f) → (failed ≡ false → Appends old new (fault_line f)) → TellsThreadsFault refusal old new failed status
    by_fault bench.Memory is prefix whole = record { fault = Memory; status_is = (four, λ two. absurd (omega arith)); prefix = prefix; whole = whole }
    by_fault _ is prefix whole = absurd (omega arith)

pub told_by_memory : (r : Request) (old new : Option (List ℕ)) (failed : Bool) (status : ℕ) → status ≡ 4 → TellsFault old new failed status → Tells r old new failed status
told_by_memory (Explained options) old new failed status four told = told_more old new failed status told
told_by_memory (Threads plan) old new failed status four told = threads_told (refusal_of plan) old new failed status four told
told_by_memory _ old new failed status four told = told

-- the line of a fault is told by its bytes
pub TellsLine-bytes : {A : Type 0} (EndsWith : A → ℕ → Type 0) (line_of : A → List ℕ) (fault : A) (old new : Option (List ℕ)) (failed : Bool) (status : ℕ) (line : List ℕ)
    → EndsWith fault status → line ≡ line_of fault → AppendsPrefix old new line → (failed ≡ false → Appends old new line) → TellsLine EndsWith line_of old new failed status
TellsLine-bytes EndsWith line_of fault old new failed status line ends is prefix whole =
    record { fault = fault; status_is = ends; prefix = subst (AppendsPrefix old new) is prefix; whole = λ good. subst (Appends old new) is (whole good) }

-- a fault that ends with 2 is one that a script has
pub is_of_script : (fault : BenchFault) (status : ℕ) → IsStatusOf fault status → status ≡ 2 → IsFaultOfScript fault
is_of_script fault status (inr is) two = let four = is.1 in absurd (omega arith)
is_of_script fault status (inl is) two = by_own fault (sym is ∙ two)
  where
    by_own : (f : BenchFault) → status_of f ≡ 2 → IsFaultOfScript f
    by_own bench.Read e = absurd (omega arith)
    by_own bench.Write e = absurd (omega arith)
    by_own bench.Memory e = absurd (omega arith)
    by_own (bench.Audit verdict) e = absurd (omega arith)
    by_own _ e = tt
