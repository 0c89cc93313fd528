-- What a run of the program has done when it ends.
use Rattle.std.specs.Prelude.{◌≡◌, ◌≢◌, ◌⊎◌, ◌↔◌, ℕ, List, Option, None, IsSome, Bool, true, false, ⊤}
use Rattle.std.specs.Io.KnownBytes.{Appends}
use Rattle.uni_script.specs.Ends.{AppendsPrefix}
use Rattle.uni_record.specs.Refusals.{IsHistoryLimit}
use Rattle.uni_script.specs.declared.options.Options.{Options}
use Rattle.uni_script.specs.Schedules.{IsPlan}
use Rattle.uni_script.specs.Scripts.{scripts}
use Rattle.uni_script.specs.Replay.{IsReplay, IsBadReplay, IsPartOfReplay, HasAnswered}
use Rattle.unibench_run.specs.Draws.{drawn_text}
use Rattle.uni_script.specs.declared.grammar.ObjectName.{ObjectName}
use Rattle.unibench_run.specs.Language.{language_text}
use Rattle.unibench_run.specs.Threads.{IsThreadsPlan, OfAgreed, refusal_of}
use Rattle.unibench_run.specs.declared.request.Form.TheVariants.{Words}
use Rattle.unibench_run.specs.declared.request.Plan.{Plan}
use Rattle.unibench_run.specs.declared.request.RandomPlan.{RandomPlan}
use Rattle.unibench_run.specs.declared.request.Request.{Request}
use Rattle.unibench_run.specs.declared.request.Request.TheVariants.{Replay, Explained, Random, Threads, Language}

-- what an end has failed, and the status: 0 only where neither has, 3 where the output has, and only where one of them has
pub record IsStatusOfEnds (input_failed output_failed : Bool) (status : ℕ) : Type 0 where
  pub good : status ≡ 0 → (input_failed ≡ false) × (output_failed ≡ false)
  pub written : output_failed ≡ true → status ≡ 3
  pub ends : status ≡ 3 → (input_failed ≡ true) ⊎ (output_failed ≡ true)

-- A replay that was told this and ended with this status, from what the input had left and the output held: 0 only where the script
-- is good and its text was written, 2 only where it has a fault, after the answers before it, 3 after the answers to the whole lines that
-- the reader gave, where the output hasn't failed. Whatever the status, a prefix of the text of the script's answers was written.
pub record IsReplayRun (options : Options) (left left_after old new : Option (List ℕ)) (output_failed : Bool)
    (status : ℕ) : Type 0 where
  pub replayed : status ≡ 0 → IsReplay (scripts options) left old new None
  pub bad : status ≡ 2 → IsBadReplay (scripts options) left old new
  pub read : status ≡ 3 → output_failed ≡ false → HasAnswered (scripts options) left left_after old new
  pub part : IsPartOfReplay (scripts options) left old new

-- A schedule that was drawn with this status, from what the output held: 0 only where its text was written, 3 exactly where the
-- output failed, after a prefix of it, and 4 where memory was refused, where nothing was written.
pub record IsRandomRun (plan : RandomPlan) (old new : Option (List ℕ)) (output_failed : Bool) (status : ℕ) : Type 0 where
  pub statuses : (status ≡ 0) ⊎ ((status ≡ 3) ⊎ (status ≡ 4))
  pub drawn : status ≡ 0 → Appends old new (drawn_text plan)
  pub prefix : status ≡ 3 → AppendsPrefix old new (drawn_text plan)
  pub failed : (status ≡ 3) ↔ (output_failed ≡ true)
  pub nothing : status ≡ 4 → new ≡ old

-- A run of threads that ended with this status, from what the output held: 2 only where the plan is refused, since the object isn't
-- there in the form or the calls are too many for it, and there only 2 or refused memory; 0 only where the line was
-- written that says of as many replies as the plan has calls that they agree, which are those of a run of it. After a failure of
-- the output a prefix of such a line was written, and after any other fault nothing.
pub record IsThreadsRun (plan : Plan) (old new : Option (List ℕ)) (output_failed : Bool) (status : ℕ) : Type 0 where
  pub there : status ≡ 2 → IsSome (refusal_of plan)
  pub nowhere : IsSome (refusal_of plan) → (status ≡ 2) ⊎ (status ≡ 4)
  pub agreed : status ≡ 0 → OfAgreed plan (Appends old new)
  pub prefix : status ≡ 3 → OfAgreed plan (AppendsPrefix old new)
  pub failed : (status ≡ 3) ↔ (output_failed ≡ true)
  pub nothing : status ≢ 0 → status ≢ 3 → new ≡ old
  pub closing : status ≡ 5 → plan.form ≢ Words

-- The language that was printed with this status, from what the output held: 0 only where its text was written, 3 exactly where the
-- output failed, after a prefix of it, and 4 where memory was refused, where nothing was written.
pub record IsLanguageRun (object : Option ObjectName) (old new : Option (List ℕ)) (output_failed : Bool) (status : ℕ) : Type 0 where
  pub statuses : (status ≡ 0) ⊎ ((status ≡ 3) ⊎ (status ≡ 4))
  pub printed : status ≡ 0 → Appends old new (language_text object)
  pub prefix : status ≡ 3 → AppendsPrefix old new (language_text object)
  pub failed : (status ≡ 3) ↔ (output_failed ≡ true)
  pub nothing : status ≡ 4 → new ≡ old

-- the numbers of what was asked for are those that its options take
abbrev pub IsInRange : Request → Type 0
IsInRange (Replay options) = IsHistoryLimit options.history
IsInRange (Explained options) = IsHistoryLimit options.history
IsInRange (Random plan) = IsPlan plan.schedule
IsInRange (Threads plan) = IsThreadsPlan plan
IsInRange (Language object) = ⊤

-- a run of what was asked for
abbrev pub IsRunOf : Request → (left left_after old new : Option (List ℕ)) (output_failed : Bool) (status : ℕ) → Type 0
IsRunOf (Replay options) left left_after old new failed status = IsReplayRun options left left_after old new failed status
IsRunOf (Explained options) left left_after old new failed status = IsReplayRun options left left_after old new failed status
IsRunOf (Random plan) left left_after old new failed status = IsRandomRun plan old new failed status
IsRunOf (Threads plan) left left_after old new failed status = IsThreadsRun plan old new failed status
IsRunOf (Language object) left left_after old new failed status = IsLanguageRun object old new failed status
