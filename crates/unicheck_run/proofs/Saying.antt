-- What a finding says of a history, and what is written of it.
use Rattle.std.proofs.Common.{◌≡◌, ◌+◌, ◌<◌, ◌⊎◌, ℕ, List, Option, Some, None, IfSome, arith, length, take}
use Rattle.std.specs.Prelude.{Err, IfOk, Ok, Result}
use Rattle.seq_object.specs.Sequential.{Sequential}
use Rattle.lin_check.specs.declared.event.Event.{Event}
use Rattle.lin_check.specs.Verdicts.{IsLinearizable}
use Rattle.judged_objects.specs.Queue.{queue, queue_wording}
use Rattle.judged_objects.specs.Stack.{stack, stack_wording}
use Rattle.judged_objects.specs.Register.{register, register_wording}
use Rattle.judged_objects.specs.Counter.{counter, counter_wording}
use Rattle.judged_objects.specs.Map.{map_object, map_wording}
use Rattle.judged_objects.specs.Set.{set, set_wording}
use Rattle.history_text.specs.Own.{lines_of, own_events}
use Rattle.unicheck_run.specs.Found.{IsFirstBadIf, IsFound, status_of}
use Rattle.unicheck_run.specs.Judged.{Says, SaysBy, SaysOfLines, Writes}
use Rattle.unicheck_run.specs.declared.judging.Finding.{Finding}
use Rattle.unicheck_run.specs.declared.judging.Finding.TheVariants.{Linearizable, NotLinearizable, GaveUp}
use Rattle.unicheck_run.specs.declared.words.Form.{Form}
use Rattle.unicheck_run.specs.declared.words.ObjectName.{ObjectName}
use Rattle.unicheck_run.specs.declared.words.ObjectName.TheVariants.{Queue, Stack, Register, Counter, Map, Set}

-- what holds of a value, where it has what another fact asks
pub ok_then : {T E : Type 0} (r : Result T E) {A B : T → Type 0} → IfOk r A → ((x : T) → A x → B x) → IfOk r B
ok_then (Ok x) has so = so x has
ok_then (Err e) has so = tt

-- what `good_prefix` finds is the first event with which there is no order
pub first_bad : {S I R : Type 0} (object : Sequential S I R) (history : List (Event I R)) (found : Option ℕ) → IfSome found (λ k. k < length history) → IfSome found (λ k. IsLinearizable object (take k history)) → IfSome found (λ k. ¬ (IsLinearizable object (take (k + 1) history))) → IsFirstBadIf object history found
first_bad object history None within good bad = tt
first_bad object history (Some k) within good bad = record { within = within; good = good; bad = bad }

-- a finding's status says what holds
pub says_of : {S I R : Type 0} (object : Sequential S I R) (history : List (Event I R)) (finding : Finding) (status : ℕ) → IsFound object history finding → status ≡ status_of finding → Says object history status
says_of object history (Linearizable order) status found e = record { linearizable = λ z. (found.0, found.1); not_linearizable = λ z. absurd (omega arith) }
says_of object history (NotLinearizable first) status found e = record { linearizable = λ z. absurd (omega arith); not_linearizable = λ z. found.0 }
says_of object history GaveUp status found e = record { linearizable = λ z. absurd (omega arith); not_linearizable = λ z. absurd (omega arith) }

-- another status says nothing
pub says_nothing : {S I R : Type 0} (object : Sequential S I R) (history : List (Event I R)) (status : ℕ) → 1 < status → Says object history status
says_nothing object history status more = record { linearizable = λ z. absurd (omega arith); not_linearizable = λ z. absurd (omega arith) }

-- no finding has another status, of which nothing is written
pub writes_nothing : (form : Form) (status : ℕ) (old new : Option (List ℕ)) → ((status ≡ 2) ⊎ (status ≡ 3)) ⊎ (status ≡ 4) → Writes form status old new
writes_nothing form status old new is = λ found. absurd (omega (arith, is, found))

-- nor is anything said of a history, or that there is one
says_of_none : {S I R : Type 0} (object : Sequential S I R) (history : Option (List (Event I R))) (status : ℕ) → (status ≡ 2) ⊎ (status ≡ 4)
    → SaysOfLines object history status
says_of_none object None status is = is
says_of_none object (Some history) status is = says_nothing object history status (omega (arith, is))

pub says_by_nothing : (object : ObjectName) (text : List ℕ) (status : ℕ) → (status ≡ 2) ⊎ (status ≡ 4) → SaysBy object text status
says_by_nothing Queue text status is = λ own. says_of_none queue (own_events queue_wording (lines_of text)) status is
says_by_nothing Stack text status is = λ own. says_of_none stack (own_events stack_wording (lines_of text)) status is
says_by_nothing Register text status is = λ own. says_of_none register (own_events register_wording (lines_of text)) status is
says_by_nothing Counter text status is = λ own. says_of_none counter (own_events counter_wording (lines_of text)) status is
says_by_nothing Map text status is = λ own. says_of_none map_object (own_events map_wording (lines_of text)) status is
says_by_nothing Set text status is = λ own. says_of_none set (own_events set_wording (lines_of text)) status is
