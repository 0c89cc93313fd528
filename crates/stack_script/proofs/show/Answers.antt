use Rattle.std.proofs.Common.{Err, IsErrOf, None, Ok, OnOk, Result, Some, ◌∙◌, ◌≡◌}
use Rattle.std.specs.Result.{result_ok}
use Rattle.uni_script.proofs.RunningOn.{stays_false}
use Rattle.stack_script.proofs.show.Goals as goal

-- a call that went well keeps what it keeps then, and has no error
kept : {A E : Type 0} (r : Result A E) (x : A) (P : Type 0) → Some x ≡ result_ok r → OnOk r P → P
kept (Ok a) x P is p = p
kept (Err e) x P is p = absurd (let bad : Some x ≡ None = is in cc)

no_error : {A E : Type 0} (r : Result A E) (x : A) (e : E) → Some x ≡ result_ok r → IsErrOf r e → ⊥
no_error (Ok a) x e is err = let bad : Ok a ≡ Err e = err in cc
no_error (Err y) x e is err = let bad : Some x ≡ None = is in cc

pub tell_record-requires : goal.tell_record-requires
tell_record-requires g c = kept c.write_all.result _ _ c.in_ok-ok-2.ensures.value c.write_all.ensures.kept ∙ stays_false _ _ c.bench_object.ensures.writer (no_error _ _ _ c.in_ok-ok.ensures.value)
