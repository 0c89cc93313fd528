-- The line of a fault with more after it.
use Rattle.std.proofs.Common.{◌≡◌, ◌∙◌, ℕ, List, [], Option, Bool, false, ◌++◌, sym, subst}
use Rattle.std.proofs.lemmas.List.{append-nil}
use Rattle.std.specs.Io.KnownBytes.{Appends}
use Rattle.uni_script.specs.Ends.{AppendsPrefix}
use Rattle.uni_script.specs.Fault.{fault_line}
use Rattle.uni_script.specs.Statuses.{TellsFault, status_of}
use Rattle.uni_script.specs.declared.fault.BenchFault.{BenchFault}
use Rattle.script_advice.specs.Told.{TellsMore}

-- the line of a fault alone, where more may follow it
pub told_more : (old new : Option (List ℕ)) (failed : Bool) (status : ℕ) → TellsFault old new failed status → TellsMore old new failed status
told_more old new failed status told = (
  [],
  record {
    fault = told.fault;
    status_is = told.status_is;
    prefix = subst (AppendsPrefix old new) (sym (append-nil (fault_line told.fault))) told.prefix;
    whole = λ good. subst (Appends old new) (sym (append-nil (fault_line told.fault))) (told.whole good);
  },
)

-- the line of a fault and more, as one text
pub told_with : (old new : Option (List ℕ)) (failed : Bool) (fault : BenchFault) (more text line : List ℕ) → status_of fault ≡ 2
    → line ≡ text → text ≡ fault_line fault ++ more → AppendsPrefix old new line → (failed ≡ false → Appends old new line) → TellsMore old new failed 2
told_with old new failed fault more text line ends is are prefix whole = (
  more,
  record {
    fault = fault;
    status_is = sym ends;
    prefix = subst (AppendsPrefix old new) (is ∙ are) prefix;
    whole = λ good. subst (Appends old new) (is ∙ are) (whole good);
  },
)
