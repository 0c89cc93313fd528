-- The texts of faults.
use Rattle.std.specs.Prelude.{◌≡◌, ℕ, List, [], ◌∷◌, ◌++◌, map, codes, refl}
use Rattle.std.specs.Fmt.{decimal, digits}
use Rattle.uni_audit.specs.declared.verdict.Verdict.{Verdict}
use Rattle.uni_audit.specs.declared.verdict.Verdict.TheVariants.{Agrees, BadCall, BadReply, Missing, BadReturn, Twice}
use Rattle.uni_script.specs.Answer.{call_text}
use Rattle.uni_script.specs.declared.fault.BenchFault.{BenchFault}
use Rattle.uni_script.specs.declared.fault.BenchFault.TheVariants.{NoHeader, BadHeader, TooLong, BadByte, BadLine, TooMany, Read, Write}
use Rattle.uni_script.specs.declared.fault.BenchFault.TheVariants.{Memory, Audit}

-- what an audit found
abbrev pub verdict_text : Verdict → List ℕ
verdict_text Agrees = codes "agrees"
verdict_text (BadCall place) = codes "entry " ++ decimal place ++ codes " call"
verdict_text (BadReply place) = codes "entry " ++ decimal place ++ codes " reply"
verdict_text (Missing call) = codes "return " ++ call_text call ++ codes " missing"
verdict_text (BadReturn call) = codes "return " ++ call_text call ++ codes " reply"
verdict_text (Twice call) = codes "return " ++ call_text call ++ codes " twice"

-- the text of a fault
abbrev pub fault_text : BenchFault → List ℕ
fault_text (NoHeader line) = codes "line " ++ decimal line ++ codes ": no header"
fault_text (BadHeader line) = codes "line " ++ decimal line ++ codes ": bad header"
fault_text (TooLong line) = codes "line " ++ decimal line ++ codes ": too long"
fault_text (BadByte line) = codes "line " ++ decimal line ++ codes ": bad byte"
fault_text (BadLine line) = codes "line " ++ decimal line ++ codes ": bad line"
fault_text TooMany = codes "line 100001: too many lines"
fault_text Read = codes "cannot read"
fault_text Write = codes "cannot write"
fault_text Memory = codes "out of memory"
fault_text (Audit verdict) = codes "audit: " ++ verdict_text verdict

-- its line
abbrev pub fault_line : BenchFault → List ℕ
fault_line fault = fault_text fault ++ 10 ∷ []

line_12_is_no_command : fault_line (BadLine 12) ≡ codes "line 12: bad line" ++ 10 ∷ []
unfolding digits
line_12_is_no_command = refl

a_call_is_missing : fault_text (Audit (Missing (record { process = 1; nth = 2 }))) ≡ codes "audit: return 1.2 missing"
unfolding digits
a_call_is_missing = refl

-- each text once
texts_of_faults : map fault_text (NoHeader 1 ∷ BadHeader 1 ∷ TooLong 100000 ∷ BadByte 100000 ∷ BadLine 100000 ∷ TooMany ∷ Read
    ∷ Write ∷ Memory ∷ [])
    ≡ codes "line 1: no header" ∷ codes "line 1: bad header" ∷ codes "line 100000: too long" ∷ codes "line 100000: bad byte"
    ∷ codes "line 100000: bad line"
    ∷ codes "line 100001: too many lines" ∷ codes "cannot read" ∷ codes "cannot write" ∷ codes "out of memory" ∷ []
unfolding digits
texts_of_faults = refl

texts_of_verdicts : map verdict_text (Agrees ∷ BadCall 0 ∷ BadReply 0 ∷ BadReturn (record { process = 1; nth = 2 })
    ∷ Twice (record { process = 1; nth = 2 }) ∷ [])
    ≡ codes "agrees" ∷ codes "entry 0 call" ∷ codes "entry 0 reply" ∷ codes "return 1.2 reply" ∷ codes "return 1.2 twice" ∷ []
unfolding digits
texts_of_verdicts = refl
