-- What the pictures say of a script that lies in memory.
use Rattle.std.proofs.Common.{◌≡◌, ◌∙◌, ℕ, List, Some, Result, Err, IsErrOf, ap}
use Rattle.uni_script.specs.Scripts.{scripts_of}
use Rattle.uni_script.specs.Replay.{HasFault, IsFaultOfScript, fault_of_script}
use Rattle.uni_script.specs.declared.fault.BenchFault.{BenchFault}
use Rattle.run_layout.specs.Choice.{all_events}
use Rattle.run_layout.specs.Subject.{HasRangeFault}
use Rattle.run_layout.specs.declared.choice.RangeFault.{RangeFault}
use Rattle.run_layout.specs.declared.subject.PictureFault.{PictureFault}
use Rattle.run_layout.specs.declared.subject.PictureFault.TheVariants.{Script, Range as OfRange, Misdrawn}
use Rattle.universal_text.specs.Told.{HasNoPicture, IsFaultOfPicture}

-- a fault for which there is no picture is the script's
pub no_picture : {A : Type 0} (script : List ℕ) (r : Result A PictureFault) (f : PictureFault) → r ≡ Err f
    → ((e : RangeFault) → IsErrOf r (OfRange e) → HasRangeFault all_events e (Some script)) → ((e : BenchFault) → IsErrOf r (Script e) → IsFaultOfScript e → HasFault (scripts_of 1048576) (Some script) e)
    → IsFaultOfPicture f → HasNoPicture script f
no_picture script r (OfRange e) is range fault of = range e is
no_picture script r Misdrawn is range fault of = of
no_picture script r (Script e) is range fault of = let h = fault e is of in ap (fault_of_script (scripts_of 1048576)) h.1 ∙ h.2
