-- Calls that are applied to a version one after another.
use Rattle.std.specs.Prelude.{ℕ, ◌+◌, ◌≤◌, List, [], ◌∷◌}
use Rattle.seq_object.specs.Sequential.{Sequential}
use Rattle.uni_model.specs.AtomicObject.{Invoked}
use Rattle.uni_any.specs.Content.{taken_in}
use Rattle.uni_any.specs.declared.view.Image.{Image}
use Rattle.uni_any.specs.declared.view.Returned.{Returned}

-- the processes of the calls rise, from one on
abbrev pub IsRising : {I : Type 0} → (from : ℕ) → List (Invoked I) → Type 0
IsRising from [] = Unit {0}
IsRising from (c ∷ cs) = (from ≤ c.process) × IsRising (c.process + 1) cs

-- a call that has returned, with its reply
abbrev pub plain : {I R : Type 0} → Returned I R → I × R
plain call = (call.inv, call.reply)

abbrev pub inv_of : {I : Type 0} → Invoked I → I
inv_of c = c.inv

module _ {S I R : Type 0} (object : Sequential S I R) where
  -- these calls are applied, the first of them first
  abbrev pub image_from : Image S R → List (Invoked I) → Image S R
  image_from image [] = image
  image_from image (c ∷ cs) = image_from (taken_in object image c.process c.inv) cs
