-- Linearizability as the textbooks state it: the calls and responses alone, and linearization points that can be put among them.
use Rattle.std.specs.Prelude.{◌≡◌, ℕ, ◌≤◌, List, [], ◌∷◌, ◌++◌}
use Rattle.seq_object.specs.Sequential.{Sequential}
use Rattle.uni_model.specs.Worlds.{WorldOf, Event, opened_world, world_after, AreAccepted}
use Rattle.uni_model.specs.Worlds.Event.{Call, Step}
use Rattle.uni_model.specs.AtomicObject.{Atomic, Act, Invoked, AcceptsAll, at_start}
use Rattle.uni_model.specs.AtomicObject.Act.{Invoke, Linearize}
use Rattle.uni_model.specs.History.{responses_by}

-- what is observed of acts: all but the linearization points
abbrev pub observed : {I R : Type 0} → List (Act I R) → List (Act I R)
observed [] = []
observed (Linearize c ∷ acts) = observed acts
observed (act ∷ acts) = act ∷ observed acts

-- what is observed of an event: that a call begins, or that one responds, by its last step
abbrev pub observed_at : {S I R : Type 0} → WorldOf S I R → Event I → List (Act I R)
observed_at w (Call p i) = Invoke p (w.begun p) i ∷ []
observed_at w (Step p) = responses_by w p
observed_at w _ = []

-- what is observed of a run: the calls and the responses, in order
abbrev pub observed_in : {S I R : Type 0} → Sequential S I R → WorldOf S I R → List (Event I) → List (Act I R)
observed_in object w [] = []
observed_in object w (e ∷ es) = observed_at w e ++ observed_in object (world_after object w e) es

module _ {S I R : Type 0} (object : Sequential S I R) where
  -- With linearization points put in at some places, an observed history is one of the atomic object, whose calls take effect in
  -- this order.
  abbrev pub IsLinearizedAs : S → List (Act I R) → List (Invoked I) → Type 0
  IsLinearizedAs start history order =
      (acts : List (Act I R)) × (b : Atomic S I) × (observed acts ≡ history) × AcceptsAll object (at_start start) acts b
      × (b.agreed ≡ order)

  -- an observed history is linearizable: it is so in some order
  abbrev pub IsLinearizableHistory : S → List (Act I R) → Type 0
  IsLinearizableHistory start history = (order : List (Invoked I)) × IsLinearizedAs start history order

  -- what is observed of every run from the opening is linearizable
  abbrev pub ObservesLinearizable : (n : ℕ) → (start : S) → (number : ℕ) → List (Event I) → Type 0
  ObservesLinearizable n start number events =
      1 ≤ number → AreAccepted object (opened_world n start number) events
      → IsLinearizableHistory start (observed_in object (opened_world n start number) events)
