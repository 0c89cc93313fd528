-- What the verdicts on a recorded history say.
use Rattle.std.specs.Prelude.{◌≡◌, ℕ, List, [], ◌∷◌, Option, Some, None, map, slice_get, refl}
use Rattle.seq_object.specs.Sequential.{Sequential}
use Rattle.uni_model.specs.AtomicObject.{Act, Invoked}
use Rattle.uni_model.specs.AtomicObject.Act.{Invoke, Respond}
use Rattle.uni_model.specs.Linearizable.{IsLinearizedAs, IsLinearizableHistory}
use Rattle.lin_check.specs.declared.event.Event.{Event}
use Rattle.lin_check.specs.declared.event.Event.TheVariants.{Call, Return}
use Rattle.lin_check.specs.declared.search.Verdict.{Verdict}
use Rattle.lin_check.specs.declared.search.Verdict.TheVariants.{Linearizable, NotLinearizable, GaveUp}
use Rattle.lin_check.specs.declared.ordered.OrderVerdict.{OrderVerdict}
use Rattle.lin_check.specs.declared.ordered.OrderVerdict.TheVariants.{Right, Wrong, TooManyProcesses}
use Rattle.lin_check.specs.Histories.{IsWithin, acts_of}

-- the act by which a call begins, with its process and its number
abbrev pub begun : {I R : Type 0} → Invoked I → Option (Act I R)
begun c = Some (Invoke c.process c.nth c.inv)

-- these calls begin at these places of the history
abbrev pub AreAt : {I R : Type 0} → List (Event I R) → List ℕ → List (Invoked I) → Type 0
AreAt history places calls = map begun calls ≡ map (slice_get (acts_of history)) places

module _ {S I R : Type 0} (object : Sequential S I R) (history : List (Event I R)) where
  -- from the start of the object the history is linearizable
  abbrev pub IsLinearizable : Type 0
  IsLinearizable = IsLinearizableHistory object object.initial (acts_of history)

  -- the history is linearizable: its calls take effect in the order of these places, and each call that isn't among them never does
  abbrev pub IsOrder : List ℕ → Type 0
  IsOrder places = (calls : List (Invoked I)) × IsLinearizedAs object object.initial (acts_of history) calls × AreAt history places calls

  -- what a verdict says
  abbrev pub Answers : Verdict → Type 0
  Answers (Linearizable order) = IsOrder order.items
  Answers NotLinearizable = ¬ IsLinearizable
  Answers GaveUp = Unit {0}

  -- what a verdict on an order says
  abbrev pub AnswersOrder : List ℕ → OrderVerdict → Type 0
  AnswersOrder places Right = IsOrder places
  AnswersOrder places Wrong = ¬ (IsOrder places)
  AnswersOrder places TooManyProcesses = ¬ (IsWithin 65536 history)

-- two processes: 1 calls, 0 calls, 1 returns and calls again
abbrev sample : List (Event ℕ ℕ)
sample = Call 1 5 ∷ Call 0 3 ∷ Return 1 7 ∷ Call 1 4 ∷ []

-- the second call of process 1 begins at place 3
sample-places : AreAt sample (1 ∷ 0 ∷ 3 ∷ [])
    (record { process = 0; nth = 0; inv = 3 } ∷ record { process = 1; nth = 0; inv = 5 } ∷ record { process = 1; nth = 1; inv = 4 } ∷ [])
sample-places = refl

-- at place 2 there is a return, and behind the history nothing, so no call stands for either
sample-others : map (slice_get (acts_of sample)) (2 ∷ 4 ∷ []) ≡ Some (Respond 1 0 7) ∷ None ∷ []
sample-others = refl
