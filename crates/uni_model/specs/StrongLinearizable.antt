-- Strong linearizability: the order in which calls take effect is fixed as the run goes on (Golab, Higham and Woelfel 2011).
use Rattle.std.specs.Prelude.{◌≡◌, ℕ, ◌≤◌, List, ◌++◌}
use Rattle.seq_object.specs.Sequential.{Sequential}
use Rattle.uni_model.specs.AtomicObject.{Act, Invoked}
use Rattle.uni_model.specs.Worlds.{Event, opened_world, AreAccepted}
use Rattle.uni_model.specs.Linearizable.{observed_in}
use Rattle.uni_model.specs.HerlihyWing.{one_by_one, IsLinearizedByCompletion}

module _ {S I R : Type 0} (object : Sequential S I R) where
  -- A function from runs to linearizations that keeps prefixes. It gives each run an order in which what is observed of
  -- it is linearized, in the words of Herlihy and Wing (`linearizes`). Where a run goes on, its order gets further
  -- calls at the end, and changes in nothing else (`keeps_order`); so does the sequential history (`keeps_history`,
  -- which follows).
  pub record LinearizesStrongly (n : ℕ) (start : S) (number : ℕ) (order : List (Event I) → List (Invoked I)) : Type 0 where
    pub linearizes : (events : List (Event I)) → AreAccepted object (opened_world n start number) events
        → IsLinearizedByCompletion object start (observed_in object (opened_world n start number) events) (order events)
    pub keeps_order : (events more : List (Event I)) → AreAccepted object (opened_world n start number) (events ++ more)
        → (further : List (Invoked I)) × (order (events ++ more) ≡ order events ++ further)
    pub keeps_history : (events more : List (Event I)) → AreAccepted object (opened_world n start number) (events ++ more)
        → (further : List (Act I R))
        × (one_by_one object start (order (events ++ more)) ≡ one_by_one object start (order events) ++ further)

  -- the runs from an opening are strongly linearizable: there is such a function
  abbrev pub IsStronglyLinearizable : (n : ℕ) → (start : S) → (number : ℕ) → Type 0
  IsStronglyLinearizable n start number =
      1 ≤ number → (order : List (Event I) → List (Invoked I)) × LinearizesStrongly n start number order
