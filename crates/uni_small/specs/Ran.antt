-- The execution that a table has seen, and how it goes on.
use Rattle.std.specs.Prelude.{◌≡◌, ℕ, List, ◌<◌}
use Rattle.seq_object.specs.Sequential.{Sequential}
use Rattle.uni_model.specs.Executions.Execution.{Ends, Takes}
use Rattle.uni_small.specs.View.{Local}
use Rattle.uni_small.specs.Board.{Board}
use Rattle.uni_small.specs.Execution.{Execution, Next, goes_on, all_acts, last_moment, opened_moment}
use Rattle.uni_small.specs.declared.sizes.Sizes.{Sizes}

module _ (object : Sequential (List ℕ) (List ℕ) (List ℕ)) (sizes : Sizes) where
  -- An execution from the opening leads to these words and to where each process stands, and its acts are the history
  -- of the board.
  pub record LeadsTo (e : Execution object sizes (opened_moment object sizes)) (g : Board) (local : ℕ
      → Local) (words : List ℕ) : Type 0 where
    pub words_are : (last_moment object sizes e).words ≡ words
    pub locals_are : (p : ℕ) → p < sizes.processes → (last_moment object sizes e).local p ≡ local p
    pub acts_are : all_acts object sizes e ≡ g.acts

  -- some execution leads there
  abbrev pub HasRun : Board → (local : ℕ → Local) → (words : List ℕ) → Type 0
  HasRun g local words = (e : Execution object sizes (opened_moment object sizes)) × LeadsTo e g local words

  -- each execution that led to the one place leads, with one step of process p more, to the other one
  abbrev pub GoesOn : (p : ℕ) → (g : Board) (local : ℕ → Local) (words : List ℕ)
      → (g' : Board) (local' : ℕ → Local) (words' : List ℕ) → Type 0
  GoesOn p g local words g' local' words' =
      (e : Execution object sizes (opened_moment object sizes)) → LeadsTo e g local words
      → (inside : p < sizes.processes) × ((next : Next object sizes p ((last_moment object sizes e).local p))
      × LeadsTo (goes_on object sizes e (Takes p inside next Ends)) g' local' words')
