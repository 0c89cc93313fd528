-- The rule: words, buffers and views show a board, to which an execution has led.
use Rattle.std.specs.Prelude.{◌≡◌, ℕ, List}
use Rattle.seq_object.specs.Sequential.{Sequential}
use Rattle.triple_buffers.specs.Contents.{Contents}
use Rattle.uni_model.specs.AtomicObject.{Act}
use Rattle.uni_any.specs.Board.{Board}
use Rattle.uni_any.specs.Execution.{Effect, Execution, Moment, Next, effect_of, all_acts, last_moment, opened_moment}
use Rattle.uni_any.specs.Shown.{IsShown, Letter}
use Rattle.uni_any.specs.declared.view.Local.{Local}
use Rattle.uni_any.specs.declared.view.View.{View}

module _ {S I R : Type 0} (object : Sequential S I R) (n : ℕ) where
  -- some execution from the opening leads to this moment, and its acts are these
  abbrev pub HasRun : Moment I S R → List (Act I R) → Type 0
  HasRun m acts = (e : Execution object n (opened_moment object n)) × (last_moment object n e ≡ m) × (all_acts object n e ≡ acts)

  -- process p, which stands there, can take a step with this effect
  abbrev pub IsStep : Moment I S R → (p : ℕ) → Local I S R → Effect I S R → Type 0
  IsStep m p l effect = (next : Next object n m p l) × (effect_of object n m p l next ≡ effect)

-- what there is, and where each process stands
abbrev pub moment_of : {O I S R : Type 0} → Contents (Letter I S R) (View O I S R) → (ℕ → Local I S R) → Moment I S R
moment_of c local = record { word = c.words 0; buffers = c.buffers; local = local }

abbrev pub ShowsBoard : {O I S R : Type 0} → (O → Sequential S I R) → O → (n : ℕ) → Contents (Letter I S R) (View O I S R)
    → Type 0
ShowsBoard {O} {I} {S} {R} meaning o n c =
    (g : Board I S R) × ((local : ℕ → Local I S R) × ((seat_of : ℕ → ℕ) × IsShown n meaning o g local seat_of c
    × HasRun (meaning o) n (moment_of c local) g.acts))
