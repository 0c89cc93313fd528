-- Every execution from the opening is linearizable.
use Rattle.uni_small.proofs.Vocabulary.{AcceptsAll, IsSteady, List, Meaning, Sequential, Sizes, [], at_start, opened, refl, subst, ℕ}
use Rattle.uni_model.proofs.Executions.{linearized_by}
use Rattle.uni_model.specs.Executions.{IsLinearizedAtSteps}
use Rattle.uni_small.specs.Board.{AreSizesOf}
use Rattle.uni_small.specs.Execution.{Execution, last_moment, all_acts, opened_moment}
use Rattle.uni_small.proofs.Executing.{Holds, all_acts_hold}
use Rattle.uni_small.proofs.Opening as Opening

module _ {O : Type 0} (meaning : O → Meaning) (o : O) (sizes : Sizes) (fits : AreSizesOf (meaning o) sizes) (steady : IsSteady (meaning o).object (meaning o).reply) where
  abbrev object : Sequential (List ℕ) (List ℕ) (List ℕ)
  object = (meaning o).object

  pub opening_holds : Holds meaning o sizes (opened_moment object sizes) []
  opening_holds = record {
    board = opened object sizes;
    words_are = Opening.words_are object sizes fits.0.0 fits.2;
    sound = Opening.sound object sizes fits.0.0 fits.2;
    copying = λ p inside. tt;
    appended = refl;
  }

  pub end_holds : (e : Execution object sizes (opened_moment object sizes)) → Holds meaning o sizes (last_moment object sizes e) (all_acts object sizes e)
  end_holds e = all_acts_hold meaning o sizes fits.1 fits.0.1 steady [] opening_holds e

  pub linearized : (e : Execution object sizes (opened_moment object sizes)) → IsLinearizedAtSteps object (all_acts object sizes e)
  linearized e =
      let h = end_holds e in
      linearized_by object (all_acts object sizes e) h.board.atomic (subst (λ a. AcceptsAll object (at_start object.initial) a h.board.atomic) h.appended h.sound.board.history)
