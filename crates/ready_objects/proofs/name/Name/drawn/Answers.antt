use Rattle.ready_objects.proofs.Vocabulary.{ap, arith, decimal_digit, sym, ◌%◌, ◌∙◌, ◌∷◌}
use Rattle.ready_objects.proofs.name.Name.drawn.Goals as goal

pub returns : goal.returns
returns c = c.copy_of.ensures ∙ ap (λ digit. 110 ∷ digit) (sym (decimal_digit (c.args.number % 10) (omega arith)))
