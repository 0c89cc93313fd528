use Rattle.cell_arena.proofs.Vocabulary.{arith, same_from_place}
use Rattle.cell_arena.proofs.cell_id.of_is_injective.Goals as goal

pub returns-clause-injective : goal.returns-clause-injective
returns-clause-injective c n owner nth owner' nth' within within' same =
    let places = same_from_place nth owner nth' owner' n within within' (omega arith) in
    (places.1, places.0)
