use Rattle.uni_words.proofs.LawProofs.{WordStepMoves-holds}
use Rattle.uni_words.proofs.laws.word_step_moves.Goals as goal

pub returns : goal.returns
returns g c object = WordStepMoves-holds (g.O.WordObject.sequential object)
