use Rattle.run_replay.proofs.Vocabulary.{spoken}
use Rattle.run_replay.proofs.Inside.{DotsLieInBars-holds}
use Rattle.run_replay.proofs.laws.dots_lie_in_bars.Goals as goal

pub returns : goal.returns
returns g c object name n first start events = DotsLieInBars-holds (spoken g.O.SeqObject.sequential g.O.Spoken.language object) g.O.Spoken.state_text name n start first events
