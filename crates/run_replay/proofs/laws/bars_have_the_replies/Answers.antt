use Rattle.run_replay.proofs.Vocabulary.{spoken}
use Rattle.run_replay.proofs.Inside.{EndsAreEvents-holds}
use Rattle.run_replay.proofs.Replies.{BarsHaveTheReplies-holds}
use Rattle.run_replay.proofs.laws.bars_have_the_replies.Goals as goal

pub returns-clause-replies : goal.returns-clause-replies
returns-clause-replies g c object name n first start events = BarsHaveTheReplies-holds (spoken g.O.SeqObject.sequential g.O.Spoken.language object) g.O.Spoken.state_text name n start first events

pub returns-clause-ends : goal.returns-clause-ends
returns-clause-ends g c object name n first start events = EndsAreEvents-holds (spoken g.O.SeqObject.sequential g.O.Spoken.language object) g.O.Spoken.state_text name n start first events
