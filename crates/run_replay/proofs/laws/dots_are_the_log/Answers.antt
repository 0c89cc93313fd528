use Rattle.run_replay.proofs.Vocabulary.{spoken}
use Rattle.run_replay.proofs.Boxed.{DotsAreTheLog-holds, BoxesAreTheLog-holds, BoxesHaveTheEntries-holds}
use Rattle.run_replay.proofs.laws.dots_are_the_log.Goals as goal

pub returns-clause-dots : goal.returns-clause-dots
returns-clause-dots g c object name n first start events = DotsAreTheLog-holds (spoken g.O.SeqObject.sequential g.O.Spoken.language object) g.O.Spoken.state_text name n start first events

pub returns-clause-boxes : goal.returns-clause-boxes
returns-clause-boxes g c object name n first start events = BoxesAreTheLog-holds (spoken g.O.SeqObject.sequential g.O.Spoken.language object) g.O.Spoken.state_text name n start first events

pub returns-clause-entries : goal.returns-clause-entries
returns-clause-entries g c object name n first start events = BoxesHaveTheEntries-holds (spoken g.O.SeqObject.sequential g.O.Spoken.language object) g.O.Spoken.state_text name n start first events
