use Rattle.lin_check.proofs.Searching.{reached_first, sound_first}
use Rattle.lin_check.proofs.Ordering.{ordered_first}
use Rattle.lin_check.proofs.search.root_of.Goals as goal

pub returns-clause-reached : goal.returns-clause-reached
returns-clause-reached g c = λ history. reached_first (g.O.SeqObject.sequential c.args.object.now) history c.in_ok-idle_slots.field-0.items c.in_ok-start.field-0 c.in_ok-idle_slots.ensures.idle c.in_ok-start.ensures

pub returns-clause-sound : goal.returns-clause-sound
returns-clause-sound g c = λ history fails. sound_first (g.O.SeqObject.sequential c.args.object.now) history c.in_ok-idle_slots.field-0.items c.in_ok-start.field-0 c.in_ok-idle_slots.ensures.idle c.in_ok-start.ensures fails

pub returns-clause-ordered : goal.returns-clause-ordered
returns-clause-ordered g c = λ history places fails. ordered_first (g.O.SeqObject.sequential c.args.object.now) history c.in_ok-idle_slots.field-0.items c.in_ok-start.field-0 c.in_ok-idle_slots.ensures.idle c.in_ok-start.ensures places fails
