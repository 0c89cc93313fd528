use Rattle.uni_record.proofs.Vocabulary.{List, ap, calls_in, events_shown, sym, ◌∙◌}
use Rattle.uni_record.proofs.Asked.{calls_in-unpacked}
use Rattle.uni_record.proofs.events.Events.calls.Goals as goal

pub returns : goal.returns
returns g c = sym (calls_in-unpacked c.self.inside.codes.now c.self.inside.invocations.now c.self.invariant) ∙ ap (λ (k : List _). calls_in (events_shown k)) c.self.view_is
