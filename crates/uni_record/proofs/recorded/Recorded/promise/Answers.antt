use Rattle.uni_record.proofs.Vocabulary.{IsPromised, IsRecording, subst}
use Rattle.uni_record.proofs.Promised.{IsPromised-kept}
use Rattle.uni_record.proofs.recorded.Recorded.promise.Goals as goal

pub returns-clause-recording : goal.returns-clause-recording
returns-clause-recording g c = subst (λ r. IsRecording g.O.SeqObject.sequential r) c.self.view_is c.self.invariant.0

pub returns-clause-promised : goal.returns-clause-promised
returns-clause-promised g c = subst (λ r. IsPromised g.O.SeqObject.sequential r) c.self.view_is
    (IsPromised-kept g.O.SeqObject.sequential _ c.self.invariant.0 (λ n start number events. c.is_universal.ensures c.self.inside.world.object n start number events) (λ n start number events. c.links_soon.ensures c.self.inside.world.object n start number events)
    (λ n start number events. c.joined_log_only_grows.ensures c.self.inside.world.object n start number events))
