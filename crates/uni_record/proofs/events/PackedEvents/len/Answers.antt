use Rattle.std.proofs.Common.{◌∙◌, length, ap, sym}
use Rattle.uni_record.proofs.Packed.{length-unpacked}
use Rattle.uni_record.proofs.events.PackedEvents.len.Goals as goal

pub returns : goal.returns
returns g c = c.len.ensures ∙ c.self.inside.codes.ok.0 ∙ sym (length-unpacked c.self.inside.codes.items c.self.inside.invocations.items c.self.invariant) ∙ ap (λ k. length k.events) c.self.view_is
