use Rattle.std.proofs.Common.{◌∙◌, List, length, ap, sym}
use Rattle.uni_record.proofs.Packed.{length-unpacked}
use Rattle.uni_record.proofs.events.EventsExactSizeIterator.len.Goals as goal

pub returns-clause-value : goal.returns-clause-value
returns-clause-value g c = sym (length-unpacked c.self.inside.codes.now c.self.inside.invocations.now c.self.invariant) ∙ ap (λ (k : List _). length k) c.self.view_is
