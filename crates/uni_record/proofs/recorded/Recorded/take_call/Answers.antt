use Rattle.std.proofs.Common.{refl}
use Rattle.uni_record.specs.declared.event.Event.TheVariants as stored
use Rattle.uni_record.proofs.Commanded.{TakesCommand-done}
use Rattle.uni_record.proofs.recorded.Recorded.take_call.Goals as goal

pub returns-in-Ok : goal.returns-in-Ok
returns-in-Ok g c = record {
  takes = TakesCommand-done g.O.SeqObject.sequential c.args.self.now c.begin.new.self _ _ (stored.Call c.args.p c.args.inv.now) refl
      (c.in-Ok.ensures.allowed, λ i. record { process = c.in-Ok.ensures.id.0 i; nth = c.in-Ok.ensures.id.1 i })
      c.in-Ok.ensures.begun c.in-Ok.ensures.event c.in-Ok.ensures.fixed;
}
