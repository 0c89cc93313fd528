use Rattle.std.proofs.Common.{refl}
use Rattle.uni_record.specs.declared.event.Event.TheVariants as stored
use Rattle.uni_record.proofs.Commanded.{TakesCommand-done}
use Rattle.uni_record.proofs.recorded.Recorded.take_reshape.Goals as goal

pub returns-in-Ok : goal.returns-in-Ok
returns-in-Ok g c = record {
  takes = TakesCommand-done g.O.SeqObject.sequential c.args.self.now c.reshape.new.self _ _ (stored.Reshape c.args.m) refl (refl, c.in-Ok.ensures.allowed.0, c.in-Ok.ensures.allowed.1, c.in-Ok.ensures.number)
      c.in-Ok.ensures.reshaped c.in-Ok.ensures.event c.in-Ok.ensures.fixed;
}
