use Rattle.std.proofs.Common.{refl}
use Rattle.uni_record.specs.declared.event.Event.TheVariants as stored
use Rattle.uni_record.proofs.Commanded.{TakesCommand-done}
use Rattle.uni_record.proofs.recorded.Recorded.take_trim.Goals as goal

pub returns-in-Ok : goal.returns-in-Ok
returns-in-Ok g c = record {
  takes = TakesCommand-done g.O.SeqObject.sequential c.args.self.now c.trim.new.self _ _ stored.Trim refl (c.in-Ok.ensures.allowed, c.in-Ok.ensures.number)
      c.in-Ok.ensures.trimmed c.in-Ok.ensures.event c.in-Ok.ensures.fixed;
}
