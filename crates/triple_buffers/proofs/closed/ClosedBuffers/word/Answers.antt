use Rattle.std.specs.Mem.Slots.{slots_items}
use Rattle.triple_buffers.proofs.Vocabulary.{sym}
use Rattle.triple_buffers.proofs.Closing.{there}
use Rattle.triple_buffers.proofs.closed.ClosedBuffers.word.Goals as goal

pub returns : goal.returns
returns g c = sym (there (slots_items c.args.self.now.table.words) c.args.word c.word.result 0 c.word.ensures)
