use Rattle.run_picture.proofs.Vocabulary.{◌-◌}
use Rattle.run_picture.proofs.picture.has_boxes.Goals as goal

pub returns : goal.returns
returns c = λ ok. record {
  from = c.args.from;
  count = c.args.to - c.args.from;
  shown = rw (c.new.ensures.items, c.new-2.ensures.items, c.deref.ensures.value) at c.are_shown.ensures ok;
}
