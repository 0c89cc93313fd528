use Rattle.std.proofs.Common.{◌+◌, ap, sym}
use Rattle.uni_words.proofs.Reading.{start_of-cells}
use Rattle.uni_words.proofs.log.WordLog.word_of_cell.Goals as goal

pub returns : goal.returns
returns g c = ap (λ i. i + c.args.cell) (sym (start_of-cells c.args.self.now.setup.n c.args.self.now.setup.k c.args.column))
