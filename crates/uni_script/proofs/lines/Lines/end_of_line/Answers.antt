use Rattle.uni_script.specs.Lines.{rest_of}
use Rattle.uni_script.proofs.Cutting.{IsFirstByte-position}
use Rattle.uni_script.proofs.lines.Lines.end_of_line.Goals as goal

pub returns : goal.returns
returns c = IsFirstByte-position (rest_of c.args.self.now) c.memchr.result c.memchr.ensures
