use Rattle.svg_text.proofs.Escapes.{escaped_no_markup, escaped_reads_back}
use Rattle.svg_text.proofs.svg.escaped_has_no_markup.Goals as goal

pub returns : goal.returns
returns c = record { no_markup = escaped_no_markup; reads_back = escaped_reads_back }
