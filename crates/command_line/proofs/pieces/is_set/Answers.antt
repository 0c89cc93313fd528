use Rattle.std.proofs.Common.{◌∙◌, ap}
use Rattle.clap.specs.Words.{found_of}
use Rattle.clap.proofs.WalkLemmas.{first_value-rows}
use Rattle.command_line.specs.Flags.{is_true}
use Rattle.command_line.proofs.pieces.is_set.Goals as goal

pub returns : goal.returns
returns c = c.is_true.ensures ∙ ap is_true (c.get_str.ensures ∙ first_value-rows (found_of c.args.matches.now) c.args.name.now)
