-- The command line that the program builds is the one of the definitions.
use Rattle.unibench_run.proofs.Vocabulary.{ap, app_of, is_simple, is_simple_and_free, refl, true, unibench, ◌∙◌, ◌≡◌}
use Rattle.clap.specs.declared.builder.command.Command.{Command}

pub is_simple_and_free-unibench : (whole : Command) → app_of whole ≡ unibench → is_simple_and_free (app_of whole) ≡ true
is_simple_and_free-unibench whole is = let simple : is_simple_and_free unibench ≡ true = refl in ap is_simple_and_free is ∙ simple

pub is_simple-unibench : (whole : Command) → app_of whole ≡ unibench → is_simple (app_of whole) ≡ true
is_simple-unibench whole is = let simple : is_simple unibench ≡ true = refl in ap is_simple is ∙ simple
