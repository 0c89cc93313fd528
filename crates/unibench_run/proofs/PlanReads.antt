-- What matches have of an option, by their rows.
use Rattle.unibench_run.proofs.Vocabulary.{Option, Text, ap, codes, first_value, option_map, rows_of, subject_named, subject_of, sym, ◌∙◌, ◌≡◌}
use Rattle.std.specs.Borrow.{Bor}
use Rattle.clap.proofs.WalkLemmas.{first_value-rows}
use Rattle.clap.specs.declared.parser.matches.Found.{Found}

-- what the language is asked of, by the text that the matches give
pub subject_of-text : (f : Found) (o : Option (Bor Text)) → option_map (λ s. s.now) o ≡ first_value f (codes "object") → subject_of (rows_of f) ≡ subject_named (option_map (λ s. s.now) o)
subject_of-text f o is = ap subject_named (sym (first_value-rows f (codes "object")) ∙ sym is)
