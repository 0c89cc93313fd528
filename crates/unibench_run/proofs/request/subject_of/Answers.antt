use Rattle.unibench_run.proofs.Vocabulary.{None, Some, ap, found_of, option_map, rules, subject_named, sym, ◌∙◌, ◌≡◌}
use Rattle.unibench_run.proofs.PlanReads.{subject_of-text}
use Rattle.unibench_run.proofs.request.subject_of.Goals as goal

pub returns-in-None : goal.returns-in-None
returns-in-None c =
    let none : c.get_str.result ≡ None = search rules in
    sym (subject_of-text (found_of c.args.matches.now) c.get_str.result c.get_str.ensures ∙ ap (λ o. subject_named (option_map (λ s. s.now) o)) none)

pub returns-in-Some : goal.returns-in-Some
returns-in-Some c =
    let some : c.get_str.result ≡ Some c.in-Some.name = search rules in
    c.subject_named.ensures ∙ sym (subject_of-text (found_of c.args.matches.now) c.get_str.result c.get_str.ensures ∙ ap (λ o. subject_named (option_map (λ s. s.now) o)) some)
