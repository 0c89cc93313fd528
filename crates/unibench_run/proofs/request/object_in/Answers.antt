use Rattle.unibench_run.proofs.Vocabulary.{None, Some, ap, codes, found_of, object_named, option_and_then, option_map, rules, sym, value_of-text, ◌∙◌, ◌≡◌}
use Rattle.unibench_run.proofs.request.object_in.Goals as goal

pub returns-in_err-get_str : goal.returns-in_err-get_str
returns-in_err-get_str c =
    let lost : c.from_residual.result ≡ None = search rules in
    let none : c.get_str.result ≡ None = search rules in
    lost ∙ sym (value_of-text object_named (found_of c.args.matches.now) (codes "object") c.get_str.result c.get_str.ensures ∙ ap (λ o. option_and_then object_named (option_map (λ s. s.now) o)) none)

pub returns : goal.returns
returns c =
    let some : c.get_str.result ≡ Some c.in_ok-get_str.field-0 = search rules in
    c.named.ensures ∙ sym (value_of-text object_named (found_of c.args.matches.now) (codes "object") c.get_str.result c.get_str.ensures ∙ ap (λ o. option_and_then object_named (option_map (λ s. s.now) o)) some)
