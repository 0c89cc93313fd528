use Rattle.std.proofs.Common.{◌≡◌, ◌∙◌, None, Some, option_and_then, option_map, rules, sym, ap}
use Rattle.clap.specs.Words.{found_of}
use Rattle.command_line.specs.Numbers.{number_in}
use Rattle.command_line.proofs.Digits.{value_of-text}
use Rattle.command_line.proofs.numbers.number_of.Goals as goal

pub returns-in_err-get_str : goal.returns-in_err-get_str
returns-in_err-get_str c =
    let lost : c.from_residual.result ≡ None = search rules in
    let none : c.get_str.result ≡ None = search rules in
    lost ∙ sym (value_of-text (number_in c.args.least c.args.most) (found_of c.args.matches.now) c.args.option.now c.get_str.result c.get_str.ensures ∙ ap (λ o. option_and_then (number_in c.args.least c.args.most) (option_map (λ s. s.now) o)) none)

pub returns : goal.returns
returns c =
    let some : c.get_str.result ≡ Some c.in_ok-get_str.field-0 = search rules in
    c.number_in.ensures ∙ sym (value_of-text (number_in c.args.least c.args.most) (found_of c.args.matches.now) c.args.option.now c.get_str.result c.get_str.ensures ∙ ap (λ o. option_and_then (number_in c.args.least c.args.most) (option_map (λ s. s.now) o)) some)
