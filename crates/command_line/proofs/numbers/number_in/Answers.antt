use Rattle.std.proofs.Common.{◌∙◌, sym, ap, arith, Some}
use Rattle.std.specs.Str.Parse.{without_leading_plus}
use Rattle.command_line.proofs.Digits.{value_in-none, value_in-some}
use Rattle.command_line.proofs.numbers.number_in.Goals as goal

pub returns-in-Err : goal.returns-in-Err
returns-in-Err c = sym (value_in-none c.args.least c.args.most (without_leading_plus c.args.text.now) (λ h. c.in-Err.ensures.value.0 (h.0, (let low = h.1.1 in let fits = c.ranges.most.fits in omega arith))))

pub returns-then-number-most : goal.returns-then-number-most
returns-then-number-most c =
    let read = c.in-Ok.ensures.value.0 in
    let is = read.1 in
    ap Some is ∙ sym (value_in-some c.args.least c.args.most (without_leading_plus c.args.text.now) read.0.0 (let t = c.if-least-number.true in omega arith) (let t = c.if-number-most.true in omega arith))
