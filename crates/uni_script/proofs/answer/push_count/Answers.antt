use Rattle.std.proofs.Common.{arith, rules}
use Rattle.uni_script.proofs.Digits.{decimal-one, decimal-three, decimal-two}
use Rattle.uni_script.proofs.answer.push_count.Goals as goal

pub returns-then-number-lt10 : goal.returns-then-number-lt10
returns-then-number-lt10 c =
    let few = c.if-number-lt10.true in
    let text = decimal-one c.args.number (omega arith) in search rules

pub returns-then-number-lt100 : goal.returns-then-number-lt100
returns-then-number-lt100 c =
    let many = c.if-number-lt10.false in
    let few = c.if-number-lt100.true in
    let text = decimal-two c.args.number (omega arith) (omega arith) in search rules

pub returns-then-number-lt1000 : goal.returns-then-number-lt1000
returns-then-number-lt1000 c =
    let many = c.if-number-lt100.false in
    let few = c.if-number-lt1000.true in
    let text = decimal-three c.args.number (omega arith) (omega arith) in search rules
