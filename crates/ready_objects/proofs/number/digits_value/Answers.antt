use Rattle.std.proofs.Common.{arith}
use Rattle.ready_objects.proofs.Numbers.{digits_value-take, digits_value-take-more}
use Rattle.ready_objects.proofs.number.digits_value.Goals as goal

pub overflow_mul-value : goal.overflow_mul-value
overflow_mul-value c =
    let bound = digits_value-take c.args.word.now c.loop-digit.digit-index c.requires.digits c.requires.short in omega arith

pub overflow_add-value : goal.overflow_add-value
overflow_add-value c =
    let bound = digits_value-take c.args.word.now c.loop-digit.digit-index c.requires.digits c.requires.short in
    omega (arith, c.type_inv.word c.loop-digit.digit-index)

pub loop-digit-preserved : goal.loop-digit-preserved
loop-digit-preserved c =
    let more = digits_value-take-more c.args.word.now c.loop-digit.digit-index c.requires.digits c.loop-digit-test.true in
    omega arith

pub returns-clause-bound : goal.returns-clause-bound
returns-clause-bound c =
    let bound = digits_value-take c.args.word.now c.loop-digit.digit-index c.requires.digits c.requires.short in omega arith
