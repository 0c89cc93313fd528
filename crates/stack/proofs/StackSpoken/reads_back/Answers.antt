use Rattle.std.proofs.Common.{◌≤◌, ◌<◌, ◌^◌, [], ◌∷◌, refl, sym, ap, arith}
use Rattle.std.specs.Prelude.{codes, option_map}
use Rattle.std.specs.Fmt.{decimal}
use Rattle.std.proofs.lemmas.Bool.{and_from}
use Rattle.ready_objects.proofs.Numbers.{number_below-decimal, lacks_space-decimal}
use Rattle.ready_objects.proofs.Words.{words_of_text-text_of_words}
use Rattle.stack.specs.declared.StackInv.TheVariants.{Push}
use Rattle.stack.proofs.StackWords.{stack_words-stack_inv_of_words}
use Rattle.stack.proofs.StackSpoken.reads_back.Goals as goal

pub returns-in-Push-clause-words : goal.returns-in-Push-clause-words
returns-in-Push-clause-words c =
    let bound : c.in-Push.value ≤ 999999999999 = omega arith in
    rw c.in-Push.is (words_of_text-text_of_words (codes "push") (decimal c.in-Push.value ∷ []) (and_from _ _ (lacks_space-decimal c.in-Push.value bound) refl))

pub returns-in-Push-clause-inv : goal.returns-in-Push-clause-inv
returns-in-Push-clause-inv c =
    let bound : c.in-Push.value ≤ 999999999999 = omega arith in
    let below : c.in-Push.value < 2 ^ 32 = omega arith in
    rw c.in-Push.is (ap (option_map Push) (number_below-decimal (2 ^ 32) c.in-Push.value below bound))

pub returns-in-Push-clause-only : goal.returns-in-Push-clause-only
returns-in-Push-clause-only c = λ words read. sym (stack_words-stack_inv_of_words words c.args.inv.now read)

pub returns-in_default-clause-only : goal.returns-in_default-clause-only
returns-in_default-clause-only c = λ words read. sym (stack_words-stack_inv_of_words words c.args.inv.now read)
