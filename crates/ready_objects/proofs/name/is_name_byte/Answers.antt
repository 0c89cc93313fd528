use Rattle.ready_objects.proofs.Vocabulary.{arith, nat_tests}
use Rattle.ready_objects.proofs.name.is_name_byte.Goals as goal

pub returns-then-byte-le122 : goal.returns-then-byte-le122
returns-then-byte-le122 c = grind (arith, nat_tests)

pub returns-then-byte-ge48 : goal.returns-then-byte-ge48
returns-then-byte-ge48 c = grind (arith, nat_tests)

pub returns-else-byte-ge48 : goal.returns-else-byte-ge48
returns-else-byte-ge48 c = grind (arith, nat_tests)
