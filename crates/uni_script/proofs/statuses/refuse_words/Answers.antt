use Rattle.std.proofs.Common.{refl}
use Rattle.uni_script.proofs.statuses.refuse_words.Goals as goal

pub returns-then-eq-clause-memory : goal.returns-then-eq-clause-memory
returns-then-eq-clause-memory g c = λ same. refl

pub returns-then-eq-clause-prefix : goal.returns-then-eq-clause-prefix
returns-then-eq-clause-prefix g c = c.tell.ensures.prefix

pub returns-then-eq-clause-whole : goal.returns-then-eq-clause-whole
returns-then-eq-clause-whole g c = c.tell.ensures.whole
