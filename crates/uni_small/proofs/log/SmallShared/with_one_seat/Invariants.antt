use Rattle.uni_small.proofs.Vocabulary.{joined, replicate, words_before, ◌++◌, ◌≡◌}
use Rattle.uni_small.proofs.log.SmallShared.with_one_seat.Given as goal

abbrev pub invariant-loop : goal.invariant-loop
invariant-loop g l = l.words.items ≡ replicate (words_before l.sizes) 0 ++ joined (replicate l.counter l.first.items)
