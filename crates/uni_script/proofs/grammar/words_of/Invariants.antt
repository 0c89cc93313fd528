use Rattle.std.proofs.Common.{length, ◌++◌, ◌≡◌}
use Rattle.ready_objects.specs.Words.{bytes_of, words_of_text}
use Rattle.uni_script.proofs.grammar.words_of.Given as goal

-- the words so far, and those of the rest
abbrev pub invariant-loop-at : goal.invariant-loop-at
invariant-loop-at l = words_of_text l.initial.line ≡ bytes_of l.words.items ++ words_of_text l.rest

abbrev pub decreases-loop-at : goal.decreases-loop-at
decreases-loop-at l = length l.rest
