use Rattle.uni_script.proofs.Vocabulary.{head_seq, numbers_text, world_of, ◌++◌, ◌≡◌}
use Rattle.uni_script.proofs.commands.push_numbers.Given as goal

abbrev pub invariant-loop-process : goal.invariant-loop-process
invariant-loop-process g l = l.text.items ≡ l.initial.text.items ++ numbers_text l.process (head_seq (world_of l.world).memory)
