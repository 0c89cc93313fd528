use Rattle.uni_words.proofs.Vocabulary.{count_in, entry_shown, map, row_in, words_in}
use Rattle.uni_words.proofs.Reading.{IsAlong}
use Rattle.uni_words.proofs.read.read_log.Given as goal

abbrev pub invariant-loop-place : goal.invariant-loop-place
invariant-loop-place l = IsAlong (count_in l.words) (row_in l.words) (words_in l.words) l.words.few.0 l.place l.at (map entry_shown l.entries.items)
