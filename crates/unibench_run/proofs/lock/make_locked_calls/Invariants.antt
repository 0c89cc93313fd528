use Rattle.unibench_run.proofs.Vocabulary.{asked_by, drawn_by, length, seeded_word, xoshiro_word, ℕ, ◌+◌, ◌≡◌}
use Rattle.unibench_run.proofs.lock.make_locked_calls.Given as goal

-- the calls so far are as they were drawn, and the words are those that come next
abbrev pub invariant-loop : goal.invariant-loop
invariant-loop g l = record {
  process : l.seat.process ≡ l.fn.job.seat.process;
  made : length l.seat.receipts ≡ l.counter;
  asked : asked_by l.seat ≡ drawn_by g.O.Spoken.language.inv_of_word l.fn.job.seed l.counter;
  words : (i : ℕ) → xoshiro_word l.words i ≡ seeded_word l.fn.job.seed (l.counter + i);
}
