use Rattle.unibench_run.proofs.Vocabulary.{[], drawn_by, map, seeded_word, vec_len, xoshiro_word, ℕ, ◌+◌, ◌≡◌}
use Rattle.unibench_run.proofs.threads.make_calls.Given as goal

-- the calls so far are as they were drawn, and the words are those that come next
abbrev pub invariant-loop : goal.invariant-loop
invariant-loop g l = record {
  room : g.C.Seated.is_room l.shared l.room;
  made : (p : ℕ) → g.C.Seated.has_made l.shared p [] l.fn.job.seat → g.C.Seated.has_made l.shared p l.told.items l.seat;
  told : vec_len l.told ≡ l.counter;
  asked : map g.C.Seated.call_in l.told.items ≡ drawn_by g.C.Seated.call_of_word l.fn.job.seed l.counter;
  words : (i : ℕ) → xoshiro_word l.words i ≡ seeded_word l.fn.job.seed (l.counter + i);
}
