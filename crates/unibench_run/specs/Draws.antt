-- The words that a seed stands for, and what is drawn from them.
use Rattle.std.specs.Prelude.{◌≡◌, ◌+◌, ◌%◌, ◌^◌, ℕ, List, [], ◌∷◌, ◌++◌, map, codes, refl}
use Rattle.std.specs.Fmt.{digits}
use Rattle.std.specs.List.{range_with_len}
use Rattle.rand_core.specs.Stream.{fill_bytes}
use Rattle.rand_core.specs.Steps.{stream_of, word_bytes, u32_at}
use Rattle.rand_xoshiro.specs.SplitMix64.{splitmix_seed}
use Rattle.rand_xoshiro.specs.Xoshiro256.{of_seed}
use Rattle.uni_script.specs.Schedules.{schedule_text, xoshiro_word}
use Rattle.uni_script.specs.declared.grammar.ObjectName.TheVariants.{Queue}
use Rattle.unibench_run.specs.declared.request.RandomPlan.{RandomPlan}

-- the words of xoshiro256++ from the state that SplitMix64 makes of a seed
abbrev pub seeded_word : (seed : ℕ) → ℕ → ℕ
seeded_word seed = xoshiro_word (of_seed (splitmix_seed 32 seed))

-- the schedule that is drawn from the seed of a plan
abbrev pub drawn_text : RandomPlan → List ℕ
drawn_text plan = schedule_text plan.schedule (seeded_word plan.seed)

-- the seed of the thread of process p
abbrev pub seed_of : (seed p : ℕ) → ℕ
seed_of seed p = (seed + p) % 2 ^ 64

-- what the first so many words stand for, one word each
abbrev pub drawn_from : {I : Type 0} → (read : ℕ → I) → (word : ℕ → ℕ) → (count : ℕ) → List I
drawn_from read word count = map (λ i. read (word i)) (range_with_len 0 count)

-- the invocations that are drawn from a seed, where each word stands for one
abbrev pub drawn_by : {I : Type 0} → (read : ℕ → I) → (seed count : ℕ) → List I
drawn_by read seed count = drawn_from read (seeded_word seed) count

-- what a call with what it was told asked for, and what such calls did
abbrev pub call_in : {C R : Type 0} → C × R → C
call_in call = call.0

abbrev pub asked_in : {C R : Type 0} → List (C × R) → List C
asked_in own = map call_in own

-- what a word stands for over words: a number below 1000
abbrev pub below_1000 : ℕ → ℕ
below_1000 word = word % 1000

first_word_of_seed_1 : seeded_word 1 0 ≡ 14971601782005023387
unfolding fill_bytes stream_of u32_at word_bytes
first_word_of_seed_1 = refl

abbrev line : List ℕ → List ℕ → List ℕ
line bytes text = bytes ++ 10 ∷ text

three_events_of_seed_182 : drawn_text (record { schedule = record { object = Queue; processes = 2; row = 8; events = 3 }; seed = 182 })
    ≡ line (codes "universal 1 queue 2 8") (line (codes "call 0 enq 712") (line (codes "trim") (line (codes "step 1")
    (line (codes "finish 0") (line (codes "finish 1") (line (codes "log") []))))))
unfolding digits fill_bytes stream_of u32_at word_bytes
three_events_of_seed_182 = refl

-- the least and the greatest seed
first_word_of_seed_0 : seeded_word 0 0 ≡ 5987356902031041503
unfolding fill_bytes stream_of u32_at word_bytes
first_word_of_seed_0 = refl

first_word_of_the_greatest_seed : seeded_word 18446744073709551615 0 ≡ 6254647548650071986
unfolding fill_bytes stream_of u32_at word_bytes
first_word_of_the_greatest_seed = refl

-- the first three invocations of two processes, the second of which has the next seed
first_calls_of_seed_1 : map (λ p. drawn_by below_1000 (seed_of 1 p) 3) (0 ∷ 1 ∷ [])
    ≡ (387 ∷ 965 ∷ 744 ∷ []) ∷ (970 ∷ 248 ∷ 165 ∷ []) ∷ []
unfolding fill_bytes stream_of u32_at word_bytes
first_calls_of_seed_1 = refl

-- the seed after the greatest is 0
seeds_wrap : seed_of 18446744073709551615 1 ≡ 0
seeds_wrap = refl
