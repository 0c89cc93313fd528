-- The shared words as plain data, with what is remembered of the run.
use Rattle.std.specs.Prelude.{◌≡◌, refl, ℕ, ◌+◌, ◌*◌, ◌/◌, ◌%◌, ◌≤◌, List, []}
use Rattle.std.specs.Prelude.{length, replicate, slice_index}
use Rattle.seq_object.specs.Sequential.{Sequential}
use Rattle.uni_model.specs.AtomicObject.{Atomic, Act, at_start}
use Rattle.uni_small.specs.Image.{AreWidths, Image, Meaning, buffer_words, first_image, spell}
use Rattle.uni_small.specs.declared.sizes.Sizes.{Sizes}

-- The word S names a version and the current buffer, which is one of 2n: buffer 2p or 2p + 1 is of process p. Of each
-- process: what its announcement tells, how many calls it has begun, and the words of its argument. The words of each
-- buffer. And what no word tells: the version at which each process last announced a call; how many calls of a process
-- a buffer had in it when it was last current; what the current buffer means; the atomic object, and how many of its
-- calls are in each version; and its history.
pub record Board : Type 0 where
  pub version : ℕ
  pub current : ℕ
  pub told : ℕ → ℕ
  pub announced : ℕ → ℕ
  pub argument : ℕ → List ℕ
  pub buffer : ℕ → ℕ → ℕ
  pub since : ℕ → ℕ
  pub mark : ℕ → ℕ → ℕ
  pub image : Image
  pub atomic : Atomic (List ℕ) (List ℕ)
  pub calls_in_version : ℕ → ℕ
  pub acts : List (Act (List ℕ) (List ℕ))

-- how many calls of a process are in
abbrev pub in_of : Board → ℕ → ℕ
in_of g r = slice_index g.image.applied r

-- the word S; the version and the buffer that it names
abbrev pub current_word : (version buffer : ℕ) → ℕ
current_word version buffer = 128 * version + buffer

abbrev pub version_in : ℕ → ℕ
version_in s = s / 128

abbrev pub buffer_in : ℕ → ℕ
buffer_in s = s % 128

-- sizes that an object can have
abbrev pub AreFew : Sizes → Type 0
AreFew sizes = (1 ≤ sizes.processes) × (sizes.processes ≤ 64) × (sizes.state ≤ 65536) × (sizes.invocation ≤ 65536)
    × (1 ≤ sizes.reply) × (sizes.reply ≤ 65536)

-- these are sizes of the object
abbrev pub AreSizesOf : Meaning → Sizes → Type 0
AreSizesOf meaning sizes = AreFew sizes × AreWidths meaning sizes × (length meaning.object.initial ≡ sizes.state)

-- how many words there are before the buffers, and in all
abbrev pub words_before : Sizes → ℕ
words_before sizes = 1 + sizes.processes + sizes.processes * sizes.invocation

abbrev pub words_of : Sizes → ℕ
words_of sizes = words_before sizes + 2 * sizes.processes * buffer_words sizes

-- the word of an announcement, a word of an argument, and one of a buffer
abbrev pub announce_word : (p : ℕ) → ℕ
announce_word p = 1 + p

abbrev pub argument_word : Sizes → (p k : ℕ) → ℕ
argument_word sizes p k = 1 + sizes.processes + (p * sizes.invocation + k)

abbrev pub buffer_word : Sizes → (b i : ℕ) → ℕ
buffer_word sizes b i = words_before sizes + b * buffer_words sizes + i

-- buffer 0 is current, and each buffer has the start state
abbrev pub opened : Sequential (List ℕ) (List ℕ) (List ℕ) → Sizes → Board
opened object sizes = record {
  version = 0;
  current = 0;
  told = λ p. 0;
  announced = λ p. 0;
  argument = λ p. replicate sizes.invocation 0;
  buffer = λ b i. slice_index (spell (first_image object sizes)) i;
  since = λ p. 0;
  mark = λ b r. 0;
  image = first_image object sizes;
  atomic = at_start object.initial;
  calls_in_version = λ v. 0;
  acts = [];
}

-- two processes, with states of one word, invocations of two and replies of one: S, two announcements, two arguments of
-- two words, and four buffers of five words
abbrev sample_sizes : Sizes
sample_sizes = record { processes = 2; state = 1; invocation = 2; reply = 1 }

sample_count : words_of sample_sizes ≡ 27
sample_count = refl

sample_last : buffer_word sample_sizes 3 4 ≡ 26
sample_last = refl

sample_argument : argument_word sample_sizes 1 1 ≡ 6
sample_argument = refl

-- the greatest table
most_words : words_of (record { processes = 64; state = 65536; invocation = 65536; reply = 65536 }) ≡ 549462081
most_words = refl

sample_version : version_in (current_word 7 3) ≡ 7
sample_version = refl

sample_buffer : buffer_in (current_word 7 3) ≡ 3
sample_buffer = refl
