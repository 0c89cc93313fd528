-- What a buffer contains: for each process how many of its calls are in and the reply to the last one of them, and the
-- state.
use Rattle.std.specs.Prelude.{◌≡◌, ℕ, zero, suc, ◌+◌, ◌*◌, ◌<◌, List, [], ◌∷◌, ◌++◌, Option, None, Some, take, drop}
use Rattle.std.specs.Prelude.{replicate}
use Rattle.std.specs.Prelude.{length, refl, slice_get, slice_index, slice_index_or, slice_set}
use Rattle.seq_object.specs.Sequential.{Sequential}
use Rattle.seq_object.specs.History.{state_after}
use Rattle.uni_model.specs.AtomicObject.{Invoked}
use Rattle.uni_small.specs.declared.sizes.Sizes.{Sizes}

-- what an object of words means, and how many words an invocation and a reply have
pub record Meaning : Type 0 where
  pub object : Sequential (List ℕ) (List ℕ) (List ℕ)
  pub invocation : ℕ
  pub reply : ℕ

-- they have as many as the sizes say
abbrev pub AreWidths : Meaning → Sizes → Type 0
AreWidths meaning sizes = (meaning.invocation ≡ sizes.invocation) × (meaning.reply ≡ sizes.reply)

pub record Image : Type 0 where
  pub applied : List ℕ
  pub reply : List (List ℕ)
  pub state : List ℕ

-- the words of rows, one row after another
abbrev pub joined : List (List ℕ) → List ℕ
joined [] = []
joined (row ∷ rows) = row ++ joined rows

-- the first words as so many rows, each of so many words
abbrev pub rows : (count wide : ℕ) → List ℕ → List (List ℕ)
rows zero wide words = []
rows (suc count) wide words = take wide words ∷ rows count wide (drop wide words)

-- the words of a buffer, in order
abbrev pub spell : Image → List ℕ
spell image = image.applied ++ (joined image.reply ++ image.state)

-- what the words of a buffer mean
abbrev pub read_image : Sizes → List ℕ → Image
read_image sizes words = record {
  applied = take sizes.processes words;
  reply = rows sizes.processes sizes.reply (drop sizes.processes words);
  state = drop (sizes.processes * sizes.reply) (drop sizes.processes words);
}

-- how many words a buffer has; where in it a word of a process's reply is, and a word of the state
abbrev pub buffer_words : Sizes → ℕ
buffer_words sizes = sizes.processes + sizes.processes * sizes.reply + sizes.state

abbrev pub reply_place : Sizes → (r k : ℕ) → ℕ
reply_place sizes r k = sizes.processes + (r * sizes.reply + k)

abbrev pub state_place : Sizes → (i : ℕ) → ℕ
state_place sizes i = sizes.processes + (sizes.processes * sizes.reply + i)

-- where among the words of a process's two buffers, one after the other, word i of the first or second one is: `which`
-- is 0 or 1
abbrev pub held_place : Sizes → (which i : ℕ) → ℕ
held_place sizes which i = which * buffer_words sizes + i

-- the words with these in place of those from one place on
abbrev pub with_row : List ℕ → (from : ℕ) → List ℕ → List ℕ
with_row words from [] = words
with_row words from (x ∷ row) = with_row (slice_set words from x) (from + 1) row

-- the reply to the last call of process r that is in
abbrev pub reply_of : Image → (r : ℕ) → List ℕ
reply_of image r = slice_index_or image.reply r []

-- the lengths of an image
pub record HasRows (sizes : Sizes) (image : Image) : Type 0 where
  pub applied : length image.applied ≡ sizes.processes
  pub reply : length image.reply ≡ sizes.processes
  pub replies : (r : ℕ) → r < sizes.processes → length (reply_of image r) ≡ sizes.reply
  pub state : length image.state ≡ sizes.state

-- a state that some calls lead to
abbrev pub IsReached : Sequential (List ℕ) (List ℕ) (List ℕ) → List ℕ → Type 0
IsReached object state = (is : List (List ℕ)) × (state_after object object.initial is ≡ state)

-- where a state has as many words as the start state, so has the next one, and a reply has so many words
abbrev pub IsSteady : Sequential (List ℕ) (List ℕ) (List ℕ) → (reply : ℕ) → Type 0
IsSteady object reply = (state inv : List ℕ) → length state ≡ length object.initial
    → (length (object.next state inv) ≡ length object.initial) × (length (object.answer state inv) ≡ reply)

-- what a scan saw of process r: 1 where it saw a call that is to be applied
abbrev pub due_at : List (Option (List ℕ)) → (r : ℕ) → ℕ
due_at [] r = 0
due_at (None ∷ seen) zero = 0
due_at (Some inv ∷ seen) zero = 1
due_at (x ∷ seen) (suc r) = due_at seen r

-- each invocation that a scan saw has all its words
abbrev pub AreWhole : Sizes → List (Option (List ℕ)) → Type 0
AreWhole sizes seen = (r : ℕ) (inv : List ℕ) → slice_get seen r ≡ Some (Some inv) → length inv ≡ sizes.invocation

-- the calls that a scan saw from process r on, each with its number
abbrev pub calls_seen : (applied : List ℕ) → (r : ℕ) → List (Option (List ℕ)) → List (Invoked (List ℕ))
calls_seen applied r [] = []
calls_seen applied r (None ∷ seen) = calls_seen applied (r + 1) seen
calls_seen applied r (Some inv ∷ seen) =
    record { process = r; nth = slice_index applied r; inv = inv } ∷ calls_seen applied (r + 1) seen

module _ (object : Sequential (List ℕ) (List ℕ) (List ℕ)) where
  -- a call of process r is applied
  abbrev pub taken_in : Image → (r : ℕ) → (inv : List ℕ) → Image
  taken_in image r inv = record {
    applied = slice_set image.applied r (slice_index image.applied r + 1);
    reply = slice_set image.reply r (object.answer image.state inv);
    state = object.next image.state inv;
  }

  abbrev pub first_image : Sizes → Image
  first_image sizes = record {
    applied = replicate sizes.processes 0;
    reply = replicate sizes.processes (replicate sizes.reply 0);
    state = object.initial;
  }

  -- the words of both buffers of a process at the start
  abbrev pub first_held : Sizes → List ℕ
  first_held sizes = spell (first_image sizes) ++ spell (first_image sizes)

  -- these calls are applied, the first of them first
  abbrev pub image_from : Image → List (Invoked (List ℕ)) → Image
  image_from image [] = image
  image_from image (c ∷ cs) = image_from (taken_in image c.process c.inv) cs

  -- the calls that a scan saw from process r on are applied
  abbrev pub with_seen : Image → (r : ℕ) → List (Option (List ℕ)) → Image
  with_seen image r [] = image
  with_seen image r (None ∷ seen) = with_seen image (r + 1) seen
  with_seen image r (Some inv ∷ seen) = with_seen (taken_in image r inv) (r + 1) seen

-- two processes, of which the first has one call in, with a state of one word, and replies of two
abbrev sample_sizes : Sizes
sample_sizes = record { processes = 2; state = 1; invocation = 1; reply = 2 }

abbrev sample : Image
sample = record { applied = 1 ∷ 0 ∷ []; reply = (5 ∷ 6 ∷ []) ∷ (0 ∷ 0 ∷ []) ∷ []; state = 9 ∷ [] }

sample_spelled : spell sample ≡ 1 ∷ 0 ∷ 5 ∷ 6 ∷ 0 ∷ 0 ∷ 9 ∷ []
sample_spelled = refl

sample_read : read_image sample_sizes (1 ∷ 0 ∷ 5 ∷ 6 ∷ 0 ∷ 0 ∷ 9 ∷ []) ≡ sample
sample_read = refl

sample_reply : slice_index (spell sample) (reply_place sample_sizes 0 1) ≡ 6
sample_reply = refl

sample_state : slice_index (spell sample) (state_place sample_sizes 0) ≡ 9
sample_state = refl

-- a buffer has seven words, so the state of the second one is word 13 of both; and a row of two words is put into four
sample_held : held_place sample_sizes 1 (state_place sample_sizes 0) ≡ 13
sample_held = refl

sample_row : with_row (1 ∷ 2 ∷ 3 ∷ 4 ∷ []) 1 (7 ∷ 8 ∷ []) ≡ 1 ∷ 7 ∷ 8 ∷ 4 ∷ []
sample_row = refl

-- a scan sees a call of the second process, its first one
sample_seen : calls_seen sample.applied 0 (None ∷ Some (7 ∷ []) ∷ []) ≡ record { process = 1; nth = 0; inv = 7 ∷ [] } ∷ []
sample_seen = refl

sample_due : due_at (None ∷ Some (7 ∷ []) ∷ []) 1 ≡ 1
sample_due = refl

-- a counter of one word, with invocations and replies of one word
abbrev pub sample_counter : Sequential (List ℕ) (List ℕ) (List ℕ)
sample_counter = record {
  initial = 0 ∷ [];
  next = λ state inv. (slice_index state 0 + slice_index inv 0) ∷ [];
  answer = λ state inv. slice_index state 0 ∷ [];
}

abbrev pub counter_sizes : (processes : ℕ) → Sizes
counter_sizes processes = record { processes = processes; state = 1; invocation = 1; reply = 1 }

-- a batch of three: each call is answered the sum before it
sample_batch : with_seen sample_counter (first_image sample_counter (counter_sizes 3)) 0 (Some (5 ∷ []) ∷ Some (3 ∷ []) ∷ Some (1 ∷ []) ∷ [])
    ≡ record { applied = 1 ∷ 1 ∷ 1 ∷ []; reply = (0 ∷ []) ∷ (5 ∷ []) ∷ (8 ∷ []) ∷ []; state = 9 ∷ [] }
sample_batch = refl
