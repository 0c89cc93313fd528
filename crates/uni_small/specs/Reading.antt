-- The state in the words of a closed table. What a read tells is `IsVersion` and `IsAnswerAt`, in Final.
use Rattle.std.specs.Prelude.{◌≡◌, ℕ, ◌<◌, List, length, slice_index}
use Rattle.uni_small.specs.Board.{buffer_in, buffer_word}
use Rattle.uni_small.specs.Image.{state_place}
use Rattle.uni_small.specs.declared.sizes.Sizes.{Sizes}

-- the state in the buffer that the word S names
pub record IsStateIn (sizes : Sizes) (words state : List ℕ) : Type 0 where
  pub long : length state ≡ sizes.state
  pub each : (i : ℕ) → i < sizes.state
      → slice_index state i ≡ slice_index words (buffer_word sizes (buffer_in (slice_index words 0)) (state_place sizes i))
