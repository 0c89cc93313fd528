-- The words of an object's calls and replies.
use Rattle.std.specs.Prelude.{ℕ, List, Option}

pub record Wording (I R : Type 0) : Type 0 where
  -- the invocation that words are
  pub inv_of_words : List (List ℕ) → Option I
  -- the response that words are
  pub resp_of_words : List (List ℕ) → Option R
  -- the texts of an invocation and of a response
  pub inv_text : I → List ℕ
  pub resp_text : R → List ℕ
