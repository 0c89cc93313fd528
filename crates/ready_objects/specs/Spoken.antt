-- The words of an object's invocations, and the texts of its responses.
use Rattle.std.specs.Prelude.{ℕ, List, Option}

pub record Language (I R : Type 0) : Type 0 where
  -- the words of an invocation
  pub inv_words : I → List (List ℕ)
  -- the invocation that words are, where they are one
  pub inv_of_words : List (List ℕ) → Option I
  -- the text of a response
  pub resp_text : R → List ℕ
  -- the invocation that a drawn word stands for
  pub inv_of_word : ℕ → I
