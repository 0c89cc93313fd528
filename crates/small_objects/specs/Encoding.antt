-- An object whose states, invocations and replies are stored in words.
use Rattle.std.specs.Prelude.{◌≡◌, ℕ, List, [], ◌∷◌, length, map, slice_index}
use Rattle.std.proofs.Common.{subst}
use Rattle.seq_object.specs.Sequential.{Sequential}
use Rattle.seq_object.specs.History.{state_after}
use Rattle.uni_small.specs.Image.{IsSteady, Meaning}

-- a state that some calls lead to, of those that words are
abbrev pub IsStateOf : {S I R : Type 0} → Sequential S I R → (call_in : List ℕ → I) → S → Type 0
IsStateOf plain call_in state = (is : List (List ℕ)) × (state_after plain plain.initial (map call_in is) ≡ state)

-- what is so of the start state, and stays so in each call, is so of each state that calls lead to
pub kept_by_calls : {S I R : Type 0} (plain : Sequential S I R) (call_in : List ℕ → I) (Holds : S → Type 0) → Holds plain.initial
    → ((state : S) (words : List ℕ) → Holds state → Holds (plain.next state (call_in words)))
    → (state : S) → IsStateOf plain call_in state → Holds state
kept_by_calls {S = S} plain call_in Holds start keeps state was = subst Holds was.1 (along plain.initial was.0 start) where
  along : (state : S) (is : List (List ℕ)) → Holds state → Holds (state_after plain state (map call_in is))
  along state [] is_so = is_so
  along state (i ∷ is) is_so = along (plain.next state (call_in i)) is (keeps state i is_so)

module _ {S I R : Type 0} (plain : Sequential S I R) (encode : S → List ℕ) (decode : List ℕ → S) where
  -- the object on the words of its states
  abbrev pub encoded : Sequential (List ℕ) I R
  encoded = record {
    initial = encode plain.initial;
    next = λ words inv. encode (plain.next (decode words) inv);
    answer = λ words inv. plain.answer (decode words) inv;
  }

  -- each state that calls lead to is read back as it was written
  abbrev pub Fits : (call_in : List ℕ → I) → Type 0
  Fits call_in = (state : S) → IsStateOf plain call_in state → decode (encode state) ≡ state

-- the object whose invocations are those in words, and whose replies are spelled in words
abbrev pub in_words : {S I R : Type 0} → Sequential S I R → (call_in : List ℕ → I) → (spell : R → List ℕ) → Sequential S (List ℕ) (List ℕ)
in_words object call_in spell = record {
  initial = object.initial;
  next = λ state inv. object.next state (call_in inv);
  answer = λ state inv. spell (object.answer state (call_in inv));
}

-- an invocation, and a reply, of one word
abbrev pub first_word : List ℕ → ℕ
first_word words = slice_index words 0

abbrev pub one_word : ℕ → List ℕ
one_word word = word ∷ []

-- an object on words whose invocations and replies are one word each
abbrev pub of_one_word : Sequential (List ℕ) ℕ ℕ → Meaning
of_one_word object = record { object = in_words object first_word one_word; invocation = 1; reply = 1 }

-- an object on words is steady where all next states have as many words, and all replies
pub steady_in_words : {I R : Type 0} (object : Sequential (List ℕ) I R) (call_in : List ℕ → I) (spell : R → List ℕ) (wide : ℕ)
    → ((state : List ℕ) (inv : I) → length state ≡ length object.initial → length (object.next state inv) ≡ length object.initial)
    → ((reply : R) → length (spell reply) ≡ wide) → IsSteady (in_words object call_in spell) wide
steady_in_words object call_in spell wide states replies state inv long =
    (states state (call_in inv) long, replies (object.answer state (call_in inv)))
