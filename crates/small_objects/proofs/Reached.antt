-- An object on the words of its states does what the plain one does.
use Rattle.small_objects.proofs.Vocabulary.{Fits, IsReached, IsStateOf, List, Sequential, [], ap, encoded, in_words, map, map-append, refl, state_after, state_after-append, sym, ℕ, ◌++◌, ◌∙◌, ◌∷◌, ◌≡◌}

module _ {I R : Type 0} (object : Sequential (List ℕ) I R) (call_in : List ℕ → I) (spell : R → List ℕ) where
  -- invocations in words lead where the invocations lead that they are
  pub after_in : (state : List ℕ) (is : List (List ℕ)) → state_after (in_words object call_in spell) state is ≡ state_after object state (map call_in is)
  after_in state [] = refl
  after_in state (i ∷ is) = after_in (object.next state (call_in i)) is

  pub reached_in : (words : List ℕ) → IsReached (in_words object call_in spell) words → IsStateOf object call_in words
  reached_in words was = (was.0, sym (after_in object.initial was.0) ∙ was.1)

module _ {S I R : Type 0} (plain : Sequential S I R) (call_in : List ℕ → I) where
  -- one more call leads to such a state again
  pub further : (state : S) → IsStateOf plain call_in state → (i : List ℕ) → IsStateOf plain call_in (plain.next state (call_in i))
  further state was i = (
    was.0 ++ i ∷ [],
    ap (state_after plain plain.initial) (map-append call_in was.0 (i ∷ [])) ∙ state_after-append plain plain.initial (map call_in was.0) (call_in i ∷ [])
        ∙ ap (λ s. plain.next s (call_in i)) was.1,
  )

  module _ (encode : S → List ℕ) (decode : List ℕ → S) (fits : Fits plain encode decode call_in) where
    from : (state : S) → IsStateOf plain call_in state → (is : List (List ℕ))
        → state_after (encoded plain encode decode) (encode state) (map call_in is) ≡ encode (state_after plain state (map call_in is))
    from state was [] = refl
    from state was (i ∷ is) =
        ap (λ s. state_after (encoded plain encode decode) (encode (plain.next s (call_in i))) (map call_in is)) (fits state was)
        ∙ from (plain.next state (call_in i)) (further state was i) is

    pub follows_plain : (is : List (List ℕ))
        → state_after (encoded plain encode decode) (encode plain.initial) (map call_in is) ≡ encode (state_after plain plain.initial (map call_in is))
    follows_plain is = from plain.initial ([], refl) is

    -- words that calls in words lead to are those of a state that calls lead to
    pub reached_is : (spell : R → List ℕ) (words : List ℕ)
        → IsReached (in_words (encoded plain encode decode) call_in spell) words
        → IsStateOf plain call_in (decode words) × (words ≡ encode (decode words))
    reached_is spell words reached =
        let was = reached_in (encoded plain encode decode) call_in spell words reached in
        let state = state_after plain plain.initial (map call_in was.0) in
        let is : words ≡ encode state = sym was.1 ∙ follows_plain was.0 in
        let read : decode words ≡ state = ap decode is ∙ fits state (was.0, refl) in
        ((was.0, sym read), is ∙ ap encode (sym read))

-- a state that calls lead to: the start state, and one that a further call leads to
pub reached_start : (object : Sequential (List ℕ) (List ℕ) (List ℕ)) (state : List ℕ) → state ≡ object.initial → IsReached object state
reached_start object state is = ([], sym is)

pub reached_further : (object : Sequential (List ℕ) (List ℕ) (List ℕ)) (state after inv : List ℕ) → IsReached object state → after ≡ object.next state inv
    → IsReached object after
reached_further object state after inv was is =
    (was.0 ++ inv ∷ [], state_after-append object object.initial was.0 (inv ∷ []) ∙ ap (λ s. object.next s inv) was.1 ∙ sym is)
