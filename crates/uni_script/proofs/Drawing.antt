-- The events of a schedule, drawn one after the other.
use Rattle.uni_script.proofs.Vocabulary.{List, ap, append-nil, append_assoc, arith, event_line, event_lines, suc, sym, words_of_event, words_of_events, ℕ, ◌++◌, ◌+◌, ◌-◌, ◌<◌, ◌∙◌, ◌≡◌, ◌≤◌}
use Rattle.ready_objects.specs.Spoken.{Language}

-- k of m events are drawn, and their lines written after a text: what is left are those from word number `at` on
pub record IsDrawn {I R : Type 0} (l : Language I R) (n : ℕ) (word : ℕ → ℕ) (old : List ℕ) (m k : ℕ) (now : List ℕ) (next : ℕ → ℕ) : Type 0 where
  pub at : ℕ
  pub text : now ++ event_lines l n word at (m - k) ≡ old ++ event_lines l n word 0 m
  pub drawn : words_of_events word at (m - k) ≡ words_of_events word 0 m
  pub rest : (i : ℕ) → next i ≡ word (at + i)

module _ {I R : Type 0} (l : Language I R) (n : ℕ) (word : ℕ → ℕ) (old : List ℕ) (m : ℕ) where
  pub IsDrawn-start : IsDrawn l n word old m 0 old word
  IsDrawn-start = let all : m - 0 ≡ m = omega arith in record {
    at = 0;
    text = ap (λ k. old ++ event_lines l n word 0 k) all;
    drawn = ap (λ k. words_of_events word 0 k) all;
    rest = λ i. ap word (let e : i ≡ 0 + i = omega arith in e);
  }

  pub IsDrawn-event : (k : ℕ) (now new : List ℕ) (next after : ℕ → ℕ) → k < m → IsDrawn l n word old m k now next
      → new ≡ now ++ event_line l n (next 0) (next 1) → ((i : ℕ) → after i ≡ next (words_of_event (next 0) + i)) → IsDrawn l n word old m (k + 1) new after
  IsDrawn-event k now new next after inside is line moved =
      let left : m - k ≡ suc (m - (k + 1)) = omega arith in
      let here : next 0 ≡ word is.at = is.rest 0 ∙ ap word (let e : is.at + 0 ≡ is.at = omega arith in e) in
      let further : next 1 ≡ word (is.at + 1) = is.rest 1 in
      let rest = event_lines l n word (is.at + words_of_event (word is.at)) (m - (k + 1)) in record {
        at = is.at + words_of_event (word is.at);
        text =
            ap (λ t. t ++ rest) (line ∙ ap (λ w. now ++ event_line l n w (next 1)) here ∙ ap (λ v. now ++ event_line l n (word is.at) v) further)
            ∙ append_assoc now (event_line l n (word is.at) (word (is.at + 1))) rest
            ∙ ap (λ j. now ++ event_lines l n word is.at j) (sym left) ∙ is.text;
        drawn = ap (λ j. words_of_events word is.at j) (sym left) ∙ is.drawn;
        rest = λ i.
            moved i ∙ ap (λ w. next (words_of_event w + i)) here ∙ is.rest (words_of_event (word is.at) + i)
            ∙ ap word (let e : is.at + (words_of_event (word is.at) + i) ≡ is.at + words_of_event (word is.at) + i = omega arith in e);
      }

  module _ (k : ℕ) (now : List ℕ) (next : ℕ → ℕ) (last : m ≤ k) (is : IsDrawn l n word old m k now next) where
    none_left : m - k ≡ 0
    none_left = omega arith

    pub IsDrawn-text : now ≡ old ++ event_lines l n word 0 m
    IsDrawn-text = sym (append-nil now) ∙ ap (λ j. now ++ event_lines l n word is.at j) (sym none_left) ∙ is.text

    pub IsDrawn-drawn : (i : ℕ) → next i ≡ word (words_of_events word 0 m + i)
    IsDrawn-drawn i = is.rest i ∙ ap (λ j. word (j + i)) (ap (λ j. words_of_events word is.at j) (sym none_left) ∙ is.drawn)
