-- An execution goes on in the same way where the place of a process that takes no step is another one.
use Rattle.uni_small.proofs.Vocabulary.{List, Sequential, Sizes, ap, refl, set-get_or, set_at_elsewhere, slice_index, slice_set, subst, sym, ℕ, if◌then◌else◌, ◌++◌, ◌==◌, ◌∙◌, ◌≡◌, ◌≢◌}
use Rattle.uni_model.specs.Executions.Execution.{Ends, Takes}
use Rattle.uni_small.specs.Execution.{Access, Execution, Moment, access_of, after_access, last_moment}
use Rattle.uni_small.specs.Execution.Next.{Reply}
use Rattle.uni_small.specs.Resting.{AreAlikeBut, LeavesNoTrace, Rests}
use Rattle.uni_small.proofs.Running.{IsStepTo}

module _ (object : Sequential (List ℕ) (List ℕ) (List ℕ)) (sizes : Sizes) (p : ℕ) where
  goes_alike : {m m' : Moment} → m'.words ≡ m.words → ((q : ℕ) → q ≢ p → m'.local q ≡ m.local q) → (e : Execution object sizes m) → Rests object sizes p e
      → (e' : Execution object sizes m') × AreAlikeBut object sizes p e e'
  goes_alike words others Ends rests = (Ends, record { acts = refl; words = words; others = others; rests = tt; own = refl })
  goes_alike {m = m} {m' = m'} words others (Takes q inside next rest) rests =
      let a : Access = access_of object sizes q (m.local q) next in
      let found : ℕ = slice_index m.words a.word in
      let here : IsStepTo object sizes q m.words a.word (a.becomes found) (a.leaves found) (a.acts found) (m'.local q)
      = subst (IsStepTo object sizes q m.words a.word (a.becomes found) (a.leaves found) (a.acts found)) (sym (others q rests.0)) (next, refl, refl, refl, refl) in
      let a' : Access = access_of object sizes q (m'.local q) here.0 in
      let same : slice_index m'.words a'.word ≡ found = (λ k. slice_index (words k) (here.1 k)) in
      let becomes : a'.becomes (slice_index m'.words a'.word) ≡ a.becomes found = ap a'.becomes same ∙ here.2 in
      let leaves : a'.leaves (slice_index m'.words a'.word) ≡ a.leaves found = ap a'.leaves same ∙ here.3 in
      let words' : slice_set m'.words a'.word (a'.becomes (slice_index m'.words a'.word)) ≡ slice_set m.words a.word (a.becomes found)
      = (λ k. slice_set (words k) (here.1 k) (becomes k)) in
      let further = goes_alike {m = after_access object sizes m q a} {m' = after_access object sizes m' q a'} words'
      (λ r apart. (λ k. if r == q then leaves k else others r apart k)) rest rests.1 in (
        Takes q inside here.0 further.0,
        record {
          acts = (λ k. (ap a'.acts same ∙ here.4) k ++ further.1.acts k);
          words = further.1.words;
          others = further.1.others;
          rests = (rests.0, further.1.rests);
          own = further.1.own ∙ set_at_elsewhere m'.local q (a'.leaves (slice_index m'.words a'.word)) p (λ at. rests.0 (sym at));
        },
      )

pub leaves_no_trace : (object : Sequential (List ℕ) (List ℕ) (List ℕ)) (sizes : Sizes) {m : Moment} (e : Execution object sizes m) → LeavesNoTrace object sizes e
leaves_no_trace object sizes e p s loaded at last more rests =
    let m : Moment = last_moment object sizes e in
    let a : Access = access_of object sizes p (m.local p) (Reply s loaded at last) in
    goes_alike object sizes p {m = after_access object sizes m p a} {m' = m} (sym (set-get_or m.words a.word 0))
    (λ q apart. sym (set_at_elsewhere m.local p (a.leaves (slice_index m.words a.word)) q apart)) more rests
