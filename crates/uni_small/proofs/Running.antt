-- An execution goes on by one step.
use Rattle.uni_small.proofs.Vocabulary.{Act, Board, List, Local, Sequential, Sizes, ap, append-nil, if◌then◌else◌, set_at, slice_index, slice_set, subst, sym, ℕ, ◌++◌, ◌<◌, ◌==◌, ◌∙◌, ◌≡◌}
use Rattle.uni_model.proofs.Executions.{all_acts-goes_on, last-goes_on}
use Rattle.uni_model.specs.Executions.Execution.{Ends, Takes}
use Rattle.uni_small.specs.Execution.{Access, CanTake, Execution, Moment, Next, access_of, acts_of, after, after_access, goes_on, last_moment}
use Rattle.uni_small.specs.Ran.{GoesOn}

-- a step of process p at this place, by what it does where it finds the number there
abbrev pub IsStepTo : (object : Sequential (List ℕ) (List ℕ) (List ℕ)) (sizes : Sizes) (p : ℕ) (words : List ℕ) (j x : ℕ) (l' : Local) (acts : List (Act (List ℕ) (List ℕ))) → Local → Type 0
IsStepTo object sizes p words j x l' acts l =
    (next : Next object sizes p l) × ((access_of object sizes p l next).word ≡ j) × ((access_of object sizes p l next).becomes (slice_index words j) ≡ x)
    × ((access_of object sizes p l next).leaves (slice_index words j) ≡ l') × ((access_of object sizes p l next).acts (slice_index words j) ≡ acts)

pub runs_on : (object : Sequential (List ℕ) (List ℕ) (List ℕ)) (sizes : Sizes) (g g' : Board) (local : ℕ → Local) (words : List ℕ)
    → (p : ℕ) → p < sizes.processes → (l : Local) → local p ≡ l → (j x : ℕ) (l' : Local) (acts : List (Act (List ℕ) (List ℕ)))
    → IsStepTo object sizes p words j x l' acts l → g'.acts ≡ g.acts ++ acts → GoesOn object sizes p g local words g' (set_at local p l') (slice_set words j x)
runs_on object sizes g g' local words p inside l at j x l' acts steps appended = λ e leads.
    let m : Moment = last_moment object sizes e in
    let here : IsStepTo object sizes p words j x l' acts (m.local p) = subst (λ k. IsStepTo object sizes p words j x l' acts k) (sym (leads.locals_are p inside ∙ at)) steps in
    let a : Access = access_of object sizes p (m.local p) here.0 in
    let one : Execution object sizes m = Takes p inside here.0 Ends in
    let found : slice_index m.words a.word ≡ slice_index words j = (λ k. slice_index (leads.words_are k) (here.1 k)) in
    let last : last_moment object sizes (goes_on object sizes e one) ≡ after_access object sizes m p a = last-goes_on sizes.processes (CanTake object sizes) (after object sizes) e one in
    let leaves : a.leaves (slice_index m.words a.word) ≡ l' = ap a.leaves found ∙ here.3 in (
      inside,
      (
        here.0,
        record {
          words_are = ap (λ (z : Moment). z.words) last ∙ (λ k. slice_set (leads.words_are k) (here.1 k) (a.becomes (found k))) ∙ ap (slice_set words j) here.2;
          locals_are = λ q within. ap (λ (z : Moment). z.local q) last ∙ (λ k. if q == p then leaves k else leads.locals_are q within k);
          acts_are = all_acts-goes_on sizes.processes (CanTake object sizes) (after object sizes) (acts_of object sizes) e one
              ∙ (λ k. leads.acts_are k ++ append-nil (a.acts (slice_index m.words a.word)) k) ∙ ap (λ l. g.acts ++ l) (ap a.acts found ∙ here.4) ∙ sym appended;
        },
      ),
    )
