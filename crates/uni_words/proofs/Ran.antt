-- An execution goes on: by one step of a seat, or by what becomes of seats between two calls.
use Rattle.std.proofs.Common.{List, ap, append-nil, append_assoc, refl, subst, sym, ℕ, ◌++◌, ◌∙◌, ◌≡◌}
use Rattle.atomic_table.specs.Table.{State}
use Rattle.seq_object.specs.Sequential.{Sequential}
use Rattle.uni_model.specs.Worlds.{Event}
use Rattle.uni_words.specs.Execution.{Execution, Next, access_of, after_access, events, goes_on, last_state, opened_table}
use Rattle.uni_words.specs.Execution.Execution.{Ends, Takes, Splits, Joins}
use Rattle.uni_words.specs.Laws.{HasSeat}
use Rattle.uni_words.specs.Ran.{HasRun}
use Rattle.uni_words.specs.View.{Known}
use Rattle.uni_words.specs.Words.{word_of}
use Rattle.uni_words.specs.declared.view.View.{View}
use Rattle.std.specs.Prelude.{Some}

module _ (object : Sequential ℕ ℕ ℕ) (n row : ℕ) where
  -- the events of an execution that goes on, and where it leads
  pub events_more : {s : State ℕ View} (e : Execution object n row s) (more : Execution object n row (last_state object n row e))
      → events object n row (goes_on object n row e more) ≡ events object n row e ++ events object n row more
  events_more Ends more = refl
  events_more (Takes id v seat next word at rest) more =
      let a = (access_of object n row v next).events in
      ap (λ l. a ++ l) (events_more rest more) ∙ sym (append_assoc a (events object n row rest) (events object n row more))
  events_more (Splits id v at some_left rest) more = events_more rest more
  events_more (Joins id v other x at at_other apart some_left idle single its_idle rest) more = events_more rest more

  last_more : {s : State ℕ View} (e : Execution object n row s) (more : Execution object n row (last_state object n row e))
      → last_state object n row (goes_on object n row e more) ≡ last_state object n row more
  last_more Ends more = refl
  last_more (Takes id v seat next word at rest) more = last_more rest more
  last_more (Splits id v at some_left rest) more = last_more rest more
  last_more (Joins id v other x at at_other apart some_left idle single its_idle rest) more = last_more rest more

  -- from one table to another one there is an execution with these events
  abbrev pub GoesTo : State ℕ View → List (Event ℕ) → State ℕ View → Type 0
  GoesTo s made s' = (e : Execution object n row s) × (last_state object n row e ≡ s') × (events object n row e ≡ made)

  goes_from : (e : Execution object n row (opened_table object n row)) (more : List (Event ℕ)) (s' : State ℕ View)
      → GoesTo (last_state object n row e) more s' → HasRun object n row s' (events object n row e ++ more)
  goes_from e more s' on =
      (goes_on object n row e on.0, last_more e on.0 ∙ on.1, events_more e on.0 ∙ ap (λ l. events object n row e ++ l) on.2)

  pub runs_on : (s s' : State ℕ View) (made more : List (Event ℕ)) → HasRun object n row s made → GoesTo s more s'
      → HasRun object n row s' (made ++ more)
  runs_on s s' made more run on =
      subst (λ l. HasRun object n row s' (l ++ more)) run.2
      (goes_from run.0 more s' (subst (λ t. GoesTo t more s') (sym run.1) on))

  pub one_step : (s : State ℕ View) (id : ℕ) (v : Known) → HasSeat s id v → (next : Next object n row v) (i : ℕ)
      → word_of n row (access_of object n row v next).place ≡ Some i
      → GoesTo s (access_of object n row v next).events (after_access object n row s id i (access_of object n row v next))
  one_step s id v seat next i word = (Takes id v seat next i word Ends, refl, append-nil (access_of object n row v next).events)
