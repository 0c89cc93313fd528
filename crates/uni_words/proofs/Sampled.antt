-- An execution of two processes whose calls overlap, on a sum of one word.
use Rattle.uni_words.proofs.Vocabulary.{Anchor, Invoke, Of, Respond, [], arith, either, eqb, opened, refl, ◌+◌, ◌∷◌, ◌≡◌}
use Rattle.uni_model.specs.Linearizable.{observed_in}
use Rattle.uni_words.specs.Execution.{Execution, events, opened_table, steps_of_call}
use Rattle.uni_words.specs.Execution.Next.{Begin, Move, LookInv, LookNew, Decide, LoadEnd}
use Rattle.uni_words.specs.Execution.Execution.{Ends, Takes, Splits}
use Rattle.uni_words.specs.Objects.{tally}
use Rattle.uni_words.proofs.Allowed.{link_decided}

-- Process 0 begins to add 5 and is announced, and takes no step for a while. Process 1, whose seat is the first one, adds 3: it is its turn, so it
-- links its own call, and returns.
two_calls : Execution tally 2 1 (opened_table tally 2 1)
two_calls =
    Splits 0 _ refl (omega arith) (
    Takes 1 _ (refl, refl) (Begin 5 (omega arith) refl (omega arith)) _ refl (
    Takes 1 _ (refl, refl) (Move _ (λ found. 1) refl tt (λ found others. refl)) _ refl (
    Takes 0 _ (refl, refl) (Begin 3 (omega arith) refl (omega arith)) _ refl (
    Takes 0 _ (refl, refl) (Move _ (λ found. 2) refl tt (λ found others. refl)) _ refl (
    Takes 0 _ (refl, refl) (Move _ (λ found. found) refl tt (λ found others. refl)) _ refl (
    Takes 0 _ (refl, refl) (Move _ (λ found. found) refl tt (λ found others. refl)) _ refl (
    Takes 0 _ (refl, refl) (Move _ (λ found. found) refl tt (λ found others. refl)) _ refl (
    Takes 0 _ (refl, refl) (Move _ (λ found. found) refl tt (λ found others. refl)) _ refl (
    Takes 0 _ (refl, refl) (Move _ (λ found. 0) refl tt (λ found others. refl)) _ refl (
    Takes 0 _ (refl, refl) (Move _ (λ found. found) refl tt (λ found others. refl)) _ refl (
    Takes 0 _ (refl, refl) (Move _ (λ found. found) refl tt (λ found others. refl)) _ refl (
    Takes 0 _ (refl, refl) (Move _ (λ found. found) refl tt (λ found others. refl)) _ refl (
    Takes 0 _ (refl, refl) (Move _ (λ found. either (eqb found 0) (2 + 1) found) refl tt (λ found others. link_decided 2 2 found)) _ refl (
    Takes 0 _ (refl, refl) (LookInv (Of 1 0) Anchor (Of 1 0) 1 refl refl) _ refl (
    Takes 0 _ (refl, refl) (LookNew (Of 1 0) Anchor (Of 1 0) 1 3 refl refl) _ refl (
    Takes 0 _ (refl, refl) (Decide (Of 1 0) Anchor (Of 1 0) 1 3 0 refl refl) _ refl (
    Takes 0 _ (refl, refl) (Move _ (λ found. 1) refl tt (λ found others. refl)) _ refl (
    Takes 0 _ (refl, refl) (Move _ (λ found. 2) refl tt (λ found others. refl)) _ refl (
    Takes 0 _ (refl, refl) (Move _ (λ found. 2) refl tt (λ found others. refl)) _ refl (
    Takes 0 _ (refl, refl) (Move _ (λ found. found) refl tt (λ found others. refl)) _ refl (
    Takes 0 _ (refl, refl) (LoadEnd (Of 1 0) 2 2 refl (omega arith) refl) _ refl Ends)))))))))))))))))))))

-- the call of process 0 was invoked first, and is pending
sample_observed : observed_in tally (opened tally 2) (events tally 2 1 two_calls) ≡ Invoke 0 0 5 ∷ Invoke 1 0 3 ∷ Respond 1 0 0 ∷ []
unfolding two_calls
sample_observed = refl

-- one turn of process 1, in 19 of at most 39 steps
sample_steps : steps_of_call tally 2 1 1 0 two_calls ≡ 19
unfolding two_calls
sample_steps = refl

sample_steps_pending : steps_of_call tally 2 1 0 0 two_calls ≡ 2
unfolding two_calls
sample_steps_pending = refl

pub seen_them : Execution tally 2 1 (opened_table tally 2 1)
seen_them = two_calls
