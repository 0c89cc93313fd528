-- One event.
use Rattle.run_graph.proofs.Vocabulary.{Anchor, Call, Event, IsAccepted, None, Plan, Sequential, Some, WorldOf, arith, calls_in_era, moved, nat_lt, nat_tests, new_of, refl, sym, true, world_after, ℕ, ◌<◌, ◌∙◌, ◌≡◌}
use Rattle.uni_model.specs.Growth.{EndsNoEra}
use Rattle.uni_model.specs.Invariant.{Invariant}
use Rattle.uni_model.proofs.Kept.{Grows-world_after}

-- the anchor keeps what is settled in it
pub anchor_stays : {S I R : Type 0} (object : Sequential S I R) (w : WorldOf S I R) (e : Event I) → Invariant object w → IsAccepted w e → EndsNoEra e
    → new_of (world_after object w e).memory Anchor ≡ new_of w.memory Anchor
anchor_stays object w e is accepted same_era =
    let anchor = is.2.values.anchor in
    (Grows-world_after object w e is accepted same_era).new Anchor (anchor.0, None) anchor.1 ∙ sym anchor.1

is_lt : (a b : ℕ) → a < b → nat_lt a b ≡ true
is_lt a b below = grind (arith, nat_tests)

-- the next call
pub moved-call : {S I R : Type 0} (plan : Plan S I R) (w : WorldOf S I R) (p : ℕ) (i : I) → p < w.n → w.call p ≡ None → calls_in_era w p < plan.row → plan.call p (w.begun p) ≡ Some i
    → moved plan p w ≡ Some (world_after plan.object w (Call p i))
moved-call plan w p i inside idle room next = rw (is_lt p w.n inside, idle, is_lt (calls_in_era w p) plan.row room, next) refl
