-- What a closed object tells of the word steps that were taken.
use Rattle.std.specs.Prelude.{◌≡◌, ℕ, List}
use Rattle.seq_object.specs.Sequential.{Sequential}
use Rattle.uni_small.specs.View.{ProcessReturned}
use Rattle.uni_small.specs.Execution.{Execution, all_acts, opened_moment}
use Rattle.uni_small.specs.Final.{HasHistory}
use Rattle.uni_small.specs.declared.sizes.Sizes.{Sizes}

-- The history of which a closed object tells is made by the word steps of an execution from the opening, in their
-- order.
abbrev pub HasRunTo : Sequential (List ℕ) (List ℕ) (List ℕ) → Sizes → (known : List ProcessReturned) → (words : List ℕ)
    → Type 0
HasRunTo object sizes known words =
    (final : HasHistory object sizes.processes known words) × (e : Execution object sizes (opened_moment object sizes))
    × (all_acts object sizes e ≡ final.acts)
