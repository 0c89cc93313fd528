-- What a consensus object ends as, once the borrow of what is settled has ended.
use Rattle.std.specs.Prelude.{◌≡◌, Option, ⊤}
use Rattle.std.specs.Borrow.{Fml, MutBor, RattleType, follows_so}
use mathlib.Core.Option.{none}
use Rattle.consensus_cell.specs.contracts.consensus.Settle.{the_row}

-- it has this value settled
abbrev pub EndsAs : (T : RattleType) → MutBor (Option T.Denot) → Option T.Denot → Fml
EndsAs T settle value = follows_so (the_row T) (the_row T) settle.ghost_name none (λ _ _. ⊤) (λ last. last ≡ value)
