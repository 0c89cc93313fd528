-- What a value ends as, once the borrow of a part of it has ended.
use Rattle.std.specs.Prelude.{⊤}
use Rattle.std.specs.Borrow.{Fml, MutBor, RattleType, follows_so}
use mathlib.Core.Option.{none}

-- it ends as one that P holds of
abbrev pub EndsSo : (T : RattleType) → MutBor T.Denot → (T.Denot → Type 0) → Fml
EndsSo T s P = follows_so T T s.ghost_name none (λ _ _. ⊤) P
