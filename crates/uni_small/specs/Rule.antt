-- The rule of the table, by what the table is told.
use Rattle.atomic_table.specs.Table.{State}
use Rattle.uni_small.specs.Image.{Meaning}
use Rattle.uni_small.specs.Shown.{ShowsBoard}
use Rattle.uni_small.specs.declared.seat.Seen.{Seen}
use Rattle.uni_small.specs.declared.view.View.{View}
use Rattle.uni_small.specs.declared.rule.Setup.{Setup}

-- of an object that means so much
abbrev pub Rule : {O : Type 0} → (meaning : O → Meaning) → Setup O → State Seen (View O) → Type 0
Rule meaning key = ShowsBoard meaning key.object key.sizes
