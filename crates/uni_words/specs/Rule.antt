-- The rule of the table, by what the table is told.
use Rattle.std.specs.Prelude.{ℕ}
use Rattle.atomic_table.specs.Table.{State}
use Rattle.seq_object.specs.Sequential.{Sequential}
use Rattle.uni_words.specs.Ran.{ShowsRun}
use Rattle.uni_words.specs.declared.view.View.{View}
use Rattle.uni_words.specs.declared.rule.Setup.{Setup}

-- of an object that means so much
abbrev pub Rule : {O : Type 0} → (meaning : O → Sequential ℕ ℕ ℕ) → Setup O → State ℕ View → Type 0
Rule meaning key = ShowsRun (meaning key.object) key.n key.k
