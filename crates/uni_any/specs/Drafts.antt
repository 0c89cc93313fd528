-- What an attempt has so far.
use Rattle.std.specs.Prelude.{ℕ, Option, None, Some, unwrap_or}
use Rattle.seq_object.specs.Sequential.{Sequential}
use Rattle.uni_any.specs.Content.{taken_in}
use Rattle.uni_any.specs.declared.view.Image.{Image}
use Rattle.uni_any.specs.declared.draft.Draft.{Draft}
use Rattle.uni_any.specs.declared.news.Block.{Block}

-- the state that it computed, or that of the version that it began with; and its rows
abbrev pub image_so_far : {S R : Type 0} → Draft S R → Block S R → Image S R
image_so_far draft base = record { state = unwrap_or draft.state base.state; rows = draft.rows.items }

-- a call that comes next is applied
abbrev pub one_applied : {S I R : Type 0} → Sequential S I R → Image S R → (r : ℕ) → Option I → Image S R
one_applied object image r None = image
one_applied object image r (Some inv) = taken_in object image r inv
