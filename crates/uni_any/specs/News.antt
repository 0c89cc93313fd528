-- What processes tell each other, as plain data.
use Rattle.std.specs.Prelude.{ℕ, ◌+◌, ◌==◌, if◌then◌else◌, nat_lt, List, [], ◌∷◌, Option, None, Some, replicate}
use Rattle.std.specs.Arc.{arc_value}
use Rattle.std.specs.declared.alloc.Global.{Global}
use Rattle.std.specs.declared.sync.Arc.{Arc}
use Rattle.seq_object.specs.Sequential.{Sequential}
use Rattle.uni_model.specs.AtomicObject.{Invoked}
use Rattle.uni_any.specs.Batch.{image_from}
use Rattle.uni_any.specs.Content.{applied_in, blank}
use Rattle.uni_any.specs.declared.view.Image.{Image}
use Rattle.uni_any.specs.declared.news.Block.{Block}
use Rattle.uni_any.specs.declared.news.News.{News}
use Rattle.uni_any.specs.declared.view.Told.{Told}
use Rattle.uni_any.specs.declared.view.Version.{Version}

abbrev pub version_as : {S R : Type 0} → Block S R → Version S R
version_as block = record { number = block.number; image = record { state = block.state; rows = block.rows.items } }

-- the image of a block that is owned
abbrev pub image_in : {S R : Type 0} → Arc (Block S R) Global → Image S R
image_in block = (version_as (arc_value block)).image

abbrev pub inv_as : {I : Type 0} → Option (Arc I Global) → Option I
inv_as None = None
inv_as (Some arc) = Some (arc_value arc)

abbrev pub told_as : {I S R : Type 0} → News I (Block S R) → Told I S R
told_as news = record {
  call = news.call;
  inv = inv_as news.inv;
  last = version_as (arc_value news.last);
  next = version_as (arc_value news.next);
}

abbrev pub told_by : {I S R : Type 0} → Arc (News I (Block S R)) Global → Told I S R
told_by arc = told_as (arc_value arc)

-- the version that a process has brought in, of those that it told, where it is known to have brought in version v: the
-- one that it brought in last where this is no older, and else the next one
abbrev pub found_in : {I S R : Type 0} → Told I S R → (v : ℕ) → Version S R
found_in told v = if nat_lt told.last.number v then told.next else told.last

-- the invocation that comes next of process q
abbrev pub due : {I S R : Type 0} → Image S R → (q : ℕ) → Told I S R → Option I
due image q told = if told.call == applied_in image q + 1 then told.inv else None

abbrev one_due : {I : Type 0} → (q nth : ℕ) → Option I → List (Invoked I) → List (Invoked I)
one_due q nth None more = more
one_due q nth (Some inv) more = record { process = q; nth = nth; inv = inv } ∷ more

-- the calls that come next, of processes from q on
abbrev pub calls_due : {I S R : Type 0} → Image S R → (q : ℕ) → List (Told I S R) → List (Invoked I)
calls_due image q [] = []
calls_due image q (told ∷ more) = one_due q (applied_in image q) (due image q told) (calls_due image (q + 1) more)

-- a version with those calls applied
abbrev pub drafted : {S I R : Type 0} → Sequential S I R → Image S R → List (Told I S R) → Image S R
drafted object image seen = image_from object image (calls_due image 0 seen)

module _ {S I R : Type 0} (object : Sequential S I R) (n : ℕ) where
  -- the start, and what is known of each process then
  abbrev pub first_image : Image S R
  first_image = record { state = object.initial; rows = replicate n blank }

  abbrev pub first_version : Version S R
  first_version = record { number = 0; image = first_image }

  abbrev pub first_told : Told I S R
  first_told = record { call = 0; inv = None; last = first_version; next = first_version }
