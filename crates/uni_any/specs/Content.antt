-- What a version of the object is.
use Rattle.std.specs.Prelude.{ℕ, ◌+◌, None, Some, slice_index_or, slice_set}
use Rattle.seq_object.specs.Sequential.{Sequential}
use Rattle.uni_any.specs.declared.news.Row.{Row}
use Rattle.uni_any.specs.declared.view.Image.{Image}

abbrev pub blank : {R : Type 0} → Row R
blank = record { applied = 0; reply = None }

abbrev pub row_in : {S R : Type 0} → Image S R → ℕ → Row R
row_in image q = slice_index_or image.rows q blank

-- how many calls of a process are in
abbrev pub applied_in : {S R : Type 0} → Image S R → ℕ → ℕ
applied_in image q = (row_in image q).applied

-- how many calls are in, of all processes
abbrev pub applied_of : {R : Type 0} → Row R → ℕ
applied_of row = row.applied

-- a call of a process is applied
abbrev pub taken_in : {S I R : Type 0} → Sequential S I R → Image S R → ℕ → I → Image S R
taken_in object image q inv = record {
  state = object.next image.state inv;
  rows = slice_set image.rows q
      (record { applied = applied_in image q + 1; reply = Some (object.answer image.state inv) });
}
