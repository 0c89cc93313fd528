-- The shared places of the construction, and what they contain.
use Rattle.std.specs.Prelude.{ℕ, Bool, true, false, ◌&&◌, ◌==◌, Option, None, if◌then◌else◌}

-- a cell: the anchor, or the one of a call, named by its process and by how many calls of that process came before it
pub data Name : Type 0 where
  Anchor : Name
  Of : (process nth : ℕ) → Name

-- a shared place: a process's entries of announce and head, and the fields of a cell
pub data Place : Type 0 where
  Announced : (process : ℕ) → Place
  HeadOf : (process : ℕ) → Place
  InvOf : Name → Place
  SeqOf : Name → Place
  AfterOf : Name → Place
  NewOf : Name → Place
  BeforeOf : Name → Place

-- what a place contains: a cell, an invocation, a number, a cell that may be settled or written, a settled state and response
pub data Content (S I R : Type 0) : Type 0 where
  CellName : Name → Content S I R
  Invocation : Option I → Content S I R
  Number : ℕ → Content S I R
  Link : Option Name → Content S I R
  Settled : Option (S × Option R) → Content S I R

-- what every shared place contains
abbrev pub Memory : (S I R : Type 0) → Type 0
Memory S I R = Place → Content S I R

-- whether two names are the same
abbrev pub name_eq : Name → Name → Bool
name_eq Anchor Anchor = true
name_eq (Of p k) (Of q m) = (p == q) && (k == m)
name_eq _ _ = false

-- whether two places are the same
abbrev pub place_eq : Place → Place → Bool
place_eq (Announced p) (Announced q) = p == q
place_eq (HeadOf p) (HeadOf q) = p == q
place_eq (InvOf x) (InvOf y) = name_eq x y
place_eq (SeqOf x) (SeqOf y) = name_eq x y
place_eq (AfterOf x) (AfterOf y) = name_eq x y
place_eq (NewOf x) (NewOf y) = name_eq x y
place_eq (BeforeOf x) (BeforeOf y) = name_eq x y
place_eq _ _ = false

-- the memory with another content in one place
abbrev pub memory_with : {S I R : Type 0} → Memory S I R → Place → Content S I R → Memory S I R
memory_with m place v x = if place_eq x place then v else m x

-- Each kind of content, read.
abbrev pub name_in : {S I R : Type 0} → Content S I R → Name
name_in (CellName x) = x
name_in _ = Anchor

abbrev pub invocation_in : {S I R : Type 0} → Content S I R → Option I
invocation_in (Invocation x) = x
invocation_in _ = None

abbrev pub number_in : {S I R : Type 0} → Content S I R → ℕ
number_in (Number s) = s
number_in _ = 0

abbrev pub link_in : {S I R : Type 0} → Content S I R → Option Name
link_in (Link x) = x
link_in _ = None

abbrev pub settled_in : {S I R : Type 0} → Content S I R → Option (S × Option R)
settled_in (Settled x) = x
settled_in _ = None

-- Each shared place, read.
abbrev pub announce_of : {S I R : Type 0} → Memory S I R → ℕ → Name
announce_of m p = name_in (m (Announced p))

abbrev pub head_of : {S I R : Type 0} → Memory S I R → ℕ → Name
head_of m p = name_in (m (HeadOf p))

abbrev pub inv_of : {S I R : Type 0} → Memory S I R → Name → Option I
inv_of m x = invocation_in (m (InvOf x))

-- the number of a cell; 0 while it isn't threaded
abbrev pub seq_of : {S I R : Type 0} → Memory S I R → Name → ℕ
seq_of m x = number_in (m (SeqOf x))

abbrev pub after_of : {S I R : Type 0} → Memory S I R → Name → Option Name
after_of m x = link_in (m (AfterOf x))

abbrev pub new_of : {S I R : Type 0} → Memory S I R → Name → Option (S × Option R)
new_of m x = settled_in (m (NewOf x))

abbrev pub before_of : {S I R : Type 0} → Memory S I R → Name → Option Name
before_of m x = link_in (m (BeforeOf x))

-- the number of the cell that a process's head entry names
abbrev pub head_seq : {S I R : Type 0} → Memory S I R → ℕ → ℕ
head_seq m p = seq_of m (head_of m p)
