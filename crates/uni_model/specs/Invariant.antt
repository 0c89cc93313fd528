-- What every world that is reached keeps, stated over what places contain.
use Rattle.std.specs.Prelude.{◌≡◌, ℕ, ◌+◌, ◌-◌, ◌<◌, ◌≤◌, ◌%◌, ◌==◌, ◌⊎◌, Option, None, Some}
use Rattle.std.specs.Prelude.{if◌then◌else◌}
use Rattle.seq_object.specs.Sequential.{Sequential}
use Rattle.uni_model.specs.Places.{Name, Memory, announce_of, head_of, head_seq, inv_of, seq_of, after_of, new_of, before_of}
use Rattle.uni_model.specs.Places.Name.{Anchor, Of}
use Rattle.uni_model.specs.Stages.{Stage, Pending}
use Rattle.uni_model.specs.Stages.Stage.{Announce, ScanHead, ScanSeq, WriteScan, Test, ReadAnnounce, ReadHelpSeq, DecideAfter, DecideNew}
use Rattle.uni_model.specs.Stages.Stage.{WriteBefore, WriteSeq, WriteHead, Finish}
use Rattle.uni_model.specs.Worlds.{WorldOf, sum_below, calls_in_era}

-- there is a value
abbrev pub Has : {A : Type 0} → Option A → Type 0
Has {A} o = (x : A) × (o ≡ Some x)

-- The cells of the chain have numbers, from the anchor's on to the last: num x is the number of x, and 0 where x isn't in
-- the chain. Each settled `after` leads to the next number; a cell's own `seq`, once it is written, is its number.
pub record IsNumbered {S I R : Type 0} (m : Memory S I R) (num : Name → ℕ) (last : ℕ) : Type 0 where
  pub anchor : num Anchor ≡ seq_of m Anchor
  pub first : 1 ≤ num Anchor
  pub least : (x : Name) → 1 ≤ num x → num Anchor ≤ num x
  pub greatest : (x : Name) → num x ≤ last
  pub one_each : (x y : Name) → 1 ≤ num x → num x ≡ num y → x ≡ y
  pub link : (x y : Name) → after_of m x ≡ Some y → (1 ≤ num x) × (num y ≡ num x + 1)
  pub goes_on : (x : Name) → 1 ≤ num x → num x < last → Has (after_of m x)
  pub seq : (x : Name) → 1 ≤ seq_of m x → seq_of m x ≡ num x
  pub threaded : (x : Name) → 1 ≤ num x → num x < last → seq_of m x ≡ num x

-- v is the state and the response of the call of y after the state that is settled in x
pub record IsAfter {S I R : Type 0} (object : Sequential S I R) (m : Memory S I R) (x y : Name) (v : S × Option R) : Type 0 where
  pub before : S × Option R
  pub inv : I
  pub new_of_x : new_of m x ≡ Some before
  pub inv_of_y : inv_of m y ≡ Some inv
  pub value : v ≡ (object.next before.0 inv, Some (object.answer before.0 inv))

-- What is settled in the cells of the chain: a state in the anchor, and in each other cell the state and the response after
-- the one before it. A threaded cell has its value settled; a cell outside the chain has none.
pub record HasValues {S I R : Type 0} (object : Sequential S I R) (m : Memory S I R) (num : Name → ℕ) : Type 0 where
  pub anchor : (s : S) × (new_of m Anchor ≡ Some (s, None))
  pub none : (x : Name) → num x ≡ 0 → new_of m x ≡ None
  pub threaded : (x : Name) → 1 ≤ seq_of m x → Has (new_of m x)
  pub after : (x y : Name) (v : S × Option R) → after_of m x ≡ Some y → new_of m y ≡ Some v → IsAfter object m x y v

-- `before` leads back; a threaded cell other than the anchor has it
pub record LeadsBack {S I R : Type 0} (m : Memory S I R) : Type 0 where
  pub link : (x y : Name) → before_of m y ≡ Some x → after_of m x ≡ Some y
  pub threaded : (p k : ℕ) → 1 ≤ seq_of m (Of p k) → Has (before_of m (Of p k))

-- the cell is one of a process's calls in this era
abbrev pub IsCellOf : {S I R : Type 0} → Memory S I R → ℕ → Name → Type 0
IsCellOf m p x = (k : ℕ) × (x ≡ Of p k) × Has (inv_of m (Of p k))

-- The cells are those of the calls that were begun in this era, each of which has one. Each is threaded, or its call is pending. The calls
-- of one process are linked
-- in their order.
pub record AreCalls {S I R : Type 0} (w : WorldOf S I R) (num : Name → ℕ) : Type 0 where
  pub anchor : inv_of w.memory Anchor ≡ None
  pub linked : (p k : ℕ) → 1 ≤ num (Of p k) → Has (inv_of w.memory (Of p k))
  pub begun : (p k : ℕ) → Has (inv_of w.memory (Of p k)) → (p < w.n) × (w.first p ≤ k) × (k < w.begun p)
  pub first : (p : ℕ) → w.first p ≤ w.begun p
  pub made : (p k : ℕ) → w.first p ≤ k → k < w.begun p → Has (inv_of w.memory (Of p k))
  pub process : (p : ℕ) (c : Pending) → w.call p ≡ Some c → p < w.n
  pub mine : (p : ℕ) (c : Pending) → w.call p ≡ Some c
      → (k : ℕ) × (c.mine ≡ Of p k) × (w.begun p ≡ k + 1) × Has (inv_of w.memory (Of p k))
  pub threaded : (p k : ℕ) → Has (inv_of w.memory (Of p k))
      → (1 ≤ seq_of w.memory (Of p k)) ⊎ ((c : Pending) × (w.call p ≡ Some c) × (c.mine ≡ Of p k))
  pub announced : (p : ℕ) → p < w.n → (announce_of w.memory p ≡ Anchor) ⊎ IsCellOf w.memory p (announce_of w.memory p)
  pub head : (p : ℕ) → p < w.n → 1 ≤ head_seq w.memory p
  pub order : (p k j : ℕ) → k < j → 1 ≤ num (Of p k) → 1 ≤ num (Of p j) → num (Of p k) < num (Of p j)

-- the scan's best cell so far, which there is after the first head
abbrev pub HasBest : {S I R : Type 0} → Memory S I R → (q : ℕ) → (best : Name) → (best_seq : ℕ) → Type 0
HasBest m q best best_seq = ((q ≡ 0) × (best_seq ≡ 0)) ⊎ ((1 ≤ best_seq) × (seq_of m best ≡ best_seq))

-- c is the head of p, with its number
pub record AtHead {S I R : Type 0} (m : Memory S I R) (p : ℕ) (c : Name) (c_seq : ℕ) : Type 0 where
  pub head : head_of m p ≡ c
  pub seq : seq_of m c ≡ c_seq

-- x isn't in the chain, or past the number
abbrev pub IsPast : (Name → ℕ) → Name → ℕ → Type 0
IsPast num x s = (num x ≡ 0) ⊎ (s < num x)

-- what holds of a process that stands at a stage
abbrev pub Stands : {S I R : Type 0} → Memory S I R → (Name → ℕ) → (n p : ℕ) → (mine : Name) → Stage → Type 0
Stands m num n p mine Announce = Unit {0}
Stands m num n p mine (ScanHead q best best_seq) = (q < n) × HasBest m q best best_seq
Stands m num n p mine (ScanSeq q best best_seq h) = (q < n) × HasBest m q best best_seq × (1 ≤ seq_of m h)
Stands m num n p mine (WriteScan best best_seq) = (1 ≤ best_seq) × (seq_of m best ≡ best_seq)
Stands m num n p mine (Test c c_seq) = AtHead m p c c_seq
Stands m num n p mine (ReadAnnounce c c_seq) = AtHead m p c c_seq × IsPast num mine c_seq
Stands m num n p mine (ReadHelpSeq c c_seq help) =
    AtHead m p c c_seq × IsPast num mine c_seq × ((help ≡ Anchor) ⊎ IsCellOf m (c_seq % n) help)
Stands m num n p mine (DecideAfter c c_seq prefer) =
    AtHead m p c c_seq × IsPast num prefer c_seq × ((prefer ≡ mine) ⊎ IsCellOf m (c_seq % n) prefer)
Stands m num n p mine (DecideNew c c_seq d) = AtHead m p c c_seq × (after_of m c ≡ Some d)
Stands m num n p mine (WriteBefore c c_seq d) = AtHead m p c c_seq × (after_of m c ≡ Some d) × Has (new_of m d)
Stands m num n p mine (WriteSeq c c_seq d) =
    AtHead m p c c_seq × (after_of m c ≡ Some d) × Has (new_of m d) × (before_of m d ≡ Some c)
Stands m num n p mine (WriteHead c c_seq d) = AtHead m p c c_seq × (after_of m c ≡ Some d) × (seq_of m d ≡ c_seq + 1)
Stands m num n p mine (Finish c_seq mine_seq) = (head_seq m p ≡ c_seq) × (1 ≤ mine_seq) × (seq_of m mine ≡ mine_seq)

-- how many cells of a process can be in the chain: those of all its calls of the era, but for that of a pending call that isn't
abbrev pub can_be_linked : (Name → ℕ) → Option Pending → (calls : ℕ) → ℕ
can_be_linked num None calls = calls
can_be_linked num (Some c) calls = if num c.mine == 0 then calls - 1 else calls

-- the invariant of a world, for the numbers of its cells
pub record IsSound {S I R : Type 0} (object : Sequential S I R) (w : WorldOf S I R) (num : Name → ℕ) (last : ℕ) : Type 0 where
  pub numbered : IsNumbered w.memory num last
  pub values : HasValues object w.memory num
  pub back : LeadsBack w.memory
  pub calls : AreCalls w num
  pub stands : (p : ℕ) (c : Pending) → w.call p ≡ Some c → Stands w.memory num w.n p c.mine c.stage
  pub count : last ≤ num Anchor + sum_below w.n (λ p. can_be_linked num (w.call p) (calls_in_era w p))

-- the invariant of a world
abbrev pub Invariant : {S I R : Type 0} → Sequential S I R → WorldOf S I R → Type 0
Invariant object w = (num : Name → ℕ) × (last : ℕ) × IsSound object w num last
