-- The transition of each kind of step: the one place that it touches, and what it does there (Herlihy 1991, section 4).
use Rattle.std.specs.Prelude.{ℕ, ◌+◌, ◌%◌, List, [], ◌∷◌, Option, None, Some, if◌then◌else◌, ◌==◌, nat_lt}
use Rattle.std.specs.Prelude.{unwrap_or}
use Rattle.std.specs.Option.{option_or}
use Rattle.seq_object.specs.Sequential.{Sequential}
use Rattle.uni_model.specs.Places.{Name, Place, Content, Memory, name_in, number_in, link_in, settled_in, inv_of, new_of}
use Rattle.uni_model.specs.Chain.{response_in}
use Rattle.uni_model.specs.Places.Name.{Anchor}
use Rattle.uni_model.specs.Places.Place.{Announced, HeadOf, InvOf, SeqOf, AfterOf, NewOf, BeforeOf}
use Rattle.uni_model.specs.Places.Content.{CellName, Number, Link, Settled}
use Rattle.uni_model.specs.Stages.{Stage}
use Rattle.uni_model.specs.Stages.Stage.{Announce, ScanHead, ScanSeq, WriteScan, Test, ReadAnnounce, ReadHelpSeq, DecideAfter, DecideNew}
use Rattle.uni_model.specs.Stages.Stage.{WriteBefore, WriteSeq, WriteHead, Finish}

-- the one place that the next step of process p touches, of n processes
abbrev pub place_of : (n p : ℕ) → (mine : Name) → Stage → Place
place_of n p mine Announce = Announced p
place_of n p mine (ScanHead q best best_seq) = HeadOf q
place_of n p mine (ScanSeq q best best_seq h) = SeqOf h
place_of n p mine (WriteScan best best_seq) = HeadOf p
place_of n p mine (Test c c_seq) = SeqOf mine
place_of n p mine (ReadAnnounce c c_seq) = Announced (c_seq % n)
place_of n p mine (ReadHelpSeq c c_seq help) = SeqOf help
place_of n p mine (DecideAfter c c_seq prefer) = AfterOf c
place_of n p mine (DecideNew c c_seq d) = NewOf d
place_of n p mine (WriteBefore c c_seq d) = BeforeOf d
place_of n p mine (WriteSeq c c_seq d) = SeqOf d
place_of n p mine (WriteHead c c_seq d) = HeadOf p
place_of n p mine (Finish c_seq mine_seq) = HeadOf p

-- What a step reads beside its one place is only what can't change again: the step that decides the value of a cell d after c
-- reads what d's call asks for and the value that is settled in c; the last step reads the response in the process's own cell.
abbrev pub places_beside : (mine : Name) → Stage → List Place
places_beside mine (DecideNew c c_seq d) = InvOf d ∷ NewOf c ∷ []
places_beside mine (Finish c_seq mine_seq) = NewOf mine ∷ []
places_beside mine _ = []

-- the object applied to an invocation, after a settled state
abbrev pub value_after : {S I R : Type 0} → Sequential S I R → Option (S × Option R) → Option I → Option (S × Option R)
value_after object (Some s) (Some i) = Some (object.next s.0 i, Some (object.answer s.0 i))
value_after object _ _ = None

-- the scan goes on with the head of the process after q, or ends
abbrev pub next_in_scan : (n q : ℕ) → (best : Name) → (best_seq : ℕ) → Stage
next_in_scan n q best best_seq = if nat_lt (q + 1) n then ScanHead (q + 1) best best_seq else WriteScan best best_seq

-- after the scan has read the number s of the head h of process q: the cell with the greater number is the best so far
abbrev pub stage_after_scan : (n q : ℕ) → (best : Name) → (best_seq : ℕ) → (h : Name) → (s : ℕ) → Stage
stage_after_scan n q best best_seq h s = if nat_lt best_seq s then next_in_scan n q h s else next_in_scan n q best best_seq

-- Where a process stands after the step of a stage, whose place contained v; nowhere after the last one. That depends on
-- neither the object nor what is settled.
abbrev pub stage_after : {S I R : Type 0} → (n : ℕ) → (mine : Name) → Stage → (v : Content S I R) → Option Stage
stage_after n mine Announce v = Some (ScanHead 0 Anchor 0)
stage_after n mine (ScanHead q best best_seq) v = Some (ScanSeq q best best_seq (name_in v))
stage_after n mine (ScanSeq q best best_seq h) v = Some (stage_after_scan n q best best_seq h (number_in v))
stage_after n mine (WriteScan best best_seq) v = Some (Test best best_seq)
stage_after n mine (Test c c_seq) v = Some (if number_in v == 0 then ReadAnnounce c c_seq else Finish c_seq (number_in v))
stage_after n mine (ReadAnnounce c c_seq) v = Some (ReadHelpSeq c c_seq (name_in v))
stage_after n mine (ReadHelpSeq c c_seq help) v = Some (DecideAfter c c_seq (if number_in v == 0 then help else mine))
stage_after n mine (DecideAfter c c_seq prefer) v = Some (DecideNew c c_seq (unwrap_or (link_in v) prefer))
stage_after n mine (DecideNew c c_seq d) v = Some (WriteBefore c c_seq d)
stage_after n mine (WriteBefore c c_seq d) v = Some (WriteSeq c c_seq d)
stage_after n mine (WriteSeq c c_seq d) v = Some (WriteHead c c_seq d)
stage_after n mine (WriteHead c c_seq d) v = Some (Test d (c_seq + 1))
stage_after n mine (Finish c_seq mine_seq) v = None

-- What the step writes to its place, which contained v; where it only reads, that is v. Of two proposals the first stands.
abbrev pub content_after : {S I R : Type 0} → Sequential S I R → (mine : Name) → Stage → (v : Content S I R) → Memory S I R
    → Content S I R
content_after object mine Announce v m = CellName mine
content_after object mine (WriteScan best best_seq) v m = CellName best
content_after object mine (DecideAfter c c_seq prefer) v m = Link (option_or (link_in v) (Some prefer))
content_after object mine (DecideNew c c_seq d) v m = Settled (option_or (settled_in v) (value_after object (new_of m c) (inv_of m d)))
content_after object mine (WriteBefore c c_seq d) v m = Link (Some c)
content_after object mine (WriteSeq c c_seq d) v m = Number (c_seq + 1)
content_after object mine (WriteHead c c_seq d) v m = CellName d
content_after object mine (Finish c_seq mine_seq) v m = if nat_lt c_seq mine_seq then CellName mine else v
content_after object mine _ v m = v

-- the response of the last step: the one that is settled in the process's own cell
abbrev pub response_after : {S I R : Type 0} → (mine : Name) → Stage → Memory S I R → Option R
response_after mine (Finish c_seq mine_seq) m = response_in m mine
response_after mine _ m = None

-- how many turns a step adds: one, where it is a test that finds no number yet
abbrev pub turn_of : {S I R : Type 0} → Stage → Content S I R → ℕ
turn_of (Test c c_seq) v = if number_in v == 0 then 1 else 0
turn_of _ v = 0
