-- What the readers of a world answer.
use Rattle.std.specs.Prelude.{◌≡◌, ◌≢◌, ℕ, ◌<◌, Option, Some, None, refl}
use Rattle.seq_object.specs.Sequential.{Sequential}
use Rattle.seq_object.specs.declared.call_id.CallId.{CallId}
use Rattle.uni_model.specs.Places.{Name, Place}
use Rattle.uni_model.specs.Places.Name.{Anchor, Of}
use Rattle.uni_model.specs.Places.Place.{Announced, HeadOf, SeqOf, AfterOf, NewOf, BeforeOf}
use Rattle.uni_model.specs.Stages.{Stage, Pending}
use Rattle.uni_model.specs.Stages.Stage.{Announce, ScanHead, ScanSeq, WriteScan, Test, ReadAnnounce, ReadHelpSeq, DecideAfter, DecideNew}
use Rattle.uni_model.specs.Stages.Stage.{WriteBefore, WriteSeq, WriteHead, Finish}
use Rattle.uni_model.specs.Transition.{place_of}
use Rattle.uni_model.specs.Worlds.{WorldOf, world_after}
use Rattle.uni_model.specs.Worlds.Event.{Step}
use Rattle.uni_core.specs.declared.stage.StepKind.{StepKind}
use Rattle.uni_core.specs.declared.stage.StepKind.TheVariants as kinds
use Rattle.uni_core.specs.declared.stage.Place.{Place as PlaceById}
use Rattle.uni_core.specs.declared.stage.Place.TheVariants as by_id
use Rattle.uni_model.specs.Indices.{name_of}

-- the call that a cell was made for; nothing of the anchor
abbrev pub call_of_name : Name → Option CallId
call_of_name Anchor = None
call_of_name (Of p k) = Some (record { process = p; nth = k })

-- among three processes, the cell at 6 is that of the second call of process 2
call_of_cell_6 : call_of_name (name_of 3 6) ≡ Some (record { process = 2; nth = 1 })
call_of_cell_6 = refl

call_of_anchor : call_of_name (name_of 3 0) ≡ None
call_of_anchor = refl

-- the kind of the next step of a process that stands there
abbrev pub kind_of : Stage → StepKind
kind_of Announce = kinds.Announce
kind_of (ScanHead q best best_seq) = kinds.ScanHead
kind_of (ScanSeq q best best_seq h) = kinds.ScanSeq
kind_of (WriteScan best best_seq) = kinds.WriteScan
kind_of (Test c c_seq) = kinds.Test
kind_of (ReadAnnounce c c_seq) = kinds.ReadAnnounce
kind_of (ReadHelpSeq c c_seq help) = kinds.ReadHelpSeq
kind_of (DecideAfter c c_seq prefer) = kinds.DecideAfter
kind_of (DecideNew c c_seq d) = kinds.DecideNew
kind_of (WriteBefore c c_seq d) = kinds.WriteBefore
kind_of (WriteSeq c c_seq d) = kinds.WriteSeq
kind_of (WriteHead c c_seq d) = kinds.WriteHead
kind_of (Finish c_seq mine_seq) = kinds.Finish

-- the place is that of one of n processes, or of a cell that there is
abbrev pub IsPlaceIn : (n : ℕ) → (IsThere : ℕ → Type 0) → PlaceById → Type 0
IsPlaceIn n IsThere (by_id.Announced p) = p < n
IsPlaceIn n IsThere (by_id.HeadOf p) = p < n
IsPlaceIn n IsThere (by_id.SeqOf c) = IsThere c
IsPlaceIn n IsThere (by_id.AfterOf c) = IsThere c
IsPlaceIn n IsThere (by_id.NewOf c) = IsThere c
IsPlaceIn n IsThere (by_id.BeforeOf c) = IsThere c

-- the cell that a process at a stage is about to propose after its head
abbrev pub proposed_at : Stage → Option Name
proposed_at (DecideAfter c c_seq prefer) = Some prefer
proposed_at _ = None

-- the next step of a process, whose call is pending, changes what its place contains
abbrev pub ChangesItsPlace : {S I R : Type 0} → Sequential S I R → WorldOf S I R → ℕ → Type 0
ChangesItsPlace object w p =
    (call : Pending) × (w.call p ≡ Some call)
    × ((world_after object w (Step p)).memory (place_of w.n p call.mine call.stage) ≢ w.memory (place_of w.n p call.mine call.stage))

-- a place that names its cell by index, with the cell's name
abbrev pub place_named : (name : ℕ → Name) → PlaceById → Place
place_named name (by_id.Announced p) = Announced p
place_named name (by_id.HeadOf p) = HeadOf p
place_named name (by_id.SeqOf c) = SeqOf (name c)
place_named name (by_id.AfterOf c) = AfterOf (name c)
place_named name (by_id.NewOf c) = NewOf (name c)
place_named name (by_id.BeforeOf c) = BeforeOf (name c)

kind_of_last : kind_of (Finish 1 2) ≡ kinds.Finish
kind_of_last = refl

-- the number of the cell at 6, and what is decided after the anchor
place_of_cell_6 : place_named (name_of 3) (by_id.SeqOf 6) ≡ SeqOf (Of 2 1)
place_of_cell_6 = refl

place_of_anchor : place_named (name_of 3) (by_id.AfterOf 0) ≡ AfterOf Anchor
place_of_anchor = refl

-- a process that helps 2.1 proposes it after the anchor; one that tests proposes nothing
proposed_help : proposed_at (DecideAfter Anchor 1 (Of 2 1)) ≡ Some (Of 2 1)
proposed_help = refl

proposed_by_test : proposed_at (Test Anchor 1) ≡ None
proposed_by_test = refl
