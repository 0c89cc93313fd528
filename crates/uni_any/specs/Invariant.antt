-- What holds between any two steps.
use Rattle.std.specs.Prelude.{◌≡◌, ◌⊎◌, ℕ, ◌+◌, ◌<◌, ◌≤◌, List, [], ◌∷◌, ◌++◌, Option, None, Some, Contains}
use Rattle.std.specs.Prelude.{length, map, slice_get, slice_index_or}
use Rattle.std.specs.List.{sum}
use Rattle.seq_object.specs.History.{response_at}
use Rattle.seq_object.specs.Sequential.{Sequential}
use Rattle.uni_model.specs.AtomicObject.{AcceptsAll, Invoked, at_start}
use Rattle.uni_model.specs.AtomicObject.Act.{Invoke}
use Rattle.uni_model.specs.ProcessCalls.{acts_by, sequential_acts}
use Rattle.uni_any.specs.Batch.{IsRising, image_from, inv_of, plain}
use Rattle.uni_any.specs.Content.{applied_in, applied_of, row_in}
use Rattle.uni_any.specs.Order.{IsOrdered}
use Rattle.uni_any.specs.declared.view.Image.{Image}
use Rattle.uni_any.specs.declared.view.Returned.{Returned}
use Rattle.uni_any.specs.Board.{Board, HasCome, announced_by, called_by, in_of, made_by, number_in, pending_of, process_in, word_of}
use Rattle.uni_any.specs.News.{first_image, first_told, found_in}
use Rattle.uni_any.specs.declared.view.Local.{Local}
use Rattle.uni_any.specs.declared.view.Stage.{Stage}
use Rattle.uni_any.specs.declared.view.Stage.TheVariants.{Idle, Posting, Ready, Reading, Writing}
use Rattle.uni_any.specs.declared.view.Told.{Told}
use Rattle.uni_any.specs.declared.view.Version.{Version}

-- how many calls a process may make
abbrev pub most_calls : ℕ
most_calls = 1125899906842624

-- an image has a row of each of n processes, and the reply of each that has a call in
pub record IsWhole {S R : Type 0} (n : ℕ) (image : Image S R) : Type 0 where
  pub long : length image.rows ≡ n
  pub replies : (q : ℕ) → q < n → 1 ≤ applied_in image q → (x : R) × ((row_in image q).reply ≡ Some x)

-- a call has taken effect, with this reply
pub record HasTaken {S I R : Type 0} (object : Sequential S I R) (agreed : List (Invoked I)) (call : Invoked I) (reply : R)
    : Type 0 where
  pub place : ℕ
  pub there : slice_get agreed place ≡ Some call
  pub reply_is : response_at object object.initial (map inv_of agreed) place ≡ Some reply

-- each of these calls is in a version no later than this
abbrev pub HasFollowed : {I R : Type 0} → (after : ℕ) → List (Returned I R) → Type 0
HasFollowed {I} {R} after own = (k : ℕ) (call : Returned I R) → slice_get own k ≡ Some call → call.version ≤ after

module _ {S I R : Type 0} (object : Sequential S I R) (n : ℕ) where
  -- what was taken last of process q
  abbrev pub seen_of : Local I S R → (q : ℕ) → Told I S R
  seen_of l q = slice_index_or l.seen q (first_told object n)

  -- the version that a process has once it has looked
  abbrev pub base_of : Local I S R → Version S R
  base_of l = found_in (seen_of l (process_in l.word)) (number_in l.word)

  module _ (g : Board I S R) (local : ℕ → Local I S R) where
    -- of what a process has told, the one or the other is the version that it brought in last
    abbrev pub HasLast : Local I S R → Told I S R → Type 0
    HasLast l t =
        (t.last ≡ l.last)
        ⊎ ((t.next ≡ l.last) × (t.last.number < l.last.number) × HasCome object n g t.last)

    -- what a process has brought in, and what it has written
    pub record IsWriter (p : ℕ) (l : Local I S R) : Type 0 where
      pub last : HasCome object n g l.last
      pub present : g.process ≡ p → l.last.number ≡ g.number
      pub written : HasLast l l.written
      pub called : l.written.call ≤ called_by l
      pub inv : l.written.call ≡ made_by l + 1 → l.written.inv ≡ pending_of l.stage
      pub made : made_by l ≤ l.written.call

    -- what a process has taken: no more than what was called
    pub record IsReader (l : Local I S R) : Type 0 where
      pub long : length l.seen ≡ n
      pub process : process_in l.word < n
      pub known : number_in l.word ≤ (local (process_in l.word)).last.number
      pub old : (l.word ≡ word_of g.number g.process) ⊎ (number_in l.word < g.number)
      pub called : (q : ℕ) → q < n → (seen_of l q).call ≤ called_by (local q)
      pub inv : (q : ℕ) → q < n → (seen_of l q).call ≡ made_by (local q) + 1
          → (seen_of l q).inv ≡ pending_of (local q).stage

    -- a process whose call is pending
    pub record IsOpen (p : ℕ) (l : Local I S R) (inv : I) : Type 0 where
      pub few : made_by l < most_calls
      pub least : made_by l ≤ in_of g p
      pub most : in_of g p ≤ made_by l + 1

    -- it is announced: all were told
    abbrev pub IsAnnounced : (p : ℕ) → Local I S R → I → Type 0
    IsAnnounced p l inv = IsOpen p l inv × (l.written.call ≡ made_by l + 1)

    -- an attempt after so many failed ones, from the version that S named on
    pub record IsTrying (p : ℕ) (l : Local I S R) (tries : ℕ) : Type 0 where
      pub later : g.since p + tries ≤ number_in l.word
      pub least : (x : Version S R) → HasCome object n g x → number_in l.word ≤ x.number → made_by l ≤ applied_in x.image p
      pub soon : 2 ≤ tries → (x : Version S R) → HasCome object n g x → number_in l.word ≤ x.number
          → applied_in x.image p ≡ made_by l + 1

    -- a version that has come since S was loaded; the present one, where S is as it was
    pub record IsBase (l : Local I S R) (x : Version S R) : Type 0 where
      pub come : HasCome object n g x
      pub least : number_in l.word ≤ x.number
      pub fresh : l.word ≡ word_of g.number g.process → (x.number ≡ g.number) × (x.image ≡ g.image)

    -- it has looked into the first buffers
    pub record HasLooked (p : ℕ) (l : Local I S R) (count : ℕ) : Type 0 where
      pub most : count ≤ n
      pub base : process_in l.word < count → IsBase l (base_of l)
      pub caught : l.word ≡ word_of g.number g.process → (q : ℕ) → q < count → (q ≡ p) ⊎ (g.since q < g.number)
          → announced_by n (local q) ≤ (seen_of l q).call
      pub lacks : count ≡ n → applied_in (base_of l).image p ≡ made_by l
      pub own : p < count → seen_of l p ≡ l.written

    -- an image is that of the present version with some pending calls applied
    pub record HasBatch (image : Image S R) : Type 0 where
      pub calls : List (Invoked I)
      pub image_is : image ≡ image_from object g.image calls
      pub rising : IsRising 0 calls
      pub below : (c : Invoked I) → Contains calls c → c.process < n
      pub asked : (c : Invoked I) → Contains calls c
          → (c.nth ≡ in_of g c.process) × (c.nth ≡ made_by (local c.process))
          × (pending_of (local c.process).stage ≡ Some c.inv)

    -- where S is as it was: a call that the block has and the present version hasn't is pending; and each is in the
    -- block that was announced before the present version, and the own one
    pub record HasDrafted (p : ℕ) (image : Image S R) : Type 0 where
      pub told : (q : ℕ) → q < n → (applied_in image q ≡ in_of g q)
          ⊎ ((applied_in image q ≡ in_of g q + 1) × (called_by (local q) ≡ in_of g q + 1))
      pub caught : (q : ℕ) → q < n → (q ≡ p) ⊎ (g.since q < g.number) → announced_by n (local q) ≤ applied_in image q
      pub lacks : in_of g p ≡ made_by (local p)
      pub batch : HasBatch image

    -- a process, at its stage
    abbrev pub IsStageAt : (p : ℕ) → Local I S R → Stage I S R → Type 0
    IsStageAt p l Idle = (in_of g p ≡ made_by l) × (made_by l ≤ most_calls)
    IsStageAt p l (Posting inv count) = IsOpen p l inv × (1 ≤ count) × (count ≤ n)
    IsStageAt p l (Ready inv tries) = IsAnnounced p l inv × (g.since p + tries ≤ g.number)
    IsStageAt p l (Reading inv tries count) = IsAnnounced p l inv × IsTrying p l tries × HasLooked p l count
    IsStageAt p l (Writing inv tries image count) =
        IsAnnounced p l inv × IsTrying p l tries × (count ≤ n) × IsWhole n image
        × (l.word ≡ word_of g.number g.process → HasDrafted p image)

    pub record IsAt (p : ℕ) (l : Local I S R) : Type 0 where
      pub stage : IsStageAt p l l.stage
      pub writer : IsWriter p l
      pub reader : IsReader l

    -- what the history has of a process, with no call pending, or with one of this invocation
    abbrev pub IsTold : (p : ℕ) → List (Returned I R) → Option I → Type 0
    IsTold p own None =
        (g.atomic.open_call p ≡ None) × (g.atomic.next_nth p ≡ length own)
        × (acts_by p g.acts ≡ sequential_acts p 0 (map plain own))
    IsTold p own (Some inv) =
        (g.atomic.open_call p ≡ Some (record { process = p; nth = length own; inv = inv }))
        × (g.atomic.next_nth p ≡ length own + 1)
        × (acts_by p g.acts ≡ sequential_acts p 0 (map plain own) ++ Invoke p (length own) inv ∷ [])
        × ((v : Version S R) (x : R) → HasCome object n g v → applied_in v.image p ≡ length own + 1
        → (row_in v.image p).reply ≡ Some x
        → (taken : HasTaken object g.atomic.agreed (record { process = p; nth = length own; inv = inv }) x)
        × (taken.place < g.calls_in v.number))

    -- the present version is the image of the calls that took effect; the history is accepted by the atomic object
    pub record IsHistory : Type 0 where
      pub image : image_from object (first_image object n) g.atomic.agreed ≡ g.image
      pub agreed : (c : Invoked I) → Contains g.atomic.agreed c → (c.process < n) × (c.nth < in_of g c.process)
      pub start : g.atomic.start ≡ object.initial
      pub accepted : AcceptsAll object (at_start object.initial) g.acts g.atomic
      pub told : (p : ℕ) → p < n → IsTold p (local p).own (pending_of (local p).stage)

    -- the board on its own
    pub record IsBoard : Type 0 where
      pub process : g.process < n
      pub whole : (x : Version S R) → HasCome object n g x → IsWhole n x.image
      pub rises : (x : Version S R) → HasCome object n g x → (q : ℕ) → q < n → applied_in x.image q ≤ in_of g q
      pub in_most : (q : ℕ) → q < n → in_of g q ≤ called_by (local q)
      pub soon : (q : ℕ) → q < n → g.since q + 2 ≤ g.number → announced_by n (local q) ≤ in_of g q
      pub past : (q : ℕ) → q < n → g.since q ≤ g.number
      pub versions : g.number ≤ sum (map applied_of g.image.rows)

    -- all calls are in the present version, a later version has no fewer, each process has its order, and each of its
    -- calls that have returned is in the version that it follows
    pub record AreOrdered : Type 0 where
      pub counted : (v : ℕ) → g.number ≤ v → g.calls_in v ≡ length g.atomic.agreed
      pub rising : (v w : ℕ) → v ≤ w → g.calls_in v ≤ g.calls_in w
      pub each : (p : ℕ) → p < n → IsOrdered object g.atomic.agreed g.calls_in g.number p (local p).after (local p).own
      pub followed : (p : ℕ) → p < n → HasFollowed (local p).after (local p).own

    pub record IsSound : Type 0 where
      pub board : IsBoard
      pub each : (p : ℕ) → p < n → IsAt p (local p)
      pub history : IsHistory
      pub order : AreOrdered
