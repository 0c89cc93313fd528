-- What holds between any two steps.
use Rattle.std.specs.Prelude.{◌≡◌, ◌≢◌, ◌⊎◌, ℕ, ◌+◌, ◌*◌, ◌^◌, ◌<◌, ◌≤◌, List, [], ◌∷◌, ◌++◌, Option, None, Some}
use Rattle.std.specs.Prelude.{Bool, Contains, false, slice_set, true, length, map, slice_get, slice_index, sum, take}
use Rattle.seq_object.specs.Sequential.{Sequential}
use Rattle.seq_object.specs.History.{response_at}
use Rattle.uni_model.specs.AtomicObject.{Invoked, AcceptsAll, at_start}
use Rattle.uni_model.specs.AtomicObject.Act.{Invoke}
use Rattle.uni_model.specs.ProcessCalls.{acts_by, sequential_acts}
use Rattle.uni_small.specs.Final.{IsVersion}
use Rattle.uni_small.specs.Order.{IsOrdered}
use Rattle.uni_small.specs.Image.{AreWhole, Image, HasRows, buffer_words, spell, due_at, first_image, held_place}
use Rattle.uni_small.specs.Image.{image_from, reply_of, reply_place, with_seen}
use Rattle.uni_small.specs.View.{Local, Read, Returned, Stage, plain}
use Rattle.uni_small.specs.View.Stage.{Idle, Ready, Reading, Writing, Last}
use Rattle.uni_small.specs.declared.sizes.Sizes.{Sizes}
use Rattle.uni_small.specs.Board.{Board, in_of, current_word, buffer_in, version_in}

-- how many calls a process can make: so many that versions fit
abbrev pub most_calls : ℕ
most_calls = 2 ^ 50

-- the call of a process has taken effect, with this reply
pub record HasTaken (object : Sequential (List ℕ) (List ℕ) (List ℕ)) (g : Board) (call : Invoked (List ℕ)) (reply : List ℕ) : Type 0 where
  pub place : ℕ
  pub there : slice_get g.atomic.agreed place ≡ Some call
  pub reply_is : response_at object object.initial (map (λ c. c.inv) g.atomic.agreed) place ≡ Some reply

-- A process with no call pending: all its calls are in, and have returned.
pub record IsClosed (g : Board) (p : ℕ) (own : List Returned) : Type 0 where
  pub none_open : g.atomic.open_call p ≡ None
  pub next : g.atomic.next_nth p ≡ length own
  pub announced : g.announced p ≡ length own
  pub in_is : in_of g p ≡ length own
  pub acts : acts_by p g.acts ≡ sequential_acts p 0 (map plain own)

-- A process with a call pending, which has begun: all its calls but perhaps this one are in; until it is in, it is
-- announced, with its argument; then its reply is that of the image.
pub record IsOpen (object : Sequential (List ℕ) (List ℕ) (List ℕ)) (g : Board) (p : ℕ) (inv : List ℕ) (own : List Returned) : Type 0 where
  pub is_open : g.atomic.open_call p ≡ Some (record { process = p; nth = length own; inv = inv })
  pub next : g.atomic.next_nth p ≡ length own + 1
  pub announced : g.announced p ≡ length own + 1
  pub argument : in_of g p ≡ length own → g.argument p ≡ inv
  pub in_least : length own ≤ in_of g p
  pub taken : in_of g p ≡ length own + 1
      → HasTaken object g (record { process = p; nth = length own; inv = inv }) (reply_of g.image p)
  pub acts : acts_by p g.acts ≡ sequential_acts p 0 (map plain own) ++ Invoke p (length own) inv ∷ []

-- the words that were copied are those of the current buffer
abbrev pub IsCopied : Board → List ℕ → Type 0
IsCopied g copy = (i : ℕ) → i < length copy → slice_index copy i ≡ slice_index (spell g.image) i

-- these are the first words of the whole
abbrev pub IsBeginning : (part whole : List ℕ) → Type 0
IsBeginning part whole = take (length part) whole ≡ part

-- Process p has looked at the processes up to some one, and S has not changed since. A call that it saw is pending and
-- not in, and the words that it loaded are the first ones of its argument. A call that it did not see is in, but
-- perhaps one that was announced at the present version by another process.
pub record HasSeen (g : Board) (p : ℕ) (seen : List (Option (List ℕ))) : Type 0 where
  pub told : (r : ℕ) (inv : List ℕ) → slice_get seen r ≡ Some (Some inv) → (g.announced r ≡ in_of g r + 1)
      × IsBeginning inv (g.argument r)
  pub caught : (r : ℕ) → r < length seen → (r ≡ p) ⊎ (g.since r < g.version) → g.announced r ≤ in_of g r + due_at seen r

-- the version has come; and all calls that process p has announced, where they took effect, are in it
abbrev pub AreIn : Board → (p version : ℕ) → Type 0
AreIn g p version = (version ≤ g.version)
    × ((c : Invoked (List ℕ)) (place : ℕ) → slice_get g.atomic.agreed place ≡ Some c → c.process ≡ p
    → c.nth < g.announced p
    → place < g.calls_in_version version)

-- where s is not an earlier S, it is the present one, and this holds
abbrev pub IfFresh : Board → (s : ℕ) → Type 0 → Type 0
IfFresh g s F = 128 * g.version ≤ s → (s ≡ current_word g.version g.current) × F

-- an attempt after so many failed ones, which began with s: each of them failed since the version grew
abbrev pub IsAfter : Board → (p tries s : ℕ) → Type 0
IsAfter g p tries s = 128 * (g.since p + tries) ≤ s

-- process r has a call pending
abbrev pub IsPending : Board → (r : ℕ) → Type 0
IsPending g r = (c : Invoked (List ℕ)) × (g.atomic.open_call r ≡ Some c)

module _ (object : Sequential (List ℕ) (List ℕ) (List ℕ)) (sizes : Sizes) where
  -- The image may be written to the spare buffer b: its reply to a call that was in when b was last current, and that
  -- is pending, is that of the current buffer.
  pub record MayBeWritten (g : Board) (b : ℕ) (image : Image) : Type 0 where
    pub rows : HasRows sizes image
    pub replies : (r : ℕ) → r < sizes.processes → IsPending g r → g.announced r ≤ g.mark b r
        → reply_of image r ≡ reply_of g.image r

  -- these are the words of the two buffers of process p
  pub record AreHeld (g : Board) (p : ℕ) (held : List ℕ) : Type 0 where
    pub long : length held ≡ 2 * buffer_words sizes
    pub words : (which i : ℕ) → which ≤ 1 → i < buffer_words sizes
        → g.buffer (2 * p + which) i ≡ slice_index held (held_place sizes which i)

  -- the call of a process that makes an attempt, direct or not: a call that is attempted directly hasn't begun
  abbrev pub IsAttempted : Board → (p : ℕ) → Local → (direct : Bool) → Type 0
  IsAttempted g p l true = IsClosed g p l.own
  IsAttempted g p l false = IsOpen object g p l.inv l.own

  -- the call of a process, at its stage
  abbrev pub IsCallAt : Board → (p : ℕ) → Local → Stage → Type 0
  IsCallAt g p l (Idle stored) = IsClosed g p l.own × IsBeginning stored (g.argument p)
  IsCallAt g p l (Ready tries) = IsAttempted g p l l.direct
  IsCallAt g p l (Reading tries s copy seen) = IsAttempted g p l l.direct
  IsCallAt g p l (Writing tries s image seen written) = IsAttempted g p l l.direct
  IsCallAt g p l (Last s loaded) = IsOpen object g p l.inv l.own

  -- the attempt of a process, at its stage, with its spare buffer b
  abbrev pub IsAttemptAt : Board → (p b : ℕ) → Stage → Type 0
  IsAttemptAt g p b (Idle stored) = Unit {0}
  IsAttemptAt g p b (Ready tries) = g.since p + tries ≤ g.version
  IsAttemptAt g p b (Reading tries s copy seen) =
      IsAfter g p tries s × IfFresh g s (IsCopied g copy × HasSeen g p seen)
  IsAttemptAt g p b (Writing tries s image seen written) =
      IsAfter g p tries s
      × IfFresh g s ((image ≡ g.image) × (length seen ≡ sizes.processes) × HasSeen g p seen
      × (IsPending g p → in_of g p < g.announced p) × AreWhole sizes seen)
      × MayBeWritten g b (with_seen object image 0 seen)
      × ((inv : List ℕ) → MayBeWritten g b (with_seen object image 0 (slice_set seen p (Some inv))))
  IsAttemptAt g p b (Last s loaded) =
      (buffer_in s < 2 * sizes.processes) × (g.announced p ≤ g.mark (buffer_in s) p) × AreIn g p (version_in s)
      × IsBeginning loaded (reply_of g.image p)

  -- what process p has read is the state of a version, after a history in which the process takes its own calls
  abbrev pub IsRead : (p : ℕ) → Local → Type 0
  IsRead p l = (read : Read) → l.read ≡ Some read
      → IsVersion object sizes.processes (record { process = p; calls = l.own } ∷ []) read.version read.state

  -- process p is where its seat says
  pub record IsAt (g : Board) (p : ℕ) (l : Local) : Type 0 where
    pub spare : l.spare ≤ 1
    pub apart : 2 * p + l.spare ≢ g.current
    pub held : AreHeld g p l.held
    pub told : g.told p ≡ l.told
    pub call : IsCallAt g p l l.stage
    pub attempt : IsAttemptAt g p (2 * p + l.spare) l.stage
    pub ordered : IsOrdered object g.atomic.agreed g.calls_in_version g.version p l.after l.own
    pub read : IsRead p l

  -- The board on its own. The current buffer is the image of the calls that took effect, in their order, of which each
  -- process has as many as are in. What a buffer tells a process whose pending call was in when the buffer was last
  -- current is the reply of that call. A call is in two versions after it was announced, at the latest. The calls of a
  -- version are in each later one. The history is accepted by the atomic object.
  pub record IsBoard (g : Board) : Type 0 where
    pub current : g.current < 2 * sizes.processes
    pub image : image_from object (first_image object sizes) g.atomic.agreed ≡ g.image
    pub rows : HasRows sizes g.image
    pub exact : (i : ℕ) → i < buffer_words sizes → g.buffer g.current i ≡ slice_index (spell g.image) i
    pub marked : (b r : ℕ) → r < sizes.processes → g.mark b r ≤ in_of g r
    pub at_current : (r : ℕ) → r < sizes.processes → in_of g r ≤ g.mark g.current r
    pub kept : (b r k : ℕ) → b < 2 * sizes.processes → r < sizes.processes → k < sizes.reply → IsPending g r
        → g.announced r ≤ g.mark b r
        → g.buffer b (reply_place sizes r k) ≡ slice_index (reply_of g.image r) k
    pub arguments : (r : ℕ) → r < sizes.processes → length (g.argument r) ≡ sizes.invocation
    pub in_most : (r : ℕ) → r < sizes.processes → in_of g r ≤ g.announced r
    pub told_most : (r : ℕ) → r < sizes.processes → g.told r ≤ g.announced r
    pub told_due : (r : ℕ) → r < sizes.processes → in_of g r < g.announced r → g.told r ≡ g.announced r
    pub begun : (r : ℕ) → r < sizes.processes → g.since r ≤ g.version
    pub soon : (r : ℕ) → r < sizes.processes → g.since r + 2 ≤ g.version → g.announced r ≤ in_of g r
    pub versions : g.version ≤ sum g.image.applied
    pub room : (r : ℕ) → r < sizes.processes → g.announced r ≤ most_calls
    pub agreed : (c : Invoked (List ℕ)) → Contains g.atomic.agreed c → (c.process < sizes.processes)
        × (c.nth < in_of g c.process)
    pub counted : (v : ℕ) → g.version ≤ v → g.calls_in_version v ≡ length g.atomic.agreed
    pub rising : (v w : ℕ) → v ≤ w → g.calls_in_version v ≤ g.calls_in_version w
    pub start : g.atomic.start ≡ object.initial
    pub history : AcceptsAll object (at_start object.initial) g.acts g.atomic

  -- the board with all processes
  pub record IsSound (g : Board) (local : ℕ → Local) : Type 0 where
    pub board : IsBoard g
    pub each : (p : ℕ) → p < sizes.processes → IsAt g p (local p)
