-- What a step tells the seat that takes it, and how a seat is split.
use Rattle.std.specs.Prelude.{Bool, false, true, ◌≡◌, ℕ, ◌+◌, ◌-◌, ◌*◌, ◌/◌, ◌%◌, ◌<◌, ◌≤◌, ◌==◌, List, [], ◌∷◌, ◌++◌}
use Rattle.std.specs.Prelude.{Option, None, Some, if◌then◌else◌, nat_le, refl}
use Rattle.std.specs.Prelude.{drop, length, slice_index, take}
use mathlib.Core.Option.{some}
use Rattle.atomic_table.specs.Table.{Me, Step}
use Rattle.uni_small.specs.Image.{AreWidths, Image, IsReached, Meaning, buffer_words, counter_sizes, first_held}
use Rattle.uni_small.specs.Image.{held_place, read_image}
use Rattle.uni_small.specs.View.{Local, ProcessReturned, Read, Stage, announces, at_rest, begins_directly, brings_own}
use Rattle.uni_small.specs.View.{confirms, everyone, goes, brings, recalls, returns, knows, wrote}
use Rattle.uni_small.specs.View.Stage.{Idle, Ready, Reading, Writing, Last}
use Rattle.uni_small.specs.Board.{buffer_in, buffer_word, version_in}
use Rattle.uni_small.specs.Final.{IsVersion}
use Rattle.uni_small.specs.Invariant.{most_calls}
use Rattle.uni_small.specs.declared.seat.Seen.{Seen}
use Rattle.uni_small.specs.declared.sizes.Sizes.{Sizes}
use Rattle.uni_small.specs.declared.view.View.{View}

abbrev pub first_view : {O : Type 0} → (meaning : O → Meaning) → O → Sizes → View O
first_view meaning o sizes = record { marker = record {}; known = everyone sizes (first_held (meaning o).object sizes); object = Some o }

-- the first process of a seat, and the others
abbrev pub first_alone : {O : Type 0} → View O → View O
first_alone v = record v { known = record v.known { count = 1; taken = [] } }

abbrev pub others : {O : Type 0} → View O → View O
others v = record v { known = record v.known { first = v.known.first + 1; count = v.known.count - 1 } }

-- a seat's first process with its calls
abbrev pub own_in_view : {O : Type 0} → View O → ProcessReturned
own_in_view v = record { process = v.known.first; calls = v.known.local.own }

-- a seat that takes in another one knows its calls too; the other one is left with no process
abbrev pub took_in : {O : Type 0} → View O → View O → View O
took_in v x = record v { known = record v.known { taken = v.known.taken ++ own_in_view x ∷ x.known.taken } }

abbrev pub nobody : {O : Type 0} → View O
nobody =
    record { marker = record {}; known = everyone (record { processes = 0; state = 0; invocation = 0; reply = 0 }) []; object = None }

-- a seat is left with this local, and has changed in nothing else
abbrev pub with_local : {O : Type 0} → View O → Local → View O
with_local v l = record v { known = record v.known { local = l } }

abbrev pub IsLeft : {O : Type 0} → Me Seen (View O) → Local → Me Seen (View O) → Type 0
IsLeft me l me' = me' ≡ (with_local me.0 l, me.1)

abbrev pub stage_of : {O : Type 0} → Me Seen (View O) → Stage
stage_of me = me.0.known.local.stage

-- it goes to this stage
abbrev pub Goes : {O : Type 0} → Me Seen (View O) → Stage → Me Seen (View O) → Type 0
Goes me stage me' = IsLeft me (goes me.0.known.local stage) me'

-- one more word of the next invocation is stored
abbrev pub HasStored : {O : Type 0} → Step Seen → Me Seen (View O) → (x : ℕ) → Me Seen (View O) → Type 0
HasStored step me x me' = (stored : List ℕ) → stage_of me ≡ Idle stored → Goes me (Idle (stored ++ x ∷ [])) me'

abbrev pub HasAnnounced : {O : Type 0} → Step Seen → Me Seen (View O) → ℕ → Me Seen (View O) → Type 0
HasAnnounced step me number me' = (inv : List ℕ) → stage_of me ≡ Idle inv
    → IsLeft me (announces me.0.known.local inv) me'

-- a word S that was found names a buffer, and its version leaves room for more
abbrev pub IsNamed : Sizes → (s : ℕ) → Type 0
IsNamed sizes s = (buffer_in s < 2 * sizes.processes) × (version_in s ≤ sizes.processes * most_calls)

-- the words of the first or second one of a process's two buffers
abbrev pub words_held : Sizes → (held : List ℕ) → (which : ℕ) → List ℕ
words_held sizes held which = take (buffer_words sizes) (drop (which * buffer_words sizes) held)

-- what an attempt of process p has of the buffer that s names when it begins: all its words where it is one of the
-- process's own, and else none
abbrev pub begun : Sizes → (p : ℕ) → (held : List ℕ) → (s : ℕ) → List ℕ
begun sizes p held s = if buffer_in s / 2 == p then words_held sizes held (buffer_in s % 2) else []

abbrev pub HasStarted : {O : Type 0} → Step Seen → Me Seen (View O) → (s : ℕ) → Me Seen (View O) → Type 0
HasStarted step me s me' =
    let v = me.0.known in
    (tries : ℕ) → stage_of me ≡ Ready tries → Goes me (Reading tries s (begun v.sizes v.first v.local.held s) []) me'
    × IsNamed v.sizes s

-- a direct attempt begins
abbrev pub HasBegun : {O : Type 0} → Step Seen → Me Seen (View O) → (s : ℕ) → Me Seen (View O) → Type 0
HasBegun step me s me' =
    let v = me.0.known in
    stage_of me ≡ Idle [] → IsLeft me (begins_directly v.local s (begun v.sizes v.first v.local.held s)) me'
    × IsNamed v.sizes s

abbrev pub HasCopied : {O : Type 0} → Step Seen → Me Seen (View O) → (found : ℕ) → Me Seen (View O) → Type 0
HasCopied step me found me' =
    (tries s : ℕ) (copy : List ℕ) → stage_of me ≡ Reading tries s copy []
    → Goes me (Reading tries s (copy ++ found ∷ []) []) me'

-- what is seen of process r by this announcement: no call to apply where the copy has as many, and else one of whose
-- invocation no word is loaded
abbrev pub looked : (copy : List ℕ) → (r found : ℕ) → Option (List ℕ)
looked copy r found = if nat_le found (slice_index copy r) then None else Some []

abbrev pub HasLooked : {O : Type 0} → Step Seen → Me Seen (View O) → (found : ℕ) → Me Seen (View O) → Type 0
HasLooked step me found me' =
    (tries s : ℕ) (copy : List ℕ) (seen : List (Option (List ℕ))) → stage_of me ≡ Reading tries s copy seen
    → Goes me (Reading tries s copy (seen ++ looked copy (length seen) found ∷ [])) me'

-- one more word of the invocation that was seen last is loaded
abbrev pub HasAsked : {O : Type 0} → Step Seen → Me Seen (View O) → (found : ℕ) → Me Seen (View O) → Type 0
HasAsked step me found me' =
    (tries s : ℕ) (copy : List ℕ) (seen : List (Option (List ℕ))) (part : List ℕ)
    → stage_of me ≡ Reading tries s copy (seen ++ Some part ∷ [])
    → Goes me (Reading tries s copy (seen ++ Some (part ++ found ∷ []) ∷ [])) me'

-- where S is as it was, the copy was good: the call is in already, or the spare buffer is written
abbrev pub checked : Sizes → (p made tries s : ℕ) (copy : List ℕ) (seen : List (Option (List ℕ))) (found : ℕ) → Stage
checked sizes p made tries s copy seen found =
    if found == s
    then (if slice_index copy p == made then Last s [] else Writing tries s (read_image sizes copy) seen 0)
    else Ready (tries + 1)

-- an image is that of a state that calls lead to, and counts no more calls than there can be; and the sizes are the
-- object's
abbrev pub IsGood : Meaning → Sizes → Image → Type 0
IsGood meaning sizes image =
    AreWidths meaning sizes × IsReached meaning.object image.state
    × ((r : ℕ) → r < sizes.processes → slice_index image.applied r ≤ most_calls)

abbrev pub HasChecked : {O : Type 0} → Meaning → Step Seen → Me Seen (View O) → (found : ℕ) → Me Seen (View O) → Type 0
HasChecked meaning step me found me' =
    (tries s : ℕ) (copy : List ℕ) (seen : List (Option (List ℕ))) → stage_of me ≡ Reading tries s copy seen
    → let v = me.0.known in
    Goes me (checked v.sizes v.first (length v.local.own + 1) tries s copy seen found) me'
    × (found ≡ s → IsGood meaning v.sizes (read_image v.sizes copy))

-- the same for a direct attempt: where S has changed, no call is pending
abbrev pub checked_own : Sizes → (s : ℕ) (copy : List ℕ) (seen : List (Option (List ℕ))) (found : ℕ) → Stage
checked_own sizes s copy seen found = if found == s then Writing 0 s (read_image sizes copy) seen 0 else Idle []

abbrev pub HasCheckedOwn : {O : Type 0} → Meaning → Step Seen → Me Seen (View O) → (found : ℕ) → Me Seen (View O)
    → Type 0
HasCheckedOwn meaning step me found me' =
    (s : ℕ) (copy : List ℕ) (seen : List (Option (List ℕ))) → stage_of me ≡ Reading 0 s copy seen
    → let v = me.0.known in
    Goes me (checked_own v.sizes s copy seen found) me' × (found ≡ s → IsGood meaning v.sizes (read_image v.sizes copy))

-- word k of the spare buffer is x
abbrev pub HasWritten : {O : Type 0} → Step Seen → Me Seen (View O) → (x : ℕ) → Me Seen (View O) → Type 0
HasWritten step me x me' =
    let v = me.0.known in
    (k : ℕ) → step.word ≡ buffer_word v.sizes (2 * v.first + v.local.spare) k
    → IsLeft me (wrote v.local k (held_place v.sizes v.local.spare k) x) me'

-- where the exchange finds what the attempt began with, the spare buffer is current
abbrev pub brought : Local → (tries s new found : ℕ) → Local
brought l tries s new found = if found == s then brings l new else goes l (Ready (tries + 1))

abbrev pub HasBrought : {O : Type 0} → Step Seen → Me Seen (View O) → (found : ℕ) → Me Seen (View O) → Type 0
HasBrought step me found me' =
    (tries s written : ℕ) (image : Image) (seen : List (Option (List ℕ)))
    → stage_of me ≡ Writing tries s image seen written
    → IsLeft me (brought me.0.known.local tries s step.second found) me'

-- the same for a direct attempt at a call of this invocation
abbrev pub brought_own : Local → (s new : ℕ) → (inv : List ℕ) → (found : ℕ) → Local
brought_own l s new inv found = if found == s then brings_own l new inv else goes l (Idle [])

abbrev pub HasBroughtOwn : {O : Type 0} → Step Seen → Me Seen (View O) → (found : ℕ) → Me Seen (View O) → Type 0
HasBroughtOwn step me found me' =
    (s written : ℕ) (image : Image) (seen : List (Option (List ℕ))) (its : Seen)
    → stage_of me ≡ Writing 0 s image seen written → step.said ≡ some its
    → IsLeft me (brought_own me.0.known.local s step.second its.invocation.items found) me'

abbrev pub HasTurned : {O : Type 0} → Step Seen → Me Seen (View O) → (s : ℕ) → Me Seen (View O) → Type 0
HasTurned step me s me' =
    (tries : ℕ) → stage_of me ≡ Ready tries → 2 ≤ tries → Goes me (Last s []) me' × IsNamed me.0.known.sizes s

-- one more word of the reply is loaded
abbrev pub HasLoaded : {O : Type 0} → Step Seen → Me Seen (View O) → (found : ℕ) → Me Seen (View O) → Type 0
HasLoaded step me found me' =
    (s : ℕ) (loaded : List ℕ) → stage_of me ≡ Last s loaded → Goes me (Last s (loaded ++ found ∷ [])) me'

-- its last word is: the version that a call is in is greater than the one that it comes after
abbrev pub HasReplied : {O : Type 0} → Step Seen → Me Seen (View O) → (found : ℕ) → Me Seen (View O) → Type 0
HasReplied step me found me' =
    (s : ℕ) (loaded : List ℕ) → stage_of me ≡ Last s loaded
    → let l = me.0.known.local in IsLeft me (returns l s (loaded ++ found ∷ [])) me' × (l.after < version_in s)

-- the version that S names is no smaller than the one that the process knew of
abbrev pub HasFollowed : {O : Type 0} → Step Seen → Me Seen (View O) → (s : ℕ) → Me Seen (View O) → Type 0
HasFollowed step me s me' =
    stage_of me ≡ Idle [] → let l = me.0.known.local in IsLeft me (knows l (version_in s)) me'
    × (l.after ≤ version_in s)

-- The load of S that ends a read. Where S is as it was, the copy has the state of the version that it names, after a
-- history in which the process takes its own calls; and that version is no smaller than the one that it knew of.
abbrev pub HasConfirmed : {O : Type 0} → Meaning → Step Seen → Me Seen (View O) → (found : ℕ) → Me Seen (View O)
    → Type 0
HasConfirmed meaning step me found me' =
    (s : ℕ) (copy : List ℕ) → stage_of me ≡ Reading 0 s copy []
    → let v = me.0.known in
    IsLeft me (confirms v.local s (read_image v.sizes copy).state found) me'
    × (found ≡ s → AreWidths meaning v.sizes × (v.local.after ≤ version_in s)
    × IsVersion meaning.object v.sizes.processes (own_in_view me.0 ∷ []) (version_in s) (read_image v.sizes copy).state)

-- The load of S by which a process asks whether the version that it has read is still the present one. Where it is,
-- that version has the state that was read, as above.
abbrev pub HasRecalled : {O : Type 0} → Meaning → Step Seen → Me Seen (View O) → (s : ℕ) → Me Seen (View O) → Type 0
HasRecalled meaning step me s me' =
    (read : Read) → stage_of me ≡ Idle [] → me.0.known.local.read ≡ Some read
    → let v = me.0.known in
    IsLeft me (recalls v.local read.version (version_in s)) me'
    × (version_in s ≡ read.version → AreWidths meaning v.sizes × (v.local.after ≤ read.version)
    × IsVersion meaning.object v.sizes.processes (own_in_view me.0 ∷ []) read.version read.state)

-- a process that has taken a step more, and else is where it was
abbrev pub rests : Local → Local
rests l = record l { steps = l.steps + 1 }

-- whether the call of a process has begun: it was announced, or has taken effect; a direct attempt that hasn't ended
-- has begun none
abbrev pub has_begun : Stage → (direct : Bool) → Bool
has_begun (Idle stored) direct = false
has_begun (Ready tries) direct = if direct then false else true
has_begun (Reading tries s copy seen) direct = if direct then false else true
has_begun (Writing tries s image seen written) direct = if direct then false else true
has_begun (Last s loaded) direct = true

-- the call of a process, if it has begun, was announced, and so its announcement tells it
abbrev pub TellsCall : Local → Type 0
TellsCall l = has_begun l.stage l.direct ≡ true → l.told ≡ length l.own + 1

-- how many calls a process has begun, of which so many have returned
abbrev pub begun_by : (begun : Bool) → (own : ℕ) → ℕ
begun_by true own = own + 1
begun_by false own = own

-- Whatever a process is at, it may load its announcement, which tells at most as many calls as it has begun: a call by
-- a direct attempt isn't announced.
abbrev pub HasRecounted : {O : Type 0} → Step Seen → Me Seen (View O) → (found : ℕ) → Me Seen (View O) → Type 0
HasRecounted step me found me' =
    let l = me.0.known.local in
    IsLeft me (rests l) me' × (found ≡ l.told) × (found ≤ begun_by (has_begun l.stage l.direct) (length l.own))
    × (length l.held ≡ 2 * buffer_words me.0.known.sizes)
    × (begun_by (has_begun l.stage l.direct) (length l.own) ≤ most_calls)

-- and what its buffers hold
abbrev pub HasReread : {O : Type 0} → Step Seen → Me Seen (View O) → (found : ℕ) → Me Seen (View O) → Type 0
HasReread step me found me' =
    let v = me.0.known in
    IsLeft me (rests v.local) me'
    × ((which k : ℕ) → which ≤ 1 → k < buffer_words v.sizes → step.word ≡ buffer_word v.sizes (2 * v.first + which) k
    → found ≡ slice_index v.local.held (held_place v.sizes which k))

-- which buffer of process p may be its spare one, where S is s: one that isn't current
abbrev pub spare_at : (p s : ℕ) → ℕ
spare_at p s = if buffer_in s == 2 * p + 1 then 0 else 1

-- Wherever a process stands, it may begin again: its call from the announcement, or, where none has begun, before its
-- next call, at which no direct attempt was made.
abbrev pub restarted : Local → (p s : ℕ) → (begun : Bool) → Local
restarted l p s begun =
    record l { stage = if begun then Ready 0 else Idle []; direct = false; spare = spare_at p s; steps = l.steps + 1 }

abbrev pub HasRestarted : {O : Type 0} → Step Seen → Me Seen (View O) → (s : ℕ) → Me Seen (View O) → Type 0
HasRestarted step me s me' =
    let l = me.0.known.local in
    (begun : Bool) → has_begun l.stage l.direct ≡ begun → IsLeft me (restarted l me.0.known.first s begun) me'

-- One that fails twice: at the exchange of its first attempt S is another one, and then at the check of its second one.
-- An attempt whose exchange finds what it began with is at its end, and so is one whose copy has the call.
sample_misses : (brought (at_rest []) 0 128 257 256).stage ≡ Ready 1
sample_misses = refl

sample_misses_again : checked (counter_sizes 2) 0 1 1 256 (0 ∷ 4 ∷ 0 ∷ 7 ∷ 9 ∷ []) (Some (5 ∷ []) ∷ None ∷ []) 384 ≡ Ready 2
sample_misses_again = refl

sample_brings : (brought (at_rest []) 0 128 257 128).stage ≡ Last 257 []
sample_brings = refl

sample_is_in : checked (counter_sizes 2) 0 1 1 256 (1 ∷ 4 ∷ 0 ∷ 7 ∷ 9 ∷ []) (None ∷ None ∷ []) 256 ≡ Last 256 []
sample_is_in = refl

-- process 0 of two: buffer 1 is its own, with the state 9, and buffer 2 is that of process 1
sample_own : begun (counter_sizes 2) 0 (0 ∷ 0 ∷ 0 ∷ 0 ∷ 5 ∷ 1 ∷ 0 ∷ 5 ∷ 0 ∷ 9 ∷ []) 129 ≡ 1 ∷ 0 ∷ 5 ∷ 0 ∷ 9 ∷ []
sample_own = refl

sample_of_another : begun (counter_sizes 2) 0 (0 ∷ 0 ∷ 0 ∷ 0 ∷ 5 ∷ 1 ∷ 0 ∷ 5 ∷ 0 ∷ 9 ∷ []) 258 ≡ []
sample_of_another = refl

-- a process that has read version 3 follows it where it is still the present one
sample_recalls : (recalls (at_rest []) 3 3).after ∷ (recalls (at_rest []) 3 4).after ∷ [] ≡ 3 ∷ 0 ∷ []
sample_recalls = refl
