-- Where a seat stands, as its functions say it.
use Rattle.std.specs.Prelude.{Bool, false, true, slice_set, ◌⊎◌, ◌≡◌, ℕ, ◌+◌, ◌*◌, ◌<◌, ◌≤◌, List, [], ◌∷◌, ◌++◌}
use Rattle.std.specs.Prelude.{Option, Some, None, length, refl, slice_index}
use Rattle.atomic_table.specs.Table.{Me}
use Rattle.seq_object.specs.Sequential.{Sequential}
use Rattle.uni_small.specs.Image.{AreWhole, Image, buffer_words, counter_sizes, held_place, spell, with_seen}
use Rattle.uni_small.specs.View.{Local, Read, Stage, returns, written_to}
use Rattle.uni_small.specs.View.Stage.{Idle, Ready, Reading, Writing, Last}
use Rattle.uni_small.specs.Board.{buffer_in}
use Rattle.uni_small.specs.Plays.{IsLeft, stage_of}
use Rattle.uni_small.specs.declared.seat.Seen.{Seen}
use Rattle.uni_small.specs.declared.seat.Buffers.{Buffers}
use Rattle.uni_small.specs.declared.sizes.Sizes.{Sizes}
use Rattle.uni_small.specs.declared.view.View.{View}

-- the seat is that of process p alone, of an object of these sizes
pub record IsOf {O : Type 0} (o : O) (all : Sizes) (p : ℕ) (me : Me Seen (View O)) : Type 0 where
  pub object : me.0.object ≡ Some o
  pub sizes : me.0.known.sizes ≡ all
  pub first : me.0.known.first ≡ p
  pub alone : me.0.known.count ≡ 1

-- what its process knows
abbrev pub local_of : {O : Type 0} → Me Seen (View O) → Local
local_of me = me.0.known.local

-- a process after so many word steps, at this stage
abbrev pub went : Local → (words : ℕ) → Stage → Local
went l words stage = record l { stage = stage; steps = l.steps + words }

-- a seat has taken so many word steps of a call, is at this stage, and has changed in nothing else
abbrev pub GoesBy : {O : Type 0} → Me Seen (View O) → (words : ℕ) → Stage → Me Seen (View O) → Type 0
GoesBy me words stage me' = IsLeft me (went (local_of me) words stage) me'

-- it has taken at most so many
abbrev pub GoesWithin : {O : Type 0} → Me Seen (View O) → (most : ℕ) → Stage → Me Seen (View O) → Type 0
GoesWithin me most stage me' = (words : ℕ) × (words ≤ most) × GoesBy me words stage me'

-- no call is pending, and k words of the next invocation are stored
abbrev pub IsStoring : {O : Type 0} → (k : ℕ) → Me Seen (View O) → Type 0
IsStoring k me = (stored : List ℕ) × (stage_of me ≡ Idle stored) × (length stored ≡ k)

-- an attempt copies: it has so many words of the buffer
abbrev pub IsCopying : {O : Type 0} → (tries s k : ℕ) → Me Seen (View O) → Type 0
IsCopying tries s k me = (copy : List ℕ) × (stage_of me ≡ Reading tries s copy []) × (length copy ≡ k)

-- it has copied all of them, and looked at so many processes, with all words of their invocations
abbrev pub IsLooking : {O : Type 0} → Sizes → (tries s r : ℕ) → Me Seen (View O) → Type 0
IsLooking sizes tries s r me =
    (copy : List ℕ) × ((seen : List (Option (List ℕ))) × (stage_of me ≡ Reading tries s copy seen)
    × (length copy ≡ buffer_words sizes) × (length seen ≡ r) × AreWhole sizes seen)

-- the call of process r isn't in, and k words of its invocation are loaded
abbrev pub IsAsking : {O : Type 0} → (tries s r k : ℕ) → Me Seen (View O) → Type 0
IsAsking tries s r k me =
    (copy : List ℕ) × ((seen : List (Option (List ℕ))) × ((part : List ℕ)
    × (stage_of me ≡ Reading tries s copy (seen ++ Some part ∷ [])) × (length seen ≡ r) × (length part ≡ k)))

-- it has copied all of them, and this is the first row of the copy
abbrev pub HasCopy : {O : Type 0} → Sizes → (tries s : ℕ) → (applied : List ℕ) → Me Seen (View O) → Type 0
HasCopy sizes tries s applied me =
    (rest : List ℕ) × (stage_of me ≡ Reading tries s (applied ++ rest) [])
    × (length (applied ++ rest) ≡ buffer_words sizes)

-- what is applied by an attempt of process p that has seen so much: that, and where it is direct a call of its own too
abbrev pub AreApplied : Sizes → (direct : Bool) (p : ℕ) (seen all : List (Option (List ℕ))) → Type 0
AreApplied sizes direct p seen all =
    ((direct ≡ false) × (all ≡ seen))
    ⊎ ((direct ≡ true) × (inv : List ℕ) × (length inv ≡ sizes.invocation) × (all ≡ slice_set seen p (Some inv)))

-- the words of the spare buffer before this one are those of an image with all this applied
abbrev pub IsWrittenTo : Sequential (List ℕ) (List ℕ) (List ℕ) → Sizes → Local → Image → (all : List (Option (List ℕ)))
    → (k : ℕ) → Type 0
IsWrittenTo object sizes l image all k =
    (i : ℕ) → i < k → slice_index l.held (held_place sizes l.spare i) ≡ slice_index (spell (with_seen object image 0 all)) i

-- an attempt of process p has come to word k, and with all this applied what it has written is right
abbrev pub HasComeTo : Sequential (List ℕ) (List ℕ) (List ℕ) → Sizes → (p : ℕ) → Local → Image
    → (seen all : List (Option (List ℕ))) → (written k : ℕ) → Type 0
HasComeTo object sizes p l image seen all written k =
    AreApplied sizes l.direct p seen all × (written ≤ k) × IsWrittenTo object sizes l image all k

-- it writes its image, of which these are the words from word `from` on
abbrev pub HasRow : {O : Type 0} → Sequential (List ℕ) (List ℕ) (List ℕ) → Sizes → (from : ℕ) → (row : List ℕ)
    → Me Seen (View O) → Type 0
HasRow object sizes from row me =
    (tries : ℕ) × (s : ℕ) × (image : Image) × (seen : List (Option (List ℕ))) × (all : List (Option (List ℕ)))
    × (written : ℕ)
    × (stage_of me ≡ Writing tries s image seen written)
    × HasComeTo object sizes me.0.known.first (local_of me) image seen all written from
    × ((i : ℕ) → i < length row → slice_index row i ≡ slice_index (spell (with_seen object image 0 all)) (from + i))

-- it writes its image, of which word k is x
abbrev pub IsWriting : {O : Type 0} → Sequential (List ℕ) (List ℕ) (List ℕ) → Sizes → (k x : ℕ) → Me Seen (View O)
    → Type 0
IsWriting object sizes k x me =
    (tries : ℕ) × (s : ℕ) × (image : Image) × (seen : List (Option (List ℕ))) × (all : List (Option (List ℕ)))
    × (written : ℕ)
    × (stage_of me ≡ Writing tries s image seen written)
    × HasComeTo object sizes me.0.known.first (local_of me) image seen all written k
    × (x ≡ slice_index (spell (with_seen object image 0 all)) k)

-- the spare buffer has the words of an image with what was seen applied
abbrev pub IsWritten : Sequential (List ℕ) (List ℕ) (List ℕ) → Sizes → Local → Image → (seen : List (Option (List ℕ)))
    → Type 0
IsWritten object sizes l image seen = IsWrittenTo object sizes l image seen (buffer_words sizes)

-- it has written all of its image
abbrev pub HasWrittenAll : {O : Type 0} → Sequential (List ℕ) (List ℕ) (List ℕ) → Sizes → (tries s : ℕ)
    → Me Seen (View O) → Type 0
HasWrittenAll object sizes tries s me =
    (image : Image) × ((seen : List (Option (List ℕ))) × (written : ℕ)
    × (stage_of me ≡ Writing tries s image seen written)
    × IsWritten object sizes (local_of me) image seen)

-- it has written all of it, with a call of its own of this invocation
abbrev pub HasWrittenOwn : {O : Type 0} → Sequential (List ℕ) (List ℕ) (List ℕ) → Sizes → (s : ℕ) → (inv : List ℕ)
    → Me Seen (View O) → Type 0
HasWrittenOwn object sizes s inv me =
    (image : Image) × ((seen : List (Option (List ℕ))) × (written : ℕ) × (stage_of me ≡ Writing 0 s image seen written)
    × IsWritten object sizes (local_of me) image (slice_set seen me.0.known.first (Some inv)))

-- the call is in, and k words of its reply are loaded
abbrev pub IsLoading : {O : Type 0} → (s k : ℕ) → Me Seen (View O) → Type 0
IsLoading s k me = (loaded : List ℕ) × (stage_of me ≡ Last s loaded) × (length loaded ≡ k)

-- the attempt of a process is direct, or isn't
abbrev pub IsDirect : {O : Type 0} → Me Seen (View O) → Type 0
IsDirect me = (local_of me).direct ≡ true

abbrev pub IsAnnounced : {O : Type 0} → Me Seen (View O) → Type 0
IsAnnounced me = (local_of me).direct ≡ false

-- how many word steps an attempt takes at most, and a call: one direct attempt, and two after the announcement
abbrev pub attempt_steps : Sizes → ℕ
attempt_steps sizes = 2 * buffer_words sizes + sizes.processes + sizes.processes * sizes.invocation + 3

-- from the announcement on, with the words of the argument
abbrev pub announced_steps : Sizes → ℕ
announced_steps sizes =
    4 * sizes.state + (6 + 2 * sizes.invocation + 4 * sizes.reply) * sizes.processes + sizes.invocation + sizes.reply + 8

abbrev pub call_steps : Sizes → ℕ
call_steps sizes = attempt_steps sizes + announced_steps sizes

-- and a read of the state: one asks whether the version that was read last is still the present one, and where it
-- isn't, the others copy it
abbrev pub read_steps : Sizes → ℕ
read_steps sizes = buffer_words sizes + 3

-- two processes on a counter of one word
sample_steps : call_steps (counter_sizes 2) ≡ 55
sample_steps = refl

-- a seat has stored at most so many words of its spare buffer, of those from word `from` on; its buffers have these
-- words then, and it has changed in nothing else
abbrev pub WritesWithin : {O : Type 0} → Me Seen (View O) → (from most : ℕ) → (held : List ℕ) → Me Seen (View O)
    → Type 0
WritesWithin me from most held me' =
    (words : ℕ) × (words ≤ most) × (written : ℕ) × (written ≤ from + most)
    × IsLeft me (record (local_of me) { stage = written_to (stage_of me) written; held = held; steps = (local_of me).steps + words }) me'

-- where an attempt ends: the call is in, and its reply in the buffer that a word names, or the attempt has failed
abbrev pub end_of : (tries : ℕ) → (ended : Option ℕ) → Stage
end_of tries (Some s) = Last s []
end_of tries None = Ready (tries + 1)

abbrev pub IsEnd : Sizes → (ended : Option ℕ) → Type 0
IsEnd sizes (Some s) = buffer_in s < 2 * sizes.processes
IsEnd sizes None = Unit {0}

-- after at most so many word steps an attempt has ended, and these are the process's buffers
abbrev pub EndsWithin : {O : Type 0} → Sizes → (most tries : ℕ) → Me Seen (View O) → (ended : Option ℕ) → Buffers
    → Me Seen (View O) → Type 0
EndsWithin sizes most tries me ended own me' =
    (words : ℕ) × (words ≤ most) × IsEnd sizes ended
    × IsLeft me (record (local_of me) { stage = end_of tries ended; spare = own.spare; held = own.held.items; steps = (local_of me).steps + words }) me'

-- a reply of so many words is loaded from the buffer that s names, and its call has returned
abbrev pub ReplyEnds : {O : Type 0} → Me Seen (View O) → (s : ℕ) → (reply : List ℕ) → (words : ℕ) → Me Seen (View O)
    → Type 0
ReplyEnds me s reply words me' =
    IsLeft me (record (returns (local_of me) s reply) { steps = (local_of me).steps + words }) me'

-- where a direct attempt at a call of this invocation ends: the call is in, or none is pending
abbrev pub tried_directly : Local → (inv : List ℕ) → (ended : Option ℕ) → Buffers → (words : ℕ) → Local
tried_directly l inv (Some s) own words =
    record l { stage = Last s []; direct = true; inv = inv; spare = own.spare; held = own.held.items; steps = l.steps + words }
tried_directly l inv None own words =
    record l { stage = Idle []; direct = true; spare = own.spare; held = own.held.items; steps = l.steps + words }

abbrev pub TriesWithin : {O : Type 0} → Sizes → (most : ℕ) → Me Seen (View O) → (inv : List ℕ) → (ended : Option ℕ)
    → Buffers → Me Seen (View O) → Type 0
TriesWithin sizes most me inv ended own me' =
    (words : ℕ) × (words ≤ most) × IsEnd sizes ended × IsLeft me (tried_directly (local_of me) inv ended own words) me'

-- the version that a process's next calls come after, once it has read the state of one, or none
abbrev pub after_read : (after : ℕ) → (version : Option ℕ) → ℕ
after_read after (Some version) = version
after_read after None = after

-- and what it has read then
abbrev pub read_then : (before : Option Read) → (version : Option ℕ) → (state : List ℕ) → Option Read
read_then before (Some version) state = Some (record { version = version; state = state })
read_then before None state = before

-- a process has read this state of a version, or none, after some word steps, at most so many, and has no call pending
abbrev pub ReadsWithin : {O : Type 0} → (most : ℕ) → Me Seen (View O) → (version : Option ℕ) → (state : List ℕ)
    → Me Seen (View O) → Type 0
ReadsWithin most me version state me' =
    let l = local_of me in
    (words : ℕ) × (1 ≤ words) × (words ≤ most)
    × IsLeft me (record l {
      stage = Idle [];
      direct = false;
      after = after_read l.after version;
      read = read_then l.read version state;
      steps = l.steps + words;
    }) me'

-- a call has returned with this reply after at most so many word steps, and is in this version, which is greater than
-- the one that it comes after; the announcement of its process tells so many calls then
abbrev pub CallEnds : {O : Type 0} → (most told : ℕ) → Me Seen (View O) → (inv reply : List ℕ) → (version : ℕ)
    → Buffers → Me Seen (View O) → Type 0
CallEnds most told me inv reply version own me' =
    let l = local_of me in
    (words : ℕ) × (words ≤ most) × (l.after < version)
    × IsLeft me (record {
      stage = Idle [];
      direct = false;
      inv = inv;
      told = told;
      spare = own.spare;
      held = own.held.items;
      after = version;
      own = l.own ++ record { inv = inv; reply = reply; after = l.after; version = version } ∷ [];
      read = None;
      steps = l.steps + words;
    }) me'
