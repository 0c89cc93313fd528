-- What a step tells the seat that takes it, and how a seat is split.
use Rattle.std.specs.Prelude.{◌≡◌, ◌≢◌, ◌⊎◌, ℕ, ◌+◌, ◌-◌, ◌*◌, ◌<◌, ◌≤◌, [], ◌∷◌, ◌++◌, Option, None, Some, replicate}
use Rattle.std.specs.Prelude.{slice_set}
use Rattle.seq_object.specs.Sequential.{Sequential}
use Rattle.uni_any.specs.Content.{applied_in, row_in}
use Rattle.uni_any.specs.Final.{KnownCalls}
use Rattle.uni_any.specs.declared.view.Image.{Image}
use Rattle.uni_any.specs.declared.view.Returned.{Returned}
use Rattle.uni_any.specs.Board.{block_news, call_news, made_by, number_in, pending_of, process_in}
use Rattle.uni_any.specs.Invariant.{IsWhole, base_of, most_calls, seen_of}
use Rattle.uni_any.specs.News.{drafted, first_told, first_version, told_by}
use Rattle.uni_any.specs.Shown.{Letter}
use Rattle.uni_any.specs.Versions.{IsVersionOf}
use Rattle.uni_any.specs.declared.view.Local.{Local}
use Rattle.uni_any.specs.declared.view.Stage.{Stage}
use Rattle.uni_any.specs.declared.view.Stage.TheVariants.{Idle, Posting, Ready, Reading, Writing}
use Rattle.uni_any.specs.declared.view.Told.{Told}
use Rattle.uni_any.specs.declared.view.View.{View}

abbrev pub at_rest : {S I R : Type 0} → Sequential S I R → (n : ℕ) → Local I S R
at_rest object n = record {
  stage = Idle;
  after = 0;
  own = [];
  word = 0;
  last = first_version object n;
  written = first_told object n;
  seen = replicate n (first_told object n);
}

abbrev pub first_view : {O S I R : Type 0} → (O → Sequential S I R) → O → (n : ℕ) → View O I S R
first_view meaning o n = record {
  object = o;
  known = record { processes = n; first = 0; count = n; local = at_rest (meaning o) n };
}

module _ {I S R : Type 0} where
  -- the invocation is written next for process r
  abbrev pub IsPostingAt : I → (r : ℕ) → Stage I S R → Type 0
  IsPostingAt inv r stage = ((r ≡ 0) × (stage ≡ Idle)) ⊎ (stage ≡ Posting inv r)

  -- a call is pending: it is announced to all of n, or so many attempts have failed, or one was left
  abbrev pub IsPendingAt : (n : ℕ) → I → (tries : ℕ) → Stage I S R → Type 0
  IsPendingAt n inv tries stage =
      (stage ≡ Ready inv tries)
      ⊎ ((tries ≡ 0) × ((stage ≡ Posting inv n) ⊎ ((t : ℕ) × (r : ℕ) × (stage ≡ Reading inv t r))))

  -- the block is written next for process r: the version that was found with the calls that come next
  abbrev pub IsLayingAt : Sequential S I R → (n : ℕ) → I → (tries : ℕ) → Image S R → (r : ℕ) → Local I S R → Type 0
  IsLayingAt object n inv tries image r l =
      ((r ≡ 0) × (l.stage ≡ Reading inv tries n) × (image ≡ drafted object (base_of object n l).image l.seen))
      ⊎ (l.stage ≡ Writing inv tries image r)

module _ {O I S R : Type 0} where
  abbrev pub local_of : View O I S R → Local I S R
  local_of v = v.known.local

  abbrev pub stage_of : View O I S R → Stage I S R
  stage_of v = v.known.local.stage

  -- a seat is left with this local
  abbrev pub with_local : View O I S R → Local I S R → View O I S R
  with_local v l = record v { known = record v.known { local = l } }

  abbrev pub goes : View O I S R → Stage I S R → View O I S R
  goes v stage = with_local v (record v.known.local { stage = stage })

  abbrev pub IsPosting : I → (r : ℕ) → View O I S R → Type 0
  IsPosting inv r v = IsPostingAt inv r (stage_of v)

  abbrev pub HasPosted : View O I S R → (to : ℕ) → Letter I S R → View O I S R → Type 0
  HasPosted v to letter w =
      (inv : I) → IsPosting inv to v → told_by letter ≡ call_news (local_of v) inv → w ≡ goes v (Posting inv (to + 1))

  abbrev pub IsPending : I → (tries : ℕ) → View O I S R → Type 0
  IsPending inv tries v = IsPendingAt v.known.processes inv tries (stage_of v)

-- what is written for all as an attempt begins
abbrev pub written_then : {I S R : Type 0} → Local I S R → Stage I S R → Told I S R
written_then l Idle = l.written
written_then l (Posting inv count) = call_news l inv
written_then l (Ready inv tries) = l.written
written_then l (Reading inv tries count) = l.written
written_then l (Writing inv tries image count) = l.written

-- an attempt begins with the word that was loaded
abbrev pub started : {I S R : Type 0} → Local I S R → I → (tries word : ℕ) → Local I S R
started l inv tries word = record l { stage = Reading inv tries 0; word = word; written = written_then l l.stage }

-- the process has taken this, or found nothing
abbrev pub with_seen : {I S R : Type 0} → Local I S R → (from : ℕ) → Option (Letter I S R) → Local I S R
with_seen l from None = l
with_seen l from (Some letter) = record l { seen = slice_set l.seen from (told_by letter) }

-- its call that returns with this reply: it is in the version of this number
abbrev pub ending : {I S R : Type 0} → Local I S R → I → R → (number : ℕ) → Returned I R
ending l inv reply number = record { inv = inv; reply = reply; after = l.after; version = number }

abbrev pub returns : {I S R : Type 0} → Local I S R → I → R → (number : ℕ) → Local I S R
returns l inv reply number =
    record l { stage = Idle; after = number; own = l.own ++ ending l inv reply number ∷ [] }

abbrev pub viewing : {I S R : Type 0} → Local I S R → (word : ℕ) → Local I S R
viewing l word = record l { word = word; after = number_in word }

-- the calls of the one process of a seat
abbrev pub calls_of : {O I S R : Type 0} → View O I S R → KnownCalls I R
calls_of v = record { process = v.known.first; own = v.known.local.own; pending = pending_of v.known.local.stage }

module _ {O I S R : Type 0} where
  abbrev pub HasStarted : View O I S R → ℕ → View O I S R → Type 0
  HasStarted v word w =
      (inv : I) (tries : ℕ) → IsPending inv tries v
      → (process_in word < v.known.processes) × (word < 64 * (64 * most_calls + 1))
      × (w ≡ with_local v (started (local_of v) inv tries word))

  -- With all buffers looked into there is a version. Where it has the call, the call returns; where not, at most one
  -- attempt has failed.
  pub record HasFound (meaning : O → Sequential S I R) (v : View O I S R) (inv : I) (tries : ℕ) (l : Local I S R)
      (w : View O I S R) : Type 0 where
    pub whole : IsWhole v.known.processes (base_of (meaning v.object) v.known.processes l).image
    pub least : number_in l.word ≤ (base_of (meaning v.object) v.known.processes l).number
    pub ends : applied_in (base_of (meaning v.object) v.known.processes l).image v.known.first ≡ made_by l + 1
        → (x : R) × ((row_in (base_of (meaning v.object) v.known.processes l).image v.known.first).reply ≡ Some x)
        × (l.after < (base_of (meaning v.object) v.known.processes l).number)
        × (w ≡ with_local v (returns l inv x (base_of (meaning v.object) v.known.processes l).number))
    pub goes_on : applied_in (base_of (meaning v.object) v.known.processes l).image v.known.first ≢ made_by l + 1
        → (applied_in (base_of (meaning v.object) v.known.processes l).image v.known.first ≡ made_by l) × (tries < 2)
        × ((seen_of (meaning v.object) v.known.processes l v.known.first).call ≡ made_by l + 1)
        × ((seen_of (meaning v.object) v.known.processes l v.known.first).inv ≡ Some inv)
        × (w ≡ with_local v (record l { stage = Reading inv tries v.known.processes }))

  -- it looks into the next buffer
  abbrev pub HasLearned : (O → Sequential S I R) → View O I S R → (from : ℕ) → Option (Letter I S R) → View O I S R → Type 0
  HasLearned meaning v from found w =
      (inv : I) (tries : ℕ) → stage_of v ≡ Reading inv tries from → from < v.known.processes
      → let l = with_seen (local_of v) from found in
      (from + 1 < v.known.processes → w ≡ with_local v (record l { stage = Reading inv tries (from + 1) }))
      × (from + 1 ≡ v.known.processes → HasFound meaning v inv tries l w)

  abbrev pub IsLaying : (O → Sequential S I R) → I → (tries : ℕ) → Image S R → (r : ℕ) → View O I S R → Type 0
  IsLaying meaning inv tries image r v =
      IsLayingAt (meaning v.object) v.known.processes inv tries image r (local_of v)

  abbrev pub HasLaid : (O → Sequential S I R) → View O I S R → (to : ℕ) → Letter I S R → View O I S R → Type 0
  HasLaid meaning v to letter w =
      (inv : I) (tries : ℕ) (image : Image S R) → IsLaying meaning inv tries image to v
      → told_by letter ≡ block_news (local_of v) inv image → w ≡ goes v (Writing inv tries image (to + 1))

-- what a process is after its exchange: with the block brought in, or not
abbrev pub brought : {I S R : Type 0} → Local I S R → I → R → Image S R → Local I S R
brought l inv x image =
    record (returns l inv x (number_in l.word + 1)) {
      last = record { number = number_in l.word + 1; image = image };
      written = block_news l inv image;
    }

abbrev pub missed : {I S R : Type 0} → Local I S R → I → (tries : ℕ) → Image S R → Local I S R
missed l inv tries image = record l { stage = Ready inv (tries + 1); written = block_news l inv image }

module _ {O I S R : Type 0} where
  -- where the exchange finds what the attempt began with, the block is in, and the call returns
  abbrev pub HasBrought : View O I S R → ℕ → View O I S R → Type 0
  HasBrought v found w =
      (inv : I) (tries : ℕ) (image : Image S R) → stage_of v ≡ Writing inv tries image v.known.processes
      → let l = local_of v in
      (found ≡ l.word → (x : R) × ((row_in image v.known.first).reply ≡ Some x) × (l.after < number_in l.word + 1)
      × (w ≡ with_local v (brought l inv x image)))
      × (found ≢ l.word → w ≡ with_local v (missed l inv tries image))

  -- between calls S is loaded, and the seat follows the version that it names
  abbrev pub HasViewed : View O I S R → ℕ → View O I S R → Type 0
  HasViewed v word w =
      stage_of v ≡ Idle
      → (process_in word < v.known.processes) × ((local_of v).after ≤ number_in word)
      × (w ≡ with_local v (viewing (local_of v) word))

  -- then what the process that S named has written is taken; in it is that version, or a later one, which the seat follows
  -- from then on
  abbrev pub HasSeen : (O → Sequential S I R) → View O I S R → (from : ℕ) → Option (Letter I S R) → View O I S R → Type 0
  HasSeen meaning v from found w =
      stage_of v ≡ Idle → from ≡ process_in (local_of v).word → (local_of v).after ≡ number_in (local_of v).word
      → let l = with_seen (local_of v) from found in
      let version = base_of (meaning v.object) v.known.processes l in
      ((local_of v).after ≤ version.number)
      × IsVersionOf (meaning v.object) v.known.processes (calls_of v ∷ []) version.number version.image
      × (w ≡ with_local v (record l { after = version.number }))

  -- the first process of a seat, and the others
  abbrev pub first_alone : View O I S R → View O I S R
  first_alone v = record v { known = record v.known { count = 1 } }

  abbrev pub others : View O I S R → View O I S R
  others v = record v { known = record v.known { first = v.known.first + 1; count = v.known.count - 1 } }
