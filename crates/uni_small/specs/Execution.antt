-- The machine of a small object: its words, what steps its processes take on them, and its executions, as plain data.
use Rattle.std.specs.Prelude.{◌≡◌, ℕ, ◌+◌, ◌*◌, ◌<◌, ◌≤◌, ◌==◌, List, [], ◌∷◌, ◌++◌, Option, Some, if◌then◌else◌}
use Rattle.std.specs.Prelude.{false, true, length, map, replicate, slice_index, slice_set}
use Rattle.seq_object.specs.Sequential.{Sequential}
use Rattle.uni_model.specs.AtomicObject.{Act, set_at}
use Rattle.uni_model.specs.AtomicObject.Act.{Invoke, Linearize, Respond}
use Rattle.uni_model.specs.Executions as Executions
use Rattle.uni_small.specs.Image.{AreWhole, Image, buffer_words, calls_seen, first_held, first_image, held_place}
use Rattle.uni_small.specs.Image.{joined, read_image, reply_place, spell, with_seen}
use Rattle.uni_small.specs.View.{Local, Read, announces, at_rest, begins_directly, confirms, goes, knows, recalls}
use Rattle.uni_small.specs.View.{returns, wrote}
use Rattle.uni_small.specs.View.Stage.{Idle, Ready, Reading, Writing, Last}
use Rattle.uni_small.specs.Board.{announce_word, argument_word, buffer_in, buffer_word, current_word, version_in}
use Rattle.uni_small.specs.Board.{words_before}
use Rattle.uni_small.specs.Invariant.{most_calls}
use Rattle.uni_small.specs.Plays.{begun, brought, brought_own, checked, checked_own, looked}
use Rattle.uni_small.specs.Plays.{has_begun, restarted, rests}
use Rattle.uni_small.specs.Standing.{HasComeTo, IsWritten}
use Rattle.uni_small.specs.declared.sizes.Sizes.{Sizes}

-- the shared words, of which word 0 is S: it names the present version and the buffer that has it; and where each process
-- stands
pub record Moment : Type 0 where
  pub words : List ℕ
  pub local : ℕ → Local

-- What a step does to one word. By what is found there: what the word becomes, where the process stands then, and which
-- acts of a history the step makes.
pub record Access : Type 0 where
  pub word : ℕ
  pub becomes : (found : ℕ) → ℕ
  pub leaves : (found : ℕ) → Local
  pub acts : (found : ℕ) → List (Act (List ℕ) (List ℕ))

-- a load, and a store, that make no act
abbrev pub load_of : (word : ℕ) → (leaves : (found : ℕ) → Local) → Access
load_of word leaves = record { word = word; becomes = λ found. found; leaves = leaves; acts = λ found. [] }

abbrev pub store_of : (word x : ℕ) → Local → Access
store_of word x l = record { word = word; becomes = λ found. x; leaves = λ found. l; acts = λ found. [] }

module _ (object : Sequential (List ℕ) (List ℕ) (List ℕ)) (sizes : Sizes) where
  -- The steps that process p can take next, by where it stands.
  pub data Next (p : ℕ) (l : Local) : Type 0 where
    -- between calls: a word of the next invocation is stored; the call is announced, whose invocation is stored; it is
    -- asked which version has come, or whether the one that was read is still the present one
    Store : (stored : List ℕ) (x : ℕ) → l.stage ≡ Idle stored → length stored < sizes.invocation
        → length l.own < most_calls
        → Next p l
    Announce : (inv : List ℕ) → l.stage ≡ Idle inv → length inv ≡ sizes.invocation → length l.own < most_calls
        → Next p l
    Follow : l.stage ≡ Idle [] → Next p l
    Recall : (read : Read) → l.stage ≡ Idle [] → l.read ≡ Some read → Next p l
    -- S is loaded, with which the direct attempt at a call begins, which isn't announced
    TryDirectly : l.stage ≡ Idle [] → l.direct ≡ false → length l.own < most_calls → Next p l
    -- an attempt: S is loaded; the words of the current buffer are; then each announcement is, after a new one the
    -- words of its invocation; and S again
    Start : (tries : ℕ) → l.stage ≡ Ready tries → tries < 2 → Next p l
    Copy : (tries s : ℕ) (copy : List ℕ) → l.stage ≡ Reading tries s copy [] → length copy < buffer_words sizes
        → Next p l
    Look : (tries s : ℕ) (copy : List ℕ) (seen : List (Option (List ℕ))) → l.stage ≡ Reading tries s copy seen
        → length copy ≡ buffer_words sizes → AreWhole sizes seen → length seen < sizes.processes → Next p l
    Ask : (tries s : ℕ) (copy : List ℕ) (seen : List (Option (List ℕ))) (part : List ℕ)
        → l.stage ≡ Reading tries s copy (seen ++ Some part ∷ [])
        → length seen < sizes.processes → length part < sizes.invocation → Next p l
    Check : (tries s : ℕ) (copy : List ℕ) (seen : List (Option (List ℕ))) → l.stage ≡ Reading tries s copy seen
        → length copy ≡ buffer_words sizes → AreWhole sizes seen → length seen ≡ sizes.processes → l.direct ≡ false
        → Next p l
    CheckOwn : (s : ℕ) (copy : List ℕ) (seen : List (Option (List ℕ))) → l.stage ≡ Reading 0 s copy seen
        → length copy ≡ buffer_words sizes → AreWhole sizes seen → length seen ≡ sizes.processes → l.direct ≡ true
        → Next p l
    -- a read ends where a direct attempt would look at the announcements: S is loaded again, and no call is made
    Confirm : (s : ℕ) (copy : List ℕ) → l.stage ≡ Reading 0 s copy [] → length copy ≡ buffer_words sizes
        → l.direct ≡ true → Next p l
    -- The next version is written to the spare buffer, a word a step: the copy with all seen calls applied, and in a
    -- direct attempt the own call too; the words before it are right already. Once all are, S is exchanged for a word
    -- that names this buffer, where S is still s. The invocation of a direct call is first named at the exchange: an
    -- execution may do more than the code, which has it from the first step on
    Write : (tries s : ℕ) (image : Image) (seen all : List (Option (List ℕ))) (written k : ℕ)
        → l.stage ≡ Writing tries s image seen written
        → HasComeTo object sizes p l image seen all written k → k < buffer_words sizes → Next p l
    Bring : (tries s : ℕ) (image : Image) (seen : List (Option (List ℕ))) (written : ℕ)
        → l.stage ≡ Writing tries s image seen written
        → IsWritten object sizes l image seen → l.direct ≡ false → Next p l
    BringOwn : (s : ℕ) (image : Image) (seen : List (Option (List ℕ))) (written : ℕ) (inv : List ℕ)
        → l.stage ≡ Writing 0 s image seen written
        → IsWritten object sizes l image (slice_set seen p (Some inv)) → l.direct ≡ true
        → length inv ≡ sizes.invocation → length l.own < most_calls
        → Next p l
    -- two attempts have failed: S is loaded once more
    Turn : (tries : ℕ) → l.stage ≡ Ready tries → 2 ≤ tries → l.direct ≡ false → Next p l
    -- the words of the reply are loaded, and with the last one the call returns
    Load : (s : ℕ) (loaded : List ℕ) → l.stage ≡ Last s loaded → length loaded + 1 < sizes.reply → Next p l
    Reply : (s : ℕ) (loaded : List ℕ) → l.stage ≡ Last s loaded → length loaded + 1 ≡ sizes.reply → Next p l
    -- wherever it stands, its seat may be taken over: its announcement is loaded; a word of its buffers is; and S is,
    -- by which its call begins again, or, where none has begun, its next call is awaited
    Recount : Next p l
    Reread : (which k : ℕ) → which ≤ 1 → k < buffer_words sizes → Next p l
    Restart : Next p l

  -- What such a step of process p does. An announcement invokes a call. An exchange of S that finds what its attempt
  -- began with makes the calls that the attempt saw take effect, in the order of their processes; that of a direct
  -- attempt invokes its own call first, which takes effect with them. The load of the last word of a reply responds. No
  -- other step makes an act. A direct call is invoked here at its exchange, later than where the code begins it. So
  -- more calls precede it than in the code, and the law is the stronger; before the exchange no other process can see
  -- it.
  abbrev pub access_of : (p : ℕ) (l : Local) → Next p l → Access
  access_of p l (Store stored x at inside room) = store_of (argument_word sizes p (length stored)) x (goes l (Idle (stored ++ x ∷ [])))
  access_of p l (Announce inv at whole few) = record {
    word = announce_word p;
    becomes = λ found. length l.own + 1;
    leaves = λ found. announces l inv;
    acts = λ found. Invoke p (length l.own) inv ∷ [];
  }
  access_of p l (Follow at) = load_of 0 (λ s. knows l (version_in s))
  access_of p l (Recall read at had) = load_of 0 (λ s. recalls l read.version (version_in s))
  access_of p l (TryDirectly at untried few) = load_of 0 (λ s. begins_directly l s (begun sizes p l.held s))
  access_of p l (Start tries at few) = load_of 0 (λ s. goes l (Reading tries s (begun sizes p l.held s) []))
  access_of p l (Copy tries s copy at more) =
      load_of (buffer_word sizes (buffer_in s) (length copy)) (λ found. goes l (Reading tries s (copy ++ found ∷ []) []))
  access_of p l (Look tries s copy seen at copied whole more) =
      load_of (announce_word (length seen)) (λ found. goes l (Reading tries s copy (seen ++ looked copy (length seen) found ∷ [])))
  access_of p l (Ask tries s copy seen part at inside more) =
      load_of (argument_word sizes (length seen) (length part)) (λ found. goes l (Reading tries s copy (seen ++ Some (part ++ found ∷ []) ∷ [])))
  access_of p l (Check tries s copy seen at copied whole all announced) =
      load_of 0 (λ found. goes l (checked sizes p (length l.own + 1) tries s copy seen found))
  access_of p l (CheckOwn s copy seen at copied whole all direct) = load_of 0 (λ found. goes l (checked_own sizes s copy seen found))
  access_of p l (Confirm s copy at copied direct) = load_of 0 (λ found. confirms l s (read_image sizes copy).state found)
  access_of p l (Write tries s image seen all written k at come inside) =
      let x = slice_index (spell (with_seen object image 0 all)) k in
      store_of (buffer_word sizes (2 * p + l.spare) k) x (wrote l k (held_place sizes l.spare k) x)
  access_of p l (Bring tries s image seen to at written announced) =
      let new = current_word (version_in s + 1) (2 * p + l.spare) in
      record {
        word = 0;
        becomes = λ found. if found == s then new else found;
        leaves = λ found. brought l tries s new found;
        acts = λ found. if found == s then map (λ c. Linearize c) (calls_seen image.applied 0 seen) else [];
      }
  access_of p l (BringOwn s image seen to inv at written direct whole few) =
      let new = current_word (version_in s + 1) (2 * p + l.spare) in
      record {
        word = 0;
        becomes = λ found. if found == s then new else found;
        leaves = λ found. brought_own l s new inv found;
        acts = λ found. if found == s
            then Invoke p (length l.own) inv ∷ map (λ c. Linearize c) (calls_seen image.applied 0 (slice_set seen p (Some inv)))
            else [];
      }
  access_of p l (Turn tries at two announced) = load_of 0 (λ s. goes l (Last s []))
  access_of p l (Load s loaded at more) =
      load_of (buffer_word sizes (buffer_in s) (reply_place sizes p (length loaded))) (λ found. goes l (Last s (loaded ++ found ∷ [])))
  access_of p l (Reply s loaded at last) = record {
    word = buffer_word sizes (buffer_in s) (reply_place sizes p (length loaded));
    becomes = λ found. found;
    leaves = λ found. returns l s (loaded ++ found ∷ []);
    acts = λ found. Respond p (length l.own) (loaded ++ found ∷ []) ∷ [];
  }
  access_of p l Recount = load_of (announce_word p) (λ found. rests l)
  access_of p l (Reread which k either below) = load_of (buffer_word sizes (2 * p + which) k) (λ found. rests l)
  access_of p l Restart = load_of 0 (λ s. restarted l p s (has_begun l.stage l.direct))

  -- the moment after process p has taken an access: one word and its own place have changed
  abbrev pub after_access : Moment → (p : ℕ) → Access → Moment
  after_access m p a = let found = slice_index m.words a.word in record {
    words = slice_set m.words a.word (a.becomes found);
    local = set_at m.local p (a.leaves found);
  }

  abbrev pub acts_at : Moment → Access → List (Act (List ℕ) (List ℕ))
  acts_at m a = a.acts (slice_index m.words a.word)

  -- process p can take such a step; the moment after it; and the acts that it makes
  abbrev pub CanTake : Moment → (p : ℕ) → Type 0
  CanTake m p = Next p (m.local p)

  abbrev pub after : (m : Moment) (p : ℕ) → CanTake m p → Moment
  after m p next = after_access m p (access_of p (m.local p) next)

  abbrev pub acts_of : (m : Moment) (p : ℕ) → CanTake m p → List (Act (List ℕ) (List ℕ))
  acts_of m p next = acts_at m (access_of p (m.local p) next)

  -- its executions, and what they make
  abbrev pub Execution : Moment → Type 0
  Execution m = Executions.Execution sizes.processes CanTake after m

  abbrev pub last_moment : {m : Moment} → Execution m → Moment
  last_moment e = Executions.last_moment sizes.processes CanTake after e

  abbrev pub goes_on : {m : Moment} (e : Execution m) → Execution (last_moment e) → Execution m
  goes_on e more = Executions.goes_on sizes.processes CanTake after e more

  abbrev pub all_acts : {m : Moment} → Execution m → List (Act (List ℕ) (List ℕ))
  all_acts e = Executions.all_acts sizes.processes CanTake after acts_of e

  abbrev pub KeepsOrder : {m : Moment} (e : Execution m) → Execution (last_moment e) → Type 0
  KeepsOrder e more = Executions.KeepsOrder sizes.processes CanTake after acts_of e more

  -- the opening: no process has a call, S is 0, and each buffer has the start state
  abbrev pub opened_moment : Moment
  opened_moment = record {
    words = replicate (words_before sizes) 0 ++ joined (replicate (2 * sizes.processes) (spell (first_image object sizes)));
    local = λ p. at_rest (first_held object sizes);
  }
