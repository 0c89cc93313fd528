-- The machine of any object: what lies in its words and buffers, and what steps its processes take.
use Rattle.std.specs.Prelude.{◌≡◌, ◌≢◌, ℕ, ◌+◌, ◌<◌, ◌==◌, List, [], ◌∷◌, ◌++◌, if◌then◌else◌}
use Rattle.std.specs.Prelude.{Option, None, Some, map, refl, suc, zero}
use Rattle.seq_object.specs.Sequential.{Sequential, counter}
use Rattle.triple_buffers.specs.Contents.{with_value}
use Rattle.uni_model.specs.AtomicObject.{Act, Invoked, set_at}
use Rattle.uni_model.specs.AtomicObject.Act.{Invoke, Linearize, Respond}
use Rattle.uni_any.specs.Content.{applied_in, row_in}
use Rattle.uni_any.specs.declared.view.Image.{Image}
use Rattle.uni_any.specs.Board.{block_news, call_news, made_by, number_in, pending_of, process_in, word_of}
use Rattle.uni_model.specs.Executions as Executions
use Rattle.uni_any.specs.Invariant.{base_of, most_calls}
use Rattle.uni_any.specs.News.{told_by}
use Rattle.uni_any.specs.Plays.{IsLayingAt, IsPendingAt, IsPostingAt, at_rest, brought, missed, returns, started}
use Rattle.uni_any.specs.Plays.{viewing, with_seen}
use Rattle.uni_any.specs.Shown.{Letter}
use Rattle.uni_any.specs.declared.view.Local.{Local}
use Rattle.uni_any.specs.declared.view.Stage.TheVariants.{Idle, Posting, Reading, Writing}
use Rattle.uni_any.specs.declared.view.Version.{Version}

-- the word S, what lies in the buffer of each process for each, and where each process stands
pub record Moment (I S R : Type 0) : Type 0 where
  pub word : ℕ
  pub buffers : (from to : ℕ) → Option (Letter I S R)
  pub local : ℕ → Local I S R

-- what a step does: what S becomes, what lies in the buffers then, where its process stands, and which acts of a history
-- it makes
pub record Effect (I S R : Type 0) : Type 0 where
  pub word : ℕ
  pub buffers : (from to : ℕ) → Option (Letter I S R)
  pub leaves : Local I S R
  pub acts : List (Act I R)

-- call k of process p, where it has this invocation
abbrev pub call_of : {I : Type 0} → (p k : ℕ) → Option I → List (Invoked I)
call_of p k None = []
call_of p k (Some inv) = record { process = p; nth = k; inv = inv } ∷ []

-- the pending call of process p, where it has one
abbrev pub pending_call : {I S R : Type 0} → (p : ℕ) → Local I S R → List (Invoked I)
pending_call p l = call_of p (made_by l) (pending_of l.stage)

-- The calls by which an image has more than another one, of so many processes from p on: their pending calls, in the
-- order of processes.
abbrev pub calls_between : {I S R : Type 0} → (pending : (q : ℕ) → List (Invoked I)) → (before after : Image S R)
    → (p count : ℕ) → List (Invoked I)
calls_between pending before after p zero = []
calls_between pending before after p (suc count) =
    (if applied_in after p == applied_in before p then [] else pending p)
    ++ calls_between pending before after (p + 1) count

-- the version that S names: the one that its process brought in last
abbrev pub present_in : {I S R : Type 0} → Moment I S R → Version S R
present_in m = (m.local (process_in m.word)).last

module _ {S I R : Type 0} (object : Sequential S I R) (n : ℕ) where
  -- process p, which stands there
  module _ (m : Moment I S R) (p : ℕ) (mine : Local I S R) where
    -- once it has looked into the buffer of process r, and the version that it has found then, once it has looked into all
    abbrev pub seeing : (r : ℕ) → Local I S R
    seeing r = with_seen mine r (m.buffers r p)

    abbrev pub found_by : (r : ℕ) → Version S R
    found_by r = base_of object n (seeing r)

    -- The steps that process p can take next.
    pub data Next : Type 0 where
      -- the invocation of the next call is written for one process after the other, and is announced when all have it
      Post : (inv : I) (r : ℕ) (letter : Letter I S R) → IsPostingAt inv r mine.stage → r < n → made_by mine < most_calls
          → told_by letter ≡ call_news mine inv → Next
      -- an attempt begins: S is loaded
      Start : (inv : I) (tries : ℕ) → IsPendingAt n inv tries mine.stage → Next
      -- a buffer is looked into, one after the other; after the last one the version is found, and lacks the call
      Learn : (inv : I) (tries r : ℕ) → mine.stage ≡ Reading inv tries r → r < n
          → (r + 1 ≡ n → applied_in (found_by r).image p ≢ made_by mine + 1) → Next
      -- or it has the call, which returns
      Return : (inv : I) (tries r : ℕ) (reply : R) → mine.stage ≡ Reading inv tries r → r + 1 ≡ n
          → applied_in (found_by r).image p ≡ made_by mine + 1 → (row_in (found_by r).image p).reply ≡ Some reply → Next
      -- the block is written for one process after the other: that version, with the calls that come next
      Lay : (inv : I) (tries r : ℕ) (image : Image S R) (letter : Letter I S R)
          → IsLayingAt object n inv tries image r mine → r < n → told_by letter ≡ block_news mine inv image → Next
      -- S is exchanged, if it is what the attempt began with; else the attempt has failed
      Bring : (inv : I) (tries : ℕ) (image : Image S R) (reply : R) → mine.stage ≡ Writing inv tries image n
          → m.word ≡ mine.word → (row_in image p).reply ≡ Some reply → Next
      Fail : (inv : I) (tries : ℕ) (image : Image S R) → mine.stage ≡ Writing inv tries image n → m.word ≢ mine.word → Next
      -- between calls S is loaded, and then what the process that it names has written is taken
      View : mine.stage ≡ Idle → Next
      See : (r : ℕ) → mine.stage ≡ Idle → r < n → process_in mine.word ≡ r → mine.after ≡ number_in mine.word → Next

    -- a step that leaves S as it was and makes no act: it leaves this in the buffers, and the process here
    abbrev pub quiet : ((from to : ℕ) → Option (Letter I S R)) → Local I S R → Effect I S R
    quiet buffers l = record { word = m.word; buffers = buffers; leaves = l; acts = [] }

    abbrev pub written : (r : ℕ) → Letter I S R → (from to : ℕ) → Option (Letter I S R)
    written r letter = with_value m.buffers p r (Some letter)

    abbrev pub taken : (r : ℕ) → (from to : ℕ) → Option (Letter I S R)
    taken r = with_value m.buffers r p None

    -- What such a step does. The first write of an announcement invokes a call. An exchange that finds what its attempt
    -- began with makes the calls that its block has more than the version before take effect, in the order of their
    -- processes; the own call, which is one of them, responds. So does the last look that finds the call in. No other step
    -- makes an act.
    abbrev pub effect_of : Next → Effect I S R
    effect_of (Post inv r letter posts inside few tells) =
        record (quiet (written r letter) (record mine { stage = Posting inv (r + 1) })) {
          acts = if r == 0 then Invoke p (made_by mine) inv ∷ [] else [];
        }
    effect_of (Start inv tries pending) = quiet m.buffers (started mine inv tries m.word)
    effect_of (Learn inv tries r reads inside lacks) =
        quiet (taken r) (record (seeing r) { stage = Reading inv tries (r + 1) })
    effect_of (Return inv tries r reply reads last is_in has) =
        record (quiet (taken r) (returns (seeing r) inv reply (found_by r).number)) {
          acts = Respond p (made_by mine) reply ∷ [];
        }
    effect_of (Lay inv tries r image letter lays inside tells) =
        quiet (written r letter) (record mine { stage = Writing inv tries image (r + 1) })
    effect_of (Bring inv tries image reply lays same has) = record {
      word = word_of (number_in mine.word + 1) p;
      buffers = m.buffers;
      leaves = brought mine inv reply image;
      acts = map (λ c. Linearize c) (calls_between (λ q. pending_call q (m.local q)) (present_in m).image image 0 n)
          ++ Respond p (made_by mine) reply ∷ [];
    }
    effect_of (Fail inv tries image lays other) = quiet m.buffers (missed mine inv tries image)
    effect_of (View idle) = quiet m.buffers (viewing mine m.word)
    effect_of (See r idle inside named follows) = quiet (taken r) (record (seeing r) { after = (found_by r).number })

  -- process p can take such a step; the moment after it; and the acts that it makes
  abbrev pub CanTake : Moment I S R → (p : ℕ) → Type 0
  CanTake m p = Next m p (m.local p)

  abbrev pub changed : Moment I S R → (p : ℕ) → Effect I S R → Moment I S R
  changed m p e = record { word = e.word; buffers = e.buffers; local = set_at m.local p e.leaves }

  abbrev pub after : (m : Moment I S R) (p : ℕ) → CanTake m p → Moment I S R
  after m p next = changed m p (effect_of m p (m.local p) next)

  abbrev pub acts_of : (m : Moment I S R) (p : ℕ) → CanTake m p → List (Act I R)
  acts_of m p next = (effect_of m p (m.local p) next).acts

  -- its executions, and what they make
  abbrev pub Execution : Moment I S R → Type 0
  Execution m = Executions.Execution n CanTake after m

  abbrev pub last_moment : {m : Moment I S R} → Execution m → Moment I S R
  last_moment e = Executions.last_moment n CanTake after e

  abbrev pub all_acts : {m : Moment I S R} → Execution m → List (Act I R)
  all_acts e = Executions.all_acts n CanTake after acts_of e

  abbrev pub KeepsOrder : {m : Moment I S R} (e : Execution m) → Execution (last_moment e) → Type 0
  KeepsOrder e more = Executions.KeepsOrder n CanTake after acts_of e more

  -- the opening: no process has a call, S names version 0, and nothing lies in the buffers
  abbrev pub opened_moment : Moment I S R
  opened_moment = record { word = 0; buffers = λ from to. None; local = λ p. at_rest object n }

-- a process whose call was written for another one has it pending
sample_pending : pending_call 1 (record (at_rest counter 2) { stage = Posting 5 1 })
    ≡ record { process = 1; nth = 0; inv = 5 } ∷ []
sample_pending = refl

-- two processes, each with a pending call; the second of them is in
abbrev sample_image : (second : ℕ) → Image ℕ ℕ
sample_image second = record {
  state = 0;
  rows = record { applied = 0; reply = None } ∷ record { applied = second; reply = Some 7 } ∷ [];
}

sample_between : calls_between (λ q. call_of q 0 (Some (5 + q))) (sample_image 0) (sample_image 1) 0 2
    ≡ record { process = 1; nth = 0; inv = 6 } ∷ []
sample_between = refl
