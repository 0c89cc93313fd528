-- The shared words as plain data, and what no word tells.
use Rattle.std.specs.Prelude.{ℕ, ◌+◌, ◌*◌, ◌/◌, ◌%◌, ◌==◌, if◌then◌else◌, nat_lt, List, [], Option, None, Some, length, take}
use Rattle.std.specs.Prelude.{◌≡◌, ◌≤◌}
use Rattle.seq_object.specs.Sequential.{Sequential}
use Rattle.uni_model.specs.AtomicObject.{Act, Atomic, at_start}
use Rattle.uni_any.specs.Batch.{image_from}
use Rattle.uni_any.specs.Content.{applied_in}
use Rattle.uni_any.specs.declared.view.Image.{Image}
use Rattle.uni_any.specs.News.{first_image}
use Rattle.uni_any.specs.declared.view.Local.{Local}
use Rattle.uni_any.specs.declared.view.Stage.{Stage}
use Rattle.uni_any.specs.declared.view.Stage.TheVariants.{Idle, Posting, Ready, Reading, Writing}
use Rattle.uni_any.specs.declared.view.Told.{Told}
use Rattle.uni_any.specs.declared.view.Version.{Version}

-- The word S names the present version and the process that brought it in. Of each process: at which version it announced
-- its last call. What the present version is. And what no word tells: the atomic object, its history, and how many of the
-- calls that took effect are in each version.
pub record Board (I S R : Type 0) : Type 0 where
  pub number : ℕ
  pub process : ℕ
  pub since : ℕ → ℕ
  pub image : Image S R
  pub atomic : Atomic S I
  pub acts : List (Act I R)
  pub calls_in : ℕ → ℕ

abbrev pub word_of : (number process : ℕ) → ℕ
word_of number process = 64 * number + process

abbrev pub number_in : ℕ → ℕ
number_in word = word / 64

abbrev pub process_in : ℕ → ℕ
process_in word = word % 64

abbrev pub in_of : {I S R : Type 0} → Board I S R → ℕ → ℕ
in_of g q = applied_in g.image q

-- a version that has come
abbrev pub HasCome : {S I R : Type 0} → Sequential S I R → (n : ℕ) → Board I S R → Version S R → Type 0
HasCome object n g version =
    (version.number ≤ g.number)
    × (version.image ≡ image_from object (first_image object n) (take (g.calls_in version.number) g.atomic.agreed))

-- the invocation of a pending call, and the number of the process's last call
abbrev pub pending_of : {I S R : Type 0} → Stage I S R → Option I
pending_of Idle = None
pending_of (Posting inv count) = Some inv
pending_of (Ready inv tries) = Some inv
pending_of (Reading inv tries count) = Some inv
pending_of (Writing inv tries image count) = Some inv

abbrev pub begun : {I : Type 0} → (made : ℕ) → Option I → ℕ
begun made None = made
begun made (Some inv) = made + 1

-- the number of its last call that all were told
abbrev pub announced_at : {I S R : Type 0} → (n made : ℕ) → Stage I S R → ℕ
announced_at n made Idle = made
announced_at n made (Posting inv count) = if count == n then made + 1 else made
announced_at n made (Ready inv tries) = made + 1
announced_at n made (Reading inv tries count) = made + 1
announced_at n made (Writing inv tries image count) = made + 1

module _ {I S R : Type 0} where
  abbrev pub made_by : Local I S R → ℕ
  made_by l = length l.own

  abbrev pub called_by : Local I S R → ℕ
  called_by l = begun (length l.own) (pending_of l.stage)

  abbrev pub announced_by : (n : ℕ) → Local I S R → ℕ
  announced_by n l = announced_at n (length l.own) l.stage

  -- what it writes as it announces a call, and with a block
  abbrev pub call_news : Local I S R → I → Told I S R
  call_news l inv = record { call = length l.own + 1; inv = Some inv; last = l.last; next = l.last }

  abbrev pub block_news : Local I S R → I → Image S R → Told I S R
  block_news l inv image = record {
    call = length l.own + 1;
    inv = Some inv;
    last = l.last;
    next = record { number = number_in l.word + 1; image = image };
  }

  -- what it has written last for process r
  abbrev pub posted_at : Local I S R → Stage I S R → (r : ℕ) → Told I S R
  posted_at l Idle r = l.written
  posted_at l (Posting inv count) r = if nat_lt r count then call_news l inv else l.written
  posted_at l (Ready inv tries) r = l.written
  posted_at l (Reading inv tries count) r = l.written
  posted_at l (Writing inv tries image count) r = if nat_lt r count then block_news l inv image else l.written

  abbrev pub posted : Local I S R → (r : ℕ) → Told I S R
  posted l r = posted_at l l.stage r

abbrev pub opened : {S I R : Type 0} → Sequential S I R → (n : ℕ) → Board I S R
opened object n = record {
  number = 0;
  process = 0;
  since = λ p. 0;
  image = first_image object n;
  atomic = at_start object.initial;
  acts = [];
  calls_in = λ v. 0;
}
