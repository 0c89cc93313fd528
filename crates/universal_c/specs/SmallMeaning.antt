-- What a small object means, and how many words it has.
use Rattle.std.specs.Prelude.{◌≡◌, ◌≤◌, ℕ, ◌+◌, ◌*◌, [], length, refl}
use Rattle.std.proofs.Common.{◌∙◌, arith, length-set}
use Rattle.std.proofs.lemmas.List.{length-replicate}
use Rattle.uni_small.specs.Image.{IsSteady, Meaning}
use Rattle.uni_small.specs.declared.sizes.Sizes.{Sizes}
use Rattle.program_object.specs.Meaning.{program_meaning, program_steady}
use Rattle.small_objects.specs.Book.{spelled as book, book_steady}
use Rattle.small_objects.specs.Counter.{counter}
use Rattle.small_objects.specs.Counters.{spelled as counters}
use Rattle.small_objects.specs.Encoding.{first_word, of_one_word}
use Rattle.small_objects.specs.Map.{spelled as map, map_steady}
use Rattle.small_objects.specs.Padded.{length-padded}
use Rattle.small_objects.specs.Queue.{queue, queue_steady}
use Rattle.small_objects.specs.Register.{spelled as register}
use Rattle.small_objects.specs.Ring.{ring_wide}
use Rattle.small_objects.specs.Stack.{stack, stack_steady}
use Rattle.word_objects.specs.Machine.{small_machine}
use Rattle.universal_c.specs.declared.small_kind.SmallKind.{SmallKind}
use Rattle.universal_c.specs.declared.small_kind.SmallKind.TheVariants.{Book, Counter, Counters, Machine, Map, Program, Queue, Register, Stack}

abbrev pub small_meaning : SmallKind → Meaning
small_meaning Counter = of_one_word counter
small_meaning Register = register
small_meaning (Counters c) = counters c.count
small_meaning (Queue q) = of_one_word (queue q.capacity)
small_meaning (Stack s) = of_one_word (stack s.capacity)
small_meaning (Map m) = map m.capacity
small_meaning Book = book
small_meaning (Machine tables) = small_machine tables
small_meaning (Program p) = program_meaning p

-- how many words a state has
abbrev pub state_words : SmallKind → ℕ
state_words Counter = 1
state_words Register = 1
state_words (Counters c) = c.count
state_words (Queue q) = q.capacity + 2
state_words (Stack s) = s.capacity + 1
state_words (Map m) = 2 * m.capacity + 1
state_words Book = 16
state_words (Machine tables) = 1
state_words (Program p) = length p.start

-- an invocation and a reply have no more words than an object may have, and a reply has one at least
abbrev pub IsNarrow : SmallKind → Type 0
IsNarrow kind = ((small_meaning kind).invocation ≤ 65536) × (1 ≤ (small_meaning kind).reply) × ((small_meaning kind).reply ≤ 65536)

-- the numbers of processes and words of an object of this kind that n processes share
abbrev pub small_sizes : SmallKind → (n : ℕ) → Sizes
small_sizes kind n = record {
  processes = n;
  state = state_words kind;
  invocation = (small_meaning kind).invocation;
  reply = (small_meaning kind).reply;
}

pub state_long : (kind : SmallKind) → length (small_meaning kind).object.initial ≡ state_words kind
state_long Counter = refl
state_long Register = refl
state_long (Counters c) = length-replicate c.count 0
state_long (Queue q) = let e = ring_wide q.capacity (record { start = 0; values = [] }) in omega arith
state_long (Stack s) = let e = length-padded s.capacity [] in omega arith
state_long (Map m) = let e = length-padded (2 * m.capacity) [] in omega arith
state_long Book = refl
state_long (Machine tables) = refl
state_long (Program p) = refl

-- all states have as many words, and all replies
pub small_steady : (kind : SmallKind) → IsSteady (small_meaning kind).object (small_meaning kind).reply
small_steady Counter = λ state inv long. (length-set state 0 _ ∙ long, refl)
small_steady Register = λ state inv long. (length-set state 0 _ ∙ long, refl)
small_steady (Counters c) = λ state inv long. (length-set state _ _ ∙ long, refl)
small_steady (Queue q) = λ state inv long. (queue_steady q.capacity state (first_word inv) long, refl)
small_steady (Stack s) = λ state inv long. (stack_steady s.capacity state (first_word inv) long, refl)
small_steady (Map m) = map_steady m.capacity
small_steady Book = book_steady
small_steady (Machine tables) = λ state inv long. (refl, refl)
small_steady (Program p) = program_steady p
