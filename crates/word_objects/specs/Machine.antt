-- What a machine means, and what can be wrong with its tables.
use Rattle.std.specs.Prelude.{◌≡◌, ℕ, ◌+◌, ◌-◌, ◌*◌, ◌^◌, ◌==◌, nat_lt, nat_le, min, if◌then◌else◌}
use Rattle.std.specs.Prelude.{[], ◌∷◌, length, slice_index, position, Option, Some, None, option_map, refl}
use Rattle.std.specs.Option.{option_or}
use Rattle.seq_object.specs.Sequential.{Sequential}
use Rattle.uni_small.specs.Image.{Meaning}
use Rattle.small_objects.specs.Encoding.{encoded, first_word, of_one_word, one_word}
use Rattle.word_objects.specs.Tables.{Tables}
use Rattle.word_objects.specs.declared.machine.MachineFault.{MachineFault}
use Rattle.word_objects.specs.declared.machine.MachineFault.TheVariants.{BadStates, NoInvocation, NextSize, ReplySize, NextOutside}
use Rattle.word_objects.specs.declared.machine.MachineFault.TheVariants.{ReplyOutside}

-- where the entry of a state and an invocation is; an invocation past the table is the last one
abbrev pub place : Tables → (state inv : ℕ) → ℕ
place t state inv = state * t.invocations + min inv (t.invocations - 1)

-- the object of the tables: it starts in state 0
abbrev pub machine : Tables → Sequential ℕ ℕ ℕ
machine t = record {
  initial = 0;
  next = λ state inv. slice_index t.next (place t state inv);
  answer = λ state inv. slice_index t.reply (place t state inv);
}

-- the machine whose states, invocations and replies are one word each
abbrev pub small_machine : Tables → Meaning
small_machine t = of_one_word (encoded (machine t) one_word first_word)

-- the first entry that is wrong: of the next states one that is no state, and then of the replies one that isn't below 2^31
abbrev pub entry_fault : Tables → Option MachineFault
entry_fault t = option_or
    (option_map NextOutside (position (nat_le t.states) t.next))
    (option_map ReplyOutside (position (nat_le (2 ^ 31)) t.reply))

-- what is wrong with tables, the first of these
abbrev pub machine_fault : Tables → Option MachineFault
machine_fault t =
    if t.states == 0 then Some BadStates
    else if nat_lt (2 ^ 31) t.states then Some BadStates
    else if t.invocations == 0 then Some NoInvocation
    else if length t.next == t.states * t.invocations then
    (if length t.reply == t.states * t.invocations then entry_fault t else Some ReplySize)
    else Some NextSize

-- a switch of two states, off and on: invocation 0 asks, and each greater one turns it over
abbrev switch : Tables
switch = record { states = 2; invocations = 2; next = 0 ∷ 1 ∷ 1 ∷ 0 ∷ []; reply = 0 ∷ 0 ∷ 1 ∷ 1 ∷ [] }

switch-right : machine_fault switch ≡ None
switch-right = refl

switch-asked : (machine switch).next 1 0 ≡ 1
switch-asked = refl

switch-turned : (machine switch).next 1 1 ≡ 0
switch-turned = refl

switch-past : (machine switch).next 0 9 ≡ 1
switch-past = refl

switch-reply : (machine switch).answer 1 9 ≡ 1
switch-reply = refl

switch-words : (small_machine switch).object.next (1 ∷ []) (9 ∷ []) ≡ 0 ∷ []
switch-words = refl

switch-reply-words : (small_machine switch).object.answer (1 ∷ []) (9 ∷ []) ≡ 1 ∷ []
switch-reply-words = refl

-- a table of next states with a row too few, and one that leads to a state that isn't there
short-next : machine_fault (record switch { next = 0 ∷ 1 ∷ [] }) ≡ Some NextSize
short-next = refl

next-outside : machine_fault (record switch { next = 0 ∷ 1 ∷ 2 ∷ 3 ∷ [] }) ≡ Some (NextOutside 2)
next-outside = refl

no-state : machine_fault (record switch { states = 0; invocations = 0 }) ≡ Some BadStates
no-state = refl
