-- What an object means.
use Rattle.std.specs.Prelude.{ℕ, List}
use Rattle.seq_object.specs.Sequential.{Sequential}
use Rattle.uni_words.specs.Objects.{sticky, tally}
use Rattle.word_objects.specs.Machine.{machine}
use Rattle.word_objects.specs.Register.{register}
use Rattle.word_objects.specs.Tables.{Tables}
use Rattle.universal_c.specs.declared.object.Object.{Object}
use Rattle.universal_c.specs.declared.object.Object.TheVariants.{Tally, Sticky, Register, Machine}

abbrev pub meaning : Object → Sequential ℕ ℕ ℕ
meaning Tally = tally
meaning Sticky = sticky
meaning Register = register
meaning (Machine tables) = machine tables

-- the tables of a machine, as C hands them over
abbrev pub tables_of : (states invocations : ℕ) (next reply : List ℕ) → Tables
tables_of states invocations next reply = record { states = states; invocations = invocations; next = next; reply = reply }
