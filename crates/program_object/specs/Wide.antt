-- The lengths of a state and of a reply stay as they are.
use Rattle.std.specs.Prelude.{Bool, List, None, Option, Some, false, if◌then◌else◌, length, nat_lt, refl, slice_get, slice_index, slice_set, suc, true, zero, ℕ, ◌+◌, ◌≡◌}
use Rattle.std.proofs.Common.{length-set, ◌∙◌}
use Rattle.program_object.specs.Machine.{Machine, after, area, computed, gets, goes_on, place_in, step, step_by}
use Rattle.program_object.specs.declared.instruction.Instruction.{Instruction}
use Rattle.program_object.specs.declared.instruction.Instruction.TheVariants.{Again, Answer, Compute, Jump, Load, Set, Store, Wrap}

-- a step leaves the lengths of the state and of the reply
pub record IsAsWide (m next : Machine) : Type 0 where
  pub state : length next.state ≡ length m.state
  pub reply : length next.reply ≡ length m.reply

either_wide : (m a b : Machine) (test : Bool) → IsAsWide m a → IsAsWide m b → IsAsWide m (if test then a else b)
either_wide m a b true wide other = wide
either_wide m a b false wide other = other

got_wide : (m : Machine) (to : ℕ) (x : Option ℕ) (otherwise : ℕ) → IsAsWide m (gets m to x otherwise)
got_wide m to None otherwise = record { state = refl; reply = refl }
got_wide m to (Some x) otherwise = record { state = refl; reply = refl }

step_wide : (m : Machine) (inv : List ℕ) (i : Instruction) → IsAsWide m (step m inv i)
step_wide m inv (Set to value) = record { state = refl; reply = refl }
step_wide m inv (Load from at to otherwise) = got_wide m to (slice_get (area m.state inv m.reply from) (place_in m.registers at)) otherwise
step_wide m inv (Store at value otherwise) =
    let place = place_in m.registers at in
    let x = slice_index m.registers value in
    either_wide m (record { at = m.at + 1; registers = m.registers; gone = m.gone; state = slice_set m.state place x; reply = m.reply }) (goes_on m otherwise) (nat_lt place (length m.state))
    (record { state = length-set m.state place x; reply = refl }) (record { state = refl; reply = refl })
step_wide m inv (Answer at value otherwise) =
    let place = place_in m.registers at in
    let x = slice_index m.registers value in
    either_wide m (record { at = m.at + 1; registers = m.registers; gone = m.gone; state = m.state; reply = slice_set m.reply place x }) (goes_on m otherwise) (nat_lt place (length m.reply))
    (record { state = refl; reply = length-set m.reply place x }) (record { state = refl; reply = refl })
step_wide m inv (Compute by to left right otherwise) = got_wide m to (computed by (slice_index m.registers left) (slice_index m.registers right)) otherwise
step_wide m inv (Wrap by to left right) = record { state = refl; reply = refl }
step_wide m inv (Jump when left right to) = record { state = refl; reply = refl }
step_wide m inv (Again back most turn) =
    either_wide m (record { at = back; registers = m.registers; gone = slice_set m.gone turn (slice_index m.gone turn + 1); state = m.state; reply = m.reply }) (goes_on m (m.at + 1)) (nat_lt (slice_index m.gone turn) most)
    (record { state = refl; reply = refl }) (record { state = refl; reply = refl })

turn_wide : (m : Machine) (inv : List ℕ) (o : Option Instruction) → IsAsWide m (step_by m inv o)
turn_wide m inv None = record { state = refl; reply = refl }
turn_wide m inv (Some i) = step_wide m inv i

pub after_wide : (code : List Instruction) (inv : List ℕ) (m : Machine) (n : ℕ) → IsAsWide m (after code inv m n)
after_wide code inv m zero = record { state = refl; reply = refl }
after_wide code inv m (suc n) =
    let before = after_wide code inv m n in
    let last = turn_wide (after code inv m n) inv (slice_get code (after code inv m n).at) in
    record { state = last.state ∙ before.state; reply = last.reply ∙ before.reply }
