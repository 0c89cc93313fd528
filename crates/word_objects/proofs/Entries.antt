-- Where no entry of a table is at or past a bound, each is below it; so the states are that calls lead to.
use Rattle.std.proofs.Common.{◌≡◌, ◌∙◌, ℕ, zero, suc, ◌+◌, ◌<◌, List, [], ◌∷◌, Option, Some, None, Bool, true, false, cond, get_or, position, nat_le, refl, sym, arith, tests}
use Rattle.std.specs.List.{position_from}
use Rattle.std.proofs.lemmas.Iterator.Adapters.{position_from-zero}
use Rattle.uni_small.specs.Image.{IsReached}
use Rattle.small_objects.specs.Encoding.{encoded, first_word, kept_by_calls, one_word}
use Rattle.small_objects.proofs.Reached.{reached_in}
use Rattle.word_objects.specs.Machine.{machine, place, small_machine}
use Rattle.word_objects.specs.Tables.{AreSound, Tables}

-- what the first entry says: it is below the bound, and so are those after it
first_below : (bound start x : ℕ) (b : Bool) (rest : Option ℕ) → nat_le bound x ≡ b → cond b (Some start) rest ≡ None → (x < bound) × (rest ≡ None)
first_below bound start x true rest at none = cc
first_below bound start x false rest at none = (grind (arith, tests), none)

-- from any number on
below_from : (bound start : ℕ) (xs : List ℕ) (i : ℕ) → 0 < bound → position_from (nat_le bound) start xs ≡ None → get_or xs i 0 < bound
below_from bound start [] i some none = some
below_from bound start (x ∷ xs) zero some none = (first_below bound start x (nat_le bound x) (position_from (nat_le bound) (start + 1) xs) refl none).0
below_from bound start (x ∷ xs) (suc i) some none =
    below_from bound (start + 1) xs i some (first_below bound start x (nat_le bound x) (position_from (nat_le bound) (start + 1) xs) refl none).1

pub entry_below : (bound : ℕ) (xs : List ℕ) (i : ℕ) → 0 < bound → position (nat_le bound) xs ≡ None → get_or xs i 0 < bound
entry_below bound xs i some none = below_from bound 0 xs i some (sym (position_from-zero (nat_le bound) xs) ∙ none)

pub state_below : (t : Tables) → AreSound t → (words : List ℕ) → IsReached (small_machine t).object words → first_word words < t.states
state_below t sound words reached =
    let plain = encoded (machine t) one_word first_word in
    kept_by_calls plain first_word (λ state. first_word state < t.states) sound.some
    (λ state inv below. entry_below t.states t.next (place t (first_word state) (first_word inv)) sound.some sound.next)
    words (reached_in plain first_word one_word words reached)
