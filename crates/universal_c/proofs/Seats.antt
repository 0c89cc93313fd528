-- The seats that are left when the last one is given out.
use Rattle.universal_c.proofs.Vocabulary.{AreFirstSeats, List, SmallShared, WordLog, [], ap, arith, length, length-append, refl, slice_get, subst, sym, ℕ, ◌++◌, ◌+◌, ◌∙◌, ◌∷◌, ◌≡◌}
use Rattle.std.specs.Prelude.{Some}
use Rattle.uni_model.proofs.Appended.{slice_get-append_left}
use Rattle.uni_small.proofs.Lists.{get_last}
use Rattle.uni_small.specs.Belongs.{AreFirstSeats as AreFirstPlaces}
use Rattle.uni_small.specs.declared.seat.SmallSeat.{SmallSeat}
use Rattle.uni_words.specs.declared.seat.WordSeat.{WordSeat}

-- as many as there are
pub counted : {O : Type 0} (log : WordLog O) (n : ℕ) (seats : List WordSeat) → AreFirstSeats log n seats → AreFirstSeats log (length seats) seats
counted log n seats are = record { many = refl; each = are.each }

pub counted_small : {O : Type 0} (shared : SmallShared O) (n : ℕ) (seats : List (SmallSeat O)) → AreFirstPlaces shared n seats
    → AreFirstPlaces shared (length seats) seats
counted_small shared n seats are = record { many = refl; each = are.each }

-- how many are before the others
pub before : {X : Type 0} {n m : ℕ} {xs : List X} (rest more : List X) → xs ≡ rest ++ more → length xs ≡ n → m + length more ≡ n → length rest ≡ m
before rest more is many count = let b : _ ≡ length rest + length more = ap length is ∙ length-append rest more in omega arith

-- what is so of each by its place is so of each before others
pub each_before : {X : Type 0} {IsAt : ℕ → X → Type 0} {xs : List X} (rest more : List X) → xs ≡ rest ++ more
    → ((p : ℕ) (x : X) → slice_get xs p ≡ Some x → IsAt p x) → (p : ℕ) (x : X) → slice_get rest p ≡ Some x → IsAt p x
each_before {X = X} rest more is each p x e =
    each p x (subst (λ (l : List X). slice_get l p ≡ Some x) (sym is) (slice_get-append_left rest more p x e))

-- and of the last one
pub at_last : {X : Type 0} {IsAt : ℕ → X → Type 0} {n m : ℕ} {xs : List X} (rest : List X) (x : X) → xs ≡ rest ++ x ∷ []
    → ((p : ℕ) (y : X) → slice_get xs p ≡ Some y → IsAt p y) → length xs ≡ n → m + 1 ≡ n → IsAt m x
at_last {X = X} {IsAt = IsAt} rest x is each many count = subst (λ (p : ℕ). IsAt p x) (before rest (x ∷ []) is many count)
    (each (length rest) x (subst (λ (l : List X). slice_get l (length rest) ≡ Some x) (sym is) (get_last rest x)))
