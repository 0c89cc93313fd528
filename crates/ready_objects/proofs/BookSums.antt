-- The sum of the balances, and their limit.
use Rattle.ready_objects.proofs.Vocabulary.{All, All-head, All-replicate, All-set, All-tail, BookInv, Deposit, HasAccounts, List, Move, Total, Withdraw, [], added_by, arith, book, book_answer, book_next, book_start, cases_Bool, cases_lt, eqb-false, false, get_or-set_other, get_or_past, has_funds, has_room, inl, inr, leb-true, length, length-set, not, not-false, or_parts, put_in, refl, slice_index, state_after, sum, sum_by-set, sym, taken_by, taken_out, total_added, total_taken, ℕ, ◌+◌, ◌-◌, ◌<◌, ◌==◌, ◌||◌, ◌∙◌, ◌∷◌, ◌≡◌, ◌≢◌, ◌≤◌}

-- what goes in is in the sum
sum-put_in : (balances : List ℕ) (a v : ℕ) → a < length balances → sum (put_in balances a v) ≡ sum balances + v
sum-put_in balances a v within =
    let change = sum_by-set (λ x. x) balances a (slice_index balances a + v) 0 within in omega arith

-- what is taken out is not in it
sum-taken_out : (balances : List ℕ) (a v : ℕ) → a < length balances → v ≤ slice_index balances a → sum (taken_out balances a v) + v ≡ sum balances
sum-taken_out balances a v within enough =
    let change = sum_by-set (λ x. x) balances a (slice_index balances a - v) 0 within in omega arith

length-taken_out : (balances : List ℕ) (a v : ℕ) → length (taken_out balances a v) ≡ length balances
length-taken_out balances a v = length-set balances a (slice_index balances a - v)

length-put_in : (balances : List ℕ) (a v : ℕ) → length (put_in balances a v) ≡ length balances
length-put_in balances a v = length-set balances a (slice_index balances a + v)

-- a move that is made has funds, two accounts and room
record Moves (balances : List ℕ) (a b v : ℕ) : Type 0 where
  funds : v ≤ slice_index balances a
  other : b ≢ a
  room : slice_index balances b + v ≤ 999999999999

Moves-from : (balances : List ℕ) (a b v : ℕ) → (not (has_funds balances a v) || (a == b) || not (has_room balances b v)) ≡ false → Moves balances a b v
Moves-from balances a b v goes =
    let parts = or_parts (not (has_funds balances a v) || (a == b)) (not (has_room balances b v)) goes in
    let firsts = or_parts (not (has_funds balances a v)) (a == b) parts.0 in
    record {
      funds = leb-true v (slice_index balances a) (not-false (has_funds balances a v) firsts.0);
      other = λ e. eqb-false a b firsts.1 (sym e);
      room = leb-true (slice_index balances b + v) 999999999999 (not-false (has_room balances b v) parts.1);
    }

-- one call keeps the law
pub book_next-conserves : (balances : List ℕ) (inv : BookInv) → length balances ≡ 16 → HasAccounts inv
    → sum (book_next balances inv) + taken_by inv (book_answer balances inv) ≡ sum balances + added_by inv (book_answer balances inv)
book_next-conserves balances (Deposit a v) sixteen within =
    let goes_in = sum-put_in balances a v (omega arith) in
    elim (cases_Bool (has_room balances a v)) [ inl room ↦ rw room (omega arith) | inr none ↦ rw none (omega arith) ]
book_next-conserves balances (Withdraw a v) sixteen within =
    elim (cases_Bool (has_funds balances a v)) [
      | inl funds ↦
          let goes_out = sum-taken_out balances a v (omega arith) (leb-true v (slice_index balances a) funds) in
          rw funds (omega arith)
      | inr none ↦ rw none (omega arith)
    ]
book_next-conserves balances (Move a b v) sixteen within =
    elim (cases_Bool (not (has_funds balances a v) || (a == b) || not (has_room balances b v))) [
      | inl stays ↦ rw stays refl
      | inr goes ↦
          let goes_out = sum-taken_out balances a v (omega (arith, within.0)) (Moves-from balances a b v goes).funds in
          let goes_in = sum-put_in (taken_out balances a v) b v (omega (arith, within.1, length-taken_out balances a v)) in
          rw goes (omega arith)
    ]
book_next-conserves balances Total sixteen within = refl

-- there are still sixteen
length-book_next : (balances : List ℕ) (inv : BookInv) → length (book_next balances inv) ≡ length balances
length-book_next balances (Deposit a v) =
    elim (cases_Bool (has_room balances a v)) [ inl room ↦ rw room (length-put_in balances a v) | inr none ↦ rw none refl ]
length-book_next balances (Withdraw a v) =
    elim (cases_Bool (has_funds balances a v)) [ inl funds ↦ rw funds (length-taken_out balances a v) | inr none ↦ rw none refl ]
length-book_next balances (Move a b v) =
    elim (cases_Bool (not (has_funds balances a v) || (a == b) || not (has_room balances b v))) [
      | inl stays ↦ rw stays refl
      | inr goes ↦ rw goes (length-put_in (taken_out balances a v) b v ∙ length-taken_out balances a v)
    ]
length-book_next balances Total = refl

-- all calls from some balances keep the law
state_after-conserves : (balances : List ℕ) (invs : List BookInv) → length balances ≡ 16 → All HasAccounts invs
    → sum (state_after book balances invs) + total_taken balances invs ≡ sum balances + total_added balances invs
state_after-conserves balances [] sixteen within = refl
state_after-conserves balances (inv ∷ invs) sixteen within =
    let one = book_next-conserves balances inv sixteen (All-head HasAccounts inv invs within) in
    let rest = state_after-conserves (book_next balances inv) invs (length-book_next balances inv ∙ sixteen) (All-tail HasAccounts inv invs within) in
    omega arith

-- and from the start
pub state_after-book_start : (invs : List BookInv) → All HasAccounts invs
    → sum (state_after book book_start invs) + total_taken book_start invs ≡ total_added book_start invs
state_after-book_start invs within = let all = state_after-conserves book_start invs refl within in omega arith

-- the limit of a balance
abbrev IsWithinLimit : ℕ → Type 0
IsWithinLimit balance = balance ≤ 999999999999

-- also where there is no such account
slice_index-limit : (balances : List ℕ) (a : ℕ) → All IsWithinLimit balances → IsWithinLimit (slice_index balances a)
slice_index-limit balances a limited =
    elim (cases_lt a (length balances)) [ inl within ↦ limited a 0 within | inr past ↦ rw (get_or_past balances a 0 past) (omega arith) ]

-- one call keeps the limit
book_next-limit : (balances : List ℕ) (inv : BookInv) → All IsWithinLimit balances → All IsWithinLimit (book_next balances inv)
book_next-limit balances (Deposit a v) limited =
    elim (cases_Bool (has_room balances a v)) [
      | inl room ↦ rw room (All-set IsWithinLimit balances a (slice_index balances a + v) (leb-true (slice_index balances a + v) 999999999999 room) limited)
      | inr none ↦ rw none limited
    ]
book_next-limit balances (Withdraw a v) limited =
    let before = slice_index-limit balances a limited in
    elim (cases_Bool (has_funds balances a v)) [
      | inl funds ↦ rw funds (All-set IsWithinLimit balances a (slice_index balances a - v) (omega arith) limited)
      | inr none ↦ rw none limited
    ]
book_next-limit balances (Move a b v) limited =
    let before = slice_index-limit balances a limited in
    elim (cases_Bool (not (has_funds balances a v) || (a == b) || not (has_room balances b v))) [
      | inl stays ↦ rw stays limited
      | inr goes ↦
          let made = Moves-from balances a b v goes in
          let same = get_or-set_other balances a b (slice_index balances a - v) 0 made.other in
          rw goes
          (All-set IsWithinLimit (taken_out balances a v) b (slice_index (taken_out balances a v) b + v) (omega (arith, made.room))
          (All-set IsWithinLimit balances a (slice_index balances a - v) (omega arith) limited))
    ]
book_next-limit balances Total limited = limited

state_after-limit : (balances : List ℕ) (invs : List BookInv) → All IsWithinLimit balances → All IsWithinLimit (state_after book balances invs)
state_after-limit balances [] limited = limited
state_after-limit balances (inv ∷ invs) limited = state_after-limit (book_next balances inv) invs (book_next-limit balances inv limited)

-- no balance is ever above it
pub state_after-book_start-limit : (invs : List BookInv) → All IsWithinLimit (state_after book book_start invs)
state_after-book_start-limit invs =
    let zero : 0 ≤ 999999999999 = omega arith in
    state_after-limit book_start invs (All-replicate IsWithinLimit 16 0 zero)
