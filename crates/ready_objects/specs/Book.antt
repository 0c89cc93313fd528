-- The book: its state is the list of its sixteen balances.
use Rattle.std.specs.Prelude.{◌≡◌, ℕ, ◌+◌, ◌-◌, ◌/◌, ◌%◌, ◌==◌, ◌<◌, nat_le, Bool, true, false, not}
use Rattle.std.specs.Prelude.{◌&&◌, ◌||◌, if◌then◌else◌, List, [], ◌∷◌, ◌++◌, length, map, replicate, slice_index}
use Rattle.std.specs.Prelude.{slice_set, sum, Option, Some, None, option_and_then, codes, refl}
use Rattle.std.specs.Fmt.{decimal, digits}
use Rattle.std.specs.Str.{bytes_eq}
use Rattle.std.proofs.Common.{arith}
use Rattle.seq_object.specs.Sequential.{Sequential}
use Rattle.ready_objects.specs.Spoken.{Language}
use Rattle.ready_objects.specs.Number.{number_of_word, number_below}
use Rattle.ready_objects.specs.Words.{words_of_text}
use Rattle.ready_objects.specs.declared.book.BookInv.{BookInv}
use Rattle.ready_objects.specs.declared.book.BookInv.TheVariants.{Deposit, Withdraw, Move, Total}
use Rattle.ready_objects.specs.declared.book.BookResp.{BookResp}
use Rattle.ready_objects.specs.declared.book.BookResp.TheVariants.{Balance, Over, Short, Moved, Sum}

infixl 10 ◌>>=◌
abbrev pub ◌>>=◌ : {A B : Type 0} → Option A → (A → Option B) → Option B
o >>= f = option_and_then f o

-- the balances at the start
abbrev pub book_start : List ℕ
book_start = replicate 16 0

-- whether an account can take in an amount: no balance is above 999999999999
abbrev pub has_room : List ℕ → ℕ → ℕ → Bool
has_room balances a v = nat_le (slice_index balances a + v) 999999999999

-- whether an account has an amount
abbrev pub has_funds : List ℕ → ℕ → ℕ → Bool
has_funds balances a v = nat_le v (slice_index balances a)

-- the balances after an amount goes into an account
abbrev pub put_in : List ℕ → ℕ → ℕ → List ℕ
put_in balances a v = slice_set balances a (slice_index balances a + v)

-- the balances after it is taken out
abbrev pub taken_out : List ℕ → ℕ → ℕ → List ℕ
taken_out balances a v = slice_set balances a (slice_index balances a - v)

-- the balances after an invocation
abbrev pub book_next : List ℕ → BookInv → List ℕ
book_next balances (Deposit a v) = if has_room balances a v then put_in balances a v else balances
book_next balances (Withdraw a v) = if has_funds balances a v then taken_out balances a v else balances
book_next balances (Move a b v) =
    if not (has_funds balances a v) || (a == b) || not (has_room balances b v) then balances else put_in (taken_out balances a v) b v
book_next balances Total = balances

-- the response to it
abbrev pub book_answer : List ℕ → BookInv → BookResp
book_answer balances (Deposit a v) = if has_room balances a v then Balance (slice_index balances a + v) else Over
book_answer balances (Withdraw a v) = if has_funds balances a v then Balance (slice_index balances a - v) else Short
book_answer balances (Move a b v) =
    if not (has_funds balances a v) then Short else if not (a == b) && not (has_room balances b v) then Over else Moved
book_answer balances Total = Sum (sum balances)

-- the object
abbrev pub book : Sequential (List ℕ) BookInv BookResp
book = record { initial = book_start; next = book_next; answer = book_answer }

-- the words of an invocation
abbrev pub book_words : BookInv → List (List ℕ)
book_words (Deposit a v) = codes "deposit" ∷ decimal a ∷ decimal v ∷ []
book_words (Withdraw a v) = codes "withdraw" ∷ decimal a ∷ decimal v ∷ []
book_words (Move a b v) = codes "move" ∷ decimal a ∷ decimal b ∷ decimal v ∷ []
book_words Total = codes "total" ∷ []

-- an invocation with an account and an amount
abbrev pub with_account : (ℕ → ℕ → BookInv) → List ℕ → List ℕ → Option BookInv
with_account operation a v = do
  account ← number_below 16 a
  amount ← number_of_word v
  Some (operation account amount)

-- an invocation with two accounts and an amount
abbrev pub with_accounts : (ℕ → ℕ → ℕ → BookInv) → List ℕ → List ℕ → List ℕ → Option BookInv
with_accounts operation a b v = do
  from ← number_below 16 a
  to ← number_below 16 b
  amount ← number_of_word v
  Some (operation from to amount)

-- the invocation that words are
abbrev pub book_inv_of_words : List (List ℕ) → Option BookInv
book_inv_of_words (name ∷ []) = if bytes_eq name (codes "total") then Some Total else None
book_inv_of_words (name ∷ a ∷ v ∷ []) =
    if bytes_eq name (codes "deposit") then with_account Deposit a v
    else if bytes_eq name (codes "withdraw") then with_account Withdraw a v else None
book_inv_of_words (name ∷ a ∷ b ∷ v ∷ []) = if bytes_eq name (codes "move") then with_accounts Move a b v else None
book_inv_of_words _ = None

-- the text of a response
abbrev pub book_resp_text : BookResp → List ℕ
book_resp_text (Balance v) = decimal v
book_resp_text Over = codes "over"
book_resp_text Short = codes "short"
book_resp_text Moved = codes "moved"
book_resp_text (Sum n) = decimal n

-- what a drawn word stands for
abbrev pub book_inv_of_word : ℕ → BookInv
book_inv_of_word word =
    let a = word / 4 % 16 in
    let b = word / 64 % 16 in
    let v = word / 1024 % 1000 in
    if word % 4 == 0 then Deposit a v else if word % 4 == 1 then Withdraw a v else if word % 4 == 2 then Move a b v else Total

-- its words
abbrev pub book_language : Language BookInv BookResp
book_language =
    record { inv_words = book_words; inv_of_words = book_inv_of_words; resp_text = book_resp_text; inv_of_word = book_inv_of_word }

-- the accounts of an invocation are among the sixteen
abbrev pub HasAccounts : BookInv → Type 0
HasAccounts (Deposit a v) = a < 16
HasAccounts (Withdraw a v) = a < 16
HasAccounts (Move a b v) = (a < 16) × (b < 16)
HasAccounts Total = Unit {0}

-- what an accepted deposit adds
abbrev pub added_by : BookInv → BookResp → ℕ
added_by (Deposit a v) (Balance _) = v
added_by _ _ = 0

-- what an accepted withdrawal takes
abbrev pub taken_by : BookInv → BookResp → ℕ
taken_by (Withdraw a v) (Balance _) = v
taken_by _ _ = 0

-- what the accepted deposits among these invocations add
abbrev pub total_added : List ℕ → List BookInv → ℕ
total_added balances [] = 0
total_added balances (inv ∷ invs) = added_by inv (book_answer balances inv) + total_added (book_next balances inv) invs

-- what the accepted withdrawals among them take
abbrev pub total_taken : List ℕ → List BookInv → ℕ
total_taken balances [] = 0
total_taken balances (inv ∷ invs) = taken_by inv (book_answer balances inv) + total_taken (book_next balances inv) invs

a_deposit_within_the_limit : book_next (4 ∷ 5 ∷ []) (Deposit 1 2) ≡ 4 ∷ 7 ∷ []
a_deposit_within_the_limit = refl

a_deposit_past_the_limit : book_answer (4 ∷ 999999999999 ∷ []) (Deposit 1 1) ≡ Over
a_deposit_past_the_limit = refl

a_withdrawal_past_the_balance : book_answer (4 ∷ 5 ∷ []) (Withdraw 0 5) ≡ Short
a_withdrawal_past_the_balance = refl

a_move : book_next (4 ∷ 5 ∷ []) (Move 0 1 3) ≡ 1 ∷ 8 ∷ []
a_move = refl

a_move_to_itself : book_next (4 ∷ 5 ∷ []) (Move 0 0 3) ≡ 4 ∷ 5 ∷ []
a_move_to_itself = refl

a_move_to_itself_has_room : book_answer (999999999999 ∷ 5 ∷ []) (Move 0 0 3) ≡ Moved
a_move_to_itself_has_room = refl

a_move_short_before_over : book_answer (4 ∷ 999999999999 ∷ []) (Move 0 1 5) ≡ Short
a_move_short_before_over = refl

a_move_over : book_answer (4 ∷ 999999999999 ∷ []) (Move 0 1 4) ≡ Over
a_move_over = refl

a_total : book_answer (4 ∷ 999999999999 ∷ []) Total ≡ Sum 1000000000003
a_total = refl

drawn_5254 : book_inv_of_word 5254 ≡ Move 1 2 5
drawn_5254 = refl

there_are_16_accounts : length book_start ≡ 16
there_are_16_accounts = refl

a_balance_reaches_999999999999 : book_answer (999999999998 ∷ []) (Deposit 0 1) ≡ Balance 999999999999
a_balance_reaches_999999999999 = refl

a_deposit_over_changes_nothing : book_next (999999999999 ∷ []) (Deposit 0 1) ≡ 999999999999 ∷ []
a_deposit_over_changes_nothing = refl

a_withdrawal_of_the_balance : book_answer (4 ∷ []) (Withdraw 0 4) ≡ Balance 0
a_withdrawal_of_the_balance = refl

a_withdrawal_that_is_short_changes_nothing : book_next (4 ∷ []) (Withdraw 0 5) ≡ 4 ∷ []
a_withdrawal_that_is_short_changes_nothing = refl

a_move_up_to_the_limit : book_next (4 ∷ 999999999995 ∷ []) (Move 0 1 4) ≡ 0 ∷ 999999999999 ∷ []
a_move_up_to_the_limit = refl

a_move_past_the_limit : book_answer (4 ∷ 999999999996 ∷ []) (Move 0 1 4) ≡ Over
a_move_past_the_limit = refl

a_move_past_the_balance : book_answer (4 ∷ 5 ∷ []) (Move 0 1 5) ≡ Short
a_move_past_the_balance = refl

-- each word and each text
total_is_read : book_inv_of_words (words_of_text (codes "total")) ≡ Some Total
total_is_read = refl

words_of_invocations : map book_words (Deposit 15 7 ∷ Withdraw 15 7 ∷ Move 15 0 7 ∷ Total ∷ [])
    ≡ (codes "deposit" ∷ codes "15" ∷ codes "7" ∷ []) ∷ (codes "withdraw" ∷ codes "15" ∷ codes "7" ∷ [])
    ∷ (codes "move" ∷ codes "15" ∷ codes "0" ∷ codes "7" ∷ []) ∷ (codes "total" ∷ []) ∷ []
unfolding digits
words_of_invocations = refl

texts_of_responses : map book_resp_text (Balance 999999999999 ∷ Over ∷ Short ∷ Moved ∷ Sum 15999999999984 ∷ [])
    ≡ codes "999999999999" ∷ codes "over" ∷ codes "short" ∷ codes "moved" ∷ codes "15999999999984" ∷ []
unfolding digits
texts_of_responses = refl

-- the last account and the last value, in each word's place
account_15_and_value_999999999999_are_taken : map (λ text. book_inv_of_words (words_of_text text))
    (codes "deposit 15 999999999999" ∷ codes "withdraw 15 999999999999" ∷ codes "move 15 15 999999999999" ∷ [])
    ≡ Some (Deposit 15 999999999999) ∷ Some (Withdraw 15 999999999999) ∷ Some (Move 15 15 999999999999) ∷ []
unfolding number_below number_of_word
account_15_and_value_999999999999_are_taken = refl

account_16_is_not : map (λ text. book_inv_of_words (words_of_text text))
    (codes "deposit 16 7" ∷ codes "withdraw 16 7" ∷ codes "move 16 0 7" ∷ codes "move 0 16 7" ∷ [])
    ≡ None ∷ None ∷ None ∷ None ∷ []
unfolding number_below number_of_word
account_16_is_not = refl

value_1000000000000_is_not : map (λ text. book_inv_of_words (words_of_text text))
    (codes "deposit 0 1000000000000" ∷ codes "withdraw 0 1000000000000" ∷ codes "move 0 1 1000000000000" ∷ [])
    ≡ None ∷ None ∷ None ∷ []
unfolding number_below number_of_word
value_1000000000000_is_not = refl

-- drawn words at each residue, and on both sides of 16 accounts and 1000 values
drawn_at_each_residue : map book_inv_of_word (0 ∷ 1 ∷ 2 ∷ 3 ∷ []) ≡ Deposit 0 0 ∷ Withdraw 0 0 ∷ Move 0 0 0 ∷ Total ∷ []
drawn_at_each_residue = refl

drawn_accounts_are_below_16 : map book_inv_of_word (62 ∷ 66 ∷ 1022 ∷ 1026 ∷ [])
    ≡ Move 15 0 0 ∷ Move 0 1 0 ∷ Move 15 15 0 ∷ Move 0 0 1 ∷ []
drawn_accounts_are_below_16 = refl

drawn_values_are_below_1000 : map book_inv_of_word (1023998 ∷ 1024000 ∷ []) ≡ Move 15 15 999 ∷ Deposit 0 0 ∷ []
drawn_values_are_below_1000 = refl

drawn_from_the_greatest_words : map book_inv_of_word (18446744073709551614 ∷ 18446744073709551615 ∷ [])
    ≡ Move 15 15 983 ∷ Total ∷ []
drawn_from_the_greatest_words = refl

account_0_and_value_0_are_taken : map (λ text. book_inv_of_words (words_of_text text))
    (codes "deposit 0 0" ∷ codes "withdraw 0 0" ∷ codes "move 0 0 0" ∷ [])
    ≡ Some (Deposit 0 0) ∷ Some (Withdraw 0 0) ∷ Some (Move 0 0 0) ∷ []
unfolding number_below number_of_word
account_0_and_value_0_are_taken = refl

a_leading_zero_is_not : map (λ text. book_inv_of_words (words_of_text text))
    (codes "deposit 015 7" ∷ codes "deposit 15 07" ∷ codes "withdraw 015 7" ∷ codes "withdraw 15 07" ∷ codes "move 015 0 7"
    ∷ codes "move 0 015 7" ∷ codes "move 0 1 07" ∷ [])
    ≡ None ∷ None ∷ None ∷ None ∷ None ∷ None ∷ None ∷ []
unfolding number_below number_of_word
a_leading_zero_is_not = refl

accounts_far_past_15_are_not : map (λ text. book_inv_of_words (words_of_text text))
    (codes "deposit 999999999999 7" ∷ codes "withdraw 1000000000000 7" ∷ codes "move 999999999999 0 7"
    ∷ codes "move 0 1000000000000 7" ∷ []) ≡ None ∷ None ∷ None ∷ None ∷ []
unfolding number_below number_of_word
accounts_far_past_15_are_not = refl

-- account 15 is the last of the book
account_15_has_a_balance : book_answer book_start (Deposit 15 7) ≡ Balance 7
account_15_has_a_balance = refl

it_is_the_last_one : book_next book_start (Deposit 15 7) ≡ replicate 15 0 ++ 7 ∷ []
it_is_the_last_one = refl

accounts_up_to_15_are_there : HasAccounts (Deposit 15 7) × HasAccounts (Withdraw 15 7) × HasAccounts (Move 15 15 7)
accounts_up_to_15_are_there = (omega arith, omega arith, (omega arith, omega arith))

account_16_of_a_deposit_is_not_there : ¬ (HasAccounts (Deposit 16 7))
account_16_of_a_deposit_is_not_there = λ there. omega arith

account_16_of_a_withdrawal_is_not_there : ¬ (HasAccounts (Withdraw 16 7))
account_16_of_a_withdrawal_is_not_there = λ there. omega arith

account_16_of_a_move_is_not_there : ¬ (HasAccounts (Move 16 0 7)) × ¬ (HasAccounts (Move 0 16 7))
account_16_of_a_move_is_not_there = (λ there. let source = there.0 in omega arith, λ there. let target = there.1 in omega arith)

-- where a sum meets the greatest balance, and where it passes it
room_up_to_999999999999 : map (has_room (999999999998 ∷ []) 0) (0 ∷ 1 ∷ 2 ∷ 999999999999 ∷ [])
    ≡ true ∷ true ∷ false ∷ false ∷ []
room_up_to_999999999999 = refl

funds_up_to_the_balance : map (has_funds (4 ∷ []) 0) (0 ∷ 4 ∷ 5 ∷ 999999999999 ∷ []) ≡ true ∷ true ∷ false ∷ false ∷ []
funds_up_to_the_balance = refl

the_greatest_deposit_into_nothing : book_answer (0 ∷ []) (Deposit 0 999999999999) ≡ Balance 999999999999
the_greatest_deposit_into_nothing = refl

the_greatest_deposit_into_1 : book_answer (1 ∷ []) (Deposit 0 999999999999) ≡ Over
the_greatest_deposit_into_1 = refl

a_withdrawal_of_the_greatest_balance : book_answer (999999999999 ∷ []) (Withdraw 0 999999999999) ≡ Balance 0
a_withdrawal_of_the_greatest_balance = refl

a_withdrawal_of_1_more : book_answer (999999999998 ∷ []) (Withdraw 0 999999999999) ≡ Short
a_withdrawal_of_1_more = refl

a_move_of_the_greatest_balance : book_next (999999999999 ∷ 0 ∷ []) (Move 0 1 999999999999) ≡ 0 ∷ 999999999999 ∷ []
a_move_of_the_greatest_balance = refl

a_move_of_the_greatest_balance_into_1 : book_answer (999999999999 ∷ 1 ∷ []) (Move 0 1 999999999999) ≡ Over
a_move_of_the_greatest_balance_into_1 = refl

the_greatest_total : book_answer (replicate 16 999999999999) Total ≡ Sum 15999999999984
the_greatest_total = refl

a_deposit_over_adds_nothing : total_added (999999999998 ∷ []) (Deposit 0 1 ∷ Deposit 0 1 ∷ []) ≡ 1
a_deposit_over_adds_nothing = refl

a_withdrawal_that_is_short_takes_nothing : total_taken (1 ∷ []) (Withdraw 0 1 ∷ Withdraw 0 1 ∷ []) ≡ 1
a_withdrawal_that_is_short_takes_nothing = refl
