-- The book of scripts in words: its state is its balances.
use Rattle.std.specs.Prelude.{◌≡◌, ℕ, ◌<◌, ◌≤◌, ◌==◌, ◌&&◌, ◌||◌, Bool, true, false, not, List, [], ◌∷◌, if◌then◌else◌, length, nat_lt, refl, slice_index}
use Rattle.std.proofs.Common.{◌∙◌, arith, length-set}
use Rattle.std.proofs.lemmas.Bool.Decides.{nat_tests}
use Rattle.uni_small.specs.Image.{IsSteady, Meaning}
use Rattle.ready_objects.specs.Book.{book, book_next, has_funds, has_room, put_in, taken_out}
use Rattle.ready_objects.specs.declared.book.BookInv.{BookInv}
use Rattle.ready_objects.specs.declared.book.BookInv.TheVariants.{Deposit, Move, Total, Withdraw}
use Rattle.ready_objects.specs.declared.book.BookResp.{BookResp}
use Rattle.ready_objects.specs.declared.book.BookResp.TheVariants.{Balance, Moved, Over, Short, Sum}
use Rattle.small_objects.specs.Amount.{is_amount, is_amount-true}
use Rattle.small_objects.specs.Encoding.{in_words, steady_in_words}

-- the words of a call: which one it is, its accounts, and its amount
abbrev pub call_words : BookInv → List ℕ
call_words (Deposit a v) = 0 ∷ a ∷ 0 ∷ v ∷ []
call_words (Withdraw a v) = 1 ∷ a ∷ 0 ∷ v ∷ []
call_words (Move a b v) = 2 ∷ a ∷ b ∷ v ∷ []
call_words Total = 3 ∷ 0 ∷ 0 ∷ 0 ∷ []

-- the call of this kind, with these accounts and this amount
abbrev pub call_of : (kind a b v : ℕ) → BookInv
call_of kind a b v = if kind == 0 then Deposit a v else if kind == 1 then Withdraw a v else if kind == 2 then Move a b v else Total

-- the call that words are: where an account or the amount is none, it asks for the total
abbrev pub call_in : List ℕ → BookInv
call_in words =
    if nat_lt (slice_index words 1) 16 && nat_lt (slice_index words 2) 16 && is_amount (slice_index words 3)
    then call_of (slice_index words 0) (slice_index words 1) (slice_index words 2) (slice_index words 3) else Total

-- the words of a reply: which one it is, and its number
abbrev pub reply_words : BookResp → List ℕ
reply_words (Balance v) = 0 ∷ v ∷ []
reply_words Over = 1 ∷ 0 ∷ []
reply_words Short = 2 ∷ 0 ∷ []
reply_words Moved = 3 ∷ 0 ∷ []
reply_words (Sum n) = 4 ∷ n ∷ []

abbrev pub reply_in : List ℕ → BookResp
reply_in words =
    if slice_index words 0 == 0 && is_amount (slice_index words 1) then Balance (slice_index words 1)
    else if slice_index words 0 == 2 then Short
    else if slice_index words 0 == 3 then Moved
    else if slice_index words 0 == 4 then Sum (slice_index words 1) else Over

-- a call, and a reply, that a program has
abbrev pub IsCall : BookInv → Type 0
IsCall (Deposit a v) = (a < 16) × (v ≤ 999999999999)
IsCall (Withdraw a v) = (a < 16) × (v ≤ 999999999999)
IsCall (Move a b v) = (a < 16) × (b < 16) × (v ≤ 999999999999)
IsCall Total = Unit {0}

abbrev pub IsReply : BookResp → Type 0
IsReply (Balance v) = v ≤ 999999999999
IsReply _ = Unit {0}

pub call_long : (call : BookInv) → length (call_words call) ≡ 4
call_long (Deposit a v) = refl
call_long (Withdraw a v) = refl
call_long (Move a b v) = refl
call_long Total = refl

below_16 : (a : ℕ) → a < 16 → nat_lt a 16 ≡ true
below_16 a less = grind (arith, nat_tests)

pub call_fits : (call : BookInv) → IsCall call → call_in (call_words call) ≡ call
call_fits (Deposit a v) is = rw (below_16 a is.0, is_amount-true v is.1) refl
call_fits (Withdraw a v) is = rw (below_16 a is.0, is_amount-true v is.1) refl
call_fits (Move a b v) is = rw (below_16 a is.0, below_16 b is.1, is_amount-true v is.2) refl
call_fits Total is = refl

pub reply_long : (reply : BookResp) → length (reply_words reply) ≡ 2
reply_long (Balance v) = refl
reply_long Over = refl
reply_long Short = refl
reply_long Moved = refl
reply_long (Sum n) = refl

pub reply_fits : (reply : BookResp) → IsReply reply → reply_in (reply_words reply) ≡ reply
reply_fits (Balance v) is = rw (is_amount-true v is) refl
reply_fits Over is = refl
reply_fits Short is = refl
reply_fits Moved is = refl
reply_fits (Sum n) is = refl

-- the book with its calls and replies in words
abbrev pub spelled : Meaning
spelled = record { object = in_words book call_in reply_words; invocation = 4; reply = 2 }

-- sixteen balances, each of them an amount
pub record IsBook (balances : List ℕ) : Type 0 where
  pub sixteen : length balances ≡ 16
  pub small : (i : ℕ) → slice_index balances i ≤ 999999999999

-- no call changes how many balances there are
pub length-book_next : (balances : List ℕ) (call : BookInv) → length (book_next balances call) ≡ length balances
length-book_next balances (Deposit a v) = by_test (has_room balances a v) where
  by_test : (b : Bool) → length (if b then put_in balances a v else balances) ≡ length balances
  by_test true = length-set balances a _
  by_test false = refl
length-book_next balances (Withdraw a v) = by_test (has_funds balances a v) where
  by_test : (b : Bool) → length (if b then taken_out balances a v else balances) ≡ length balances
  by_test true = length-set balances a _
  by_test false = refl
length-book_next balances (Move a b v) = by_test (not (has_funds balances a v) || (a == b) || not (has_room balances b v)) where
  by_test : (t : Bool) → length (if t then balances else put_in (taken_out balances a v) b v) ≡ length balances
  by_test true = refl
  by_test false = length-set (taken_out balances a v) b _ ∙ length-set balances a _
length-book_next balances Total = refl

pub book_steady : IsSteady spelled.object 2
book_steady = steady_in_words book call_in reply_words 2 (λ balances call long. length-book_next balances call ∙ long) reply_long

sample_call : call_words (Move 1 2 5) ≡ 2 ∷ 1 ∷ 2 ∷ 5 ∷ []
sample_call = refl

sample_other : call_in (0 ∷ 16 ∷ 0 ∷ 5 ∷ []) ≡ Total
sample_other = refl

sample_reply : spelled.object.answer (4 ∷ 5 ∷ []) (0 ∷ 1 ∷ 0 ∷ 2 ∷ []) ≡ 0 ∷ 7 ∷ []
sample_reply = refl

sample_short : spelled.object.answer (4 ∷ 5 ∷ []) (1 ∷ 0 ∷ 0 ∷ 5 ∷ []) ≡ 2 ∷ 0 ∷ []
sample_short = refl

sample_state : spelled.object.next (4 ∷ 5 ∷ []) (2 ∷ 0 ∷ 1 ∷ 3 ∷ []) ≡ 1 ∷ 8 ∷ []
sample_state = refl
