-- The balances of a book on words.
use Rattle.small_objects.proofs.Vocabulary.{All, IsReached, List, arith, book, call_in, get_or_past, inl, inr, kept_by_calls, length, length-book_next, lt_cases, map, refl, subst, sum, sum_most, ℕ, ◌<◌, ◌∙◌, ◌≡◌, ◌≤◌}
use Rattle.std.proofs.lemmas.List.Elements.{All-get_or}
use Rattle.ready_objects.proofs.BookSums.{state_after-book_start-limit}
use Rattle.small_objects.specs.Book.{IsBook, reply_words, spelled}
use Rattle.small_objects.proofs.Reached.{reached_in}

pub is_book : (balances : List ℕ) → IsReached spelled.object balances → IsBook balances
is_book balances reached = (let was = reached_in book call_in reply_words balances reached in record {
  sixteen = kept_by_calls book call_in (λ state. length state ≡ 16) refl (λ state words is. length-book_next state (call_in words) ∙ is) balances was;
  small = λ i. elim (lt_cases i (length balances)) [
    | inl inside ↦ All-get_or (λ (b : ℕ). b ≤ 999999999999) balances i 0 inside.0 (subst (All (λ (b : ℕ). b ≤ 999999999999)) was.1 (state_after-book_start-limit (map call_in was.0)))
    | inr past ↦ (let none = get_or_past balances i 0 past.0 in omega (arith, none))
  ];
})

pub sum_fits : (balances : List ℕ) → IsBook balances → sum balances < 18446744073709551616
sum_fits balances is = (let most = sum_most 999999999999 balances (λ i below. is.small i) in omega (arith, most))
