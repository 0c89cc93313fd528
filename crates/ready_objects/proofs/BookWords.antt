-- The book's words, read.
use Rattle.ready_objects.proofs.Vocabulary.{BookInv, Deposit, List, Move, None, Option, Some, Total, Withdraw, [], ap, arith, book_inv_of_words, book_words, bytes_eq, cases_Bool, codes, decimal, inl, inr, number_below, number_of_word, refl, sym, with_account, with_accounts, ℕ, ◌<◌, ◌>>=◌, ◌∙◌, ◌∷◌, ◌≡◌, ◌≤◌}
use Rattle.ready_objects.proofs.Numbers.{number_of_word-decimal, decimal-number_of_word, number_below-decimal, decimal-number_below}
use Rattle.ready_objects.proofs.Words.{named}

-- an account and an amount are read back
pub with_account-decimal : (operation : ℕ → ℕ → BookInv) (a v : ℕ) → a < 16 → v ≤ 999999999999 → with_account operation (decimal a) (decimal v) ≡ Some (operation a v)
with_account-decimal operation a v account amount =
    rw (number_below-decimal 16 a account (omega arith)) (rw (number_of_word-decimal v amount) refl)

-- two accounts and an amount are read back
pub with_accounts-decimal : (operation : ℕ → ℕ → ℕ → BookInv) (a b v : ℕ) → a < 16 → b < 16 → v ≤ 999999999999
    → with_accounts operation (decimal a) (decimal b) (decimal v) ≡ Some (operation a b v)
with_accounts-decimal operation a b v from to amount =
    rw (number_below-decimal 16 a from (omega arith)) (rw (number_below-decimal 16 b to (omega arith)) (rw (number_of_word-decimal v amount) refl))

-- the numbers that were read
record IsRead (operation : ℕ → ℕ → BookInv) (a v : List ℕ) (i : BookInv) : Type 0 where
  account : ℕ
  amount : ℕ
  is : operation account amount ≡ i
  account_word : decimal account ≡ a
  amount_word : decimal amount ≡ v

with_account_read : (operation : ℕ → ℕ → BookInv) (a v : List ℕ) (i : BookInv) (m n : Option ℕ) → number_below 16 a ≡ m → number_of_word v ≡ n
    → (m >>= (λ account. n >>= (λ amount. Some (operation account amount)))) ≡ Some i → IsRead operation a v i
with_account_read operation a v i None n account amount read = cc
with_account_read operation a v i (Some m) None account amount read = cc
with_account_read operation a v i (Some m) (Some n) account amount read = record {
  account = m;
  amount = n;
  is = cc;
  account_word = decimal-number_below 16 a m account;
  amount_word = decimal-number_of_word v n amount;
}

-- the same of two accounts
record AreRead (operation : ℕ → ℕ → ℕ → BookInv) (a b v : List ℕ) (i : BookInv) : Type 0 where
  from : ℕ
  to : ℕ
  amount : ℕ
  is : operation from to amount ≡ i
  from_word : decimal from ≡ a
  to_word : decimal to ≡ b
  amount_word : decimal amount ≡ v

with_accounts_read : (operation : ℕ → ℕ → ℕ → BookInv) (a b v : List ℕ) (i : BookInv) (k m n : Option ℕ) → number_below 16 a ≡ k → number_below 16 b ≡ m → number_of_word v ≡ n
    → (k >>= (λ from. m >>= (λ to. n >>= (λ amount. Some (operation from to amount))))) ≡ Some i → AreRead operation a b v i
with_accounts_read operation a b v i None m n from to amount read = cc
with_accounts_read operation a b v i (Some k) None n from to amount read = cc
with_accounts_read operation a b v i (Some k) (Some m) None from to amount read = cc
with_accounts_read operation a b v i (Some k) (Some m) (Some n) from to amount read = record {
  from = k;
  to = m;
  amount = n;
  is = cc;
  from_word = decimal-number_below 16 a k from;
  to_word = decimal-number_below 16 b m to;
  amount_word = decimal-number_of_word v n amount;
}

-- an invocation of an account has its words
at_account : (operation : ℕ → ℕ → BookInv) (name a v : List ℕ) (i : BookInv) → ((m n : ℕ) → book_words (operation m n) ≡ name ∷ decimal m ∷ decimal n ∷ [])
    → with_account operation a v ≡ Some i → book_words i ≡ name ∷ a ∷ v ∷ []
at_account operation name a v i words read =
    let numbers = with_account_read operation a v i (number_below 16 a) (number_of_word v) refl refl read in
    ap book_words (sym numbers.is) ∙ words numbers.account numbers.amount
    ∙ ap (λ w. name ∷ w ∷ decimal numbers.amount ∷ []) numbers.account_word ∙ ap (λ w. name ∷ a ∷ w ∷ []) numbers.amount_word

-- and so has a move
at_accounts : (a b v : List ℕ) (i : BookInv) → with_accounts Move a b v ≡ Some i → book_words i ≡ codes "move" ∷ a ∷ b ∷ v ∷ []
at_accounts a b v i read =
    let numbers = with_accounts_read Move a b v i (number_below 16 a) (number_below 16 b) (number_of_word v) refl refl refl read in
    ap book_words (sym numbers.is)
    ∙ ap (λ w. codes "move" ∷ w ∷ decimal numbers.to ∷ decimal numbers.amount ∷ []) numbers.from_word
    ∙ ap (λ w. codes "move" ∷ a ∷ w ∷ decimal numbers.amount ∷ []) numbers.to_word ∙ ap (λ w. codes "move" ∷ a ∷ b ∷ w ∷ []) numbers.amount_word

-- words are read as the invocation that has them
pub book_words-book_inv_of_words : (words : List (List ℕ)) (i : BookInv) → book_inv_of_words words ≡ Some i → book_words i ≡ words
book_words-book_inv_of_words [] i read = cc
book_words-book_inv_of_words (name ∷ []) i read =
    elim (cases_Bool (bytes_eq name (codes "total"))) [
      | inl total ↦
          let r : Some Total ≡ Some i = rw total at read in
          let same : Total ≡ i = cc in
          ap book_words (sym same) ∙ ap (λ w. w ∷ []) (named name (codes "total") total)
      | inr other ↦ let r = rw other at read in cc
    ]
book_words-book_inv_of_words (name ∷ a ∷ []) i read = cc
book_words-book_inv_of_words (name ∷ a ∷ v ∷ []) i read =
    elim (cases_Bool (bytes_eq name (codes "deposit"))) [
      | inl deposit ↦
          let r = rw deposit at read in
          at_account Deposit (codes "deposit") a v i (λ m n. refl) r ∙ ap (λ w. w ∷ a ∷ v ∷ []) (named name (codes "deposit") deposit)
      | inr other ↦ elim (cases_Bool (bytes_eq name (codes "withdraw"))) [
        | inl withdraw ↦
            let r = rw (other, withdraw) at read in
            at_account Withdraw (codes "withdraw") a v i (λ m n. refl) r ∙ ap (λ w. w ∷ a ∷ v ∷ []) (named name (codes "withdraw") withdraw)
        | inr none ↦ let r = rw (other, none) at read in cc
      ]
    ]
book_words-book_inv_of_words (name ∷ a ∷ b ∷ v ∷ []) i read =
    elim (cases_Bool (bytes_eq name (codes "move"))) [
      | inl move ↦
          let r = rw move at read in
          at_accounts a b v i r ∙ ap (λ w. w ∷ a ∷ b ∷ v ∷ []) (named name (codes "move") move)
      | inr other ↦ let r = rw other at read in cc
    ]
book_words-book_inv_of_words (a ∷ b ∷ c ∷ d ∷ e ∷ words) i read = cc
