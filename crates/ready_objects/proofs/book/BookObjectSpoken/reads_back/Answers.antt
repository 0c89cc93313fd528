use Rattle.ready_objects.proofs.Vocabulary.{Deposit, Move, Withdraw, [], arith, codes, decimal, sym, ◌<◌, ◌∷◌, ◌≤◌}
use Rattle.ready_objects.proofs.BookWords.{with_account-decimal, with_accounts-decimal, book_words-book_inv_of_words}
use Rattle.ready_objects.proofs.Numbers.{lacks_space-decimal}
use Rattle.ready_objects.proofs.Words.{words_of_text-text_of_words, lack_two, lack_three}
use Rattle.ready_objects.proofs.book.BookObjectSpoken.reads_back.Goals as goal

pub returns-in-Deposit-clause-words : goal.returns-in-Deposit-clause-words
returns-in-Deposit-clause-words c =
    let account : c.in-Deposit.account ≤ 999999999999 = omega arith in
    let amount : c.in-Deposit.amount ≤ 999999999999 = omega arith in
    rw c.in-Deposit.is
    (words_of_text-text_of_words (codes "deposit") (decimal c.in-Deposit.account ∷ decimal c.in-Deposit.amount ∷ [])
    (lack_two (decimal c.in-Deposit.account) (decimal c.in-Deposit.amount) (lacks_space-decimal c.in-Deposit.account account) (lacks_space-decimal c.in-Deposit.amount amount)))

pub returns-in-Deposit-clause-inv : goal.returns-in-Deposit-clause-inv
returns-in-Deposit-clause-inv c =
    let account : c.in-Deposit.account < 16 = omega arith in
    let amount : c.in-Deposit.amount ≤ 999999999999 = omega arith in
    rw c.in-Deposit.is (with_account-decimal Deposit c.in-Deposit.account c.in-Deposit.amount account amount)

pub returns-in-Deposit-clause-only : goal.returns-in-Deposit-clause-only
returns-in-Deposit-clause-only c = λ words read. sym (book_words-book_inv_of_words words c.args.inv.now read)

pub returns-in-Withdraw-clause-words : goal.returns-in-Withdraw-clause-words
returns-in-Withdraw-clause-words c =
    let account : c.in-Withdraw.account ≤ 999999999999 = omega arith in
    let amount : c.in-Withdraw.amount ≤ 999999999999 = omega arith in
    rw c.in-Withdraw.is
    (words_of_text-text_of_words (codes "withdraw") (decimal c.in-Withdraw.account ∷ decimal c.in-Withdraw.amount ∷ [])
    (lack_two (decimal c.in-Withdraw.account) (decimal c.in-Withdraw.amount) (lacks_space-decimal c.in-Withdraw.account account) (lacks_space-decimal c.in-Withdraw.amount amount)))

pub returns-in-Withdraw-clause-inv : goal.returns-in-Withdraw-clause-inv
returns-in-Withdraw-clause-inv c =
    let account : c.in-Withdraw.account < 16 = omega arith in
    let amount : c.in-Withdraw.amount ≤ 999999999999 = omega arith in
    rw c.in-Withdraw.is (with_account-decimal Withdraw c.in-Withdraw.account c.in-Withdraw.amount account amount)

pub returns-in-Withdraw-clause-only : goal.returns-in-Withdraw-clause-only
returns-in-Withdraw-clause-only c = λ words read. sym (book_words-book_inv_of_words words c.args.inv.now read)

pub returns-in-Move-clause-words : goal.returns-in-Move-clause-words
returns-in-Move-clause-words c =
    let from : c.in-Move.from ≤ 999999999999 = omega arith in
    let to : c.in-Move.to ≤ 999999999999 = omega arith in
    let amount : c.in-Move.amount ≤ 999999999999 = omega arith in
    rw c.in-Move.is
    (words_of_text-text_of_words (codes "move") (decimal c.in-Move.from ∷ decimal c.in-Move.to ∷ decimal c.in-Move.amount ∷ [])
    (lack_three (decimal c.in-Move.from) (decimal c.in-Move.to) (decimal c.in-Move.amount)
    (lacks_space-decimal c.in-Move.from from) (lacks_space-decimal c.in-Move.to to) (lacks_space-decimal c.in-Move.amount amount)))

pub returns-in-Move-clause-inv : goal.returns-in-Move-clause-inv
returns-in-Move-clause-inv c =
    let from : c.in-Move.from < 16 = omega arith in
    let to : c.in-Move.to < 16 = omega arith in
    let amount : c.in-Move.amount ≤ 999999999999 = omega arith in
    rw c.in-Move.is (with_accounts-decimal Move c.in-Move.from c.in-Move.to c.in-Move.amount from to amount)

pub returns-in-Move-clause-only : goal.returns-in-Move-clause-only
returns-in-Move-clause-only c = λ words read. sym (book_words-book_inv_of_words words c.args.inv.now read)

pub returns-in-Total-clause-only : goal.returns-in-Total-clause-only
returns-in-Total-clause-only c = λ words read. sym (book_words-book_inv_of_words words c.args.inv.now read)
