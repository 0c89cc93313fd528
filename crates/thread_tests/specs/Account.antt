-- An account that is not overdrawn.
use Rattle.std.specs.Prelude.{◌≡◌, ℕ, ◌+◌, ◌-◌, ◌/◌, ◌%◌, ◌^◌, ◌==◌, List, [], ◌∷◌, refl, slice_index, nat_le, if◌then◌else◌}
use Rattle.seq_object.specs.Sequential.{Sequential}
use Rattle.thread_tests.specs.declared.account.Account.{Account}

-- an amount is paid in, modulo 2^64
abbrev pub paid_in : Account → (amount : ℕ) → Account
paid_in account amount = record account { balance = (account.balance + amount) % 2 ^ 64 }

-- an amount is paid out, where as much is there, and else that is counted
abbrev pub paid_out : Account → (amount : ℕ) → Account
paid_out account amount =
    if nat_le amount account.balance
    then record account { balance = account.balance - amount; paid = (account.paid + 1) % 2 ^ 64 }
    else record account { refused = (account.refused + 1) % 2 ^ 64 }

-- an even invocation pays half of it in, and an odd one half of it out; the reply is the balance before
abbrev pub account : Sequential Account ℕ ℕ
account = record {
  initial = record { balance = 0; paid = 0; refused = 0 };
  next = λ account inv. if inv % 2 == 0 then paid_in account (inv / 2) else paid_out account (inv / 2);
  answer = λ account inv. account.balance;
}

-- its three words
abbrev pub words_of : Account → List ℕ
words_of account = account.balance ∷ account.paid ∷ account.refused ∷ []

abbrev pub account_in : List ℕ → Account
account_in words = record { balance = slice_index words 0; paid = slice_index words 1; refused = slice_index words 2 }

sample_out : account.next (record { balance = 5; paid = 0; refused = 0 }) 7 ≡ record { balance = 2; paid = 1; refused = 0 }
sample_out = refl

sample_refused : account.next (record { balance = 2; paid = 1; refused = 0 }) 7 ≡ record { balance = 2; paid = 1; refused = 1 }
sample_refused = refl
