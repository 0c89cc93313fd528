-- What an entry of the code is in the definitions: an entry of the log, and a call of a sequential history.
use Rattle.std.specs.Prelude.{◌≡◌, ℕ, Some, refl}
use Rattle.seq_object.specs.History.{Call}
use Rattle.uni_model.specs.Chain.{Entry as Logged}
use Rattle.uni_log.specs.declared.entry.Entry.{Entry}

abbrev pub entry_shown : {I R : Type 0} → Entry I R → Logged I R
entry_shown e = record { number = e.seq; call = record { process = e.call.process; nth = e.call.nth; inv = e.inv }; response = e.reply }

-- the call of a sequential history that an entry is
abbrev pub call_shown : {I R : Type 0} → Entry I R → Call I R
call_shown e = record { inv = e.inv; response = e.reply }

-- call 1.0 asks for 7, has number 2, and is answered 3
abbrev sample : Entry ℕ ℕ
sample = record { seq = 2; call = record { process = 1; nth = 0 }; inv = 7; reply = Some 3 }

sample_shown : entry_shown sample ≡ record { number = 2; call = record { process = 1; nth = 0; inv = 7 }; response = Some 3 }
sample_shown = refl

sample_call : call_shown sample ≡ record { inv = 7; response = Some 3 }
sample_call = refl
