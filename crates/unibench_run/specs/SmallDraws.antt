-- The calls of objects of several words that words stand for.
use Rattle.std.specs.Prelude.{◌≡◌, ℕ, zero, suc, ◌+◌, ◌*◌, ◌/◌, ◌%◌, refl}
use Rattle.small_objects.specs.declared.counters.CountersCall.{CountersCall}
use Rattle.small_objects.specs.declared.map.MapCall.{MapCall}
use Rattle.small_objects.specs.declared.map.MapCall.TheVariants.{Get, Insert, Remove}
use Rattle.small_objects.specs.declared.register.RegisterCall.{RegisterCall}
use Rattle.small_objects.specs.declared.register.RegisterCall.TheVariants.{CompareExchange, Read, Write}

-- one of 16 counters, or none, and a number below 1000
abbrev pub counters_call : ℕ → CountersCall
counters_call word = record { counter = word % 17; operand = (word / 17) % 1000 }

-- 0, which takes a value out, where the word is even, and else a value from 1 to 999
abbrev pub zero_or_value : ℕ → ℕ
zero_or_value word = (word % 2) * (1 + (word / 2) % 999)

-- a read, a write or an exchange, of values below 8
abbrev pub register_call_of : (which one other : ℕ) → RegisterCall
register_call_of zero one other = Read
register_call_of (suc zero) one other = Write one
register_call_of (suc (suc which)) one other = CompareExchange one other

abbrev pub register_call : ℕ → RegisterCall
register_call word = register_call_of (word % 3) ((word / 3) % 8) ((word / 24) % 8)

-- of one of 100 keys: a get, a remove, or an insert, which two of four words are, of a value below 1000
abbrev pub map_call_of : (which key value : ℕ) → MapCall
map_call_of zero key value = Get key
map_call_of (suc zero) key value = Remove key
map_call_of (suc (suc which)) key value = Insert key value

abbrev pub map_call : ℕ → MapCall
map_call word = map_call_of (word % 4) ((word / 4) % 100) ((word / 400) % 1000)

an_insert : map_call 2407 ≡ Insert 1 6
an_insert = refl

an_exchange : register_call 125 ≡ CompareExchange 1 5
an_exchange = refl
