-- A register of 31 bits, and the calls that its invocations make.
use Rattle.std.specs.Prelude.{◌≡◌, ℕ, ◌+◌, ◌*◌, ◌/◌, ◌%◌, ◌^◌, ◌==◌, nat_le, max, if◌then◌else◌, refl}
use Rattle.seq_object.specs.Sequential.{Sequential}
use Rattle.word_objects.specs.declared.register.RegisterCall.{RegisterCall}
use Rattle.word_objects.specs.declared.register.RegisterCall.TheVariants.{Read, Write, Swap, FetchAdd, FetchMax, CompareExchange}

-- the call of an operation with a value
abbrev pub call_of_operation : (operation value : ℕ) → RegisterCall
call_of_operation operation value =
    if operation == 1 then Write value
    else if operation == 2 then Swap value
    else if operation == 3 then FetchAdd value
    else if operation == 4 then FetchMax value
    else if nat_le (2 ^ 31) operation then CompareExchange (operation % 2 ^ 31) value
    else Read

-- the call that an invocation makes: the operation stands above the lowest 31 bits, and the value in these
abbrev pub register_call : (inv : ℕ) → RegisterCall
register_call inv = call_of_operation (inv / 2 ^ 31) (inv % 2 ^ 31)

-- the value after a call
abbrev pub value_after : (value : ℕ) → RegisterCall → ℕ
value_after value Read = value
value_after value (Write v) = v
value_after value (Swap v) = v
value_after value (FetchAdd n) = (value + n) % 2 ^ 31
value_after value (FetchMax v) = max value v
value_after value (CompareExchange expected v) = if value == expected then v else value

-- the reply to a call: nothing to a write, which is 0, and the value before to each other one
abbrev pub reply_to : (value : ℕ) → RegisterCall → ℕ
reply_to value (Write v) = 0
reply_to value Read = value
reply_to value (Swap v) = value
reply_to value (FetchAdd n) = value
reply_to value (FetchMax v) = value
reply_to value (CompareExchange expected v) = value

abbrev pub register : Sequential ℕ ℕ ℕ
register = record {
  initial = 0;
  next = λ value inv. value_after value (register_call inv);
  answer = λ value inv. reply_to value (register_call inv);
}

call-read : register_call 0 ≡ Read
call-read = refl

call-write : register_call (2 ^ 31 + 5) ≡ Write 5
call-write = refl

call-max : register_call (4 * 2 ^ 31 + 2147483647) ≡ FetchMax 2147483647
call-max = refl

call-other : register_call (5 * 2 ^ 31 + 7) ≡ Read
call-other = refl

call-exchange : register_call (2 ^ 62 + 3 * 2 ^ 31 + 9) ≡ CompareExchange 3 9
call-exchange = refl

after-add : value_after 2147483647 (FetchAdd 3) ≡ 2
after-add = refl

after-max : value_after 5 (FetchMax 3) ≡ 5
after-max = refl

after-exchange : value_after 3 (CompareExchange 3 9) ≡ 9
after-exchange = refl

after-refused : value_after 4 (CompareExchange 3 9) ≡ 4
after-refused = refl

reply-swap : reply_to 5 (Swap 9) ≡ 5
reply-swap = refl

reply-write : reply_to 5 (Write 9) ≡ 0
reply-write = refl
