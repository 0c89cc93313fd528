-- Which line is refused.
use Rattle.std.specs.Prelude.{◌≡◌, ℕ}
use Rattle.history_text.specs.declared.fault.ReadError.{ReadError}
use Rattle.history_text.specs.declared.fault.ReadError.TheVariants.{Refused, Memory}

-- a refusal is of this line
abbrev pub IsOnLine : (line : ℕ) → ReadError → Type 0
IsOnLine line (Refused fault) = fault.line ≡ line
IsOnLine line Memory = Unit {0}

-- it is of a line, and not of memory
abbrev pub IsRefusal : ReadError → Type 0
IsRefusal (Refused fault) = Unit {0}
IsRefusal Memory = ⊥
