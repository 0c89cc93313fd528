-- Objects that are not opened.
use Rattle.std.specs.Prelude.{ℕ, ◌<◌, ◌≡◌, ◌⊎◌}

-- a state, an invocation or a reply has too many words, or a reply has none
abbrev pub IsTooWide : (state invocation reply : ℕ) → Type 0
IsTooWide state invocation reply = (65536 < state) ⊎ (65536 < invocation) ⊎ (reply ≡ 0) ⊎ (65536 < reply)
