-- Options without a value, and words that are none.
use Rattle.std.specs.Prelude.{◌≡◌, ◌==◌, ◌||◌, List, [], ◌∷◌, Bool, Option, None, Some, true, false, not}
use Rattle.std.specs.Prelude.{codes, map, refl, slice_index}
use Rattle.std.specs.Str.{bytes_eq}
use Rattle.clap.specs.Words.{App, Row, Rule, Text, first_of, new_rule}
use Rattle.clap.specs.declared.builder.action.ArgAction.TheVariants.{SetTrue}

-- an option without a value
abbrev pub flag : (name : Text) → Rule
flag name = record (new_rule name) { long = Some name; action = Some SetTrue }

-- there is a value, and it is `true`
abbrev pub is_true : Option Text → Bool
is_true None = false
is_true (Some value) = bytes_eq value (codes "true")

-- it is used
abbrev pub is_set : (name : Text) → List Row → Bool
is_set name rows = is_true (first_of name rows)

-- a word may name a file: it is `-`, or its first byte isn't 45, that of `-`
abbrev pub may_be_path : Text → Bool
may_be_path word = bytes_eq word (codes "-") || not (slice_index word 0 == 45)

-- bytes 44 and 46 stand beside that of `-`
files_and_options : map may_be_path (codes "-" ∷ codes "--" ∷ codes "-f" ∷ codes "" ∷ codes ",f" ∷ codes ".f" ∷ [])
    ≡ true ∷ false ∷ false ∷ true ∷ true ∷ true ∷ []
files_and_options = refl

-- a command with a version
abbrev pub versioned : App → App
versioned app = record app { top = record app.top { has_version = true } }
