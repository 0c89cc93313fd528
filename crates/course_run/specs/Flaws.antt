-- The flaws by their words, and the line that tells that a world has one.
use Rattle.std.specs.Prelude.{◌≡◌, ◌++◌, ℕ, List, Option, None, Some, if◌then◌else◌, codes, map, [], ◌∷◌, refl}
use Rattle.std.specs.Str.{bytes_eq}
use Rattle.std.specs.Io.KnownBytes.{Appends}
use Rattle.uni_script.specs.Ends.{AppendsPrefix}
use Rattle.course_run.specs.declared.flaw.Flaw.{Flaw}
use Rattle.course_run.specs.declared.flaw.Flaw.TheVariants.{Nothing, NeverHelps, HelpsBlindly, NumberFirst, LastWins, NewestReply}
use Rattle.course_run.specs.declared.flaw.Flaw.TheVariants.{TrimsPending}

-- the flaw that a word names
abbrev pub flaw_of_word : (word : List ℕ) → Option Flaw
flaw_of_word word =
    if bytes_eq word (codes "nothing") then Some Nothing
    else if bytes_eq word (codes "never-helps") then Some NeverHelps
    else if bytes_eq word (codes "helps-blindly") then Some HelpsBlindly
    else if bytes_eq word (codes "number-first") then Some NumberFirst
    else if bytes_eq word (codes "last-wins") then Some LastWins
    else if bytes_eq word (codes "newest-reply") then Some NewestReply
    else if bytes_eq word (codes "trims-pending") then Some TrimsPending
    else None

-- what is said of a world with a flaw
abbrev pub text_of_flaw : Flaw → List ℕ
text_of_flaw Nothing = codes "a plain world that has no flaw"
text_of_flaw NeverHelps = codes "it never helps"
text_of_flaw HelpsBlindly = codes "it helps without looking at the helped number"
text_of_flaw NumberFirst = codes "it writes the number before the state is settled"
text_of_flaw LastWins = codes "it lets the last proposal win"
text_of_flaw NewestReply = codes "it takes the reply from the newest state"
text_of_flaw TrimsPending = codes "it trims with a call pending"

-- the line that tells that this is not the proved construction, and what is wrong with it
abbrev pub banner : Flaw → List ℕ
banner flaw = codes "not the proved construction: " ++ text_of_flaw flaw ++ codes "\n"

-- a text whose first line is the banner of a flaw
abbrev pub BeginsWithBanner : Flaw → (text : List ℕ) → Type 0
BeginsWithBanner flaw text = (rest : List ℕ) × (text ≡ banner flaw ++ rest)

-- known bytes grew by such a text
abbrev pub AppendsBanner : Flaw → (old new : Option (List ℕ)) → Type 0
AppendsBanner flaw old new = (rest : List ℕ) × Appends old new (banner flaw ++ rest)

-- known bytes grew by a prefix of such a text
abbrev pub AppendsBannerPrefix : Flaw → (old new : Option (List ℕ)) → Type 0
AppendsBannerPrefix flaw old new = (rest : List ℕ) × AppendsPrefix old new (banner flaw ++ rest)

-- rows
each_flaw_has_a_word : map flaw_of_word (codes "nothing" ∷ codes "never-helps" ∷ codes "helps-blindly" ∷ codes "number-first"
    ∷ codes "last-wins" ∷ codes "newest-reply" ∷ codes "trims-pending" ∷ [])
    ≡ Some Nothing ∷ Some NeverHelps ∷ Some HelpsBlindly ∷ Some NumberFirst ∷ Some LastWins ∷ Some NewestReply
    ∷ Some TrimsPending ∷ []
each_flaw_has_a_word = refl

no_other_word_is_one : flaw_of_word (codes "never") ≡ None
no_other_word_is_one = refl

a_banner : banner NeverHelps ≡ codes "not the proved construction: it never helps\n"
a_banner = refl
