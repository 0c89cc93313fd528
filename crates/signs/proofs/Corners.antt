-- What holds of a few points holds of each, and the other way round.
use Rattle.std.proofs.Common.{[], ◌∷◌}
use Rattle.std.proofs.lemmas.List.Elements.{All-from_recursion, recursion_from_All}
use Rattle.std.specs.List.{All}

pub to_one : {A : Type 0} (P : A → Type 0) (a : A) → P a → All P (a ∷ [])
to_one P a h = All-from_recursion P (a ∷ []) (h, tt)

pub from_one : {A : Type 0} (P : A → Type 0) (a : A) → All P (a ∷ []) → P a
from_one P a all = (recursion_from_All P (a ∷ []) all).0

pub to_two : {A : Type 0} (P : A → Type 0) (a b : A) → P a → P b → All P (a ∷ b ∷ [])
to_two P a b one other = All-from_recursion P (a ∷ b ∷ []) (one, (other, tt))

pub from_two : {A : Type 0} (P : A → Type 0) (a b : A) → All P (a ∷ b ∷ []) → P a × P b
from_two P a b all = let both = recursion_from_All P (a ∷ b ∷ []) all in (both.0, both.1.0)

pub to_more : {A : Type 0} (P : A → Type 0) (a b c : A) → P a → All P (b ∷ c ∷ []) → All P (a ∷ b ∷ c ∷ [])
to_more P a b c first rest = All-from_recursion P (a ∷ b ∷ c ∷ []) (first, recursion_from_All P (b ∷ c ∷ []) rest)

pub from_more : {A : Type 0} (P : A → Type 0) (a b c : A) → All P (a ∷ b ∷ c ∷ []) → P a × All P (b ∷ c ∷ [])
from_more P a b c all = let each = recursion_from_All P (a ∷ b ∷ c ∷ []) all in (each.0, All-from_recursion P (b ∷ c ∷ []) each.1)
