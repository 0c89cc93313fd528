-- What is put into a part, and where.
use Rattle.std.proofs.Common.{◌≡◌, sym, refl, ℕ, List, [], ◌∷◌, ◌++◌, None, Some, position}
use Rattle.std.proofs.Math.ListN.{get_or, set}
use Rattle.std.specs.Str.{bytes_eq}
use Rattle.ready_objects.proofs.DirectoryPlaces.{first_of, lookup-first, lookup-none, none_of, set_value-first}
use Rattle.parted_map.specs.PartedMap.{Part, put}

module _ (part : Part) (text : List ℕ) (number : ℕ) where
  -- where the text has a pair, its number is written there
  pub put-first : (place : ℕ) (d : List ℕ × ℕ) → position (λ pair. bytes_eq text pair.0) part ≡ Some place
      → set part place ((get_or part place d).0, number) ≡ put part text number
  put-first place d at =
      let first = first_of (λ pair. bytes_eq text pair.0) part place at in
      rw (lookup-first (bytes_eq text) part place d first) (sym (set_value-first (bytes_eq text) part place number d first))

  -- else it goes last
  pub put-none : position (λ pair. bytes_eq text pair.0) part ≡ None → part ++ (text, number) ∷ [] ≡ put part text number
  put-none at = rw (lookup-none (bytes_eq text) part (none_of (λ pair. bytes_eq text pair.0) part at)) refl
