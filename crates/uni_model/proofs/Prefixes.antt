-- Prefixes of lists of entries that are appended.
use Rattle.uni_model.proofs.Vocabulary.{Entry, IsPrefixOf, List, ap, arith, inl, inr, length, length-append, refl, slice_get, ◌++◌, ◌+◌, ◌∙◌, ◌≡◌, ◌≤◌}
use Rattle.uni_model.proofs.Appended.{slice_get-append_left, slice_get-append_right, slice_get-append_cases}

module _ {I R : Type 0} where
  pub IsPrefixOf-append : (xs ys : List (Entry I R)) → IsPrefixOf xs (xs ++ ys)
  IsPrefixOf-append xs ys = record {
    longer = let e : length (xs ++ ys) ≡ length xs + length ys = length-append xs ys in omega arith;
    entries = λ j e at. (e, slice_get-append_left xs ys j e at, inl refl);
  }

  -- the same entries before both
  pub IsPrefixOf-behind : (xs ys zs : List (Entry I R)) → IsPrefixOf ys zs → IsPrefixOf (xs ++ ys) (xs ++ zs)
  IsPrefixOf-behind xs ys zs prefix = record {
    longer =
        let e : length (xs ++ ys) ≡ length xs + length ys = length-append xs ys in
        let f : length (xs ++ zs) ≡ length xs + length zs = length-append xs zs in
        let longer : length ys ≤ length zs = prefix.longer in
        omega arith;
    entries = λ j e at. elim (slice_get-append_cases xs ys j e at) [
      | inl before ↦ (e, slice_get-append_left xs zs j e before, inl refl)
      | inr after ↦
          let later = prefix.entries after.0 e after.2 in (
            later.0,
            ap (slice_get (xs ++ zs)) after.1 ∙ slice_get-append_right xs zs after.0 ∙ later.1,
            elim later.2 [
              | inl same ↦ inl same
              | inr gets ↦ inr (
                let end : after.0 + 1 ≡ length ys = gets.0 in
                    let place : j ≡ length xs + after.0 = after.1 in
                    let e : length (xs ++ ys) ≡ length xs + length ys = length-append xs ys in
                    omega arith,
                gets.1,
              )
            ],
          )
    ];
  }
