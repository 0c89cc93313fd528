-- The walk back from a cell.
use Rattle.uni_log.proofs.Vocabulary.{Anchor, Invariant, List, Memory, Name, None, Of, Option, Sequential, Some, WorldOf, [], after_of, ap, arith, before_of, cells_from, chain, enough, era_calls, length, length-append, option_map_or, refl, reverse, reverse-append, seq_of, slice_get, subst, suc, take, zero, ℕ, ◌++◌, ◌+◌, ◌<◌, ◌∙◌, ◌∷◌, ◌≡◌, ◌≤◌}

-- fewer of the cells after x are the first of them
cells_from-take : {S I R : Type 0} (m : Memory S I R) (a b : ℕ) (x : Name) → a ≤ b → cells_from a m x ≡ take a (cells_from b m x)
cells_from-take m zero b x less = refl
cells_from-take m (suc a) zero x less = absurd (omega arith)
cells_from-take m (suc a) (suc b) x less = by_after (λ y. cells_from-take m a b y (omega arith)) (after_of m x) where
  by_after : ((y : Name) → cells_from a m y ≡ take a (cells_from b m y)) → (o : Option Name)
      → option_map_or (λ y. y ∷ cells_from a m y) o [] ≡ take (suc a) (option_map_or (λ y. y ∷ cells_from b m y) o [])
  by_after rest None = refl
  by_after rest (Some y) = ap (λ ys. y ∷ ys) (rest y)

-- The walk back from a cell stands at one, after so many cells: these are, the last of them first, the list from there up to
-- the one where it began.
pub record IsBack {S I R : Type 0} (w : WorldOf S I R) (from at : Name) (names : List Name) : Type 0 where
  pub threaded : 1 ≤ seq_of w.memory at
  pub more : ℕ
  pub count : length names ≡ suc more
  pub number : seq_of w.memory at + more ≡ seq_of w.memory from
  pub reversed : reverse names ≡ at ∷ cells_from more w.memory at

module _ {S I R : Type 0} (w : WorldOf S I R) (from : Name) where
  -- it begins at that cell
  pub IsBack-first : 1 ≤ seq_of w.memory from → IsBack w from from (from ∷ [])
  IsBack-first threaded = record { threaded = threaded; more = 0; count = refl; number = omega arith; reversed = refl }

  module _ (object : Sequential S I R) (inv : Invariant object w) (at : Name) (names : List Name) (back : IsBack w from at names) where
    -- the cell before it has the number before its own
    number_before : (y : Name) → before_of w.memory at ≡ Some y → (1 ≤ seq_of w.memory y) × (seq_of w.memory y + 1 ≡ seq_of w.memory at)
    number_before y e =
        let link = inv.2.back.link y at e in
        let numbers = inv.2.numbered.link y at link in
        let first : 1 ≤ inv.0 y = numbers.0 in
        let n : inv.0 at ≡ inv.0 y + 1 = numbers.1 in
        let top : inv.0 at ≤ inv.1 = inv.2.numbered.greatest at in
        let its : seq_of w.memory at ≡ inv.0 at = inv.2.numbered.seq at back.threaded in
        let number : seq_of w.memory y ≡ inv.0 y = inv.2.numbered.threaded y first (omega arith) in
        (omega arith, omega arith)

    pub less_before : (y : Name) → before_of w.memory at ≡ Some y → seq_of w.memory y < seq_of w.memory at
    less_before y e = let n = number_before y e in omega arith

    -- it goes on to the cell before
    pub IsBack-further : (y : Name) → before_of w.memory at ≡ Some y → IsBack w from y (names ++ y ∷ [])
    IsBack-further y e = record {
      threaded = (number_before y e).0;
      more = suc back.more;
      count = length-append names (y ∷ []) ∙ (let c = back.count in omega arith);
      number = let n = number_before y e in let m = back.number in omega arith;
      reversed = reverse-append names (y ∷ []) ∙ ap (λ ys. y ∷ ys) back.reversed ∙ rw (inv.2.back.link y at e) refl;
    }

    -- where there is no cell before it, it has come to the anchor
    at_anchor : before_of w.memory at ≡ None → at ≡ Anchor
    at_anchor none = by_name at back.threaded none where
      by_name : (x : Name) → 1 ≤ seq_of w.memory x → before_of w.memory x ≡ None → x ≡ Anchor
      by_name Anchor h e = refl
      by_name (Of p k) h e = absurd (let has = inv.2.back.threaded p k h in let f = has.1 in cc)

    -- and the cells are the list up to where it began
    pub back_reversed : before_of w.memory at ≡ None → reverse names ≡ take (length names) (Anchor ∷ chain w)
    back_reversed none = by_anchor at (at_anchor none) back where
      by_anchor : (x : Name) → x ≡ Anchor → IsBack w from x names → reverse names ≡ take (length names) (Anchor ∷ chain w)
      by_anchor x is b =
          let its : seq_of w.memory from ≡ inv.0 from = inv.2.numbered.seq from (let h = b.threaded in let m = b.number in omega arith) in
          let top : inv.0 from ≤ inv.1 = inv.2.numbered.greatest from in
          let all : inv.1 ≤ inv.0 Anchor + era_calls w = enough object w inv.0 inv.1 inv.2 in
          let anchor : inv.0 Anchor ≡ seq_of w.memory Anchor = inv.2.numbered.anchor in
          let number : seq_of w.memory Anchor + b.more ≡ seq_of w.memory from = subst (λ y. seq_of w.memory y + b.more ≡ seq_of w.memory from) is b.number in
          let bound : b.more ≤ era_calls w = omega arith in
          b.reversed ∙ rw (is, b.count) (ap (λ ys. Anchor ∷ ys) (cells_from-take w.memory b.more (era_calls w) Anchor bound))

-- what is pushed leaves the first one
pub first_kept : {A : Type 0} (xs ys : List A) (x : A) → slice_get xs 0 ≡ Some x → slice_get (xs ++ ys) 0 ≡ Some x
first_kept [] ys x first = cc
first_kept (y ∷ xs) ys x first = first
