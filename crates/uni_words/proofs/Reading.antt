-- The walk along the chain of closed words, cell by cell.
use Rattle.uni_words.proofs.Vocabulary.{Anchor, AreCallCells, Entry, Invoked, List, Memory, Name, None, Option, Some, [], after_of, ap, append-nil, append_assoc, arith, cells_from, cells_of, entries_from, false, get_elem?, inl, inr, invoked_at, is_call_cell, link_of, log_of, lt_cases, name_of, option_map_or, refl, response_in, seq_of, slice_get, slice_index, some, some-injective, some-ne-none, start_of, subst, suc, sym, told_memory, true, zero, ℕ, ◌%◌, ◌*◌, ◌++◌, ◌+◌, ◌-◌, ◌/◌, ◌<◌, ◌∙◌, ◌∷◌, ◌≡◌, ◌≢◌, ◌≤◌}
use Rattle.uni_words.proofs.Allowed.{cell_word}
use Rattle.uni_words.proofs.Columns.{index_in-there}

pub slice_index-get : (l : List ℕ) (i a : ℕ) → get_elem? l i ≡ some a → a ≡ slice_index l i
slice_index-get [] i a e = absurd (some-ne-none a (sym e))
slice_index-get (x ∷ xs) zero a e = sym (some-injective _ _ e)
slice_index-get (x ∷ xs) (suc i) a e = slice_index-get xs i a e

-- where the columns of cells begin
pub start_of-cells : (n row column : ℕ) → start_of n row (column + 2) ≡ 2 * n + column * (n * row + 1)
start_of-cells n row column = let e : column + 2 ≡ suc (suc column) = omega arith in ap (start_of n row) e

module _ (n row : ℕ) (words : List ℕ) (positive : 1 ≤ n) where
  abbrev m : Memory ℕ ℕ ℕ
  m = told_memory n row words

  -- The walk stands at this cell, at this place of the chain; these entries are behind it, and the cells before it are calls.
  pub record IsAlong (place at : ℕ) (done : List (Entry ℕ ℕ)) : Type 0 where
    pub inside : at < cells_of n row
    pub cells : (i : ℕ) (x : Name) → slice_get (cells_from (n * row - place) m (name_of n at)) i ≡ Some x → is_call_cell n row x ≡ true
    pub whole : done ++ entries_from m (place + 2) (cells_from (n * row - place) m (name_of n at)) ≡ log_of n row words

  pub along-anchor : AreCallCells n row words → seq_of m Anchor ≡ 1 → IsAlong 0 0 []
  along-anchor are first =
      let whole : n * row ≡ n * row - 0 = omega arith in record {
        inside = omega arith;
        cells = subst (λ k. (i : ℕ) (x : Name) → slice_get (cells_from k m Anchor) i ≡ Some x → is_call_cell n row x ≡ true) whole are;
        whole = subst (λ k. [] ++ entries_from m 2 (cells_from k m Anchor) ≡ log_of n row words) whole (ap (λ k. entries_from m (k + 1) (cells_from (n * row) m Anchor)) (sym first));
      }

  -- the index of a call's cell
  call_index : (j : ℕ) → is_call_cell n row (name_of n j) ≡ true → (1 ≤ j) × (j < cells_of n row)
  call_index zero e = absurd (let f : false ≡ true = e in cc)
  call_index (suc j) e = elim (lt_cases (j % n) n) [
    | inl a ↦ elim (lt_cases (j / n) row) [
      | inl b ↦ (omega arith, index_in-there n row j a.0 b.0)
      | inr b ↦ absurd (let f = rw (a.1, b.1) at e in cc)
    ]
    | inr a ↦ absurd (let f = rw a.1 at e in cc)
  ]

  module _ (place at : ℕ) (done : List (Entry ℕ ℕ)) (along : IsAlong place at done) where
    -- at the end of the table
    pub along-full : n * row ≤ place → done ≡ log_of n row words
    along-full full =
        let none : n * row - place ≡ 0 = omega arith in
        sym (append-nil done) ∙ (ap (λ k. done ++ entries_from m (place + 2) (cells_from k m (name_of n at))) (sym none) ∙ along.whole)

    module _ (link : ℕ) (told : link ≡ slice_index words (start_of n row 5 + at)) (room : place < n * row) where
      after_is : after_of m (name_of n at) ≡ link_of n link
      after_is = ap (λ o. link_of n (option_map_or (slice_index words) o 0)) (cell_word n row 5 at (start_of n row 5 + at) positive along.inside refl) ∙ ap (link_of n) (sym told)

      more : n * row - place ≡ suc (n * row - (place + 1))
      more = omega arith

      -- the cells from here on
      cells_are : (o : Option Name) → after_of m (name_of n at) ≡ o → cells_from (n * row - place) m (name_of n at) ≡ option_map_or (λ y. y ∷ cells_from (n * row - (place + 1)) m y) o []
      cells_are o e = ap (λ k. cells_from k m (name_of n at)) more ∙ ap (λ u. option_map_or (λ y. y ∷ cells_from (n * row - (place + 1)) m y) u []) e

      -- at the last cell
      pub along-last : link ≡ 0 → done ≡ log_of n row words
      along-last none = sym (append-nil done) ∙ (ap (λ l. done ++ entries_from m (place + 2) l) (sym (cells_are None (after_is ∙ ap (link_of n) none))) ∙ along.whole)

      module _ (some : link ≢ 0) where
        abbrev next : Name
        next = name_of n (link - 1)

        link_to : link_of n link ≡ Some next
        link_to = (let whole : link ≡ suc (link - 1) = omega (arith, some) in ap (link_of n) whole)

        cells_next : cells_from (n * row - place) m (name_of n at) ≡ next ∷ cells_from (n * row - (place + 1)) m next
        cells_next = cells_are (Some next) (after_is ∙ link_to)

        pub along-cell : (1 ≤ link - 1) × (link - 1 < cells_of n row)
        along-cell = call_index (link - 1) (along.cells 0 next (ap (λ l. slice_get l 0) cells_next))

        pub along-next : (e : Entry ℕ ℕ) → e.number ≡ place + 2 → invoked_at m next ≡ Some e.call → response_in m next ≡ e.response → IsAlong (place + 1) (link - 1) (done ++ e ∷ [])
        along-next e number call reply = record {
          inside = along-cell.1;
          cells = λ i x at_i. along.cells (suc i) x (ap (λ l. slice_get l (suc i)) cells_next ∙ at_i);
          whole = append_assoc done (e ∷ []) (entries_from m (place + 1 + 2) (cells_from (n * row - (place + 1)) m next))
              ∙ ap (λ l. done ++ l) (sym here) ∙ along.whole;
        } where
          here : entries_from m (place + 2) (cells_from (n * row - place) m (name_of n at)) ≡ e ∷ entries_from m (place + 1 + 2) (cells_from (n * row - (place + 1)) m next)
          here = ap (entries_from m (place + 2)) cells_next
              ∙ ap (λ (o : Option (Invoked ℕ)). option_map_or (λ c. record { number = place + 2; call = c; response = response_in m next } ∷ entries_from m (place + 2 + 1) (cells_from (n * row - (place + 1)) m next)) o []) call
              ∙ ap (λ r. record { number = place + 2; call = e.call; response = r } ∷ entries_from m (place + 2 + 1) (cells_from (n * row - (place + 1)) m next)) reply
              ∙ ap (λ k. record { number = k; call = e.call; response = e.response } ∷ entries_from m (place + 2 + 1) (cells_from (n * row - (place + 1)) m next)) (sym number)
              ∙ ap (λ k. e ∷ entries_from m k (cells_from (n * row - (place + 1)) m next)) (let same : place + 2 + 1 ≡ place + 1 + 2 = omega arith in same)
