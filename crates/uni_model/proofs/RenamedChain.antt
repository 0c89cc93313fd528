-- The chain and the log of a world whose cells are renamed: what comes after the last cell of the ended eras.
use Rattle.uni_model.proofs.Vocabulary.{Anchor, Entry, Invariant, IsPrefixOf, IsSome, IsSound, List, Memory, Name, None, Of, Option, Sequential, Some, WorldOf, [], after_of, ap, arith, cases_lt, cells_from, chain, era_calls, false, inl, inr, last_cell, last_of, length, log, option_and_then, option_map_or, refl, seq_of, slice_get, subst, suc, sym, take, true, zero, ℕ, ◌++◌, ◌+◌, ◌-◌, ◌<◌, ◌∙◌, ◌∷◌, ◌≡◌, ◌≤◌}
use Rattle.uni_model.proofs.Chains.{number_at, slice_get-cells_from, length-cells_from}
use Rattle.uni_model.proofs.Simulation.{enough}
use Rattle.uni_model.proofs.Values.{response-settled}
use Rattle.uni_model.proofs.OneLists.{HasOneList-held, length-chain, number-last_of}
use Rattle.uni_model.proofs.Growing.{entry_of, slice_get-log}
use Rattle.uni_model.proofs.Ended.{length-log}
use Rattle.uni_model.proofs.Eras.{entry_at, number_of_entry}
use Rattle.uni_model.proofs.Appended.{take-split, take-same}
use Rattle.uni_model.proofs.Renamed.{at_least, at_least-past, IsNew, IsRecent, IsRecent-new, IsRenamed, era_cases}
use Rattle.uni_model.proofs.RenamedWorld.{world_renamed}

module _ {S I R : Type 0} (object : Sequential S I R) (u : WorldOf S I R) (num : Name → ℕ) (last : ℕ) (sound : IsSound object u num last)
    (m : Memory S I R) (first : ℕ → ℕ) (rename : Name → Name) (base : ℕ) (r : IsRenamed m u.memory u.n rename base) where
  -- the last cell of the ended eras
  abbrev end : Name
  end = r.at_base.0

  positive : 1 ≤ base
  positive = let some = r.first in let most = r.anchor in omega arith

  end_is_anchor : rename end ≡ Anchor
  end_is_anchor = let some = positive in let is : seq_of u.memory end ≡ base = r.at_base.1 in r.old end (omega arith) (omega arith)

  number_of_end : num end ≡ base
  number_of_end = let some = positive in let is : seq_of u.memory end ≡ base = r.at_base.1 in let own : seq_of u.memory end ≡ num end = sound.numbered.seq end (omega arith) in omega arith

  seq_of-anchor : seq_of m Anchor ≡ base
  seq_of-anchor = ap (seq_of m) (sym end_is_anchor) ∙ r.seq end ∙ ap (at_least base) r.at_base.1 ∙ at_least-past base base (omega arith) positive

  recent_end : IsRecent u.memory base end
  recent_end = inr (subst (λ k. base ≤ k) (sym r.at_base.1) (omega arith))

  -- past base, a cell is new
  new_past : (x : Name) → base < num x → IsNew u.memory base x
  new_past x past = elim (era_cases u.memory base x) [
    | inl new ↦ new
    | inr old ↦ absurd (let own = sound.numbered.seq x old.0 in let most = old.1 in omega arith)
  ]

  new_next : (x y : Name) → IsRecent u.memory base x → after_of u.memory x ≡ Some y → IsNew u.memory base y
  new_next x y recent link =
      let next = sound.numbered.link x y link in
      let top : num y ≤ last = sound.numbered.greatest y in
      let own : seq_of u.memory x ≡ num x = (let n = next.1 in sound.numbered.threaded x next.0 (omega arith)) in
      let linked = next.0 in
      let number = next.1 in
      elim recent [ inl none ↦ absurd (omega arith) | inr least ↦ new_past y (omega arith) ]

  cells_renamed : (most : ℕ) (x : Name) → IsRecent u.memory base x → cells_from most m (rename x) ≡ cells_from most u.memory x
  cells_renamed zero x recent = refl
  cells_renamed (suc most) x recent = rw (r.after x recent) (by_after (λ y h. cells_renamed most y h) (after_of u.memory x) refl) where
    by_after : ((y : Name) → IsRecent u.memory base y → cells_from most m (rename y) ≡ cells_from most u.memory y) → (o : Option Name) → after_of u.memory x ≡ o
        → option_map_or (λ y. y ∷ cells_from most m y) o [] ≡ option_map_or (λ y. y ∷ cells_from most u.memory y) o []
    by_after rest None e = refl
    by_after rest (Some y) e =
        let new = new_next x y recent e in
        ap (λ ys. y ∷ ys) (ap (cells_from most m) (sym (r.new_name y new)) ∙ rest y (IsRecent-new u.memory base y new))

  last_renamed : (most : ℕ) (x : Name) → IsRecent u.memory base x
      → (last_of (rename x) (cells_from most u.memory x) ≡ rename (last_of x (cells_from most u.memory x))) × IsRecent u.memory base (last_of x (cells_from most u.memory x))
  last_renamed zero x recent = (refl, recent)
  last_renamed (suc most) x recent = by_after (λ y h. last_renamed most y h) (after_of u.memory x) refl where
    by_after : ((y : Name) → IsRecent u.memory base y
        → (last_of (rename y) (cells_from most u.memory y) ≡ rename (last_of y (cells_from most u.memory y))) × IsRecent u.memory base (last_of y (cells_from most u.memory y)))
        → (o : Option Name) → after_of u.memory x ≡ o
        → let ys = option_map_or (λ y. y ∷ cells_from most u.memory y) o [] in (last_of (rename x) ys ≡ rename (last_of x ys)) × IsRecent u.memory base (last_of x ys)
    by_after rest None e = (refl, recent)
    by_after rest (Some y) e =
        let new = new_next x y recent e in
        let later = rest y (IsRecent-new u.memory base y new) in
        (ap (λ z. last_of z (cells_from most u.memory y)) (sym (r.new_name y new)) ∙ later.0, later.1)

  -- cells up to one that nothing comes after are the whole chain
  complete : (a b : ℕ) (x : Name) → after_of u.memory (last_of x (cells_from a u.memory x)) ≡ None → last ≤ num x + b → cells_from a u.memory x ≡ cells_from b u.memory x
  complete zero zero x none bound = refl
  complete zero (suc b) x none bound = rw none refl
  complete (suc a) zero x none bound = by_after (after_of u.memory x) refl where
    by_after : (o : Option Name) → after_of u.memory x ≡ o → option_map_or (λ y. y ∷ cells_from a u.memory y) o [] ≡ []
    by_after None e = refl
    by_after (Some y) e = absurd (let n = (sound.numbered.link x y e).1 in let top = sound.numbered.greatest y in omega arith)
  complete (suc a) (suc b) x none bound = by_after (λ y e g. complete a b y e g) (after_of u.memory x) refl none where
    by_after : ((y : Name) → after_of u.memory (last_of y (cells_from a u.memory y)) ≡ None → last ≤ num y + b → cells_from a u.memory y ≡ cells_from b u.memory y)
        → (o : Option Name) → after_of u.memory x ≡ o → after_of u.memory (last_of x (option_map_or (λ y. y ∷ cells_from a u.memory y) o [])) ≡ None
        → option_map_or (λ y. y ∷ cells_from a u.memory y) o [] ≡ option_map_or (λ y. y ∷ cells_from b u.memory y) o []
    by_after rest None e h = refl
    by_after rest (Some y) e h = let n = (sound.numbered.link x y e).1 in ap (λ ys. y ∷ ys) (rest y h (omega arith))

  module _ (inv : Invariant object (world_renamed u m first rename base)) where
    abbrev w : WorldOf S I R
    w = world_renamed u m first rename base

    chain_renamed : chain w ≡ cells_from (era_calls w) u.memory end
    chain_renamed = ap (cells_from (era_calls w) m) (sym end_is_anchor) ∙ cells_renamed (era_calls w) end recent_end

    last_cell_is : last_cell w ≡ rename (last_of end (cells_from (era_calls w) u.memory end))
    last_cell_is = ap (last_of Anchor) chain_renamed ∙ ap (λ x. last_of x (cells_from (era_calls w) u.memory end)) (sym end_is_anchor) ∙ (last_renamed (era_calls w) end recent_end).0

    nothing_after : after_of u.memory (last_of end (cells_from (era_calls w) u.memory end)) ≡ None
    nothing_after =
        sym (r.after (last_of end (cells_from (era_calls w) u.memory end)) (last_renamed (era_calls w) end recent_end).1)
        ∙ ap (after_of m) (sym last_cell_is) ∙ (HasOneList-held object w inv).1.end

    whole : cells_from (era_calls w) u.memory end ≡ cells_from last u.memory end
    whole = complete (era_calls w) last end nothing_after (omega arith)

    -- its last cell is the one of the other world, renamed
    pub last_cell-renamed : (last_cell w ≡ rename (last_cell u)) × IsRecent u.memory base (last_cell u)
    last_cell-renamed =
        let some = positive in
        let number = number_of_end in
        let own : num (last_of end (cells_from last u.memory end)) ≡ last = number-last_of object u num last sound last end (omega arith) (omega arith) in
        let other : num (last_cell u) ≡ last = number-last_of object u num last sound (era_calls u) Anchor sound.numbered.first (enough object u num last sound) in
        let top : num end ≤ last = sound.numbered.greatest end in
        let same : last_of end (cells_from (era_calls w) u.memory end) ≡ last_cell u
        = ap (last_of end) whole ∙ sound.numbered.one_each (last_of end (cells_from last u.memory end)) (last_cell u) (omega arith) (omega arith) in
        (last_cell_is ∙ ap rename same, subst (λ x. IsRecent u.memory base x) same (last_renamed (era_calls w) end recent_end).1)

    length-chain-renamed : base + length (chain w) ≡ last
    length-chain-renamed =
        let some = positive in
        let number = number_of_end in
        let all : num end + length (cells_from last u.memory end) ≡ last = length-cells_from u.memory num last sound.numbered last end (omega arith) (omega arith) in
        let same : length (chain w) ≡ length (cells_from last u.memory end) = ap (λ (xs : List Name). length xs) (chain_renamed ∙ whole) in
        omega arith

    -- how many entries the ended eras have
    abbrev pub ended_entries : ℕ
    ended_entries = base - seq_of u.memory Anchor

    length-log-renamed : length (log u) ≡ ended_entries + length (log w)
    length-log-renamed =
        let of_u : length (log u) ≡ length (chain u) = length-log object u num last sound in
        let of_w : length (log w) ≡ length (chain w) = length-log object w inv.0 inv.1 inv.2 in
        let all : num Anchor + length (chain u) ≡ last = length-chain object u num last sound in
        let rest : base + length (chain w) ≡ last = length-chain-renamed in
        let anchor : num Anchor ≡ seq_of u.memory Anchor = sound.numbered.anchor in
        let most = r.anchor in
        omega arith

    entry_same : (k j : ℕ) → k ≡ j → (x : Name) → IsNew u.memory base x → entry_of m k x ≡ entry_of u.memory j x
    entry_same k j same x new = by_name x new where
      by_name : (y : Name) → IsNew u.memory base y → entry_of m k y ≡ entry_of u.memory j y
      by_name Anchor new_y = refl
      by_name (Of p n) new_y = rw (same, r.inv (Of p n) new_y, r.new (Of p n) new_y) refl

    -- an entry of its log stands so much further behind in the log of the other world
    entry_behind : (j : ℕ) (e : Entry I R) → slice_get (log w) j ≡ Some e → slice_get (log u) (ended_entries + j) ≡ Some e
    entry_behind j e at =
        let x : Name = Of e.call.process e.call.nth in
        let cell : slice_get (chain w) j ≡ Some x = (entry_at object w inv.0 inv.1 inv.2 j e at).cell in
        let there : entry_of m (seq_of m Anchor + 1 + j) x ≡ Some e
        = ap (option_and_then (entry_of m (seq_of m Anchor + 1 + j))) (sym cell) ∙ sym (slice_get-log object w inv.0 inv.1 inv.2 j) ∙ at in
        let number : num x ≡ num end + (j + 1) = number_at u.memory num last sound.numbered (era_calls w) end x j (ap (λ ys. slice_get ys j) (sym chain_renamed) ∙ cell) in
        let of_end = number_of_end in
        let anchor : num Anchor ≡ seq_of u.memory Anchor = sound.numbered.anchor in
        let most = r.anchor in
        let top : num x ≤ last = sound.numbered.greatest x in
        let bound : last ≤ num Anchor + era_calls u = enough object u num last sound in
        let stands : slice_get (chain u) (ended_entries + j) ≡ Some x
        = slice_get-cells_from u.memory num last sound.numbered (era_calls u) Anchor x (ended_entries + j) sound.numbered.first (omega arith) (omega arith) in
        let same : seq_of m Anchor + 1 + j ≡ seq_of u.memory Anchor + 1 + (ended_entries + j) = (let s = seq_of-anchor in omega arith) in
        slice_get-log object u num last sound (ended_entries + j)
        ∙ ap (option_and_then (entry_of u.memory (seq_of u.memory Anchor + 1 + (ended_entries + j)))) stands
        ∙ sym (entry_same (seq_of m Anchor + 1 + j) (seq_of u.memory Anchor + 1 + (ended_entries + j)) same x (new_past x (omega arith))) ∙ there

    -- the log is that of the ended eras, and the one of the world whose cells are renamed
    pub log-renamed : log u ≡ take ended_entries (log u) ++ log w
    log-renamed = take-split ended_entries (log u) (log w) length-log-renamed entry_behind

    -- the entries of the ended eras have their responses, so they stay
    answered : (j : ℕ) (e : Entry I R) → j < ended_entries → slice_get (log u) j ≡ Some e → IsSome e.response
    answered j e less at =
        let x : Name = Of e.call.process e.call.nth in
        let number : num x ≡ num Anchor + (j + 1) = number_of_entry object u num last sound j e at in
        let anchor : num Anchor ≡ seq_of u.memory Anchor = sound.numbered.anchor in
        let of_end = number_of_end in
        let top : num end ≤ last = sound.numbered.greatest end in
        let threaded : 1 ≤ seq_of u.memory x = elim (cases_lt (num x) last) [
          | inl inside ↦ (let own = sound.numbered.threaded x (omega arith) inside in omega arith)
          | inr at_end ↦
              let same : x ≡ end = sound.numbered.one_each x end (omega arith) (omega arith) in
              let some = positive in
              subst (λ y. 1 ≤ seq_of u.memory y) (sym same) (subst (λ k. 1 ≤ k) (sym r.at_base.1) some)
        ] in
        let settled = response-settled object u.memory num sound.values sound.back e.call.process e.call.nth threaded in
        rw ((entry_at object u num last sound j e at).response, settled.1) refl

    pub prefix_stays : (later : List (Entry I R)) → IsPrefixOf (log u) later → take ended_entries later ≡ take ended_entries (log u)
    prefix_stays later prefix =
        let long : length (log u) ≡ ended_entries + length (log w) = length-log-renamed in
        let more : length (log u) ≤ length later = prefix.longer in
        sym (take-same ended_entries (log u) later (omega arith) (omega arith) (λ j e less at.
        let kept = prefix.entries j e at in
        elim kept.2 [
          | inl same ↦ kept.1 ∙ ap (λ x. Some x) same
          | inr gets ↦ absurd (let has : IsSome e.response = answered j e less at in let none = rw gets.1.missing at has in let f : false ≡ true = none in cc)
        ]))
