-- What a closed object shows.
use Rattle.uni_any.proofs.Batches.{contains_cons, not_empty}
use Rattle.uni_any.specs.Final.{KnownCalls}
use Rattle.triple_buffers.specs.Closed.{AreLast, layout_in, value_in, word_in}
use Rattle.triple_buffers.specs.Parties.{layout_of, seat_of}
use Rattle.triple_buffers.specs.declared.closed.ClosedBuffers.{ClosedBuffers}
use Rattle.triple_buffers.specs.declared.layout.Layout.{Layout}
use Rattle.uni_any.proofs.Vocabulary.{Board, Contains, Contents, HasCome, HasLast, Image, IsShown, Letter, List, Local, Sequential, ShowsBoard, Told, Version, View, [], ap, arith, first_told, found_in, get_elem?, inl, inr, known_then, map, number_in, pending_of, posted, process_in, refl, seen_of, slice_index_or, some, subst, sym, told_by, word_of, ℕ, ◌%◌, ◌/◌, ◌<◌, ◌∙◌, ◌∷◌, ◌≡◌, ◌≤◌}
use Rattle.uni_any.specs.Closed.{HasRunTo, last_version}
use Rattle.uni_any.specs.Laws.{IsToldBy}
use Rattle.uni_any.specs.Seats.{IsSeatOf, known_calls, local_in, object_of, processes_of, version_of, view_in}
use Rattle.uni_any.specs.declared.seat.AnySeat.{AnySeat}
use Rattle.uni_any.specs.declared.seat.AnyShared.{AnyShared}
use Rattle.uni_any.specs.declared.close.LastVersion.{LastVersion}
use Rattle.uni_any.proofs.Seeing.{posted_facts, version_found}
use Rattle.uni_any.proofs.Meaning.{acts_at, all_at, version_at}
use Rattle.uni_any.proofs.Starting.{present_image}

module _ {O I S R : Type 0} (meaning : O → Sequential S I R) (o : O) (n : ℕ) (c : Contents (Letter I S R) (View O I S R)) (shows : ShowsBoard meaning o n c) (id : ℕ) (v : View O I S R) (at : get_elem? c.views id ≡ some v) (alone : v.known.count ≡ 1) where
  abbrev g : Board I S R
  g = shows.0

  abbrev local : ℕ → Local I S R
  local = shows.1.0

  is : IsShown n meaning o g local shows.1.1.0 c
  is = shows.1.1.1

  abbrev p : ℕ
  p = v.known.first

  abbrev l : Local I S R
  l = v.known.local

  own : (p < n) × (shows.1.1.0 p ≡ id) × (local p ≡ l)
  own = (is.seats id v at).each p (omega arith) (omega (arith, alone))

  -- what one seat tells of its process
  told_calls : (process : ℕ) → p ≡ process → (its : KnownCalls I R) → Contains (record { process = process; own = l.own; pending = pending_of l.stage } ∷ []) its → IsToldBy c.views its
  told_calls process same its has = elim (contains_cons _ [] its has) [
    | inl one ↦ subst (λ (z : KnownCalls I R). IsToldBy c.views z) one (record { id = id; view = v; there = at; alone = alone; process = same; own = refl; pending = refl })
    | inr none ↦ absurd (not_empty its none)
  ]

  module _ (word : ℕ) (word_is : word ≡ c.words 0) where
    below : g.process < 64
    below = (let a = is.sound.board.process in let b = is.few.1 in omega arith)

    process_is : process_in word ≡ g.process
    process_is = ap process_in (word_is ∙ is.word) ∙ (let e : word_of g.number g.process % 64 ≡ g.process = (let b = below in omega arith) in e)

    number_is : number_in word ≡ g.number
    number_is = ap number_in (word_is ∙ is.word) ∙ (let e : word_of g.number g.process / 64 ≡ g.number = (let b = below in omega arith) in e)

    pub closed_process : process_in word < n
    closed_process = (let a = is.sound.board.process in let e = process_is in omega arith)

    -- what that process told last for this one
    module _ (t : Told I S R) (t_is : t ≡ known_then (c.buffers (process_in word) p) (seen_of (meaning o) n l (process_in word))) where
      abbrev q : ℕ
      q = g.process

      told_is : t ≡ posted (local q) p
      told_is =
          t_is ∙ ap (λ j. known_then (c.buffers j p) (seen_of (meaning o) n l j)) process_is
          ∙ ap (λ (z : Local I S R). known_then (c.buffers q p) (seen_of (meaning o) n z q)) (sym own.2) ∙ is.buffers q p is.sound.board.process own.0

      has : HasLast (meaning o) n g local (local q) (posted (local q) p)
      has = (posted_facts (meaning o) n g local q (local q) (is.sound.each q is.sound.board.process) p own.0).3

      come : HasCome (meaning o) n g (found_in (posted (local q) p) g.number) × (g.number ≤ (found_in (posted (local q) p) g.number).number)
      come =
          let w = (is.sound.each q is.sound.board.process).writer in
          version_found (meaning o) n g local (local q) (posted (local q) p) g.number has w.last (let e = w.present refl in omega arith)

      found_is : found_in t (number_in word) ≡ found_in (posted (local q) p) g.number
      found_is = ap (λ (z : Told I S R). found_in z (number_in word)) told_is ∙ ap (found_in (posted (local q) p)) number_is

      image_is : g.image ≡ (found_in t (number_in word)).image
      image_is =
          sym (present_image (meaning o) n g local is.sound.history is.sound.order (found_in (posted (local q) p) g.number) come.0 come.1)
          ∙ ap (λ (x : Version S R). x.image) (sym found_is)

      pub closed_version : (process : ℕ) → p ≡ process → HasRunTo (meaning o) n (record { process = process; own = l.own; pending = pending_of l.stage } ∷ []) (found_in t (number_in word))
      closed_version process same =
          let known : List (KnownCalls I R) = record { process = process; own = l.own; pending = pending_of l.stage } ∷ [] in
          let found : Version S R = found_in t (number_in word) in
          let number = ap (λ (x : Version S R). x.number) found_is in
          let late : g.number ≤ found.number = (let come_late = come.1 in omega arith) in
          subst (λ (x : Image S R). HasRunTo (meaning o) n known (record { number = found.number; image = x })) image_is (
            version_at meaning o n g local shows.1.1.0 c is known (told_calls process same),
            all_at meaning o n g local shows.1.1.0 c is known (told_calls process same) found.number late,
            shows.1.1.2.0,
            shows.1.1.2.2 ∙ sym (acts_at meaning o n g local shows.1.1.0 c is known (told_calls process same)),
          )

      pub closed_late : l.after ≤ (found_in t (number_in word)).number
      closed_late =
          let reached = (is.sound.order.each p own.0).reached in
          let after = ap (λ (z : Local I S R). z.after) own.2 in
          let number = ap (λ (x : Version S R). x.number) found_is in
          let late = come.1 in
          omega arith

-- what the seat's last version is
module _ {O I S R : Type 0} (meaning : O → Sequential S I R) (shared : AnyShared O S I R) (seat : AnySeat O S I R) (is : IsSeatOf shared seat) (closed : ClosedBuffers (Letter I S R)) (same : layout_in closed ≡ layout_of shared.buffers)
    (last : AreLast (ShowsBoard meaning (object_of shared) (processes_of shared)) seat.party closed) (word : ℕ) (word_is : word ≡ word_in closed 0) (result : LastVersion I S R)
    (told : (first : Told I S R) → told_by result.news ≡ known_then (value_in closed (process_in word)) (slice_index_or (map told_by seat.seen.items) (process_in word) first))
    (chosen : result.number ≡ number_in word) where
  abbrev o : O
  o = object_of shared

  abbrev n : ℕ
  n = processes_of shared

  laid : layout_in closed ≡ record { words = 1; parties = n }
  laid = same ∙ shared.laid

  named : word ≡ last.contents.words 0
  named = word_is ∙ last.words 0 (let e = ap (λ (y : Layout). y.words) laid in omega arith)

  alone : (view_in seat).known.count ≡ 1
  alone = is.kept.place.alone

  inside : process_in word < (layout_in closed).parties
  inside = subst (λ (y : Layout). process_in word < y.parties) (sym laid) (closed_process meaning o n last.contents last.kept (seat_of seat.party) (view_in seat) last.known alone word named)

  letter_is : told_by result.news ≡ known_then (last.contents.buffers (process_in word) (view_in seat).known.first) (seen_of (meaning o) n (local_in seat) (process_in word))
  letter_is =
      let first = first_told (meaning o) n in
      told first
      ∙ ap (λ z. known_then z (slice_index_or (map told_by seat.seen.items) (process_in word) first)) (last.values (process_in word) inside ∙ ap (last.contents.buffers (process_in word)) (sym is.kept.place.first))
      ∙ ap (λ xs. known_then (last.contents.buffers (process_in word) (view_in seat).known.first) (slice_index_or xs (process_in word) first)) (sym is.kept.seen)

  pub seat_told : HasRunTo (meaning o) n (known_calls seat ∷ []) (last_version result)
  seat_told = subst (λ k. HasRunTo (meaning o) n (known_calls seat ∷ []) (found_in (told_by result.news) k)) (sym chosen)
      (closed_version meaning o n last.contents last.kept (seat_of seat.party) (view_in seat) last.known alone word named (told_by result.news) letter_is seat.p (is.kept.place.first ∙ is.kept.number))

  pub seat_late : version_of seat ≤ (last_version result).number
  seat_late = subst (λ k. version_of seat ≤ (found_in (told_by result.news) k).number) (sym chosen)
      (closed_late meaning o n last.contents last.kept (seat_of seat.party) (view_in seat) last.known alone word named (told_by result.news) letter_is)
