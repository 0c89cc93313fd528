use Rattle.uni_small.proofs.Vocabulary.{Buffers, List, Me, inl, inr, Seen, View, WritesWithin, local_of, ap, arith, buffer_words, get_or_default_zero, held_place, length, refl, slice_index, slice_index_or, slice_set, subst, sym, take, with_row, ℕ, ◌*◌, ◌+◌, ◌<◌, ◌∙◌, ◌≡◌, ◌≤◌}
use Rattle.std.proofs.Common.{take_all}
use Rattle.std.proofs.lemmas.List.{get_or-take, length-take-le}
use Rattle.atomic_table.specs.declared.shared.Seat.{Seat}
use Rattle.uni_small.proofs.Going.{add_assoc, writes_come, writes_none, writes_nothing, writes_one, writes_stage}
use Rattle.uni_small.proofs.Rows.{take_reaches, with_row-length, with_row-more, with_row-same, with_row-skip}
use Rattle.uni_small.proofs.Words.{held_inside, held_room}
use Rattle.uni_small.proofs.log.SmallShared.write_words.Goals.{then-index-word, else-index-word}
use Rattle.uni_small.proofs.log.SmallShared.write_words.Goals as goal

-- what was written within so many words was within more
within_more : {O : Type 0} (me me' : Me Seen (View O)) (from a b : ℕ) (held : List ℕ) → a ≤ b → WritesWithin me from a held me' → WritesWithin me from b held me'
within_more me me' from a b held less w = (w.0, (let h = w.1 in omega (arith, less, h)), w.2, (let h = w.3 in omega (arith, less, h)), w.4)

pub loop-i-init : goal.loop-i-init
loop-i-init g c =
    let at = c.requires.stage in
    let me = c.args.seat.now.me in
    let held = c.args.own.now.held.items in
    let sizes = c.args.self.now.setup.sizes in
    let none = writes_nothing me held c.args.from at.0 at.1 at.5 at.2 at.3 at.6 at.7.1 c.requires.own.held in
    let skip = with_row-skip held (held_place sizes c.args.own.now.spare c.args.from) c.args.row.now 0 c.args.first
    (λ k a b within. ap (slice_index held) (add_assoc (c.args.own.now.spare * buffer_words sizes) c.args.from k) ∙ c.requires.alike k within (inl (omega arith)))
    ∙ ap (λ k. with_row held (held_place sizes c.args.own.now.spare c.args.from) (take k c.args.row.now)) (let e : 0 + c.args.first ≡ c.args.first = omega arith in e) in (
      refl,
      refl,
      within_more me me c.args.from 0 (length (take c.args.first c.args.row.now)) held (omega arith) none,
      skip,
      refl,
    )

pub index-requires : goal.index-requires
index-requires g c =
    let sizes = c.args.self.now.setup.sizes in
    let first = c.args.own.now.held.items in
    let held = c.loop-i.own.held.items in
    let row = c.args.row.now in
    let i = c.loop-i.i in
    let h = held_inside sizes c.args.own.now.spare (c.args.from + i) c.requires.own.which (let r = c.requires.inside.1 in let t = c.loop-i-test.true in let e = c.requires.words.1 in omega arith) in
    let l : length held ≡ length first = ap (λ (xs : List ℕ). length xs) c.loop-i.invariant.3 ∙ with_row-length first (held_place sizes c.args.own.now.spare c.args.from) (take i row) in
    let o = c.requires.own.long in
    let b : c.args.own.now.spare * c.buffer_words.result ≡ c.args.own.now.spare * buffer_words sizes = ap (λ k. c.args.own.now.spare * k) c.buffer_words.ensures in
    omega (arith, h, l, o, b)

pub index_mut-requires : goal.index_mut-requires
index_mut-requires g c =
    let sizes = c.args.self.now.setup.sizes in
    let first = c.args.own.now.held.items in
    let held = c.loop-i.own.held.items in
    let row = c.args.row.now in
    let i = c.loop-i.i in
    let h = held_inside sizes c.args.own.now.spare (c.args.from + i) c.requires.own.which (let r = c.requires.inside.1 in let t = c.loop-i-test.true in let e = c.requires.words.1 in omega arith) in
    let l : length held ≡ length first = ap (λ (xs : List ℕ). length xs) c.loop-i.invariant.3 ∙ with_row-length first (held_place sizes c.args.own.now.spare c.args.from) (take i row) in
    let o = c.requires.own.long in
    let b : c.args.own.now.spare * c.buffer_words.result ≡ c.args.own.now.spare * buffer_words sizes = ap (λ k. c.args.own.now.spare * k) c.buffer_words.ensures in
    omega (arith, h, l, o, b)

pub write_word-requires-clause-stage : goal.write_word-requires-clause-stage
write_word-requires-clause-stage g c =
    let at = c.requires.stage in
    let sizes = c.args.self.now.setup.sizes in
    let object = (g.O.SmallObject.meaning c.args.self.now.setup.object).object in
    let me = c.args.seat.now.me in
    let row = c.args.row.now in
    let i = c.loop-i.i in
    let own = c.requires.own in
    let held = c.loop-i.own.held.items in
    let below : i < length row = (let t = c.loop-i-test.true in let e = c.requires.words.1 in omega arith) in
    let taken : length (take i row) ≡ i = length-take-le i row (let t = c.loop-i-test.true in let e = c.requires.words.1 in omega arith) in
    let was : WritesWithin me c.args.from i held c.loop-i.seat.me = subst (λ k. WritesWithin me c.args.from k held c.loop-i.seat.me) taken c.loop-i.invariant.2 in
    let is : held ≡ with_row (local_of me).held (held_place sizes (local_of me).spare c.args.from) (take i row)
    = c.loop-i.invariant.3 ∙ (λ k. with_row (sym own.held k) (held_place sizes (sym own.spare k) c.args.from) (take i row)) in
    let room = held_room sizes (local_of me) c.args.own.now own c.args.from i (let r = c.requires.inside.1 in let t = c.loop-i-test.true in let e = c.requires.words.1 in omega arith) in (
      at.0,
      at.1,
      at.2,
      at.3,
      at.4,
      was.2,
      writes_stage me c.loop-i.seat.me c.args.from i held was at.0 at.1 at.5 at.2 at.3 at.6,
      writes_come object sizes me c.loop-i.seat.me c.args.from i held (take i row) at.2 at.3 at.4 at.5 was taken is room at.7
          (λ j below. get_or-take i row j 0 below ∙ at.8 j (let t = c.loop-i-test.true in let e = c.requires.words.1 in omega arith)),
      at.8 i below,
    )

pub loop-i-preserved : goal.loop-i-preserved
loop-i-preserved g c =
    let sizes = c.args.self.now.setup.sizes in
    let me = c.args.seat.now.me in
    let row = c.args.row.now in
    let i = c.loop-i.i in
    let held = c.loop-i.own.held.items in
    let first = c.args.own.now.held.items in
    let from = held_place sizes c.args.own.now.spare c.args.from in
    let at = held_place sizes c.args.own.now.spare (c.args.from + i) in
    let below : i < length row = (let t = c.loop-i-test.true in let e = c.requires.words.1 in omega arith) in
    let taken : length (take i row) ≡ i = length-take-le i row (let t = c.loop-i-test.true in let e = c.requires.words.1 in omega arith) in
    let was : WritesWithin me c.args.from i held c.loop-i.seat.me = subst (λ k. WritesWithin me c.args.from k held c.loop-i.seat.me) taken c.loop-i.invariant.2 in
    let here : c.args.own.now.spare * c.buffer_words.result + c.args.from + i ≡ at = (λ k. c.args.own.now.spare * c.buffer_words.ensures k + c.args.from + i) ∙ add_assoc (c.args.own.now.spare * buffer_words sizes) c.args.from i in
    let there : at ≡ from + i = sym (add_assoc (c.args.own.now.spare * buffer_words sizes) c.args.from i) in
    let more : i + 1 ≤ length (take (i + 1) row) = take_reaches i (i + 1) row below (omega arith) in
    elim c.if-index-word.branch [
      | then-index-word w ↦
          let stored : c.if-index-word.own.held.items ≡ slice_set held at (slice_index row i) = ap (λ (o : Buffers). o.held.items) w.own-is ∙ ap (λ k. slice_set held k (slice_index row i)) here in (
            ap (λ (s : Seat _ _). s.table_id) w.seat-is ∙ w.write_word.ensures.same.0 ∙ c.loop-i.invariant.0,
            ap (λ (s : Seat _ _). s.id) w.seat-is ∙ w.write_word.ensures.same.1 ∙ c.loop-i.invariant.1,
            within_more me c.if-index-word.seat.me c.args.from (i + 1) (length (take (i + 1) row)) c.if-index-word.own.held.items more
                (subst (λ (s : Seat _ _). WritesWithin me c.args.from (i + 1) c.if-index-word.own.held.items s.me) (sym w.seat-is)
                (subst (λ (h : List ℕ). WritesWithin me c.args.from (i + 1) h w.write_word.new.seat.me) (sym stored)
                (writes_one me c.loop-i.seat.me c.args.from i held was w.write_word.new.seat.me at (slice_index row i) w.write_word.ensures.left))),
            stored ∙ (λ k. slice_set (c.loop-i.invariant.3 k) (there k) (slice_index row i)) ∙ with_row-more first from row i below,
            ap (λ (o : Buffers). o.spare) w.own-is ∙ c.loop-i.invariant.4,
          )
      | else-index-word w ↦
          let same : c.if-index-word.own.held.items ≡ held = ap (λ (o : Buffers). o.held.items) w.own-is in
          let inside : at < length held = (
          let h = held_inside sizes c.args.own.now.spare (c.args.from + i) c.requires.own.which (let r = c.requires.inside.1 in let t = c.loop-i-test.true in let e = c.requires.words.1 in omega arith) in
          let l : length held ≡ length first = ap (λ (xs : List ℕ). length xs) c.loop-i.invariant.3 ∙ with_row-length first from (take i row) in
          let o = c.requires.own.long in omega arith) in
          let found : slice_index held at ≡ slice_index row i
          = sym (c.index.ensures ∙ ap (λ k. slice_index_or held k c.index.result.now) here ∙ get_or_default_zero held at c.index.result.now inside) ∙ w.if-index-word.false in (
            ap (λ (s : Seat _ _). s.table_id) w.seat-is ∙ c.loop-i.invariant.0,
            ap (λ (s : Seat _ _). s.id) w.seat-is ∙ c.loop-i.invariant.1,
            within_more me c.if-index-word.seat.me c.args.from (i + 1) (length (take (i + 1) row)) c.if-index-word.own.held.items more
                (subst (λ (s : Seat _ _). WritesWithin me c.args.from (i + 1) c.if-index-word.own.held.items s.me) (sym w.seat-is)
                (subst (λ (h : List ℕ). WritesWithin me c.args.from (i + 1) h c.loop-i.seat.me) (sym same) (writes_none me c.loop-i.seat.me c.args.from i held was))),
            same ∙ c.loop-i.invariant.3 ∙ with_row-same first from row i below ((λ k. slice_index (sym c.loop-i.invariant.3 k) (sym there k)) ∙ found),
            ap (λ (o : Buffers). o.spare) w.own-is ∙ c.loop-i.invariant.4,
          )
    ]

-- the words after the last one are there already
the_rest : (held : List ℕ) (at i end : ℕ) (row : List ℕ) → end ≤ i → ((k : ℕ) → end ≤ k → k < length row → slice_index held (at + k) ≡ slice_index row k)
    → with_row held at (take i row) ≡ with_row held at row
the_rest held at i end row after alike =
    with_row-skip held at row i (length row) (λ k a b within. alike k (omega arith) within) ∙ ap (with_row held at) (take_all (i + length row) row (omega arith))

pub returns-clause-held : goal.returns-clause-held
returns-clause-held g c =
    let sizes = c.args.self.now.setup.sizes in
    let held = c.args.own.now.held.items in
    c.loop-i.invariant.3
    ∙ the_rest held (held_place sizes c.args.own.now.spare c.args.from) c.loop-i.i c.args.end c.args.row.now (let t = c.loop-i-test.false in omega arith)
    (λ k after within. ap (slice_index held) (add_assoc (c.args.own.now.spare * buffer_words sizes) c.args.from k) ∙ c.requires.alike k within (inr after))

pub returns-clause-goes : goal.returns-clause-goes
returns-clause-goes g c =
    let row = c.args.row.now in
    within_more c.args.seat.now.me c.loop-i.seat.me c.args.from (length (take c.loop-i.i row)) (length row) c.loop-i.own.held.items
    (let i = c.loop-i.auto.i-end c.requires.words.0 in let e = c.requires.words.1 in let l = length-take-le c.loop-i.i row (omega (arith, i, e)) in omega (arith, i, e, l)) c.loop-i.invariant.2
