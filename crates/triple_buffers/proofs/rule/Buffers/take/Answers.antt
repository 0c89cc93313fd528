use Rattle.triple_buffers.proofs.Vocabulary.{Allows, Ends, HasLooked, HasTaken, Mine, None, ShowsContents, Some, [], ap, arith, goes, none, refl, settled, slice_index, slice_set, slot_at, step, subst, sym, with_front, with_out, ℕ, ◌%◌, ◌+◌, ◌<◌, ◌∙◌, ◌∷◌, ◌≡◌, ◌≤◌}
use Rattle.triple_buffers.proofs.Going.{exchanged_one, found_in, looked_told, one_held, place_read, places_set, same_front, seen, seen_alone, still, taken_told, word_in}
use Rattle.triple_buffers.proofs.Stepping.{looks, takes_value}
use Rattle.triple_buffers.proofs.rule.Buffers.take.Given as given
use Rattle.triple_buffers.proofs.rule.Buffers.take.Goals as goal

abbrev fronts_after : {T V : Type 0} → Mine T V → (from m : ℕ) → Ends
fronts_after me from m = with_front (settled me.0.ends) from m

few_one : (n m : ℕ) → m ≡ n + 1 → m ≤ n + 2
few_one n m is = omega (arith, is)

few_two : (n m : ℕ) → m ≡ n + 1 + 1 → m ≤ n + 2
few_two n m is = omega (arith, is)

pub load-requires : goal.load-requires
load-requires g c =
    let shared = c.args.self.now in
    let seat = c.args.party.now.seat in
    let party = c.requires.party in
    let slots = shared.table.shared.table_id.slots in
    let i = c.word-word.result in (
      party.table,
      word_in shared.setup.layout c.args.from c.args.party.now.number i c.requires.from party.inside c.word-word.ensures _ shared.wide,
      subst (λ key. Allows (ShowsContents key.layout (g.P.BufferRule.holds key.about)) slots seat.id seat.me i (λ n. n) (HasLooked g.M.TakePlay.then (step slots i 0 0 none) seat.me)) (sym shared.same)
          (looks shared.setup.layout (g.P.BufferRule.holds shared.setup.about) seat.id c.args.party.now.number seat.me party.own c.args.from c.requires.from slots i c.word-word.ensures g.M.TakePlay.then c.requires.rule),
    )

-- what the party is told where there is nothing
early : (g : given.Over) (c : goal.Then-load-lt-FRESH g) → let me = c.args.party.now.seat.me in (w : g.row.V.Denot) × g.M.TakePlay.then me.0.client c.args.from None w × (c.load.new.seat.me ≡ (goes me.0 (settled me.0.ends) w, []))
early g c = (looked_told c.args.self.now.setup.layout c.args.party.now.number c.args.party.now.seat.me c.requires.party.own c.args.from c.requires.from g.M.TakePlay.then
    (step c.args.self.now.table.shared.table_id.slots c.word-word.result 0 0 none) c.load.result c.load.new.seat.me c.word-word.ensures c.load.ensures.2).0 c.if-load-lt-FRESH.true

pub returns-then-load-lt-FRESH-clause-kept : goal.returns-then-load-lt-FRESH-clause-kept
returns-then-load-lt-FRESH-clause-kept g c =
    let party = c.requires.party in
    let out = early g c in (
      still c.args.self.now c.args.party.now _ party c.load.ensures.0 refl (settled c.args.party.now.seat.me.0.ends) out.0 [] out.2 refl party.backs party.fronts party.backs_in party.fronts_in,
      refl,
      c.load.ensures.1,
    )

pub returns-then-load-lt-FRESH-clause-told : goal.returns-then-load-lt-FRESH-clause-told
returns-then-load-lt-FRESH-clause-told g c =
    let out = early g c in
    subst (λ w. g.M.TakePlay.then c.args.party.now.seat.me.0.client c.args.from None w) (ap (λ (m : Mine _ _). m.0.client) (sym out.2)) out.1

pub returns-then-load-lt-FRESH-clause-few_steps : goal.returns-then-load-lt-FRESH-clause-few_steps
returns-then-load-lt-FRESH-clause-few_steps g c = few_one _ _ (ap (λ (m : Mine _ _). m.0.ends.steps) (early g c).2)

pub swap-found-requires : goal.swap-found-requires
swap-found-requires g c =
    let shared = c.args.self.now in
    let party = c.requires.party in
    let seat = c.args.party.now.seat in
    let layout = shared.setup.layout in
    let number = c.args.party.now.number in
    let from = c.args.from in
    let slots = shared.table.shared.table_id.slots in
    let i = c.word-word.result in
    let new = c.index-front.result.now in
    let is = place_read c.args.party.now.fronts.items from new (let l = party.fronts_in.long in let t = c.requires.from in omega arith) c.index-front.ensures in
    let now = (looked_told layout number seat.me party.own from c.requires.from g.M.TakePlay.then (step slots i 0 0 none) c.load.result c.load.new.seat.me c.word-word.ensures c.load.ensures.2).1 c.if-load-lt-FRESH.false in
    let then = seen layout number seat.me party.own from c.requires.from g.M.TakePlay.then in (
      c.load.ensures.0 ∙ party.table,
      word_in layout from number i c.requires.from party.inside c.word-word.ensures _ shared.wide,
      subst (λ key. Allows (ShowsContents key.layout (g.P.BufferRule.holds key.about)) slots c.load.new.seat.id c.load.new.seat.me i (λ n. new) (HasTaken g.M.TakePlay.then (step slots i new 0 none) c.load.new.seat.me)) (sym shared.same)
          (subst (λ me. Allows (ShowsContents layout (g.P.BufferRule.holds shared.setup.about)) slots c.load.new.seat.id me i (λ n. new) (HasTaken g.M.TakePlay.then (step slots i new 0 none) me)) (sym now)
          (subst (λ j. Allows (ShowsContents layout (g.P.BufferRule.holds shared.setup.about)) slots j then i (λ n. new) (HasTaken g.M.TakePlay.then (step slots i new 0 none) then)) (sym c.load.ensures.1)
          (takes_value layout (g.P.BufferRule.holds shared.setup.about) seat.id number then (seen_alone layout number seat.me party.own from c.requires.from g.M.TakePlay.then) from c.requires.from slots i c.word-word.ensures new (is ∙ ap (λ xs. slice_index xs from) (sym party.fronts)) g.M.TakePlay.then c.requires.rule))),
    )

-- what it is told by the swap, where the value was taken out by then, and where it is there
late : (g : given.Over) (c : goal.Then-found-lt-FRESH g) → let me = c.args.party.now.seat.me in let found = c.swap-found.result in let from = c.args.from in
    (found % 4 < 3) × ((w : g.row.V.Denot) × g.M.TakePlay.then me.0.client from None w × (c.swap-found.new.seat.me ≡ (goes me.0 (settled (fronts_after me from (found % 4))) w, [])))
late g c =
    let layout = c.args.self.now.setup.layout in
    let number = c.args.party.now.number in
    let me = c.args.party.now.seat.me in
    let slots = c.args.self.now.table.shared.table_id.slots in
    let i = c.word-word.result in
    let now = (looked_told layout number me c.requires.party.own c.args.from c.requires.from g.M.TakePlay.then (step slots i 0 0 none) c.load.result c.load.new.seat.me c.word-word.ensures c.load.ensures.2).1 c.if-load-lt-FRESH.false in
    let out = taken_told layout number me c.requires.party.own c.args.from c.requires.from g.M.TakePlay.then (step slots i c.index-front.result.now 0 none) c.load.new.seat.me c.swap-found.result c.swap-found.new.seat.me now c.word-word.ensures c.swap-found.ensures.2 in
    (out.0, out.1 c.if-found-lt-FRESH.true)

abbrev Holds : (g : given.Over) → Mine g.row.T.Denot g.row.V.Denot → (from found : ℕ) → Mine g.row.T.Denot g.row.V.Denot → Type 0
Holds g me from found me' = let slot = slot_at me.0.layout from me.0.first (found % 4) in
    (found % 4 < 3) × ((x : g.row.T.Denot) × ((w : g.row.V.Denot) × g.M.TakePlay.then me.0.client from (Some x) w × (me' ≡ (goes me.0 (with_out (fronts_after me from (found % 4)) slot) w, (slot, Some x) ∷ []))))

held : (g : given.Over) (c : goal.Else-found-lt-FRESH g) → Holds g c.args.party.now.seat.me c.args.from c.swap-found.result c.swap-found.new.seat.me
held g c =
    let layout = c.args.self.now.setup.layout in
    let number = c.args.party.now.number in
    let me = c.args.party.now.seat.me in
    let slots = c.args.self.now.table.shared.table_id.slots in
    let i = c.word-word.result in
    let now = (looked_told layout number me c.requires.party.own c.args.from c.requires.from g.M.TakePlay.then (step slots i 0 0 none) c.load.result c.load.new.seat.me c.word-word.ensures c.load.ensures.2).1 c.if-load-lt-FRESH.false in
    let out = taken_told layout number me c.requires.party.own c.args.from c.requires.from g.M.TakePlay.then (step slots i c.index-front.result.now 0 none) c.load.new.seat.me c.swap-found.result c.swap-found.new.seat.me now c.word-word.ensures c.swap-found.ensures.2 in
    (out.0, out.2 c.if-found-lt-FRESH.false)

held_then : (g : given.Over) (c : goal.After-exchange-arg-1 g) → Holds g c.args.party.now.seat.me c.args.from c.swap-found.result c.swap-found.new.seat.me
held_then g c =
    let layout = c.args.self.now.setup.layout in
    let number = c.args.party.now.number in
    let me = c.args.party.now.seat.me in
    let slots = c.args.self.now.table.shared.table_id.slots in
    let i = c.word-word.result in
    let now = (looked_told layout number me c.requires.party.own c.args.from c.requires.from g.M.TakePlay.then (step slots i 0 0 none) c.load.result c.load.new.seat.me c.word-word.ensures c.load.ensures.2).1 c.if-load-lt-FRESH.false in
    let out = taken_told layout number me c.requires.party.own c.args.from c.requires.from g.M.TakePlay.then (step slots i c.index-front.result.now 0 none) c.load.new.seat.me c.swap-found.result c.swap-found.new.seat.me now c.word-word.ensures c.swap-found.ensures.2 in
    (out.0, out.2 c.if-found-lt-FRESH.false)

held_last : (g : given.Over) (c : goal.After-exchange g) → Holds g c.args.party.now.seat.me c.args.from c.swap-found.result c.swap-found.new.seat.me
held_last g c =
    let layout = c.args.self.now.setup.layout in
    let number = c.args.party.now.number in
    let me = c.args.party.now.seat.me in
    let slots = c.args.self.now.table.shared.table_id.slots in
    let i = c.word-word.result in
    let now = (looked_told layout number me c.requires.party.own c.args.from c.requires.from g.M.TakePlay.then (step slots i 0 0 none) c.load.result c.load.new.seat.me c.word-word.ensures c.load.ensures.2).1 c.if-load-lt-FRESH.false in
    let out = taken_told layout number me c.requires.party.own c.args.from c.requires.from g.M.TakePlay.then (step slots i c.index-front.result.now 0 none) c.load.new.seat.me c.swap-found.result c.swap-found.new.seat.me now c.word-word.ensures c.swap-found.ensures.2 in
    (out.0, out.2 c.if-found-lt-FRESH.false)

pub returns-then-found-lt-FRESH-clause-kept : goal.returns-then-found-lt-FRESH-clause-kept
returns-then-found-lt-FRESH-clause-kept g c =
    let party = c.requires.party in
    let from = c.args.from in
    let found = c.swap-found.result in
    let out = late g c in (
      still c.args.self.now c.args.party.now _ party (c.swap-found.ensures.0 ∙ c.load.ensures.0) refl (settled (fronts_after c.args.party.now.seat.me from (found % 4))) out.1.0 [] out.1.2 refl party.backs (ap (λ xs. slice_set xs from (found % 4)) party.fronts) party.backs_in
          (places_set c.args.self.now.setup.layout.parties c.args.party.now.fronts.items from (found % 4) party.fronts_in c.requires.from out.0),
      refl,
      c.swap-found.ensures.1 ∙ c.load.ensures.1,
    )

pub returns-then-found-lt-FRESH-clause-told : goal.returns-then-found-lt-FRESH-clause-told
returns-then-found-lt-FRESH-clause-told g c =
    let out = (late g c).1 in
    subst (λ w. g.M.TakePlay.then c.args.party.now.seat.me.0.client c.args.from None w) (ap (λ (m : Mine _ _). m.0.client) (sym out.2)) out.1

pub returns-then-found-lt-FRESH-clause-few_steps : goal.returns-then-found-lt-FRESH-clause-few_steps
returns-then-found-lt-FRESH-clause-few_steps g c = few_two _ _ (ap (λ (m : Mine _ _). m.0.ends.steps) (late g c).1.2)

pub slot-slot-requires-clause-inside : goal.slot-slot-requires-clause-inside
slot-slot-requires-clause-inside g c = (c.requires.from, c.requires.party.inside, (held g c).0)

pub exchange-requires : goal.exchange-requires
exchange-requires g c =
    let party = c.requires.party in
    let out = held_then g c in
    let m = c.swap-found.result % 4 in
    let same = same_front c.args.self.now.setup.layout c.args.party.now.number c.args.party.now.seat.me party.own c.args.from c.requires.from g.M.TakePlay.then m c.slot-slot.result c.slot-slot.ensures in (
      c.swap-found.ensures.0 ∙ c.load.ensures.0 ∙ party.table,
      (Some out.1.0, one_held c.swap-found.new.seat.me.1 _ c.slot-slot.result (Some out.1.0) (ap (λ (m : Mine _ _). m.1) out.1.1.2) same),
    )

pub returns-clause-kept : goal.returns-clause-kept
returns-clause-kept g c =
    let party = c.requires.party in
    let from = c.args.from in
    let found = c.swap-found.result in
    let me = c.args.party.now.seat.me in
    let out = held_last g c in
    let slot = slot_at me.0.layout from me.0.first (found % 4) in
    let same = same_front c.args.self.now.setup.layout c.args.party.now.number me party.own from c.requires.from g.M.TakePlay.then (found % 4) c.slot-slot.result c.slot-slot.ensures in
    let now = exchanged_one c.swap-found.new.seat.me c.exchange.new.seat.me _ slot c.slot-slot.result (Some out.1.0) None out.1.1.2 same c.exchange.ensures.3 in (
      still c.args.self.now c.args.party.now _ party (c.exchange.ensures.0 ∙ c.swap-found.ensures.0 ∙ c.load.ensures.0) refl (with_out (fronts_after me from (found % 4)) slot) out.1.1.0 ((slot, None) ∷ []) now (None, refl) party.backs
          (ap (λ xs. slice_set xs from (found % 4)) party.fronts) party.backs_in
          (places_set c.args.self.now.setup.layout.parties c.args.party.now.fronts.items from (found % 4) party.fronts_in c.requires.from out.0),
      refl,
      c.exchange.ensures.1 ∙ c.swap-found.ensures.1 ∙ c.load.ensures.1,
    )

pub returns-clause-told : goal.returns-clause-told
returns-clause-told g c =
    let party = c.requires.party in
    let from = c.args.from in
    let me = c.args.party.now.seat.me in
    let out = held_last g c in
    let value : Some out.1.0 ≡ c.exchange.result = found_in c.swap-found.new.seat.me.1 _ c.slot-slot.result (Some out.1.0) c.exchange.result (ap (λ (m : Mine _ _). m.1) out.1.1.2) c.exchange.ensures.2 in
    subst (λ y. g.M.TakePlay.then me.0.client from y c.exchange.new.seat.me.0.client) value
    (subst (λ w. g.M.TakePlay.then me.0.client from (Some out.1.0) w) (ap (λ (m : Mine _ _). m.0.client) (sym out.1.1.2) ∙ ap (λ (m : Mine _ _). m.0.client) (sym c.exchange.ensures.3)) out.1.1.1)

pub returns-clause-few_steps : goal.returns-clause-few_steps
returns-clause-few_steps g c = few_two _ _ (ap (λ (m : Mine _ _). m.0.ends.steps) c.exchange.ensures.3 ∙ ap (λ (m : Mine _ _). m.0.ends.steps) (held_last g c).1.1.2)
