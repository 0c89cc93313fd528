use Rattle.triple_buffers.proofs.Vocabulary.{Allows, HasOpened, HasWritten, Mine, ShowsContents, Some, [], ap, arith, back_slot, goes, none, refl, settled, slice_index, slice_set, step, subst, sym, with_back, with_out, ℕ, ◌%◌, ◌+◌, ◌<◌, ◌∙◌, ◌≡◌}
use Rattle.triple_buffers.proofs.Going.{exchanged_one, of_parties, of_word_to, one_held, place_read, places_set, ready, ready_alone, same_back, still, word_in, written_told}
use Rattle.triple_buffers.proofs.Stepping.{opens, writes}
use Rattle.triple_buffers.proofs.rule.Buffers.write.Given as given
use Rattle.triple_buffers.proofs.rule.Buffers.write.Goals as goal

carried_told : {A B : Type 0} {a : A} {b : B} {m : A × B} → m ≡ (a, b) → m.1 ≡ b
carried_told is = ap (λ m. m.1) is

pub load-requires : goal.load-requires
load-requires g c =
    let shared = c.args.self.now in
    let seat = c.args.party.now.seat in
    let party = c.requires.party in
    let slots = shared.table.shared.table_id.slots in
    let i = c.word-word.result in (
      party.table,
      word_in shared.setup.layout c.args.party.now.number c.args.to i party.inside c.requires.to c.word-word.ensures _ shared.wide,
      subst (λ key. Allows (ShowsContents key.layout (g.P.BufferRule.holds key.about)) slots seat.id seat.me i (λ n. n) (HasOpened (step slots i 0 0 none) seat.me)) (sym shared.same)
          (opens shared.setup.layout (g.P.BufferRule.holds shared.setup.about) seat.id c.args.party.now.number seat.me party.own c.args.to c.requires.to slots i c.word-word.ensures),
    )

pub index-back-requires : goal.index-back-requires
index-back-requires g c = (let l = c.requires.party.backs_in.long in let o = c.args.party.now.backs.ok.0 in let t = c.requires.to in omega arith)

pub slot-slot-requires-clause-inside : goal.slot-slot-requires-clause-inside
slot-slot-requires-clause-inside g c =
    let party = c.requires.party in
    let is = place_read c.args.party.now.backs.items c.args.to c.index-back.result.now (let l = party.backs_in.long in let t = c.requires.to in omega arith) c.index-back.ensures in
    (party.inside, c.requires.to, subst (λ k. k < 3) (sym is) (party.backs_in.inside c.args.to))

pub exchange-before-requires : goal.exchange-before-requires
exchange-before-requires g c =
    let party = c.requires.party in
    let seat = c.args.party.now.seat in
    let layout = c.args.self.now.setup.layout in
    let is = place_read c.args.party.now.backs.items c.args.to c.index-back.result.now (let l = party.backs_in.long in let t = c.requires.to in omega arith) c.index-back.ensures in
    let told = c.load.ensures.2 c.args.to (of_parties layout c.args.party.now.number seat.me party.own c.args.to c.requires.to) (of_word_to layout c.args.party.now.number seat.me party.own c.args.to c.word-word.result c.word-word.ensures) in
    let same = same_back layout c.args.party.now.number seat.me party.own c.args.to c.args.value c.index-back.result.now c.slot-slot.result c.args.party.now.backs.items party.backs is c.slot-slot.ensures in
    (c.load.ensures.0 ∙ party.table, (told.0, one_held c.load.new.seat.me.1 (back_slot seat.me c.args.to) c.slot-slot.result told.0 (carried_told told.1) same))

pub swap-found-requires : goal.swap-found-requires
swap-found-requires g c =
    let shared = c.args.self.now in
    let party = c.requires.party in
    let seat = c.args.party.now.seat in
    let layout = shared.setup.layout in
    let number = c.args.party.now.number in
    let to = c.args.to in
    let slots = shared.table.shared.table_id.slots in
    let i = c.word-word.result in
    let new = c.index-back.result.now + 4 in
    let is = place_read c.args.party.now.backs.items to c.index-back.result.now (let l = party.backs_in.long in let t = c.requires.to in omega arith) c.index-back.ensures in
    let told = c.load.ensures.2 to (of_parties layout number seat.me party.own to c.requires.to) (of_word_to layout number seat.me party.own to i c.word-word.ensures) in
    let same = same_back layout number seat.me party.own to c.args.value c.index-back.result.now c.slot-slot.result c.args.party.now.backs.items party.backs is c.slot-slot.ensures in
    let now : c.exchange-before.new.seat.me ≡ ready layout number seat.me party.own to c.args.value = exchanged_one c.load.new.seat.me c.exchange-before.new.seat.me _ (back_slot seat.me to) c.slot-slot.result told.0 (Some c.args.value) told.1 same c.exchange-before.ensures.3 in
    let id = c.exchange-before.ensures.1 ∙ c.load.ensures.1 in (
      c.exchange-before.ensures.0 ∙ c.load.ensures.0 ∙ party.table,
      word_in layout number to i party.inside c.requires.to c.word-word.ensures _ shared.wide,
      subst (λ key. Allows (ShowsContents key.layout (g.P.BufferRule.holds key.about)) slots c.exchange-before.new.seat.id c.exchange-before.new.seat.me i (λ n. new) (HasWritten g.M.WritePlay.then (step slots i new 0 none) c.exchange-before.new.seat.me)) (sym shared.same)
          (subst (λ me. Allows (ShowsContents layout (g.P.BufferRule.holds shared.setup.about)) slots c.exchange-before.new.seat.id me i (λ n. new) (HasWritten g.M.WritePlay.then (step slots i new 0 none) me)) (sym now)
          (subst (λ j. Allows (ShowsContents layout (g.P.BufferRule.holds shared.setup.about)) slots j (ready layout number seat.me party.own to c.args.value) i (λ n. new) (HasWritten g.M.WritePlay.then (step slots i new 0 none) (ready layout number seat.me party.own to c.args.value))) (sym id)
          (writes layout (g.P.BufferRule.holds shared.setup.about) seat.id number (ready layout number seat.me party.own to c.args.value) (ready_alone layout number seat.me party.own to c.args.value) to c.requires.to c.args.value slots i c.word-word.ensures new
          (ap (λ k. k + 4) (is ∙ ap (λ xs. slice_index xs to) (sym party.backs))) g.M.WritePlay.then refl c.requires.rule))),
    )

-- what the party is told by the swap
outcome : (g : given.Over) (c : goal.After-party-1 g) → let me = c.args.party.now.seat.me in let to = c.args.to in (w : g.row.V.Denot) × g.M.WritePlay.then me.0.client to c.args.value w × (c.swap-found.result % 4 < 3)
    × (c.swap-found.new.seat.me ≡ (goes me.0 (settled (with_back (with_out me.0.ends (back_slot me to)) to (c.swap-found.result % 4))) w, []))
outcome g c =
    let shared = c.args.self.now in
    let party = c.requires.party in
    let seat = c.args.party.now.seat in
    let layout = shared.setup.layout in
    let number = c.args.party.now.number in
    let to = c.args.to in
    let is = place_read c.args.party.now.backs.items to c.index-back.result.now (let l = party.backs_in.long in let t = c.requires.to in omega arith) c.index-back.ensures in
    let told = c.load.ensures.2 to (of_parties layout number seat.me party.own to c.requires.to) (of_word_to layout number seat.me party.own to c.word-word.result c.word-word.ensures) in
    let same = same_back layout number seat.me party.own to c.args.value c.index-back.result.now c.slot-slot.result c.args.party.now.backs.items party.backs is c.slot-slot.ensures in
    let now : c.exchange-before.new.seat.me ≡ ready layout number seat.me party.own to c.args.value = exchanged_one c.load.new.seat.me c.exchange-before.new.seat.me _ (back_slot seat.me to) c.slot-slot.result told.0 (Some c.args.value) told.1 same c.exchange-before.ensures.3 in
    written_told layout number seat.me party.own to c.args.value g.M.WritePlay.then (step shared.table.shared.table_id.slots c.word-word.result (c.index-back.result.now + 4) 0 none) c.exchange-before.new.seat.me c.swap-found.result c.swap-found.new.seat.me now
    c.requires.to c.word-word.ensures c.swap-found.ensures.2

pub returns-clause-kept : goal.returns-clause-kept
returns-clause-kept g c =
    let shared = c.args.self.now in
    let party = c.requires.party in
    let to = c.args.to in
    let found = c.swap-found.result in
    let out = outcome g c in (
      still shared c.args.party.now _ party (c.swap-found.ensures.0 ∙ c.exchange-before.ensures.0 ∙ c.load.ensures.0) refl _ out.0 [] out.3 refl (ap (λ xs. slice_set xs to (found % 4)) party.backs) party.fronts
          (places_set shared.setup.layout.parties c.args.party.now.backs.items to (found % 4) party.backs_in c.requires.to out.2) party.fronts_in,
      refl,
      c.swap-found.ensures.1 ∙ c.exchange-before.ensures.1 ∙ c.load.ensures.1,
    )

pub returns-clause-told : goal.returns-clause-told
returns-clause-told g c =
    let out = outcome g c in
    subst (λ w. g.M.WritePlay.then c.args.party.now.seat.me.0.client c.args.to c.args.value w) (ap (λ (m : Mine _ _). m.0.client) (sym out.3)) out.1

pub returns-clause-two_steps : goal.returns-clause-two_steps
returns-clause-two_steps g c = ap (λ (m : Mine _ _). m.0.ends.steps) (outcome g c).3 ∙ more c.args.party.now.seat.me.0.ends.steps where
  more : (n : ℕ) → n + 1 + 1 ≡ n + 2
  more n = omega arith
