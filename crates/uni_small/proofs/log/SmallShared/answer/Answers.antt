use Rattle.uni_small.proofs.Vocabulary.{List, ap, arith, image_of_rows, inl, inr, length, refl, slice_index, sym, with_items_is, ℕ, ◌<◌, ◌∙◌, ◌≡◌}
use Rattle.std.specs.Vec.{with_items}
use Rattle.uni_small.specs.Touched.{IsUntouched}
use Rattle.uni_small.proofs.Images.{reached_length}
use Rattle.uni_small.proofs.Lists.{same_list}
use Rattle.uni_small.proofs.log.SmallShared.answer.Goals as goal

abbrev size : List ℕ → ℕ
size words = length words

pub touches-touched-requires-clause-wide : goal.touches-touched-requires-clause-wide
touches-touched-requires-clause-wide g c =
    let meaning = g.O.SmallObject.meaning c.args.self.now.setup.object in
    let was = c.requires.reached in
    ap size c.deref.ensures.value ∙ ap size (sym was.1) ∙ reached_length meaning.object meaning.reply (g.met.O.SmallObject.steady c.args.self.now.setup.object) meaning.object.initial was.0 refl

pub apply-requires-clause-wide : goal.apply-requires-clause-wide
apply-requires-clause-wide g c =
    let meaning = g.O.SmallObject.meaning c.args.self.now.setup.object in
    let was = c.requires.reached in
    ap size c.deref_mut-2.ensures.value ∙ ap size (sym was.1) ∙ reached_length meaning.object meaning.reply (g.met.O.SmallObject.steady c.args.self.now.setup.object) meaning.object.initial was.0 refl

-- the words that the call changed are put back, and it changed no others
pub returns-clause-same : goal.returns-clause-same
returns-clause-same g c =
    let sizes = c.args.self.now.setup.sizes in
    let object = (g.O.SmallObject.meaning c.args.self.now.setup.object).object in
    let room = c.args.room.now in
    let state = room.state.items in
    let inv = c.args.invocation.now in
    let after = c.apply.new.state in
    let back = c.copy-2.new.to in
    let touched = c.touches-touched.result in
    let room_after = with_items_is room.state after (c.apply.auto.state ∙ c.deref_mut-2.ensures.len) in
    let items : c.deref_mut-3.result.now ≡ after = c.deref_mut-3.ensures.value ∙ room_after in
    let saved : c.deref-3.result.now ≡ c.copy.new.to = c.deref-3.ensures.value ∙ with_items_is room.saved c.copy.new.to (c.copy.auto.to ∙ c.deref_mut.ensures.len) in
    let wide : length back ≡ length state = c.copy-2.ensures.long ∙ ap size items ∙ c.apply.auto.state ∙ ap size c.deref_mut-2.ensures.value in
    let stays : (i : ℕ) → i < length state → IsUntouched touched i → slice_index back i ≡ slice_index state i
    = λ i inside apart. (
    c.copy-2.ensures.kept i apart
    ∙ ap (λ (ws : List ℕ). slice_index ws i) (items ∙ c.apply.ensures.state ∙ ap (λ ws. object.next ws inv) (c.deref_mut-2.ensures.value ∙ sym c.deref.ensures.value))
    ∙ c.touches-touched.ensures i (let l = ap size c.deref.ensures.value in omega arith) apart
    ∙ ap (λ (ws : List ℕ). slice_index ws i) c.deref.ensures.value
    ) in
    let each : (i : ℕ) → i < length back → slice_index back i ≡ slice_index state i
    = λ i inside. elim (c.copy-2.ensures.copied i (let l = c.copy-2.ensures.long in omega arith)) [
      | inl apart ↦ stays i (omega arith) apart
      | inr second ↦ elim (c.copy.ensures.copied i (let l = ap size c.deref_mut.ensures.value in let a = c.requires.room.saved in let b = c.requires.room.state in omega arith)) [
        | inl apart ↦ stays i (omega arith) apart
        | inr first ↦ second ∙ ap (λ (ws : List ℕ). slice_index ws i) saved ∙ first ∙ ap (λ (ws : List ℕ). slice_index ws i) c.deref-2.ensures.value
      ]
    ] in
    let same : back ≡ state = same_list back state wide each in
    let last = with_items_is (with_items room.state after) back (c.copy-2.auto.to ∙ c.deref_mut-3.ensures.len) in
    (refl, ap (λ ws. image_of_rows sizes room.applied.items room.reply.items ws) (last ∙ same))
