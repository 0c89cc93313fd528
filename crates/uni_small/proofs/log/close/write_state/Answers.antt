use Rattle.uni_small.proofs.Vocabulary.{Sizes, ap, arith, buffer_word, buffer_words, get_or-set_other, get_or-set_same, inl, inr, length, number_cases, slice_index, slots_items, state_place, subst, sym, words_before, ℕ, ◌%◌, ◌*◌, ◌+◌, ◌<◌, ◌∙◌, ◌≡◌}
use Rattle.uni_small.proofs.Lists.{slice_index-get}
use Rattle.uni_small.proofs.Words.{buffer_inside}
use Rattle.uni_small.proofs.log.close.write_state.Goals as goal

-- where the state of a buffer begins
abbrev state_from : Sizes → (b : ℕ) → ℕ
state_from sizes b = words_before sizes + b * buffer_words sizes + (sizes.processes + sizes.processes * sizes.reply)

pub loop-i-init : goal.loop-i-init
loop-i-init c j below = absurd (omega arith)

pub word-requires : goal.word-requires
word-requires c =
    let sizes = c.args.sizes.now in
    let words = slots_items c.args.closed.words in
    let s : c.word-buffer.result ≡ slice_index words 0 = slice_index-get words 0 c.word-buffer.result c.word-buffer.ensures in
    let b : c.word-buffer.result % 128 < 2 * sizes.processes = subst (λ x. x % 128 < 2 * sizes.processes) (sym s) c.requires.named in
    let inside = buffer_inside sizes (c.word-buffer.result % 128) (state_place sizes c.loop-i.i) b (let t = c.loop-i-test.true in omega arith) in
    let counts = c.requires.full.1 in
    (omega arith, c.requires.full.0)

pub loop-i-preserved : goal.loop-i-preserved
loop-i-preserved c j below = elim (number_cases j c.loop-i.i) [
  | inl here ↦
      let i : c.loop-i.i < length c.loop-i.state = (let a = c.loop-i.auto.state in let w = c.requires.wide in let t = c.loop-i-test.true in omega arith) in
      ap (slice_index _) here.0 ∙ get_or-set_same c.loop-i.state c.loop-i.i c.word.result 0 i ∙ slice_index-get (slots_items c.args.closed.words) _ c.word.result c.word.ensures
      ∙ ap (λ k. slice_index (slots_items c.args.closed.words) (state_from c.args.sizes.now (c.word-buffer.result % 128) + k)) (sym here.0)
  | inr other ↦ get_or-set_other c.loop-i.state c.loop-i.i j c.word.result 0 other.0 ∙ c.loop-i.invariant j (let b = below in let o = other.0 in omega arith)
]

pub free-requires : goal.free-requires
free-requires c k below = absurd (let none = c.requires.slotless in omega arith)

pub returns : goal.returns
returns c =
    let sizes = c.args.sizes.now in
    let words = slots_items c.args.closed.words in
    let s : c.word-buffer.result ≡ slice_index words 0 = slice_index-get words 0 c.word-buffer.result c.word-buffer.ensures in
    record {
      read = record {
        long = c.loop-i.auto.state ∙ c.requires.wide;
        each = λ i below.
            let e : state_from sizes (c.word-buffer.result % 128) + i ≡ buffer_word sizes (c.word-buffer.result % 128) (state_place sizes i) = omega arith in
            c.loop-i.invariant i (let t = c.loop-i-test.false in omega arith) ∙ ap (slice_index words) e ∙ ap (λ x. slice_index words (buffer_word sizes (x % 128) (state_place sizes i))) s;
      };
    }
