-- What a process keeps of its two buffers for itself.
use Rattle.uni_small.proofs.Vocabulary.{BuffersAgree, Buffers, SpareHas, IsOutsideRows, IsKept, List, Room, Sizes, ap, arith, buffer_words, drop, held_place, image_in, length, length-drop, number_cases, inl, inr, refl, slice_index, spell, subst, sym, with_row, word_held, words_held, ℕ, ◌*◌, ◌+◌, ◌-◌, ◌<◌, ◌∙◌, ◌≡◌, ◌≤◌, ◌⊎◌}
use Rattle.uni_small.specs.Board.{AreFew}
use Rattle.uni_small.specs.Touched.{IsUntouched, all_changes, everything}
use Rattle.uni_small.specs.declared.span.Span.{Span}
use Rattle.uni_small.specs.declared.touched.Touched.{Touched}
use Rattle.uni_small.specs.declared.touched.Changes.{Changes}
use Rattle.std.proofs.lemmas.List.{ext_get_or, get_or-drop, get_or-take, length-take-le}
use Rattle.uni_small.proofs.Rows.{with_row-after, with_row-before, with_row-index, with_row-length}

module _ (sizes : Sizes) where
  abbrev bw : ℕ
  bw = buffer_words sizes

  -- the words of a buffer end where those of the other begin
  halves : (which other : ℕ) → which ≤ 1 → other ≡ 1 - which → (which * bw + bw ≤ other * bw) ⊎ (other * bw + bw ≤ which * bw)
  halves which other few is = elim (number_cases which 0) [
    | inl first ↦ inl (let a : which * bw ≡ 0 * bw = ap (λ k. k * bw) first.0 in let b : other * bw ≡ 1 * bw = ap (λ k. k * bw) (let z = first.0 in omega arith) in omega arith)
    | inr second ↦ inr (let s = second.0 in let a : which * bw ≡ 1 * bw = ap (λ k. k * bw) (omega (arith, s)) in let b : other * bw ≡ 0 * bw = ap (λ k. k * bw) (omega (arith, s)) in omega arith)
  ]

  -- a word of one of them
  pub held_index : (held : List ℕ) (which i : ℕ) → i < bw → slice_index (words_held sizes held which) i ≡ slice_index held (held_place sizes which i)
  held_index held which i below = get_or-take bw (drop (which * bw) held) i 0 below ∙ get_or-drop (which * bw) held i 0

  module _ (held ws : List ℕ) (which : ℕ) (few : which ≤ 1) (long : length held ≡ 2 * bw) (whole : length ws ≡ bw) where
    abbrev after : List ℕ
    after = with_row held (held_place sizes which 0) ws

    room : held_place sizes which 0 + length ws ≤ length held
    room = elim (number_cases which 0) [
      | inl first ↦ (let a : which * bw ≡ 0 * bw = ap (λ k. k * bw) first.0 in omega arith)
      | inr second ↦ (let s = second.0 in let a : which * bw ≡ 1 * bw = ap (λ k. k * bw) (omega (arith, s)) in omega arith)
    ]

    -- one of them is written
    pub written_there : (i : ℕ) → i < bw → slice_index after (held_place sizes which i) ≡ slice_index ws i
    written_there i below =
        ap (slice_index after) (let e : which * bw + i ≡ which * bw + 0 + i = omega arith in e) ∙ with_row-index held (held_place sizes which 0) ws i (omega arith) room

    pub written_words : ws ≡ words_held sizes after which
    written_words =
        let l : length after ≡ 2 * bw = with_row-length held (held_place sizes which 0) ws ∙ long in
        let r = room in
        let d = length-drop (which * bw) after in
        let t : length (words_held sizes after which) ≡ bw = length-take-le bw (drop (which * bw) after) (omega arith) in
        ext_get_or 0 ws (words_held sizes after which) (omega arith)
        (λ i below. sym (held_index after which i (omega arith) ∙ written_there i (omega arith)))

    -- and the other one stays
    pub other_stays : (other i : ℕ) → other ≡ 1 - which → i < bw → slice_index after (held_place sizes other i) ≡ slice_index held (held_place sizes other i)
    other_stays other i is below = elim (halves which other few is) [
      | inl later ↦ with_row-after held (held_place sizes which 0) ws (held_place sizes other i) (omega (arith, later))
      | inr sooner ↦ with_row-before held (held_place sizes which 0) ws (held_place sizes other i) (omega (arith, sooner))
    ]

-- what is the same of the first and of the second one is so of one and of the other
pub one_and_other : (f : ℕ → ℕ) (which other : ℕ) → which ≤ 1 → other ≡ 1 - which → f 0 ≡ f 1 → f which ≡ f other
one_and_other f which other few is same = elim (number_cases which 0) [
  | inl first ↦ ap f first.0 ∙ same ∙ ap f (let z = first.0 in let e : 1 ≡ other = omega arith in e)
  | inr second ↦ (let s = second.0 in ap f (let e : which ≡ 1 = omega (arith, s) in e) ∙ sym same ∙ ap f (let e : 0 ≡ other = omega (arith, s) in e))
]

pub first_and_second : (f : ℕ → ℕ) (which other : ℕ) → which ≤ 1 → other ≡ 1 - which → f which ≡ f other → f 0 ≡ f 1
first_and_second f which other few is same = elim (number_cases which 0) [
  | inl first ↦ ap f (sym first.0) ∙ same ∙ ap f (let z = first.0 in let e : other ≡ 1 = omega arith in e)
  | inr second ↦ (let s = second.0 in ap f (let e : 0 ≡ other = omega (arith, s) in e) ∙ sym same ∙ ap f (let e : which ≡ 1 = omega (arith, s) in e))
]

-- A row of so many words from one on, where the copy is of the buffer that isn't the spare one: what is known of it before it is
-- written, and after the whole copy is, with the words `new` in its place, which are those of the row where `unchanged` holds.
module _ (sizes : Sizes) (own : Buffers) (room : Room) (which : own.spare ≤ 1) (of : room.of ≡ 1 - own.spare)
    (copy : spell (image_in sizes room) ≡ words_held sizes own.held.items room.of) (from count : ℕ) (inside : from + count ≤ buffer_words sizes)
    (row new : List ℕ) (unchanged : ℕ → Type 0) (row_is : (i : ℕ) → i < count → slice_index row i ≡ slice_index (spell (image_in sizes room)) (from + i))
    (same : (i : ℕ) → i < count → unchanged i → slice_index new i ≡ slice_index row i) where
  row_held : (i : ℕ) → i < count → word_held sizes own room.of (from + i) ≡ slice_index row i
  row_held i below =
      sym (held_index sizes own.held.items room.of (from + i) (omega arith)) ∙ ap (λ (ws : List ℕ). slice_index ws (from + i)) (sym copy) ∙ sym (row_is i below)

  pub row_already : (alike : ℕ → Type 0) → BuffersAgree sizes own from count alike → length new ≡ count → SpareHas sizes own from new (λ i. alike i × unchanged i)
  row_already alike are long i within both =
      one_and_other (λ k. word_held sizes own k (from + i)) own.spare room.of which of (are i (omega arith) both.0)
      ∙ row_held i (omega arith) ∙ sym (same i (omega arith) both.1)

  pub row_alike : (own1 : Buffers) (words : List ℕ) → length own.held.items ≡ 2 * buffer_words sizes → length words ≡ buffer_words sizes
      → own1.held.items ≡ with_row own.held.items (held_place sizes own.spare 0) words → ((i : ℕ) → i < count → slice_index words (from + i) ≡ slice_index new i)
      → BuffersAgree sizes own1 from count unchanged
  row_alike own1 words long whole written there i below stays =
      let other = 1 - own.spare in
      let one : word_held sizes own1 own.spare (from + i) ≡ slice_index row i
      = ap (λ (xs : List ℕ). slice_index xs (held_place sizes own.spare (from + i))) written
      ∙ written_there sizes own.held.items words own.spare which long whole (from + i) (omega arith) ∙ there i below ∙ same i below stays in
      let two : word_held sizes own1 other (from + i) ≡ slice_index row i
      = ap (λ (xs : List ℕ). slice_index xs (held_place sizes other (from + i))) written
      ∙ other_stays sizes own.held.items words own.spare which long whole other (from + i) refl (omega arith)
      ∙ (λ k. word_held sizes own (sym of k) (from + i)) ∙ row_held i below in
      first_and_second (λ k. word_held sizes own1 k (from + i)) own.spare other which refl (one ∙ sym two)

-- a row that the spare buffer has already, after a row before it is written
pub already_later : (sizes : Sizes) (own own1 : Buffers) (from : ℕ) (row : List ℕ) → own1.spare ≡ own.spare → own1.held.items ≡ with_row own.held.items (held_place sizes own.spare from) row
    → (at : ℕ) (later : List ℕ) (holds : ℕ → Type 0) → from + length row ≤ at → SpareHas sizes own at later holds → SpareHas sizes own1 at later holds
already_later sizes own own1 from row spare written at later holds after already i within here =
    (λ k. slice_index (written k) (held_place sizes (spare k) (at + i)))
    ∙ with_row-after own.held.items (held_place sizes own.spare from) row (held_place sizes own.spare (at + i)) (omega arith) ∙ already i within here

-- where all words may be touched, or the rows of all processes, nothing is known of a word
pub nothing_untouched : (touched : Touched) → touched ≡ everything → (i : ℕ) → i < 18446744073709551615 → IsUntouched touched i → ⊥
nothing_untouched touched all i below untouched = let h = (subst (λ t. IsUntouched t i) all untouched).0 in omega (arith, below, h)

pub nothing_outside : (calls : Span) (processes wide i : ℕ) → calls ≡ record { from = 0; to = processes } → i < processes * wide → IsOutsideRows calls wide i → ⊥
nothing_outside calls processes wide i all below outside =
    let is : IsOutsideRows (record { from = 0; to = processes }) wide i = subst (λ (c : Span). IsOutsideRows c wide i) all outside in
    elim is [ inl sooner ↦ (let z : 0 * wide ≡ 0 = omega arith in omega (arith, sooner, z)) | inr after ↦ omega (arith, after, below) ]

-- at first nothing is known of the copy, and both buffers may be apart everywhere
pub kept_afresh : (sizes : Sizes) (own : Buffers) (room : Room) → room.of ≡ 2 → own.apart ≡ all_changes sizes.processes → AreFew sizes → IsKept sizes own room
kept_afresh sizes own room of apart few =
    let calls = ap (λ (c : Changes). c.calls) apart in
    let w = few.2 in
    record {
      copy = λ one. absurd (omega arith);
      ordered = (let f = ap (λ (s : Span). s.from) calls in omega (arith, f));
      inside = (let t = ap (λ (s : Span). s.to) calls in omega (arith, t));
      applied = λ i inside outside. absurd (nothing_outside own.apart.calls sizes.processes 1 i calls (omega arith) outside);
      reply = λ i inside outside. absurd (nothing_outside own.apart.calls sizes.processes sizes.reply i calls inside outside);
      state = λ i inside untouched. absurd (nothing_untouched own.apart.state (ap (λ (c : Changes). c.state) apart) i (omega arith) untouched);
    }
