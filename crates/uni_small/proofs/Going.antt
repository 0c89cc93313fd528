-- Seats that go on with a call.
use Rattle.uni_small.proofs.Vocabulary.{AreApplied, AreBuffers, Bool, Buffers, Goes, GoesBy, Image, IsLeft, IsOf, List, Me, None, Option, Reading, Seen, Sequential, Sizes, Some, Stage, View, WritesWithin, [], ap, arith, begun, buffer_in, false, goes, inl, inr, length, local_of, looked, nat_le, number_cases, refl, slice_index, slice_set, stage_of, subst, sym, true, went, with_local, with_seen, words_held, wrote, ℕ, ◌%◌, ◌++◌, ◌+◌, ◌/◌, ◌<◌, ◌∙◌, ◌∷◌, ◌≡◌, ◌≤◌, ◌⊎◌, HasComeTo, Ready, Writing, Idle, Last, written_to, with_row, spell, buffer_words, held_place, lt_cases, ⊎_elim, ◌*◌, ◌-◌, IsAnnounced, read_then, recalls, rests, version_in, confirms, after_read}
use Rattle.uni_small.proofs.Vocabulary.{ReadsWithin, after_read, begins_directly, confirms, if◌then◌else◌, version_in, ◌==◌}
use Rattle.std.proofs.lemmas.Bool.Decides.{nat_tests}
use Rattle.uni_small.proofs.Rows.{with_row-before, with_row-index}

pub add_assoc : (x y z : ℕ) → x + y + z ≡ x + (y + z)
add_assoc x y z = omega arith

module _ {O : Type 0} (me : Me Seen (View O)) where
  pub goes_zero : (st : Stage) → stage_of me ≡ st → GoesBy me 0 st me
  goes_zero st e =
      let same : (local_of me).steps ≡ (local_of me).steps + 0 = omega arith in
      λ k. (with_local me.0 (record (local_of me) { stage = e k; steps = same k }), me.1)

  module _ (me1 : Me Seen (View O)) (a : ℕ) (st : Stage) (first : GoesBy me a st me1) where
    pub stage_after : stage_of me1 ≡ st
    stage_after = ap (λ (m : Me Seen (View O)). stage_of m) first

    pub own_after : (local_of me1).own ≡ (local_of me).own
    own_after = ap (λ (m : Me Seen (View O)). (local_of m).own) first

    pub spare_after : (local_of me1).spare ≡ (local_of me).spare
    spare_after = ap (λ (m : Me Seen (View O)). (local_of m).spare) first

    pub held_after : (local_of me1).held ≡ (local_of me).held
    held_after = ap (λ (m : Me Seen (View O)). (local_of m).held) first

    pub of_after : {o : O} {sizes : Sizes} {p : ℕ} → IsOf o sizes p me → IsOf o sizes p me1
    of_after {o} {sizes} {p} of = subst (λ (m : Me Seen (View O)). IsOf o sizes p m) (sym first) (record { object = of.object; sizes = of.sizes; first = of.first; alone = of.alone })

    pub goes_on : (me2 : Me Seen (View O)) (st2 : Stage) → Goes me1 st2 me2 → GoesBy me (a + 1) st2 me2
    goes_on me2 st2 next =
        let here : (with_local me1.0 (goes (local_of me1) st2), me1.1) ≡ (with_local me.0 (goes (went (local_of me) a st) st2), me.1)
        = ap (λ (m : Me Seen (View O)). (with_local m.0 (goes (local_of m) st2), m.1)) first in
        let count : (local_of me).steps + a + 1 ≡ (local_of me).steps + (a + 1) = add_assoc (local_of me).steps a 1 in
        next ∙ here ∙ (λ k. (with_local me.0 (record (local_of me) { stage = st2; steps = count k }), me.1))

    pub goes_more : (me2 : Me Seen (View O)) (b : ℕ) (st2 : Stage) → GoesBy me1 b st2 me2 → GoesBy me (a + b) st2 me2
    goes_more me2 b st2 next =
        let here : (with_local me1.0 (went (local_of me1) b st2), me1.1) ≡ (with_local me.0 (went (went (local_of me) a st) b st2), me.1)
        = ap (λ (m : Me Seen (View O)). (with_local m.0 (went (local_of m) b st2), m.1)) first in
        let count : (local_of me).steps + a + b ≡ (local_of me).steps + (a + b) = add_assoc (local_of me).steps a b in
        next ∙ here ∙ (λ k. (with_local me.0 (record (local_of me) { stage = st2; steps = count k }), me.1))

-- what an attempt has of a buffer of its own when it begins, and of another one
pub begun_own : (sizes : Sizes) (p : ℕ) (held : List ℕ) (s : ℕ) → buffer_in s / 2 ≡ p → begun sizes p held s ≡ words_held sizes held (buffer_in s % 2)
begun_own sizes p held s own = elim (number_cases (buffer_in s / 2) p) [ inl h ↦ rw h.1 refl | inr h ↦ absurd (h.0 own) ]

-- where an announcement is as the copy has it, and where it isn't
le_cases : (q p : ℕ) → ((q ≤ p) × (nat_le q p ≡ true)) ⊎ ((p < q) × (nat_le q p ≡ false))
le_cases q p = by_test (nat_le q p) refl where
  by_test : (b : Bool) → nat_le q p ≡ b → ((q ≤ p) × (nat_le q p ≡ true)) ⊎ ((p < q) × (nat_le q p ≡ false))
  by_test true e = inl (grind (arith, nat_tests, e), e)
  by_test false e = inr (grind (arith, nat_tests, e), e)

pub looked_same : (copy : List ℕ) (r found : ℕ) → found ≤ slice_index copy r → looked copy r found ≡ None
looked_same copy r found few = elim (le_cases found (slice_index copy r)) [ inl h ↦ rw h.1 refl | inr h ↦ absurd (let m = h.0 in omega (arith, few)) ]

pub looked_other : (copy : List ℕ) (r found : ℕ) → slice_index copy r < found → looked copy r found ≡ Some []
looked_other copy r found more = elim (le_cases found (slice_index copy r)) [ inl h ↦ absurd (let m = h.0 in omega (arith, more)) | inr h ↦ rw h.1 refl ]

-- what was seen is applied one by one
pub with_seen-cons : (object : Sequential (List ℕ) (List ℕ) (List ℕ)) (image : Image) (r : ℕ) (o : Option (List ℕ)) (seen : List (Option (List ℕ))) → with_seen object image r (o ∷ seen) ≡ with_seen object (with_seen object image r (o ∷ [])) (r + 1) seen
with_seen-cons object image r None seen = refl
with_seen-cons object image r (Some inv) seen = refl

module _ {O : Type 0} (me me1 me2 : Me Seen (View O)) (a tries s : ℕ) where
  -- one more row is copied
  pub copied_more : (copy row : List ℕ) → GoesBy me a (Reading tries s copy []) me1
      → ((copy : List ℕ) → stage_of me1 ≡ Reading tries s copy [] → GoesBy me1 (length row) (Reading tries s (copy ++ row) []) me2)
      → GoesBy me (a + length row) (Reading tries s (copy ++ row) []) me2
  copied_more copy row first next = goes_more me me1 a (Reading tries s copy []) first me2 (length row) (Reading tries s (copy ++ row) []) (next copy (stage_after me me1 a (Reading tries s copy []) first))

-- what was written last tells how far it has come
written_twice : (stage : Stage) (a b : ℕ) → written_to (written_to stage a) b ≡ written_to stage b
written_twice (Idle stored) a b = refl
written_twice (Ready tries) a b = refl
written_twice (Reading tries s copy seen) a b = refl
written_twice (Writing tries s image seen written) a b = refl
written_twice (Last s loaded) a b = refl

-- words that are right before a row are so with it
written_row : (held : List ℕ) (at from : ℕ) (row wanted : List ℕ) → at + from + length row ≤ length held → ((i : ℕ) → i < from → slice_index held (at + i) ≡ slice_index wanted i)
    → ((i : ℕ) → i < length row → slice_index row i ≡ slice_index wanted (from + i)) → (i : ℕ) → i < from + length row → slice_index (with_row held (at + from) row) (at + i) ≡ slice_index wanted i
written_row held at from row wanted room before words i below = ⊎_elim
    (λ first. with_row-before held (at + from) row (at + i) (omega (arith, first.0)) ∙ before i first.0)
    (λ later.
    let j : ℕ = i - from in
    let is : i ≡ from + j = omega (arith, later.0) in
    let inside : j < length row = omega (arith, later.0, below) in
    let place : at + i ≡ at + from + j = omega (arith, is) in
    ap (slice_index (with_row held (at + from) row)) place ∙ with_row-index held (at + from) row j inside room ∙ words j inside ∙ ap (slice_index wanted) (sym is))
    (lt_cases i from)

-- a seat that has stored nothing, and one that knows its buffers' words by another name
pub writes_nothing : {O : Type 0} (me : Me Seen (View O)) (held : List ℕ) (from tries s written : ℕ) (image : Image) (seen : List (Option (List ℕ))) → stage_of me ≡ Writing tries s image seen written → written ≤ from
    → (local_of me).held ≡ held → WritesWithin me from 0 held me
writes_nothing me held from tries s written image seen at few is =
    let stage : stage_of me ≡ written_to (stage_of me) written = at ∙ sym (ap (λ z. written_to z written) at) in
    let same : (local_of me).steps ≡ (local_of me).steps + 0 = omega arith in
    (0, (let z : 0 ≤ 0 = omega arith in z), written, omega (arith, few), λ k. (with_local me.0 (record (local_of me) { stage = stage k; held = is k; steps = same k }), me.1))

-- a seat that has stored words of its spare buffer
module _ {O : Type 0} (me me1 : Me Seen (View O)) (from most : ℕ) (held : List ℕ) (first : WritesWithin me from most held me1) where
  pub writes_stage : (tries s written : ℕ) (image : Image) (seen : List (Option (List ℕ))) → stage_of me ≡ Writing tries s image seen written → stage_of me1 ≡ Writing tries s image seen first.2
  writes_stage tries s written image seen at = ap (λ (m : Me Seen (View O)). stage_of m) first.4 ∙ ap (λ z. written_to z first.2) at

  pub writes_of : {o : O} {sizes : Sizes} {p : ℕ} → IsOf o sizes p me → IsOf o sizes p me1
  writes_of {o} {sizes} {p} of = subst (λ (m : Me Seen (View O)). IsOf o sizes p m) (sym first.4) (record { object = of.object; sizes = of.sizes; first = of.first; alone = of.alone })

  -- its buffers are as known, where it knew them
  pub writes_buffers : (sizes : Sizes) (own own1 : Buffers) → AreBuffers sizes (local_of me) own → own1.spare ≡ own.spare → own1.held.items ≡ held → length held ≡ length own.held.items → AreBuffers sizes (local_of me1) own1
  writes_buffers sizes own own1 are same is long = record {
    spare = ap (λ (m : Me Seen (View O)). (local_of m).spare) first.4 ∙ are.spare ∙ sym same;
    which = (let w = are.which in omega arith);
    held = ap (λ (m : Me Seen (View O)). (local_of m).held) first.4 ∙ sym is;
    long = ap (λ (l : List ℕ). length l) is ∙ long ∙ are.long;
  }

  -- and stores one more, or none
  pub writes_one : (me2 : Me Seen (View O)) (place x : ℕ) → IsLeft me1 (wrote (local_of me1) (from + most) place x) me2 → WritesWithin me from (most + 1) (slice_set held place x) me2
  writes_one me2 place x next =
      let count : (local_of me).steps + first.0 + 1 ≡ (local_of me).steps + (first.0 + 1) = add_assoc (local_of me).steps first.0 1 in (
        first.0 + 1,
        (let a = first.1 in omega arith),
        from + most + 1,
        omega arith,
        next ∙ ap (λ (m : Me Seen (View O)). (with_local m.0 (wrote (local_of m) (from + most) place x), m.1)) first.4
            ∙ (λ k. (with_local me.0 (record (local_of me) { stage = written_twice (stage_of me) first.2 (from + most + 1) k; held = slice_set held place x; steps = count k }), me.1)),
      )

  pub writes_none : WritesWithin me from (most + 1) held me1
  writes_none = (first.0, (let a = first.1 in omega arith), first.2, (let b = first.3 in omega arith), first.4)

  -- and stores more
  pub writes_more : (me2 : Me Seen (View O)) (more : ℕ) (held2 : List ℕ) → WritesWithin me1 (from + most) more held2 me2 → WritesWithin me from (most + more) held2 me2
  writes_more me2 more held2 next =
      let count : (local_of me).steps + first.0 + next.0 ≡ (local_of me).steps + (first.0 + next.0) = add_assoc (local_of me).steps first.0 next.0 in (
        first.0 + next.0,
        (let a = first.1 in let b = next.1 in omega arith),
        next.2,
        (let c = next.3 in omega arith),
        next.4 ∙ ap (λ (m : Me Seen (View O)). (with_local m.0 (record (local_of m) { stage = written_to (stage_of m) next.2; held = held2; steps = (local_of m).steps + next.0 }), m.1)) first.4
            ∙ (λ k. (with_local me.0 (record (local_of me) { stage = written_twice (stage_of me) first.2 next.2 k; held = held2; steps = count k }), me.1)),
      )

-- whether an attempt is direct stays
pub direct_after : {O : Type 0} (me me1 : Me Seen (View O)) (a : ℕ) (st : Stage) → GoesBy me a st me1 → (local_of me1).direct ≡ (local_of me).direct
direct_after me me1 a st first = ap (λ (m : Me Seen (View _)). (local_of m).direct) first

pub writes_direct : {O : Type 0} (me me1 : Me Seen (View O)) (from most : ℕ) (held : List ℕ) → WritesWithin me from most held me1 → (local_of me1).direct ≡ (local_of me).direct
writes_direct me me1 from most held first = ap (λ (m : Me Seen (View _)). (local_of m).direct) first.4

pub writes_own : {O : Type 0} (me me1 : Me Seen (View O)) (from most : ℕ) (held : List ℕ) → WritesWithin me from most held me1 → (local_of me1).own ≡ (local_of me).own
writes_own me me1 from most held first = ap (λ (m : Me Seen (View _)). (local_of m).own) first.4

-- and so does what is applied; and what was written before a row, and the row, is right
pub writes_come : {O : Type 0} (object : Sequential (List ℕ) (List ℕ) (List ℕ)) (sizes : Sizes) (me me1 : Me Seen (View O)) (from most : ℕ) (held row : List ℕ) (image : Image) (seen all : List (Option (List ℕ))) (written : ℕ)
    (first : WritesWithin me from most held me1) → length row ≡ most → held ≡ with_row (local_of me).held (held_place sizes (local_of me).spare from) row
    → held_place sizes (local_of me).spare from + most ≤ length (local_of me).held → HasComeTo object sizes me.0.known.first (local_of me) image seen all written from
    → ((i : ℕ) → i < most → slice_index row i ≡ slice_index (spell (with_seen object image 0 all)) (from + i))
    → HasComeTo object sizes me1.0.known.first (local_of me1) image seen all first.2 (from + most)
writes_come object sizes me me1 from most held row image seen all written first long is room come words = (
  subst (λ (m : Me Seen (View _)). AreApplied sizes (local_of m).direct m.0.known.first seen all) (sym first.4) come.0,
  first.3,
  (λ i below. ap (λ (m : Me Seen (View _)). slice_index (local_of m).held (held_place sizes (local_of m).spare i)) first.4
      ∙ ap (λ (h : List ℕ). slice_index h (held_place sizes (local_of me).spare i)) is
      ∙ written_row (local_of me).held ((local_of me).spare * buffer_words sizes) from row (spell (with_seen object image 0 all)) (omega (arith, long, room)) come.2
      (λ j inside. words j (omega (arith, long, inside))) i (omega (arith, long, below))),
)

-- a read from its first load to its last one
pub read_ends : {O : Type 0} (me me1 me2 me3 : Me Seen (View O)) (s again words most : ℕ) (first : List ℕ) (stage : Stage) (version : Option ℕ) (state : List ℕ)
    → IsLeft me (begins_directly (local_of me) s first) me1
    → words ≤ most → GoesBy me1 words stage me2 → IsLeft me2 (confirms (local_of me2) s state again) me3
    → (if again == s then version_in s else (local_of me).after) ≡ after_read (local_of me).after version
    → (if again == s then Some (record { version = version_in s; state = state }) else (local_of me).read) ≡ read_then (local_of me).read version state
    → ReadsWithin (most + 2) me version state me3
read_ends me me1 me2 me3 s again words most first stage version state began few copied ended found read =
    let l = local_of me in
    let count : l.steps + 1 + words + 1 ≡ l.steps + (words + 2) = omega arith in (
      words + 2,
      omega arith,
      omega (arith, few),
      ended
          ∙ ap (λ (m : Me Seen (View _)). (with_local m.0 (confirms (local_of m) s state again), m.1))
          (copied ∙ ap (λ (m : Me Seen (View _)). (with_local m.0 (went (local_of m) words stage), m.1)) began)
          ∙ (λ k. (with_local me.0 (record l { stage = Idle []; direct = false; after = found k; read = read k; steps = count k }), me.1)),
    )

-- where the version that was read isn't the present one, the seat is where it was
pub recalled_no : {O : Type 0} (me me1 : Me Seen (View O)) (version present : ℕ) → IsLeft me (recalls (local_of me) version present) me1 → (present ≡ version → ⊥)
    → IsLeft me (rests (local_of me)) me1
recalled_no me me1 version present left apart =
    let l = local_of me in
    let found : (if present == version then version else l.after) ≡ l.after = elim (number_cases present version) [ inl h ↦ absurd (apart h.0) | inr h ↦ rw h.1 refl ] in
    left ∙ (λ k. (with_local me.0 (record l { after = found k; steps = l.steps + 1 }), me.1))

-- and reads from there on
pub reads_after : {O : Type 0} (me me1 me2 : Me Seen (View O)) (most : ℕ) (version : Option ℕ) (state : List ℕ) → IsLeft me (rests (local_of me)) me1
    → ReadsWithin most me1 version state me2 → ReadsWithin (most + 1) me version state me2
reads_after me me1 me2 most version state rested (words, some, few, left) =
    let l = local_of me in
    let count : l.steps + 1 + words ≡ l.steps + (words + 1) = omega arith in (
      words + 1,
      omega arith,
      omega (arith, few),
      left
          ∙ ap (λ (m : Me Seen (View _)). (
            with_local m.0 (record (local_of m) {
              stage = Idle [];
              direct = false;
              after = after_read (local_of m).after version;
              read = read_then (local_of m).read version state;
              steps = (local_of m).steps + words;
            }),
            m.1,
          )) rested
          ∙ (λ k. (
            with_local me.0 (record l {
              stage = Idle [];
              direct = false;
              after = after_read l.after version;
              read = read_then l.read version state;
              steps = count k;
            }),
            me.1,
          )),
    )
