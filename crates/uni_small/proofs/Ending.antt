-- How an attempt goes on after its check, and how a call ends.
use Rattle.uni_small.proofs.Vocabulary.{AreBuffers, Buffers, CallEnds, EndsWithin, Goes, GoesBy, HasRows, Idle, Image, IsAnnounced, IsDirect, IsEnd, IsGood, IsLeft, IsOf, Last, List, Local, Me, Meaning, None, Option, Reading, Ready, ReplyEnds, Returned, Seen, Sizes, Some, Stage, TriesWithin, View, WritesWithin, Writing, [], announced_steps, announces, ap, arith, attempt_steps, begins_directly, brings, brings_own, brought, brought_own, buffer_in, buffer_words, call_steps, checked, checked_own, end_of, false, goes, inl, inr, length, local_of, number_cases, read_image, refl, returns, slice_index, spell, stage_of, subst, sym, tried_directly, true, version_in, went, with_local, ℕ, ◌*◌, ◌++◌, ◌+◌, ◌-◌, ◌<◌, ◌∙◌, ◌∷◌, ◌≡◌, ◌≢◌, ◌≤◌}
use Rattle.std.proofs.Math.Nat.{add-mul, mul_assoc, mul_comm}
use Rattle.uni_small.proofs.Going.{add_assoc, stage_after, own_after, spare_after, held_after, goes_on}
use Rattle.uni_small.proofs.Images.{read-spell, spell-applied}

checked_failed : (sizes : Sizes) (p made tries s : ℕ) (copy : List ℕ) (seen : List (Option (List ℕ))) (found : ℕ) → found ≢ s → checked sizes p made tries s copy seen found ≡ Ready (tries + 1)
checked_failed sizes p made tries s copy seen found apart = elim (number_cases found s) [ inl h ↦ absurd (apart h.0) | inr h ↦ rw h.1 refl ]

checked_in : (sizes : Sizes) (p made tries s : ℕ) (copy : List ℕ) (seen : List (Option (List ℕ))) (found : ℕ) → found ≡ s → slice_index copy p ≡ made → checked sizes p made tries s copy seen found ≡ Last s []
checked_in sizes p made tries s copy seen found same own = elim (number_cases found s) [
  | inl h ↦ elim (number_cases (slice_index copy p) made) [ inl k ↦ rw (h.1, k.1) refl | inr k ↦ absurd (k.0 own) ]
  | inr h ↦ absurd (h.0 same)
]

checked_on : (sizes : Sizes) (p made tries s : ℕ) (copy : List ℕ) (seen : List (Option (List ℕ))) (found : ℕ) → found ≡ s → slice_index copy p ≢ made → checked sizes p made tries s copy seen found ≡ Writing tries s (read_image sizes copy) seen 0
checked_on sizes p made tries s copy seen found same other = elim (number_cases found s) [
  | inl h ↦ elim (number_cases (slice_index copy p) made) [ inl k ↦ absurd (other k.0) | inr k ↦ rw (h.1, k.1) refl ]
  | inr h ↦ absurd (h.0 same)
]

-- one change of a local after another
pub left_more : {O : Type 0} (me me1 me2 : Me Seen (View O)) (F : Local → Local) (x : Local) → IsLeft me x me1 → IsLeft me1 (F (local_of me1)) me2 → IsLeft me (F x) me2
left_more me me1 me2 F x first next = next ∙ ap (λ m. (with_local m.0 (F (local_of m)), m.1)) first

module _ {O : Type 0} (meaning : Meaning) (sizes : Sizes) (p tries s words : ℕ) (image : Image) (rows : HasRows sizes image) (inside : p < sizes.processes) (seen : List (Option (List ℕ))) (me me1 me2 : Me Seen (View O))
    (first : GoesBy me words (Reading tries s (spell image) seen) me1) (again : ℕ)
    (told : (copy : List ℕ) (seen : List (Option (List ℕ))) → stage_of me1 ≡ Reading tries s copy seen
    → Goes me1 (checked sizes p (length (local_of me1).own + 1) tries s copy seen again) me2 × (again ≡ s → IsGood meaning sizes (read_image sizes copy))) where
  at : stage_of me1 ≡ Reading tries s (spell image) seen
  at = stage_after me me1 words (Reading tries s (spell image) seen) first

  own_is : length (local_of me1).own + 1 ≡ length (local_of me).own + 1
  own_is = ap (λ (l : List Returned). length l + 1) (own_after me me1 words (Reading tries s (spell image) seen) first)

  next : (stage : Stage) → checked sizes p (length (local_of me1).own + 1) tries s (spell image) seen again ≡ stage → GoesBy me (words + 1) stage me2
  next stage is = goes_on me me1 words (Reading tries s (spell image) seen) first me2 stage (subst (λ st. Goes me1 st me2) is (told (spell image) seen at).0)

  pub fails : again ≢ s → GoesBy me (words + 1) (Ready (tries + 1)) me2
  fails apart = next (Ready (tries + 1)) (checked_failed sizes p (length (local_of me1).own + 1) tries s (spell image) seen again apart)

  pub is_in : again ≡ s → slice_index image.applied p ≡ length (local_of me).own + 1 → GoesBy me (words + 1) (Last s []) me2
  is_in same own = next (Last s []) (checked_in sizes p (length (local_of me1).own + 1) tries s (spell image) seen again same (spell-applied sizes image rows p inside ∙ own ∙ sym own_is))

  pub goes_in : again ≡ s → slice_index image.applied p ≢ length (local_of me).own + 1 → GoesBy me (words + 1) (Writing tries s image seen 0) me2
  goes_in same other = subst (λ i. GoesBy me (words + 1) (Writing tries s i seen 0) me2) (read-spell sizes image rows)
      (next (Writing tries s (read_image sizes (spell image)) seen 0) (checked_on sizes p (length (local_of me1).own + 1) tries s (spell image) seen again same (λ own. other (sym (spell-applied sizes image rows p inside) ∙ own ∙ own_is))))

  pub good : again ≡ s → IsGood meaning sizes image
  good same = subst (IsGood meaning sizes) (read-spell sizes image rows) ((told (spell image) seen at).1 same)

module _ {O : Type 0} (sizes : Sizes) (tries words : ℕ) (stage : Stage) (own : Buffers) (me me1 : Me Seen (View O)) (first : GoesBy me words stage me1) (are : AreBuffers sizes (local_of me) own) where
  -- the process's buffers stay
  pub buffers_stay : AreBuffers sizes (local_of me1) own
  buffers_stay = record {
    spare = spare_after me me1 words stage first ∙ are.spare;
    which = are.which;
    held = held_after me me1 words stage first ∙ are.held;
    long = are.long;
  }

  -- the attempt has ended before anything was written
  pub ends_here : (most : ℕ) (ended : Option ℕ) → words ≤ most → IsEnd sizes ended → stage ≡ end_of tries ended → EndsWithin sizes most tries me ended own me1
  ends_here most ended few named is =
      (words, few, named, first ∙ (λ k. (with_local me.0 (record (local_of me) { stage = is k; spare = are.spare k; held = are.held k; steps = (local_of me).steps + words }), me.1)))

  -- it ends later
  pub ends_later : (me2 : Me Seen (View O)) (later most : ℕ) (ended : Option ℕ) (own2 : Buffers) → EndsWithin sizes later tries me1 ended own2 me2 → words + later ≤ most → EndsWithin sizes most tries me ended own2 me2
  ends_later me2 later most ended own2 h few =
      let count : (local_of me).steps + words + h.0 ≡ (local_of me).steps + (words + h.0) = add_assoc (local_of me).steps words h.0 in (
        words + h.0,
        (let a = h.1 in omega arith),
        h.2,
        left_more me me1 me2 (λ l. record l { stage = end_of tries ended; spare = own2.spare; held = own2.held.items; steps = l.steps + h.0 }) (went (local_of me) words stage) first h.3
            ∙ (λ k. (with_local me.0 (record (local_of me) { stage = end_of tries ended; spare = own2.spare; held = own2.held.items; steps = count k }), me.1)),
      )

-- the exchange by which an image is brought in, or isn't
brought_missed : (l : Local) (tries s new found : ℕ) → found ≢ s → brought l tries s new found ≡ goes l (Ready (tries + 1))
brought_missed l tries s new found apart = elim (number_cases found s) [ inl h ↦ absurd (apart h.0) | inr h ↦ rw h.1 refl ]

brought_hit : (l : Local) (tries s new found : ℕ) → found ≡ s → brought l tries s new found ≡ brings l new
brought_hit l tries s new found same = elim (number_cases found s) [ inl h ↦ rw h.1 refl | inr h ↦ absurd (h.0 same) ]

module _ {O : Type 0} (sizes : Sizes) (most tries s new found : ℕ) (own : Buffers) (me me1 me2 : Me Seen (View O)) (first : WritesWithin me 0 most own.held.items me1) (spare_is : (local_of me).spare ≡ own.spare)
    (next : IsLeft me1 (brought (local_of me1) tries s new found) me2) where
  count : (local_of me).steps + first.0 + 1 ≡ (local_of me).steps + (first.0 + 1)
  count = add_assoc (local_of me).steps first.0 1

  pub bring_fails : found ≢ s → EndsWithin sizes (most + 1) tries me None own me2
  bring_fails apart = (
    first.0 + 1,
    (let a = first.1 in omega arith),
    tt,
    next ∙ ap (λ l. (with_local me1.0 l, me1.1)) (brought_missed (local_of me1) tries s new found apart)
        ∙ ap (λ (m : Me Seen (View O)). (with_local m.0 (goes (local_of m) (Ready (tries + 1))), m.1)) first.4
        ∙ (λ k. (with_local me.0 (record (local_of me) { stage = Ready (tries + 1); spare = spare_is k; held = own.held.items; steps = count k }), me.1)),
  )

  pub bring_hits : found ≡ s → buffer_in new < 2 * sizes.processes → EndsWithin sizes (most + 1) tries me (Some new) (record own { spare = 1 - own.spare }) me2
  bring_hits same named = (
    first.0 + 1,
    (let a = first.1 in omega arith),
    named,
    next ∙ ap (λ l. (with_local me1.0 l, me1.1)) (brought_hit (local_of me1) tries s new found same)
        ∙ ap (λ (m : Me Seen (View O)). (with_local m.0 (brings (local_of m) new), m.1)) first.4
        ∙ (λ k. (with_local me.0 (record (local_of me) { stage = Last new []; spare = 1 - spare_is k; held = own.held.items; steps = count k }), me.1)),
  )

-- what is known of the buffers when an attempt has ended
pub buffers_at_end : {O : Type 0} (sizes : Sizes) (most tries : ℕ) (ended : Option ℕ) (own : Buffers) (me me1 : Me Seen (View O)) → EndsWithin sizes most tries me ended own me1 → own.spare ≤ 1
    → length own.held.items ≡ 2 * buffer_words sizes → AreBuffers sizes (local_of me1) own
buffers_at_end sizes most tries ended own me me1 h either long = record {
  spare = ap (λ (m : Me Seen (View _)). (local_of m).spare) h.3;
  which = either;
  held = ap (λ (m : Me Seen (View _)). (local_of m).held) h.3;
  long = long;
}

-- the most steps of a call, added up
pub steps_are : (sizes : Sizes) → announced_steps sizes ≡ 2 * attempt_steps sizes + sizes.invocation + sizes.reply + 2
steps_are sizes =
    let a : (6 + 2 * sizes.invocation + 4 * sizes.reply) * sizes.processes ≡ (6 + 2 * sizes.invocation) * sizes.processes + 4 * sizes.reply * sizes.processes = add-mul (6 + 2 * sizes.invocation) (4 * sizes.reply) sizes.processes in
    let b : (6 + 2 * sizes.invocation) * sizes.processes ≡ 6 * sizes.processes + 2 * sizes.invocation * sizes.processes = add-mul 6 (2 * sizes.invocation) sizes.processes in
    let c : 2 * sizes.invocation * sizes.processes ≡ 2 * (sizes.invocation * sizes.processes) = mul_assoc 2 sizes.invocation sizes.processes in
    let d : 4 * sizes.reply * sizes.processes ≡ 4 * (sizes.reply * sizes.processes) = mul_assoc 4 sizes.reply sizes.processes in
    let e : sizes.invocation * sizes.processes ≡ sizes.processes * sizes.invocation = mul_comm sizes.invocation sizes.processes in
    let f : sizes.reply * sizes.processes ≡ sizes.processes * sizes.reply = mul_comm sizes.reply sizes.processes in
    omega arith

-- a call from its first store to its reply
module _ {O : Type 0} (sizes : Sizes) (inv reply : List ℕ) (version : ℕ) (me me1 me2 : Me Seen (View O)) (stored : GoesBy me sizes.invocation (Idle inv) me1) (announced : IsLeft me1 (announces (local_of me1) inv) me2) where
  begun : IsLeft me (announces (went (local_of me) sizes.invocation (Idle inv)) inv) me2
  begun = left_more me me1 me2 (λ l. announces l inv) (went (local_of me) sizes.invocation (Idle inv)) stored announced

  -- the reply is read in the buffer that s names
  abbrev HasEnded : (s : ℕ) → Me Seen (View O) → Me Seen (View O) → Type 0
  HasEnded s me3 me4 = ReplyEnds me3 s reply sizes.reply me4 × (version ≡ version_in s) × ((local_of me3).after < version_in s)

  ends : (s words : ℕ) (own : Buffers) (me3 me4 : Me Seen (View O)) → words + (sizes.invocation + sizes.reply + 1) ≤ announced_steps sizes
      → IsLeft me2 (record (local_of me2) { stage = Last s []; spare = own.spare; held = own.held.items; steps = (local_of me2).steps + words }) me3
      → HasEnded s me3 me4 → CallEnds (announced_steps sizes) (length (local_of me).own + 1) me inv reply version own me4
  ends s words own me3 me4 few there returned =
      let a = left_more me me2 me3 (λ l. record l { stage = Last s []; spare = own.spare; held = own.held.items; steps = l.steps + words }) (announces (went (local_of me) sizes.invocation (Idle inv)) inv) begun there in
      let b = left_more me me3 me4 (λ l. record (returns l s reply) { steps = l.steps + sizes.reply })
      (record (announces (went (local_of me) sizes.invocation (Idle inv)) inv) { stage = Last s []; spare = own.spare; held = own.held.items; steps = (local_of me).steps + sizes.invocation + 1 + words }) a returned.0 in
      let count : (local_of me).steps + sizes.invocation + 1 + words + sizes.reply ≡ (local_of me).steps + (words + (sizes.invocation + sizes.reply + 1)) = omega (arith) in
      let same : (local_of me3).after ≡ (local_of me).after = ap (λ (m : Me Seen (View O)). (local_of m).after) a in
      subst (λ v. CallEnds (announced_steps sizes) (length (local_of me).own + 1) me inv reply v own me4) (sym returned.1) (
        words + (sizes.invocation + sizes.reply + 1),
        few,
        subst (λ v. v < version_in s) same returned.2,
        b ∙ (λ k. (with_local me.0 (record (returns (record (local_of me) { inv = inv; told = length (local_of me).own + 1; spare = own.spare; held = own.held.items }) s reply) { steps = count k }), me.1)),
      )

  -- the first attempt ends it
  pub ends_first : (s : ℕ) (own : Buffers) (me3 me4 : Me Seen (View O)) → EndsWithin sizes (attempt_steps sizes) 0 me2 (Some s) own me3 → HasEnded s me3 me4 → CallEnds (announced_steps sizes) (length (local_of me).own + 1) me inv reply version own me4
  ends_first s own me3 me4 h returned = ends s h.0 own me3 me4 (let f = h.1 in let e = steps_are sizes in omega arith) h.3 returned

  -- the second one does
  pub ends_second : (s : ℕ) (own0 own : Buffers) (me3 me4 me5 : Me Seen (View O)) → EndsWithin sizes (attempt_steps sizes) 0 me2 None own0 me3 → EndsWithin sizes (attempt_steps sizes) 1 me3 (Some s) own me4 → HasEnded s me4 me5
      → CallEnds (announced_steps sizes) (length (local_of me).own + 1) me inv reply version own me5
  ends_second s own0 own me3 me4 me5 failed h returned =
      let a = left_more me2 me3 me4 (λ l. record l { stage = Last s []; spare = own.spare; held = own.held.items; steps = l.steps + h.0 })
      (record (local_of me2) { stage = Ready 1; spare = own0.spare; held = own0.held.items; steps = (local_of me2).steps + failed.0 }) failed.3 h.3 in
      let count : (local_of me2).steps + failed.0 + h.0 ≡ (local_of me2).steps + (failed.0 + h.0) = omega (arith) in
      ends s (failed.0 + h.0) own me4 me5 (let f = h.1 in let e = failed.1 in let q = steps_are sizes in omega arith)
      (a ∙ (λ k. (with_local me2.0 (record (local_of me2) { stage = Last s []; spare = own.spare; held = own.held.items; steps = count k }), me2.1))) returned

  -- both have failed
  pub ends_last : (s : ℕ) (own0 own : Buffers) (me3 me4 me5 me6 : Me Seen (View O)) → EndsWithin sizes (attempt_steps sizes) 0 me2 None own0 me3 → EndsWithin sizes (attempt_steps sizes) 1 me3 None own me4
      → Goes me4 (Last s []) me5 → HasEnded s me5 me6 → CallEnds (announced_steps sizes) (length (local_of me).own + 1) me inv reply version own me6
  ends_last s own0 own me3 me4 me5 me6 failed again turned returned =
      let a = left_more me2 me3 me4 (λ l. record l { stage = Ready 2; spare = own.spare; held = own.held.items; steps = l.steps + again.0 })
      (record (local_of me2) { stage = Ready 1; spare = own0.spare; held = own0.held.items; steps = (local_of me2).steps + failed.0 }) failed.3 again.3 in
      let b = left_more me2 me4 me5 (λ l. goes l (Last s []))
      (record (local_of me2) { stage = Ready 2; spare = own.spare; held = own.held.items; steps = (local_of me2).steps + failed.0 + again.0 }) a turned in
      let count : (local_of me2).steps + failed.0 + again.0 + 1 ≡ (local_of me2).steps + (failed.0 + again.0 + 1) = omega (arith) in
      ends s (failed.0 + again.0 + 1) own me5 me6 (let f = failed.1 in let e = again.1 in let q = steps_are sizes in omega arith)
      (b ∙ (λ k. (with_local me2.0 (record (local_of me2) { stage = Last s []; spare = own.spare; held = own.held.items; steps = count k }), me2.1))) returned

-- the check of a direct attempt, and its exchange
pub checked_own_failed : (sizes : Sizes) (s : ℕ) (copy : List ℕ) (seen : List (Option (List ℕ))) (found : ℕ) → found ≢ s → checked_own sizes s copy seen found ≡ Idle []
checked_own_failed sizes s copy seen found apart = elim (number_cases found s) [ inl h ↦ absurd (apart h.0) | inr h ↦ rw h.1 refl ]

pub checked_own_on : (sizes : Sizes) (s : ℕ) (copy : List ℕ) (seen : List (Option (List ℕ))) (found : ℕ) → found ≡ s → checked_own sizes s copy seen found ≡ Writing 0 s (read_image sizes copy) seen 0
checked_own_on sizes s copy seen found same = elim (number_cases found s) [ inl h ↦ rw h.1 refl | inr h ↦ absurd (h.0 same) ]

brought_own_missed : (l : Local) (s new : ℕ) (inv : List ℕ) (found : ℕ) → found ≢ s → brought_own l s new inv found ≡ goes l (Idle [])
brought_own_missed l s new inv found apart = elim (number_cases found s) [ inl h ↦ absurd (apart h.0) | inr h ↦ rw h.1 refl ]

brought_own_hit : (l : Local) (s new : ℕ) (inv : List ℕ) (found : ℕ) → found ≡ s → brought_own l s new inv found ≡ brings_own l new inv
brought_own_hit l s new inv found same = elim (number_cases found s) [ inl h ↦ rw h.1 refl | inr h ↦ absurd (h.0 same) ]

module _ {O : Type 0} (sizes : Sizes) (most s new found : ℕ) (inv : List ℕ) (own : Buffers) (me me1 me2 : Me Seen (View O)) (direct : (local_of me).direct ≡ true) (first : WritesWithin me 0 most own.held.items me1)
    (spare_is : (local_of me).spare ≡ own.spare) (next : IsLeft me1 (brought_own (local_of me1) s new inv found) me2) where
  own_count : (local_of me).steps + first.0 + 1 ≡ (local_of me).steps + (first.0 + 1)
  own_count = add_assoc (local_of me).steps first.0 1

  pub bring_own_fails : found ≢ s → TriesWithin sizes (most + 1) me inv None own me2
  bring_own_fails apart = (
    first.0 + 1,
    (let a = first.1 in omega arith),
    tt,
    next ∙ ap (λ l. (with_local me1.0 l, me1.1)) (brought_own_missed (local_of me1) s new inv found apart)
        ∙ ap (λ (m : Me Seen (View O)). (with_local m.0 (goes (local_of m) (Idle [])), m.1)) first.4
        ∙ (λ k. (with_local me.0 (record (local_of me) { stage = Idle []; direct = direct k; spare = spare_is k; held = own.held.items; steps = own_count k }), me.1)),
  )

  pub bring_own_hits : found ≡ s → buffer_in new < 2 * sizes.processes → TriesWithin sizes (most + 1) me inv (Some new) (record own { spare = 1 - own.spare }) me2
  bring_own_hits same named = (
    first.0 + 1,
    (let a = first.1 in omega arith),
    named,
    next ∙ ap (λ l. (with_local me1.0 l, me1.1)) (brought_own_hit (local_of me1) s new inv found same)
        ∙ ap (λ (m : Me Seen (View O)). (with_local m.0 (brings_own (local_of m) new inv), m.1)) first.4
        ∙ (λ k. (with_local me.0 (record (local_of me) { stage = Last new []; direct = direct k; inv = inv; spare = 1 - spare_is k; held = own.held.items; steps = own_count k }), me.1)),
  )

-- what is known of the buffers then
tried_spare : (l : Local) (inv : List ℕ) (ended : Option ℕ) (own : Buffers) (words : ℕ) → (tried_directly l inv ended own words).spare ≡ own.spare
tried_spare l inv None own words = refl
tried_spare l inv (Some s) own words = refl

tried_held : (l : Local) (inv : List ℕ) (ended : Option ℕ) (own : Buffers) (words : ℕ) → (tried_directly l inv ended own words).held ≡ own.held.items
tried_held l inv None own words = refl
tried_held l inv (Some s) own words = refl

pub buffers_tried : {O : Type 0} (sizes : Sizes) (most : ℕ) (inv : List ℕ) (ended : Option ℕ) (own : Buffers) (me me1 : Me Seen (View O)) → TriesWithin sizes most me inv ended own me1 → own.spare ≤ 1
    → length own.held.items ≡ 2 * buffer_words sizes → AreBuffers sizes (local_of me1) own
buffers_tried sizes most inv ended own me me1 h either long = record {
  spare = ap (λ (m : Me Seen (View _)). (local_of m).spare) h.3 ∙ tried_spare (local_of me) inv ended own h.0;
  which = either;
  held = ap (λ (m : Me Seen (View _)). (local_of m).held) h.3 ∙ tried_held (local_of me) inv ended own h.0;
  long = long;
}

-- once it is announced it is no direct one, and stays so
pub announced_after : {O : Type 0} (me me1 : Me Seen (View O)) (inv : List ℕ) → IsLeft me (announces (local_of me) inv) me1 → IsAnnounced me1
announced_after me me1 inv left = ap (λ (m : Me Seen (View _)). (local_of m).direct) left

pub ended_direct : {O : Type 0} (sizes : Sizes) (most tries : ℕ) (me : Me Seen (View O)) (ended : Option ℕ) (own : Buffers) (me1 : Me Seen (View O)) → EndsWithin sizes most tries me ended own me1 → (local_of me1).direct ≡ (local_of me).direct
ended_direct sizes most tries me ended own me1 h = ap (λ (m : Me Seen (View _)). (local_of m).direct) h.3

-- a call that a direct attempt brought in returns
pub directly_ends : {O : Type 0} (sizes : Sizes) (inv reply : List ℕ) (version : ℕ) (me me1 me2 : Me Seen (View O)) (s : ℕ) (own : Buffers) → TriesWithin sizes (attempt_steps sizes) me inv (Some s) own me1
    → ReplyEnds me1 s reply sizes.reply me2 → version ≡ version_in s → (local_of me1).after < version_in s
    → (told : ℕ) × CallEnds (call_steps sizes) told me inv reply version own me2
directly_ends sizes inv reply version me me1 me2 s own h returned is later =
    let b = left_more me me1 me2 (λ l. record (returns l s reply) { steps = l.steps + sizes.reply }) (tried_directly (local_of me) inv (Some s) own h.0) h.3 returned in
    let count : (local_of me).steps + h.0 + sizes.reply ≡ (local_of me).steps + (h.0 + sizes.reply) = add_assoc (local_of me).steps h.0 sizes.reply in
    let same : (local_of me1).after ≡ (local_of me).after = ap (λ (m : Me Seen (View _)). (local_of m).after) h.3 in (
      (local_of me).told,
      subst (λ v. CallEnds (call_steps sizes) (local_of me).told me inv reply v own me2) (sym is) (
        h.0 + sizes.reply,
        (let f = h.1 in omega arith),
        subst (λ v. v < version_in s) same later,
        b ∙ (λ k. (with_local me.0 (record (returns (record (local_of me) { inv = inv; spare = own.spare; held = own.held.items }) s reply) { steps = count k }), me.1)),
      ),
    )

-- a call that is announced after it
pub announced_ends : {O : Type 0} (sizes : Sizes) (inv reply : List ℕ) (version : ℕ) (me me1 me2 : Me Seen (View O)) (own0 own : Buffers) → TriesWithin sizes (attempt_steps sizes) me inv None own0 me1
    → CallEnds (announced_steps sizes) (length (local_of me1).own + 1) me1 inv reply version own me2 → (told : ℕ) × CallEnds (call_steps sizes) told me inv reply version own me2
announced_ends sizes inv reply version me me1 me2 own0 own h rest =
    let after : Local → Local = (λ l. record {
      stage = Idle [];
      direct = false;
      inv = inv;
      told = length l.own + 1;
      spare = own.spare;
      held = own.held.items;
      after = version;
      own = l.own ++ record { inv = inv; reply = reply; after = l.after; version = version } ∷ [];
      read = None;
      steps = l.steps + rest.0;
    }) in
    let b = left_more me me1 me2 after (tried_directly (local_of me) inv None own0 h.0) h.3 rest.3 in
    let count : (local_of me).steps + h.0 + rest.0 ≡ (local_of me).steps + (h.0 + rest.0) = add_assoc (local_of me).steps h.0 rest.0 in
    let same : (local_of me1).after ≡ (local_of me).after = ap (λ (m : Me Seen (View _)). (local_of m).after) h.3 in (
      length (local_of me).own + 1,
      (
        h.0 + rest.0,
        (let f = h.1 in let g = rest.1 in omega arith),
        subst (λ v. v < version) same rest.2,
        b ∙ (λ k. (with_local me.0 (record (after (local_of me)) { steps = count k }), me.1)),
      ),
    )

-- a direct attempt goes on after its check
module _ {O : Type 0} (meaning : Meaning) (sizes : Sizes) (s words : ℕ) (image : Image) (rows : HasRows sizes image) (seen : List (Option (List ℕ))) (me me1 me2 : Me Seen (View O))
    (first : GoesBy me words (Reading 0 s (spell image) seen) me1) (again : ℕ)
    (told : (copy : List ℕ) (seen : List (Option (List ℕ))) → stage_of me1 ≡ Reading 0 s copy seen
    → Goes me1 (checked_own sizes s copy seen again) me2 × (again ≡ s → IsGood meaning sizes (read_image sizes copy))) where
  own_at : stage_of me1 ≡ Reading 0 s (spell image) seen
  own_at = stage_after me me1 words (Reading 0 s (spell image) seen) first

  own_next : (stage : Stage) → checked_own sizes s (spell image) seen again ≡ stage → GoesBy me (words + 1) stage me2
  own_next stage is = goes_on me me1 words (Reading 0 s (spell image) seen) first me2 stage (subst (λ st. Goes me1 st me2) is (told (spell image) seen own_at).0)

  pub own_fails : again ≢ s → GoesBy me (words + 1) (Idle []) me2
  own_fails apart = own_next (Idle []) (checked_own_failed sizes s (spell image) seen again apart)

  pub own_goes_in : again ≡ s → GoesBy me (words + 1) (Writing 0 s image seen 0) me2
  own_goes_in same = subst (λ i. GoesBy me (words + 1) (Writing 0 s i seen 0) me2) (read-spell sizes image rows)
      (own_next (Writing 0 s (read_image sizes (spell image)) seen 0) (checked_own_on sizes s (spell image) seen again same))

  pub own_good : again ≡ s → IsGood meaning sizes image
  own_good same = subst (IsGood meaning sizes) (read-spell sizes image rows) ((told (spell image) seen own_at).1 same)

-- it ends, before anything was written or later
module _ {O : Type 0} (sizes : Sizes) (s words : ℕ) (copy inv : List ℕ) (stage : Stage) (me me1 me2 : Me Seen (View O)) (begins : IsLeft me (begins_directly (local_of me) s copy) me1) (first : GoesBy me1 words stage me2) where
  own_left : IsLeft me (went (begins_directly (local_of me) s copy) words stage) me2
  own_left = left_more me me1 me2 (λ l. went l words stage) (begins_directly (local_of me) s copy) begins first

  own_count_all : (more : ℕ) → (local_of me).steps + 1 + words + more ≡ (local_of me).steps + (1 + words + more)
  own_count_all more = omega arith

  pub tries_here : (own : Buffers) (most : ℕ) → AreBuffers sizes (local_of me) own → stage ≡ Idle [] → 1 + words ≤ most → TriesWithin sizes most me inv None own me2
  tries_here own most are is few =
      let count : (local_of me).steps + 1 + words ≡ (local_of me).steps + (1 + words) = add_assoc (local_of me).steps 1 words in (
        1 + words,
        few,
        tt,
        own_left ∙ (λ k. (with_local me.0 (record (local_of me) { stage = is k; direct = true; spare = are.spare k; held = are.held k; steps = count k }), me.1)),
      )

  pub tries_later : (me3 : Me Seen (View O)) (later most : ℕ) (ended : Option ℕ) (own : Buffers) → TriesWithin sizes later me2 inv ended own me3 → 1 + words + later ≤ most → TriesWithin sizes most me inv ended own me3
  tries_later me3 later most None own h few = (
    1 + words + h.0,
    (let a = h.1 in omega arith),
    tt,
    left_more me me2 me3 (λ l. tried_directly l inv None own h.0) (went (begins_directly (local_of me) s copy) words stage) own_left h.3
        ∙ (λ k. (with_local me.0 (record (local_of me) { stage = Idle []; direct = true; spare = own.spare; held = own.held.items; steps = own_count_all h.0 k }), me.1)),
  )
  tries_later me3 later most (Some t) own h few = (
    1 + words + h.0,
    (let a = h.1 in omega arith),
    h.2,
    left_more me me2 me3 (λ l. tried_directly l inv (Some t) own h.0) (went (begins_directly (local_of me) s copy) words stage) own_left h.3
        ∙ (λ k. (with_local me.0 (record (local_of me) { stage = Last t []; direct = true; inv = inv; spare = own.spare; held = own.held.items; steps = own_count_all h.0 k }), me.1)),
  )

  -- the process's buffers stay till then
  pub own_buffers : (own : Buffers) → AreBuffers sizes (local_of me) own → AreBuffers sizes (local_of me2) own
  own_buffers own are = record {
    spare = ap (λ (m : Me Seen (View O)). (local_of m).spare) own_left ∙ are.spare;
    which = are.which;
    held = ap (λ (m : Me Seen (View O)). (local_of m).held) own_left ∙ are.held;
    long = are.long;
  }

  pub own_direct : IsDirect me2
  own_direct = ap (λ (m : Me Seen (View O)). (local_of m).direct) own_left

  pub own_calls_are : (local_of me2).own ≡ (local_of me).own
  own_calls_are = ap (λ (m : Me Seen (View O)). (local_of m).own) own_left

  pub own_of : {o : O} {all : Sizes} {p : ℕ} → IsOf o all p me → IsOf o all p me2
  own_of {o} {all} {p} of = subst (λ (m : Me Seen (View O)). IsOf o all p m) (sym own_left) (record { object = of.object; sizes = of.sizes; first = of.first; alone = of.alone })
