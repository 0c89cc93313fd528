-- A process whose seat was taken over while it was at any step: what may be loaded then.
use Rattle.uni_small.proofs.Vocabulary.{Board, Bool, HasRecounted, HasReread, HasRestarted, Idle, IsAt, IsAttemptAt, IsCallAt, Last, List, Local, Me, Meaning, Moves, Reading, Ready, Seen, Sequential, Sizes, Stage, Step, View, Writing, [], announce_word, ap, arith, begun_by, buffer_in, buffer_word, buffer_words, current_word, false, has_begun, held_place, if◌then◌else◌, length, nothing, refl, restarted, rests, slice_index, spare_at, subst, sym, true, with_local, ℕ, ◌*◌, ◌+◌, ◌<◌, ◌==◌, ◌∙◌, ◌≡◌, ◌≢◌, ◌≤◌}
use Rattle.std.proofs.lemmas.Bool.Decides.{nat_tests}
use Rattle.uni_small.proofs.Frame.{load_law}
use Rattle.uni_small.proofs.Loads.{buffer_of}
use Rattle.uni_small.proofs.Stepping.{recount_steps, reread_steps, restart_steps}

-- a buffer of the process that isn't current
spare_apart : (p c : ℕ) (b : Bool) → (c == 2 * p + 1) ≡ b → 2 * p + (if b then 0 else 1) ≢ c
spare_apart p c true e same =
    let here : c ≡ 2 * p + 1 = (let h : (c == 2 * p + 1) ≡ true = e in grind (arith, nat_tests, h)) in omega (arith, same, here)
spare_apart p c false e same =
    let other : c ≢ 2 * p + 1 = (λ at. let h : (c == 2 * p + 1) ≡ false = e in grind (arith, nat_tests, h, at)) in other (sym same)

spare_small : (b : Bool) → (if b then 0 else 1) ≤ 1
spare_small true = omega arith
spare_small false = omega arith

module _ {O : Type 0} (meaning : O → Meaning) (o : O) (sizes : Sizes) (id : ℕ) (few : sizes.processes ≤ 64) (st : Step Seen) (me : Me Seen (View O)) (single : me.0.known.count ≡ 1) where
  abbrev object : Sequential (List ℕ) (List ℕ) (List ℕ)
  object = (meaning o).object

  abbrev p : ℕ
  p = me.0.known.first

  abbrev l : Local
  l = me.0.known.local

  -- it is where it was
  at_same : (g : Board) → IsAt object sizes g p l → IsAt object sizes g p (rests l)
  at_same g was = record { spare = was.spare; apart = was.apart; held = was.held; told = was.told; call = by_stage l.stage was.call; attempt = was.attempt; ordered = was.ordered; read = was.read } where
    by_stage : (stage : Stage) → IsCallAt object sizes g p l stage → IsCallAt object sizes g p (rests l) stage
    by_stage (Idle stored) c = c
    by_stage (Ready t) c = c
    by_stage (Reading t s copy seen) c = c
    by_stage (Writing t s image seen w) c = c
    by_stage (Last s loaded) c = c

  -- how many calls it has begun
  count_at : (g : Board) (stage : Stage) (direct : Bool) → IsCallAt object sizes g p (record l { direct = direct }) stage
      → g.announced p ≡ begun_by (has_begun stage direct) (length l.own)
  count_at g (Idle stored) direct c = c.0.announced
  count_at g (Ready t) true c = c.announced
  count_at g (Ready t) false c = c.announced
  count_at g (Reading t s copy seen) true c = c.announced
  count_at g (Reading t s copy seen) false c = c.announced
  count_at g (Writing t s image seen w) true c = c.announced
  count_at g (Writing t s image seen w) false c = c.announced
  count_at g (Last s loaded) direct c = c.announced

  pub recounts : Moves meaning o sizes id me (announce_word p) (λ x. x) nothing (λ found me'. HasRecounted st me found me')
  recounts = load_law meaning o sizes id me (announce_word p) (λ found me'. HasRecounted st me found me') single (recount_steps meaning o sizes st me) (λ g local words f.
      let a = f.words_are.announced p f.inside in
      let t = f.sound.board.told_most p f.inside in
      let b = f.sound.board.room p f.inside in
      let c = count_at g l.stage l.direct f.mine.call in (
        rests l,
        at_same g f.mine,
        (
          refl,
          a ∙ f.mine.told,
          omega (arith, a, t, c),
          f.mine.held.long ∙ ap (λ (z : Sizes). 2 * buffer_words z) (sym f.processes),
          omega (arith, b, c),
        ),
      ))

  -- what a word of its buffers is
  pub rereads : (which' k' : ℕ) → which' ≤ 1 → k' < buffer_words sizes → st.word ≡ buffer_word sizes (2 * p + which') k'
      → Moves meaning o sizes id me (buffer_word sizes (2 * p + which') k') (λ x. x) nothing (λ found me'. HasReread st me found me')
  rereads which' k' either' below' at = load_law meaning o sizes id me (buffer_word sizes (2 * p + which') k') (λ found me'. HasReread st me found me') single
      (reread_steps meaning o sizes st me which' k' either' below') (λ g local words f. (
        rests l,
        at_same g f.mine,
        (
          refl,
          λ which k either below there.
              let wide : k < buffer_words sizes = subst (λ (z : Sizes). k < buffer_words z) f.processes below in
              let place : buffer_word sizes (2 * p + which') k' ≡ buffer_word sizes (2 * p + which) k = sym at ∙ there ∙ ap (λ (z : Sizes). buffer_word z (2 * p + which) k) f.processes in
              let inside : 2 * p + which < 2 * sizes.processes = (let n = f.inside in omega arith) in
              ap (slice_index words) place ∙ f.words_are.buffer (2 * p + which) k inside wide ∙ f.mine.held.words which k either wide
              ∙ ap (λ (z : Sizes). slice_index l.held (held_place z which k)) (sym f.processes),
        ),
      ))

  -- its call, which begins again, or the next one
  call_again : (g : Board) (s : ℕ) (stage : Stage) (direct : Bool) → IsCallAt object sizes g p (record l { direct = direct }) stage
      → IsCallAt object sizes g p (restarted l p s (has_begun stage direct)) (if has_begun stage direct then Ready 0 else Idle [])
  call_again g s (Idle stored) direct c = (c.0, refl)
  call_again g s (Ready t) true c = (c, refl)
  call_again g s (Ready t) false c = c
  call_again g s (Reading t s' copy seen) true c = (c, refl)
  call_again g s (Reading t s' copy seen) false c = c
  call_again g s (Writing t s' image seen w) true c = (c, refl)
  call_again g s (Writing t s' image seen w) false c = c
  call_again g s (Last s' loaded) direct c = c

  attempt_again : (g : Board) (b : ℕ) (begun : Bool) → g.since p ≤ g.version → IsAttemptAt object sizes g p b (if begun then Ready 0 else Idle [])
  attempt_again g b true before = omega (arith, before)
  attempt_again g b false before = tt

  pub restarts : Moves meaning o sizes id me 0 (λ x. x) nothing (λ found me'. HasRestarted st me found me')
  restarts = load_law meaning o sizes id me 0 (λ found me'. HasRestarted st me found me') single (restart_steps meaning o sizes st me) (λ g local words f.
      let s = slice_index words 0 in
      let begun : Bool = has_begun l.stage l.direct in
      let is : s ≡ current_word g.version g.current = f.words_are.current in
      let here : buffer_in s ≡ g.current = ap buffer_in is ∙ buffer_of g.version g.current (let c = f.sound.board.current in omega arith) in (
        restarted l p s begun,
        record {
          spare = spare_small (buffer_in s == 2 * p + 1);
          apart = subst (λ c. 2 * p + spare_at p s ≢ c) here (spare_apart p (buffer_in s) (buffer_in s == 2 * p + 1) refl);
          held = record { long = f.mine.held.long; words = f.mine.held.words };
          told = f.mine.told;
          call = call_again g s l.stage l.direct f.mine.call;
          attempt = attempt_again g (2 * p + spare_at p s) begun (f.sound.board.begun p f.inside);
          ordered = f.mine.ordered;
          read = f.mine.read;
        },
        λ begun' same i. (with_local me.0 (restarted l p s (same i)), me.1),
      ))
