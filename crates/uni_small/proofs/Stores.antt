-- The word steps that store.
use Rattle.uni_small.proofs.Vocabulary.{AreHeld, Board, Bool, HasAnnounced, HasStored, HasWritten, Idle, IsAttemptAt, IsAttempted, IsBeginning, IsCallAt, IsClosed, IsStoring, IsWriting, List, Local, MayBeWritten, Me, Meaning, Moves, Seen, Sequential, Sizes, Step, View, Writing, [], announce_word, announces, ap, append-nil, argument_word, arith, begins, buffer_word, buffer_words, false, get_or-set_other, get_or-set_same, goes, held_place, in_of, inl, inr, length, length-set, most_calls, nothing, number_cases, refl, reply_place, set_at, set_at-cases, set_at_elsewhere, set_at_same, slice_index, slice_set, spell, stage_of, subst, sym, true, with_local, with_seen, wrote, ℕ, ◌*◌, ◌++◌, ◌+◌, ◌<◌, ◌∙◌, ◌∷◌, ◌≡◌, ◌≢◌, ◌≤◌, written_to}
use Rattle.uni_small.proofs.Frame.{step_law, sound_with}
use Rattle.uni_small.proofs.Stepping.{announce_steps, store_steps, write_steps}
use Rattle.uni_small.proofs.Images.{spell-reply}
use Rattle.uni_small.proofs.Loads.{call_at, attempt_at}
use Rattle.uni_small.proofs.Others.{quiet, at_stays}
use Rattle.uni_small.proofs.Beginning.{begun_board, begun_sound}
use Rattle.uni_small.proofs.Rows.{begins_set, begins_whole}
use Rattle.uni_small.proofs.Words.{held_apart, held_inside, words_announced, words_argument, words_buffer}

-- a word of a process's spare buffer is stored: what its buffers hold then
held_set : (object : Sequential (List ℕ) (List ℕ) (List ℕ)) (sizes : Sizes) (g g' : Board) (p spare k x : ℕ) (held : List ℕ) → spare ≤ 1 → k < buffer_words sizes
    → ((d i : ℕ) → d ≢ 2 * p + spare → g'.buffer d i ≡ g.buffer d i) → g'.buffer (2 * p + spare) k ≡ x → ((i : ℕ) → i ≢ k → g'.buffer (2 * p + spare) i ≡ g.buffer (2 * p + spare) i)
    → AreHeld object sizes g p held → AreHeld object sizes g' p (slice_set held (held_place sizes spare k) x)
held_set object sizes g g' p spare k x held either room other_buffer same_spot other_spot was = record {
  long = length-set held (held_place sizes spare k) x ∙ was.long;
  words = words;
} where
  words : (which i : ℕ) → which ≤ 1 → i < buffer_words sizes → g'.buffer (2 * p + which) i ≡ slice_index (slice_set held (held_place sizes spare k) x) (held_place sizes which i)
  words which i one below = elim (number_cases which spare) [
    | inl here ↦ elim (number_cases i k) [
      | inl at ↦
          ap (λ w. g'.buffer (2 * p + w) i) here.0 ∙ ap (g'.buffer (2 * p + spare)) at.0 ∙ same_spot
          ∙ sym (get_or-set_same held (held_place sizes spare k) x 0 (let h = held_inside sizes spare k either room in let l = was.long in omega arith))
          ∙ (λ j. slice_index (slice_set held (held_place sizes spare k) x) (held_place sizes (sym here.0 j) (sym at.0 j)))
      | inr other ↦
          ap (λ w. g'.buffer (2 * p + w) i) here.0 ∙ other_spot i other.0 ∙ ap (λ w. g.buffer (2 * p + w) i) (sym here.0) ∙ was.words which i one below
          ∙ sym (get_or-set_other held (held_place sizes spare k) (held_place sizes which i) x 0 (held_apart sizes which i spare k below room (inr other.0)))
    ]
    | inr other ↦
        other_buffer (2 * p + which) i (λ same. other.0 (omega arith)) ∙ was.words which i one below
        ∙ sym (get_or-set_other held (held_place sizes spare k) (held_place sizes which i) x 0 (held_apart sizes which i spare k below room (inl other.0)))
  ]

module _ {O : Type 0} (meaning : O → Meaning) (o : O) (sizes : Sizes) (id : ℕ) (st : Step Seen) (me : Me Seen (View O)) (single : me.0.known.count ≡ 1) where
  abbrev object : Sequential (List ℕ) (List ℕ) (List ℕ)
  object = (meaning o).object

  abbrev p : ℕ
  p = me.0.known.first

  abbrev l : Local
  l = me.0.known.local

  -- a word of the invocation of the next call is stored
  pub stores : (k x : ℕ) → IsStoring k me → k < sizes.invocation → length l.own < most_calls → Moves meaning o sizes id me (argument_word sizes p k) (λ y. x) nothing (λ found me'. HasStored st me x me')
  stores k x storing room calls = step_law meaning o sizes id me (argument_word sizes p k) (λ y. x) nothing (λ found me'. HasStored st me x me') single (store_steps meaning o sizes st me k x storing room calls) (λ g local words f.
      let stored = storing.0 in
      let stage : l.stage ≡ Idle stored = storing.1 in
      let long : length stored ≡ k = storing.2 in
      let call = call_at object sizes g p l (Idle stored) f.mine stage in
      let closed : IsClosed g p l.own = call.0 in
      let b = f.sound.board in
      let whole : length (g.argument p) ≡ sizes.invocation = b.arguments p f.inside in
      let argument' : ℕ → List ℕ = set_at g.argument p (slice_set (g.argument p) k x) in
      let g' : Board = record g { argument = argument' } in
      let mine : argument' p ≡ slice_set (g.argument p) k x = set_at_same g.argument p (slice_set (g.argument p) k x) in
      let more : IsBeginning (stored ++ x ∷ []) (argument' p) = subst (λ ws. IsBeginning (stored ++ x ∷ []) ws) (sym mine)
      (subst (λ j. IsBeginning (stored ++ x ∷ []) (slice_set (g.argument p) j x)) long (begins_set stored (g.argument p) call.1 (omega arith) x)) in
      record {
        board = g';
        local' = goes l (Idle (stored ++ x ∷ []));
        sound = sound_with object sizes g g' local p (goes l (Idle (stored ++ x ∷ []))) f.sound
            (record {
              current = b.current;
              image = b.image;
              rows = b.rows;
              exact = b.exact;
              marked = b.marked;
              at_current = b.at_current;
              kept = b.kept;
              told_most = b.told_most;
              told_due = b.told_due;
              begun = b.begun;
              arguments = λ r inside. elim (set_at-cases g.argument p (slice_set (g.argument p) k x) r) [
                | inl here ↦ ap (λ (ws : List ℕ). length ws) here.1 ∙ length-set (g.argument p) k x ∙ whole
                | inr other ↦ ap (λ (ws : List ℕ). length ws) other.1 ∙ b.arguments r inside
              ];
              in_most = b.in_most;
              soon = b.soon;
              versions = b.versions;
              room = b.room;
              agreed = b.agreed;
              counted = b.counted;
              rising = b.rising;
              start = b.start;
              history = b.history;
            })
            (λ q inside apart h. at_stays object sizes g g.told g.announced argument' g.since g.buffer g.atomic g.acts q (local q)
            (record {
              since = refl;
              seen = λ seen known. record {
                told = λ r inv at. let t = known.told r inv at in
                    (t.0, subst (λ ws. IsBeginning inv ws) (sym (set_at_elsewhere g.argument p (slice_set (g.argument p) k x) r (λ same. let a : g.announced r ≡ g.announced p = ap g.announced same in let c : in_of g r ≡ in_of g p = ap (in_of g) same in let d = closed.announced in let e = closed.in_is in omega (arith, t.0)))) t.1);
                caught = known.caught;
              };
              announced = refl;
              argument = set_at_elsewhere g.argument p (slice_set (g.argument p) k x) q apart;
              buffer = λ which i either. refl;
              marked = λ r inside w m. (w, m);
              is_open = refl;
              next = refl;
              agreed = refl;
              told = refl;
              acts = refl;
            }) h)
            (record {
              spare = f.mine.spare;
              apart = f.mine.apart;
              held = record { long = f.mine.held.long; words = f.mine.held.words };
              told = f.mine.told;
              call = (record { none_open = closed.none_open; next = closed.next; announced = closed.announced; in_is = closed.in_is; acts = closed.acts }, more);
              attempt = tt;
              ordered = f.mine.ordered;
              read = f.mine.read;
            });
        words_are = words_argument sizes g g' words f.words_are refl refl p k x f.inside room whole refl refl refl;
        said = λ stored' stage'.
            let same : stored ≡ stored' = (let e : Idle stored ≡ Idle stored' = sym stage ∙ stage' in cc) in
            λ i. (with_local me.0 (goes l (Idle (same i ++ x ∷ []))), me.1);
        appended = sym (append-nil g.acts);
      })

  -- the call is announced: it begins
  pub announced : (number : ℕ) (inv : List ℕ) → number ≡ length l.own + 1 → number ≤ most_calls → stage_of me ≡ Idle inv → length inv ≡ sizes.invocation
      → Moves meaning o sizes id me (announce_word p) (λ x. number) (begins l p inv) (λ found me'. HasAnnounced st me number me')
  announced number inv is few stage long = step_law meaning o sizes id me (announce_word p) (λ x. number) (begins l p inv) (λ found me'. HasAnnounced st me number me') single (announce_steps meaning o sizes st me number inv is few stage long) (λ g local words f.
      let call = call_at object sizes g p l (Idle inv) f.mine stage in
      let stored : g.argument p ≡ inv = begins_whole inv (g.argument p) call.1 (long ∙ sym (f.sound.board.arguments p f.inside)) in
      record {
        board = begun_board object sizes g local f.sound p f.inside l f.mine call.0 inv long g.argument stored (λ q apart. refl) number is few;
        local' = announces l inv;
        sound = begun_sound object sizes g local f.sound p f.inside l f.mine call.0 inv long g.argument stored (λ q apart. refl) number is few;
        words_are = words_announced sizes g (begun_board object sizes g local f.sound p f.inside l f.mine call.0 inv long g.argument stored (λ q apart. refl) number is few) words f.words_are refl refl p number f.inside refl refl refl;
        said = λ inv' stage'. (let same : inv ≡ inv' = (let e : Idle inv ≡ Idle inv' = sym stage ∙ stage' in cc) in λ i. (with_local me.0 (announces l (same i)), me.1));
        appended = refl;
      })

  -- a word of the spare buffer is stored
  pub writes : (k x : ℕ) → IsWriting object sizes k x me → k < buffer_words sizes → st.word ≡ buffer_word sizes (2 * p + l.spare) k
      → Moves meaning o sizes id me (buffer_word sizes (2 * p + l.spare) k) (λ y. x) nothing (λ found me'. HasWritten st me x me')
  writes k x writing room word_is = step_law meaning o sizes id me (buffer_word sizes (2 * p + l.spare) k) (λ y. x) nothing (λ found me'. HasWritten st me x me') single (write_steps meaning o sizes st me k x writing room word_is) (λ g local words f.
      let tries = writing.0 in
      let s = writing.1 in
      let image = writing.2 in
      let seen = writing.3 in
      let all = writing.4 in
      let written = writing.5 in
      let stage : l.stage ≡ Writing tries s image seen written = writing.6 in
      let stage' : written_to l.stage (k + 1) ≡ Writing tries s image seen (k + 1) = ap (λ z. written_to z (k + 1)) stage in
      let word : x ≡ slice_index (spell (with_seen object image 0 all)) k = writing.8 in
      let call : IsAttempted object sizes g p l l.direct = call_at object sizes g p l (Writing tries s image seen written) f.mine stage in
      let was = attempt_at object sizes g p l (Writing tries s image seen written) f.mine stage in
      let may : MayBeWritten object sizes g (2 * p + l.spare) (with_seen object image 0 all) = elim writing.7.0 [
        | inl seen_alone ↦ subst (λ xs. MayBeWritten object sizes g (2 * p + l.spare) (with_seen object image 0 xs)) (sym seen_alone.1) was.2
        | inr own ↦ subst (λ xs. MayBeWritten object sizes g (2 * p + l.spare) (with_seen object image 0 xs)) (sym own.3) (was.3 own.1)
      ] in
      let mine : ℕ = 2 * p + l.spare in
      let b = f.sound.board in
      let inside_mine : 2 * p + l.spare < 2 * sizes.processes = (let i = f.inside in let c = f.mine.spare in omega arith) in
      let buffer' : ℕ → ℕ → ℕ = set_at g.buffer (2 * p + l.spare) (set_at (g.buffer (2 * p + l.spare)) k x) in
      let g' : Board = quiet object sizes g g.told g.announced g.argument g.since buffer' g.atomic g.acts in
      let other_buffer : (d i : ℕ) → d ≢ 2 * p + l.spare → buffer' d i ≡ g.buffer d i = (λ d i apart. ap (λ h. h i) (set_at_elsewhere g.buffer (2 * p + l.spare) _ d apart)) in
      let same_spot : buffer' (2 * p + l.spare) k ≡ x = ap (λ h. h k) (set_at_same g.buffer (2 * p + l.spare) _) ∙ set_at_same (g.buffer (2 * p + l.spare)) k x in
      let other_spot : (i : ℕ) → i ≢ k → buffer' (2 * p + l.spare) i ≡ g.buffer (2 * p + l.spare) i = (λ i apart. ap (λ h. h i) (set_at_same g.buffer (2 * p + l.spare) _) ∙ set_at_elsewhere (g.buffer (2 * p + l.spare)) k x i apart) in
      record {
        board = g';
        local' = wrote l k (held_place sizes l.spare k) x;
        sound = sound_with object sizes g g' local p (wrote l k (held_place sizes l.spare k) x) f.sound
            (record {
              current = b.current;
              image = b.image;
              rows = b.rows;
              exact = λ i below. other_buffer g.current i (λ same. f.mine.apart (sym same)) ∙ b.exact i below;
              marked = b.marked;
              at_current = b.at_current;
              kept = λ d r i inside below small waits least. elim (number_cases d (2 * p + l.spare)) [
                | inl here ↦ elim (number_cases (reply_place sizes r i) k) [
                  | inl at ↦
                      ap (λ e. buffer' e (reply_place sizes r i)) here.0 ∙ ap (buffer' (2 * p + l.spare)) at.0 ∙ same_spot ∙ word ∙ ap (slice_index (spell (with_seen object image 0 all))) (sym at.0)
                      ∙ spell-reply sizes (with_seen object image 0 all) may.rows r i below small ∙ ap (λ ws. slice_index ws i) (may.replies r below waits (subst (λ e. g.announced r ≤ g.mark e r) here.0 least))
                  | inr elsewhere ↦ ap (λ e. buffer' e (reply_place sizes r i)) here.0 ∙ other_spot (reply_place sizes r i) elsewhere.0 ∙ ap (λ e. g.buffer e (reply_place sizes r i)) (sym here.0) ∙ b.kept d r i inside below small waits least
                ]
                | inr other ↦ other_buffer d (reply_place sizes r i) other.0 ∙ b.kept d r i inside below small waits least
              ];
              arguments = b.arguments;
              told_most = b.told_most;
              told_due = b.told_due;
              begun = b.begun;
              in_most = b.in_most;
              soon = b.soon;
              versions = b.versions;
              room = b.room;
              agreed = b.agreed;
              counted = b.counted;
              rising = b.rising;
              start = b.start;
              history = b.history;
            })
            (λ q inside apart h. at_stays object sizes g g.told g.announced g.argument g.since buffer' g.atomic g.acts q (local q)
            (record {
              since = refl;
              seen = λ seen k. record { told = k.told; caught = k.caught };
              announced = refl;
              argument = refl;
              buffer = λ which i either. other_buffer (2 * q + which) i (λ same. apart (let c = f.mine.spare in omega arith));
              marked = λ r inside w m. (w, m);
              is_open = refl;
              next = refl;
              agreed = refl;
              told = refl;
              acts = refl;
            }) h)
            (record {
              spare = f.mine.spare;
              apart = f.mine.apart;
              held = held_set object sizes g g' p l.spare k x l.held f.mine.spare room other_buffer same_spot other_spot f.mine.held;
              told = f.mine.told;
              call = subst (IsCallAt object sizes g' p (wrote l k (held_place sizes l.spare k) x)) (sym stage') (attempted_wrote g buffer' l.direct call);
              attempt = subst (IsAttemptAt object sizes g' p (2 * p + l.spare)) (sym stage') (
                was.0,
                (λ fresh. let now = was.1 fresh in (now.0, (now.1.0, now.1.1, record { told = now.1.2.told; caught = now.1.2.caught }, now.1.3, now.1.4))),
                record { rows = was.2.rows; replies = was.2.replies },
                λ inv. record { rows = (was.3 inv).rows; replies = (was.3 inv).replies },
              );
              ordered = f.mine.ordered;
              read = f.mine.read;
            });
        words_are = words_buffer sizes g g' words f.words_are refl refl (2 * p + l.spare) k x inside_mine room refl refl refl;
        said = λ j at.
            let here : buffer_word sizes (2 * p + l.spare) k ≡ buffer_word sizes (2 * p + l.spare) j = sym word_is ∙ at ∙ ap (λ z. buffer_word z (2 * p + l.spare) j) f.processes in
            let same : k ≡ j = omega arith in
            λ i. (with_local me.0 (wrote l (same i) (held_place (sym f.processes i) l.spare (same i)) x), me.1);
        appended = sym (append-nil g.acts);
      }) where
        attempted_wrote : (g : Board) (buffer' : ℕ → ℕ → ℕ) (direct : Bool) → IsAttempted object sizes g p l direct → IsAttempted object sizes (quiet object sizes g g.told g.announced g.argument g.since buffer' g.atomic g.acts) p l direct
        attempted_wrote g buffer' true c = record { none_open = c.none_open; next = c.next; announced = c.announced; in_is = c.in_is; acts = c.acts }
        attempted_wrote g buffer' false c = record {
          is_open = c.is_open;
          next = c.next;
          announced = c.announced;
          argument = c.argument;
          in_least = c.in_least;
          taken = λ full. (let t = c.taken full in record { place = t.place; there = t.there; reply_is = t.reply_is });
          acts = c.acts;
        }
