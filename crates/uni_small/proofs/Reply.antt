-- The load of the reply, by which a call returns.
use Rattle.uni_small.proofs.Vocabulary.{AcceptsAll-append, Act, AreWords, Atomic, Board, HasLoaded, HasReplied, HasTaken, Invoke, Invoked, IsBeginning, IsLoading, IsOpen, IsPending, Last, List, Local, Me, Meaning, Moves, None, Respond, Returned, Seen, Sequential, Sizes, Some, StandsIn, Step, View, [], ap, append_assoc, arith, at_start, buffer_in, buffer_word, ending, ends, goes, in_of, inl, inr, length, length-append, lt_cases, map, nothing, plain, refl, reply_of, reply_place, response_at, returns, sequential_acts, set-get_or, set_at, set_at-cases, set_at_elsewhere, set_at_same, slice_index, stage_of, subst, sym, version_in, with_local, ℕ, ◌*◌, ◌++◌, ◌+◌, ◌<◌, ◌∙◌, ◌∷◌, ◌≡◌, ◌≤◌}
use Rattle.uni_small.proofs.Frame.{Found, load_law, sound_with, step_law}
use Rattle.uni_small.proofs.Stepping.{load_steps, reply_steps}
use Rattle.uni_small.proofs.Rows.{begins_more, begins_whole, later}
use Rattle.uni_small.proofs.Lists.{get_snoc}
use Rattle.uni_small.proofs.Loads.{call_at, attempt_at, none_beyond}
use Rattle.uni_small.proofs.Acts.{responded_other, responded_own, sequential_acts-snoc}
use Rattle.uni_small.proofs.Others.{quiet, at_stays}

module _ {O : Type 0} (meaning : O → Meaning) (o : O) (sizes : Sizes) (id : ℕ) (st : Step Seen) (me : Me Seen (View O)) (single : me.0.known.count ≡ 1) where
  abbrev object : Sequential (List ℕ) (List ℕ) (List ℕ)
  object = (meaning o).object

  abbrev p : ℕ
  p = me.0.known.first

  abbrev l : Local
  l = me.0.known.local

  -- what is found of the reply
  reply_found : (s : ℕ) (loaded : List ℕ) → stage_of me ≡ Last s loaded → length loaded < sizes.reply → buffer_in s < 2 * sizes.processes
      → {g : Board} {local : ℕ → Local} {words : List ℕ} → Found meaning o sizes me g local words
      → IsBeginning (loaded ++ slice_index words (buffer_word sizes (buffer_in s) (reply_place sizes p (length loaded))) ∷ []) (reply_of g.image p)
  reply_found s loaded stage room named {g} {local} {words} f =
      let k = length loaded in
      let call : IsOpen object g p l.inv l.own = call_at object sizes g p l (Last s loaded) f.mine stage in
      let was = attempt_at object sizes g p l (Last s loaded) f.mine stage in
      let b = f.sound.board in
      let found = f.words_are.buffer (buffer_in s) (reply_place sizes p (length loaded)) named (let i = f.inside in let h = later p sizes.processes sizes.reply i in omega arith) in
      begins_more loaded (reply_of g.image p) was.3 (let r = b.rows.replies p f.inside in omega arith) (slice_index words (buffer_word sizes (buffer_in s) (reply_place sizes p (length loaded))))
      (found ∙ b.kept (buffer_in s) p (length loaded) named f.inside room (record { process = p; nth = length l.own; inv = l.inv }, call.is_open) was.1)

  -- a word of it, of which more are to come
  pub loads : (s k : ℕ) → IsLoading s k me → k + 1 < sizes.reply → buffer_in s < 2 * sizes.processes
      → Moves meaning o sizes id me (buffer_word sizes (buffer_in s) (reply_place sizes p k)) (λ x. x) nothing (λ found me'. HasLoaded st me found me')
  loads s k loading more named =
      let loaded = loading.0 in
      let stage : l.stage ≡ Last s loaded = loading.1 in
      let long : length loaded ≡ k = loading.2 in
      subst (λ j. Moves meaning o sizes id me (buffer_word sizes (buffer_in s) (reply_place sizes p j)) (λ x. x) nothing (λ found me'. HasLoaded st me found me')) long
      (load_law meaning o sizes id me (buffer_word sizes (buffer_in s) (reply_place sizes p (length loaded))) (λ found me'. HasLoaded st me found me') single (load_steps meaning o sizes st me s (length loaded) (loaded, stage, refl) (omega (arith, long, more))) (λ g local words f.
      let x = slice_index words (buffer_word sizes (buffer_in s) (reply_place sizes p (length loaded))) in
      let was = attempt_at object sizes g p l (Last s loaded) f.mine stage in (
        goes l (Last s (loaded ++ x ∷ [])),
        record {
          spare = f.mine.spare;
          apart = f.mine.apart;
          held = f.mine.held;
          told = f.mine.told;
          call = call_at object sizes g p l (Last s loaded) f.mine stage;
          attempt = (was.0, was.1, was.2, reply_found s loaded stage (omega arith) named f);
          ordered = f.mine.ordered;
          read = f.mine.read;
        },
        λ s' loaded' stage'.
            let e : Last s loaded ≡ Last s' loaded' = sym stage ∙ stage' in
            let a : s ≡ s' = cc in let c : loaded ≡ loaded' = cc in
            λ i. (with_local me.0 (goes l (Last (a i) (c i ++ x ∷ []))), me.1),
      )))

  -- the last word
  pub replies : (s : ℕ) (loaded : List ℕ) → stage_of me ≡ Last s loaded → length loaded + 1 ≡ sizes.reply → buffer_in s < 2 * sizes.processes
      → Moves meaning o sizes id me (buffer_word sizes (buffer_in s) (reply_place sizes p (length loaded))) (λ x. x) (ends l p loaded) (λ found me'. HasReplied st me found me')
  replies s loaded stage last named = step_law meaning o sizes id me (buffer_word sizes (buffer_in s) (reply_place sizes p (length loaded))) (λ x. x) (ends l p loaded) (λ found me'. HasReplied st me found me') single (reply_steps meaning o sizes st me s loaded stage last) (λ g local words f.
      let x = loaded ++ slice_index words (buffer_word sizes (buffer_in s) (reply_place sizes p (length loaded))) ∷ [] in
      let call : IsOpen object g p l.inv l.own = call_at object sizes g p l (Last s loaded) f.mine stage in
      let was = attempt_at object sizes g p l (Last s loaded) f.mine stage in
      let b = f.sound.board in
      let reply : x ≡ reply_of g.image p = sym (begins_whole x (reply_of g.image p) (reply_found s loaded stage (omega arith) named f)
      (length-append loaded (slice_index words (buffer_word sizes (buffer_in s) (reply_place sizes p (length loaded))) ∷ []) ∙ last ∙ sym (b.rows.replies p f.inside))) in
      let all_in : in_of g p ≡ length l.own + 1 = (let m = b.marked (buffer_in s) p f.inside in let w = was.1 in let i = b.in_most p f.inside in let a = call.announced in omega arith) in
      let taken : HasTaken object g (record { process = p; nth = length l.own; inv = l.inv }) (reply_of g.image p) = call.taken all_in in
      let more : length (l.own ++ ending l s x ∷ []) ≡ length l.own + 1 = length-append l.own (ending l s x ∷ []) in
      let stands : StandsIn object g.atomic.agreed g.calls_in_version p (length l.own) (ending l s x) = record {
        place = taken.place;
        there = taken.there;
        reply = taken.reply_is ∙ ap Some (sym reply);
        after = f.mine.ordered.later (record { process = p; nth = length l.own; inv = l.inv }) taken.place taken.there refl (omega arith);
        before = was.2.1 (record { process = p; nth = length l.own; inv = l.inv }) taken.place taken.there refl (let a = call.announced in omega arith);
      } in
      let atomic' : Atomic (List ℕ) (List ℕ) = record g.atomic { open_call = set_at g.atomic.open_call p None } in
      let acts' : List (Act (List ℕ) (List ℕ)) = g.acts ++ Respond p (length l.own) x ∷ [] in
      let g' : Board = quiet object sizes g g.told g.announced g.argument g.since g.buffer atomic' acts' in
      let pending_was : (r : ℕ) → IsPending g' r → IsPending g r = (λ r w. elim (set_at-cases g.atomic.open_call p None r) [
        | inl here ↦ absurd (let e : None ≡ Some w.0 = sym here.1 ∙ w.1 in cc)
        | inr other ↦ (w.0, sym other.1 ∙ w.1)
      ]) in
      record {
        board = g';
        local' = returns l s x;
        sound = sound_with object sizes g g' local p (returns l s x) f.sound
            (record {
              current = b.current;
              image = b.image;
              rows = b.rows;
              exact = b.exact;
              marked = b.marked;
              at_current = b.at_current;
              kept = λ d r i inside below small w least. b.kept d r i inside below small (pending_was r w) least;
              arguments = b.arguments;
              in_most = b.in_most;
              told_most = b.told_most;
              told_due = b.told_due;
              begun = b.begun;
              soon = b.soon;
              versions = b.versions;
              room = b.room;
              agreed = b.agreed;
              counted = b.counted;
              rising = b.rising;
              start = b.start;
              history = AcceptsAll-append object (at_start object.initial) g.atomic atomic' g.acts (Respond p (length l.own) x ∷ []) b.history (
                atomic',
                (
                  (
                    l.inv,
                    taken.place,
                    call.is_open,
                    taken.there,
                    ap (λ z. response_at object z (map (λ (c : Invoked (List ℕ)). c.inv) g.atomic.agreed) taken.place) b.start ∙ taken.reply_is ∙ ap Some (sym reply),
                  ),
                  refl,
                ),
                refl,
              );
            })
            (λ q inside apart h. at_stays object sizes g g.told g.announced g.argument g.since g.buffer atomic' acts' q (local q)
            (record {
              since = refl;
              seen = λ seen k. record { told = k.told; caught = k.caught };
              announced = refl;
              argument = refl;
              buffer = λ which i either. refl;
              marked = λ r inside w m. (pending_was r w, m);
              is_open = set_at_elsewhere g.atomic.open_call p None q apart;
              next = refl;
              agreed = refl;
              told = refl;
              acts = responded_other q p (length l.own) x g.acts apart;
            }) h)
            (record {
              spare = f.mine.spare;
              apart = f.mine.apart;
              held = record { long = f.mine.held.long; words = f.mine.held.words };
              told = f.mine.told;
              call = (
                record {
                  none_open = set_at_same g.atomic.open_call p None;
                  next = call.next ∙ sym more;
                  announced = call.announced ∙ sym more;
                  in_is = all_in ∙ sym more;
                  acts = responded_own p (length l.own) x g.acts ∙ ap (λ xs. xs ++ Respond p (length l.own) x ∷ []) call.acts
                      ∙ append_assoc (sequential_acts p 0 (map plain l.own)) (Invoke p (length l.own) l.inv ∷ []) (Respond p (length l.own) x ∷ [])
                      ∙ ap (λ k. sequential_acts p 0 (map plain l.own) ++ Invoke p k l.inv ∷ Respond p k x ∷ []) (let z : length l.own ≡ length l.own + 0 = omega arith in z)
                      ∙ sym (sequential_acts-snoc p 0 l.own (ending l s x));
                },
                refl,
              );
              attempt = tt;
              ordered = record {
                reached = was.2.0;
                later = λ c place at own from. absurd (none_beyond object sizes g p b c place at own (omega arith));
                known = λ k call at. elim (get_snoc l.own (ending l s x) k call at) [
                  | inl old ↦ f.mine.ordered.known k call old
                  | inr new ↦ subst (λ c. c.version ≤ g.version) new.1 was.2.0
                ];
                stand = λ k call at. elim (get_snoc l.own (ending l s x) k call at) [
                  | inl old ↦ f.mine.ordered.stand k call old
                  | inr new ↦ subst (λ (c : Returned). StandsIn object g.atomic.agreed g.calls_in_version p k c) new.1 (subst (λ j. StandsIn object g.atomic.agreed g.calls_in_version p j (ending l s x)) (sym new.0) stands)
                ];
              };
              read = λ read e. absurd (let none : None ≡ Some read = e in cc);
            });
        words_are = subst (AreWords sizes g') (sym (set-get_or words (buffer_word sizes (buffer_in s) (reply_place sizes p (length loaded))) 0)) (record {
          wide = f.words_are.wide;
          current = f.words_are.current;
          announced = f.words_are.announced;
          argument = f.words_are.argument;
          buffer = f.words_are.buffer;
        });
        said = λ s' loaded' stage'.
            let e : Last s loaded ≡ Last s' loaded' = sym stage ∙ stage' in
            let same : s ≡ s' = cc in let also : loaded ≡ loaded' = cc in (
              (λ k. (with_local me.0 (returns l (same k) (also k ++ slice_index words (buffer_word sizes (buffer_in s) (reply_place sizes p (length loaded))) ∷ [])), me.1)),
              subst (λ k. l.after < version_in k) same (elim (lt_cases l.after (version_in s)) [
                | inl less ↦ less.0
                | inr more ↦ absurd (let r = b.rising (version_in s) l.after more.0 in let t = stands.after in let u = stands.before in omega arith)
              ]),
            );
        appended = refl;
      })
