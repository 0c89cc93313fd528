-- Between calls: the load of S, and the look into what the process that it names has written.
use Rattle.uni_any.proofs.Vocabulary.{AllowsChange, AllowsTake, Board, Contents, HasCome, HasSeen, HasViewed, Idle, Invoked, IsAt, IsReader, IsShown, IsStageAt, Letter, List, Local, Moves, None, Option, Sequential, ShowsBoard, Some, Told, Version, View, [], announced_by, ap, append-nil, arith, base_of, calls_of, called_by, get_elem?, in_of, known_then, length, local_of, made_by, number_in, pending_of, posted, posted_at, process_in, refl, seen_of, set_at, set_at_same, slice_set, some, stage_of, subst, sym, viewing, with_letter, with_local, with_seen, with_value, with_word, word_of, inl, ShowsNext, Contains, ℕ, ◌+◌, ◌<◌, ◌∙◌, ◌∷◌, ◌≡◌, ◌≢◌, ◌≤◌}
use Rattle.uni_any.proofs.Framing.{AreBuffers, keeps_rule, buffers_same, buffers_taken, mine, object_is, own, shown_with, sound_with}
use Rattle.uni_any.specs.Execution.Next.{See, View as Views}
use Rattle.uni_any.proofs.Histories.{history_kept}
use Rattle.uni_any.proofs.Meaning.{version_come}
use Rattle.uni_any.proofs.Orders.{order_viewed}
use Rattle.uni_any.proofs.Posting.{keeps_same}
use Rattle.uni_any.proofs.Seeing as Seeing
use Rattle.uni_any.proofs.Starting.{loaded_known, loaded_number, loaded_process}
use Rattle.uni_any.proofs.Staying.{board_stays, later, locals, others_stay, reader_stays}
use Rattle.uni_any.specs.Versions.{IsVersionOf}

module _ {O I S R : Type 0} (meaning : O → Sequential S I R) (o : O) (n id : ℕ) (v : View O I S R) (alone : v.known.count ≡ 1) (processes : v.known.processes ≡ n) (idle : stage_of v ≡ Idle) where
  abbrev l : Local I S R
  l = local_of v

  abbrev p : ℕ
  p = v.known.first

  abbrev object : Sequential S I R
  object = meaning o

  plain : (q : ℕ) → posted l q ≡ l.written
  plain q = ap (λ s. posted_at l s q) idle

  -- the process has another word, follows another version, and has seen something else
  module _ (c : Contents (Letter I S R) (View O I S R)) (g : Board I S R) (local : ℕ → Local I S R) (seat_of : ℕ → ℕ) (is : IsShown n meaning o g local seat_of c) (at : get_elem? c.views id ≡ some v) where
    p_in : p < n
    p_in = (own meaning o n id v alone c g local seat_of is at).0

    local_is : local p ≡ l
    local_is = (own meaning o n id v alone c g local seat_of is at).2

    its : IsAt object n g local p l
    its = mine meaning o n id v alone c g local seat_of is at

    idle_at : IsStageAt object n g local p l Idle
    idle_at = subst (IsStageAt object n g local p l) idle its.stage

    all_in : (d : Invoked I) → Contains g.atomic.agreed d → d.process ≡ p → d.nth < length l.own
    all_in d has mine' = (let b = (is.sound.history.agreed d has).1 in let e : in_of g d.process ≡ in_of g p = ap (in_of g) mine' in let a = idle_at.0 in omega arith)

    reached : l.after ≤ g.number
    reached = (let r = (is.sound.order.each p p_in).reached in let e = ap (λ (z : Local I S R). z.after) local_is in omega arith)

    -- the process has another word, follows another version, and has seen something else
    module _ (word' after' : ℕ) (seen' : List (Told I S R)) where
      abbrev l' : Local I S R
      l' = record l { word = word'; after = after'; seen = seen' }

      abbrev g' : Board I S R
      g' = later object n g local p l l' local_is g.since g.atomic.open_call g.atomic.next_nth g.acts

      abbrev local' : ℕ → Local I S R
      local' = locals object n g local p l l' local_is g.since g.atomic.open_call g.atomic.next_nth g.acts

      posted_same : (q : ℕ) → posted l' q ≡ posted l q
      posted_same q = ap (λ s. posted_at l' s q) idle ∙ sym (plain q)

      shows : (((r : Local I S R) → IsReader object n g local r → IsReader object n g' local' r) → IsReader object n g' local' l') → l.after ≤ after' → after' ≤ g.number
          → (words : ℕ → ℕ) (buffers : ℕ → ℕ → Option (Letter I S R)) → words 0 ≡ word_of g.number g.process → AreBuffers meaning o n id v alone c g local seat_of is at l' buffers
          → ShowsNext meaning o n g local seat_of (record { words = words; buffers = buffers; views = slice_set c.views id (with_local v l') }) p l' []
      shows reads more known words buffers word are =
          let keeps = keeps_same l l' refl refl in
          let told_on : called_by l ≡ in_of g p + 1 → called_by l' ≡ in_of g p + 1 = (λ e. e) in
          let asked_on : (i : I) → in_of g p ≡ made_by l → pending_of l.stage ≡ Some i → (made_by l' ≡ made_by l) × (pending_of l'.stage ≡ Some i) = (λ i e some_was. (refl, some_was)) in
          let since_else : (q : ℕ) → q ≢ p → g.since q ≡ g.since q = (λ q apart. refl) in
          let announced_on : g.since p < g.number → (g.since p ≡ g.since p) × (announced_by n l' ≡ announced_by n l) = (λ before. (refl, refl)) in
          let open' = g.atomic.open_call in
          let next' = g.atomic.next_nth in
          let w = its.writer in
          let rd = reads (λ r h. reader_stays object n g local p l l' local_is g.since open' next' g.acts since_else announced_on (omega arith) keeps told_on asked_on r h) in
          shown_with meaning o n id v alone c g local seat_of is at l' g' [] (sym (append-nil g.acts)) words buffers word are
          (sound_with object n g g' local p l' is.sound
          (board_stays object n g local p l l' local_is g.since open' next' g.acts since_else announced_on (omega arith) keeps told_on asked_on (omega arith) (is.sound.board.past p p_in) is.sound.board)
          (λ q q_in apart h. others_stay object n g local p l l' local_is g.since open' next' g.acts since_else announced_on (omega arith) keeps told_on asked_on q apart h)
          (record {
            stage = subst (IsStageAt object n g' local' p l') (sym idle) (idle_at.0, idle_at.1);
            writer = record { last = w.last; present = w.present; written = w.written; called = w.called; inv = w.inv; made = w.made };
            reader = record { long = rd.long; process = rd.process; known = rd.known; old = rd.old; called = rd.called; inv = rd.inv };
          })
          (history_kept object n g local p l l' local_is g.since is.sound.history p_in refl refl)
          (order_viewed object n g local p l l' local_is g.since open' next' g.acts is.sound.order p_in all_in refl more known))

    -- S is loaded
    abbrev word : ℕ
    word = c.words 0

    number_is : number_in word ≡ g.number
    number_is = loaded_number meaning o n g local seat_of c is

    shows_loaded : ShowsNext meaning o n g local seat_of (record { words = set_at c.words 0 word; buffers = c.buffers; views = slice_set c.views id (with_local v (viewing l word)) }) p (viewing l word) []
    shows_loaded = shows word (number_in word) l.seen
        (λ stays. let rd = stays l its.reader in record {
          long = rd.long;
          process = (let a = loaded_process meaning o n g local seat_of c is in let b = is.sound.board.process in omega arith);
          known = loaded_known meaning o n g local seat_of c is p (viewing l word) (ap (λ (z : Local I S R). z.last) (sym local_is));
          old = inl is.word;
          called = rd.called;
          inv = rd.inv;
        })
        (let r = reached in let e = number_is in omega arith) (let e = number_is in omega arith) (set_at c.words 0 word) c.buffers (set_at_same c.words 0 word ∙ is.word)
        (buffers_same meaning o n id v alone c g local seat_of is at (viewing l word) refl (λ q q_in. posted_same word (number_in word) l.seen q))

    told_loaded : HasViewed v word (with_local v (viewing l word))
    told_loaded idle' = (
      (let a = loaded_process meaning o n g local seat_of c is in let b = is.sound.board.process in let d = processes in omega arith),
      (let r = reached in let e = number_is in omega arith),
      refl,
    )

    -- what a process has written is taken
    module _ (r : ℕ) (r_in : r < n) (here : process_in l.word ≡ r) (follows_it : l.after ≡ number_in l.word) where
      abbrev found : Option (Letter I S R)
      found = c.buffers r p

      abbrev seen_then : List (Told I S R)
      seen_then = slice_set l.seen r (known_then found (seen_of object n l r))

      abbrev l2 : Local I S R
      l2 = record l { seen = seen_then }

      abbrev x : Version S R
      x = base_of object n l2

      come : HasCome object n g x × (number_in l.word ≤ x.number)
      come = Seeing.found_here meaning o n id v alone r r_in plain c g local seat_of is at here

      l1_is : with_seen l r found ≡ l2
      l1_is = Seeing.l1_is meaning o n id v alone r r_in plain c g local seat_of is at

      abbrev l3 : Local I S R
      l3 = record l2 { after = x.number }

      shows_seen : ShowsNext meaning o n g local seat_of (record { words = c.words; buffers = with_value c.buffers r p None; views = slice_set c.views id (with_local v l3) }) p l3 []
      shows_seen = shows l.word x.number seen_then
          (λ stays. let rd = stays l2 (Seeing.reader2 meaning o n id v alone r r_in plain c g local seat_of is at) in record { long = rd.long; process = rd.process; known = rd.known; old = rd.old; called = rd.called; inv = rd.inv })
          (let a = come.1 in omega (arith, follows_it)) come.0.0 c.words (with_value c.buffers r p None) is.word
          (buffers_taken meaning o n id v alone c g local seat_of is at l3 r r_in (Seeing.long meaning o n id v alone r r_in plain c g local seat_of is at) refl (λ q q_in. posted_same l.word x.number seen_then q))

      told_seen : HasSeen meaning v r found (with_local v l3)
      told_seen idle' here' follows' =
          let base_is : base_of (meaning v.object) v.known.processes (with_seen l r found) ≡ x = (λ k. base_of (meaning (object_is meaning o n id v alone c g local seat_of is at k)) (processes k) (l1_is k)) in (
            subst (λ (z : Version S R). l.after ≤ z.number) (sym base_is) (let a = come.1 in omega (arith, follows_it)),
            (subst (λ (z : Version S R). IsVersionOf (meaning v.object) v.known.processes (calls_of v ∷ []) z.number z.image) (sym base_is)
                (subst (λ j. IsVersionOf (meaning v.object) j (calls_of v ∷ []) x.number x.image) (sym processes)
                (subst (λ u. IsVersionOf (meaning u) n (calls_of v ∷ []) x.number x.image) (sym (object_is meaning o n id v alone c g local seat_of is at))
                (version_come meaning o n g local seat_of c is (calls_of v) p_in (ap (λ (z : Local I S R). z.own) local_is) (ap (λ (z : Local I S R). pending_of z.stage) local_is) x come.0
                (let a = come.1 in let b = ap (λ (z : Local I S R). z.after) local_is in omega (arith, follows_it)))))),
            (λ k. with_local v (record (sym l1_is k) { after = (sym base_is k).number })),
          )

  pub views_move : Moves meaning o n id v (with_word (λ i. i) id) (λ g local c w acts. acts ≡ []) (λ c w. HasViewed v (c.words 0) w)
  views_move c g local seat_of is at =
      (with_local v (viewing l (c.words 0)), [], shows_loaded c g local seat_of is at, refl, told_loaded c g local seat_of is at, (Views idle, refl))

  pub views : AllowsChange (ShowsBoard meaning o n) id v 0 (λ i. i) (HasViewed v)
  views c shown at = keeps_rule meaning o n id v alone (with_word (λ i. i) id) _ _ views_move c shown at

  module _ (r : ℕ) (r_in : r < n) (here : process_in l.word ≡ r) (follows_it : l.after ≡ number_in l.word) where
    pub sees_move : Moves meaning o n id v (with_letter r p None id) (λ g local c w acts. acts ≡ []) (λ c w. HasSeen meaning v r (c.buffers r p) w)
    sees_move c g local seat_of is at = (
      with_local v (l3 c g local seat_of is at r r_in here follows_it),
      [],
      shows_seen c g local seat_of is at r r_in here follows_it,
      refl,
      told_seen c g local seat_of is at r r_in here follows_it,
      (
        See r idle r_in here follows_it,
        (λ k. record {
          word = c.words 0;
          buffers = with_value c.buffers r p None;
          leaves = record (same k) { after = (base_of object n (same k)).number };
          acts = [];
        }),
      ),
    ) where
      same : with_seen l r (c.buffers r p) ≡ l2 c g local seat_of is at r r_in here follows_it
      same = l1_is c g local seat_of is at r r_in here follows_it

    pub sees : AllowsTake (ShowsBoard meaning o n) id v r p (HasSeen meaning v r)
    sees c shown at = keeps_rule meaning o n id v alone (with_letter r p None id) _ _ sees_move c shown at
