-- The exchange that makes a spare buffer current.
use Rattle.uni_small.proofs.Vocabulary.{AcceptsAll-append, AreIn, AreWhole, AreWords, Board, Bool, Contains-append_cases, HasBrought, HasBroughtOwn, HasRows, IsLeft, HasSeen, HasTaken, HasWrittenAll, HasWrittenOwn, Idle, Image, Invoke, Invoked, IsAnnounced, IsAt, IsAttemptAt, IsAttempted, IsBoard, IsCallAt, IsClosed, IsDirect, IsOpen, IsOrdered, IsSound, IsSteady, Last, Linearize, List, Local, MayBeWritten, Me, Meaning, Moves, None, Option, Reading, Ready, Returned, Seen, Sequential, Sizes, Some, Stage, StandsIn, Step, View, Writing, [], acts_by, announces, ap, append-nil, append_assoc, arith, at_start, brings, brings_own, brought, brought_own, buffer_in, buffer_words, calls_seen, current_word, due_at, either, eqb, exchanged, false, first_image, goes, if◌then◌else◌, image_from, in_of, inl, inr, length, length-append, length-set, lt_cases, map, map-append, most_calls, nat_lt, number_cases, refl, reply_of, reply_place, response_at, response_at-append, set-get_or, set_at, set_at-cases, set_at_elsewhere, set_at_same, slice_get, slice_get-append_left, slice_get-append_right, slice_get_within, slice_index, slice_set, some, some-injective, spell, state_after, subst, suc, sym, take, take-length, takes_effect, takes_effect_own, true, version_in, with_local, with_seen, zero, ℕ, ◌*◌, ◌++◌, ◌+◌, ◌<◌, ◌==◌, ◌∙◌, ◌∷◌, ◌≡◌, ◌≢◌, ◌≤◌, ◌⊎◌}
use Rattle.uni_small.proofs.Frame.{Found, Given, step_law, sound_with, sound_same}
use Rattle.uni_small.proofs.Stepping.{bring_own_steps, bring_steps}
use Rattle.uni_small.proofs.Lists.{due-here, due-set, due_cases, get-set, get-append, get-contains}
use Rattle.uni_small.proofs.Acts.{acts_by-append, acts_by-linearized}
use Rattle.uni_small.proofs.Images.{spell-reply, image_from-append, with_seen-calls, reached_from, rows-seen, width_is, applied-seen, reply-seen}
use Rattle.uni_small.proofs.Batch.{call_seen, taken_seen, linearized, sum-rises}
use Rattle.uni_small.proofs.Others.{at_stays, quiet}
use Rattle.uni_small.proofs.Beginning.{begun_board, begun_sound, mine_then, others_stay}
use Rattle.uni_small.proofs.Loads.{may_write, call_at, attempt_at, buffer_of, version_of}
use Rattle.uni_small.proofs.Rows.{begins_whole, later}
use Rattle.uni_small.proofs.Words.{words_current}

length_map : {A B : Type 0} (f : A → B) (xs : List A) → length (map f xs) ≡ length xs
length_map f [] = refl
length_map f (x ∷ xs) = let e = length_map f xs in omega arith

-- a response stays when the log grows
response_stays : (object : Sequential (List ℕ) (List ℕ) (List ℕ)) (s : List ℕ) (is js : List (List ℕ)) (place : ℕ) (r : List ℕ) → response_at object s is place ≡ Some r → response_at object s (is ++ js) place ≡ Some r
response_stays object s [] js place r e = absurd (let f = e in cc)
response_stays object s (i ∷ is) js zero r e = e
response_stays object s (i ∷ is) js (suc place) r e = response_stays object (object.next s i) is js place r e

module _ (object : Sequential (List ℕ) (List ℕ) (List ℕ)) (sizes : Sizes) (steady : IsSteady object sizes.reply) (few : sizes.processes ≤ 64)
    (g : Board) (local : ℕ → Local) (sound : IsSound object sizes g local) (seen : List (Option (List ℕ))) (long : length seen ≡ sizes.processes) (full : AreWhole sizes seen)
    (p : ℕ) (p_inside : p < sizes.processes) (known : HasSeen g p seen) (not_in : in_of g p < g.announced p)
    (b : ℕ) (b_inside : b < 2 * sizes.processes) (written : MayBeWritten object sizes g b (with_seen object g.image 0 seen))
    (exactly : (i : ℕ) → i < buffer_words sizes → g.buffer b i ≡ slice_index (spell (with_seen object g.image 0 seen)) i) where
  abbrev image' : Image
  image' = with_seen object g.image 0 seen

  abbrev calls : List (Invoked (List ℕ))
  calls = calls_seen g.image.applied 0 seen

  abbrev agreed' : List (Invoked (List ℕ))
  agreed' = g.atomic.agreed ++ calls

  abbrev pub brought_board : Board
  brought_board = record g {
    version = g.version + 1;
    current = b;
    mark = set_at g.mark b (λ r. slice_index image'.applied r);
    image = image';
    atomic = record g.atomic { agreed = agreed' };
    calls_in_version = λ v. if nat_lt g.version v then length agreed' else g.calls_in_version v;
    acts = g.acts ++ map (λ c. Linearize c) calls;
  }

  was : IsBoard object sizes g
  was = sound.board

  -- how many calls are in then, and which replies are as before
  pub in_later : (r : ℕ) → r < sizes.processes → slice_index image'.applied r ≡ in_of g r + due_at seen r
  in_later r inside =
      let z : r ≡ 0 + r = omega arith in
      ap (slice_index image'.applied) z ∙ applied-seen object g.image 0 seen r (let a = was.rows.applied in omega arith) ∙ ap (λ k. slice_index g.image.applied k + due_at seen r) (sym z)

  -- an invocation that was seen is the argument
  argument_is : (r : ℕ) (inv : List ℕ) → slice_get seen r ≡ Some (Some inv) → g.argument r ≡ inv
  argument_is r inv at =
      let inside : r < sizes.processes = (let w = slice_get_within seen r (Some inv) at in omega arith) in
      begins_whole inv (g.argument r) (known.told r inv at).1 (full r inv at ∙ sym (was.arguments r inside))

  due_is : (r : ℕ) → (due_at seen r ≡ 0) ⊎ ((due_at seen r ≡ 1) × (g.announced r ≡ in_of g r + 1))
  due_is r = elim (due_cases seen r) [ inl none ↦ inl none | inr due_one ↦ inr (due_one.1, (known.told r due_one.0 due_one.2).0) ]

  same_reply : (r : ℕ) → g.announced r ≤ in_of g r → reply_of image' r ≡ reply_of g.image r
  same_reply r all_in = elim (due_is r) [
    | inl none ↦
        let z : r ≡ 0 + r = omega arith in
        ap (reply_of image') z ∙ reply-seen object g.image 0 seen r none ∙ ap (reply_of g.image) (sym z)
    | inr due ↦ absurd (let d = due.1 in omega arith)
  ]

  rows' : HasRows sizes image'
  rows' = rows-seen object sizes steady (width_is object sizes steady g.atomic.agreed g.image was.image was.rows) g.image 0 seen was.rows

  state_is : state_after object object.initial (map (λ c. c.inv) g.atomic.agreed) ≡ g.image.state
  state_is = sym (reached_from object _ g.atomic.agreed) ∙ ap (λ (i : Image). i.state) was.image

  -- what was answered at a place is
  response_kept : (place : ℕ) (reply : List ℕ) → response_at object object.initial (map (λ c. c.inv) g.atomic.agreed) place ≡ Some reply → response_at object object.initial (map (λ c. c.inv) agreed') place ≡ Some reply
  response_kept place reply told = subst (λ is. response_at object object.initial is place ≡ Some reply) (sym (map-append (λ (c : Invoked (List ℕ)). c.inv) g.atomic.agreed calls))
      (response_stays object object.initial (map (λ c. c.inv) g.atomic.agreed) (map (λ c. c.inv) calls) place reply told)

  -- a call that has taken effect has
  taken_stays : (call : Invoked (List ℕ)) (reply : List ℕ) → HasTaken object g call reply → HasTaken object brought_board call reply
  taken_stays call reply h = record {
    place = h.place;
    there = slice_get-append_left g.atomic.agreed calls h.place call h.there;
    reply_is = response_kept h.place reply h.reply_is;
  }

  -- a call that was seen takes effect
  taken_now : (r : ℕ) (inv : List ℕ) → slice_get seen r ≡ Some (Some inv) → HasTaken object brought_board (record { process = r; nth = in_of g r; inv = inv }) (reply_of image' r)
  taken_now r inv at =
      let now = taken_seen object g.image.applied g.image 0 seen r inv at (let a = was.rows.reply in omega arith) in
      let z : 0 + r ≡ r = omega arith in
      let inv_of : Invoked (List ℕ) → List ℕ = (λ c. c.inv) in
      let wide : length (map inv_of g.atomic.agreed) ≡ length g.atomic.agreed = length_map inv_of g.atomic.agreed in
      record {
        place = length g.atomic.agreed + now.0;
        there = slice_get-append_right g.atomic.agreed calls now.0 ∙ now.1 ∙ ap (λ i. Some (record { process = i; nth = slice_index g.image.applied i; inv = inv })) z;
        reply_is =
            ap (λ is. response_at object object.initial is (length g.atomic.agreed + now.0)) (map-append inv_of g.atomic.agreed calls)
            ∙ ap (λ k. response_at object object.initial (map inv_of g.atomic.agreed ++ map inv_of calls) (k + now.0)) (sym wide)
            ∙ response_at-append object object.initial (map inv_of g.atomic.agreed) (map inv_of calls) now.0
            ∙ ap (λ s. response_at object s (map inv_of calls) now.0) state_is
            ∙ now.2 ∙ ap (λ i. Some (reply_of image' i)) z;
      }

  acts_same : (q : ℕ) → acts_by q brought_board.acts ≡ acts_by q g.acts
  acts_same q = acts_by-append q g.acts (map (λ c. Linearize c) calls) ∙ ap (λ l. acts_by q g.acts ++ l) (
      ap (acts_by q) (sym (append-nil (map (λ c. Linearize c) calls))) ∙ acts_by-linearized q calls []) ∙ append-nil (acts_by q g.acts)

  closed_stays : (q : ℕ) (own : List Returned) → q < sizes.processes → IsClosed g q own → IsClosed brought_board q own
  closed_stays q own inside h = record {
    none_open = h.none_open;
    next = h.next;
    announced = h.announced;
    in_is = in_later q inside ∙ elim (due_is q) [
      | inl none ↦ (let i = h.in_is in omega arith)
      | inr due ↦ absurd (let i = h.in_is in let a = h.announced in let d = due.1 in omega arith)
    ];
    acts = acts_same q ∙ h.acts;
  }

  pub open_stays : (q : ℕ) (inv : List ℕ) (own : List Returned) → q < sizes.processes → IsOpen object g q inv own → IsOpen object brought_board q inv own
  open_stays q inv own inside h = record {
    is_open = h.is_open;
    next = h.next;
    announced = h.announced;
    argument = λ out. h.argument (let i = in_later q inside in let l = h.in_least in omega (arith, out));
    in_least = (let i = in_later q inside in let l = h.in_least in omega arith);
    taken = λ full. elim (due_cases seen q) [
      | inl none ↦
          let all : in_of g q ≡ length own + 1 = (let i = in_later q inside in omega arith) in
          subst (HasTaken object brought_board (record { process = q; nth = length own; inv = inv })) (sym (same_reply q (let a = h.announced in omega arith)))
          (taken_stays _ _ (h.taken all))
      | inr due_one ↦
          let told = known.told q due_one.0 due_one.2 in
          let nth : in_of g q ≡ length own = (let a = h.announced in let t = told.0 in omega arith) in
          let same : due_one.0 ≡ inv = sym (argument_is q due_one.0 due_one.2) ∙ h.argument nth in
          subst (λ k. HasTaken object brought_board (record { process = q; nth = k; inv = inv }) (reply_of image' q)) nth
          (subst (λ i. HasTaken object brought_board (record { process = q; nth = in_of g q; inv = i }) (reply_of image' q)) same (taken_now q due_one.0 due_one.2))
    ];
    acts = acts_same q ∙ h.acts;
  }

  attempted_stays : (q : ℕ) (l : Local) (direct : Bool) → q < sizes.processes → IsAttempted object sizes g q l direct → IsAttempted object sizes brought_board q l direct
  attempted_stays q l true inside h = closed_stays q l.own inside h
  attempted_stays q l false inside h = open_stays q l.inv l.own inside h

  pub call_stays : (q : ℕ) (l : Local) (stage : Stage) → q < sizes.processes → IsCallAt object sizes g q l stage → IsCallAt object sizes brought_board q l stage
  call_stays q l (Idle stored) inside h = (closed_stays q l.own inside h.0, h.1)
  call_stays q l (Ready t) inside h = attempted_stays q l l.direct inside h
  call_stays q l (Reading t s copy seen) inside h = attempted_stays q l l.direct inside h
  call_stays q l (Writing t s image seen w) inside h = attempted_stays q l l.direct inside h
  call_stays q l (Last s loaded) inside h = open_stays q l.inv l.own inside h

  -- the marks of another buffer stay, and those of this one don't fall
  mark_least : (d r : ℕ) → r < sizes.processes → g.mark d r ≤ brought_board.mark d r
  mark_least d r inside = elim (set_at-cases g.mark b (λ r. slice_index image'.applied r) d) [
    | inl here ↦
        let now : brought_board.mark d r ≡ slice_index image'.applied r = ap (λ f. f r) here.1 in
        let m = was.marked d r inside in let i = in_later r inside in omega arith
    | inr other ↦ (let same : brought_board.mark d r ≡ g.mark d r = ap (λ f. f r) other.1 in omega arith)
  ]

  -- an attempt that began with an earlier S is at its end
  too_old : (s : ℕ) → (128 * g.version ≤ s → (s ≡ current_word g.version g.current)) → 128 * (g.version + 1) ≤ s → ⊥
  too_old s was_fresh fresh = let e = was_fresh (omega arith) in let c = was.current in omega arith

  written_stays : (q d : ℕ) (image : Image) → d ≢ b → MayBeWritten object sizes g d image → MayBeWritten object sizes brought_board d image
  written_stays q d image apart h = record {
    rows = h.rows;
    replies = λ r inside waits least.
        let held : g.announced r ≤ g.mark d r = subst (λ f. g.announced r ≤ f r) (set_at_elsewhere g.mark b (λ r. slice_index image'.applied r) d apart) least in
        h.replies r inside waits held ∙ sym (same_reply r (let m = was.marked d r inside in omega arith));
  }

  -- the calls of a version that has been are the same ones, and the next version has all
  at_old : (v : ℕ) → v ≤ g.version → brought_board.calls_in_version v ≡ g.calls_in_version v
  at_old v old = elim (lt_cases g.version v) [ inl new ↦ absurd (let n = new.0 in omega arith) | inr h ↦ rw h.1 refl ]

  at_new : (v : ℕ) → g.version < v → brought_board.calls_in_version v ≡ length agreed'
  at_new v new = elim (lt_cases g.version v) [ inl h ↦ rw h.1 refl | inr old ↦ absurd (let o = old.0 in omega arith) ]

  grown : length agreed' ≡ length g.atomic.agreed + length calls
  grown = length-append g.atomic.agreed calls

  at_most : (v : ℕ) → v ≤ g.version → g.calls_in_version v ≤ length g.atomic.agreed
  at_most v old = (let r = was.rising v g.version old in let c = was.counted g.version (omega arith) in omega arith)

  rising' : (v w : ℕ) → v ≤ w → brought_board.calls_in_version v ≤ brought_board.calls_in_version w
  rising' v w below = elim (lt_cases g.version w) [
    | inl new ↦ elim (lt_cases g.version v) [
      | inl also ↦ (let a = at_new v also.0 in let b = at_new w new.0 in omega arith)
      | inr old ↦ (let a = at_old v old.0 in let b = at_new w new.0 in let m = at_most v old.0 in let l = grown in omega arith)
    ]
    | inr old ↦ (let o = old.0 in let a = at_old v (omega arith) in let b = at_old w (omega arith) in let r = was.rising v w below in omega arith)
  ]

  -- a call that takes effect now is after all that did before
  stands_stays : (q k : ℕ) (call : Returned) → call.version ≤ g.version → StandsIn object g.atomic.agreed g.calls_in_version q k call → StandsIn object agreed' brought_board.calls_in_version q k call
  stands_stays q k call known h =
      let first : call.after ≤ g.version = elim (lt_cases g.version call.after) [
        | inl late ↦ absurd (let l = late.0 in let r = was.rising call.version call.after (omega arith) in let a = h.after in let b = h.before in omega arith)
        | inr old ↦ old.0
      ] in
      record {
        place = h.place;
        there = slice_get-append_left g.atomic.agreed calls h.place _ h.there;
        reply = response_kept h.place call.reply h.reply;
        after = (let a = h.after in let o = at_old call.after first in omega arith);
        before = (let b = h.before in let o = at_old call.version known in omega arith);
      }

  pub ordered_stays : (q after : ℕ) (own : List Returned) → IsOrdered object g.atomic.agreed g.calls_in_version g.version q after own → IsOrdered object agreed' brought_board.calls_in_version (g.version + 1) q after own
  ordered_stays q after own h = record {
    reached = (let r = h.reached in omega arith);
    later = λ c place at mine from. elim (get-append g.atomic.agreed calls place c at) [
      | inl old ↦ (let l = h.later c place old mine from in let o = at_old after h.reached in omega arith)
      | inr new ↦ (let e = new.1 in let o = at_old after h.reached in let m = at_most after h.reached in omega arith)
    ];
    known = λ k call at. (let v = h.known k call at in omega arith);
    stand = λ k call at. stands_stays q k call (h.known k call at) (h.stand k call at);
  }

  -- a process whose calls are all in has none among those that take effect now
  are_in_stays : (q version : ℕ) → g.announced q ≤ in_of g q → AreIn g q version → AreIn brought_board q version
  are_in_stays q version all_in h = (
    (let v = h.0 in omega arith),
    λ c place at mine below. elim (get-append g.atomic.agreed calls place c at) [
      | inl old ↦ (let b = h.1 c place old mine below in let o = at_old version h.0 in omega arith)
      | inr new ↦
          let seen_it = call_seen g.image.applied 0 seen c (get-contains calls new.0 c new.2) in
          let same : seen_it.0 ≡ q = (let z : 0 + seen_it.0 ≡ seen_it.0 = omega arith in sym (seen_it.1 ∙ z) ∙ mine) in
          let due = (known.told seen_it.0 c.inv seen_it.3).0 in
          let a : g.announced seen_it.0 ≡ g.announced q = ap g.announced same in
          let i : in_of g seen_it.0 ≡ in_of g q = ap (in_of g) same in
          absurd (omega arith)
    ],
  )

  -- all that took effect is in the next version
  pub all_now : (q version : ℕ) → version ≡ g.version + 1 → AreIn brought_board q version
  all_now q version is = (
    omega arith,
    λ c place at mine below. (let w = slice_get_within agreed' place c at in let a = at_new version (omega arith) in omega arith),
  )

  pub attempt_stays : (q d : ℕ) (stage : Stage) → q < sizes.processes → d ≢ b → IsAttemptAt object sizes g q d stage → IsAttemptAt object sizes brought_board q d stage
  attempt_stays q d (Idle stored) inside apart h = h
  attempt_stays q d (Ready t) inside apart h = omega arith
  attempt_stays q d (Reading t s copy seen) inside apart h = (h.0, λ fresh. absurd (too_old s (λ f. (h.1 f).0) fresh))
  attempt_stays q d (Writing t s image seen w) inside apart h = (h.0, (λ fresh. absurd (too_old s (λ f. (h.1 f).0) fresh)), written_stays q d (with_seen object image 0 seen) apart h.2, λ inv. written_stays q d (with_seen object image 0 (slice_set seen q (Some inv))) apart (h.3 inv))
  attempt_stays q d (Last s loaded) inside apart h = (
    h.0,
    (let m = mark_least (buffer_in s) q inside in let a = h.1 in omega arith),
    are_in_stays q (version_in s) (let m = was.marked (buffer_in s) q inside in let a = h.1 in omega arith) h.2,
    ap (take (length loaded)) (same_reply q (let m = was.marked (buffer_in s) q inside in let a = h.1 in omega arith)) ∙ h.3,
  )

  pub board' : IsBoard object sizes brought_board
  board' = record {
    current = b_inside;
    image = image_from-append object (first_image object sizes) g.atomic.agreed calls ∙ ap (λ i. image_from object i calls) was.image ∙ sym (with_seen-calls object g.image g.image.applied 0 seen);
    rows = rows';
    exact = exactly;
    marked = λ d r inside. elim (set_at-cases g.mark b (λ r. slice_index image'.applied r) d) [
      | inl here ↦ (let now : brought_board.mark d r ≡ slice_index image'.applied r = ap (λ f. f r) here.1 in omega arith)
      | inr other ↦ (let same : brought_board.mark d r ≡ g.mark d r = ap (λ f. f r) other.1 in let m = was.marked d r inside in let i = in_later r inside in omega arith)
    ];
    at_current = λ r inside. (let now : brought_board.mark b r ≡ slice_index image'.applied r = ap (λ f. f r) (set_at_same g.mark b (λ r. slice_index image'.applied r)) in omega arith);
    kept = λ d r k inside below room waits least. elim (set_at-cases g.mark b (λ r. slice_index image'.applied r) d) [
      | inl here ↦ ap (λ e. g.buffer e (reply_place sizes r k)) here.0 ∙ exactly (reply_place sizes r k) (let h = later r sizes.processes sizes.reply below in omega arith) ∙ spell-reply sizes image' rows' r k below room
      | inr other ↦
          let held : g.announced r ≤ g.mark d r = subst (λ f. g.announced r ≤ f r) other.1 least in
          was.kept d r k inside below room waits held ∙ ap (λ ws. slice_index ws k) (sym (same_reply r (let m = was.marked d r below in omega arith)))
    ];
    arguments = was.arguments;
    in_most = λ r inside. (let i = in_later r inside in let m = was.in_most r inside in elim (due_is r) [ inl none ↦ (let z = none in omega arith) | inr due ↦ (let d = due.0 in let a = due.1 in omega arith) ]);
    told_most = was.told_most;
    told_due = λ r inside due. was.told_due r inside (let i = in_later r inside in omega (arith, due));
    begun = λ r inside. (let e = was.begun r inside in omega arith);
    soon = λ r inside late. (let i = in_later r inside in let c = known.caught r (omega arith) (inr (omega arith)) in omega arith);
    versions = (let v = was.versions in elim (due_is p) [
      | inl none ↦ absurd (let c = known.caught p (omega arith) (inl refl) in let z = none in omega arith)
      | inr due ↦ (let s = sum-rises object g.image 0 seen p (let a = was.rows.applied in omega arith) due.0 in omega arith)
    ]);
    room = was.room;
    agreed = λ c has. elim (Contains-append_cases g.atomic.agreed calls c has) [
      | inl old ↦ (let h = was.agreed c old in (h.0, (let a = h.1 in let i = in_later c.process h.0 in omega arith)))
      | inr new ↦
          let h = call_seen g.image.applied 0 seen c new in
          let z : 0 + h.0 ≡ h.0 = omega arith in
          let at : c.process ≡ h.0 = h.1 ∙ z in
          let inside : c.process < sizes.processes = (let w = slice_get_within seen h.0 (Some c.inv) h.3 in omega arith) in
          let nth : c.nth ≡ in_of g c.process = h.2 ∙ ap (slice_index g.image.applied) (z ∙ sym at) in
          let due : due_at seen c.process ≡ 1 = elim (due_is c.process) [
            | inl none ↦ absurd (elim (due_cases seen h.0) [
              | inl nil ↦ due_not seen h.0 c.inv h.3 nil
              | inr one ↦ (let e : due_at seen c.process ≡ due_at seen h.0 = ap (due_at seen) at in let o = one.1 in let z = none in omega arith)
            ])
            | inr due_one ↦ due_one.0
          ] in
          (inside, (let i = in_later c.process inside in omega arith))
    ];
    counted = λ v late. at_new v (omega arith);
    rising = rising';
    start = was.start;
    history = AcceptsAll-append object (at_start object.initial) g.atomic (record g.atomic { agreed = agreed' }) g.acts (map (λ c. Linearize c) calls) was.history
        (linearized object g.image.applied 0 seen g.atomic (λ j inv at. opened j inv at) (λ c has. inr (was.agreed c has).1));
  } where
    due_not : (seen : List (Option (List ℕ))) (j : ℕ) (inv : List ℕ) → slice_get seen j ≡ Some (Some inv) → due_at seen j ≡ 0 → ⊥
    due_not [] j inv at z = let f = at in cc
    due_not (None ∷ seen) zero inv at z = let f : None ≡ Some inv = cc in cc
    due_not (Some i ∷ seen) zero inv at z = omega arith
    due_not (None ∷ seen) (suc j) inv at z = due_not seen j inv at z
    due_not (Some i ∷ seen) (suc j) inv at z = due_not seen j inv at z

    of_open : (r : ℕ) (inv : List ℕ) (l : Local) → g.announced r ≡ in_of g r + 1 → g.argument r ≡ inv → IsOpen object g r l.inv l.own
        → g.atomic.open_call r ≡ Some (record { process = r; nth = in_of g r; inv = inv })
    of_open r inv l due argument h =
        let nth : length l.own ≡ in_of g r = (let a = h.announced in omega arith) in
        let same : l.inv ≡ inv = sym (h.argument (sym nth)) ∙ argument in
        h.is_open ∙ (λ k. Some (record { process = r; nth = nth k; inv = same k }))

    of_attempted : (r : ℕ) (inv : List ℕ) (l : Local) (direct : Bool) → g.announced r ≡ in_of g r + 1 → g.argument r ≡ inv → IsAttempted object sizes g r l direct
        → g.atomic.open_call r ≡ Some (record { process = r; nth = in_of g r; inv = inv })
    of_attempted r inv l true due argument h = absurd (let a = h.announced in let i = h.in_is in omega arith)
    of_attempted r inv l false due argument h = of_open r inv l due argument h

    -- a call that was seen is open
    open_at : (r : ℕ) (inv : List ℕ) → r < sizes.processes → g.announced r ≡ in_of g r + 1 → g.argument r ≡ inv → (l : Local) (stage : Stage) → IsCallAt object sizes g r l stage
        → g.atomic.open_call r ≡ Some (record { process = r; nth = in_of g r; inv = inv })
    open_at r inv inside due argument l (Idle stored) h = absurd (let a = h.0.announced in let i = h.0.in_is in omega arith)
    open_at r inv inside due argument l (Ready t) h = of_attempted r inv l l.direct due argument h
    open_at r inv inside due argument l (Reading t s copy seen) h = of_attempted r inv l l.direct due argument h
    open_at r inv inside due argument l (Writing t s image seen w) h = of_attempted r inv l l.direct due argument h
    open_at r inv inside due argument l (Last s loaded) h = of_open r inv l due argument h

    opened : (j : ℕ) (inv : List ℕ) → slice_get seen j ≡ Some (Some inv) → g.atomic.open_call (0 + j) ≡ Some (record { process = 0 + j; nth = slice_index g.image.applied (0 + j); inv = inv })
    opened j inv at =
        let z : j ≡ 0 + j = omega arith in
        let inside : j < sizes.processes = (let w = slice_get_within seen j (Some inv) at in omega arith) in
        let told = known.told j inv at in
        subst (λ k. g.atomic.open_call k ≡ Some (record { process = k; nth = slice_index g.image.applied k; inv = inv })) z
        (open_at j inv inside told.0 (argument_is j inv at) (local j) (local j).stage (sound.each j inside).call)

module _ {O : Type 0} (meaning : O → Meaning) (o : O) (sizes : Sizes) (id : ℕ) (few : sizes.processes ≤ 64) (st : Step Seen) (me : Me Seen (View O)) (single : me.0.known.count ≡ 1)
    (steady : IsSteady (meaning o).object (meaning o).reply) where
  abbrev object : Sequential (List ℕ) (List ℕ) (List ℕ)
  object = (meaning o).object

  abbrev p : ℕ
  p = me.0.known.first

  abbrev l : Local
  l = me.0.known.local

  module _ (announced : IsAnnounced me) (tries s : ℕ) (has : HasWrittenAll object sizes tries s me) (new_is : st.second ≡ current_word (version_in s + 1) (2 * p + l.spare)) where
    abbrev image : Image
    image = has.0

    abbrev seen : List (Option (List ℕ))
    seen = has.1.0

    abbrev written : ℕ
    written = has.1.1

    stage : l.stage ≡ Writing tries s image seen written
    stage = has.1.2

    -- what the seat is told is by what was found
    told : (found : ℕ) (l' : Local) (test : Bool) → (found == s) ≡ test → (if test then brings l st.second else goes l (Ready (tries + 1))) ≡ l'
        → HasBrought st me found (with_local me.0 l', me.1)
    told found l' test is same tries' s' written' image' seen' stage' =
        let e : Writing tries s image seen written ≡ Writing tries' s' image' seen' written' = sym stage ∙ stage' in
        let a : tries ≡ tries' = cc in let c : s ≡ s' = cc in
        let here : brought l tries s st.second found ≡ l' = rw is same in
        ap (λ (x : Local). (with_local me.0 x, me.1)) (sym here ∙ (λ k. brought l (a k) (c k) st.second found))

    module _ (g : Board) (local : ℕ → Local) (words : List ℕ) (f : Found meaning o sizes me g local words) where
      steadily : IsSteady object sizes.reply
      steadily = subst (IsSteady object) f.widths.1 steady

      call : IsOpen object g p l.inv l.own
      call = subst (IsAttempted object sizes g p l) announced (call_at object sizes g p l (Writing tries s image seen written) f.mine stage)

      at_it : IsAttemptAt object sizes g p (2 * p + l.spare) (Writing tries s image seen written)
      at_it = attempt_at object sizes g p l (Writing tries s image seen written) f.mine stage

      -- S has changed
      miss : slice_index words 0 ≢ s → Given meaning o sizes me g local (slice_set words 0 (slice_index words 0)) (takes_effect s seen g (slice_index words 0)) (HasBrought st me (slice_index words 0))
      miss apart = record {
        board = g;
        local' = goes l (Ready (tries + 1));
        sound = sound_same object sizes g local p (goes l (Ready (tries + 1))) f.sound (record {
          spare = f.mine.spare;
          apart = f.mine.apart;
          held = f.mine.held;
          told = f.mine.told;
          call = call_at object sizes g p l (Writing tries s image seen written) f.mine stage;
          attempt = elim (lt_cases s (128 * g.version)) [
            | inl old ↦ (let a = at_it.0 in let b = old.0 in omega arith)
            | inr new ↦ absurd (apart (f.words_are.current ∙ sym (at_it.1 new.0).0))
          ];
          ordered = f.mine.ordered;
          read = f.mine.read;
        });
        words_are = subst (AreWords sizes g) (sym (set-get_or words 0 0)) f.words_are;
        said = elim (number_cases (slice_index words 0) s) [
          | inl same ↦ absurd (apart same.0)
          | inr other ↦ told (slice_index words 0) (goes l (Ready (tries + 1))) false other.1 refl
        ];
        appended = elim (number_cases (slice_index words 0) s) [ inl same ↦ absurd (apart same.0) | inr other ↦ rw other.1 (sym (append-nil g.acts)) ];
      }

      -- S is as it was
      hit : slice_index words 0 ≡ s → Given meaning o sizes me g local (slice_set words 0 st.second) (takes_effect s seen g (slice_index words 0)) (HasBrought st me (slice_index words 0))
      hit same =
          let is : s ≡ current_word g.version g.current = sym same ∙ f.words_are.current in
          let now = at_it.1 (omega arith) in
          let out : in_of g p < g.announced p = now.1.3 (record { process = p; nth = length l.own; inv = l.inv }, call.is_open) in
          let small : g.current < 128 = (let c = f.sound.board.current in omega arith) in
          let version : version_in s ≡ g.version = ap version_in is ∙ version_of g.version g.current small in
          let b_inside : 2 * p + l.spare < 2 * sizes.processes = (let i = f.inside in let c = f.mine.spare in omega arith) in
          let b_small : 2 * p + l.spare < 128 = omega arith in
          let written : MayBeWritten object sizes g (2 * p + l.spare) (with_seen object g.image 0 seen) = subst (λ i. MayBeWritten object sizes g (2 * p + l.spare) (with_seen object i 0 seen)) now.1.0 at_it.2 in
          let exactly : (i : ℕ) → i < buffer_words sizes → g.buffer (2 * p + l.spare) i ≡ slice_index (spell (with_seen object g.image 0 seen)) i
          = (λ i below. f.mine.held.words l.spare i f.mine.spare below ∙ has.1.3 i below ∙ ap (λ m. slice_index (spell (with_seen object m 0 seen)) i) now.1.0) in
          let g' : Board = brought_board object sizes steadily few g local f.sound seen now.1.1 now.1.4 p f.inside now.1.2 out (2 * p + l.spare) b_inside written exactly in
          let word : st.second ≡ current_word (g.version + 1) (2 * p + l.spare) = new_is ∙ ap (λ v. current_word (v + 1) (2 * p + l.spare)) version in
          let named : buffer_in st.second ≡ 2 * p + l.spare = ap buffer_in word ∙ buffer_of (g.version + 1) (2 * p + l.spare) b_small in
          record {
            board = g';
            local' = brings l st.second;
            sound = sound_with object sizes g g' local p (brings l st.second) f.sound
                (board' object sizes steadily few g local f.sound seen now.1.1 now.1.4 p f.inside now.1.2 out (2 * p + l.spare) b_inside written exactly)
                (λ q inside apart h.
                let other : 2 * q + (local q).spare ≢ 2 * p + l.spare = (λ e. apart (let a = h.spare in let c = f.mine.spare in omega arith)) in
                record {
                  spare = h.spare;
                  apart = other;
                  held = record { long = h.held.long; words = h.held.words };
                  told = h.told;
                  call = call_stays object sizes steadily few g local f.sound seen now.1.1 now.1.4 p f.inside now.1.2 out (2 * p + l.spare) b_inside written exactly q (local q) (local q).stage inside h.call;
                  attempt = attempt_stays object sizes steadily few g local f.sound seen now.1.1 now.1.4 p f.inside now.1.2 out (2 * p + l.spare) b_inside written exactly q (2 * q + (local q).spare) (local q).stage inside other h.attempt;
                  ordered = ordered_stays object sizes steadily few g local f.sound seen now.1.1 now.1.4 p f.inside now.1.2 out (2 * p + l.spare) b_inside written exactly q (local q).after (local q).own h.ordered;
                  read = h.read;
                })
                (record {
                  spare = omega arith;
                  apart = (λ e. let c = f.mine.spare in omega arith);
                  held = record { long = f.mine.held.long; words = f.mine.held.words };
                  told = f.mine.told;
                  call = open_stays object sizes steadily few g local f.sound seen now.1.1 now.1.4 p f.inside now.1.2 out (2 * p + l.spare) b_inside written exactly p l.inv l.own f.inside call;
                  attempt = (
                    subst (λ b. b < 2 * sizes.processes) (sym named) b_inside,
                    subst (λ b. g.announced p ≤ g'.mark b p) (sym named) (
                        let marked : g'.mark (2 * p + l.spare) p ≡ slice_index (with_seen object g.image 0 seen).applied p = ap (λ f. f p) (set_at_same g.mark (2 * p + l.spare) _) in
                        let later = in_later object sizes steadily few g local f.sound seen now.1.1 now.1.4 p f.inside now.1.2 out (2 * p + l.spare) b_inside written exactly p f.inside in
                        let caught = now.1.2.caught p (let w = now.1.1 in let i = f.inside in omega arith) (inl refl) in omega arith),
                    all_now object sizes steadily few g local f.sound seen now.1.1 now.1.4 p f.inside now.1.2 out (2 * p + l.spare) b_inside written exactly p (version_in st.second) (ap version_in word ∙ version_of (g.version + 1) (2 * p + l.spare) b_small),
                    refl,
                  );
                  ordered = ordered_stays object sizes steadily few g local f.sound seen now.1.1 now.1.4 p f.inside now.1.2 out (2 * p + l.spare) b_inside written exactly p l.after l.own f.mine.ordered;
                  read = f.mine.read;
                });
            words_are = words_current sizes g g' words f.words_are refl refl refl st.second word;
            said = elim (number_cases (slice_index words 0) s) [
              | inl here ↦ told (slice_index words 0) (brings l st.second) true here.1 refl
              | inr other ↦ absurd (other.0 same)
            ];
            appended = elim (number_cases (slice_index words 0) s) [ inl here ↦ rw here.1 refl | inr other ↦ absurd (other.0 same) ];
          }

    pub brings_in : Moves meaning o sizes id me 0 (λ found. either (eqb found s) st.second found) (takes_effect s seen) (λ found me'. HasBrought st me found me')
    brings_in = step_law meaning o sizes id me 0 (λ found. either (eqb found s) st.second found) (takes_effect s seen) (λ found me'. HasBrought st me found me') single (bring_steps meaning o sizes st me tries s has announced new_is) (λ g local words f.
        exchanged (slice_index words 0) s st.second (λ x. Given meaning o sizes me g local (slice_set words 0 x) (takes_effect s seen g (slice_index words 0)) (HasBrought st me (slice_index words 0)))
        (hit g local words f) (miss g local words f))

  -- the exchange of a direct attempt
  module _ (direct : IsDirect me) (s number : ℕ) (inv : List ℕ) (whole : length inv ≡ sizes.invocation) (number_is : number ≡ length l.own + 1) (room : number ≤ most_calls) (has : HasWrittenOwn object sizes s inv me)
      (new_is : st.second ≡ current_word (version_in s + 1) (2 * p + l.spare)) where
    abbrev own_image : Image
    own_image = has.0

    abbrev own_seen : List (Option (List ℕ))
    own_seen = has.1.0

    abbrev all : List (Option (List ℕ))
    all = slice_set own_seen p (Some inv)

    abbrev own_written : ℕ
    own_written = has.1.1

    own_stage : l.stage ≡ Writing 0 s own_image own_seen own_written
    own_stage = has.1.2

    abbrev LeftOwn : (found : ℕ) → Me Seen (View O) → Type 0
    LeftOwn found me' = IsLeft me (brought_own l s st.second inv found) me'

    told_own : (found : ℕ) (l' : Local) (test : Bool) → (found == s) ≡ test → (if test then brings_own l st.second inv else goes l (Idle [])) ≡ l'
        → LeftOwn found (with_local me.0 l', me.1)
    told_own found l' test is same =
        let here : brought_own l s st.second inv found ≡ l' = rw is same in
        ap (λ (x : Local). (with_local me.0 x, me.1)) (sym here)

    module _ (g : Board) (local : ℕ → Local) (words : List ℕ) (f : Found meaning o sizes me g local words) where
      steadily_own : IsSteady object sizes.reply
      steadily_own = subst (IsSteady object) f.widths.1 steady

      attempted : IsAttempted object sizes g p l l.direct
      attempted = call_at object sizes g p l (Writing 0 s own_image own_seen own_written) f.mine own_stage

      closed : IsClosed g p l.own
      closed = subst (IsAttempted object sizes g p l) direct attempted

      at_own : IsAttemptAt object sizes g p (2 * p + l.spare) (Writing 0 s own_image own_seen own_written)
      at_own = attempt_at object sizes g p l (Writing 0 s own_image own_seen own_written) f.mine own_stage

      -- S has changed: no call has begun
      miss_own : slice_index words 0 ≢ s → Given meaning o sizes me g local (slice_set words 0 (slice_index words 0)) (takes_effect_own l p inv s own_seen g (slice_index words 0)) (LeftOwn (slice_index words 0))
      miss_own apart = record {
        board = g;
        local' = goes l (Idle []);
        sound = sound_same object sizes g local p (goes l (Idle [])) f.sound (record {
          spare = f.mine.spare;
          apart = f.mine.apart;
          held = f.mine.held;
          told = f.mine.told;
          call = (closed, refl);
          attempt = tt;
          ordered = f.mine.ordered;
          read = f.mine.read;
        });
        words_are = subst (AreWords sizes g) (sym (set-get_or words 0 0)) f.words_are;
        said = elim (number_cases (slice_index words 0) s) [
          | inl same ↦ absurd (apart same.0)
          | inr other ↦ told_own (slice_index words 0) (goes l (Idle [])) false other.1 refl
        ];
        appended = elim (number_cases (slice_index words 0) s) [ inl same ↦ absurd (apart same.0) | inr other ↦ rw other.1 (sym (append-nil g.acts)) ];
      }

      -- the board on which the call has begun: no word tells of it
      abbrev argument' : ℕ → List ℕ
      argument' = set_at g.argument p inv

      abbrev g1 : Board
      g1 = begun_board object sizes g local f.sound p f.inside l f.mine closed inv whole argument' (set_at_same g.argument p inv) (λ q apart. set_at_elsewhere g.argument p inv q apart) number number_is room

      abbrev local1 : ℕ → Local
      local1 = set_at local p (announces l inv)

      sound1 : IsSound object sizes g1 local1
      sound1 = begun_sound object sizes g local f.sound p f.inside l f.mine closed inv whole argument' (set_at_same g.argument p inv) (λ q apart. set_at_elsewhere g.argument p inv q apart) number number_is room

      mine1 : IsAt object sizes g1 p (announces l inv)
      mine1 = mine_then object sizes g local f.sound p f.inside l f.mine closed inv whole argument' (set_at_same g.argument p inv) (λ q apart. set_at_elsewhere g.argument p inv q apart) number number_is room

      others1 : (q : ℕ) → q < sizes.processes → q ≢ p → (k : Local) → IsAt object sizes g q k → IsAt object sizes g1 q k
      others1 = others_stay object sizes g local f.sound p f.inside l f.mine closed inv whole argument' (set_at_same g.argument p inv) (λ q apart. set_at_elsewhere g.argument p inv q apart) number number_is room

      announced1 : set_at g.announced p number p ≡ in_of g p + 1
      announced1 = (let a = set_at_same g.announced p number in let c = closed.in_is in omega (arith, number_is))

      module _ (same : slice_index words 0 ≡ s) where
        is : s ≡ current_word g.version g.current
        is = sym same ∙ f.words_are.current

        small : g.current < 128
        small = (let c = f.sound.board.current in omega arith)

        version : version_in s ≡ g.version
        version = ap version_in is ∙ version_of g.version g.current small

        fresh : 128 * g.version ≤ s
        fresh = omega (arith, is)

        known : HasSeen g p own_seen
        known = (at_own.1 fresh).1.2

        wide : length own_seen ≡ sizes.processes
        wide = (at_own.1 fresh).1.1

        image_is : own_image ≡ g.image
        image_is = (at_own.1 fresh).1.0

        long1 : length all ≡ sizes.processes
        long1 = length-set own_seen p (Some inv) ∙ wide

        full1 : AreWhole sizes all
        full1 r i at = elim (get-set own_seen p r (Some inv) (Some i) at) [
          | inl here ↦ (let e : inv ≡ i = (let d : Some inv ≡ Some i = here.1 in cc) in ap (λ (ws : List ℕ). length ws) (sym e) ∙ whole)
          | inr there ↦ (at_own.1 fresh).1.4 r i there.1
        ]

        known1 : HasSeen g1 p all
        known1 = record {
          told = λ r i at. elim (get-set own_seen p r (Some inv) (Some i) at) [
            | inl here ↦
                let e : inv ≡ i = (let d : Some inv ≡ Some i = here.1 in cc) in (
                  ap (set_at g.announced p number) here.0 ∙ announced1 ∙ ap (λ q. in_of g q + 1) (sym here.0),
                  ap (take (length i)) (ap argument' here.0 ∙ set_at_same g.argument p inv ∙ e) ∙ take-length i,
                )
            | inr there ↦
                let t = known.told r i there.1 in (
                  set_at_elsewhere g.announced p number r there.0 ∙ t.0,
                  ap (take (length i)) (set_at_elsewhere g.argument p inv r there.0) ∙ t.1,
                )
          ];
          caught = λ r below why. elim (number_cases r p) [
            | inl here ↦
                let a : set_at g.announced p number r ≡ in_of g p + 1 = ap (set_at g.announced p number) here.0 ∙ announced1 in
                let c : in_of g r ≡ in_of g p = ap (in_of g) here.0 in
                let d : due_at all r ≡ 1 = ap (due_at all) here.0 ∙ due-here own_seen p inv (let i = f.inside in let w = wide in omega arith) in
                omega arith
            | inr other ↦
                let a : set_at g.announced p number r ≡ g.announced r = set_at_elsewhere g.announced p number r other.0 in
                let d : due_at all r ≡ due_at own_seen r = due-set own_seen p r (Some inv) other.0 in
                let c = known.caught r (let l = length-set own_seen p (Some inv) in omega (arith, below)) (elim why [
                  | inl own ↦ absurd (other.0 own)
                  | inr late ↦ inr (subst (λ x. x < g.version) (set_at_elsewhere g.since p g.version r other.0) late)
                ]) in
                omega arith
          ];
        }

        out1 : in_of g p < set_at g.announced p number p
        out1 = (let a = announced1 in omega arith)

        b_inside : 2 * p + l.spare < 2 * sizes.processes
        b_inside = (let i = f.inside in let c = f.mine.spare in omega arith)

        written1 : MayBeWritten object sizes g1 (2 * p + l.spare) (with_seen object g.image 0 all)
        written1 = may_write object sizes steadily_own g1 p (2 * p + l.spare) sound1.board all all known1 (λ r apart. refl)
            (λ waits least. let m = f.sound.board.marked (2 * p + l.spare) p f.inside in let a = announced1 in omega (arith, least))

        exactly1 : (i : ℕ) → i < buffer_words sizes → g.buffer (2 * p + l.spare) i ≡ slice_index (spell (with_seen object g.image 0 all)) i
        exactly1 i below = f.mine.held.words l.spare i f.mine.spare below ∙ has.1.3 i below ∙ ap (λ m. slice_index (spell (with_seen object m 0 all)) i) image_is

        -- and then all that was seen takes effect, with it
        abbrev g2 : Board
        g2 = brought_board object sizes steadily_own few g1 local1 sound1 all long1 full1 p f.inside known1 out1 (2 * p + l.spare) b_inside written1 exactly1

        board2 : IsBoard object sizes g2
        board2 = board' object sizes steadily_own few g1 local1 sound1 all long1 full1 p f.inside known1 out1 (2 * p + l.spare) b_inside written1 exactly1

        in_then : slice_index (with_seen object g.image 0 all).applied p ≡ number
        in_then =
            let i = in_later object sizes steadily_own few g1 local1 sound1 all long1 full1 p f.inside known1 out1 (2 * p + l.spare) b_inside written1 exactly1 p f.inside in
            let d = due-here own_seen p inv (let i = f.inside in let w = wide in omega arith) in
            let c = closed.in_is in omega (arith, number_is)

        -- the words are as they were, but for S
        abbrev g3 : Board
        g3 = quiet object sizes g2 g.told g2.announced g.argument g2.since g2.buffer g2.atomic g2.acts

        board3 : IsBoard object sizes g3
        board3 = record {
          current = board2.current;
          image = board2.image;
          rows = board2.rows;
          exact = board2.exact;
          marked = board2.marked;
          at_current = board2.at_current;
          kept = board2.kept;
          arguments = f.sound.board.arguments;
          in_most = board2.in_most;
          told_most = λ r inside. elim (number_cases r p) [
            | inl here ↦
                let t = f.sound.board.told_most r inside in
                let a : g.announced r ≡ g.announced p = ap g.announced here.0 in
                let n : set_at g.announced p number r ≡ number = ap (set_at g.announced p number) here.0 ∙ set_at_same g.announced p number in
                let c = closed.announced in omega (arith, number_is)
            | inr other ↦ (let t = f.sound.board.told_most r inside in let n = set_at_elsewhere g.announced p number r other.0 in omega arith)
          ];
          told_due = λ r inside due. elim (number_cases r p) [
            | inl here ↦ absurd (
                let n : set_at g.announced p number r ≡ number = ap (set_at g.announced p number) here.0 ∙ set_at_same g.announced p number in
                let i : slice_index (with_seen object g.image 0 all).applied r ≡ number = ap (slice_index (with_seen object g.image 0 all).applied) here.0 ∙ in_then in
                omega (arith, due))
            | inr other ↦ sym (set_at_elsewhere g.told p number r other.0) ∙ board2.told_due r inside due
          ];
          begun = board2.begun;
          soon = board2.soon;
          versions = board2.versions;
          room = board2.room;
          agreed = board2.agreed;
          counted = board2.counted;
          rising = board2.rising;
          start = board2.start;
          history = board2.history;
        }

        others3 : (q : ℕ) → q < sizes.processes → q ≢ p → IsAt object sizes g q (local q) → IsAt object sizes g3 q (local q)
        others3 q inside apart h0 =
            let h = others1 q inside apart (local q) h0 in
            let other : 2 * q + (local q).spare ≢ 2 * p + l.spare = (λ e. apart (let a = h0.spare in let c = f.mine.spare in omega (arith, e))) in
            at_stays object sizes g2 g.told g2.announced g.argument g2.since g2.buffer g2.atomic g2.acts q (local q)
            (record {
              since = refl;
              seen = λ seen k. record {
                told = λ r i at. let t = k.told r i at in elim (number_cases r p) [
                  | inl here ↦ absurd (
                      let n : set_at g.announced p number r ≡ number = ap (set_at g.announced p number) here.0 ∙ set_at_same g.announced p number in
                      let j : slice_index (with_seen object g.image 0 all).applied r ≡ number = ap (slice_index (with_seen object g.image 0 all).applied) here.0 ∙ in_then in
                      omega (arith, t.0))
                  | inr there ↦ (t.0, ap (take (length i)) (sym (set_at_elsewhere g.argument p inv r there.0)) ∙ t.1)
                ];
                caught = k.caught;
              };
              announced = refl;
              argument = sym (set_at_elsewhere g.argument p inv q apart);
              buffer = λ which i either. refl;
              marked = λ r below w m. (w, m);
              is_open = refl;
              next = refl;
              agreed = refl;
              told = sym (set_at_elsewhere g.told p number q apart);
              acts = refl;
            })
            (record {
              spare = h.spare;
              apart = other;
              held = record { long = h.held.long; words = h.held.words };
              told = h.told;
              call = call_stays object sizes steadily_own few g1 local1 sound1 all long1 full1 p f.inside known1 out1 (2 * p + l.spare) b_inside written1 exactly1 q (local q) (local q).stage inside h.call;
              attempt = attempt_stays object sizes steadily_own few g1 local1 sound1 all long1 full1 p f.inside known1 out1 (2 * p + l.spare) b_inside written1 exactly1 q (2 * q + (local q).spare) (local q).stage inside other h.attempt;
              ordered = ordered_stays object sizes steadily_own few g1 local1 sound1 all long1 full1 p f.inside known1 out1 (2 * p + l.spare) b_inside written1 exactly1 q (local q).after (local q).own h.ordered;
              read = h.read;
            })

        word : st.second ≡ current_word (g.version + 1) (2 * p + l.spare)
        word = new_is ∙ ap (λ v. current_word (v + 1) (2 * p + l.spare)) version

        b_small : 2 * p + l.spare < 128
        b_small = (let b = b_inside in omega arith)

        named : buffer_in st.second ≡ 2 * p + l.spare
        named = ap buffer_in word ∙ buffer_of (g.version + 1) (2 * p + l.spare) b_small

        open2 : IsOpen object g2 p inv l.own
        open2 = open_stays object sizes steadily_own few g1 local1 sound1 all long1 full1 p f.inside known1 out1 (2 * p + l.spare) b_inside written1 exactly1 p inv l.own f.inside mine1.call

        mine3 : IsAt object sizes g3 p (brings_own l st.second inv)
        mine3 = record {
          spare = omega arith;
          apart = (λ e. let c = f.mine.spare in omega (arith, e));
          held = record { long = f.mine.held.long; words = f.mine.held.words };
          told = f.mine.told;
          call = record {
            is_open = open2.is_open;
            next = open2.next;
            announced = open2.announced;
            argument = λ out. absurd (let i = in_then in omega (arith, out, number_is));
            in_least = open2.in_least;
            taken = λ more. (let t = open2.taken more in record { place = t.place; there = t.there; reply_is = t.reply_is });
            acts = open2.acts;
          };
          attempt = (
            subst (λ b. b < 2 * sizes.processes) (sym named) b_inside,
            subst (λ b. set_at g.announced p number p ≤ g2.mark b p) (sym named) (
                let marked : g2.mark (2 * p + l.spare) p ≡ slice_index (with_seen object g.image 0 all).applied p = ap (λ f. f p) (set_at_same g.mark (2 * p + l.spare) _) in
                let i = in_then in let n = set_at_same g.announced p number in omega arith),
            all_now object sizes steadily_own few g1 local1 sound1 all long1 full1 p f.inside known1 out1 (2 * p + l.spare) b_inside written1 exactly1 p (version_in st.second) (ap version_in word ∙ version_of (g.version + 1) (2 * p + l.spare) b_small),
            refl,
          );
          ordered = ordered_stays object sizes steadily_own few g1 local1 sound1 all long1 full1 p f.inside known1 out1 (2 * p + l.spare) b_inside written1 exactly1 p l.after l.own mine1.ordered;
          read = f.mine.read;
        }

        hit_own : Given meaning o sizes me g local (slice_set words 0 st.second) (takes_effect_own l p inv s own_seen g (slice_index words 0)) (LeftOwn (slice_index words 0))
        hit_own = record {
          board = g3;
          local' = brings_own l st.second inv;
          sound = sound_with object sizes g g3 local p (brings_own l st.second inv) f.sound board3 others3 mine3;
          words_are = words_current sizes g g3 words f.words_are refl refl refl st.second word;
          said = elim (number_cases (slice_index words 0) s) [
            | inl here ↦ told_own (slice_index words 0) (brings_own l st.second inv) true here.1 refl
            | inr other ↦ absurd (other.0 same)
          ];
          appended = elim (number_cases (slice_index words 0) s) [
            | inl here ↦ rw here.1 (append_assoc g.acts (Invoke p (length l.own) inv ∷ []) (map (λ c. Linearize c) (calls_seen g.image.applied 0 all)))
            | inr other ↦ absurd (other.0 same)
          ];
        }

    pub brings_in_left : Moves meaning o sizes id me 0 (λ found. either (eqb found s) st.second found) (takes_effect_own l p inv s own_seen) LeftOwn
    brings_in_left = step_law meaning o sizes id me 0 (λ found. either (eqb found s) st.second found) (takes_effect_own l p inv s own_seen) LeftOwn single (bring_own_steps meaning o sizes st me s inv has direct whole (omega (arith, number_is, room)) new_is) (λ g local words f.
        exchanged (slice_index words 0) s st.second (λ x. Given meaning o sizes me g local (slice_set words 0 x) (takes_effect_own l p inv s own_seen g (slice_index words 0)) (LeftOwn (slice_index words 0)))
        (λ same. hit_own g local words f same) (miss_own g local words f))

    -- and the exchange that is told the call
    pub brings_in_own : (its : Seen) → st.said ≡ some its → its.invocation.items ≡ inv
        → Moves meaning o sizes id me 0 (λ found. either (eqb found s) st.second found) (takes_effect_own l p inv s own_seen) (λ found me'. HasBroughtOwn st me found me')
    brings_in_own its said_is inv_is state g local seat_of is at =
        let h = brings_in_left state g local seat_of is at in (h.0, (h.1.0, h.1.1, told_to (slice_index state.words 0) (h.0, me.1) h.1.2, h.1.3, h.1.4)) where
          told_to : (found : ℕ) (me' : Me Seen (View O)) → LeftOwn found me' → HasBroughtOwn st me found me'
          told_to found me' left s' written' image' seen' its' stage' said' =
              let e : Writing 0 s own_image own_seen own_written ≡ Writing 0 s' image' seen' written' = sym own_stage ∙ stage' in
              let c : s ≡ s' = cc in
              let t : its ≡ its' = some-injective its its' (sym said_is ∙ said') in
              let words : inv ≡ its'.invocation.items = sym inv_is ∙ ap (λ (x : Seen). x.invocation.items) t in
              left ∙ (λ k. (with_local me.0 (brought_own l (c k) st.second (words k) found), me.1))
