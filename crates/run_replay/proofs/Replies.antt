-- The replies of the bars are the responses of the history.
use Rattle.run_replay.proofs.Vocabulary.{AreAccepted, BarsHaveTheReplies, Bool, Call, CallId, Called, Completed, CountsSteps, End, Event, IfSome, IsAccepted, IsSome, List, None, Option, Pending, Reply, Reshape, RunMarks, Some, SpokenObject, Step, Trim, WorldOf, [], ap, append-nil, arith, bar_begun, bar_ended, bars_in, completed_by, completed_in, current_of, end_in, end_of_step, eq-eqb, eqb-true, false, flat_map, flat_map-append, if◌then◌else◌, inl, inr, map, map-append, map-map, marks_with, ne_eqb, number_cases, opened_world, option_and_then, option_map, option_map_or, option_or, option_to_list, place_of, refl, replies_in_order, reply_at, reply_text, response_after, response_of_step, subst, sym, true, world_after, world_after_era, world_after_step, ℕ, ◌++◌, ◌+◌, ◌-◌, ◌<◌, ◌==◌, ◌∙◌, ◌∷◌, ◌≡◌, ◌≢◌, ◌≤◌}
use Rattle.uni_model.specs.Helping.{HelpingInvariant}
use Rattle.uni_model.proofs.Bounded.{HelpingInvariant-opened_world, HelpingInvariant-world_after}
use Rattle.uni_model.proofs.Counted.{CountsSteps-opened_world, CountsSteps-world_after}
use Rattle.uni_record.proofs.Kept.{nothing_completed, one_completed}
use Rattle.uni_record.proofs.Promised.{returns_are_responses}
use Rattle.uni_script.proofs.Helped.{pending-world_after_step}
use Rattle.run_replay.proofs.Replayed.{end_of_step-none, bar_later, marks_then-event, flat-none, flat-same}
use Rattle.run_replay.proofs.Inside.{kept_by_era, last_or_silent, end_in-place}

-- the reply of a call that ends so, if with the event at this place
abbrev reply_of : (place : ℕ) → CallId → Option End → List Reply
reply_of place call end = option_map_or (λ (e : End). if e.event == place then record { call = call; text = e.reply } ∷ [] else []) end []

-- one that ends at another place
reply_elsewhere : (place : ℕ) (call : CallId) (end : Option End) → IfSome end (λ e. e.event ≢ place) → reply_of place call end ≡ []
reply_elsewhere place call None apart = refl
reply_elsewhere place call (Some e) apart = ap (λ t. if t then record { call = call; text = e.reply } ∷ [] else []) (ne_eqb e.event place apart)

-- an open bar of a process
abbrev open_of : (p : ℕ) → Called → List CallId
open_of p b = option_map_or (λ (e : End). []) b.end (if p == b.call.process then b.call ∷ [] else [])

-- none of these bars ends at this place or a later one
abbrev AreSilent : (place : ℕ) → List Called → Type 0
AreSilent place bars = (k : ℕ) → place ≤ k → flat_map (reply_at k) bars ≡ []

both_empty : {A : Type 0} (xs ys : List A) → xs ++ ys ≡ [] → (xs ≡ []) × (ys ≡ [])
both_empty [] ys e = (refl, e)
both_empty (x ∷ xs) ys e = absurd (cc)

-- the open bars of a process end with a reply each
replies_of_ended : (place q : ℕ) (end : End) → end.event ≡ place → (bars : List Called) → flat_map (reply_at place) bars ≡ []
    → flat_map (reply_at place) (map (bar_ended q end) bars) ≡ map (λ call. record { call = call; text = end.reply }) (flat_map (open_of q) bars)
replies_of_ended place q end here [] silent = refl
replies_of_ended place q end here (b ∷ bars) silent =
    let each = both_empty (reply_at place b) (flat_map (reply_at place) bars) silent in
    ap (λ l. l ++ flat_map (reply_at place) (map (bar_ended q end) bars)) (by_end b.end each.0 (q == b.call.process))
    ∙ ap (λ l. map made (option_map_or (λ (e : End). []) b.end (if q == b.call.process then b.call ∷ [] else [])) ++ l) (replies_of_ended place q end here bars each.1)
    ∙ sym (map-append made (open_of q b) (flat_map (open_of q) bars))
  where
    made : CallId → Reply
    made call = record { call = call; text = end.reply }

    by_end : (o : Option End) → reply_of place b.call o ≡ [] → (t : Bool)
        → reply_of place b.call (option_or o (if t then Some end else None)) ≡ map made (option_map_or (λ (e : End). []) o (if t then b.call ∷ [] else []))
    by_end None none true = ap (λ t. if t then made b.call ∷ [] else []) (eq-eqb end.event place here)
    by_end None none false = refl
    by_end (Some e) none t = none

-- at another place nothing ends
replies_elsewhere : (place q : ℕ) (end : End) → end.event ≢ place → (bars : List Called) → flat_map (reply_at place) (map (bar_ended q end) bars) ≡ flat_map (reply_at place) bars
replies_elsewhere place q end apart bars = flat-same (reply_at place) (bar_ended q end) (reply_at place) (λ b. by_end b.call b.end (q == b.call.process)) bars
  where
    by_end : (call : CallId) (o : Option End) (t : Bool) → reply_of place call (option_or o (if t then Some end else None)) ≡ reply_of place call o
    by_end call None true = reply_elsewhere place call (Some end) apart
    by_end call None false = refl
    by_end call (Some e) t = refl

-- no bar of the process is open then
none_open : (q : ℕ) (end : End) (bars : List Called) → flat_map (open_of q) (map (bar_ended q end) bars) ≡ []
none_open q end bars = flat-same (open_of q) (bar_ended q end) (λ b. []) (λ b. by_end b b.end (q == b.call.process)) bars ∙ flat-none bars
  where
    by_end : (b : Called) (o : Option End) (t : Bool) → option_map_or (λ (e : End). []) (option_or o (if t then Some end else None)) (if t then b.call ∷ [] else []) ≡ []
    by_end b None true = refl
    by_end b None false = refl
    by_end b (Some e) t = refl

-- while those of other processes stay open
others_open : (p q : ℕ) (end : End) → p ≢ q → (bars : List Called) → flat_map (open_of p) (map (bar_ended q end) bars) ≡ flat_map (open_of p) bars
others_open p q end apart bars = flat-same (open_of p) (bar_ended q end) (open_of p) (λ b. by_end b b.end (q == b.call.process) refl) bars
  where
    by_end : (b : Called) (o : Option End) (t : Bool) → (q == b.call.process) ≡ t
        → option_map_or (λ (e : End). []) (option_or o (if t then Some end else None)) (if p == b.call.process then b.call ∷ [] else [])
        ≡ option_map_or (λ (e : End). []) o (if p == b.call.process then b.call ∷ [] else [])
    by_end b None true is = sym (ap (λ t. if t then b.call ∷ [] else []) (ne_eqb p b.call.process (λ same. apart (same ∙ sym (eqb-true q b.call.process is)))))
    by_end b None false is = refl
    by_end b (Some e) t is = refl

module _ {S I R : Type 0} (o : SpokenObject S I R) where
  -- the bars so far: which of them have ended, and which are open
  record IsSoFar (w : WorldOf S I R) (place : ℕ) (bars : List Called) : Type 0 where
    pub ended : AreSilent place bars
    pub pending : (p : ℕ) → flat_map (open_of p) bars ≡ option_to_list (current_of w p)

  -- bars that begin later, or end later, end at no earlier place
  later_silent : (w : WorldOf S I R) (place earlier : ℕ) (es : List (Event I)) → earlier < place → flat_map (reply_at earlier) (bars_in o w place es) ≡ []
  later_silent w place earlier [] less = refl
  later_silent w place earlier (Call p i ∷ es) less =
      let v = world_after o.object w (Call p i) in
      ap (λ l. l ++ flat_map (reply_at earlier) (bars_in o v (place + 1) es))
      (reply_elsewhere earlier (record { process = p; nth = w.begun p }) (end_in o p v (place + 1) es)
      (end_in-place o (λ k. k ≢ earlier) p v (place + 1) es (λ k low within same. omega arith)))
      ∙ later_silent v (place + 1) earlier es (omega arith)
  later_silent w place earlier (e ∷ es) less = later_silent (world_after o.object w e) (place + 1) earlier es (omega arith)

  ends_later_silent : (w : WorldOf S I R) (place earlier : ℕ) (es : List (Event I)) → earlier < place → (bars : List Called)
      → flat_map (reply_at earlier) (map (bar_later o w place es) bars) ≡ flat_map (reply_at earlier) bars
  ends_later_silent w place earlier es less bars = flat-same (reply_at earlier) (bar_later o w place es) (reply_at earlier) (λ b. by_end b b.end) bars
    where
      by_end : (b : Called) (x : Option End) → reply_of earlier b.call (option_or x (end_in o b.call.process w place es)) ≡ reply_of earlier b.call x
      by_end b None =
          reply_elsewhere earlier b.call (end_in o b.call.process w place es)
          (end_in-place o (λ k. k ≢ earlier) b.call.process w place es (λ k low within same. omega arith))
      by_end b (Some e) = refl

  -- the replies at a place are those of the bars after its event
  replies_at_place : (v : WorldOf S I R) (place : ℕ) (es : List (Event I)) (after bars : List Called) → map (bar_later o v (place + 1) es) after ++ bars_in o v (place + 1) es ≡ bars
      → flat_map (reply_at place) bars ≡ flat_map (reply_at place) after
  replies_at_place v place es after bars is =
      rw (← is, flat_map-append (reply_at place) (map (bar_later o v (place + 1) es) after), later_silent v (place + 1) place es (omega arith))
      (append-nil _ ∙ ends_later_silent v (place + 1) place es (omega arith) after)

  -- the replies of what a run completes
  abbrev reply_texts : List (Completed R) → List Reply
  reply_texts completed = map (λ (c : Completed R). reply_text o.language c.returned) completed

  -- from a world on, where these bars are there so far, and all of them are these in the end
  abbrev Replies : WorldOf S I R → (place : ℕ) → List (Event I) → Type 0
  Replies w place es = (so_far bars : List Called) → IsSoFar w place so_far → map (bar_later o w place es) so_far ++ bars_in o w place es ≡ bars
      → replies_in_order bars place es ≡ reply_texts (completed_in o.object w es)

  -- the bars after one event more, told by those so far
  abbrev bars_after : WorldOf S I R → (place : ℕ) → List Called → Event I → List Called
  bars_after w place so_far e = (marks_with o (λ s. []) (record { object = []; events = 0; steps = []; bars = so_far; dots = []; lines = []; eras = [] }) w 0 place e).bars

  -- bars after an event, which tell what it completes, and are those so far then
  abbrev AreNext : WorldOf S I R → (place : ℕ) → Event I → List Called → Type 0
  AreNext w place e after = (flat_map (reply_at place) after ≡ reply_texts (option_to_list (completed_by o.object w e))) × IsSoFar (world_after o.object w e) (place + 1) after

  -- one event before the others
  replies_with : (w : WorldOf S I R) (place : ℕ) (e : Event I) (es : List (Event I)) (so_far bars : List Called)
      → map (bar_later o w place (e ∷ es)) so_far ++ bars_in o w place (e ∷ es) ≡ bars
      → AreNext w place e (bars_after w place so_far e) → Replies (world_after o.object w e) (place + 1) es
      → replies_in_order bars place (e ∷ es) ≡ reply_texts (completed_in o.object w (e ∷ es))
  replies_with w place e es so_far bars is next rest =
      let v = world_after o.object w e in
      let m : RunMarks = record { object = []; events = 0; steps = []; bars = so_far; dots = []; lines = []; eras = [] } in
      let all = ap (λ (m : RunMarks). m.bars) (marks_then-event o (λ s. []) m w 0 place e es) ∙ is in
      ap (λ l. l ++ replies_in_order bars (place + 1) es) (replies_at_place v place es _ bars all ∙ next.0)
      ∙ ap (λ l. reply_texts (option_to_list (completed_by o.object w e)) ++ l) (rest _ bars next.1 all)
      ∙ sym (map-append (λ (c : Completed R). reply_text o.language c.returned) (option_to_list (completed_by o.object w e)) (completed_in o.object v es))

  -- the call of a process that has one pending
  current_some : (w : WorldOf S I R) (p : ℕ) → IsSome (w.call p) → current_of w p ≡ Some (record { process = p; nth = w.begun p - 1 })
  current_some w p some = by_call (w.call p) some
    where
      by_call : (c : Option Pending) → IsSome c → option_map (λ (c : Pending). let id : CallId = record { process = p; nth = w.begun p - 1 } in id) c ≡ Some (record { process = p; nth = w.begun p - 1 })
      by_call None h = absurd (let e : false ≡ true = h in cc)
      by_call (Some c) h = refl

  -- a step leaves the calls of others
  others_kept : (w : WorldOf S I R) (q p : ℕ) → (p == q) ≡ false → (c : Option Pending) → current_of (world_after_step o.object w q c) p ≡ current_of w p
  others_kept w q p apart None = refl
  others_kept w q p apart (Some c) = rw apart refl

  -- and the own one, where that goes on
  own_kept : (w : WorldOf S I R) (q : ℕ) → IsSome (w.call q) → (c : Option Pending) → IsSome ((world_after_step o.object w q c).call q) → current_of (world_after_step o.object w q c) q ≡ current_of w q
  own_kept w q some None after = refl
  own_kept w q some (Some c) after = current_some (world_after_step o.object w q (Some c)) q after ∙ sym (current_some w q some)

  -- one that has a response leaves the process without a call
  call_of_last : (w : WorldOf S I R) (q : ℕ) (r : R) → response_of_step w q ≡ Some r → (c : Option Pending) → w.call q ≡ c → IsSome c → current_of (world_after_step o.object w q c) q ≡ None
  call_of_last w q r some None is h = absurd (let e : false ≡ true = h in cc)
  call_of_last w q r some (Some c) is h =
      elim (last_or_silent w.n c.mine c.stage (w.memory (place_of w.n q c.mine c.stage)) w.memory) [
        | inl silent ↦ absurd (
            let none : Some r ≡ None = sym some ∙ ap (option_and_then (λ (c : Pending). response_after c.mine c.stage w.memory)) is ∙ silent in cc)
        | inr over ↦ rw (eq-eqb q q refl, over) refl
      ]

  -- the bars so far, after one event more
  module _ (w : WorldOf S I R) (place : ℕ) (so_far : List Called) (is : IsSoFar w place so_far) where
    ended_more : AreSilent (place + 1) so_far
    ended_more k low = is.ended k (omega arith)

    next_call : (q : ℕ) (i : I) → w.call q ≡ None → AreNext w place (Call q i) (so_far ++ bar_begun o w place q i ∷ [])
    next_call q i idle = (
      silent place (omega arith),
      record {
        ended = λ k low. silent k (omega arith);
        pending = λ p. flat_map-append (open_of p) so_far (bar_begun o w place q i ∷ [])
            ∙ ap (λ l. flat_map (open_of p) so_far ++ l) (append-nil (if p == q then record { process = q; nth = w.begun q } ∷ [] else []))
            ∙ ap (λ l. l ++ (if p == q then record { process = q; nth = w.begun q } ∷ [] else [])) (is.pending p)
            ∙ (elim (number_cases p q) [
              | inl here ↦ rw (here.1, ap w.call here.0 ∙ idle) (λ j. record { process = (sym here.0) j; nth = nth j } ∷ [])
              | inr other ↦ rw other.1 (append-nil _)
            ]);
      },
    )
      where
        silent : AreSilent place (so_far ++ bar_begun o w place q i ∷ [])
        silent k low = flat_map-append (reply_at k) so_far (bar_begun o w place q i ∷ []) ∙ append-nil (flat_map (reply_at k) so_far) ∙ is.ended k low

        nth : w.begun q ≡ w.begun q + 1 - 1
        nth = omega arith

    next_silent : (q : ℕ) → HelpingInvariant o.object w → IsSome (w.call q) → response_of_step w q ≡ None → AreNext w place (Step q) so_far
    next_silent q helping some none = (
      is.ended place (omega arith) ∙ sym (ap (λ x. reply_texts (option_to_list x)) (nothing_completed o.object w q none)),
      record {
        ended = ended_more;
        pending = λ p. is.pending p ∙ ap option_to_list (sym (elim (number_cases p q) [
          | inl here ↦ subst (λ x. current_of v x ≡ current_of w x) (sym here.0) (own_kept w q some (w.call q) (pending-world_after_step o q w some helping none))
          | inr other ↦ others_kept w q p other.1 (w.call q)
        ]));
      },
    )
      where
        v : WorldOf S I R
        v = world_after o.object w (Step q)

    next_last : (q : ℕ) (r : R) (end : End) → end.event ≡ place → end.reply ≡ o.language.resp_text r → IsSome (w.call q) → response_of_step w q ≡ Some r
        → AreNext w place (Step q) (map (bar_ended q end) so_far)
    next_last q r end here reply some last = (
      replies_of_ended place q end here so_far (is.ended place (omega arith))
          ∙ ap (map (λ call. let told : Reply = record { call = call; text = end.reply } in told)) (is.pending q)
          ∙ ap (λ text. map (λ call. let told : Reply = record { call = call; text = text } in told) (option_to_list (current_of w q))) reply
          ∙ (let current = current_some w q some in
          ap (λ x. map (λ call. let told : Reply = record { call = call; text = o.language.resp_text r } in told) (option_to_list x)) current
          ∙ sym (ap (λ x. reply_texts (option_to_list x)) (one_completed o.object w q _ r (sym current) last))),
      record {
        ended = λ k low. replies_elsewhere k q end (λ same. omega arith) so_far ∙ is.ended k (omega arith);
        pending = λ p. elim (number_cases p q) [
          | inl same ↦ subst (λ x. flat_map (open_of x) (map (bar_ended q end) so_far) ≡ option_to_list (current_of v x)) (sym same.0)
              (none_open q end so_far ∙ ap option_to_list (sym (call_of_last w q r last (w.call q) refl some)))
          | inr other ↦ others_open p q end other.0 so_far ∙ is.pending p ∙ ap option_to_list (sym (others_kept w q p other.1 (w.call q)))
        ];
      },
    )
      where
        v : WorldOf S I R
        v = world_after o.object w (Step q)

    so_far_era : (n : ℕ) → IsSoFar (world_after_era w n) (place + 1) so_far
    so_far_era n =
        let kept = kept_by_era o.object w n in
        record { ended = ended_more; pending = λ p. is.pending p ∙ (λ i. option_to_list (option_map (λ (c : Pending). let id : CallId = record { process = p; nth = (sym kept.1) i p - 1 } in id) ((sym kept.0) i p))) }

    next_event : (e : Event I) → HelpingInvariant o.object w → IsAccepted w e → AreNext w place e (bars_after w place so_far e)
    next_event (Call q i) helping ok = next_call q i ok.1
    next_event (Step q) helping ok = by_response (response_of_step w q) refl
      where
        ended : Option End → List Called
        ended x = option_map_or (λ end. map (bar_ended q end) so_far) x so_far

        by_response : (x : Option R) → response_of_step w q ≡ x → AreNext w place (Step q) (bars_after w place so_far (Step q))
        by_response None none = subst (λ x. AreNext w place (Step q) (ended x)) (sym (end_of_step-none o w place q none)) (next_silent q helping ok none)
        by_response (Some r) some =
            let v = world_after o.object w (Step q) in
            let end : End = record { event = place; reply = o.language.resp_text r; steps = v.steps q; turns = v.turns q } in
            let last : end_of_step o w place q ≡ Some end = rw some refl in
            subst (λ x. AreNext w place (Step q) (ended x)) (sym last) (next_last q r end refl refl ok some)
    next_event Trim helping ok = (is.ended place (omega arith), so_far_era w.n)
    next_event (Reshape n) helping ok = (is.ended place (omega arith), so_far_era n)

  replies : (w : WorldOf S I R) (place : ℕ) (es : List (Event I)) → CountsSteps w → HelpingInvariant o.object w → AreAccepted o.object w es → Replies w place es
  replies w place [] counts helping ok so_far bars is all = refl
  replies w place (e ∷ es) counts helping ok so_far bars is all =
      replies_with w place e es so_far bars all (next_event w place so_far is e helping ok.0)
      (replies (world_after o.object w e) (place + 1) es (CountsSteps-world_after o.object w e ok.0 (helping.0, helping.1, helping.2) counts) (HelpingInvariant-world_after o.object w e ok.0 counts helping) ok.1)

  pub BarsHaveTheReplies-holds : (text : S → List ℕ) (name : List ℕ) (n : ℕ) (start : S) (number : ℕ) (events : List (Event I)) → BarsHaveTheReplies o text name n start number events
  BarsHaveTheReplies-holds text name n start number events positive ok =
      let w = opened_world n start number in
      let helping = HelpingInvariant-opened_world o.object n start number positive in
      replies w 0 events (CountsSteps-opened_world o.object n start number) helping ok [] _ (record { ended = λ k low. refl; pending = λ p. refl }) refl
      ∙ sym (map-map (reply_text o.language) (λ (c : Completed R). c.returned) (completed_in o.object w events))
      ∙ ap (map (reply_text o.language)) (returns_are_responses o.object w events (helping.0, helping.1, helping.2) ok)
