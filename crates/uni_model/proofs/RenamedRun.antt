-- A run with trims and the run without them go side by side: the world of the one is that of the other with its cells renamed.
use Rattle.uni_model.proofs.Vocabulary.{Act, Anchor, Announce, AreAccepted, Call, CountsSteps, DecideAfter, DecideNew, EndsNoEra, Entry, Event, Finish, HelpingInvariant, Invariant, IsAccepted, IsQuiescent, IsSome, Linearize, List, Memory, Name, None, Of, Option, Pending, ReadAnnounce, ReadHelpSeq, Reshape, ScanHead, ScanSeq, Sequential, ShowsSame, Some, Stage, Step, Test, Trim, TrimsChangeNothing, WorldOf, WriteBefore, WriteHead, WriteScan, WriteSeq, [], acts_of, anchor_memory, ap, append_assoc, arith, calls_of, drop, false, frontier, greatest_below, head_of, head_seq, history_of, inl, inr, invoked_at, kind_of, length, log, log_of_run, map, map-append, max-le, opened_world, option_and_then, option_map, option_map_or, refl, response_after, responses_of, seq_of, subst, suc, sym, take, take_all, true, without_trims, world_after, world_after_all, world_after_call, world_after_era, world_after_step, zero, ℕ, ◌++◌, ◌-◌, ◌<◌, ◌∙◌, ◌∷◌, ◌≡◌, ◌≤◌}
use Rattle.uni_model.proofs.Kept.{Invariant-opened_world, Invariant-world_after, Invariant-world_after_step, Grows-world_after, idle_when_quiescent}
use Rattle.uni_model.proofs.Counted.{CountsSteps-opened_world, CountsSteps-world_after, CountsSteps-world_after_step}
use Rattle.uni_model.proofs.Bounded.{HelpingInvariant-opened_world, HelpingInvariant-world_after, HelpingInvariant-world_after_step}
use Rattle.uni_model.proofs.FloorCall.{le-greatest_below}
use Rattle.uni_model.proofs.OneLists.{length-chain}
use Rattle.uni_model.proofs.Growing.{log-world_after}
use Rattle.uni_model.proofs.Ended.{length-log}
use Rattle.uni_model.proofs.Reached.{ReachesOwn, ReachesOwn-begun}
use Rattle.uni_model.proofs.Renamed.{at_least, at_least-cases, stage_renamed, pending_renamed, IsNew, state_in}
use Rattle.uni_model.proofs.RenamedWorld.{world_renamed, KeepsNames, alike, later_renamed, step_renamed, KeepsNames-step, ReachesOwn-step, begun_renamed, call_renamed, KeepsNames-call}
use Rattle.uni_model.proofs.RenamedChain.{log-renamed, prefix_stays}
use Rattle.uni_model.proofs.RenamedEra.{threaded_to_anchor, KeepsNames-anchor_memory, ReachesOwn-anchor_memory, settled_last, KeepsNames-trimmed, world_after_era-renamed, world_after_era-own}

drop-append : {A : Type 0} (xs ys zs : List A) → drop (length (xs ++ ys)) (xs ++ zs) ≡ drop (length ys) zs
drop-append [] ys zs = refl
drop-append (x ∷ xs) ys zs = drop-append xs ys zs

greatest_below-le : (n : ℕ) (f : ℕ → ℕ) (k : ℕ) → ((p : ℕ) → p < n → f p ≤ k) → greatest_below n f ≤ k
greatest_below-le zero f k each = omega arith
greatest_below-le (suc n) f k each = max-le (greatest_below-le n f k (λ p less. each p (omega arith))) (each n (omega arith))

kind_of-renamed : (rename : Name → Name) (base : ℕ) (stage : Stage) → kind_of (stage_renamed rename base stage) ≡ kind_of stage
kind_of-renamed rename base Announce = refl
kind_of-renamed rename base (ScanHead q best b) = refl
kind_of-renamed rename base (ScanSeq q best b h) = refl
kind_of-renamed rename base (WriteScan best b) = refl
kind_of-renamed rename base (Test c s) = refl
kind_of-renamed rename base (ReadAnnounce c s) = refl
kind_of-renamed rename base (ReadHelpSeq c s help) = refl
kind_of-renamed rename base (DecideAfter c s prefer) = refl
kind_of-renamed rename base (DecideNew c s d) = refl
kind_of-renamed rename base (WriteBefore c s d) = refl
kind_of-renamed rename base (WriteSeq c s d) = refl
kind_of-renamed rename base (WriteHead c s d) = refl
kind_of-renamed rename base (Finish s t) = refl

module _ {S I R : Type 0} (object : Sequential S I R) where
  -- the world without trims has all that the proof needs, and its cells are renamed in the world with them
  pub record Follows (u : WorldOf S I R) (m : Memory S I R) (first : ℕ → ℕ) (rename : Name → Name) (base : ℕ) : Type 0 where
    pub keeps : KeepsNames u m rename base
    pub inv : HelpingInvariant object u
    pub counts : CountsSteps u
    pub reaches : ReachesOwn u
    pub invariant : Invariant object (world_renamed u m first rename base)

  -- the events do the same in both worlds, where these entries of ended eras stand before the one's log
  pub record Alike (w u : WorldOf S I R) (es : List (Event I)) (prefix : List (Entry I R)) : Type 0 where
    pub accepted : AreAccepted object u (without_trims es)
    pub shown : ShowsSame (world_after_all object w es) (world_after_all object u (without_trims es))
    pub joined : prefix ++ log_of_run object w es ≡ log_of_run object u (without_trims es)
    pub history : history_of object w es ≡ history_of object u (without_trims es)

  module _ (u : WorldOf S I R) (m : Memory S I R) (first : ℕ → ℕ) (rename : Name → Name) (base : ℕ) (f : Follows u m first rename base) where
    abbrev w : WorldOf S I R
    w = world_renamed u m first rename base

    -- the entries of the ended eras
    abbrev pub prefix : List (Entry I R)
    prefix = take (base - seq_of u.memory Anchor) (log u)

    log_is : log u ≡ prefix ++ log w
    log_is = log-renamed object u f.inv.0 f.inv.1 f.inv.2 m first rename base f.keeps.memory f.invariant

    calls_are : calls_of u ≡ map (λ (e : Entry I R). e.call) prefix ++ calls_of w
    calls_are = ap (map (λ (e : Entry I R). e.call)) log_is ∙ map-append (λ (e : Entry I R). e.call) prefix (log w)

    head_seq-renamed : (p : ℕ) → p < u.n → head_seq m p ≡ at_least base (head_seq u.memory p)
    head_seq-renamed p below = ap (seq_of m) (f.keeps.memory.head p below) ∙ f.keeps.memory.seq (head_of u.memory p)

    frontier-renamed : frontier w ≡ frontier u
    frontier-renamed =
        let down : greatest_below u.n (head_seq m) ≤ greatest_below u.n (head_seq u.memory) = greatest_below-le u.n (head_seq m) (greatest_below u.n (head_seq u.memory)) (λ p below.
        let is = head_seq-renamed p below in
        let le = le-greatest_below u.n (head_seq u.memory) p below in
        let some = f.keeps.heads p below in
        let most = le-greatest_below u.n (head_seq u.memory) some.0 some.2 in
        let reached = some.3 in
        elim (at_least-cases base (head_seq u.memory p)) [
          | inl none ↦ (let e = none.1 in omega arith)
          | inr rest ↦ elim rest [ inl low ↦ (let e = low.2 in omega arith) | inr high ↦ (let e = high.2 in omega arith) ]
        ]) in
        let up : greatest_below u.n (head_seq u.memory) ≤ greatest_below u.n (head_seq m) = greatest_below-le u.n (head_seq u.memory) (greatest_below u.n (head_seq m)) (λ p below.
        let is = head_seq-renamed p below in
        let le = le-greatest_below u.n (head_seq m) p below in
        elim (at_least-cases base (head_seq u.memory p)) [
          | inl none ↦ (let e = none.0 in omega arith)
          | inr rest ↦ elim rest [ inl low ↦ (let e = low.2 in let g = low.1 in omega arith) | inr high ↦ (let e = high.2 in omega arith) ]
        ]) in
        omega arith

    response_same : (p : ℕ) (o : Option Pending) → u.call p ≡ o
        → option_and_then (λ (c : Pending). response_after c.mine c.stage m) (option_map (pending_renamed rename base) o)
        ≡ option_and_then (λ (c : Pending). response_after c.mine c.stage u.memory) o
    response_same p None is = refl
    response_same p (Some c) is = (alike object u f.inv m first rename base f.keeps f.counts p c is).response

    ShowsSame-renamed : ShowsSame w u
    ShowsSame-renamed = record {
      n = refl;
      begun = refl;
      among = refl;
      steps = refl;
      turns = refl;
      pending = λ p. same_cell (u.call p);
      next_step = λ p. same_kind (u.call p);
      response = λ p. response_same p (u.call p) refl;
      frontier = frontier-renamed;
    } where
      same_cell : (o : Option Pending) → option_map (λ (c : Pending). c.mine) (option_map (pending_renamed rename base) o) ≡ option_map (λ (c : Pending). c.mine) o
      same_cell None = refl
      same_cell (Some c) = refl

      same_kind : (o : Option Pending) → option_map (λ (c : Pending). kind_of c.stage) (option_map (pending_renamed rename base) o) ≡ option_map (λ (c : Pending). kind_of c.stage) o
      same_kind None = refl
      same_kind (Some c) = ap (λ k. Some k) (kind_of-renamed rename base c.stage)

    not_pending : (o : Option Pending) → option_map (pending_renamed rename base) o ≡ None → o ≡ None
    not_pending None e = refl
    not_pending (Some c) e = cc

    quiet_too : IsQuiescent w → IsQuiescent u
    quiet_too quiet p below = not_pending (u.call p) (quiet p below)

    -- the entries of the ended eras stay first
    prefix_kept : (e : Event I) → IsAccepted u e → EndsNoEra e → take (base - seq_of (world_after object u e).memory Anchor) (log (world_after object u e)) ≡ prefix
    prefix_kept e ok stays =
        let grown = Grows-world_after object u e (f.inv.0, f.inv.1, f.inv.2) ok stays in
        ap (λ s. take (base - s) (log (world_after object u e))) (grown.seq Anchor f.keeps.memory.first)
        ∙ prefix_stays object u f.inv.0 f.inv.1 f.inv.2 m first rename base f.keeps.memory f.invariant (log (world_after object u e)) (log-world_after object u e (f.inv.0, f.inv.1, f.inv.2) ok stays)

  -- so do all worlds of which one follows the other
  abbrev AllAlike : List (Event I) → Type 0
  AllAlike es = (u : WorldOf S I R) (m : Memory S I R) (first : ℕ → ℕ) (rename : Name → Name) (base : ℕ) (f : Follows u m first rename base)
      → AreAccepted object (world_renamed u m first rename base) es → Alike (world_renamed u m first rename base) u es (prefix u m first rename base f)

  -- what is so of the world that is reached, is so of one that is the same
  Alike-reached : (es : List (Event I)) → AllAlike es → (w' u : WorldOf S I R) (m : Memory S I R) (first : ℕ → ℕ) (rename : Name → Name) (base : ℕ) (f : Follows u m first rename base)
      → w' ≡ world_renamed u m first rename base → AreAccepted object w' es → (entries : List (Entry I R)) → prefix u m first rename base f ≡ entries → Alike w' u es entries
  Alike-reached es rest w' u m first rename base f same ok entries prefix_is =
      subst (λ xs. Alike w' u es xs) prefix_is
      (subst (λ v. Alike v u es (prefix u m first rename base f)) (sym same) (rest u m first rename base f (subst (λ v. AreAccepted object v es) same ok)))

  module _ (es : List (Event I)) (rest : AllAlike es) (u : WorldOf S I R) (m : Memory S I R) (first : ℕ → ℕ) (rename : Name → Name) (base : ℕ) (f : Follows u m first rename base) where
    abbrev of_u : Invariant object u
    of_u = (f.inv.0, f.inv.1, f.inv.2)

    call_alike : (p : ℕ) (i : I) → AreAccepted object (world_renamed u m first rename base) (Call p i ∷ es)
        → Alike (world_renamed u m first rename base) u (Call p i ∷ es) (prefix u m first rename base f)
    call_alike p i ok =
        let idle : u.call p ≡ None = not_pending u m first rename base f (u.call p) ok.0.1 in
        let same = call_renamed object u f.inv m first rename base f.keeps p i ok.0.0 idle in
        let later : Follows (world_after_call u p i) (begun_renamed object u f.inv m first rename base f.keeps p i ok.0.0 idle).memory first rename base = record {
          keeps = KeepsNames-call object u f.inv m first rename base f.keeps p i ok.0.0 idle;
          inv = HelpingInvariant-world_after object u (Call p i) (ok.0.0, idle) f.counts f.inv;
          counts = CountsSteps-world_after object u (Call p i) (ok.0.0, idle) of_u f.counts;
          reaches = ReachesOwn-begun object u f.inv.0 f.inv.1 f.inv.2 f.reaches p i idle;
          invariant = subst (λ v. Invariant object v) same (Invariant-world_after object (world_renamed u m first rename base) (Call p i) ok.0 f.invariant);
        } in
        let on = Alike-reached es rest _ _ _ first rename base later same ok.1 (prefix u m first rename base f) (prefix_kept u m first rename base f (Call p i) (ok.0.0, idle) tt) in
        record { accepted = ((ok.0.0, idle), on.accepted); shown = on.shown; joined = on.joined; history = ap (λ acts. acts_of object u (Call p i) ++ acts) on.history }

    -- the acts of a step, by what p's call is
    abbrev acts_by : WorldOf S I R → ℕ → Option Pending → List (Act I R)
    acts_by v p o = map Linearize (drop (length (calls_of v)) (calls_of (world_after_step object v p o)))
        ++ option_map_or (λ call. responses_of v.memory p call.mine (response_after call.mine call.stage v.memory)) o []

    invoked_same : (x : Name) → IsNew u.memory base x → invoked_at m x ≡ invoked_at u.memory x
    invoked_same Anchor new = refl
    invoked_same (Of p k) new = ap (option_map (λ (i : I). record { process = p; nth = k; inv = i })) (f.keeps.memory.inv (Of p k) new)

    responses_same : (p : ℕ) (x : Name) → IsNew u.memory base x → (o : Option R) → responses_of m p x o ≡ responses_of u.memory p x o
    responses_same p x new None = refl
    responses_same p x new (Some a) = rw (invoked_same x new) refl

    step_by : (p : ℕ) (o : Option Pending) → u.call p ≡ o → IsSome (option_map (pending_renamed rename base) o)
        → AreAccepted object (world_after_step object (world_renamed u m first rename base) p (option_map (pending_renamed rename base) o)) es
        → IsSome o
        × Alike (world_after_step object (world_renamed u m first rename base) p (option_map (pending_renamed rename base) o)) (world_after_step object u p o) es (prefix u m first rename base f)
        × (acts_by (world_renamed u m first rename base) p (option_map (pending_renamed rename base) o) ≡ acts_by u p o)
    step_by p None is some ok = absurd (let e : false ≡ true = some in cc)
    step_by p (Some c) is some ok =
        let w : WorldOf S I R = world_renamed u m first rename base in
        let u' : WorldOf S I R = world_after_step object u p (Some c) in
        let w' : WorldOf S I R = later_renamed object u f.inv m first rename base f.keeps f.counts p c is in
        let same = step_renamed object u f.inv m first rename base f.keeps f.counts p c is in
        let later : Follows u' w'.memory first rename base = record {
          keeps = KeepsNames-step object u f.inv m first rename base f.keeps f.counts p c is;
          inv = HelpingInvariant-world_after_step object u p c is f.counts f.inv;
          counts = CountsSteps-world_after_step object u f.inv.0 p c is (f.inv.2.stands p c is) f.counts;
          reaches = ReachesOwn-step object u f.inv m first rename base f.keeps f.counts p c is f.reaches;
          invariant = subst (λ v. Invariant object v) same (Invariant-world_after_step object w p (pending_renamed rename base c) (ap (option_map (pending_renamed rename base)) is) f.invariant).0;
        } in
        let kept : prefix u' w'.memory first rename base later ≡ prefix u m first rename base f
        = subst (λ o. take (base - seq_of (world_after_step object u p o).memory Anchor) (log (world_after_step object u p o)) ≡ prefix u m first rename base f) is
        (prefix_kept u m first rename base f (Step p) (subst (λ o. IsSome o) (sym is) refl) tt) in
        let calls' : calls_of u' ≡ map (λ (e : Entry I R). e.call) (prefix u m first rename base f) ++ calls_of w'
        = calls_are u' w'.memory first rename base later
        ∙ ap (λ xs. map (λ (e : Entry I R). e.call) xs ++ calls_of (world_renamed u' w'.memory first rename base)) kept
        ∙ ap (λ v. map (λ (e : Entry I R). e.call) (prefix u m first rename base f) ++ calls_of v) (sym same) in
        let linked : drop (length (calls_of u)) (calls_of u') ≡ drop (length (calls_of w)) (calls_of w')
        = ap (λ xs. drop (length xs) (calls_of u')) (calls_are u m first rename base f)
        ∙ ap (drop (length (map (λ (e : Entry I R). e.call) (prefix u m first rename base f) ++ calls_of w))) calls'
        ∙ drop-append (map (λ (e : Entry I R). e.call) (prefix u m first rename base f)) (calls_of w) (calls_of w') in
        let responds : responses_of m p c.mine (response_after c.mine (stage_renamed rename base c.stage) m) ≡ responses_of u.memory p c.mine (response_after c.mine c.stage u.memory)
        = ap (responses_of m p c.mine) (alike object u f.inv m first rename base f.keeps f.counts p c is).response ∙ responses_same p c.mine (f.keeps.mine p c is) _ in (
          refl,
          Alike-reached es rest w' u' w'.memory first rename base later same ok (prefix u m first rename base f) kept,
          ap (λ xs. map Linearize xs ++ responses_of m p c.mine (response_after c.mine (stage_renamed rename base c.stage) m)) (sym linked)
              ∙ ap (λ rs. map Linearize (drop (length (calls_of u)) (calls_of u')) ++ rs) responds,
        )

    step_alike : (p : ℕ) → AreAccepted object (world_renamed u m first rename base) (Step p ∷ es)
        → Alike (world_renamed u m first rename base) u (Step p ∷ es) (prefix u m first rename base f)
    step_alike p ok =
        let on = step_by p (u.call p) refl ok.0 ok.1 in
        record {
          accepted = (on.0, on.1.accepted);
          shown = on.1.shown;
          joined = on.1.joined;
          history = ap (λ acts. acts ++ history_of object (world_after object (world_renamed u m first rename base) (Step p)) es) on.2
              ∙ ap (λ acts. acts_by u p (u.call p) ++ acts) on.1.history;
        }

    module _ (quiet : IsQuiescent u) where
      idle : (p : ℕ) → u.call p ≡ None
      idle = idle_when_quiescent object u f.inv.0 f.inv.1 f.inv.2 quiet

      abbrev state : S
      state = (settled_last object u f.inv.0 f.inv.1 f.inv.2 quiet).0.0

      -- where nobody is pending, calls are named alike whatever the names
      calls_idle : (rename' : Name → Name) (base' : ℕ)
          → ◌≡◌ {A = ℕ → Option Pending} (λ p. option_map (pending_renamed rename base) (u.call p)) (λ p. option_map (pending_renamed rename' base') (u.call p))
      calls_idle rename' base' = λ j p. (ap (option_map (pending_renamed rename base)) (idle p) ∙ sym (ap (option_map (pending_renamed rename' base')) (idle p))) j

      era_ended : (n : ℕ) (rename' : Name → Name) → world_after_era (world_renamed u m first rename base) n
          ≡ world_renamed (record u { n = n; first = u.begun; memory = anchor_memory state f.inv.1 }) (anchor_memory state f.inv.1) u.begun rename' f.inv.1
      era_ended n rename' =
          world_after_era-renamed object u f.inv.0 f.inv.1 f.inv.2 quiet m first rename base f.keeps f.invariant n
          ∙ ap (λ g. let x : WorldOf S I R = record u { n = n; first = u.begun; memory = anchor_memory state f.inv.1; call = g } in x) (calls_idle rename' f.inv.1)

      -- the logs of both worlds, before what comes later
      joined_later : (later : List (Entry I R)) → prefix u m first rename base f ++ (log (world_renamed u m first rename base) ++ later) ≡ log u ++ later
      joined_later later = sym (append_assoc (prefix u m first rename base f) (log (world_renamed u m first rename base)) later) ∙ ap (λ xs. xs ++ later) (sym (log_is u m first rename base f))

      trim_alike : AreAccepted object (world_renamed u m first rename base) (Trim ∷ es) → Alike (world_renamed u m first rename base) u (Trim ∷ es) (prefix u m first rename base f)
      trim_alike ok =
          let same = era_ended u.n (threaded_to_anchor u.memory) in
          let later : Follows u (anchor_memory state f.inv.1) u.begun (threaded_to_anchor u.memory) f.inv.1 = record {
            keeps = KeepsNames-trimmed object u f.inv.0 f.inv.1 f.inv.2 quiet state (ap state_in (settled_last object u f.inv.0 f.inv.1 f.inv.2 quiet).1) f.reaches;
            inv = f.inv;
            counts = f.counts;
            reaches = f.reaches;
            invariant = subst (λ v. Invariant object v) same (Invariant-world_after object (world_renamed u m first rename base) Trim ok.0 f.invariant);
          } in
          let short : length (log u) ≤ f.inv.1 - seq_of u.memory Anchor = (
          let all = length-chain object u f.inv.0 f.inv.1 f.inv.2 in let long = length-log object u f.inv.0 f.inv.1 f.inv.2 in let anchor = f.inv.2.numbered.anchor in omega arith) in
          let on = Alike-reached es rest _ u (anchor_memory state f.inv.1) u.begun (threaded_to_anchor u.memory) f.inv.1 later same ok.1 (log u) (take_all (f.inv.1 - seq_of u.memory Anchor) (log u) short) in
          record { accepted = on.accepted; shown = on.shown; joined = joined_later _ ∙ on.joined; history = on.history }

      reshape_alike : (n : ℕ) → AreAccepted object (world_renamed u m first rename base) (Reshape n ∷ es)
          → Alike (world_renamed u m first rename base) u (Reshape n ∷ es) (prefix u m first rename base f)
      reshape_alike n ok =
          let same = era_ended n (λ x. x) in
          let own : world_after_era u n ≡ record u { n = n; first = u.begun; memory = anchor_memory state f.inv.1 } = world_after_era-own object u f.inv.0 f.inv.1 f.inv.2 quiet n in
          let u' : WorldOf S I R = record u { n = n; first = u.begun; memory = anchor_memory state f.inv.1 } in
          let positive : 1 ≤ f.inv.1 = (let first = f.inv.2.numbered.first in let top = f.inv.2.numbered.greatest Anchor in omega arith) in
          let later : Follows u' (anchor_memory state f.inv.1) u.begun (λ x. x) f.inv.1 = record {
            keeps = KeepsNames-anchor_memory state f.inv.1 positive u' refl idle;
            inv = subst (λ v. HelpingInvariant object v) own (HelpingInvariant-world_after object u (Reshape n) (quiet, ok.0.1) f.counts f.inv);
            counts = subst (λ v. CountsSteps v) own (CountsSteps-world_after object u (Reshape n) (quiet, ok.0.1) of_u f.counts);
            reaches = ReachesOwn-anchor_memory state f.inv.1 positive u' refl;
            invariant = subst (λ v. Invariant object v) same (Invariant-world_after object (world_renamed u m first rename base) (Reshape n) ok.0 f.invariant);
          } in
          let nothing : f.inv.1 - f.inv.1 ≡ 0 = omega arith in
          let on : Alike (world_after_era (world_renamed u m first rename base) n) (world_after_era u n) es []
          = subst (λ v. Alike (world_after_era (world_renamed u m first rename base) n) v es []) (sym own)
          (Alike-reached es rest _ u' (anchor_memory state f.inv.1) u.begun (λ x. x) f.inv.1 later same ok.1 [] (ap (λ k. take k (log u')) nothing)) in
          record {
            accepted = ((quiet, ok.0.1), on.accepted);
            shown = on.shown;
            joined = joined_later _ ∙ ap (λ xs. log u ++ xs) on.joined;
            history = on.history;
          }

  run_alike : (es : List (Event I)) → AllAlike es
  run_alike [] u m first rename base f ok = record {
    accepted = tt;
    shown = ShowsSame-renamed u m first rename base f;
    joined = sym (log_is u m first rename base f);
    history = refl;
  }
  run_alike (Call p i ∷ es) u m first rename base f ok = call_alike es (run_alike es) u m first rename base f p i ok
  run_alike (Step p ∷ es) u m first rename base f ok = step_alike es (run_alike es) u m first rename base f p ok
  run_alike (Trim ∷ es) u m first rename base f ok = trim_alike es (run_alike es) u m first rename base f (quiet_too u m first rename base f ok.0) ok
  run_alike (Reshape n ∷ es) u m first rename base f ok = reshape_alike es (run_alike es) u m first rename base f (quiet_too u m first rename base f ok.0.0) n ok

  pub TrimsChangeNothing-holds : (n : ℕ) (start : S) (number : ℕ) (es : List (Event I)) → TrimsChangeNothing object n start number es
  TrimsChangeNothing-holds n start number es positive ok =
      let opened : WorldOf S I R = opened_world n start number in
      let begins : Follows opened (anchor_memory start number) (λ p. 0) (λ x. x) number = record {
        keeps = KeepsNames-anchor_memory start number positive opened refl (λ p. refl);
        inv = HelpingInvariant-opened_world object n start number positive;
        counts = CountsSteps-opened_world object n start number;
        reaches = ReachesOwn-anchor_memory start number positive opened refl;
        invariant = Invariant-opened_world object n start number positive;
      } in
      let same = run_alike es opened (anchor_memory start number) (λ p. 0) (λ x. x) number begins ok in
      let nothing : number - number ≡ 0 = omega arith in
      record {
        accepted = same.accepted;
        shown = same.shown;
        joined = ap (λ k. take k (log opened) ++ log_of_run object opened es) (sym nothing) ∙ same.joined;
        history = same.history;
      }
