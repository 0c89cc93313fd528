-- Each word step of a seat is a step of an execution.
use Rattle.uni_small.proofs.Vocabulary.{HasAnnounced, HasAsked, HasBegun, HasBrought, HasChecked, HasCheckedOwn, HasCopied, HasFollowed, HasLoaded, HasLooked, HasReplied, HasStarted, HasStored, HasTurned, HasWritten, HasWrittenAll, HasWrittenOwn, Idle, Image, Invoke, IsAnnounced, IsDirect, IsAsking, IsAttemptAt, IsCopying, IsLoading, IsLeft, IsLooking, IsStoring, IsWriting, Last, Linearize, List, Local, Me, Meaning, Reading, Ready, Sizes, Some, Step, View, [], ap, arith, announce_word, argument_word, begins, brought, brought_own, buffer_in, buffer_word, buffer_words, calls_seen, checked, checked_own, current_word, either, ends, eqb, false, goes, held_place, if◌then◌else◌, length, map, most_calls, nothing, begins_directly, begun, Seen, takes_effect_own, slice_set, ◌∷◌, number_cases, refl, reply_place, slice_index, stage_of, subst, sym, takes_effect, true, version_in, wrote, ℕ, ⊎_elim, ◌*◌, ◌+◌, ◌<◌, ◌==◌, ◌∙◌, ◌≡◌, ◌≤◌, read_image}
use Rattle.uni_small.proofs.Vocabulary.{HasConfirmed, HasRecalled, HasRecounted, HasReread, HasRestarted, Read, confirms, has_begun}
use Rattle.uni_small.specs.Execution.Next.{Store, Announce, Follow, Recall, TryDirectly, Start, Copy, Look, Ask, Check, CheckOwn, Confirm, Write, Bring, BringOwn, Turn, Load, Reply}
use Rattle.uni_small.specs.Execution.Next.{Recount, Reread, Restart}
use Rattle.uni_small.proofs.Frame.{Steps}

either_is : (b : _) (x y : ℕ) → (if b then x else y) ≡ either b x y
either_is true x y = refl
either_is false x y = refl

-- where a seat is left, as an equation of its process's place
left_at : {O : Type 0} (me me' : Me Seen (View O)) (l : Local) → IsLeft me l me' → l ≡ me'.0.known.local
left_at {O} me me' l left = sym (ap (λ (m : Me Seen (View O)). m.0.known.local) left)

module _ {O : Type 0} (meaning : O → Meaning) (o : O) (sizes : Sizes) (st : Step Seen) (me : Me Seen (View O)) where
  abbrev p : ℕ
  p = me.0.known.first

  abbrev l : Local
  l = me.0.known.local

  pub store_steps : (k x : ℕ) → IsStoring k me → k < sizes.invocation → length l.own < most_calls
      → Steps meaning o sizes me (argument_word sizes p k) (λ y. x) nothing (λ found me'. HasStored st me x me')
  store_steps k x storing below room = λ g local words f me' said. (
    Store storing.0 x storing.1 (let e = storing.2 in omega (arith, e, below)) room,
    ap (argument_word sizes p) storing.2,
    refl,
    left_at me me' _ (said storing.0 storing.1),
    refl,
  )

  pub announce_steps : (number : ℕ) (inv : List ℕ) → number ≡ length l.own + 1 → number ≤ most_calls → stage_of me ≡ Idle inv → length inv ≡ sizes.invocation
      → Steps meaning o sizes me (announce_word p) (λ y. number) (begins l p inv) (λ found me'. HasAnnounced st me number me')
  announce_steps number inv is few stage long = λ g local words f me' said. (
    Announce inv stage long (omega (arith, is, few)),
    refl,
    sym is,
    left_at me me' _ (said inv stage),
    refl,
  )

  pub start_steps : (tries : ℕ) → tries < 2 → stage_of me ≡ Ready tries → Steps meaning o sizes me 0 (λ x. x) nothing (λ found me'. HasStarted st me found me')
  start_steps tries few stage = λ g local words f me' said. (
    Start tries stage few,
    refl,
    refl,
    ap (λ (z : Sizes). goes l (Reading tries (slice_index words 0) (begun z p l.held (slice_index words 0)) [])) (sym f.processes) ∙ left_at me me' _ (said tries stage).0,
    refl,
  )

  pub begin_steps : stage_of me ≡ Idle [] → IsAnnounced me → length l.own < most_calls → Steps meaning o sizes me 0 (λ x. x) nothing (λ found me'. HasBegun st me found me')
  begin_steps stage untried few = λ g local words f me' said. (
    TryDirectly stage untried few,
    refl,
    refl,
    ap (λ (z : Sizes). begins_directly l (slice_index words 0) (begun z p l.held (slice_index words 0))) (sym f.processes) ∙ left_at me me' _ (said stage).0,
    refl,
  )

  pub copy_steps : (tries s i : ℕ) → IsCopying tries s i me → i < buffer_words sizes
      → Steps meaning o sizes me (buffer_word sizes (buffer_in s) i) (λ x. x) nothing (λ found me'. HasCopied st me found me')
  copy_steps tries s i copying below = λ g local words f me' said. (
    Copy tries s copying.0 copying.1 (let e = copying.2 in omega (arith, e, below)),
    ap (buffer_word sizes (buffer_in s)) copying.2,
    refl,
    left_at me me' _ (said tries s copying.0 copying.1),
    refl,
  )

  pub look_steps : (tries s r : ℕ) → IsLooking sizes tries s r me → r < sizes.processes
      → Steps meaning o sizes me (announce_word r) (λ x. x) nothing (λ found me'. HasLooked st me found me')
  look_steps tries s r looking inside = λ g local words f me' said.
      let here = looking.1 in (
        Look tries s looking.0 here.0 here.1 here.2 here.4 (let e = here.3 in omega (arith, e, inside)),
        ap announce_word here.3,
        refl,
        left_at me me' _ (said tries s looking.0 here.0 here.1),
        refl,
      )

  pub ask_steps : (tries s r k : ℕ) → IsAsking tries s r k me → r < sizes.processes → k < sizes.invocation
      → Steps meaning o sizes me (argument_word sizes r k) (λ x. x) nothing (λ found me'. HasAsked st me found me')
  ask_steps tries s r k asking inside below = λ g local words f me' said.
      let seen = asking.1.0 in
      let here = asking.1.1 in (
        Ask tries s asking.0 seen here.0 here.1 (let e = here.2 in omega (arith, e, inside)) (let e = here.3 in omega (arith, e, below)),
        (λ i. argument_word sizes (here.2 i) (here.3 i)),
        refl,
        left_at me me' _ (said tries s asking.0 seen here.0 here.1),
        refl,
      )

  pub check_steps : (tries s : ℕ) → IsLooking sizes tries s sizes.processes me → IsAnnounced me
      → Steps meaning o sizes me 0 (λ x. x) nothing (λ found me'. (q : O) → me.0.object ≡ Some q → HasChecked (meaning q) st me found me')
  check_steps tries s looking announced = λ g local words f me' said.
      let here = looking.1 in (
        Check tries s looking.0 here.0 here.1 here.2 here.4 here.3 announced,
        refl,
        refl,
        ap (λ (z : Sizes). goes l (checked z p (length l.own + 1) tries s looking.0 here.0 (slice_index words 0))) (sym f.processes)
            ∙ left_at me me' _ (said o f.object tries s looking.0 here.0 here.1).0,
        refl,
      )

  pub check_own_steps : (s : ℕ) → IsLooking sizes 0 s sizes.processes me → IsDirect me
      → Steps meaning o sizes me 0 (λ x. x) nothing (λ found me'. (q : O) → me.0.object ≡ Some q → HasCheckedOwn (meaning q) st me found me')
  check_own_steps s looking direct = λ g local words f me' said.
      let here = looking.1 in (
        CheckOwn s looking.0 here.0 here.1 here.2 here.4 here.3 direct,
        refl,
        refl,
        ap (λ (z : Sizes). goes l (checked_own z s looking.0 here.0 (slice_index words 0))) (sym f.processes)
            ∙ left_at me me' _ (said o f.object s looking.0 here.0 here.1).0,
        refl,
      )

  pub confirm_steps : (s : ℕ) → IsCopying 0 s (buffer_words sizes) me → IsDirect me
      → Steps meaning o sizes me 0 (λ x. x) nothing (λ found me'. (q : O) → me.0.object ≡ Some q → HasConfirmed (meaning q) st me found me')
  confirm_steps s copying direct = λ g local words f me' said. (
    Confirm s copying.0 copying.1 copying.2 direct,
    refl,
    refl,
    ap (λ (z : Sizes). confirms l s (read_image z copying.0).state (slice_index words 0)) (sym f.processes)
        ∙ left_at me me' _ (said o f.object s copying.0 copying.1).0,
    refl,
  )

  pub write_steps : (k x : ℕ) → IsWriting (meaning o).object sizes k x me → k < buffer_words sizes → st.word ≡ buffer_word sizes (2 * p + l.spare) k
      → Steps meaning o sizes me (buffer_word sizes (2 * p + l.spare) k) (λ y. x) nothing (λ found me'. HasWritten st me x me')
  write_steps k x writing below word = λ g local words f me' said. (
    Write writing.0 writing.1 writing.2 writing.3 writing.4 writing.5 k writing.6 writing.7 below,
    refl,
    sym writing.8,
    (λ i. wrote l k (held_place (sym f.processes i) l.spare k) (sym writing.8 i)) ∙ left_at me me' _ (said k (word ∙ ap (λ (z : Sizes). buffer_word z (2 * p + l.spare) k) (sym f.processes))),
    refl,
  )

  pub bring_steps : (tries s : ℕ) (all : HasWrittenAll (meaning o).object sizes tries s me) → IsAnnounced me → st.second ≡ current_word (version_in s + 1) (2 * p + l.spare)
      → Steps meaning o sizes me 0 (λ found. either (eqb found s) st.second found) (takes_effect s all.1.0) (λ found me'. HasBrought st me found me')
  bring_steps tries s all announced word = λ g local words f me' said.
      let image = all.0 in
      let seen = all.1.0 in
      let stage = all.1.2 in
      let found = slice_index words 0 in (
        Bring tries s image seen all.1.1 stage all.1.3 announced,
        refl,
        ap (λ new. if found == s then new else found) (sym word) ∙ either_is (found == s) st.second found,
        ap (λ new. brought l tries s new found) (sym word) ∙ left_at me me' _ (said tries s all.1.1 image seen stage),
        ⊎_elim
            (λ same.
            let now = (subst (λ k. IsAttemptAt (meaning o).object sizes g p (2 * p + l.spare) k) stage f.mine.attempt).1 (let a = same.0 in let b = f.words_are.current in omega (arith, a, b)) in
            ap (λ (i : Image). if found == s then map (λ c. Linearize c) (calls_seen i.applied 0 seen) else []) now.1.0)
            (λ other. rw other.1 refl)
            (number_cases found s),
      )

  pub bring_own_steps : (s : ℕ) (inv : List ℕ) (all : HasWrittenOwn (meaning o).object sizes s inv me) → IsDirect me → length inv ≡ sizes.invocation
      → length l.own + 1 ≤ most_calls → st.second ≡ current_word (version_in s + 1) (2 * p + l.spare)
      → Steps meaning o sizes me 0 (λ found. either (eqb found s) st.second found) (takes_effect_own l p inv s all.1.0) (λ found me'. IsLeft me (brought_own l s st.second inv found) me')
  bring_own_steps s inv all direct whole few word = λ g local words f me' said.
      let image = all.0 in
      let seen = all.1.0 in
      let stage = all.1.2 in
      let found = slice_index words 0 in (
        BringOwn s image seen all.1.1 inv stage all.1.3 direct whole (omega (arith, few)),
        refl,
        ap (λ new. if found == s then new else found) (sym word) ∙ either_is (found == s) st.second found,
        ap (λ new. brought_own l s new inv found) (sym word) ∙ left_at me me' _ said,
        ⊎_elim
            (λ same.
            let now = (subst (λ k. IsAttemptAt (meaning o).object sizes g p (2 * p + l.spare) k) stage f.mine.attempt).1 (let a = same.0 in let b = f.words_are.current in omega (arith, a, b)) in
            ap (λ (i : Image). if found == s then Invoke p (length l.own) inv ∷ map (λ c. Linearize c) (calls_seen i.applied 0 (slice_set seen p (Some inv))) else []) now.1.0)
            (λ other. rw other.1 refl)
            (number_cases found s),
      )

  pub turn_steps : (tries : ℕ) → 2 ≤ tries → stage_of me ≡ Ready tries → IsAnnounced me → Steps meaning o sizes me 0 (λ x. x) nothing (λ found me'. HasTurned st me found me')
  turn_steps tries two stage announced = λ g local words f me' said. (Turn tries stage two announced, refl, refl, left_at me me' _ (said tries stage two).0, refl)

  pub load_steps : (s k : ℕ) → IsLoading s k me → k + 1 < sizes.reply
      → Steps meaning o sizes me (buffer_word sizes (buffer_in s) (reply_place sizes p k)) (λ x. x) nothing (λ found me'. HasLoaded st me found me')
  load_steps s k loading more = λ g local words f me' said. (
    Load s loading.0 loading.1 (let e = loading.2 in omega (arith, e, more)),
    ap (λ j. buffer_word sizes (buffer_in s) (reply_place sizes p j)) loading.2,
    refl,
    left_at me me' _ (said s loading.0 loading.1),
    refl,
  )

  pub reply_steps : (s : ℕ) (loaded : List ℕ) → stage_of me ≡ Last s loaded → length loaded + 1 ≡ sizes.reply
      → Steps meaning o sizes me (buffer_word sizes (buffer_in s) (reply_place sizes p (length loaded))) (λ x. x) (ends l p loaded) (λ found me'. HasReplied st me found me')
  reply_steps s loaded stage last = λ g local words f me' said. (Reply s loaded stage last, refl, refl, left_at me me' _ (said s loaded stage).0, refl)

  pub follow_steps : stage_of me ≡ Idle [] → Steps meaning o sizes me 0 (λ x. x) nothing (λ found me'. HasFollowed st me found me')
  follow_steps stage = λ g local words f me' said. (Follow stage, refl, refl, left_at me me' _ (said stage).0, refl)

  pub recall_steps : (read : Read) → stage_of me ≡ Idle [] → l.read ≡ Some read
      → Steps meaning o sizes me 0 (λ x. x) nothing (λ found me'. (q : O) → me.0.object ≡ Some q → HasRecalled (meaning q) st me found me')
  recall_steps read stage had = λ g local words f me' said. (Recall read stage had, refl, refl, left_at me me' _ (said o f.object read stage had).0, refl)

  pub recount_steps : Steps meaning o sizes me (announce_word p) (λ x. x) nothing (λ found me'. HasRecounted st me found me')
  recount_steps = λ g local words f me' said. (Recount, refl, refl, left_at me me' _ said.0, refl)

  pub reread_steps : (which k : ℕ) → which ≤ 1 → k < buffer_words sizes
      → Steps meaning o sizes me (buffer_word sizes (2 * p + which) k) (λ x. x) nothing (λ found me'. HasReread st me found me')
  reread_steps which k either below = λ g local words f me' said. (Reread which k either below, refl, refl, left_at me me' _ said.0, refl)

  pub restart_steps : Steps meaning o sizes me 0 (λ x. x) nothing (λ found me'. HasRestarted st me found me')
  restart_steps = λ g local words f me' said. (Restart, refl, refl, left_at me me' _ (said (has_begun l.stage l.direct) refl), refl)
