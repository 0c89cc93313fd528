-- An attempt, in the terms of the seat that makes it.
use Rattle.std.specs.Prelude.{IfNone, IfSome, IsErr, IsSome}
use Rattle.std.proofs.lemmas.Bool.{false≢true}
use Rattle.std.specs.declared.alloc.AllocError.{AllocError}
use Rattle.std.proofs.Common.{Err, Ok, Result}
use Rattle.std.specs.Arc.{arc_value}
use Rattle.std.specs.declared.alloc.Global.{Global}
use Rattle.std.specs.declared.sync.Arc.{Arc}
use Rattle.uni_any.proofs.Vocabulary.{IsLaying, IsPending, IsWhole, None, Option, Posting, Reading, Ready, Sequential, Some, Stage, Told, Version, View, [], ap, applied_in, arith, base_of, block_news, call_news, calls_due, drafted, due, goes, inl, inr, length, length-append, made_by, most_calls, number_cases, number_in, process_in, refl, row_in, seen_of, stage_of, subst, sym, ℕ, ◌++◌, ◌+◌, ◌<◌, ◌∙◌, ◌∷◌, ◌≡◌, ◌≢◌, ◌≤◌}
use Rattle.uni_any.proofs.Batches.{long_from}
use Rattle.uni_any.specs.News.{version_as}
use Rattle.uni_any.specs.Seats.{GoesOnTo, HasEnded, HasFinished, HasLookedAt, HasTried, IsKept, IsSeatOf, StandsAt, local_in, object_of, processes_of, view_in}
use Rattle.uni_any.specs.declared.news.Block.{Block}
use Rattle.uni_any.specs.declared.seat.AnyAnswer.{AnyAnswer}
use Rattle.uni_any.specs.declared.seat.AnySeat.{AnySeat}
use Rattle.uni_any.specs.declared.seat.AnyShared.{AnyShared}
use Rattle.uni_any.proofs.Ends.{base_then, looked_in, looked_on}

-- a call that goes on, and then ends or goes on
module _ {O I S R : Type 0} (v w u : View O I S R) (stage : Stage I S R) (went : GoesOnTo v stage w) where
  pub ended_later : (inv : I) (reply : R) (number : ℕ) → HasEnded w inv reply number u → HasEnded v inv reply number u
  ended_later inv reply number e = record {
    own = e.own ∙ (λ k. went.own k ++ record { inv = inv; reply = reply; after = went.after k; version = number } ∷ []);
    idle = e.idle;
    after = e.after;
    later = subst (λ k. k < number) went.after e.later;
  }

  pub goes_later : (next : Stage I S R) → GoesOnTo w next u → GoesOnTo v next u
  goes_later next e = record { own = e.own ∙ went.own; after = e.after ∙ went.after; stage_is = e.stage_is }

  pub tried_then : (inv : I) (tries n : ℕ) (result : Option (AnyAnswer R)) → IfSome result (λ a. HasEnded w inv a.reply a.version u) × IfNone result (GoesOnTo w (Ready inv (tries + 1)) u) → HasTried v inv tries n (Ok result) u
  tried_then inv tries n None e = goes_later (Ready inv (tries + 1)) e.1
  tried_then inv tries n (Some a) e = ended_later inv a.reply a.version e.0

-- what an attempt that wasn't refused says
pub tried_some : {O I S R : Type 0} (v w : View O I S R) (inv : I) (tries n : ℕ) (result : Result (Option (AnyAnswer R)) AllocError) (first : Option (AnyAnswer R)) (a : AnyAnswer R) → result ≡ Ok first → first ≡ Some a → HasTried v inv tries n result w → HasEnded v inv a.reply a.version w
tried_some v w inv tries n result first a is some tried = subst (λ r. HasTried v inv tries n r w) (is ∙ ap (λ o. Ok o) some) tried

pub tried_none : {O I S R : Type 0} (v w : View O I S R) (inv : I) (tries n : ℕ) (result : Result (Option (AnyAnswer R)) AllocError) (first : Option (AnyAnswer R)) → result ≡ Ok first → first ≡ None → HasTried v inv tries n result w → GoesOnTo v (Ready inv (tries + 1)) w
tried_none v w inv tries n result first is none tried = subst (λ r. HasTried v inv tries n r w) (is ∙ ap (λ o. Ok o) none) tried

pub finished_ok : {O I S R : Type 0} (v w : View O I S R) (inv : I) (n : ℕ) (result : Result (AnyAnswer R) AllocError) (a : AnyAnswer R) → result ≡ Ok a → HasFinished v inv n result w → HasEnded v inv a.reply a.version w
finished_ok v w inv n result a is done = subst (λ r. HasFinished v inv n r w) is done

-- two attempts have failed
pub went_twice : {O I S R : Type 0} (v w u : View O I S R) (inv : I) (n : ℕ) (one two : Result (Option (AnyAnswer R)) AllocError) (first second : Option (AnyAnswer R)) → one ≡ Ok first → first ≡ None → HasTried v inv 0 n one w → two ≡ Ok second → second ≡ None → (IsPending inv 1 w → HasTried w inv 1 n two u) → GoesOnTo v (Ready inv 2) u
went_twice v w u inv n one two first second one_is none_1 tried_1 two_is none_2 tried_2 =
    let on = tried_none v w inv 0 n one first one_is none_1 tried_1 in
    goes_later v w u (Ready inv 1) on (Ready inv 2) (tried_none w u inv 1 n two second two_is none_2 (tried_2 (inl on.stage_is)))

-- memory was refused
pub refused_first : {O I S R : Type 0} (v w : View O I S R) (inv : I) (tries n : ℕ) (first : Result (Option (AnyAnswer R)) AllocError) (e : AllocError) → first ≡ Err e → HasTried v inv tries n first w → (t : ℕ) × GoesOnTo v (Reading inv t n) w
refused_first v w inv tries n first e is tried = subst (λ r. HasTried v inv tries n r w) is tried

pub finished_err : {O I S R : Type 0} (v w : View O I S R) (inv : I) (n : ℕ) (result : Result (AnyAnswer R) AllocError) → IsErr result → (t : ℕ) × GoesOnTo v (Reading inv t n) w → HasFinished v inv n result w
finished_err v w inv n (Ok x) err on = absurd (false≢true err)
finished_err v w inv n (Err e) err on = on

pub tried_err : {O I S R : Type 0} (v w : View O I S R) (inv : I) (tries n : ℕ) (result : Result (Option (AnyAnswer R)) AllocError) → IsErr result → (t : ℕ) → GoesOnTo v (Reading inv t n) w → HasTried v inv tries n result w
tried_err v w inv tries n (Ok x) err t on = absurd (false≢true err)
tried_err v w inv tries n (Err e) err t on = (t, on)

module _ {O I S R : Type 0} (meaning : O → Sequential S I R) (shared : AnyShared O S I R) (s t : AnySeat O S I R) (kept : IsKept shared s) (made : made_by (local_in s) ≡ s.made) (same : (t.p ≡ s.p) × (t.made ≡ s.made)) (inv : I) (tries word : ℕ) (looked : HasLookedAt meaning (view_in s) inv tries word (view_in t)) where
  abbrev n : ℕ
  n = processes_of shared

  abbrev object : Sequential S I R
  object = meaning (object_of shared)

  abbrev base : Version S R
  base = base_of object n (local_in t)

  abbrev x : Version S R
  x = base_of (meaning (view_in s).object) (view_in s).known.processes looked.local

  first_is : (view_in s).known.first ≡ t.p
  first_is = kept.place.first ∙ kept.number ∙ sym same.0

  made_is : made_by (local_in s) + 1 ≡ t.made + 1
  made_is = ap (λ k. k + 1) (made ∙ sym same.1)

  as_found : ((local_in t).word ≡ word) × ((local_in t).seen ≡ looked.local.seen)
  as_found = elim (number_cases (applied_in x.image (view_in s).known.first) (made_by (local_in s) + 1)) [
    | inl e ↦ (let h = looked_in meaning (view_in s) (view_in t) inv tries word looked e.0 in (h.3, h.4))
    | inr e ↦ (let h = looked_on meaning (view_in s) (view_in t) inv tries word looked e.0 in (h.2, h.3))
  ]

  pub word_then : (local_in t).word ≡ word
  word_then = as_found.0

  pub inside_then : process_in word < n
  inside_then = subst (λ k. process_in word < k) kept.place.processes looked.inside

  base_is : base ≡ x
  base_is = (λ k. base_of (meaning (sym kept.place.object k)) (sym kept.place.processes k) (local_in t))
      ∙ base_then meaning (view_in s) (view_in t) inv tries word looked as_found.0 as_found.1

  pub whole_then : IsWhole n base.image
  whole_then = subst (λ (z : Version S R). IsWhole n z.image) (sym base_is) (subst (λ k. IsWhole k x.image) kept.place.processes looked.found.whole)

  -- the version that was found has the call
  ended : applied_in base.image t.p ≡ t.made + 1 → (y : R) × ((row_in base.image t.p).reply ≡ Some y) × HasEnded (view_in s) inv y base.number (view_in t)
  ended e =
      let there : applied_in x.image (view_in s).known.first ≡ made_by (local_in s) + 1 = (λ k. applied_in (sym base_is k).image (first_is k)) ∙ e ∙ sym made_is in
      let h = looked_in meaning (view_in s) (view_in t) inv tries word looked there in (
        h.0,
        (λ k. (row_in (base_is k).image (sym first_is k)).reply) ∙ h.1,
        subst (λ (z : Version S R). HasEnded (view_in s) inv h.0 z.number (view_in t)) (sym base_is) h.2,
      )

  pub ended_as : (reply : R) (number : ℕ) → applied_in base.image t.p ≡ t.made + 1 → (row_in base.image t.p).reply ≡ Some reply → number ≡ base.number → HasEnded (view_in s) inv reply number (view_in t)
  ended_as reply number e reply_is number_is =
      let h = ended e in
      let both : Some h.0 ≡ Some reply = sym h.1 ∙ reply_is in
      let same_reply : h.0 ≡ reply = cc in
      subst (λ k. HasEnded (view_in s) inv reply k (view_in t)) (sym number_is) (subst (λ y. HasEnded (view_in s) inv y base.number (view_in t)) same_reply h.2)

  -- or it hasn't
  module _ (apart : applied_in base.image t.p ≢ t.made + 1) where
    apart_then : applied_in x.image (view_in s).known.first ≢ made_by (local_in s) + 1
    apart_then e = apart ((λ k. applied_in (base_is k).image (sym first_is k)) ∙ e ∙ made_is)

    pub few : tries < 2
    few = (looked_on meaning (view_in s) (view_in t) inv tries word looked apart_then).0

    pub went : GoesOnTo (view_in s) (Reading inv tries n) (view_in t)
    went = subst (λ k. GoesOnTo (view_in s) (Reading inv tries k) (view_in t)) kept.place.processes (looked_on meaning (view_in s) (view_in t) inv tries word looked apart_then).1

    pub due_then : due base.image t.p (seen_of object n (local_in t) t.p) ≡ Some inv
    due_then =
        let h = looked_on meaning (view_in s) (view_in t) inv tries word looked apart_then in
        (λ k. due (base_is k).image (sym first_is k) (seen_of (meaning (sym kept.place.object k)) (sym kept.place.processes k) (record (local_in t) { seen = h.3 k }) (sym first_is k))) ∙ h.5

    module _ (kept_t : IsKept shared t) (block : Block S R) (is : version_as block ≡ record { number = number_in word + 1; image = drafted object base.image (local_in t).seen }) where
      pub laying : IsLaying meaning inv tries (version_as block).image 0 (view_in t)
      laying = inl (
        refl,
        went.stage_is ∙ ap (Reading inv tries) (sym kept_t.place.processes),
        ap (λ (z : Version S R). z.image) is ∙ (λ k. drafted (meaning (sym kept_t.place.object k)) (base_of (meaning (sym kept_t.place.object k)) (sym kept_t.place.processes k) (local_in t)).image (local_in t).seen),
      )

      pub wide : length block.rows.items ≡ n
      wide = ap (λ (z : Version S R). length z.image.rows) is ∙ long_from object base.image (calls_due base.image 0 (local_in t).seen) ∙ whole_then.long

      pub told_then : (asked : I) → asked ≡ inv → (told : Told I S R) → told ≡ record { call = t.made + 1; inv = Some asked; last = version_as (arc_value t.last); next = version_as block } → told ≡ block_news (local_in t) inv (version_as block).image
      told_then asked asked_is told h = h ∙ (λ k. record {
        call = (ap (λ j. j + 1) (same.1 ∙ sym made ∙ ap (λ xs. length xs) (sym went.own))) k;
        inv = Some (asked_is k);
        last = sym kept_t.last k;
        next = record { number = (ap (λ (z : Version S R). z.number) is ∙ ap (λ j. number_in j + 1) (sym word_then)) k; image = (version_as block).image };
      })

-- a call has ended: the seat has no call pending, and one more that has returned
pub seat_ended : {O I S R : Type 0} (shared : AnyShared O S I R) (s t : AnySeat O S I R) (inv : I) (a : AnyAnswer R) → (made_by (local_in s) ≡ s.made) × (s.made < most_calls) → (t.made ≡ s.made + 1) × (t.asked ≡ None) → IsKept shared t → HasEnded (view_in s) inv a.reply a.version (view_in t) → IsSeatOf shared t
seat_ended shared s t inv a made now kept e = record {
  kept = kept;
  made = ap (λ xs. length xs) e.own ∙ length-append (local_in s).own _ ∙ ap (λ k. k + 1) made.0 ∙ sym now.0;
  few = subst (λ k. k ≤ most_calls) (sym now.0) (let m = made.1 in omega arith);
  pending_few = λ some. absurd (false≢true (subst IsSome now.1 some));
  stands = subst (λ o. StandsAt (processes_of shared) o (local_in t).stage) (sym now.1) e.idle;
}

-- what is written for a call
pub told_call : {O I S R : Type 0} (shared : AnyShared O S I R) (s : AnySeat O S I R) → IsKept shared s → made_by (local_in s) ≡ s.made → (asked inv : I) → asked ≡ inv → (told : Told I S R) → told ≡ record { call = s.made + 1; inv = Some asked; last = version_as (arc_value s.last); next = version_as (arc_value s.last) } → told ≡ call_news (local_in s) inv
told_call shared s kept made asked inv asked_is told h = h ∙ (λ k. record { call = sym made k + 1; inv = Some (asked_is k); last = sym kept.last k; next = sym kept.last k })

-- a call that is announced, and ends
module _ {O I S R : Type 0} (v w : View O I S R) (inv : I) (n : ℕ) (announced : w ≡ goes v (Posting inv n)) where
  pub announced_pending : (asked : I) → asked ≡ inv → w.known.processes ≡ n → IsPending asked 0 w
  announced_pending asked asked_is processes = inr (refl, inl (ap (λ (z : View O I S R). z.known.local.stage) announced ∙ (λ k. Posting (sym asked_is k) (sym processes k))))

  pub announced_ended : (u : View O I S R) (asked : I) → asked ≡ inv → (a : AnyAnswer R) → HasEnded w asked a.reply a.version u → HasEnded v inv a.reply a.version u
  announced_ended u asked asked_is a e = record {
    own = e.own ∙ (λ k. (announced k).known.local.own ++ record { inv = asked_is k; reply = a.reply; after = (announced k).known.local.after; version = a.version } ∷ []);
    idle = e.idle;
    after = e.after;
    later = subst (λ (z : View O I S R). z.known.local.after < a.version) announced e.later;
  }

-- a call that was left
pub left_pending : {O I S R : Type 0} (n : ℕ) (o : Option (Arc I Global)) (v : View O I S R) → IsSome o → StandsAt n o (stage_of v) → (asked : Arc I Global) × (o ≡ Some asked) × IsPending (arc_value asked) 0 v
left_pending n None v some stands = absurd (false≢true some)
left_pending n (Some asked) v some stands = (asked, refl, inr (refl, inr (stands.0, n, stands.1)))
