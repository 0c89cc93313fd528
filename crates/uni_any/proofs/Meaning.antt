-- What the rule means.
use Rattle.uni_any.proofs.Vocabulary.{[], applied_in, blank, HasCome, image_from, inl, inr, Invoked, length-replicate, Row, take, Version, ◌∷◌, Board, Contains, Contents, Image, IsOrdered, IsShown, IsTold, Letter, List, Local, None, Option, Returned, Sequential, Some, StandsIn, View, acts_by, announced_by, ap, arith, in_of, number_in, pending_of, refl, slice_get, subst, sym, word_of, ℕ, ◌+◌, ◌/◌, ◌<◌, ◌∙◌, ◌≡◌, ◌≤◌}
use Rattle.std.proofs.Common.{cond, fold, length, ◌==◌}
use Rattle.uni_any.proofs.Batches.{contains_cons, counted_from, not_empty, state_from}
use Rattle.uni_any.proofs.Opening.{copies}
use Rattle.uni_model.proofs.Placed.{AgreesInOrder-holds}
use Rattle.uni_model.specs.Linearizable.{observed}
use Rattle.uni_any.specs.Versions.{IsVersionOf}
use Rattle.uni_any.specs.Final.{HasHistory, IsKnownVersion, KnownCalls, acts_told, calls_among}
use Rattle.uni_any.specs.Laws.{IsToldBy}
use Rattle.uni_any.specs.News.{first_image}

module _ {O I S R : Type 0} (meaning : O → Sequential S I R) (o : O) (n : ℕ) (g : Board I S R) (local : ℕ → Local I S R) (seat_of : ℕ → ℕ) (c : Contents (Letter I S R) (View O I S R)) (is : IsShown n meaning o g local seat_of c) where
  abbrev object : Sequential S I R
  object = meaning o

  -- these are the calls of a process
  abbrev AreCalls : KnownCalls I R → Type 0
  AreCalls its = (its.process < n) × ((local its.process).own ≡ its.own) × (pending_of (local its.process).stage ≡ its.pending)

  acts_of : (p : ℕ) (own : List (Returned I R)) (pending : Option I) → IsTold object n g local p own pending → acts_by p g.acts ≡ acts_told p own pending
  acts_of p own None told = told.2
  acts_of p own (Some inv) told = told.2

  -- what one seat tells of its process
  told_calls : (its : KnownCalls I R) → IsToldBy c.views its → AreCalls its
  told_calls its by =
      let e = by.process in
      let k = (is.seats by.id by.view by.there).each its.process (omega arith) (let a = by.alone in omega arith) in
      (k.0, ap (λ (z : Local I S R). z.own) k.2 ∙ by.own, ap (λ (z : Local I S R). pending_of z.stage) k.2 ∙ by.pending)

  told_acts : (its : KnownCalls I R) → AreCalls its → acts_by its.process g.acts ≡ acts_told its.process its.own its.pending
  told_acts its are = acts_of its.process its.own its.pending (subst (λ p. IsTold object n g local its.process its.own p) are.2
      (subst (λ own. IsTold object n g local its.process own (pending_of (local its.process).stage)) are.1 (is.sound.history.told its.process are.0)))

  told_order : (its : KnownCalls I R) → AreCalls its → (k : ℕ) (call : Returned I R) → slice_get its.own k ≡ Some call → StandsIn object g.atomic.agreed g.calls_in its.process k call
  told_order its are k call at =
      let order : IsOrdered object g.atomic.agreed g.calls_in g.number its.process (local its.process).after its.own
      = subst (λ own. IsOrdered object g.atomic.agreed g.calls_in g.number its.process (local its.process).after own) are.1 (is.sound.order.each its.process are.0) in
      order.stand k call at

  pub linearized_with : (known : List (KnownCalls I R)) → ((its : KnownCalls I R) → Contains known its → AreCalls its) → HasHistory object n known g.image.state
  linearized_with known are =
      let history = is.sound.history in
      record {
        acts = g.acts;
        atomic = g.atomic;
        accepted = history.accepted;
        completed = ((AgreesInOrder-holds object object.initial (observed g.acts) g.atomic.agreed).0 (g.acts, g.atomic, refl, history.accepted, refl)).1;
        state_is = sym (state_from object (first_image object n) g.atomic.agreed) ∙ ap (λ (z : Image S R). z.state) history.image;
        inside = λ x has. (history.agreed x has).0;
        own_is = λ its has. told_acts its (are its has);
        calls_in_version = g.calls_in;
        rising = is.sound.order.rising;
        stand = λ its has k call at. told_order its (are its has) k call at;
      }

  pub linearized_at : (known : List (KnownCalls I R)) → ((its : KnownCalls I R) → Contains known its → IsToldBy c.views its) → HasHistory object n known g.image.state
  linearized_at known by = linearized_with known (λ its has. told_calls its (by its has))

  -- of one process alone
  one_is : (its z : KnownCalls I R) → Contains (its ∷ []) z → z ≡ its
  one_is its z has = elim (contains_cons its [] z has) [
    | inl same ↦ sym same
    | inr none ↦ absurd (not_empty z none)
  ]

  one_alone : (its z : KnownCalls I R) → Contains (its ∷ []) z → AreCalls its → AreCalls z
  one_alone its z has are = subst AreCalls (sym (one_is its z has)) are

  -- how many calls of a process are in the image of these
  rows_count : (calls : List (Invoked I)) (image : Image S R) → image ≡ image_from object (first_image object n) calls → (q : ℕ) → q < n → applied_in image q ≡ calls_among q calls
  rows_count calls image is_from q inside =
      let long = length-replicate {A = Row R} n blank in
      ap (λ (z : Image S R). applied_in z q) is_from ∙ counted_from object (first_image object n) calls q (omega (arith, long, inside))
      ∙ ap (λ k. fold (λ a (d : Invoked I). a + cond (d.process == q) 1 0) k calls) (ap (λ (z : Row R). z.applied) (copies n q blank))

  pub version_at : (known : List (KnownCalls I R)) → ((its : KnownCalls I R) → Contains known its → IsToldBy c.views its) → IsKnownVersion object n known g.image
  unfolding linearized_at linearized_with
  version_at known by = record { history = linearized_at known by; rows = rows_count g.atomic.agreed g.image (sym is.sound.history.image) }

  pub acts_at : (known : List (KnownCalls I R)) (by : (its : KnownCalls I R) → Contains known its → IsToldBy c.views its) → (version_at known by).history.acts ≡ g.acts
  unfolding version_at linearized_at linearized_with
  acts_at known by = refl

  -- all its calls are in the present version, and in each later one
  pub all_at : (known : List (KnownCalls I R)) (by : (its : KnownCalls I R) → Contains known its → IsToldBy c.views its) (v : ℕ) → g.number ≤ v
      → (version_at known by).history.calls_in_version v ≡ length (version_at known by).history.atomic.agreed
  unfolding version_at linearized_at linearized_with
  all_at known by v late = is.sound.order.counted v late

  pub come_at : (p k : ℕ) (call : Returned I R) → p < n → slice_get (local p).own k ≡ Some call → call.version ≤ number_in (c.words 0)
  come_at p k call inside at =
      let known = (is.sound.order.each p inside).known k call at in
      let below : g.process < 64 = (let a = is.sound.board.process in let b = is.few.1 in omega arith) in
      let here : number_in (c.words 0) ≡ g.number = ap number_in is.word ∙ (let e : word_of g.number g.process / 64 ≡ g.number = omega (arith, below) in e) in
      omega (arith, known, here)

  pub soon_at : (p : ℕ) → p < n → g.since p + 2 ≤ g.number → announced_by n (local p) ≤ in_of g p
  soon_at p inside late = is.sound.board.soon p inside late

  -- a version that has come, no older than the one that a process follows
  pub version_come : (its : KnownCalls I R) → its.process < n → (local its.process).own ≡ its.own → pending_of (local its.process).stage ≡ its.pending
      → (x : Version S R) → HasCome object n g x → (local its.process).after ≤ x.number → IsVersionOf object n (its ∷ []) x.number x.image
  unfolding linearized_with
  version_come its inside own pending x come follows =
      let calls : List (Invoked I) = take (g.calls_in x.number) g.atomic.agreed in
      record {
        last = g.image.state;
        history = linearized_with (its ∷ []) (λ z has. one_alone its z has (inside, own, pending));
        calls = calls;
        calls_are = refl;
        state_is = sym (state_from object (first_image object n) calls) ∙ ap (λ (z : Image S R). z.state) (sym come.1);
        rows = rows_count calls x.image come.1;
        within = λ z has k call at.
            let same : z ≡ its = one_is its z has in
            let followed = is.sound.order.followed its.process inside in
            let a = subst (λ xs. (k : ℕ) (d : Returned I R) → slice_get xs k ≡ Some d → d.version ≤ (local its.process).after) own followed k call (ap (λ (y : KnownCalls I R). slice_get y.own k) (sym same) ∙ at) in
            omega (arith, follows);
      }
