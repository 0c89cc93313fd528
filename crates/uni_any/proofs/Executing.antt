-- Each step of an execution keeps a board whose history is that of the execution.
use Rattle.uni_any.proofs.Vocabulary.{AcceptsAll, ending, at_start, Returned, brought, missed, with_local, ◌≤◌, Act, Board, Contents, HasFound, Image, IsShown, IsSound, Letter, Linearize, List, Local, Moves, None, Option, Reading, Sequential, Some, Tells, View, [], ap, applied_in, arith, drop, either, eqb, get_elem?, inl, inr, known_then, length, lt_cases, made_by, map, number_cases, number_in, opened, posted, refl, responses, returns, row_in, seen_of, set_at, some, subst, sym, with_letter, with_word, word_of, ℕ, ◌+◌, ◌++◌, ◌<◌, ◌∙◌, ◌∷◌, ◌≡◌, ◌≢◌}
use Rattle.atomic_table.proofs.Lists.{exchanged}
use Rattle.uni_model.proofs.Each.{at_each, each_of, from_each}
use Rattle.uni_any.proofs.Effects.{effects_are, present_is}
use Rattle.uni_model.proofs.Executions.{kept_along, linearized_by}
use Rattle.uni_model.specs.Executions.{IsLinearizedAtSteps}
use Rattle.uni_any.specs.Execution.{CanTake, Execution, Moment, all_acts, last_moment, opened_moment, acts_of, after, effect_of, found_by, present_in, seeing}
use Rattle.uni_any.specs.Execution.Next.{Bring, Fail, Lay, Learn, Post, Return, See, Start, View as Views}
use Rattle.uni_any.proofs.Bringing.{brings_move}
use Rattle.uni_any.proofs.Framing.{drop_past}
use Rattle.uni_any.proofs.Laying.{lays_move}
use Rattle.uni_any.proofs.Learning.{learns_move}
use Rattle.uni_any.proofs.Looks.{seen_fields}
use Rattle.uni_any.proofs.Opening as Opening
use Rattle.uni_any.proofs.Posting.{posts_move}
use Rattle.uni_any.proofs.Starting.{starts_move}
use Rattle.uni_any.proofs.Viewing.{sees_move, views_move}

module _ {O I S R : Type 0} (meaning : O → Sequential S I R) (o : O) (n : ℕ) where
  abbrev object : Sequential S I R
  object = meaning o

  -- the view of the seat of one process
  abbrev pub view_at : (local : ℕ → Local I S R) → (p : ℕ) → View O I S R
  view_at local p = record { object = o; known = record { processes = n; first = p; count = 1; local = local p } }

  abbrev pub contents_at : Moment I S R → Contents (Letter I S R) (View O I S R)
  contents_at m = record { words = λ i. m.word; buffers = m.buffers; views = each_of (view_at m.local) n }

  -- each buffer has what its writer wrote last, or its reader has taken it
  abbrev AreHanded : ((from to : ℕ) → Option (Letter I S R)) → (ℕ → Local I S R) → Type 0
  AreHanded buffers local = (from to : ℕ) → from < n → to < n → known_then (buffers from to) (seen_of object n (local to) from) ≡ posted (local from) to

  -- a moment shows a board with this history
  pub record Holds (m : Moment I S R) (acts : List (Act I R)) : Type 0 where
    pub board : Board I S R
    pub word_is : m.word ≡ word_of board.number board.process
    pub handed : AreHanded m.buffers m.local
    pub sound : IsSound object n board m.local
    pub appended : board.acts ≡ acts

  module _ (few : (1 ≤ n) × (n ≤ 64)) where
    pub shown : (m : Moment I S R) (acts : List (Act I R)) (h : Holds m acts) → IsShown n meaning o h.board m.local (λ q. q) (contents_at m)
    shown m acts h = record {
      few = few;
      word = h.word_is;
      buffers = h.handed;
      seats = λ id v e.
          let at = from_each (view_at m.local) n id v e in
          subst (λ (u : View O I S R). Tells n o m.local (λ q. q) id u) at.1 (record {
            object = refl;
            processes = refl;
            each = λ q from below.
                let here : id ≡ q = omega (arith, from, below) in
                (subst (λ k. k < n) here at.0, sym here, ap m.local (sym here));
          });
      sound = h.sound;
    }

    pub seat_at : (m : Moment I S R) (p : ℕ) → p < n → get_elem? (each_of (view_at m.local) n) p ≡ some (view_at m.local p)
    seat_at m p inside = at_each (view_at m.local) n p inside

    -- one step of a process that moves the board
    moved : (m : Moment I S R) (acts : List (Act I R)) (h : Holds m acts) (p : ℕ) (inside : p < n) (next : CanTake object n m p)
        → (leads : Contents (Letter I S R) (View O I S R) → View O I S R → Contents (Letter I S R) (View O I S R))
        (makes : Board I S R → (ℕ → Local I S R) → Contents (Letter I S R) (View O I S R) → View O I S R → List (Act I R) → Type 0) (says : Contents (Letter I S R) (View O I S R) → View O I S R → Type 0)
        → Moves meaning o n p (view_at m.local p) leads makes says
        → ((w : View O I S R) → ((leads (contents_at m) w).words 0 ≡ (after object n m p next).word) × ((leads (contents_at m) w).buffers ≡ (after object n m p next).buffers))
        → ((w : View O I S R) → says (contents_at m) w → w.known.local ≡ (effect_of object n m p (m.local p) next).leaves)
        → ((w : View O I S R) (made : List (Act I R)) → says (contents_at m) w → makes h.board m.local (contents_at m) w made → made ≡ acts_of object n m p next)
        → Holds (after object n m p next) (acts ++ acts_of object n m p next)
    moved m acts h p inside next leads makes says moves there left made =
        let to = moves (contents_at m) h.board m.local (λ q. q) (shown m acts h) (seat_at m p inside) in
        let shows = to.2 in
        let is = shows.1 in
        let l = left to.0 to.4 in
        record {
          board = shows.0;
          word_is = sym (there to.0).0 ∙ is.word;
          handed = subst (λ b. AreHanded b (after object n m p next).local) (there to.0).1 (subst (λ z. AreHanded (leads (contents_at m) to.0).buffers (set_at m.local p z)) l is.buffers);
          sound = subst (λ z. IsSound object n shows.0 (set_at m.local p z)) l is.sound;
          appended = shows.2 ∙ (λ k. h.appended k ++ made to.0 to.1 to.4 to.3 k);
        }

    -- the local of a view that is as it was but for that
    abbrev local_then : View O I S R → Local I S R
    local_then w = w.known.local

    -- what a look leaves that goes on, or ends the call
    local_on : (m : Moment I S R) (p : ℕ) (inv : I) (tries r : ℕ) → r < n → (r + 1 ≡ n → applied_in (found_by object n m p (m.local p) r).image p ≢ made_by (m.local p) + 1) → (w : View O I S R)
        → let v = view_at m.local p in let l1 = seeing object n m p (m.local p) r in
        (r + 1 < n → w ≡ with_local v (record l1 { stage = Reading inv tries (r + 1) })) × (r + 1 ≡ n → HasFound meaning v inv tries l1 w) → w.known.local ≡ record l1 { stage = Reading inv tries (r + 1) }
    local_on m p inv tries r r_in lacks w said = elim (lt_cases (r + 1) n) [
      | inl less ↦ ap local_then (said.0 less.0)
      | inr more ↦
          let last : r + 1 ≡ n = (let a = more.0 in omega (arith, r_in)) in
          let own = (seen_fields (m.local p) r (m.buffers r p)).0 in
          let t = (said.1 last).goes_on (λ e. lacks last (e ∙ ap (λ own'. length own' + 1) own)) in
          ap local_then t.4 ∙ ap (λ k. record (seeing object n m p (m.local p) r) { stage = Reading inv tries k }) (sym last)
    ]

    local_ended : (m : Moment I S R) (p : ℕ) (inv : I) (tries r : ℕ) (reply : R) → r + 1 ≡ n → applied_in (found_by object n m p (m.local p) r).image p ≡ made_by (m.local p) + 1 → (row_in (found_by object n m p (m.local p) r).image p).reply ≡ Some reply → (w : View O I S R)
        → let l1 = seeing object n m p (m.local p) r in HasFound meaning (view_at m.local p) inv tries l1 w → w.known.local ≡ returns l1 inv reply (found_by object n m p (m.local p) r).number
    local_ended m p inv tries r reply last is_in has w said =
        let own = (seen_fields (m.local p) r (m.buffers r p)).0 in
        let t = said.ends (is_in ∙ ap (λ own'. length own' + 1) (sym own)) in
        let both : Some t.0 ≡ Some reply = sym t.1 ∙ has in
        let same : t.0 ≡ reply = cc in
        ap local_then t.3 ∙ ap (λ y. returns (seeing object n m p (m.local p) r) inv y (found_by object n m p (m.local p) r).number) same

    local_brought : (m : Moment I S R) (p : ℕ) (inv : I) (tries : ℕ) (image : Image S R) (reply : R) → m.word ≡ (m.local p).word → (row_in image p).reply ≡ Some reply → (w : View O I S R)
        → let v = view_at m.local p in let l = m.local p in
        (m.word ≡ l.word → (x : R) × ((row_in image p).reply ≡ Some x) × (l.after < number_in l.word + 1) × (w ≡ with_local v (brought l inv x image))) × (m.word ≢ l.word → w ≡ with_local v (missed l inv tries image))
        → w.known.local ≡ brought l inv reply image
    local_brought m p inv tries image reply same has w said =
        let t = said.0 same in
        let both : Some t.0 ≡ Some reply = sym t.1 ∙ has in
        let its : t.0 ≡ reply = cc in
        ap local_then t.3 ∙ ap (λ y. brought (m.local p) inv y image) its

    none_past : (own : List (Returned I R)) → drop (length own) own ≡ []
    none_past [] = refl
    none_past (x ∷ xs) = none_past xs

    pub step_holds : (m : Moment I S R) (acts : List (Act I R)) → Holds m acts → (p : ℕ) → p < n → (next : CanTake object n m p) → Holds (after object n m p next) (acts ++ acts_of object n m p next)
    step_holds m acts h p inside (Post inv r letter posts_it r_in room tells) =
        let v = view_at m.local p in
        moved m acts h p inside (Post inv r letter posts_it r_in room tells) (with_letter p r (Some letter) p) _ _
        (posts_move meaning o n p v refl inv r r_in posts_it room letter tells)
        (λ w. (refl, refl))
        (λ w said. ap local_then (said inv posts_it tells))
        (λ w made said makes. elim (number_cases r 0) [
          | inl e ↦ rw e.1 (makes.0 e.0)
          | inr e ↦ rw e.1 (makes.1 e.0)
        ])
    step_holds m acts h p inside (Start inv tries waits) =
        let v = view_at m.local p in
        moved m acts h p inside (Start inv tries waits) (with_word (λ x. x) p) _ _
        (starts_move meaning o n p v refl inv tries waits refl)
        (λ w. (refl, refl))
        (λ w said. ap local_then (said inv tries waits).2)
        (λ w made said makes. makes)
    step_holds m acts h p inside (Learn inv tries r reads r_in lacks) =
        let v = view_at m.local p in
        let same = seen_fields (m.local p) r (m.buffers r p) in
        moved m acts h p inside (Learn inv tries r reads r_in lacks) (with_letter r p None p) _ _
        (learns_move meaning o n p v refl refl inv tries r r_in reads)
        (λ w. (refl, refl))
        (λ w said. local_on m p inv tries r r_in lacks w (said inv tries reads r_in))
        (λ w made said makes. makes ∙ ap (λ own. responses p (length (m.local p).own) (drop (length (m.local p).own) own)) (ap (λ (z : Local I S R). z.own) (local_on m p inv tries r r_in lacks w (said inv tries reads r_in)) ∙ same.0)
        ∙ ap (responses p (length (m.local p).own)) (none_past (m.local p).own))
    step_holds m acts h p inside (Return inv tries r reply reads last is_in has) =
        let v = view_at m.local p in
        let r_in : r < n = omega (arith, last) in
        let same = seen_fields (m.local p) r (m.buffers r p) in
        moved m acts h p inside (Return inv tries r reply reads last is_in has) (with_letter r p None p) _ _
        (learns_move meaning o n p v refl refl inv tries r r_in reads)
        (λ w. (refl, refl))
        (λ w said. local_ended m p inv tries r reply last is_in has w ((said inv tries reads r_in).1 last))
        (λ w made said makes. makes ∙ ap (λ own. responses p (length (m.local p).own) (drop (length (m.local p).own) own))
        (ap (λ (z : Local I S R). z.own) (local_ended m p inv tries r reply last is_in has w ((said inv tries reads r_in).1 last)) ∙ ap (λ own. own ++ ending (seeing object n m p (m.local p) r) inv reply (found_by object n m p (m.local p) r).number ∷ []) same.0)
        ∙ ap (responses p (length (m.local p).own)) (drop_past (m.local p).own _))
    step_holds m acts h p inside (Lay inv tries r image letter lays_it r_in tells) =
        let v = view_at m.local p in
        moved m acts h p inside (Lay inv tries r image letter lays_it r_in tells) (with_letter p r (Some letter) p) _ _
        (lays_move meaning o n p v refl refl inv tries image r r_in lays_it letter tells)
        (λ w. (refl, refl))
        (λ w said. ap local_then (said inv tries image lays_it tells))
        (λ w made said makes. makes)
    step_holds m acts h p inside (Bring inv tries image reply whole same has) =
        let v = view_at m.local p in
        let l = m.local p in
        moved m acts h p inside (Bring inv tries image reply whole same has) (with_word (λ found. either (eqb found l.word) (word_of (number_in l.word + 1) p) found) p) _ _
        (brings_move meaning o n p v refl refl inv tries image whole)
        (λ w. (exchanged m.word l.word (word_of (number_in l.word + 1) p) (λ y. y ≡ word_of (number_in l.word + 1) p) (λ e. refl) (λ e. absurd (e same)), refl))
        (λ w said. local_brought m p inv tries image reply same has w (said inv tries image whole))
        (λ w made said makes.
        let t = makes.0 same in
        let present = present_is meaning o n h.board m.local (λ q. q) (contents_at m) (shown m acts h) in
        t.1 ∙ (λ k. map (λ c. Linearize c) (sym (effects_are object n h.board m.local h.sound image t.0 (present_in m).image present) k)
        ++ (ap (λ (z : Local I S R). responses p (length l.own) (drop (length l.own) z.own)) (local_brought m p inv tries image reply same has w (said inv tries image whole)) ∙ ap (responses p (length l.own)) (drop_past l.own _)) k))
    step_holds m acts h p inside (Fail inv tries image whole other) =
        let v = view_at m.local p in
        let l = m.local p in
        moved m acts h p inside (Fail inv tries image whole other) (with_word (λ found. either (eqb found l.word) (word_of (number_in l.word + 1) p) found) p) _ _
        (brings_move meaning o n p v refl refl inv tries image whole)
        (λ w. (exchanged m.word l.word (word_of (number_in l.word + 1) p) (λ y. y ≡ m.word) (λ e. absurd (other e)) (λ e. refl), refl))
        (λ w said. ap local_then ((said inv tries image whole).1 other))
        (λ w made said makes. makes.1 other)
    step_holds m acts h p inside (Views idle) =
        let v = view_at m.local p in
        moved m acts h p inside (Views idle) (with_word (λ x. x) p) _ _
        (views_move meaning o n p v refl refl idle)
        (λ w. (refl, refl))
        (λ w said. ap local_then (said idle).2)
        (λ w made said makes. makes)
    step_holds m acts h p inside (See r idle r_in named follows) =
        let v = view_at m.local p in
        moved m acts h p inside (See r idle r_in named follows) (with_letter r p None p) _ _
        (sees_move meaning o n p v refl refl idle r r_in named follows)
        (λ w. (refl, refl))
        (λ w said. ap local_then (said idle (sym named) follows).2)
        (λ w made said makes. makes)

    pub opening_holds : Holds (opened_moment object n) []
    opening_holds = record {
      board = opened object n;
      word_is = (let z : 0 ≡ word_of 0 0 = omega arith in z);
      handed = λ from to from_in to_in. Opening.none_seen meaning o n few from;
      sound = Opening.sound' meaning o n few;
      appended = refl;
    }

    -- and so does an execution
    pub all_acts_hold : (e : Execution object n (opened_moment object n)) → Holds (last_moment object n e) (all_acts object n e)
    all_acts_hold e = kept_along n (CanTake object n) (after object n) (acts_of object n) Holds step_holds [] opening_holds e

    pub linearized : (e : Execution object n (opened_moment object n)) → IsLinearizedAtSteps object (all_acts object n e)
    linearized e =
        let h = all_acts_hold e in
        linearized_by object (all_acts object n e) h.board.atomic (subst (λ a. AcceptsAll object (at_start object.initial) a h.board.atomic) h.appended h.sound.history.accepted)
