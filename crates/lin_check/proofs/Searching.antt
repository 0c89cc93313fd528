-- A round of the search, and what it says in the end.
use Rattle.std.proofs.lemmas.List.{reverse-append}
use Rattle.uni_model.proofs.Written.{lt_cases}
use Rattle.std.proofs.lemmas.Bool.{cases_lt}
use Rattle.std.proofs.lemmas.List.Elements.{All-get_or, All-nil, All-push}
use Rattle.lin_check.proofs.Vocabulary.{IsOrder, All, IfSome, AreTried, Event, Fails, FailsAt, FailsWith, Finds, Frame, Global, Idle, IsChoice, IsFailing, IsLinearizableHistory, IsReached, IsStack, Leads, List, Node, None, Reached, Sequential, Slot, SlotStands, Some, Stands, Vec, [], acts_of, ap, append-nil, arith, at_start, candidate, drop, get_or, inl, inr, length, map, number_cases, numbered, observed, refl, reverse, slice_get_past, slot_at, subst, suc, sym, zero, ℕ, ◌++◌, ◌+◌, ◌-◌, ◌<◌, ◌∙◌, ◌∷◌, ◌≡◌, ◌≢◌, ◌≤◌, ◌⊎◌}
use Rattle.lin_check.proofs.Standing.{fails_choice}
use Rattle.lin_check.proofs.Children.{fails_beyond}
use Rattle.std.proofs.lemmas.Option.{slice_get-get_or}
use Rattle.lin_check.specs.Search.{IsNodeAt, IsSameNode, path}

-- after those that are tried first, the candidates are the processes
candidate-later : (order : List ℕ) (q : ℕ) → candidate order (length order + q) ≡ q
candidate-later order q = elim (lt_cases (length order + q) (length order)) [
  | inl less ↦ absurd (let e : length order + q < length order = less.0 in omega arith)
  | inr other ↦ rw other.1 (let e : length order + q - length order ≡ q = omega arith in e)
]

-- one more idle slot
pub idle_more : (slots : List Slot) → ((p : ℕ) → slot_at slots p ≡ Idle) → (p : ℕ) → slot_at (slots ++ Idle ∷ []) p ≡ Idle
idle_more [] idle zero = refl
idle_more [] idle (suc p) = refl
idle_more (s ∷ slots) idle zero = idle zero
idle_more (s ∷ slots) idle (suc p) = idle_more slots (λ q. idle (suc q)) p

module _ {S I R : Type 0} (object : Sequential S I R) (history : List (Event I R)) where
  -- one more candidate
  pub tried_none : (node : Node S) (order : List ℕ) → AreTried object history node order 0
  tried_none node order = record { each = λ i less. absurd (omega arith) }

  pub tried_more : (node : Node S) (order : List ℕ) (j : ℕ) → AreTried object history node order j → IsFailing object history node (candidate order j) → AreTried object history node order (j + 1)
  tried_more node order j tried fails = record {
    each = λ i less. elim (number_cases i j) [
      | inl last ↦ subst (λ x. IsFailing object history node (candidate order x)) (sym last.0) fails
      | inr other ↦ tried.each i (let apart = other.0 in omega arith)
    ];
  }

  -- nothing comes of a node whose candidates are all tried
  pub tried_all : (node : Node S) (order : List ℕ) (j : ℕ) → IsChoice history node.at node.slots.items → length order + length node.slots.items ≤ j → AreTried object history node order j → FailsAt object history node
  tried_all node order j choice enough tried =
      fails_choice object history node.at node.slots.items node.state choice.process choice.response choice.here choice.call choice.is_open each where
        by_place : (q : ℕ) → (q < length node.slots.items) ⊎ (length node.slots.items ≤ q) → IsFailing object history node q
        by_place q (inl inside) = subst (λ x. IsFailing object history node x) (candidate-later order q) (tried.each (length order + q) (omega arith))
        by_place q (inr beyond) = fails_beyond object history node q (slice_get_past node.slots.items q beyond)

        each : (q : ℕ) → FailsWith object history node.at node.slots.items node.state q
        each q = by_place q (cases_lt q (length node.slots.items))

  -- a child that is known to fail
  same_fails : (a b : Node S) → IsSameNode a b → FailsAt object history a → FailsAt object history b
  same_fails a b same fails =
      subst (λ s. Fails object history b.at b.slots.items s) same.state
      (subst (λ xs. Fails object history b.at xs a.state) same.slots
      (subst (λ j. Fails object history j a.slots.items a.state) same.at fails))

  pub known_fails : (nodes : List (Node S)) (k : ℕ) (child : Node S) → All (FailsAt object history) nodes → k < length nodes → IsNodeAt nodes k child → FailsAt object history child
  known_fails nodes k child fail inside same =
      let other = get_or nodes k child in
      let there = slice_get-get_or nodes k child inside in
      same_fails other child (subst (λ o. IfSome o (λ x. IsSameNode x child)) there same) (All-get_or (FailsAt object history) nodes k child inside fail)

  pub finds_by : (node child : Node S) (order : List ℕ) (j call : ℕ) → AreTried object history node order j → Leads object history node (candidate order j) call child
      → Finds object history node order (j + 1) call child
  finds_by node child order j call tried leads = record {
    fails = λ h. tried_more node order j tried (leads.fails h);
    reached = leads.reached;
    ready = leads.ready;
    many = leads.many;
  }

  -- the calls along the path
  path-last : (fs : List (Frame S)) (f : Frame S) → path object history (fs ++ f ∷ []) ≡ f.call ∷ path object history fs
  path-last [] f = refl
  path-last (g ∷ fs) f = ap (λ xs. xs ++ g.call ∷ []) (path-last fs f)

  pub path-reverse : (fs : List (Frame S)) → path object history (reverse fs) ≡ map (λ (f : Frame S). f.call) fs
  path-reverse [] = refl
  path-reverse (f ∷ fs) = ap (path object history) (reverse-append (f ∷ []) fs) ∙ path-last (reverse fs) f ∙ ap (λ xs. f.call ∷ xs) (path-reverse fs)

  -- what holds at each round: the frames from the first to the last, and the node that is searched
  pub record IsSearch (n : ℕ) (stack : List (Frame S)) (node : Node S) (order : List ℕ) (next : ℕ) (failed : List (Node S)) : Type 0 where
    pub choice : IsChoice history node.at node.slots.items
    pub many : length node.slots.items ≡ n
    pub tried : AreTried object history node order next
    pub reached : IsReached object history node (path object history (reverse stack))
    pub below : IsStack object history n (reverse stack) node
    pub fail : All (FailsAt object history) failed

  -- down to a child
  pub down : (n : ℕ) (stack after : List (Frame S)) (node child : Node S) (order : Vec ℕ Global) (later : List ℕ) (next more call : ℕ) (failed : List (Node S)) → IsSearch n stack node order.items next failed
      → Finds object history node order.items more call child → after ≡ stack ++ record { node = node; order = order; next = more; call = call } ∷ [] → child.at ≢ length history
      → IsSearch n after child later 0 failed
  down n stack after node child order later next more call failed h finds pushed goes_on =
      let turned : reverse after ≡ record { node = node; order = order; next = more; call = call } ∷ reverse stack = ap reverse pushed ∙ reverse-append stack (record { node = node; order = order; next = more; call = call } ∷ []) in
      record {
        choice = elim finds.ready [ inl end ↦ absurd (goes_on end) | inr choice ↦ choice ];
        many = finds.many ∙ h.many;
        tried = tried_none child later;
        reached = subst (λ fs. IsReached object history child (path object history fs)) (sym turned) (finds.reached (path object history (reverse stack)) h.reached);
        below = subst (λ fs. IsStack object history n fs child) (sym turned) (record { choice = h.choice; many = h.many; leads = finds.fails; reached = h.reached }, h.below);
        fail = h.fail;
      }

  -- nothing is left of a history
  pub nothing_left : (xs : List (Event I R)) → drop (length xs) xs ≡ []
  nothing_left [] = refl
  nothing_left (x ∷ xs) = nothing_left xs

  pub linearized : (at : ℕ) (slots : List Slot) (state : S) (order : List ℕ) → at ≡ length history → Reached object history at slots state order
      → IsOrder object history order
  linearized at slots state order end r =
      let nothing : drop at history ≡ [] = ap (λ j. drop j history) end ∙ nothing_left history in (
        r.object_then.agreed,
        (r.acts, r.object_then, sym (r.shown ∙ ap (λ xs. observed r.acts ++ numbered r.object_then.next_nth xs) nothing ∙ append-nil (observed r.acts)), r.accepted, refl),
        r.agreed,
      )

  -- the end of the history is reached
  pub at_end : (n : ℕ) (stack after : List (Frame S)) (node child : Node S) (first : Vec ℕ Global) (next more call : ℕ) (failed : List (Node S)) (order : List ℕ) → IsSearch n stack node first.items next failed
      → Finds object history node first.items more call child → after ≡ stack ++ record { node = node; order = first; next = more; call = call } ∷ [] → child.at ≡ length history
      → order ≡ map (λ (f : Frame S). f.call) after
      → IsOrder object history order
  at_end n stack after node child first next more call failed order h finds pushed end is =
      let turned : reverse after ≡ record { node = node; order = first; next = more; call = call } ∷ reverse stack = ap reverse pushed ∙ reverse-append stack (record { node = node; order = first; next = more; call = call } ∷ []) in
      let there = finds.reached (path object history (reverse stack)) h.reached in
      let along : path object history (reverse stack) ++ call ∷ [] ≡ order = sym (ap (path object history) turned) ∙ path-reverse after ∙ sym is in
      linearized child.at child.slots.items child.state order end (subst (λ xs. IsReached object history child xs) along there)

  -- back to the frame below
  pub up : (n : ℕ) (stack rest : List (Frame S)) (f : Frame S) (node : Node S) (order : List ℕ) (next : ℕ) (failed more : List (Node S)) → IsSearch n stack node order next failed → FailsAt object history node
      → stack ≡ rest ++ f ∷ [] → more ≡ failed ++ node ∷ [] → IsSearch n rest f.node f.order.items f.next more
  up n stack rest f node order next failed more h fails popped added =
      let turned : reverse stack ≡ f ∷ reverse rest = ap reverse popped ∙ reverse-append rest (f ∷ []) in
      let below = subst (λ fs. IsStack object history n fs node) turned h.below in
      record {
        choice = below.0.choice;
        many = below.0.many;
        tried = below.0.leads fails;
        reached = below.0.reached;
        below = below.1;
        fail = all_more failed more node added h.fail fails;
      } where
        all_more : (failed more : List (Node S)) (node : Node S) → more ≡ failed ++ node ∷ [] → All (FailsAt object history) failed → FailsAt object history node → All (FailsAt object history) more
        all_more failed more node added fail fails = subst (λ xs. All (FailsAt object history) xs) (sym added) (All-push (FailsAt object history) failed node fail fails)

  -- nothing comes of the first node
  pub refuted : (n : ℕ) (stack : List (Frame S)) (node : Node S) (order : List ℕ) (next : ℕ) (failed : List (Node S)) → IsSearch n stack node order next failed → FailsAt object history node
      → stack ≡ [] → ¬ (IsLinearizableHistory object object.initial (acts_of history))
  refuted n stack node order next failed h fails empty = (subst (λ fs. IsStack object history n fs node) (ap reverse empty) h.below) fails

  -- the first round
  pub first_round : (n : ℕ) (node : Node S) (order : List ℕ) → IsChoice history node.at node.slots.items → length node.slots.items ≡ n → IsReached object history node []
      → (FailsAt object history node → ¬ (IsLinearizableHistory object object.initial (acts_of history))) → IsSearch n [] node order 0 []
  first_round n node order choice many reached sound = record {
    choice = choice;
    many = many;
    tried = tried_none node order;
    reached = reached;
    below = sound;
    fail = All-nil (FailsAt object history);
  }

  -- before all events
  pub stands_first : (slots : List Slot) (state : S) → ((p : ℕ) → slot_at slots p ≡ Idle) → state ≡ object.initial → Stands object history (at_start object.initial) 0 slots state
  stands_first slots state idle initial = record {
    same_state = sym initial;
    left = refl;
    each = λ p. subst (λ slot. SlotStands object history (at_start object.initial) 0 p slot) (sym (idle p))
        (record { is_open = refl; below = λ j d at own. absurd (let f : None ≡ Some d = at in cc) });
  }

  pub reached_first : (slots : List Slot) (state : S) → ((p : ℕ) → slot_at slots p ≡ Idle) → state ≡ object.initial → Reached object history 0 slots state []
  reached_first slots state idle initial = record {
    object_then = at_start object.initial;
    acts = [];
    accepted = refl;
    shown = refl;
    stands = stands_first slots state idle initial;
    agreed = refl;
  }

  pub sound_first : (slots : List Slot) (state : S) → ((p : ℕ) → slot_at slots p ≡ Idle) → state ≡ object.initial → Fails object history 0 slots state
      → ¬ (IsLinearizableHistory object object.initial (acts_of history))
  sound_first slots state idle initial fails lin =
      fails.none (at_start object.initial) (stands_first slots state idle initial) (record { end = lin.1.1; acts = lin.1.0; accepted = lin.1.3; shown = lin.1.2 }) tt

  -- the same search, where its parts are the same
  pub same_search : (n : ℕ) (stack stack' : Vec (Frame S) Global) (node node' : Node S) (order order' : Vec ℕ Global) (next next' : ℕ) (failed failed' : List (Node S))
      → stack ≡ stack' → node ≡ node' → order ≡ order' → next ≡ next' → failed ≡ failed'
      → IsSearch n stack'.items node' order'.items next' failed' → IsSearch n stack.items node order.items next failed
  same_search n stack stack' node node' order order' next next' failed failed' a b c d e h =
      subst (λ (x : Vec (Frame S) Global). IsSearch n x.items node order.items next failed) (sym a)
      (subst (λ x. IsSearch n stack'.items x order.items next failed) (sym b)
      (subst (λ (x : Vec ℕ Global). IsSearch n stack'.items node' x.items next failed) (sym c)
      (subst (λ x. IsSearch n stack'.items node' order'.items x failed) (sym d)
      (subst (λ x. IsSearch n stack'.items node' order'.items next' x) (sym e) h))))

pub nothing_of : {A : Type 0} (xs : List A) → length xs ≡ 0 → xs ≡ []
nothing_of [] e = refl
nothing_of (x ∷ xs) e = absurd (omega arith)
