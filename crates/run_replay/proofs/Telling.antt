-- What a step proposes, by the call whose cell it proposes and by what its place holds afterwards; and what the cell of a call asks for.
use Rattle.run_replay.proofs.Vocabulary.{Arena, Begun, Bool, CallId, Coming, DecideAfter, DecideNew, Event, Excerpt, Frame, Held, InvOf, Invariant, Invocation, IsComing, IsSome, Language, List, Memory, Name, NewOf, None, Of, Option, Pending, Scene, Sequential, Settled, Some, Stage, Start, Step, Stepped, Steps, WorldOf, [], after_of, alone, ap, append-nil, append_assoc, arith, begun, call_of_name, cell_of, codes, content_after, current_of, drop, excerpt_of, field_name, flat_map, flat_map-append, frame_of, held, inl, inr, inv_of, kind_of, length, made_of, map, map-append, map-id, memory_asked, memory_with, name_eq_same, name_in, new_of, option_and_then, option_map, option_or, place_named, place_of, processes_of, proposal_of, proposal_told, proposed_at, range_with_len, refl, response_of_step, scenes_from, start_of, stepped, subst, suc, sym, take, text_of_words, value_after, world_after, world_after_all, world_after_step, ℕ, ◌++◌, ◌+◌, ◌-◌, ◌<◌, ◌↔◌, ◌∙◌, ◌∷◌, ◌≡◌, ◌≤◌, ◌⊎◌}
use Rattle.cell_arena.specs.CellRecord.{index_of}
use Rattle.std.proofs.lemmas.List.FromFn.{map-range_with_len_more}
use Rattle.run_replay.proofs.Replayed.{kept_by_step}

module _ {S I R : Type 0} where
  -- the cell of a call that comes next isn't made yet
  pub unmade : (object : Sequential S I R) (w : WorldOf S I R) → Invariant object w → (p : ℕ) → inv_of w.memory (Of p (w.begun p)) ≡ None
  unmade object w inv p = by_made (inv_of w.memory (Of p (w.begun p))) refl where
    by_made : (o : Option I) → inv_of w.memory (Of p (w.begun p)) ≡ o → inv_of w.memory (Of p (w.begun p)) ≡ None
    by_made None is = is
    by_made (Some i) is = let past = (inv.2.calls.begun p (w.begun p) (i, is)).2 in absurd (omega arith)

  -- and asks for its invocation once it is
  pub asked : (m : Memory S I R) (x : Name) (i : I) → inv_of (memory_with m (InvOf x) (Invocation (Some i))) x ≡ Some i
  asked m x i = rw (name_eq_same x) refl

module _ {S I R : Type 0} (object : Sequential S I R) (w : WorldOf S I R) where
  pub proposal_is : (l : Language I R) (text : S → List ℕ) → Invariant object w → (p : ℕ) (c : Pending) → w.call p ≡ Some c
      → option_map (λ v. held l text (memory_with w.memory (place_of w.n p c.mine c.stage) v) (place_of w.n p c.mine c.stage)) (proposal_of object c.stage w.memory)
      ≡ proposal_told (kind_of c.stage) (option_and_then call_of_name (proposed_at c.stage)) (held l text (world_after object w (Step p)).memory (place_of w.n p c.mine c.stage))
  proposal_is l text inv p c some =
      by_stage c.mine c.stage some
      ∙ ap (λ o. proposal_told (kind_of c.stage) (option_and_then call_of_name (proposed_at c.stage)) (held l text (world_after_step object w p o).memory (place_of w.n p c.mine c.stage))) (sym some)
    where
      value_same : (x y : Name) → after_of w.memory x ≡ Some y → (o : Option (S × Option R)) → new_of w.memory y ≡ o
          → value_after object (new_of w.memory x) (inv_of w.memory y) ≡ option_or o (value_after object (new_of w.memory x) (inv_of w.memory y))
      value_same x y linked None is = refl
      value_same x y linked (Some v) is = let a = inv.2.values.after x y v linked is in rw (a.new_of_x, a.inv_of_y) (ap Some (sym a.value))

      by_stage : (mine : Name) (stage : Stage) → w.call p ≡ Some (record { mine = mine; stage = stage })
          → option_map (λ v. held l text (memory_with w.memory (place_of w.n p mine stage) v) (place_of w.n p mine stage)) (proposal_of object stage w.memory)
          ≡ proposal_told (kind_of stage) (option_and_then call_of_name (proposed_at stage))
          (held l text (memory_with w.memory (place_of w.n p mine stage) (content_after object mine stage (w.memory (place_of w.n p mine stage)) w.memory)) (place_of w.n p mine stage))
      by_stage mine (DecideAfter c c_seq prefer) is = rw (name_eq_same c) refl
      by_stage mine (DecideNew c c_seq d) is =
          let stands = inv.2.stands p (record { mine = mine; stage = DecideNew c c_seq d }) is in
          ap (λ x. Some (held l text (memory_with w.memory (NewOf d) (Settled x)) (NewOf d))) (value_same c d stands.1 (new_of w.memory d) refl)
      by_stage mine stage is = refl

-- The cells of a world stay in a step of a process.

module _ {S I R : Type 0} where
  -- each cell of an arena is the anchor or one that a process has made, and each that a process has made is there
  abbrev pub AreNoOthers : Arena S I R → Type 0
  AreNoOthers a = (i : ℕ) → IsSome (cell_of a i)
      → (i ≡ 0) ⊎ ((p : ℕ) × (nth : ℕ) × (p < processes_of a) × (nth < made_of a p) × (i ≡ index_of (processes_of a) p nth))

  abbrev pub AreThere : Arena S I R → Type 0
  AreThere a = (p nth : ℕ) → p < processes_of a → IsSome (cell_of a (index_of (processes_of a) p nth)) ↔ (nth < made_of a p)

  -- where each process has made as many cells of both, a cell of one is there in the other
  pub there_still : (a b : Arena S I R) → processes_of a ≡ processes_of b → ((p : ℕ) → p < processes_of a → made_of a p ≡ made_of b p)
      → IsSome (cell_of b 0) → AreNoOthers a → AreThere b → (i : ℕ) → IsSome (cell_of a i) → IsSome (cell_of b i)
  there_still a b same made anchor others cells i there = elim (others i there) [
    | inl first ↦ subst (λ k. IsSome (cell_of b k)) (sym first) anchor
    | inr its ↦
        let p = its.0 in
        subst (λ k. IsSome (cell_of b k)) (sym (its.4 ∙ ap (λ k. index_of k p its.1) same))
        ((cells p its.1 (subst (λ k. p < k) same its.2)).1 (subst (λ k. its.1 < k) (made p its.2) its.3))
  ]

-- Events that are passed one by one.

pub take_first : {A : Type 0} (k : ℕ) (x : A) (xs : List A) → 0 < k → take k (x ∷ xs) ≡ x ∷ take (k - 1) xs
take_first k x xs some = let more : k ≡ suc (k - 1) = omega arith in ap (λ n. take n (x ∷ xs)) more

pub drop_first : {A : Type 0} (k : ℕ) (x : A) (xs : List A) → 0 < k → drop k (x ∷ xs) ≡ drop (k - 1) xs
drop_first k x xs some = let more : k ≡ suc (k - 1) = omega arith in ap (λ n. drop n (x ∷ xs)) more

-- one event fewer is left, and one more was passed
pub passed_more : {A : Type 0} (count left all : ℕ) (x : A) (xs : List A) → 0 < left → left ≤ count → (count - left) + length (take left (x ∷ xs)) ≡ all → (count - (left - 1)) + length (take (left - 1) xs) ≡ all
passed_more count left all x xs some fewer is =
    let one : length (take left (x ∷ xs)) ≡ suc (length (take (left - 1) xs)) = ap length (take_first left x xs some) in omega (arith, is)

module _ {S I R : Type 0} (object : Sequential S I R) where
  -- the event is taken
  pub world_more : (left : ℕ) (w v end : WorldOf S I R) (e : Event I) (es : List (Event I)) → 0 < left → v ≡ world_after object w e
      → world_after_all object w (take left (e ∷ es)) ≡ end → world_after_all object v (take (left - 1) es) ≡ end
  world_more left w v end e es some world is = rw world (sym (ap (world_after_all object w) (take_first left e es some)) ∙ is)

  -- an excerpt, by where it begins and by its scenes
  pub excerpt_is : (l : Language I R) (text : S → List ℕ) (is_whole : Bool) (from most passed : ℕ) (w v : WorldOf S I R) (events later : List (Event I)) (start : Option Start) (scenes : List (Option Scene))
      → v ≡ world_after_all object w (take from events) → passed ≡ length (take from events) → later ≡ drop from events
      → start ≡ start_of l text passed v → scenes ≡ scenes_from object l text is_whole v (take most later)
      → (let part : Excerpt = record { start = start; scenes = scenes } in part) ≡ excerpt_of object l text is_whole from most w events
  excerpt_is l text is_whole from most passed w v events later start scenes world count rest is_start is_scenes =
      rw (is_start, is_scenes, count, rest) (ap (λ (u : WorldOf S I R). let part : Excerpt = record { start = start_of l text (length (take from events)) u; scenes = scenes_from object l text is_whole u (take most (drop from events)) } in part) world)

-- Places and what they hold, one more at a time.

module _ {P H : Type 0} (h : P → H) (old : List H) where
  -- what one more of the places holds that numbers name
  pub place_more : (f : ℕ → P) (n : ℕ) → (old ++ map h (map f (range_with_len 0 n))) ++ h (f n) ∷ [] ≡ old ++ map h (map f (range_with_len 0 (n + 1)))
  place_more f n =
      rw (map-range_with_len_more f 0 n n (omega arith), map-append h (map f (range_with_len 0 n)) (f n ∷ [])) (append_assoc old (map h (map f (range_with_len 0 n))) (h (f n) ∷ []))

  module _ {N : Type 0} (fields : N → List P) where
    -- what the fields of one more cell hold that numbers name, and those of one more row of cells
    pub cell_more : (f : ℕ → N) (a n j : ℕ) → a + n ≡ j
        → (old ++ map h (flat_map fields (map f (range_with_len a n)))) ++ map h (fields (f j)) ≡ old ++ map h (flat_map fields (map f (range_with_len a (n + 1))))
    cell_more f a n j e =
        let cells = map f (range_with_len a n) in
        rw (map-range_with_len_more f a n j e, flat_map-append fields cells (f j ∷ []), append-nil (fields (f j)), map-append h (flat_map fields cells) (fields (f j)))
        (append_assoc old (map h (flat_map fields cells)) (map h (fields (f j))))

    pub row_more : (rows : ℕ → List N) (n : ℕ)
        → (old ++ map h (flat_map fields (flat_map rows (range_with_len 0 n)))) ++ map h (flat_map fields (rows n)) ≡ old ++ map h (flat_map fields (flat_map rows (range_with_len 0 (n + 1))))
    row_more rows n =
        let cells = flat_map rows (range_with_len 0 n) in
        let more : range_with_len 0 (n + 1) ≡ range_with_len 0 n ++ n ∷ [] = simp map-id at (map-range_with_len_more (λ (k : ℕ). k) 0 n n (omega arith)) in
        rw (more, flat_map-append rows (range_with_len 0 n) (n ∷ []), append-nil (rows n), flat_map-append fields cells (rows n), map-append h (flat_map fields cells) (flat_map fields (rows n)))
        (append_assoc old (map h (flat_map fields cells)) (map h (flat_map fields (rows n))))

-- all of them, kind by kind
pub whole_is : {P H : Type 0} (h : P → H) (entries heads anchor cells : List P)
    → ((map h entries ++ map h heads) ++ map h anchor) ++ map h cells ≡ map h (entries ++ heads ++ (anchor ++ cells))
whole_is h entries heads anchor cells = simp (map-append, append_assoc)

-- The frame of an event, put together from what was read.

-- the step that comes next, by what was read of it
pub coming_is : {S I R : Type 0} (w : WorldOf S I R) (p : ℕ) (coming : Coming) → p < w.n → Some coming.call ≡ current_of w p
    → Some coming.kind ≡ option_map (λ (c : Pending). kind_of c.stage) (w.call p)
    → Some (place_named (name_in w) coming.place) ≡ option_map (λ (c : Pending). place_of w.n p c.mine c.stage) (w.call p)
    → coming.proposed ≡ option_and_then call_of_name (option_and_then (λ (c : Pending). proposed_at c.stage) (w.call p)) → IsComing w p coming
coming_is w p coming within current kind place proposed = by_call (w.call p) refl current kind place proposed
  where
    by_call : (o : Option Pending) → w.call p ≡ o → Some coming.call ≡ option_map (λ (c : Pending). let named : CallId = record { process = p; nth = w.begun p - 1 } in named) o
        → Some coming.kind ≡ option_map (λ (c : Pending). kind_of c.stage) o
        → Some (place_named (name_in w) coming.place) ≡ option_map (λ (c : Pending). place_of w.n p c.mine c.stage) o
        → coming.proposed ≡ option_and_then call_of_name (option_and_then (λ (c : Pending). proposed_at c.stage) o) → IsComing w p coming
    by_call None is e f g h = absurd (cc)
    by_call (Some c) is e f g h = record { within = within; pending = c; is = is; call = cc; kind = cc; place = cc; proposed = h }

module _ {S I R : Type 0} where
  module _ (object : Sequential S I R) (l : Language I R) (text : S → List ℕ) where
    -- a step
    pub stepped_is : (w v : WorldOf S I R) → Invariant object w → (p : ℕ) (coming : Coming) (is : IsComing w p coming) (s : Stepped)
        → v ≡ world_after object w (Step p)
        → s.call ≡ coming.call → s.kind ≡ coming.kind
        → s.before ≡ held l text w.memory (place_named (name_in w) coming.place)
        → s.after ≡ held l text v.memory (place_named (name_in v) coming.place)
        → s.proposed ≡ proposal_told coming.kind coming.proposed (held l text v.memory (place_named (name_in v) coming.place))
        → s.next ≡ option_map (λ (c : Pending). kind_of c.stage) (v.call p) → s.steps ≡ v.steps p → s.turns ≡ v.turns p
        → s.reply ≡ option_map l.resp_text (response_of_step w p)
        → Some s ≡ option_map (stepped object l text w p) (w.call p)
    stepped_is w v inv p coming is s world call kind before after proposed next steps turns reply =
        let c = is.pending in
        let now = held l text v.memory (place_named (name_in v) coming.place) in
        let later = ap (λ name. held l text v.memory (place_named name coming.place)) (kept_by_step object w v p world).2
        ∙ ap (λ (u : WorldOf S I R). held l text u.memory (place_named (name_in w) coming.place)) world
        ∙ ap (held l text (world_after object w (Step p)).memory) is.place in
        let offered = proposed ∙ ap (λ k. proposal_told k coming.proposed now) is.kind ∙ ap (λ o. proposal_told (kind_of c.stage) o now) is.proposed
        ∙ ap (proposal_told (kind_of c.stage) (option_and_then call_of_name (proposed_at c.stage))) later ∙ sym (proposal_is object w l text inv p c is.is) in
        let same : s ≡ stepped object l text w p c = λ i. record {
          call = (call ∙ is.call) i;
          kind = (kind ∙ is.kind) i;
          before = (before ∙ ap (held l text w.memory) is.place) i;
          after = (after ∙ later) i;
          proposed = offered i;
          next = (next ∙ ap (λ (u : WorldOf S I R). option_map (λ (d : Pending). kind_of d.stage) (u.call p)) world) i;
          steps = (steps ∙ ap (λ (u : WorldOf S I R). u.steps p) world) i;
          turns = (turns ∙ ap (λ (u : WorldOf S I R). u.turns p) world) i;
          reply = reply i;
        } in
        ap Some same ∙ sym (ap (option_map (stepped object l text w p)) is.is)

    -- and its frame
    pub steps_told : (s : Stepped) (step : Pending → Stepped) (o : Option Pending) → Some s ≡ option_map step o → Some (Steps s) ≡ option_map (λ call. Steps (step call)) o
    steps_told s step None is = absurd (cc)
    steps_told s step (Some call) is = ap (option_map Steps) is

    -- a call
    pub begun_is : (w : WorldOf S I R) → Invariant object w → (p : ℕ) (i : I) (b : Begun)
        → b.call ≡ record { process = p; nth = w.begun p } → b.words ≡ text_of_words (l.inv_words i)
        → b.before ≡ alone (field_name (Some b.call) (codes "inv")) (codes "?")
        → b.after ≡ alone (field_name (Some b.call) (codes "inv")) (text_of_words (l.inv_words i))
        → b ≡ begun object l text w p i
    begun_is w inv p i b call words before after =
        let named = λ (text : List ℕ). ap (λ c. alone (field_name (Some c) (codes "inv")) text) call in
        let first : b.before ≡ (begun object l text w p i).before = rw (unmade object w inv p) (before ∙ named (codes "?")) in
        let last : b.after ≡ (begun object l text w p i).after = rw (asked w.memory (Of p (w.begun p)) i) (after ∙ named (text_of_words (l.inv_words i))) in
        λ j. record { call = call j; words = words j; before = first j; after = last j }

    -- the next of the events is taken
    pub scene_taken : (is_whole : Bool) (w v : WorldOf S I R) (e : Event I) (rest : List (Event I)) (frame : Frame) (memory : Option (List Held))
        → Some frame ≡ frame_of object l text w e → v ≡ world_after object w e → memory ≡ memory_asked l text is_whole v
        → scenes_from object l text is_whole w (e ∷ rest) ≡ Some (record { frame = frame; memory = memory }) ∷ scenes_from object l text is_whole v rest
    scene_taken is_whole w v e rest frame memory framed world is_asked =
        rw (is_asked, ← framed) (ap (λ (u : WorldOf S I R). Some (let scene : Scene = record { frame = frame; memory = memory_asked l text is_whole u } in scene) ∷ scenes_from object l text is_whole u rest) (sym world))
