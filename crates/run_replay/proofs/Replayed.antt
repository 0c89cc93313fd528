-- What holds of what an option has, and of each element of a list.
use Rattle.run_replay.proofs.Vocabulary.{calls_in_era, subst, Act, Bool, Call, CallId, Called, Coming, Contains, End, Event, IfSome, Invoked, IsComing, Linearize, List, Memory, Name, None, Option, Pending, Progress, Respond, RunMarks, Sequential, Some, SpokenObject, Step, WorldOf, [], acts_of, along, answered, ap, append-nil, append_assoc, arith, at_drop_more, bar_begun, bar_ended, bar_shown, bars_in, calls_of, changes_place, dots_by, drop, drop-set-lt, drop_all, end_in, end_of_step, end_shown, era_of, eras_in, event_shown, events_shown, false, flat_map, from_with, get_or, has_changed, if◌then◌else◌, invoked_at, is_some, kind_of, length, linearized_in, lines_by, map, map-append, map-id, map-map, marks_with, name_in, option_map, option_map_or, option_or, place_named, place_of, progress_of, refl, response_after, response_of_step, responses_of, slice_set, standing_at, steps_by, sym, take, take_all, take_more_set, true, world_after, world_after_step, ℕ, ◌++◌, ◌+◌, ◌-◌, ◌<◌, ◌==◌, ◌∙◌, ◌∷◌, ◌≡◌, ◌≤◌}
use Rattle.std.proofs.lemmas.List.Folds.{flat_map-map}
use Rattle.run_replay.specs.declared.marks.Bar.{Bar}
use Rattle.run_replay.specs.declared.marks.BarEnd.{BarEnd}
use Rattle.run_replay.specs.declared.marks.StepMark.{StepMark}
use Rattle.uni_record.specs.declared.event.Event.{Event as Stored}

pub contains_first : {X : Type 0} (x : X) (xs : List X) → Contains (x ∷ xs) x
contains_first x xs = (0, (let some : 0 < length (x ∷ xs) = omega arith in some), refl)

pub flat-same : {X Y Z : Type 0} (f : Z → List Y) (g : X → Z) (h : X → List Y) → ((x : X) → f (g x) ≡ h x) → (xs : List X) → flat_map f (map g xs) ≡ flat_map h xs
flat-same f g h same xs = flat_map-map f g xs ∙ (λ i. flat_map (λ x. same x i) xs)

pub flat-none : {X Y : Type 0} (xs : List X) → flat_map (λ (x : X). let none : List Y = [] in none) xs ≡ []
flat-none [] = refl
flat-none (x ∷ xs) = flat-none xs

pub IfSome-either : {X : Type 0} (P : X → Type 0) (x y : Option X) → IfSome x P → IfSome y P → IfSome (option_or x y) P
IfSome-either P None y first rest = rest
IfSome-either P (Some x) y first rest = first

-- Lists that a loop goes along: what it has made so far, and what the rest gives.

pub map-kept : {X : Type 0} (f : X → X) → ((x : X) → f x ≡ x) → (xs : List X) → map f xs ≡ xs
map-kept f kept xs = (λ i. map (λ x. kept x i) xs) ∙ map-id xs

-- a list that is changed in place, one element after the other
module _ {X Y : Type 0} (f : X → Y) (g : Y → Y) where
  pub changed-more : (xs : List X) (i : ℕ) (x y : X) (whole : List Y) → i < length xs → f y ≡ g (f (get_or xs i x))
      → map f (take i xs) ++ map g (map f (drop i xs)) ≡ whole
      → map f (take (i + 1) (slice_set xs i y)) ++ map g (map f (drop (i + 1) (slice_set xs i y))) ≡ whole
  changed-more xs i x y whole within changed before =
      rw (take_more_set xs i y within, drop-set-lt (i + 1) xs i y (omega arith), map-append f (take i xs) (y ∷ []), append_assoc (map f (take i xs)) (f y ∷ []), changed)
      (ap (λ l. map f (take i xs) ++ l) (sym (at_drop_more (λ l. map g (map f l)) xs i x within)) ∙ before)

  pub changed-end : (xs : List X) (i : ℕ) (whole : List Y) → length xs ≤ i → map f (take i xs) ++ map g (map f (drop i xs)) ≡ whole → map f xs ≡ whole
  changed-end xs i whole past all = sym (append-nil (map f xs)) ∙ (rw (take_all i xs past, drop_all i xs past) at all)

-- what is written back to a vector, where the loop has kept the length
pub written_back : {X : Type 0} (now before : List X) (len : ℕ) → length now ≡ length before → len ≡ length before → take len (now ++ drop (length now) before) ≡ now
written_back now before len same whole = rw (drop_all (length now) before (omega arith), append-nil now) (take_all len now (omega arith))

-- Bars that end, and those that don't.

pub option_or-none : {A : Type 0} (o : Option A) → option_or o None ≡ o
option_or-none None = refl
option_or-none (Some x) = refl

option_or-assoc : {A : Type 0} (a b c : Option A) → option_or (option_or a b) c ≡ option_or a (option_or b c)
option_or-assoc None b c = refl
option_or-assoc (Some x) b c = refl

pub either_way : {A : Type 0} (t : Bool) (x : A) → x ≡ if t then x else x
either_way true x = refl
either_way false x = refl

abbrev pub with_end : Called → Option End → Called
with_end b o = record b { end = o }

-- a bar that has ended stays
pub bar_ended-ended : (p : ℕ) (end : End) (bar : Bar) → is_some bar.end ≡ true → bar_ended p end (bar_shown bar) ≡ bar_shown bar
bar_ended-ended p end bar some = ap (with_end (bar_shown bar)) (by_end bar.end some (p == bar.call.process))
  where
    by_end : (o : Option BarEnd) → is_some o ≡ true → (t : Bool) → option_or (option_map end_shown o) (if t then Some end else None) ≡ option_map end_shown o
    by_end None e t = absurd (cc)
    by_end (Some x) e t = refl

-- and so does that of another process
pub bar_ended-other : (p : ℕ) (end : End) (b : Called) → (p == b.call.process) ≡ false → bar_ended p end b ≡ b
bar_ended-other p end b other = rw other (ap (with_end b) (option_or-none b.end))

-- bars that end by a step, if any does, and then by later ones, are those that end by the step or later ones
pub ends_later : (p : ℕ) (rest : ℕ → Option End) (end : Option End) (bars : List Called)
    → map (λ b. with_end b (option_or b.end (rest b.call.process))) (option_map_or (λ e. map (bar_ended p e) bars) end bars)
    ≡ map (λ b. with_end b (option_or b.end (option_or (if p == b.call.process then end else None) (rest b.call.process)))) bars
ends_later p rest None bars = λ i. map (λ b. with_end b (option_or b.end (option_or (either_way {A = Option End} (p == b.call.process) None i) (rest b.call.process)))) bars
ends_later p rest (Some e) bars =
    map-map (λ b. with_end b (option_or b.end (rest b.call.process))) (bar_ended p e) bars
    ∙ (λ i. map (λ b. with_end b (option_or-assoc b.end (if p == b.call.process then Some e else None) (rest b.call.process) i)) bars)

-- The marks of an event that is replayed.

pub marks_are : (a b : RunMarks) → a.object ≡ b.object → a.events ≡ b.events → a.steps ≡ b.steps → a.bars ≡ b.bars → a.dots ≡ b.dots → a.lines ≡ b.lines → a.eras ≡ b.eras → a ≡ b
marks_are a b o e s r d l f = λ i. record { object = o i; events = e i; steps = s i; bars = r i; dots = d i; lines = l i; eras = f i }

module _ {S I R : Type 0} where
  -- a step keeps the processes, how many cells each has made, and the names of the cells
  abbrev AreKept : (w v : WorldOf S I R) → Type 0
  AreKept w v = (w.n ≡ v.n) × ((q : ℕ) → calls_in_era w q ≡ calls_in_era v q) × (name_in v ≡ name_in w)

  pub kept_by_step : (object : Sequential S I R) (w v : WorldOf S I R) (p : ℕ) → v ≡ world_after object w (Step p) → AreKept w v
  kept_by_step object w v p world = subst (AreKept w) (sym world) (by_call (w.call p)) where
    by_call : (o : Option Pending) → AreKept w (world_after_step object w p o)
    by_call None = (refl, λ q. refl, refl)
    by_call (Some c) = (refl, λ q. refl, refl)

  -- whether a step that was taken has changed its place, by what stood there before and after it
  pub changes-taken : (object : Sequential S I R) (w v : WorldOf S I R) (p : ℕ) (coming : Coming) (is : IsComing w p coming) (before : ℕ) (changed : Bool)
      → v ≡ world_after object w (Step p)
      → before ≡ standing_at w.memory (place_named (name_in w) coming.place)
      → changed ≡ has_changed coming.kind before (standing_at v.memory (place_named (name_in v) coming.place))
      → changed ≡ changes_place object w p is.pending
  changes-taken object w v p coming is before changed world stood has =
      let now = ap (λ name. standing_at v.memory (place_named name coming.place)) (kept_by_step object w v p world).2
      ∙ ap (λ (u : WorldOf S I R). standing_at u.memory (place_named (name_in w) coming.place)) world
      ∙ ap (standing_at (world_after object w (Step p)).memory) is.place in
      has ∙ ap (λ k. has_changed k before (standing_at v.memory (place_named (name_in v) coming.place))) is.kind
      ∙ ap (λ n. has_changed (kind_of is.pending.stage) n (standing_at v.memory (place_named (name_in v) coming.place))) (stood ∙ ap (standing_at w.memory) is.place)
      ∙ ap (has_changed (kind_of is.pending.stage) (standing_at w.memory (place_of w.n p is.pending.mine is.pending.stage))) now

  -- a step of a call that is pending, with its kind, and whether it has changed its place
  pub steps_by-taken : (object : Sequential S I R) (w v : WorldOf S I R) (place p number : ℕ) (coming : Coming) (is : IsComing w p coming) (changed : Bool)
      → v ≡ world_after object w (Step p) → number ≡ v.steps p → changed ≡ changes_place object w p is.pending
      → steps_by object w place (Step p) ≡ record { event = place; process = p; nth = coming.call.nth; number = number; kind = coming.kind; changed = changed } ∷ []
  steps_by-taken object w v place p number coming is changed world count has =
      let nth = ap (λ o. (world_after_step object w p o).begun p - 1) is.is ∙ sym (ap (λ (id : CallId). id.nth) is.call) in
      let steps = sym (count ∙ ap (λ (u : WorldOf S I R). u.steps p) world) in
      ap by_call is.is ∙ (λ i. record { event = place; process = p; nth = nth i; number = steps i; kind = (sym is.kind) i; changed = (sym has) i } ∷ [])
    where
      by_call : Option Pending → List StepMark
      by_call o =
          let u = world_after object w (Step p) in
          option_map_or (λ (c : Pending). let m : StepMark = record { event = place; process = p; nth = u.begun p - 1; number = u.steps p; kind = kind_of c.stage; changed = changes_place object w p c } in m ∷ []) o []

-- the response that a step answers is that of the step
pub answered-progress : {R : Type 0} (o : Option R) (progress : Progress R) → progress ≡ progress_of o → answered progress ≡ o
answered-progress o progress is = ap answered is ∙ by_response o where
  by_response : {R : Type 0} (p : Option R) → answered (progress_of p) ≡ p
  by_response None = refl
  by_response (Some r) = refl

linearized_in-append : {I R : Type 0} (xs : List (Invoked I)) (acts : List (Act I R)) → linearized_in (map Linearize xs ++ acts) ≡ xs ++ linearized_in acts
linearized_in-append [] acts = refl
linearized_in-append (x ∷ xs) acts = ap (λ l. x ∷ l) (linearized_in-append xs acts)

-- a response is no link
none_linearized : {S I R : Type 0} (m : Memory S I R) (p : ℕ) (mine : Name) (r : Option R) → linearized_in (responses_of m p mine r) ≡ []
none_linearized m p mine None = refl
none_linearized {S} {I} {R} m p mine (Some r) = by_invoked (invoked_at m mine)
  where
    by_invoked : (o : Option (Invoked I)) → linearized_in {I = I} {R = R} (option_map_or (λ (c : Invoked I). Respond p c.nth r ∷ []) o []) ≡ []
    by_invoked None = refl
    by_invoked (Some c) = refl

module _ {S I R : Type 0} where
  -- the calls that take effect by a step are those that the list has more after it
  pub linearized_by_step : (object : Sequential S I R) (w : WorldOf S I R) (p : ℕ)
      → linearized_in (acts_of object w (Step p)) ≡ drop (length (calls_of w)) (calls_of (world_after object w (Step p)))
  linearized_by_step object w p =
      linearized_in-append (drop (length (calls_of w)) (calls_of (world_after object w (Step p)))) _
      ∙ ap (λ l. drop (length (calls_of w)) (calls_of (world_after object w (Step p))) ++ l) (by_call (w.call p))
      ∙ append-nil (drop (length (calls_of w)) (calls_of (world_after object w (Step p))))
    where
      by_call : (o : Option Pending) → linearized_in {I = I} {R = R} (option_map_or (λ (call : Pending). responses_of w.memory p call.mine (response_after call.mine call.stage w.memory)) o []) ≡ []
      by_call None = refl
      by_call (Some call) = none_linearized w.memory p call.mine (response_after call.mine call.stage w.memory)

  module _ (o : SpokenObject S I R) (w : WorldOf S I R) (place p : ℕ) where
    pub end_of_step-none : response_of_step w p ≡ None → end_of_step o w place p ≡ None
    end_of_step-none none = rw none refl

    pub end_of_step-taken : (v : WorldOf S I R) (progress : Progress R) → v ≡ world_after o.object w (Step p) → progress ≡ progress_of (response_of_step w p)
        → option_map (λ r. record { event = place; reply = o.language.resp_text r; steps = v.steps p; turns = v.turns p }) (answered progress) ≡ end_of_step o w place p
    end_of_step-taken v progress world is =
        ap (option_map (ended v)) (answered-progress (response_of_step w p) progress is) ∙ ap (λ u. option_map (ended u) (response_of_step w p)) world
      where
        ended : WorldOf S I R → R → End
        ended u r = record { event = place; reply = o.language.resp_text r; steps = u.steps p; turns = u.turns p }

-- The marks so far, with those of the events that are left.

module _ {S I R : Type 0} (o : SpokenObject S I R) where
  -- a bar, in a run that goes on so: a call that hasn't ended ends there
  abbrev pub bar_later : WorldOf S I R → (place : ℕ) → List (Event I) → Called → Called
  bar_later w place es b = with_end b (option_or b.end (end_in o b.call.process w place es))

-- on an object with its words and the text of each of its states
module _ {S I R : Type 0} (o : SpokenObject S I R) (text : S → List ℕ) where
  -- the marks so far, and those of a run that goes on so
  abbrev pub marks_then : RunMarks → WorldOf S I R → (from place : ℕ) → List (Event I) → RunMarks
  marks_then m w from place es =
      record {
        object = m.object;
        events = m.events;
        steps = m.steps ++ along o.object (steps_by o.object) w place es;
        bars = map (bar_later o w place es) m.bars ++ bars_in o w place es;
        dots = m.dots ++ along o.object (dots_by o.object) w place es;
        lines = m.lines ++ along o.object lines_by w place es;
        eras = m.eras ++ eras_in o text w from place es;
      }

  -- one event is taken
  pub marks_then-event : (m : RunMarks) (w : WorldOf S I R) (from place : ℕ) (e : Event I) (es : List (Event I))
      → marks_then (marks_with o text m w from place e) (world_after o.object w e) (from_with from place e) (place + 1) es ≡ marks_then m w from place (e ∷ es)
  marks_then-event m w from place (Call p i) es =
      let v = world_after o.object w (Call p i) in
      marks_are _ _ refl refl refl
      (ap (λ l. l ++ bars_in o v (place + 1) es) (map-append (bar_later o v (place + 1) es) m.bars (bar_begun o w place p i ∷ []))
      ∙ append_assoc (map (bar_later o v (place + 1) es) m.bars) (bar_later o v (place + 1) es (bar_begun o w place p i) ∷ []) (bars_in o v (place + 1) es))
      refl refl refl
  marks_then-event m w from place (Step p) es =
      let v = world_after o.object w (Step p) in
      marks_are _ _ refl refl
      (append_assoc m.steps (steps_by o.object w place (Step p)) (along o.object (steps_by o.object) v (place + 1) es))
      (ap (λ l. l ++ bars_in o v (place + 1) es) (ends_later p (λ q. end_in o q v (place + 1) es) (end_of_step o w place p) m.bars))
      (append_assoc m.dots (dots_by o.object w place (Step p)) (along o.object (dots_by o.object) v (place + 1) es))
      refl refl
  marks_then-event m w from place e es =
      let v = world_after o.object w e in
      marks_are _ _ refl refl refl refl refl
      (append_assoc m.lines (lines_by w place e) (along o.object lines_by v (place + 1) es))
      (append_assoc m.eras (era_of o text w from (Some place) ∷ []) (eras_in o text v (place + 1) (place + 1) es))

  -- none is left
  pub marks_then-none : (m : RunMarks) (w : WorldOf S I R) (from place : ℕ) → marks_then m w from place [] ≡ record m { eras = m.eras ++ era_of o text w from None ∷ [] }
  marks_then-none m w from place =
      marks_are _ _ refl refl (append-nil m.steps)
      (append-nil (map (bar_later o w place []) m.bars) ∙ map-kept (bar_later o w place []) (λ b. ap (with_end b) (option_or-none b.end)) m.bars)
      (append-nil m.dots) (append-nil m.lines) refl

  -- the next of the stored events is taken
  pub marks_then-taken : (m m' : RunMarks) (w w' : WorldOf S I R) (from from' place : ℕ) (e : Stored I) (rest : List (Stored I))
      → m' ≡ marks_with o text m w from place (event_shown e) → w' ≡ world_after o.object w (event_shown e) → from' ≡ from_with from place (event_shown e)
      → marks_then m' w' from' (place + 1) (events_shown rest) ≡ marks_then m w from place (events_shown (e ∷ rest))
  marks_then-taken m m' w w' from from' place e rest marks world next =
      rw (marks, world, next) (marks_then-event m w from place (event_shown e) (events_shown rest))
