-- When two worlds are the same.
use Rattle.uni_core.proofs.Vocabulary.{AfterOf, Anchor, Announced, BeforeOf, Bool, CellRecord, Content, HeadOf, InvOf, Invariant, Invocation, IsAfter, Link, List, Local, Name, NewOf, None, Number, Of, Option, Outline, Place, SeqOf, Sequential, Settled, Some, Standing, WorldParts, WorldOf, after_of, ap, arith, call_at, cases_lt, cell_named, cell_of, false, first_of, get_or, if◌then◌else◌, index_of, inl, inr, inv_of, invocation_in, is_some, length, link_in, memory_at, memory_of, name_from, nat_lt, new_of, option_map, option_map_or, outline, pending_of, processes_of, refl, settled_in, slice_get, slice_get_past, slice_get_read, standing_of, subst, suc, sym, true, without_counts, world_of, zero, ℕ, ◌&&◌, ◌+◌, ◌-◌, ◌<◌, ◌∙◌, ◌≡◌, ◌≤◌, ◌⊎◌}
use Rattle.std.specs.Prelude.{option_and_then, slice_index_or}

none_both : {A : Type 0} (o o' : Option A) → o ≡ None → is_some o ≡ is_some o' → o ≡ o'
none_both None None e f = refl
none_both None (Some x) e f = cc
none_both (Some x) o' e f = cc

-- what is settled in the cells follows from what is settled in the anchor
module _ {S I R : Type 0} (object : Sequential S I R) (w w' : WorldOf S I R) (is : Invariant object w) (is' : Invariant object w')
    (invs : (x : Name) → inv_of w.memory x ≡ inv_of w'.memory x) (afters : (x : Name) → after_of w.memory x ≡ after_of w'.memory x)
    (some : (x : Name) → is_some (new_of w.memory x) ≡ is_some (new_of w'.memory x)) (anchor : new_of w.memory Anchor ≡ new_of w'.memory Anchor) where
  abbrev num : Name → ℕ
  num = is.0

  abbrev last : ℕ
  last = is.1

  -- two values after one value and one call are one
  abbrev value_of : S × Option R → I → S × Option R
  value_of b i = (object.next b.0 i, Some (object.answer b.0 i))

  joined : (v v' b b' : S × Option R) (i i' : I) → v ≡ value_of b i → v' ≡ value_of b' i' → Some b ≡ Some b' → Some i ≡ Some i' → v ≡ v'
  joined v v' b b' i i' e e' f g =
      let eb : b ≡ b' = cc in
      let ei : i ≡ i' = cc in
      e ∙ ap (λ (z : S × Option R). value_of z i) eb ∙ ap (value_of b') ei ∙ sym e'

  one_after : (x y : Name) (v v' : S × Option R) → new_of w.memory x ≡ new_of w'.memory x → IsAfter object w.memory x y v → IsAfter object w'.memory x y v' → v ≡ v'
  one_after x y v v' same a a' =
      joined v v' a.before a'.before a.inv a'.inv a.value a'.value (sym a.new_of_x ∙ same ∙ a'.new_of_x) (sym a.inv_of_y ∙ invs y ∙ a'.inv_of_y)

  -- the value of the next cell
  next_value : (x y : Name) → after_of w.memory x ≡ Some y → new_of w.memory x ≡ new_of w'.memory x → (o o' : Option (S × Option R)) → new_of w.memory y ≡ o → new_of w'.memory y ≡ o'
      → is_some o ≡ is_some o' → o ≡ o'
  next_value x y link same None None e e' f = refl
  next_value x y link same None (Some v) e e' f = cc
  next_value x y link same (Some v) None e e' f = cc
  next_value x y link same (Some v) (Some v') e e' f =
      ap Some (one_after x y v v' same (is.2.values.after x y v link e) (is'.2.values.after x y v' (sym (afters x) ∙ link) e'))

  -- the cell at each place of the chain
  reach : (k : ℕ) → num Anchor + k ≤ last → (x : Name) × (num x ≡ num Anchor + k) × (new_of w.memory x ≡ new_of w'.memory x)
  reach zero within = (Anchor, omega arith, anchor)
  reach (suc k) within =
      let here = reach k (omega arith) in
      let at : num here.0 ≡ num Anchor + k = here.1 in
      let first : 1 ≤ num Anchor = is.2.numbered.first in
      let next = is.2.numbered.goes_on here.0 (omega arith) (omega arith) in
      let number : num next.0 ≡ num here.0 + 1 = (is.2.numbered.link here.0 next.0 next.1).1 in
      (next.0, omega arith, next_value here.0 next.0 next.1 here.2 _ _ refl refl (some next.0))

  pub new_of-same : (x : Name) → new_of w.memory x ≡ new_of w'.memory x
  new_of-same x = by_number (num x) refl where
    by_number : (k : ℕ) → num x ≡ k → new_of w.memory x ≡ new_of w'.memory x
    by_number zero e = none_both _ _ (is.2.values.none x e) (some x)
    by_number (suc k) e =
        let least : num Anchor ≤ num x = is.2.numbered.least x (omega arith) in
        let most : num x ≤ last = is.2.numbered.greatest x in
        let here = reach (num x - num Anchor) (omega arith) in
        let at : num here.0 ≡ num Anchor + (num x - num Anchor) = here.1 in
        let name : here.0 ≡ x = is.2.numbered.one_each here.0 x (omega arith) (omega arith) in
        subst (λ y. new_of w.memory y ≡ new_of w'.memory y) name here.2

-- the fields of a cell, of its outline
module _ {S I R : Type 0} where
  inv_from : (o : Option (CellRecord S I R)) → option_map_or (λ c. c.inv) o None ≡ option_map_or (λ (c : Outline I). c.inv) (option_map outline o) None
  inv_from None = refl
  inv_from (Some c) = refl

  seq_from : (o : Option (CellRecord S I R)) → option_map_or (λ c. c.seq) o 0 ≡ option_map_or (λ (c : Outline I). c.seq) (option_map outline o) 0
  seq_from None = refl
  seq_from (Some c) = refl

  after_from : (name : ℕ → Name) (o : Option (CellRecord S I R)) → option_map_or (λ c. option_map name c.after) o None ≡ option_map_or (λ (c : Outline I). option_map name c.after) (option_map outline o) None
  after_from name None = refl
  after_from name (Some c) = refl

  before_from : (name : ℕ → Name) (o : Option (CellRecord S I R)) → option_map_or (λ c. option_map name c.before) o None ≡ option_map_or (λ (c : Outline I). option_map name c.before) (option_map outline o) None
  before_from name None = refl
  before_from name (Some c) = refl

  settled_from : (o : Option (CellRecord S I R)) → is_some (option_map_or (λ c. c.new) o None) ≡ option_map_or (λ (c : Outline I). c.is_settled) (option_map outline o) false
  settled_from None = refl
  settled_from (Some c) = refl

  one_of_two : (b : Bool) (x y : Option (CellRecord S I R)) → option_map outline x ≡ option_map outline y
      → option_map outline (if b then x else None) ≡ option_map outline (if b then y else None)
  one_of_two true x y e = e
  one_of_two false x y e = refl

call_from : (name : ℕ → Name) (o : Option Local) → call_at name o ≡ option_and_then (λ (s : Standing). option_map (pending_of name) s.call) (option_map standing_of o)
call_from name None = refl
call_from name (Some l) = refl

begun_from : (o : Option Local) → option_map_or (λ l. l.begun) o 0 ≡ option_map_or (λ (s : Standing). s.begun) (option_map standing_of o) 0
begun_from None = refl
begun_from (Some l) = refl

module _ {O S I R : Type 0} (object : Sequential S I R) (v u : WorldParts O S I R) (is : Invariant object (world_of v)) (is' : Invariant object (world_of u))
    (processes : processes_of v.shared.cells ≡ processes_of u.shared.cells) (announce : v.shared.announce ≡ u.shared.announce)
    (heads : v.shared.heads ≡ u.shared.heads) (first : v.shared.first ≡ u.shared.first)
    (locals : (p : ℕ) → option_map standing_of (slice_get v.locals p) ≡ option_map standing_of (slice_get u.locals p))
    (cells : (i : ℕ) → option_map outline (cell_of v.shared.cells i) ≡ option_map outline (cell_of u.shared.cells i))
    (anchor : new_of (world_of v).memory Anchor ≡ new_of (world_of u).memory Anchor) where
  abbrev n : ℕ
  n = processes_of u.shared.cells

  -- the places of the one, with the entries of the other
  entries : (x : Place) → memory_of v.shared x ≡ memory_at n (first_of u.shared) (cell_of v.shared.cells) u.shared.announce u.shared.heads x
  entries x =
      ap (λ m. memory_at m (first_of v.shared) (cell_of v.shared.cells) v.shared.announce v.shared.heads x) processes
      ∙ ap (λ (l : List ℕ). memory_at (processes_of u.shared.cells) (λ p. slice_index_or l p 0) (cell_of v.shared.cells) v.shared.announce v.shared.heads x) first
      ∙ ap (λ l. memory_at (processes_of u.shared.cells) (first_of u.shared) (cell_of v.shared.cells) l v.shared.heads x) announce
      ∙ ap (λ l. memory_at (processes_of u.shared.cells) (first_of u.shared) (cell_of v.shared.cells) u.shared.announce l x) heads

  abbrev cell_v : Name → Option (CellRecord S I R)
  cell_v = cell_named n (first_of u.shared) (cell_of v.shared.cells)

  abbrev cell_u : Name → Option (CellRecord S I R)
  cell_u = cell_named n (first_of u.shared) (cell_of u.shared.cells)

  outlined : (x : Name) → option_map outline (cell_named n (first_of u.shared) (cell_of v.shared.cells) x) ≡ option_map outline (cell_named n (first_of u.shared) (cell_of u.shared.cells) x)
  outlined Anchor = cells 0
  outlined (Of p k) = one_of_two (nat_lt p n && nat_lt (first_of u.shared p) (k + 1)) _ _ (cells (index_of n p (k - first_of u.shared p)))

  inv_same : (x : Name) → memory_of v.shared (InvOf x) ≡ memory_of u.shared (InvOf x)
  inv_same x = entries (InvOf x) ∙ ap Invocation (inv_from (cell_v x) ∙ ap (λ o. option_map_or (λ (c : Outline I). c.inv) o None) (outlined x) ∙ sym (inv_from (cell_u x)))

  seq_same : (x : Name) → memory_of v.shared (SeqOf x) ≡ memory_of u.shared (SeqOf x)
  seq_same x = entries (SeqOf x) ∙ ap Number (seq_from (cell_v x) ∙ ap (λ o. option_map_or (λ (c : Outline I). c.seq) o 0) (outlined x) ∙ sym (seq_from (cell_u x)))

  after_same : (x : Name) → memory_of v.shared (AfterOf x) ≡ memory_of u.shared (AfterOf x)
  after_same x =
      entries (AfterOf x) ∙ ap Link (after_from (name_from n (first_of u.shared)) (cell_v x)
      ∙ ap (λ o. option_map_or (λ (c : Outline I). option_map (name_from n (first_of u.shared)) c.after) o None) (outlined x) ∙ sym (after_from (name_from n (first_of u.shared)) (cell_u x)))

  before_same : (x : Name) → memory_of v.shared (BeforeOf x) ≡ memory_of u.shared (BeforeOf x)
  before_same x =
      entries (BeforeOf x) ∙ ap Link (before_from (name_from n (first_of u.shared)) (cell_v x)
      ∙ ap (λ o. option_map_or (λ (c : Outline I). option_map (name_from n (first_of u.shared)) c.before) o None) (outlined x) ∙ sym (before_from (name_from n (first_of u.shared)) (cell_u x)))

  settled_same : (x : Name) → is_some (new_of (memory_of v.shared) x) ≡ is_some (new_of (memory_of u.shared) x)
  settled_same x =
      ap (λ (c : Content S I R). is_some (settled_in c)) (entries (NewOf x))
      ∙ settled_from (cell_v x) ∙ ap (λ o. option_map_or (λ (c : Outline I). c.is_settled) o false) (outlined x) ∙ sym (settled_from (cell_u x))

  new_same : (x : Name) → new_of (memory_of v.shared) x ≡ new_of (memory_of u.shared) x
  new_same = new_of-same object (world_of v) (world_of u) is is' (λ x. ap invocation_in (inv_same x)) (λ x. ap link_in (after_same x)) settled_same anchor

  memory_same : (x : Place) → memory_of v.shared x ≡ memory_of u.shared x
  memory_same (Announced p) = entries (Announced p)
  memory_same (HeadOf p) = entries (HeadOf p)
  memory_same (InvOf x) = inv_same x
  memory_same (SeqOf x) = seq_same x
  memory_same (AfterOf x) = after_same x
  memory_same (NewOf x) = ap Settled (new_same x)
  memory_same (BeforeOf x) = before_same x

  call_same : (p : ℕ) → (world_of v).call p ≡ (world_of u).call p
  call_same p =
      ap (λ m. call_at (name_from m (first_of v.shared)) (slice_get v.locals p)) processes
      ∙ ap (λ (l : List ℕ). call_at (name_from (processes_of u.shared.cells) (λ q. slice_index_or l q 0)) (slice_get v.locals p)) first
      ∙ call_from (name_from (processes_of u.shared.cells) (first_of u.shared)) (slice_get v.locals p)
      ∙ ap (option_and_then (λ (s : Standing). option_map (pending_of (name_from (processes_of u.shared.cells) (first_of u.shared))) s.call)) (locals p)
      ∙ sym (call_from (name_from (processes_of u.shared.cells) (first_of u.shared)) (slice_get u.locals p))

  begun_same : (p : ℕ) → (world_of v).begun p ≡ (world_of u).begun p
  begun_same p = begun_from (slice_get v.locals p) ∙ ap (λ o. option_map_or (λ (s : Standing). s.begun) o 0) (locals p) ∙ sym (begun_from (slice_get u.locals p))

  pub same_worlds : without_counts (world_of v) ≡ without_counts (world_of u)
  same_worlds = λ i. record {
    n = processes i;
    memory = λ x. memory_same x i;
    call = λ p. call_same p i;
    begun = λ p. begun_same p i;
    first = λ p. slice_index_or (first i) p 0;
    among = λ p. 0;
    steps = λ p. 0;
    turns = λ p. 0;
  }

-- two processes that keep the same for themselves
pub stand_same : {O S I R : Type 0} (v now u now' : WorldParts O S I R) → v ≡ now → u ≡ now' → (p : ℕ) (l k : Local) → p < length v.locals → p < length u.locals
    → l ≡ get_or v.locals p l → k ≡ get_or u.locals p k → l.begun ≡ k.begun → l.call ≡ k.call
    → option_map standing_of (slice_get now.locals p) ≡ option_map standing_of (slice_get now'.locals p)
stand_same {O} {S} {I} {R} v now u now' view view' p l k inside inside' read read' begun call =
    ap (λ (x : WorldParts O S I R). option_map standing_of (slice_get x.locals p)) (sym view)
    ∙ ap (option_map standing_of) (slice_get_read v.locals (length v.locals) p l refl inside read)
    ∙ (λ i. Some (record { call = call i; begun = begun i }))
    ∙ sym (ap (option_map standing_of) (slice_get_read u.locals (length u.locals) p k refl inside' read'))
    ∙ ap (λ (x : WorldParts O S I R). option_map standing_of (slice_get x.locals p)) view'

-- all of them
pub stand_all : (xs ys : List Local) (j : ℕ) → length xs ≡ length ys → length xs ≤ j
    → ((k : ℕ) → k < j → option_map standing_of (slice_get xs k) ≡ option_map standing_of (slice_get ys k))
    → (p : ℕ) → option_map standing_of (slice_get xs p) ≡ option_map standing_of (slice_get ys p)
stand_all xs ys j long all below p = at (cases_lt p j) where
  at : (p < j) ⊎ (j ≤ p) → option_map standing_of (slice_get xs p) ≡ option_map standing_of (slice_get ys p)
  at (inl here) = below p here
  at (inr past) = ap (option_map standing_of) (slice_get_past xs p (omega arith) ∙ sym (slice_get_past ys p (omega arith)))

-- the entries of two worlds as a contract has them
pub entries_now : {O S I R : Type 0} (v now u now' : WorldParts O S I R) → v ≡ now → u ≡ now' → (v.shared.announce ≡ u.shared.announce) × (v.shared.heads ≡ u.shared.heads) × (v.shared.first ≡ u.shared.first)
    → (now.shared.announce ≡ now'.shared.announce) × (now.shared.heads ≡ now'.shared.heads) × (now.shared.first ≡ now'.shared.first)
entries_now {O} {S} {I} {R} v now u now' view view' same = (
  ap (λ (x : WorldParts O S I R). x.shared.announce) (sym view) ∙ same.0 ∙ ap (λ (x : WorldParts O S I R). x.shared.announce) view',
  ap (λ (x : WorldParts O S I R). x.shared.heads) (sym view) ∙ same.1 ∙ ap (λ (x : WorldParts O S I R). x.shared.heads) view',
  ap (λ (x : WorldParts O S I R). x.shared.first) (sym view) ∙ same.2 ∙ ap (λ (x : WorldParts O S I R). x.shared.first) view',
)
