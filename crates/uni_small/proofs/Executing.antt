-- Each step of an execution is one of the table's steps, and so keeps a board whose history is that of the execution.
use Rattle.uni_small.proofs.Vocabulary.{Act, AreWidths, AreWords, Board, IsShown, IsSound, Image, IsSteady, Last, Linearize, List, Local, Me, Meaning, Moves, Option, Reading, Ready, Sequential, Sizes, Some, Stage, State, Tells, View, Writing, [], ap, brought, brought_own, Seen, Idle, Invoke, IsLeft, slice_set, takes_effect_own, buffer_in, calls_seen, current_word, eqb, false, get_elem?, if◌then◌else◌, length, map, nothing, refl, set_at, slice_index, slice_set, some, step, subst, sym, takes_effect, true, version_in, with_local, ℕ, either, ◌*◌, ◌++◌, ◌+◌, ◌<◌, ◌==◌, ◌∙◌, ◌∷◌, ◌≡◌, ◌≤◌, written_to}
use Rattle.uni_small.proofs.Vocabulary.{HasAnnounced, HasAsked, HasBegun, HasBrought, HasChecked, HasCheckedOwn, HasCopied, HasFollowed, HasLoaded, HasLooked, HasReplied, HasStarted, HasStored, HasTurned, HasWritten, arith, buffer_word, begins, ends, number_cases, IsAttemptAt, none, read_image, spell, with_seen, ⊎_elim}
use Rattle.uni_small.proofs.Vocabulary.{Bool, HasConfirmed, HasRecalled, HasRecounted, HasReread, HasRestarted, false, has_begun}
use Rattle.uni_model.proofs.Executions.{kept_along}
use Rattle.uni_small.specs.Execution.{Access, CanTake, Execution, Moment, access_of, acts_at, acts_of, after, after_access, last_moment, all_acts}
use Rattle.uni_small.specs.Execution.Next.{Store, Announce, Follow, Recall, TryDirectly, Start, Copy, Look, Ask, Check, CheckOwn, Confirm, Write, Bring, BringOwn, Turn, Load, Reply}
use Rattle.uni_small.specs.Execution.Next.{Recount, Reread, Restart}
use Rattle.uni_small.proofs.Stores.{announced, stores, writes}
use Rattle.uni_small.proofs.Exchange.{brings_in, brings_in_left}
use Rattle.uni_small.proofs.Reply.{loads, replies}
use Rattle.uni_small.proofs.Rejoining.{recounts, rereads, restarts}
use Rattle.uni_small.proofs.Loads.{begins_own, checks_own, reads, starts, copies, looks, asks, checks, turns, follows_on, recalls_on}
use Rattle.uni_model.proofs.Each.{at_each, each-set_at, each_of, from_each}

-- the buffer that an attempt copies is one of the buffers
abbrev pub IsCopyingOne : Sizes → Stage → Type 0
IsCopyingOne sizes (Reading tries s copy seen) = buffer_in s < 2 * sizes.processes
IsCopyingOne sizes stage = Unit {0}

checked_one : (sizes : Sizes) (b c : _) (tries s : ℕ) (image : Image) (seen : List (Option (List ℕ)))
    → IsCopyingOne sizes (if b then (if c then Last s [] else Writing tries s image seen 0) else Ready (tries + 1))
checked_one sizes true true tries s image seen = tt
checked_one sizes true false tries s image seen = tt
checked_one sizes false c tries s image seen = tt

brought_one : (sizes : Sizes) (l : Local) (tries s new found : ℕ) → IsCopyingOne sizes (brought l tries s new found).stage
brought_one sizes l tries s new found = ⊎_elim
    (λ same. rw same.1 tt)
    (λ other. rw other.1 tt)
    (number_cases found s)

checked_own_one : (sizes : Sizes) (b : _) (s : ℕ) (image : Image) (seen : List (Option (List ℕ)))
    → IsCopyingOne sizes (if b then Writing 0 s image seen 0 else Idle [])
checked_own_one sizes true s image seen = tt
checked_own_one sizes false s image seen = tt

brought_own_one : (sizes : Sizes) (l : Local) (s new : ℕ) (inv : List ℕ) (found : ℕ) → IsCopyingOne sizes (brought_own l s new inv found).stage
brought_own_one sizes l s new inv found = ⊎_elim
    (λ same. rw same.1 tt)
    (λ other. rw other.1 tt)
    (number_cases found s)

restarted_one : (sizes : Sizes) (b : Bool) → IsCopyingOne sizes (if b then Ready 0 else Idle [])
restarted_one sizes true = tt
restarted_one sizes false = tt

either_if : (b : _) (x y : ℕ) → either b x y ≡ if b then x else y
either_if true x y = refl
either_if false x y = refl

module _ {O : Type 0} (meaning : O → Meaning) (o : O) (sizes : Sizes) where
  abbrev object : Sequential (List ℕ) (List ℕ) (List ℕ)
  object = (meaning o).object

  -- the view of the seat of one process
  abbrev view_at : (local : ℕ → Local) → (p : ℕ) → View O
  view_at local p = record { marker = record {}; known = record { sizes = sizes; first = p; count = 1; local = local p; taken = [] }; object = Some o }

  abbrev me_at : (local : ℕ → Local) → (p : ℕ) → Me Seen (View O)
  me_at local p = (view_at local p, [])

  abbrev state_at : Moment → State Seen (View O)
  state_at m = record { words = m.words; homes = []; views = each_of (view_at m.local) sizes.processes }

  -- a moment shows a board with this history
  pub record Holds (m : Moment) (acts : List (Act (List ℕ) (List ℕ))) : Type 0 where
    pub board : Board
    pub words_are : AreWords sizes board m.words
    pub sound : IsSound object sizes board m.local
    pub copying : (p : ℕ) → p < sizes.processes → IsCopyingOne sizes (m.local p).stage
    pub appended : board.acts ≡ acts

  shown : AreWidths (meaning o) sizes → (m : Moment) (acts : List (Act (List ℕ) (List ℕ))) (h : Holds m acts)
      → IsShown sizes meaning o h.board m.local (λ q. q) (state_at m)
  shown widths m acts h = record {
    widths = widths;
    words = h.words_are;
    seats = λ id v e.
        let at = from_each (view_at m.local) sizes.processes id v e in
        subst (λ (u : View O). Tells sizes o m.local (λ q. q) id u) at.1 (record {
          object = λ some. refl;
          processes = λ some. refl;
          each = λ q from below.
              let here : id ≡ q = omega (arith, from, below) in
              (subst (λ k. k < sizes.processes) here at.0, sym here, ap m.local (sym here));
          taken = λ its has. absurd (let x = has.1 in omega arith);
        });
    sound = h.sound;
  }

  -- one step of a process that moves the board
  moved : AreWidths (meaning o) sizes → (m : Moment) (acts : List (Act (List ℕ) (List ℕ))) → Holds m acts → (p : ℕ) → p < sizes.processes
      → (a : Access) (f : ℕ → ℕ) (more : Board → ℕ → List (Act (List ℕ) (List ℕ))) (says : ℕ → Me Seen (View O) → Type 0)
      → Moves meaning o sizes p (me_at m.local p) a.word f more says
      → f (slice_index m.words a.word) ≡ a.becomes (slice_index m.words a.word)
      → ((me' : Me Seen (View O)) → says (slice_index m.words a.word) me'
      → (me' ≡ (with_local (view_at m.local p) (a.leaves (slice_index m.words a.word)), [])) × IsCopyingOne sizes (a.leaves (slice_index m.words a.word)).stage)
      → ((g : Board) → AreWords sizes g m.words → IsSound object sizes g m.local
      → more g (slice_index m.words a.word) ≡ a.acts (slice_index m.words a.word))
      → Holds (after_access object sizes m p a) (acts ++ acts_at object sizes m a)
  moved widths m acts h p inside a f more says moves same left made =
      let found : ℕ = slice_index m.words a.word in
      let l' : Local = a.leaves found in
      let seat : get_elem? (each_of (view_at m.local) sizes.processes) p ≡ some (view_at m.local p) = at_each (view_at m.local) sizes.processes p inside in
      let to = moves (state_at m) h.board m.local (λ q. q) (shown widths m acts h) seat in
      let is = to.1.1 in
      let told = left (to.0, []) to.1.2 in
      let mine : to.0.known.local ≡ l' = ap (λ (x : Me Seen (View O)). x.0.known.local) told.0 in
      record {
        board = to.1.0;
        words_are = subst (λ x. AreWords sizes to.1.0 (slice_set m.words a.word x)) same is.words;
        sound = subst (λ l. IsSound object sizes to.1.0 (set_at m.local p l)) mine is.sound;
        copying = each-set_at (λ q l. IsCopyingOne sizes l.stage) sizes.processes m.local p l' told.1 (λ q within apart. h.copying q within);
        appended = to.1.3 ∙ (λ k. h.appended k ++ made h.board h.words_are h.sound k);
      }

  -- where the exchange finds what the attempt began with, the image of the attempt is that of the board
  taken_as : (m : Moment) (p : ℕ) → p < sizes.processes → (tries s written : ℕ) (image : Image) (seen : List (Option (List ℕ))) → (m.local p).stage ≡ Writing tries s image seen written
      → (g : Board) → AreWords sizes g m.words → IsSound object sizes g m.local
      → takes_effect s seen g (slice_index m.words 0) ≡ (if slice_index m.words 0 == s then map (λ c. Linearize c) (calls_seen image.applied 0 seen) else [])
  taken_as m p inside tries s written image seen at g words sound = ⊎_elim
      (λ same.
      let stage = subst (λ k. IsAttemptAt object sizes g p (2 * p + (m.local p).spare) k) at (sound.each p inside).attempt in
      let now = stage.1 (let a = same.0 in let b = words.current in omega (arith, a, b)) in
      ap (λ (i : Image). if slice_index m.words 0 == s then map (λ c. Linearize c) (calls_seen i.applied 0 seen) else []) (sym now.1.0))
      (λ other. rw (other.1) refl)
      (number_cases (slice_index m.words 0) s)

  -- and so for a direct attempt
  taken_as_own : (m : Moment) (p : ℕ) → p < sizes.processes → (s written : ℕ) (image : Image) (seen : List (Option (List ℕ))) (inv : List ℕ) → (m.local p).stage ≡ Writing 0 s image seen written
      → (g : Board) → AreWords sizes g m.words → IsSound object sizes g m.local
      → takes_effect_own (m.local p) p inv s seen g (slice_index m.words 0)
      ≡ (if slice_index m.words 0 == s then Invoke p (length (m.local p).own) inv ∷ map (λ c. Linearize c) (calls_seen image.applied 0 (slice_set seen p (Some inv))) else [])
  taken_as_own m p inside s written image seen inv at g words sound = ⊎_elim
      (λ same.
      let stage = subst (λ k. IsAttemptAt object sizes g p (2 * p + (m.local p).spare) k) at (sound.each p inside).attempt in
      let now = stage.1 (let a = same.0 in let b = words.current in omega (arith, a, b)) in
      ap (λ (i : Image). if slice_index m.words 0 == s then Invoke p (length (m.local p).own) inv ∷ map (λ c. Linearize c) (calls_seen i.applied 0 (slice_set seen p (Some inv))) else []) (sym now.1.0))
      (λ other. rw (other.1) refl)
      (number_cases (slice_index m.words 0) s)

  module _ (widths : AreWidths (meaning o) sizes) (few : sizes.processes ≤ 64) (steady : IsSteady object (meaning o).reply) where
    copies_one : (m : Moment) (acts : List (Act (List ℕ) (List ℕ))) → Holds m acts → (p : ℕ) → p < sizes.processes → (tries s : ℕ) (copy : List ℕ) (seen : List (Option (List ℕ)))
        → (m.local p).stage ≡ Reading tries s copy seen → buffer_in s < 2 * sizes.processes
    copies_one m acts h p inside tries s copy seen at = subst (λ k. IsCopyingOne sizes k) at (h.copying p inside)

    replies_one : (m : Moment) (acts : List (Act (List ℕ) (List ℕ))) → Holds m acts → (p : ℕ) → p < sizes.processes → (s : ℕ) (loaded : List ℕ)
        → (m.local p).stage ≡ Last s loaded → buffer_in s < 2 * sizes.processes
    replies_one m acts h p inside s loaded at = (subst (λ k. IsAttemptAt object sizes h.board p (2 * p + (m.local p).spare) k) at (h.sound.each p inside).attempt).0

    pub step_holds : (m : Moment) (acts : List (Act (List ℕ) (List ℕ))) → Holds m acts → (p : ℕ) → p < sizes.processes → (next : CanTake object sizes m p)
        → Holds (after object sizes m p next) (acts ++ acts_of object sizes m p next)
    step_holds m acts h p inside (Store stored x at within room) =
        let st = step 0 0 0 0 none in let me = me_at m.local p in
        moved widths m acts h p inside (access_of object sizes p (m.local p) (Store stored x at within room)) (λ y. x) nothing (λ found me'. HasStored st me x me')
        (stores meaning o sizes p st me refl (length stored) x (stored, at, refl) within room) refl
        (λ me' said. (said stored at, tt)) (λ g words sound. refl)
    step_holds m acts h p inside (Announce inv at whole few) =
        let st = step 0 0 0 0 none in let me = me_at m.local p in
        moved widths m acts h p inside (access_of object sizes p (m.local p) (Announce inv at whole few)) (λ y. length (m.local p).own + 1) (begins (m.local p) p inv)
        (λ found me'. HasAnnounced st me (length (m.local p).own + 1) me')
        (announced meaning o sizes p st me refl (length (m.local p).own + 1) inv refl (omega (arith, few)) at whole) refl
        (λ me' said. (said inv at, tt)) (λ g words sound. refl)
    step_holds m acts h p inside (Follow at) =
        let st = step 0 0 0 0 none in let me = me_at m.local p in
        moved widths m acts h p inside (access_of object sizes p (m.local p) (Follow at)) (λ y. y) nothing (λ found me'. HasFollowed st me found me')
        (follows_on meaning o sizes p few st me refl at) refl
        (λ me' said. ((said at).0, subst (λ k. IsCopyingOne sizes k) (sym at) tt)) (λ g words sound. refl)
    step_holds m acts h p inside (Recall read at had) =
        let st = step 0 0 0 0 none in let me = me_at m.local p in
        moved widths m acts h p inside (access_of object sizes p (m.local p) (Recall read at had)) (λ y. y) nothing
        (λ found me'. (q : O) → me.0.object ≡ Some q → HasRecalled (meaning q) st me found me')
        (recalls_on meaning o sizes p few st me refl read at had) refl
        (λ me' said. ((said o refl read at had).0, subst (λ k. IsCopyingOne sizes k) (sym at) tt)) (λ g words sound. refl)
    step_holds m acts h p inside (TryDirectly at untried room) =
        let st = step 0 0 0 0 none in let me = me_at m.local p in
        moved widths m acts h p inside (access_of object sizes p (m.local p) (TryDirectly at untried room)) (λ y. y) nothing (λ found me'. HasBegun st me found me')
        (begins_own meaning o sizes p few st me refl at untried room) refl
        (λ me' said. ((said at).0, (said at).1.0)) (λ g words sound. refl)
    step_holds m acts h p inside (Start tries at below) =
        let st = step 0 0 0 0 none in let me = me_at m.local p in
        moved widths m acts h p inside (access_of object sizes p (m.local p) (Start tries at below)) (λ y. y) nothing (λ found me'. HasStarted st me found me')
        (starts meaning o sizes p few st me refl tries below at) refl
        (λ me' said. ((said tries at).0, (said tries at).1.0)) (λ g words sound. refl)
    step_holds m acts h p inside (Copy tries s copy at more) =
        let st = step 0 0 0 0 none in let me = me_at m.local p in
        let named = copies_one m acts h p inside tries s copy [] at in
        moved widths m acts h p inside (access_of object sizes p (m.local p) (Copy tries s copy at more)) (λ y. y) nothing (λ found me'. HasCopied st me found me')
        (copies meaning o sizes p few st me refl tries s (length copy) (copy, at, refl) more named) refl
        (λ me' said. (said tries s copy at, named)) (λ g words sound. refl)
    step_holds m acts h p inside (Look tries s copy seen at copied whole more) =
        let st = step 0 0 0 0 none in let me = me_at m.local p in
        moved widths m acts h p inside (access_of object sizes p (m.local p) (Look tries s copy seen at copied whole more)) (λ y. y) nothing (λ found me'. HasLooked st me found me')
        (looks meaning o sizes p few st me refl tries s (length seen) (copy, (seen, at, copied, refl, whole)) more) refl
        (λ me' said. (said tries s copy seen at, copies_one m acts h p inside tries s copy seen at)) (λ g words sound. refl)
    step_holds m acts h p inside (Ask tries s copy seen part at within more) =
        let st = step 0 0 0 0 none in let me = me_at m.local p in
        moved widths m acts h p inside (access_of object sizes p (m.local p) (Ask tries s copy seen part at within more)) (λ y. y) nothing (λ found me'. HasAsked st me found me')
        (asks meaning o sizes p few st me refl tries s (length seen) (length part) (copy, (seen, (part, at, refl, refl))) within more) refl
        (λ me' said. (said tries s copy seen part at, copies_one m acts h p inside tries s copy (seen ++ Some part ∷ []) at)) (λ g words sound. refl)
    step_holds m acts h p inside (Check tries s copy seen at copied whole all announced) =
        let st = step 0 0 0 0 none in let me = me_at m.local p in
        moved widths m acts h p inside (access_of object sizes p (m.local p) (Check tries s copy seen at copied whole all announced)) (λ y. y) nothing
        (λ found me'. (q : O) → me.0.object ≡ Some q → HasChecked (meaning q) st me found me')
        (checks meaning o sizes p few st me refl tries s (copy, (seen, at, copied, all, whole)) announced steady) refl
        (λ me' said. ((said o refl tries s copy seen at).0, checked_one sizes (slice_index m.words 0 == s) (slice_index copy p == length (m.local p).own + 1) tries s (read_image sizes copy) seen)) (λ g words sound. refl)
    step_holds m acts h p inside (CheckOwn s copy seen at copied whole all direct) =
        let st = step 0 0 0 0 none in let me = me_at m.local p in
        moved widths m acts h p inside (access_of object sizes p (m.local p) (CheckOwn s copy seen at copied whole all direct)) (λ y. y) nothing
        (λ found me'. (q : O) → me.0.object ≡ Some q → HasCheckedOwn (meaning q) st me found me')
        (checks_own meaning o sizes p few st me refl s (copy, (seen, at, copied, all, whole)) direct steady) refl
        (λ me' said. ((said o refl s copy seen at).0, checked_own_one sizes (slice_index m.words 0 == s) s (read_image sizes copy) seen)) (λ g words sound. refl)
    step_holds m acts h p inside (Confirm s copy at copied direct) =
        let st = step 0 0 0 0 none in let me = me_at m.local p in
        moved widths m acts h p inside (access_of object sizes p (m.local p) (Confirm s copy at copied direct)) (λ y. y) nothing
        (λ found me'. (q : O) → me.0.object ≡ Some q → HasConfirmed (meaning q) st me found me')
        (reads meaning o sizes p few st me refl s (copy, at, copied) direct) refl
        (λ me' said. ((said o refl s copy at).0, tt)) (λ g words sound. refl)
    step_holds m acts h p inside (Write tries s image seen all written k at come below) =
        let st = step 0 (buffer_word sizes (2 * p + (m.local p).spare) k) 0 0 none in let me = me_at m.local p in
        let x = slice_index (spell (with_seen object image 0 all)) k in
        moved widths m acts h p inside (access_of object sizes p (m.local p) (Write tries s image seen all written k at come below)) (λ y. x) nothing (λ found me'. HasWritten st me x me')
        (writes meaning o sizes p st me refl k x (tries, s, image, seen, all, written, at, come, refl) below refl) refl
        (λ me' said. (said k refl, subst (λ z. IsCopyingOne sizes (written_to z (k + 1))) (sym at) tt)) (λ g words sound. refl)
    step_holds m acts h p inside (Bring tries s image seen to at written announced) =
        let new = current_word (version_in s + 1) (2 * p + (m.local p).spare) in
        let st = step 0 0 0 new none in let me = me_at m.local p in
        moved widths m acts h p inside (access_of object sizes p (m.local p) (Bring tries s image seen to at written announced)) (λ found. either (eqb found s) new found) (takes_effect s seen) (λ found me'. HasBrought st me found me')
        (brings_in meaning o sizes p few st me refl steady announced tries s (image, (seen, to, at, written)) refl)
        (either_if (eqb (slice_index m.words 0) s) new (slice_index m.words 0))
        (λ me' said. (said tries s to image seen at, brought_one sizes (m.local p) tries s new (slice_index m.words 0))) (λ g words sound. taken_as m p inside tries s to image seen at g words sound)
    step_holds m acts h p inside (BringOwn s image seen to inv at written direct whole room) =
        let new = current_word (version_in s + 1) (2 * p + (m.local p).spare) in
        let st = step 0 0 0 new none in let me = me_at m.local p in
        moved widths m acts h p inside (access_of object sizes p (m.local p) (BringOwn s image seen to inv at written direct whole room)) (λ found. either (eqb found s) new found) (takes_effect_own (m.local p) p inv s seen)
        (λ found me'. IsLeft me (brought_own (m.local p) s new inv found) me')
        (brings_in_left meaning o sizes p few st me refl steady direct s (length (m.local p).own + 1) inv whole refl (omega (arith, room)) (image, (seen, to, at, written)) refl)
        (either_if (eqb (slice_index m.words 0) s) new (slice_index m.words 0))
        (λ me' said. (said, brought_own_one sizes (m.local p) s new inv (slice_index m.words 0))) (λ g words sound. taken_as_own m p inside s to image seen inv at g words sound)
    step_holds m acts h p inside (Turn tries at two announced) =
        let st = step 0 0 0 0 none in let me = me_at m.local p in
        moved widths m acts h p inside (access_of object sizes p (m.local p) (Turn tries at two announced)) (λ y. y) nothing (λ found me'. HasTurned st me found me')
        (turns meaning o sizes p few st me refl tries two at announced) refl
        (λ me' said. ((said tries at two).0, tt)) (λ g words sound. refl)
    step_holds m acts h p inside (Load s loaded at more) =
        let st = step 0 0 0 0 none in let me = me_at m.local p in
        moved widths m acts h p inside (access_of object sizes p (m.local p) (Load s loaded at more)) (λ y. y) nothing (λ found me'. HasLoaded st me found me')
        (loads meaning o sizes p st me refl s (length loaded) (loaded, at, refl) more (replies_one m acts h p inside s loaded at)) refl
        (λ me' said. (said s loaded at, tt)) (λ g words sound. refl)
    step_holds m acts h p inside (Reply s loaded at last) =
        let st = step 0 0 0 0 none in let me = me_at m.local p in
        moved widths m acts h p inside (access_of object sizes p (m.local p) (Reply s loaded at last)) (λ y. y) (ends (m.local p) p loaded) (λ found me'. HasReplied st me found me')
        (replies meaning o sizes p st me refl s loaded at last (replies_one m acts h p inside s loaded at)) refl
        (λ me' said. ((said s loaded at).0, tt)) (λ g words sound. refl)
    step_holds m acts h p inside Recount =
        let st = step 0 0 0 0 none in let me = me_at m.local p in
        moved widths m acts h p inside (access_of object sizes p (m.local p) Recount) (λ y. y) nothing (λ found me'. HasRecounted st me found me')
        (recounts meaning o sizes p few st me refl) refl
        (λ me' said. (said.0, h.copying p inside)) (λ g words sound. refl)
    step_holds m acts h p inside (Reread which k either below) =
        let st = step 0 (buffer_word sizes (2 * p + which) k) 0 0 none in let me = me_at m.local p in
        moved widths m acts h p inside (access_of object sizes p (m.local p) (Reread which k either below)) (λ y. y) nothing (λ found me'. HasReread st me found me')
        (rereads meaning o sizes p few st me refl which k either below refl) refl
        (λ me' said. (said.0, h.copying p inside)) (λ g words sound. refl)
    step_holds m acts h p inside Restart =
        let st = step 0 0 0 0 none in let me = me_at m.local p in
        moved widths m acts h p inside (access_of object sizes p (m.local p) Restart) (λ y. y) nothing (λ found me'. HasRestarted st me found me')
        (restarts meaning o sizes p few st me refl) refl
        (λ me' said. (said (has_begun (m.local p).stage (m.local p).direct) refl, restarted_one sizes (has_begun (m.local p).stage (m.local p).direct))) (λ g words sound. refl)

    -- and so does an execution
    pub all_acts_hold : {m : Moment} (acts : List (Act (List ℕ) (List ℕ))) → Holds m acts → (e : Execution object sizes m) → Holds (last_moment object sizes e) (acts ++ all_acts object sizes e)
    all_acts_hold acts h e = kept_along sizes.processes (CanTake object sizes) (after object sizes) (acts_of object sizes) Holds step_holds acts h e
