-- The run of a script, told, by its record, and what is written of it piece by piece.
use Rattle.run_tell.proofs.Vocabulary.{Appends, AppendsPrefix, AppendsPrefix-after, AppendsPrefix-more, BenchFault, Bool, Err, Event, Excerpt, IfErr, IfErr-at_err, IfOk, IsErr, IsErrOf, IsFaultOfScript, IsLinearizableSession, IsOfRange, IsScriptRun, IsToldBy, Language, List, MatchResult-from_err, Moves, None, Ok, OnErr, OnOk, Opening, Option, PlacedRemark, Range, RangeFault, Recording, Result, Scene, ScriptSession, Sequential, Some, SpokenObject, Start, Trace, Version, Wording, WorldOf, WritesSuch, WritesText, [], ap, append-nil, append_assoc, arith, count_in, drop, events-run, events_of_record, events_shown, excerpt_of, flat_map, inl, inr, length, length-drop, opened_world, opening, range_fault, refl, remark_told, scenes_from, session_of_record, slice_get, spoken, subst, suc, sym, take, text_of_record, told_before, told_from, told_text, trace_of_events, world_after, zero, ℕ, ◌++◌, ◌+◌, ◌-◌, ◌↔◌, ◌∙◌, ◌∷◌, ◌≡◌, ◌≢◌, ◌≤◌, ◌⊎◌}
use Rattle.std.proofs.KnownBytes.{Appends-nil, Appends-trans}
use Rattle.run_layout.specs.declared.subject.PictureFault.{PictureFault}
use Rattle.run_layout.specs.declared.subject.PictureFault.TheVariants.{Misdrawn, Range as OfRange, Script}
use Rattle.uni_script.specs.declared.fault.BenchFault.TheVariants.{Memory, Read, Write}
use Rattle.uni_script.specs.declared.options.Echo.TheVariants.{Off}
use Rattle.uni_script.specs.declared.script_run.ScriptRecord.{ScriptRecord}
use Rattle.uni_script.specs.declared.script_run.ScriptRun.{ScriptRun}

-- before the first write all of a text is left
pub Moves-start : (a : Option (List ℕ)) (whole : List ℕ) → Moves a a whole whole
Moves-start a whole = ([], Appends-nil a, refl)

-- the first of what is left was gathered, and written up to some of it
pub Moves-more : (a b c : Option (List ℕ)) (whole told left rest : List ℕ) → Moves a b whole (told ++ rest) → Moves b c told left → Moves a c whole (left ++ rest)
Moves-more a b c whole told left rest so_far write = (
  so_far.0 ++ write.0,
  Appends-trans a b c so_far.0 write.0 so_far.1 write.1,
  so_far.2 ∙ ap (λ t. so_far.0 ++ (t ++ rest)) write.2 ∙ ap (λ t. so_far.0 ++ t) (append_assoc write.0 left rest) ∙ sym (append_assoc so_far.0 write.0 (left ++ rest)),
)

-- what is written is a prefix, also after a further write that failed, and all of the text where nothing is left
pub Moves-part : (a b : Option (List ℕ)) (whole rest : List ℕ) → Moves a b whole rest → AppendsPrefix a b whole
Moves-part a b whole rest so_far = (rest, record { prefix = so_far.0; cut = so_far.2; taken = so_far.1 })

pub Moves-failed : (a b c : Option (List ℕ)) (whole told rest : List ℕ) → Moves a b whole (told ++ rest) → AppendsPrefix b c told → AppendsPrefix a c whole
Moves-failed a b c whole told rest so_far part = subst (AppendsPrefix a c) (sym so_far.2) (AppendsPrefix-after a b c so_far.0 (told ++ rest) so_far.1 (AppendsPrefix-more b c told rest part))

pub Moves-all : (a b : Option (List ℕ)) (whole : List ℕ) → Moves a b whole [] → Appends a b whole
Moves-all a b whole moved = subst (Appends a b) (sym (moved.2 ∙ append-nil moved.0)) moved.1

-- an error, after a prefix
pub WritesText-err : {T E : Type 0} (r : Result T E) (a b : Option (List ℕ)) (text : List ℕ) → IsErr r → AppendsPrefix a b text → WritesText r a b text
WritesText-err r a b text is part = MatchResult-from_err r (λ _. Appends a b text) (λ _. AppendsPrefix a b text) is (λ _. part)

-- the last write of a text
pub WritesText-last : {T E : Type 0} (r : Result T E) (a b c : Option (List ℕ)) (whole told left : List ℕ) → Moves a b whole told → OnOk r (Moves b c told left) → OnOk r (0 ≤ length told → left ≡ []) → OnErr r (AppendsPrefix b c told)
    → WritesText r a c whole
WritesText-last (Ok u) a b c whole told left so_far moved none part =
    let more : Moves a c whole (left ++ []) = Moves-more a b c whole told left [] (subst (Moves a b whole) (sym (append-nil told)) so_far) moved in
    Moves-all a c whole (subst (Moves a c whole) (append-nil left ∙ none (omega arith)) more)
WritesText-last (Err e) a b c whole told left so_far moved none part = Moves-failed a b c whole told [] (subst (Moves a b whole) (sym (append-nil told)) so_far) part

-- a result tells why these events can't be chosen, if they can't
abbrev pub TellsRangeFault : {T : Type 0} → Result T PictureFault → (fault : Option RangeFault) → Type 0
TellsRangeFault r fault = (e : RangeFault) → (IsErrOf r (OfRange e) ↔ (fault ≡ Some e))

-- one that is that fault does, and one that is another or none does where there is none
pub tells_fault : {T : Type 0} (r : Result T PictureFault) (fault : Option RangeFault) (f : RangeFault) → r ≡ Err (OfRange f) → fault ≡ Some f → TellsRangeFault r fault
tells_fault r fault f is there e = (
  λ told. let same : f ≡ e = cc in there ∙ ap Some same,
  λ told. let same : f ≡ e = cc in is ∙ ap (λ g. Err (OfRange g)) same,
)

pub tells_none : {T : Type 0} (r : Result T PictureFault) (fault : Option RangeFault) → fault ≡ None → ((e : RangeFault) → IsErrOf r (OfRange e) → ⊥) → TellsRangeFault r fault
tells_none r fault none other e = (λ told. absurd (other e told), λ told. absurd (let bad : None ≡ Some e = sym none ∙ told in cc))

-- there is none where the result is another or none
pub fits_other : {T : Type 0} (r : Result T PictureFault) (fault : Option RangeFault) → TellsRangeFault r fault → ((e : RangeFault) → IsErrOf r (OfRange e) → ⊥) → fault ≡ None
fits_other r None tells other = refl
fits_other r (Some e) tells other = absurd (other e ((tells e).1 refl))

-- a text of which something holds where these events can be chosen
pub WritesSuch-text : {T : Type 0} (r : Result T PictureFault) (Holds : List ℕ → Type 0) (a b : Option (List ℕ)) (text : List ℕ) (fault : Option RangeFault) → TellsRangeFault r fault → ((e : RangeFault) → IsErrOf r (OfRange e) → b ≡ a)
    → WritesText r a b text → (fault ≡ None → Holds text) → WritesSuch r Holds a b
WritesSuch-text (Ok u) Holds a b text fault tells none writes holds = (text, holds (fits_other (Ok u) fault tells (λ e is. cc)), writes)
WritesSuch-text (Err (OfRange e)) Holds a b text fault tells none writes holds = inl (none e refl)
WritesSuch-text (Err f) Holds a b text fault tells none writes holds = inr (text, holds (fits_other (Err f) fault tells (λ e is. cc)), writes)

-- and of which something else holds then
pub WritesSuch-weaker : {T E : Type 0} (r : Result T E) (P Q : List ℕ → Type 0) (a b : Option (List ℕ)) → ((text : List ℕ) → P text → Q text) → WritesSuch r P a b → WritesSuch r Q a b
WritesSuch-weaker (Ok u) P Q a b f writes = (writes.0, f writes.0 writes.1, writes.2)
WritesSuch-weaker (Err e) P Q a b f (inl same) = inl same
WritesSuch-weaker (Err e) P Q a b f (inr part) = inr (part.0, f part.0 part.1, part.2)

-- what holds where events can't be chosen holds of each error but refused memory and a failed output, and none is a fault of a script
pub else_range : {T : Type 0} (r : Result T PictureFault) (P : Type 0) → IfErr r (λ e. IsOfRange e ⊎ (e ≡ Script Memory) ⊎ (e ≡ Script Write)) → ((e : RangeFault) → IsErrOf r (OfRange e) → P)
    → (e : PictureFault) → IsErrOf r e → e ≢ Script Memory → e ≢ Script Write → P
else_range r P faults range (OfRange e) is memory write = range e is
else_range r P faults range e is memory write =
    absurd (elim (IfErr-at_err (λ e. IsOfRange e ⊎ (e ≡ Script Memory) ⊎ (e ≡ Script Write)) is faults) [
      | inl of_range ↦ of_range
      | inr other ↦ elim other [ inl m ↦ memory m | inr w ↦ write w ]
    ])

pub no_fault_of_script : {T : Type 0} (r : Result T PictureFault) → IfErr r (λ e. IsOfRange e ⊎ (e ≡ Script Memory) ⊎ (e ≡ Script Write)) → (e : BenchFault) → IsErrOf r (Script e) → ¬ (IsFaultOfScript e)
no_fault_of_script r faults e is fault =
    else_range r ⊥ faults (λ f range. let bad : Script e ≡ OfRange f = cc in cc) (Script e) is (λ same. let m : e ≡ Memory = cc in subst IsFaultOfScript m fault) (λ same. let w : e ≡ Write = cc in subst IsFaultOfScript w fault)

-- an error that is none of these doesn't come
pub no_other : {T : Type 0} (r : Result T PictureFault) → IfErr r (λ e. IsOfRange e ⊎ (e ≡ Script Memory) ⊎ (e ≡ Script Write)) → (e : PictureFault) → ¬ (IsOfRange e ⊎ (e ≡ Script Memory) ⊎ (e ≡ Script Write)) → ¬ (IsErrOf r e)
no_other r faults e other is = other (IfErr-at_err (λ e. IsOfRange e ⊎ (e ≡ Script Memory) ⊎ (e ≡ Script Write)) is faults)

pub no_misdrawn : {T : Type 0} (r : Result T PictureFault) → IfErr r (λ e. IsOfRange e ⊎ (e ≡ Script Memory) ⊎ (e ≡ Script Write)) → ¬ (IsErrOf r Misdrawn)
no_misdrawn r faults = no_other r faults Misdrawn (λ one. elim one [ inl of_range ↦ of_range | inr other ↦ elim other [ inl memory ↦ cc | inr write ↦ cc ] ])

pub no_read : {T : Type 0} (r : Result T PictureFault) → IfErr r (λ e. IsOfRange e ⊎ (e ≡ Script Memory) ⊎ (e ≡ Script Write)) → ¬ (IsErrOf r (Script Read))
no_read r faults = no_other r faults (Script Read) (λ one. elim one [ inl of_range ↦ of_range | inr other ↦ elim other [ inl memory ↦ cc | inr write ↦ cc ] ])

-- what is gathered and still to be told, after one more event is gathered with what is told before it
pub Moves-told_on : (words : Wording) (range : Range) (lines : List ℕ) (a b : Option (List ℕ)) (whole : List ℕ) (k : ℕ) (scenes rest : List (Option Scene)) (scene : Scene) (remarks left : List PlacedRemark) (text told : List ℕ)
    → scenes ≡ Some scene ∷ rest → left ≡ drop (told_before k remarks) remarks
    → told ≡ text ++ (flat_map (remark_told words range) (take (told_before k remarks) remarks) ++ words.event k (slice_get lines k) scene)
    → Moves a b whole (text ++ told_from words range lines k scenes remarks) → Moves a b whole (told ++ told_from words range lines (k + 1) rest left)
Moves-told_on words range lines a b whole k scenes rest scene remarks left text told is_scenes is_left is_told =
    let event = flat_map (remark_told words range) (take (told_before k remarks) remarks) ++ words.event k (slice_get lines k) scene in
    let later = told_from words range lines (k + 1) rest (drop (told_before k remarks) remarks) in
    subst (Moves a b whole)
    (ap (λ l. text ++ told_from words range lines k l remarks) is_scenes ∙ sym (append_assoc text event later) ∙ ap (λ l. l ++ later) (sym is_told)
    ∙ ap (λ l. told ++ told_from words range lines (k + 1) rest l) (sym is_left))

trace_is : {S I R : Type 0} (range : Range) (is_whole : Bool) (o : SpokenObject S I R) (text : S → List ℕ) (name : List ℕ) (n row first count : ℕ) (events : List (Event I)) (start : Option Start) (scenes : List (Option Scene)) (opened : Opening)
    → count ≡ count_in range (length events)
    → excerpt_of o.object o.language text is_whole range.from count (opened_world n o.object.initial first) events ≡ record { start = start; scenes = scenes }
    → opened ≡ opening name n row first (text o.object.initial) start
    → (let trace : Trace = record { range = range; opening = opened; scenes = scenes } in trace) ≡ trace_of_events range is_whole o text name n row first events
trace_is range is_whole o text name n row first count events start scenes opened is_count is_part is_opened =
    let whole = λ (m : ℕ). excerpt_of o.object o.language text is_whole range.from m (opened_world n o.object.initial first) events in
    let part : Excerpt = record { start = start; scenes = scenes } in
    let is : part ≡ whole (count_in range (length events)) = sym is_part ∙ ap whole is_count in
    ap (λ x. let trace : Trace = record { range = range; opening = x; scenes = scenes } in trace) is_opened
    ∙ ap (λ (e : Excerpt). let trace : Trace = record { range = range; opening = opening name n row first (text o.object.initial) e.start; scenes = e.scenes } in trace) is

-- the text of what was read of a record is that of the record
pub text_is : {O S I R : Type 0} (words : Wording) (range : Range) (sequential : O → Sequential S I R) (l : Language I R) (text : S → List ℕ) (name : List ℕ) (r : Recording O S I R) (object : O) (is_whole : Bool) (count : ℕ) (start : Option Start) (scenes : List (Option Scene)) (opened : Opening) (lines : List ℕ) (remarks : List PlacedRemark)
    → object ≡ r.world.object → is_whole ≡ words.is_whole → count ≡ count_in range (length (events_shown r.events))
    → excerpt_of (sequential object) l text is_whole range.from count (opened_world r.processes (sequential object).initial r.first) (events_shown r.events) ≡ record { start = start; scenes = scenes }
    → opened ≡ opening name r.processes r.world.row r.first (text (sequential r.world.object).initial) start
    → (let trace : Trace = record { range = range; opening = opened; scenes = scenes } in told_text words trace lines remarks) ≡ text_of_record words range (spoken sequential l r.world.object) text name r lines remarks
text_is {O} words range sequential l text name r object is_whole count start scenes opened lines remarks same whole is_count is_part is_opened =
    let o = spoken sequential l r.world.object in
    let part : Excerpt = record { start = start; scenes = scenes } in
    ap (λ trace. told_text words trace lines remarks)
    (trace_is range is_whole o text name r.processes r.world.row r.first count (events_shown r.events) start scenes opened is_count
    (subst (λ (x : O). excerpt_of (sequential x) l text is_whole range.from count (opened_world r.processes (sequential x).initial r.first) (events_shown r.events) ≡ part) same is_part) is_opened
    ∙ ap (λ b. trace_of_events range b o text name r.processes r.world.row r.first (events_shown r.events)) whole)

scenes_length : {S I R : Type 0} (object : Sequential S I R) (l : Language I R) (text : S → List ℕ) (is_whole : Bool) (w : WorldOf S I R) (events : List (Event I)) → length (scenes_from object l text is_whole w events) ≡ length events
scenes_length object l text is_whole w [] = refl
scenes_length object l text is_whole w (e ∷ events) = ap suc (scenes_length object l text is_whole (world_after object w e) events)

taken_few : {A : Type 0} (k : ℕ) (xs : List A) → length (take k xs) ≤ length xs
taken_few zero xs = omega arith
taken_few (suc k) [] = omega arith
taken_few (suc k) (x ∷ xs) = let few = taken_few k xs in omega (arith, few)

-- there are as many scenes as events at most, from the one on with which they begin
pub scenes_few : {S I R : Type 0} (object : Sequential S I R) (l : Language I R) (text : S → List ℕ) (is_whole : Bool) (from most : ℕ) (w : WorldOf S I R) (events : List (Event I)) (scenes : List (Option Scene))
    → (excerpt_of object l text is_whole from most w events).scenes ≡ scenes → length scenes ≤ length events - from
scenes_few object l text is_whole from most w events scenes is =
    let made : length scenes ≡ length (take most (drop from events)) = sym (ap length is) ∙ scenes_length object l text is_whole _ (take most (drop from events)) in
    let few : length (take most (drop from events)) ≤ length (drop from events) = taken_few most (drop from events) in
    let rest : length (drop from events) ≡ length events - from = length-drop from events in
    omega (arith, made, few, rest)

pub IsToldBy-run : (tell : ScriptSession → (lines : List ℕ) → List PlacedRemark → List ℕ) (range : Range) (left : Option (List ℕ)) (run : ScriptRun ScriptRecord) (is : IsScriptRun (record { history = 1048576; echo = Off }) left run) (text : List ℕ) → range_fault range (events_of_record run.record) ≡ None
    → text ≡ tell (session_of_record is.3.2.version run.record) run.lines.items run.remarks.items
    → ((version : Version) → IsLinearizableSession (session_of_record version run.record)) → IsToldBy tell range left text
IsToldBy-run tell range left run is text fits same linearizable =
    let b = is.3.0 in
    let of = is.3.2 in
    let events = events-run b of.version run.record of.session in record {
      script = is.0;
      input = is.1;
      good = is.2;
      session = b;
      session_is = is.3.1;
      fits = subst (λ n. range_fault range n ≡ None) (sym events) fits;
      lines = run.lines.items;
      lines_are = of.lines_are;
      remarks = run.remarks.items;
      remarks_are = of.remarks_are;
      text_is = same ∙ ap (λ s. tell s run.lines.items run.remarks.items) (sym of.session);
      linearizable = subst IsLinearizableSession (sym of.session) (linearizable of.version);
    }

-- two facts of an answer that is Ok
pub IfOk-two : {A E : Type 0} (r : Result A E) (P : Type 0) (Q S : A → Type 0) → OnOk r P → IfOk r Q → ((a : A) → P → Q a → S a) → IfOk r S
IfOk-two (Ok a) P Q S p q f = f a p q
IfOk-two (Err e) P Q S p q f = tt

-- the text of a record, by its parts
pub text_as : {O S I R : Type 0} (words : Wording) (range : Range) (o : SpokenObject S I R) (text : S → List ℕ) (r : Recording O S I R) (name word some lines : List ℕ) (told remarks : List PlacedRemark) → name ≡ word → some ≡ lines → told ≡ remarks
    → text_of_record words range o text name r some told ≡ text_of_record words range o text word r lines remarks
text_as words range o text r name word some lines told remarks named same beside =
    ap (λ n. text_of_record words range o text n r some told) named ∙ ap (λ l. text_of_record words range o text word r l told) same ∙ ap (text_of_record words range o text word r lines) beside
