-- The command line that the program builds is the one of the definitions, and what refused memory leaves.
use Rattle.unidraw_run.proofs.Vocabulary.{AppendsPrefix, ArgumentConflict, Bool, Form, HasKind, IsDrawn, Kinds, List, None, Option, OutOfMemory, PictureFault, Script, Some, TellsFault, TellsPictureFault, [], ap, app_of, arith, false, faults_with, inl, inr, is_simple, is_simple_and_free, is_some, kind_of, memory_of, option_map, picture_fault_line, refl, status_of_picture, subst, sym, true, unidraw, unless_faulty, ℕ, ◌++◌, ◌∙◌, ◌∷◌, ◌≡◌}
use Rattle.std.proofs.lemmas.List.{append-nil}
use Rattle.std.specs.Io.KnownBytes.{Appends}
use Rattle.clap.specs.declared.builder.command.Command.{Command}
use Rattle.clap.specs.declared.error.Error.{Error}
use Rattle.script_advice.specs.Told.{TellsMore}
use Rattle.uni_script.specs.Fault.{fault_line}
use Rattle.unidraw_run.specs.declared.program.Request.{Request}

pub is_simple_and_free-unidraw : (whole : Command) → app_of whole ≡ unidraw → is_simple_and_free (app_of whole) ≡ true
is_simple_and_free-unidraw whole is = let simple : is_simple_and_free unidraw ≡ true = refl in ap is_simple_and_free is ∙ simple

pub is_simple-unidraw : (whole : Command) → app_of whole ≡ unidraw → is_simple (app_of whole) ≡ true
is_simple-unidraw whole is = let simple : is_simple unidraw ≡ true = refl in ap is_simple is ∙ simple

-- words without a fault ask for what they ask
pub unless_faulty-none : (kinds : Kinds) (form : Option Request) → kinds ≡ [] → unless_faulty kinds form ≡ form
unless_faulty-none kinds form none = ap (λ ks. unless_faulty ks form) none

-- a fault of clap is one of the words, and so is a conflict where there is none
pub faulty : (kinds : Kinds) (form : Option Request) (e : Error) → HasKind kinds e → HasKind (faults_with kinds form) e
faulty [] None e has = inl (memory_of [] e has refl)
faulty [] (Some f) e has = has
faulty (kind ∷ kinds) form e has = has

pub conflicting : (kinds : Kinds) (form : Option Request) (e : Error) → kinds ≡ [] → form ≡ None → kind_of e ≡ ArgumentConflict → HasKind (faults_with kinds form) e
conflicting kinds form e none no_form is =
    subst (λ f. HasKind (faults_with kinds f) e) (sym no_form) (subst (λ ks. HasKind (faults_with ks None) e) (sym none) (inr (inl is)))

-- an error of words that ask for something is refused memory
pub memory_of_request : (kinds : Kinds) (e : Error) (request : Option Request) (asked : Request) → HasKind (faults_with kinds request) e → unless_faulty kinds request ≡ Some asked → kind_of e ≡ OutOfMemory
memory_of_request [] e None asked has is = absurd (let bad : None ≡ Some asked = is in cc)
memory_of_request [] e (Some r) asked has is = memory_of [] e has refl
memory_of_request (kind ∷ kinds) e request asked has is = absurd (let bad : None ≡ Some asked = is in cc)

pub memory_of_form : (kinds : Kinds) (e : Error) (request : Option Request) (asked : Form) → HasKind (faults_with kinds request) e → option_map (λ (r : Request). r.form) (unless_faulty kinds request) ≡ Some asked → kind_of e ≡ OutOfMemory
memory_of_form [] e None asked has is = absurd (let bad : None ≡ Some asked = is in cc)
memory_of_form [] e (Some r) asked has is = memory_of [] e has refl
memory_of_form (kind ∷ kinds) e request asked has is = absurd (let bad : None ≡ Some asked = is in cc)

-- which draws nothing
pub drawn_of_memory : (form : Form) (left old : Option (List ℕ)) (status : ℕ) → status ≡ 4 → IsDrawn form left old old status
drawn_of_memory form left old status four =
    record { drawn = λ e. absurd (omega arith); bad = λ e. absurd (omega arith); part = λ _. inl refl; nothing = λ _ _ _. refl }

-- the line of a fault and more is told by its bytes
pub told_as : (form : Form) (is_explained : Bool) (fault : PictureFault) (more line : List ℕ) (old new : Option (List ℕ)) (failed : Bool) (status : ℕ) → (is_explained ≡ false → more ≡ [])
    → status ≡ status_of_picture fault → line ≡ picture_fault_line form fault ++ more → AppendsPrefix old new line → (failed ≡ false → Appends old new line) → TellsPictureFault form is_explained old new failed status
told_as form is_explained fault more line old new failed status none ends is prefix whole = (
  more,
  none,
  record { fault = fault; status_is = ends; prefix = subst (AppendsPrefix old new) is prefix; whole = λ good. subst (Appends old new) is (whole good) },
)

-- and so is the line alone, and that of a fault of a script
pub told_alone : (form : Form) (is_explained : Bool) (fault : PictureFault) (line : List ℕ) (old new : Option (List ℕ)) (failed : Bool) (status : ℕ)
    → status ≡ status_of_picture fault → line ≡ picture_fault_line form fault → AppendsPrefix old new line → (failed ≡ false → Appends old new line) → TellsPictureFault form is_explained old new failed status
told_alone form is_explained fault line old new failed status ends is prefix whole =
    told_as form is_explained fault [] line old new failed status (λ _. refl) ends (is ∙ sym (append-nil (picture_fault_line form fault))) prefix whole

pub told_of_fault : (form : Form) (is_explained : Bool) (old new : Option (List ℕ)) (failed : Bool) (status : ℕ) → TellsFault old new failed status → TellsPictureFault form is_explained old new failed status
told_of_fault form is_explained old new failed status told =
    told_alone form is_explained (Script told.fault) (fault_line told.fault) old new failed status told.status_is refl told.prefix told.whole

-- what isn't there is nothing
pub not_some : {A : Type 0} (x : Option A) → is_some x ≡ false → x ≡ None
not_some None is = refl
not_some (Some a) is = cc

-- a fault of a script is told with more only where it is explained
pub told_of_more : (form : Form) (is_explained : Bool) (old new : Option (List ℕ)) (failed : Bool) (status : ℕ) → TellsMore old new failed status → (is_explained ≡ false → TellsFault old new failed status)
    → TellsPictureFault form is_explained old new failed status
told_of_more form true old new failed status told alone =
    let line = told.1 in told_as form true (Script line.fault) told.0 (fault_line line.fault ++ told.0) old new failed status (λ e. cc) line.status_is refl line.prefix line.whole
told_of_more form false old new failed status told alone = told_of_fault form false old new failed status (alone refl)
