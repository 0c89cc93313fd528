-- What a run of the program has drawn, by its fault.
use Rattle.unidraw_run.proofs.Vocabulary.{BenchFault, Err, Form, HasFault, HasNoPicture, HasRangeFault, IsDrawn, IsErrOf, IsFaultOfScript, IsPictureIn, IsStatusOfPicture, List, MatchResult-at_err, MatchResult-at_ok, Memory, Misdrawn, OfRange, Ok, Option, PictureFault, RangeFault, Result, Script, Write, WritesSuch, ap, arith, false, inl, inr, is_streamed, may_write_before, range_of, refl, scripts_of, status_of, status_of_picture, subst, sym, true, ℕ, ◌∙◌, ◌≡◌, ◌≢◌, ◌≤◌}
use Rattle.uni_script.specs.declared.fault.BenchFault.TheVariants.{Audit, Read}

-- no fault ends with 0, nor does refused memory for its text
least_status : (f : BenchFault) → 2 ≤ status_of f
least_status Write = omega arith
least_status f = omega arith

status_not_0 : (f : PictureFault) (status : ℕ) → IsStatusOfPicture f status → status ≢ 0
status_not_0 (OfRange f) status is zero = omega arith
status_not_0 Misdrawn status is zero = omega arith
status_not_0 (Script f) status is zero = elim is [
  | inl same ↦ let least = least_status f in omega arith
  | inr other ↦ let four = other.1 in omega arith
]

-- a status of 2 is that of the fault
status_2 : (f : PictureFault) (status : ℕ) → IsStatusOfPicture f status → status ≡ 2 → status_of_picture f ≡ 2
status_2 (OfRange f) status is two = refl
status_2 Misdrawn status is two = absurd (omega arith)
status_2 (Script f) status is two = elim is [
  | inl same ↦ sym same ∙ two
  | inr other ↦ let four = other.1 in absurd (omega arith)
]

-- a fault that ends with 2 is one of a script, or of the choice of events
no_picture : (form : Form) (left : Option (List ℕ)) (f : PictureFault) → status_of_picture f ≡ 2 → ((e : RangeFault) → f ≡ OfRange e → HasRangeFault (range_of form) e left)
    → ((e : BenchFault) → f ≡ Script e → IsFaultOfScript e → HasFault (scripts_of 1048576) left e) → HasNoPicture form left
no_picture form left (OfRange e) two range fault = inl (e, range e refl)
no_picture form left Misdrawn two range fault = absurd (omega arith)
no_picture form left (Script Read) two range fault = absurd (omega arith)
no_picture form left (Script Write) two range fault = absurd (omega arith)
no_picture form left (Script Memory) two range fault = absurd (omega arith)
no_picture form left (Script (Audit verdict)) two range fault = absurd (omega arith)
no_picture form left (Script e) two range fault = inr (e, tt, fault e refl tt)

-- nothing is written before a fault, but before a failure of the output, and refused memory where the form is streamed
may_not_write : (form : Form) (f : PictureFault) → f ≢ Script Write → (f ≡ Script Memory → is_streamed form ≡ false) → may_write_before form f ≡ false
may_not_write form (Script Write) write memory = absurd (write refl)
may_not_write form (Script Memory) write memory = memory refl
may_not_write form f write memory = refl

-- what may not be written before is no failure of the output, and no refused memory where the form is streamed; nor is a fault of a script
pub not_write : (form : Form) (e : PictureFault) → may_write_before form e ≡ false → e ≢ Script Write
not_write form e before same = let bad : true ≡ false = subst (λ f. may_write_before form f ≡ false) same before in cc

pub not_memory : (form : Form) (e : PictureFault) → is_streamed form ≡ true → may_write_before form e ≡ false → e ≢ Script Memory
not_memory form e streamed before same = let held : is_streamed form ≡ false = subst (λ f. may_write_before form f ≡ false) same before in cc

pub no_script_write : (e : BenchFault) → IsFaultOfScript e → Script e ≢ Script Write
no_script_write e fault same = let write : e ≡ Write = cc in subst IsFaultOfScript write fault

-- a failure of the output ends with 3
status_of_write : (f : PictureFault) (status : ℕ) → IsStatusOfPicture f status → f ≡ Script Write → status ≡ 3
status_of_write f status ends is = elim (subst (λ g. IsStatusOfPicture g status) is ends) [
  | inl same ↦ same
  | inr other ↦ absurd (elim other.0 [ inl two ↦ omega arith | inr five ↦ omega arith ])
]

pub status_3 : {A : Type 0} (r : Result A PictureFault) (f : PictureFault) (status : ℕ) → r ≡ Err f → r ≡ Err (Script Write) → IsStatusOfPicture f status → status ≡ 3
status_3 r f status is failed ends = status_of_write f status ends cc

-- a run of the program that has drawn all
pub IsDrawn-all : {A : Type 0} (form : Form) (left old new : Option (List ℕ)) (r : Result A PictureFault) (a : A) → r ≡ Ok a → WritesSuch r (IsPictureIn form left) old new → IsDrawn form left old new 0
IsDrawn-all form left old new r a is writes = record {
  drawn = λ _. MatchResult-at_ok _ _ a is writes;
  bad = λ two. absurd (omega arith);
  part = λ some. absurd (some refl);
  nothing = λ some. absurd (some refl);
}

-- and one that ends with a fault
pub IsDrawn-fault : {A : Type 0} (form : Form) (left old new : Option (List ℕ)) (status : ℕ) (r : Result A PictureFault) (f : PictureFault) → r ≡ Err f → WritesSuch r (IsPictureIn form left) old new
    → ((e : PictureFault) → IsErrOf r e → may_write_before form e ≡ false → new ≡ old)
    → ((e : RangeFault) → IsErrOf r (OfRange e) → HasRangeFault (range_of form) e left) → ((e : BenchFault) → IsErrOf r (Script e) → IsFaultOfScript e → HasFault (scripts_of 1048576) left e)
    → IsStatusOfPicture f status → IsDrawn form left old new status
IsDrawn-fault {A} form left old new status r f is writes unwritten range fault ends =
    let told : (g : PictureFault) → f ≡ g → IsErrOf r g = λ g same. is ∙ ap Err same in record {
      drawn = λ zero. absurd (status_not_0 f status ends zero);
      bad = λ two.
          let own = status_2 f status ends two in (
            no_picture form left f own (λ e same. range e (told (OfRange e) same)) (λ e same. fault e (told (Script e) same)),
            unwritten f is (may_not_write form f (λ same. let three = status_of_write f status ends same in omega arith)
                (λ same. absurd (let four : status_of_picture (Script Memory) ≡ 2 = subst (λ g. status_of_picture g ≡ 2) same own in omega arith))),
          );
      part = λ _. MatchResult-at_err _ _ f is writes;
      nothing = λ _ not_3 whole. unwritten f is (may_not_write form f (λ same. not_3 (status_of_write f status ends same)) (λ _. whole));
    }
