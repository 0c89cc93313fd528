-- One call after the other is applied: what is left to apply gives the draft.
use Rattle.uni_any.proofs.Vocabulary.{Image, List, None, Option, Sequential, Some, Told, [], ap, arith, calls_due, drafted, drop, due, image_from, length, map, refl, row_in, slice_index_or, suc, sym, zero, ℕ, ◌+◌, ◌<◌, ◌∙◌, ◌∷◌, ◌≡◌, ◌≤◌}
use Rattle.uni_any.proofs.Batches.{row_else}
use Rattle.uni_any.specs.Drafts.{one_applied}

pub drop_next : {A : Type 0} (xs : List A) (r : ℕ) (d : A) → r < length xs → drop r xs ≡ slice_index_or xs r d ∷ drop (suc r) xs
drop_next [] r d inside = absurd (omega arith)
drop_next (x ∷ xs) zero d inside = refl
drop_next (x ∷ xs) (suc r) d inside = drop_next xs r d (omega arith)

pub drop_whole : {A : Type 0} (xs : List A) (r : ℕ) → length xs ≤ r → drop r xs ≡ []
drop_whole [] zero h = refl
drop_whole [] (suc r) h = refl
drop_whole (x ∷ xs) zero h = absurd (omega arith)
drop_whole (x ∷ xs) (suc r) h = drop_whole xs r (omega arith)

pub mapped_at : {A B : Type 0} (f : A → B) (xs : List A) (r : ℕ) (d : B) (x : A) → r < length xs → slice_index_or (map f xs) r d ≡ f (slice_index_or xs r x)
mapped_at f [] r d x inside = absurd (omega arith)
mapped_at f (y ∷ ys) zero d x inside = refl
mapped_at f (y ∷ ys) (suc r) d x inside = mapped_at f ys r d x (omega arith)

module _ {S I R : Type 0} (object : Sequential S I R) (base : Image S R) (seen : List (Told I S R)) (d : Told I S R) where
  -- what there is so far, with the calls of the processes from r on, is the draft; and their rows are as they were
  pub record IsDrafting (n r : ℕ) (image : Image S R) : Type 0 where
    pub rest : image_from object image (calls_due base r (drop r seen)) ≡ drafted object base seen
    pub rows : (q : ℕ) → r ≤ q → row_in image q ≡ row_in base q
    pub long : length image.rows ≡ n

  pub drafting_first : (n : ℕ) → length base.rows ≡ n → IsDrafting n 0 base
  drafting_first n long = record { rest = refl; rows = λ q from. refl; long = long }

  applied_first : (image : Image S R) (r : ℕ) (t : Told I S R) (more : List (Told I S R)) → image_from object image (calls_due base r (t ∷ more)) ≡ image_from object (one_applied object image r (due base r t)) (calls_due base (r + 1) more)
  applied_first image r t more = by (due base r t) refl where
    by : (o : Option I) → due base r t ≡ o → image_from object image (calls_due base r (t ∷ more)) ≡ image_from object (one_applied object image r (due base r t)) (calls_due base (r + 1) more)
    by None is = rw is refl
    by (Some inv) is = rw is refl

  rows_after : (image : Image S R) (r : ℕ) (o : Option I) (q : ℕ) → r + 1 ≤ q → row_in (one_applied object image r o) q ≡ row_in image q
  rows_after image r None q from = refl
  rows_after image r (Some inv) q from = row_else object image q r inv (λ e. omega (arith, from, e))

  pub drafting_next : (n r : ℕ) (image : Image S R) → IsDrafting n r image → r < length seen → (later : Image S R) → later ≡ one_applied object image r (due base r (slice_index_or seen r d)) → length later.rows ≡ n → IsDrafting n (r + 1) later
  drafting_next n r image was inside later is long = record {
    rest = ap (λ z. image_from object z (calls_due base (r + 1) (drop (r + 1) seen))) is ∙ sym (applied_first image r (slice_index_or seen r d) (drop (r + 1) seen))
        ∙ ap (λ k. image_from object image (calls_due base r (slice_index_or seen r d ∷ drop k seen))) (let e : r + 1 ≡ suc r = omega arith in e)
        ∙ ap (λ ts. image_from object image (calls_due base r ts)) (sym (drop_next seen r d inside)) ∙ was.rest;
    rows = λ q from. ap (λ (z : Image S R). row_in z q) is ∙ rows_after image r (due base r (slice_index_or seen r d)) q from ∙ was.rows q (omega (arith, from));
    long = long;
  }

  pub drafting_whole : (n r : ℕ) (image : Image S R) → IsDrafting n r image → length seen ≤ r → image ≡ drafted object base seen
  drafting_whole n r image was all = ap (λ ts. image_from object image (calls_due base r ts)) (sym (drop_whole seen r all)) ∙ was.rest
