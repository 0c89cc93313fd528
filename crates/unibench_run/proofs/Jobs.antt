-- What came of jobs that threads did, by their places.
use Rattle.unibench_run.proofs.Vocabulary.{AreDone, AreJobsDone, Done, IsDone, IsJobOf, Job, List, Ok, Result, Some, [], ap, arith, length, length-map, map, range_with_len, seed_of, slice_get, slice_get-index, slice_get-map, slice_index_or, subst, sym, ℕ, ◌<◌, ◌∙◌, ◌≡◌}
use Rattle.unibench_run.proofs.DrawnBy.{of_place}
use Rattle.unibench_run.proofs.Told.{at_below}

module _ {S : Type 0} (seed : ℕ) (seats : List S) (jobs : List (Job S)) where
  abbrev seat_of : Job S → S
  seat_of job = job.seat

  abbrev seed_in : Job S → ℕ
  seed_in job = job.seed

  module _ (of : map seat_of jobs ≡ seats) (seeds : map seed_in jobs ≡ map (seed_of seed) (range_with_len 0 (length jobs))) where
    -- a job by its place
    pub job_at : (p : ℕ) (job : Job S) → p < length jobs → job ≡ slice_index_or jobs p job → IsJobOf seats seed p job
    job_at p job below here = (
      subst (λ l. slice_get l p ≡ Some job.seat) of (slice_get-map seat_of jobs p job (slice_get-index jobs p job below ∙ ap Some (sym here))),
      of_place seed_in (seed_of seed) (length jobs) jobs seeds p job below here,
    )

    -- each result is that of the job at its place
    pub jobs_done : {T E : Type 0} (Gives : Job S → Result T E → Type 0) (results : List (Result T E)) (done : List T) → results ≡ map Ok done → length results ≡ length jobs
        → ((p : ℕ) (d : Result T E) → p < length jobs → (job : Job S) × (job ≡ slice_index_or jobs p job) × Gives job (slice_index_or results p d))
        → AreJobsDone (λ job one. Gives job (Ok one)) seats seed done
    jobs_done {T} {E} Gives results done are count given = record {
      many = sym (length-map {B = Result T E} done Ok) ∙ ap length (sym are) ∙ count ∙ sym (length-map jobs seat_of) ∙ ap length of;
      each = λ p one at.
          let result : slice_get results p ≡ Some (Ok one) = ap (λ l. slice_get l p) are ∙ slice_get-map Ok done p one at in
          let below : p < length results = at_below results p (Ok one) result in
          let within : p < length jobs = omega (arith, below, count) in
          let its = given p (Ok one) within in
          let here : slice_index_or results p (Ok one) ≡ Ok one = (let e = sym (slice_get-index results p (Ok one) below) ∙ result in cc) in
          (its.0, job_at p its.0 within its.1, subst (Gives its.0) here its.2);
    }

-- the jobs of the first seats, none of which has made a call, are all done
pub all_jobs_done : {S T C : Type 0} (HasMade : (p : ℕ) → List T → S → Type 0) (asks : T → C) (read : ℕ → C) (threads calls seed : ℕ) (seats : List S) (done : List (Done S T))
    → length seats ≡ threads → ((p : ℕ) (seat : S) → slice_get seats p ≡ Some seat → HasMade p [] seat)
    → AreJobsDone (λ (job : Job S) (one : Done S T). (p : ℕ) → HasMade p [] job.seat → IsDone HasMade asks read calls job.seed p one) seats seed done
    → AreDone HasMade asks read threads calls seed done
all_jobs_done HasMade asks read threads calls seed seats done many fresh are = record {
  many = are.many ∙ many;
  each = λ p one at.
      let its = are.each p one at in
      subst (λ s. IsDone HasMade asks read calls s p one) its.1.1 (its.2 p (fresh p its.0.seat its.1.0));
}
