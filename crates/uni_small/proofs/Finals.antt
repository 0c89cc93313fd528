-- What a board tells of processes that have no call pending.
use Rattle.uni_small.proofs.Vocabulary.{Board, Contains, Image, IsBoard, IsClosed, HasHistory, IsOrdered, List, ProcessReturned, Sequential, Sizes, ap, refl, sym, ℕ, ◌∙◌, ◌≡◌, ◌≤◌}
use Rattle.uni_small.specs.Final.{IsVersion}
use Rattle.uni_small.proofs.Images.{reached_from}

module _ (object : Sequential (List ℕ) (List ℕ) (List ℕ)) (sizes : Sizes) (g : Board) (board : IsBoard object sizes g) where
  -- a process whose calls these are, with no other one begun
  pub record IsDone (its : ProcessReturned) : Type 0 where
    pub closed : IsClosed g its.process its.calls
    pub after : ℕ
    pub ordered : IsOrdered object g.atomic.agreed g.calls_in_version g.version its.process after its.calls

  pub final_of : (known : List ProcessReturned) → ((its : ProcessReturned) → Contains known its → IsDone its) → (state : List ℕ) → g.image.state ≡ state → HasHistory object sizes.processes known state
  final_of known done state is = record {
    acts = g.acts;
    atomic = g.atomic;
    accepted = board.history;
    linearized = (g.acts, g.atomic, refl, board.history, refl);
    inside = λ c has. (board.agreed c has).0;
    state = sym (reached_from object _ g.atomic.agreed) ∙ ap (λ (i : Image). i.state) board.image ∙ is;
    own = λ its has. (done its has).closed.acts;
    calls_in_version = g.calls_in_version;
    rising = board.rising;
    stand = λ its has. (done its has).ordered.stand;
  }

  pub acts_of_final : (known : List ProcessReturned) (done : (its : ProcessReturned) → Contains known its → IsDone its) (state : List ℕ) (is : g.image.state ≡ state) → (final_of known done state is).acts ≡ g.acts
  unfolding final_of
  acts_of_final known done state is = refl

  -- the present version, or one that has not come
  pub version_has : (known : List ProcessReturned) → ((its : ProcessReturned) → Contains known its → IsDone its) → (state : List ℕ) → g.image.state ≡ state
      → (version : ℕ) → g.version ≤ version → IsVersion object sizes.processes known version state
  unfolding final_of
  version_has known done state is version from = record { history = final_of known done state is; all_in = board.counted version from }
