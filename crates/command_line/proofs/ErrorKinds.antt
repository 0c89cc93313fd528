-- The kind of an error, by the kinds that the words have.
use Rattle.std.proofs.Common.{◌≡◌, ◌≢◌, ◌∙◌, [], inl, inr, sym, subst}
use Rattle.clap.specs.Values.{kind_of}
use Rattle.clap.specs.Words.{HasKind, IsAmong, Kinds}
use Rattle.clap.specs.declared.error.Error.{Error}
use Rattle.clap.specs.declared.error.kind.ErrorKind.{ErrorKind}
use Rattle.clap.specs.declared.error.kind.ErrorKind.TheVariants.{OutOfMemory}

-- where the words have no fault, memory was refused
pub memory_of : (kinds : Kinds) (e : Error) → HasKind kinds e → kinds ≡ [] → kind_of e ≡ OutOfMemory
memory_of kinds e has none = at (subst (λ ks. HasKind ks e) none has)
  where
    at : HasKind [] e → kind_of e ≡ OutOfMemory
    at has_none = elim has_none [
      | inl memory ↦ memory
      | inr among ↦ absurd among
    ]

-- an error has no kind that the words don't have, but for refused memory
pub not_of_kind : (kinds : Kinds) (e : Error) (kind : ErrorKind) → HasKind kinds e → OutOfMemory ≢ kind → ¬ (IsAmong kind kinds) → kind_of e ≢ kind
not_of_kind kinds e kind has other none is = elim has [
  | inl memory ↦ other (sym memory ∙ is)
  | inr among ↦ none (subst (λ k. IsAmong k kinds) is among)
]
