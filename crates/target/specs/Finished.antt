-- How a judged command ends at a bank with its chain.
use Rattle.std.specs.Prelude.{◌≡◌, ℕ, List, [], ◌∷◌, ◌++◌, true, false, IfSome, IfNone}
use mathlib.Core.List.{IsPrefix}
use Rattle.bank.specs.declared.bank.Applied.{Applied}
use Rattle.bank.specs.Records.{ShareValue, JudgedValue, entry_of}
use Rattle.node_programs.specs.declared.publishes.Publish.{Publish}
use Rattle.node_parts.specs.Passes.{PassValue}
use Rattle.node_parts.specs.Applied.{share_of, with_share}
use Rattle.annals.specs.declared.deed.Act.TheVariants.{Leaves}
use Rattle.annals.specs.declared.deed.HistoryEntry.{HistoryEntry}
use Rattle.annals.specs.Chains.{Due}
use Rattle.annals.specs.Banks.{KeptValue, IsAppliedTo, IsDoneAtBank, IsRefusedAt, takes}
use Rattle.annals.specs.Publishes.{publishes_of}

-- the command was done at the bank, and those publishes are in the history before it
pub record IsDoneAfter (programs : List Publish) (bank : ℕ) (known reached : List HistoryEntry) (share : ShareValue)
    (judged : JudgedValue) (result : Applied) (bytes : List ℕ) : Type 0 where
  pub done : IsDoneAtBank bank known reached share judged result bytes
  pub published : IsPrefix programs (publishes_of done.last.before)

-- How a judged command ends at a bank with its chain, by the port's own share of it. It is applied if the bank takes
-- it, else refused. Of the port only that share changes. If it leaves an entry, that is the last of the history that
-- the port then knows, after all publishes that the port knew.
pub record IsFinishedAt (old new : KeptValue) (known reached : List HistoryEntry) (holder after : PassValue)
    (judged : JudgedValue) (result : Applied) (bytes : List ℕ) : Type 0 where
  pub share : ShareValue
  pub shares : after ≡ with_share holder judged.place share
  pub applied : takes old (share_of holder judged.place) judged ≡ true
      → IsAppliedTo old.bank new.bank (share_of holder judged.place) share judged result bytes
  pub refused : takes old (share_of holder judged.place) judged ≡ false
      → IsRefusedAt old new (share_of holder judged.place) share judged result bytes
  pub done : IfSome result.number
      (λ n. IsDoneAfter holder.programs old.chain.number known reached (share_of holder judged.place) judged result bytes)
  pub none : IfNone result.number (reached ≡ known)

-- If a command left an entry at the bank, its port asked for that, after what it asked for before. Else it asked for
-- nothing.
pub record AsksForEntry (bank : ℕ) (holder : PassValue) (judged : JudgedValue) (result : Applied) (asked after : List Due) :
    Type 0
  where
    pub entry : IfSome result.number
        (λ n. after ≡ asked ++ (bank, Leaves (entry_of (share_of holder judged.place) judged result.status)) ∷ [])
    pub nothing : IfNone result.number (after ≡ asked)
