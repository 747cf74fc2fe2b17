-- The images of publishes, looked at one after the other, and how many banks a node has.
use Rattle.std.proofs.Common.{◌≡◌, ◌≤◌, ◌<◌, ◌+◌, ◌∙◌, ◌∷◌, ℕ, List, true, drop, get_or, length, refl, ap, sym, subst}
use Rattle.std.specs.Prelude.{nat_le}
use Rattle.std.specs.List.{list_all}
use Rattle.std.proofs.lemmas.Bool.{leb-true, and_parts}
use Rattle.std.proofs.lemmas.List.{drop_all, drop_more}
use Rattle.bpf.specs.Program.{Program}
use Rattle.node_parts.specs.Nodes.{are_within, is_within}
use Rattle.node_parts.specs.declared.config.BankConfig.{BankConfig}
use Rattle.bver.specs.Justified.{AcceptedValue}
use Rattle.job_node_file.specs.Images.{AreGreatest, AreLargest, IsSizeOf, larger}
use Rattle.job_node_file.specs.declared.images.ImageSize.{ImageSize}

-- banks that a node may have are at most eight
pub at_most_eight : (banks : List BankConfig) → are_within banks ≡ true → length banks ≤ 8
at_most_eight banks h =
    leb-true (length banks) 8 (and_parts (nat_le 1 (length banks)) _ (and_parts _ (list_all is_within banks) h).0).1

module _ (p : Program) (publishes : List (ℕ × AcceptedValue)) where
  -- what these most become with the publishes from one on is the most of all
  abbrev pub GoOn : (index : ℕ) (most : ImageSize) → Type 0
  GoOn index most = (end : ImageSize) → AreGreatest most (drop index publishes) end → AreLargest p publishes end

  -- at first
  pub begins : (own : ImageSize) → IsSizeOf p own → GoOn 0 own
  begins own is = λ end are. record { own = own; is = is; with_publishes = are }

  -- the next publish
  pub goes_on : (index : ℕ) (most size next : ImageSize) (default publish : ℕ × AcceptedValue) → index < length publishes
      → publish ≡ get_or publishes index default → IsSizeOf publish.1.program size → next ≡ larger most size → GoOn index most → GoOn (index + 1) next
  goes_on index most size next default publish in_list at_publish is next_is so_far = λ end are.
      let first : drop index publishes ≡ publish ∷ drop (index + 1) publishes =
      drop_more publishes index default in_list ∙ ap (λ (p : ℕ × AcceptedValue). p ∷ drop (index + 1) publishes) (sym at_publish) in
      let rest : AreGreatest (larger most size) (drop (index + 1) publishes) end =
      subst (λ (m : ImageSize). AreGreatest m (drop (index + 1) publishes) end) next_is are in
      let step : AreGreatest most (publish ∷ drop (index + 1) publishes) end = (size, is, rest) in
      so_far end (subst (λ (l : List (ℕ × AcceptedValue)). AreGreatest most l end) (sym first) step)

  -- after all
  pub ends : (index : ℕ) (most : ImageSize) → length publishes ≤ index → GoOn index most → AreLargest p publishes most
  ends index most past so_far =
      so_far most (subst (λ (l : List (ℕ × AcceptedValue)). AreGreatest most l most) (sym (drop_all index publishes past)) refl)
