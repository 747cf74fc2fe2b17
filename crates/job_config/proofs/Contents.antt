-- Banks that begin with bytes, one after the other.
use Rattle.std.proofs.Common.{◌≡◌, ◌≤◌, ◌<◌, ◌+◌, ◌++◌, ◌∷◌, [], ℕ, List, true, drop, take, length, get_or, nat_le, refl, ap, ◌∙◌, sym, subst, append_assoc, append-nil, le-leb}
use Rattle.std.proofs.lemmas.Bool.{and_parts}
use Rattle.std.proofs.lemmas.List.{drop_all, drop_more, take_more}
use Rattle.bver.specs.Justified.{AcceptedValue}
use Rattle.node_parts.specs.declared.config.BankConfig.{BankConfig}
use Rattle.toml.specs.Data.{Items, item}
use Rattle.toml.specs.View.{items_view, view}
use Rattle.toml.specs.declared.value.Value.{Value}
use Rattle.toml.proofs.Views.{items_view-drop}
use Rattle.job_parts.specs.Files.{ReadsFile}
use Rattle.job_config.specs.OwnNodes.{fit}
use Rattle.job_config.specs.Places.{place}
use Rattle.job_config.specs.Reads.{BeginWith, BeginsBank, HoldPublishes, HoldsPublish}
use Rattle.job_config.specs.declared.places.TableKind.TheVariants.{Bank, Publish}

-- nothing is left past the end
drop_past : {A : Type 0} (xs : List A) (n : ℕ) → length xs ≤ n → drop n xs ≡ []
drop_past xs n past = drop_all n xs past

-- one more bank has contents that fit it
pub fit_more : (banks : List BankConfig) (contents : List (List ℕ)) (bank : BankConfig) (bytes : List ℕ)
    → fit banks contents ≡ true → length bytes ≤ bank.size → fit (banks ++ bank ∷ []) (contents ++ bytes ∷ []) ≡ true
fit_more [] [] bank bytes h short = rw (le-leb (length bytes) bank.size short) refl
fit_more [] (c ∷ cs) bank bytes h short = absurd (cc h)
fit_more (b ∷ bs) [] bank bytes h short = absurd (cc h)
fit_more (b ∷ bs) (c ∷ cs) bank bytes h short =
    let (here, others) = and_parts (nat_le (length c) b.size) (fit bs cs) h in
    rw (here, fit_more bs cs bank bytes others short) refl

-- so it is after one more round
pub fit_further : (banks : List BankConfig) (contents all : List (List ℕ)) (index : ℕ) (d : BankConfig) (bytes : List ℕ)
    → index < length banks → all ≡ contents ++ bytes ∷ [] → fit (take index banks) contents ≡ true
    → length bytes ≤ (get_or banks index d).size → fit (take (index + 1) banks) all ≡ true
fit_further banks contents all index d bytes in_banks is fits short =
    rw (take_more banks index d in_banks, is) (fit_more (take index banks) contents (get_or banks index d) bytes fits short)

module _ {S : Type 0} (reads : ReadsFile S) (file : List ℕ) where
  -- what was read of the banks so far goes on by what is read of the others
  abbrev pub GoesOn : (list : List Value) (banks : List BankConfig) (index : ℕ) (before now : S) → List (List ℕ) → Type 0
  GoesOn list banks index before now contents = (others : List (List ℕ)) (after : S)
      → BeginWith reads file index (items_view (drop index list)) (drop index banks) now others after
      → BeginWith reads file 0 (items_view list) banks before (contents ++ others) after

  -- the next bank begins with its bytes
  pub goes_further : (list : List Value) (banks : List BankConfig) (index : ℕ) (before now next : S) (contents all : List (List ℕ))
      (value : Value) (d : BankConfig) (bytes : List ℕ) → index < length list → index < length banks
      → get_or list index value ≡ value → all ≡ contents ++ bytes ∷ []
      → BeginsBank reads file (place Bank index) (view value) (get_or banks index d).size now bytes next
      → GoesOn list banks index before now contents → GoesOn list banks (index + 1) before next all
  goes_further list banks index before now next contents all value d bytes in_list in_banks at_value is begins so_far = λ others after more.
      let items : items_view (drop index list) ≡ item (view value) (items_view (drop (index + 1) list)) =
      items_view-drop list index value in_list ∙ ap (λ (v : Value). item (view v) (items_view (drop (index + 1) list))) at_value in
      let rest : drop index banks ≡ get_or banks index d ∷ drop (index + 1) banks = drop_more banks index d in_banks in
      let step : BeginWith reads file index (items_view (drop index list)) (drop index banks) now (bytes ∷ others) after =
      subst (λ (i : Items). BeginWith reads file index i (drop index banks) now (bytes ∷ others) after) (sym items)
      (subst (λ (b : List BankConfig). BeginWith reads file index (item (view value) (items_view (drop (index + 1) list))) b now (bytes ∷ others) after)
      (sym rest) (next, begins, more)) in
      let whole : contents ++ bytes ∷ others ≡ all ++ others =
      sym (append_assoc contents (bytes ∷ []) others) ∙ ap (λ (c : List (List ℕ)). c ++ others) (sym is) in
      subst (λ (c : List (List ℕ)). BeginWith reads file 0 (items_view list) banks before c after) whole (so_far (bytes ∷ others) after step)

  -- all banks begin with their bytes
  pub goes_to_end : (list : List Value) (banks : List BankConfig) (index : ℕ) (before now : S) (contents : List (List ℕ))
      → length banks ≤ index → GoesOn list banks index before now contents
      → BeginWith reads file 0 (items_view list) banks before contents now
  goes_to_end list banks index before now contents past so_far =
      let none : drop index banks ≡ [] = drop_past banks index past in
      let end : BeginWith reads file index (items_view (drop index list)) (drop index banks) now [] now =
      subst (λ (b : List BankConfig). BeginWith reads file index (items_view (drop index list)) b now [] now) (sym none) (refl, refl) in
      subst (λ (c : List (List ℕ)). BeginWith reads file 0 (items_view list) banks before c now) (append-nil contents) (so_far [] now end)

  -- the same of publishes
  abbrev pub PublishesGoOn : (list : List Value) (index : ℕ) (before now : S) → List (ℕ × AcceptedValue) → Type 0
  PublishesGoOn list index before now publishes = (others : List (ℕ × AcceptedValue)) (after : S)
      → HoldPublishes reads file index (items_view (drop index list)) now others after
      → HoldPublishes reads file 0 (items_view list) before (publishes ++ others) after

  -- the next publish
  pub publishes_go_further : (list : List Value) (index : ℕ) (before now next : S) (publishes all : List (ℕ × AcceptedValue)) (value : Value)
      (publish : ℕ × AcceptedValue) → index < length list → get_or list index value ≡ value → all ≡ publishes ++ publish ∷ []
      → HoldsPublish reads file (place Publish index) (view value) now publish next
      → PublishesGoOn list index before now publishes → PublishesGoOn list (index + 1) before next all
  publishes_go_further list index before now next publishes all value publish in_list at_value is holds so_far = λ others after more.
      let items : items_view (drop index list) ≡ item (view value) (items_view (drop (index + 1) list)) =
      items_view-drop list index value in_list ∙ ap (λ (v : Value). item (view v) (items_view (drop (index + 1) list))) at_value in
      let step : HoldPublishes reads file index (items_view (drop index list)) now (publish ∷ others) after =
      subst (λ (i : Items). HoldPublishes reads file index i now (publish ∷ others) after) (sym items) (next, holds, more) in
      let whole : publishes ++ publish ∷ others ≡ all ++ others =
      sym (append_assoc publishes (publish ∷ []) others) ∙ ap (λ (l : List (ℕ × AcceptedValue)). l ++ others) (sym is) in
      subst (λ (l : List (ℕ × AcceptedValue)). HoldPublishes reads file 0 (items_view list) before l after) whole (so_far (publish ∷ others) after step)

  -- all publishes
  pub publishes_go_to_end : (list : List Value) (index : ℕ) (before now : S) (publishes : List (ℕ × AcceptedValue)) → length list ≤ index
      → PublishesGoOn list index before now publishes → HoldPublishes reads file 0 (items_view list) before publishes now
  publishes_go_to_end list index before now publishes past so_far =
      let none : drop index list ≡ [] = drop_past list index past in
      let end : HoldPublishes reads file index (items_view (drop index list)) now [] now =
      subst (λ (l : List Value). HoldPublishes reads file index (items_view l) now [] now) (sym none) refl in
      subst (λ (l : List (ℕ × AcceptedValue)). HoldPublishes reads file 0 (items_view list) before l now) (append-nil publishes) (so_far [] now end)
