-- The items of a list, read one after the other.
use Rattle.std.proofs.Common.{◌≡◌, if◌then◌else◌, ◌+◌, ◌++◌, ◌∷◌, [], suc, List, Bool, true, false, length, Option, None, Some, Ok, Err, Result, refl, ap, ◌∙◌, sym, arith}
use Rattle.std.proofs.lemmas.List.{length-append}
use Rattle.node_parts.specs.declared.config.BankConfig.{BankConfig}
use Rattle.toml.specs.Data.{Data, Items, no_items, item, Members}
use Rattle.toml.specs.View.{items_view}
use Rattle.toml.specs.declared.value.Value.{Value}
use Rattle.job_config.specs.Configured.{banks_at, banks_in, count, each, list_at, next_bank}
use Rattle.job_config.specs.Faults.{◌>>=◌}
use Rattle.job_config.specs.OwnNodes.{own_bank}
use Rattle.job_config.specs.declared.faults.ConfigFault.{ConfigFault}
use Rattle.job_config.specs.declared.faults.ConfigFault.TheVariants.{BadCount}
use Rattle.job_config.specs.declared.places.TableKind.TheVariants.{Bank}

-- how many items a list of values is
pub count_view : (values : List Value) → count (items_view values) ≡ length values
count_view [] = refl
count_view (v ∷ vs) = ap suc (count_view vs)

module _ {A : Type 0} (one : List A → Data → Result A ConfigFault) where
  -- what one more item makes of the length
  next_length : (done all : List A) (items : Items) (read : Result A ConfigFault)
      → ((next : A) → each one (done ++ next ∷ []) items ≡ Ok all → length all ≡ length (done ++ next ∷ []) + count items)
      → (read >>= (λ next. each one (done ++ next ∷ []) items)) ≡ Ok all → length all ≡ length done + suc (count items)
  next_length done all items (Ok next) more h =
      let longer = more next h in
      let one_more = length-append done (next ∷ []) in
      omega (arith, longer, one_more)
  next_length done all items (Err fault) more h = absurd (cc h)

  -- what was read of a list is as long as what came before it and the list together
  pub each_length : (done all : List A) (items : Items) → each one done items ≡ Ok all → length all ≡ length done + count items
  each_length done all no_items h =
      let same : done ≡ all = cc h in
      sym (ap length same) ∙ omega arith
  each_length done all (item value items) h =
      next_length done all items (one done value) (λ next e. each_length (done ++ next ∷ []) all items e) h

-- banks of a list of tables are as many as the tables
few_banks : (test : Bool) (items : Items) (banks : List BankConfig)
    → (if test then each next_bank [] items else Err (BadCount Bank (count items))) ≡ Ok banks → length banks ≡ count items
few_banks true items banks h = each_length next_bank [] banks items h ∙ omega arith
few_banks false items banks h = absurd (cc h)

-- the same of a file
pub banks_count : (table : Members) (items : Items) (banks : List BankConfig) → list_at table Bank ≡ Ok (Some items)
    → banks_at table ≡ Ok banks → length banks ≡ count items
unfolding banks_at
banks_count table items banks listed h = few_banks _ items banks (sym (ap (λ (r : Result (Option Items) ConfigFault). r >>= banks_in) listed) ∙ h)

-- a file without banks has the one of every node
pub banks_none : (table : Members) (banks : List BankConfig) → list_at table Bank ≡ Ok None → banks_at table ≡ Ok banks
    → banks ≡ own_bank ∷ []
unfolding banks_at
banks_none table banks listed h =
    let both : Ok (own_bank ∷ []) ≡ Ok banks = sym (ap (λ (r : Result (Option Items) ConfigFault). r >>= banks_in) listed) ∙ h in
    let same : own_bank ∷ [] ≡ banks = cc both in
    sym same
