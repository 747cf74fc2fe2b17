use Rattle.std.proofs.Common.{◌≡◌, ◌+◌, ◌++◌, ◌∷◌, [], ℕ, List, inl, inr, length, get_or, refl, sym, ap, subst, ◌∙◌, arith, rules, length-append}
use Rattle.std.proofs.lemmas.Bool.{cases_lt}
use Rattle.std.proofs.lemmas.List.{get_or_append_left, get_or-append-add, length-map}
use Rattle.std.specs.List.{All}
use Rattle.std.proofs.lemmas.List.Elements.{All-tail}
use Rattle.bank.specs.Records.{BankValue}
use Rattle.annals.specs.Banks.{IsFresh, KeptValue}
use Rattle.target.specs.Nodes.{AreInPlace}
use Rattle.target.specs.Unshared.{banks_of, chain_numbers}
use Rattle.target.proofs.unshared.kept_banks.Goals as goal

-- one more with the next number
numbered_more : (xs : List ℕ) (x : ℕ) → AreInPlace xs → x ≡ length xs → AreInPlace (xs ++ x ∷ [])
numbered_more xs x are is = λ k below.
    elim (cases_lt k (length xs)) [
      | inl low ↦ get_or_append_left xs (x ∷ []) 0 k low ∙ are k low
      | inr high ↦
          let last : k ≡ length xs + 0 = omega (arith, below, high, length-append xs (x ∷ [])) in
          let whole : length xs ≡ k = omega (arith, last) in
          ap (λ (i : ℕ). get_or (xs ++ x ∷ []) i 0) last ∙ get_or-append-add xs (x ∷ []) 0 0 ∙ is ∙ whole
    ]

numbers_more : (kept : List KeptValue) (one : KeptValue) → chain_numbers (kept ++ one ∷ []) ≡ chain_numbers kept ++ one.chain.number ∷ []
numbers_more [] one = refl
numbers_more (k ∷ kept) one = ap (λ (l : List ℕ). k.chain.number ∷ l) (numbers_more kept one)

banks_more : (kept : List KeptValue) (one : KeptValue) (bank : BankValue) (left : List BankValue) → one.bank ≡ bank → banks_of (kept ++ one ∷ []) ++ left ≡ banks_of kept ++ bank ∷ left
banks_more [] one bank left is = ap (λ (b : BankValue). b ∷ left) is
banks_more (k ∷ kept) one bank left is = ap (λ (l : List BankValue). k.bank ∷ l) (banks_more kept one bank left is)

-- the next has its number, and its bank comes from those that are left
kept_numbers : (kept all : List KeptValue) (one : KeptValue) → all ≡ kept ++ one ∷ [] → AreInPlace (chain_numbers kept) → one.chain.number ≡ length kept → AreInPlace (chain_numbers all)
kept_numbers kept all one is are next =
    let whole : chain_numbers all ≡ chain_numbers kept ++ one.chain.number ∷ [] = ap chain_numbers is ∙ numbers_more kept one in
    subst AreInPlace (sym whole) (numbered_more (chain_numbers kept) one.chain.number are (next ∙ sym (length-map kept (λ (k : KeptValue). k.chain.number))))

kept_banks : (kept all : List KeptValue) (one : KeptValue) (bank : BankValue) (before left : List BankValue) → all ≡ kept ++ one ∷ [] → before ≡ bank ∷ left → one.bank ≡ bank
    → banks_of all ++ left ≡ banks_of kept ++ before
kept_banks kept all one bank before left is steps same =
    ap (λ (l : List KeptValue). banks_of l ++ left) is ∙ banks_more kept one bank left same ∙ ap (λ (l : List BankValue). banks_of kept ++ l) (sym steps)

pub loop-bank-preserved : goal.loop-bank-preserved
loop-bank-preserved g c =
    let next = c.in-Some-new.ensures.number ∙ sym c.loop-bank.invariant.count in
    record {
      all = search rules;
      few = c.loop-bank.invariant.few;
      count = search rules;
      numbers = kept_numbers c.loop-bank.all.items _ _ c.in_ok-push.ensures.items c.loop-bank.invariant.numbers next;
      banks = kept_banks _ _ _ _ _ _ c.in_ok-push.ensures.items c.in-Some.ensures.steps.0 c.in-Some-new.ensures.bank ∙ c.loop-bank.invariant.banks;
      family = search rules;
      chains = search rules;
      book = search rules;
      fresh = All-tail IsFresh c.in-Some.bank _ (subst (All IsFresh) c.in-Some.ensures.steps.0 c.loop-bank.invariant.fresh);
    }
