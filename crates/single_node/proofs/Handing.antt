-- A node of one thread of which a bank's journal was handed out.
use Rattle.std.proofs.Common.{◌≡◌, ◌+◌, ◌-◌, ◌≤◌, ℕ, true, ◌&&◌, leb, eqb, ltb, List, ◌++◌, length, take, drop, Option, Some, None, set, refl, sym, ap, subst, arith, ◌∙◌, inl, inr}
use Rattle.std.specs.Prelude.{slice_get, slice_index}
use Rattle.std.proofs.lemmas.Bool.{cases_eq, and_parts}
use Rattle.std.proofs.lemmas.Bool.Decides.{nat_tests}
use Rattle.std.proofs.lemmas.List.{length-append, length-drop, length-set, length-take}
use Rattle.std.proofs.lemmas.Option.{get_or_from_slice_get}
use Rattle.std.proofs.Math.Seq.{map-set_same}
use Rattle.rmap.specs.declared.places.Place.TheVariants.{Bank}
use Rattle.bank.specs.Records.{BankValue, JournalValue, ShareValue, after_setting, covers, extent_of}
use Rattle.node_parts.specs.Applied.{share_of}
use Rattle.node_parts.specs.Pairs.{IsPaired, IsShareOf}
use Rattle.node_parts.specs.Passes.{PassValue}
use Rattle.single_node.specs.Nodes.{IsSingleNode, SingleNodeValue, covers_in, with_bank}
use Rattle.lemmas.proofs.Places.{at_other, at_written}

-- a share of a bank with the same counts
share_stays : (old new : BankValue) (port : ℕ) (share : ShareValue) → new.counts ≡ old.counts → IsShareOf old port share → IsShareOf new port share
share_stays old new port share same is =
    (is.0, subst (λ (counts : List ℕ). (ltb share.port (length counts) && eqb share.number (slice_index counts share.port)) ≡ true) (sym same) is.1)

-- a bank in the place of another with the same range and the same counts
pair_stays : (banks : List BankValue) (k : ℕ) (b new : BankValue) (h : PassValue) → slice_get banks k ≡ Some b → extent_of new ≡ extent_of b → new.counts ≡ b.counts
    → IsPaired banks h → IsPaired (set banks k new) h
pair_stays banks k b new h at extent counts paired = record {
  count = paired.count ∙ sym (length-set banks k new);
  windows = paired.windows ∙ sym (map-set_same extent_of banks k new b (extent ∙ ap extent_of (sym (get_or_from_slice_get banks k b b at))));
  shares = λ i x found. elim (cases_eq i k) [
    | inl here ↦
        let is : x ≡ new = at_written banks k i b new x at here found in
        rw (is, here) (share_stays b new h.port (share_of h (Bank k)) counts (paired.shares k b at))
    | inr other ↦ paired.shares i x (at_other banks k i new x other found)
  ];
}

-- the node with such a bank
pub node_with_bank : (s : SingleNodeValue) (k : ℕ) (b new : BankValue) → slice_get s.banks k ≡ Some b → extent_of new ≡ extent_of b → new.counts ≡ b.counts
    → IsSingleNode s → IsSingleNode (with_bank s k new)
node_with_bank s k b new at extent counts is = record {
  paired = record {
    each = λ i h found. pair_stays s.banks k b new h at extent counts (is.paired.each i h found);
    ports = is.paired.ports;
  };
  informed = is.informed;
  few_ports = is.few_ports;
  few_banks = rw (length-set s.banks k new) is.few_banks;
}

-- bytes that are set leave a bank its range
pub setting_stays : (b : BankValue) (address : ℕ) (bytes : List ℕ) (fresh : JournalValue) → covers b address (length bytes) ≡ true
    → extent_of (after_setting b address bytes fresh) ≡ extent_of b
setting_stays b address bytes fresh covered =
    let tests = and_parts (leb b.first address) (leb (address + length bytes) (b.first + length b.bytes)) covered in
    let from : b.first ≤ address = grind (arith, nat_tests) in
    let end : address + length bytes ≤ b.first + length b.bytes = grind (arith, nat_tests) in
    ap (λ (n : ℕ). (b.first, n)) (omega (arith, from, end, length-append (take (address - b.first) b.bytes ++ bytes) (drop (address - b.first + length bytes) b.bytes), length-append (take (address - b.first) b.bytes) bytes, length-take (address - b.first) b.bytes, length-drop (address - b.first + length bytes) b.bytes))

-- if that many bytes lie in a bank of that number, there is one, in which they lie
pub covered_bank : (found : Option BankValue) (address count : ℕ) → covers_in found address count ≡ true → (b : BankValue) × (found ≡ Some b) × (covers b address count ≡ true)
covered_bank None address count h = absurd cc
covered_bank (Some b) address count h = (b, refl, h)
