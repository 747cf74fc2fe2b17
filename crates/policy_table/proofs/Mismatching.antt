-- A rule has no mismatch exactly if its conditions hold.
use Rattle.std.specs.Prelude.{◌==◌, ◌&&◌, if◌then◌else◌, is_none, option_map}
use Rattle.std.specs.Option.{option_or}
use Rattle.std.proofs.Common.{◌≡◌, ℕ, Bool, true, false, Option, Some, None, refl, ap, ◌∙◌, nat_le}
use Rattle.machine.specs.Memory.{Header}
use Rattle.rmap.specs.Command.{CommandValue, key_of, initiator_of, extended_of, address_of, command_kind}
use Rattle.policy_table.specs.Meaning.{agrees, fields_of, agrees_with_kind, holds, last_address_of, lies_between}
use Rattle.policy_table.specs.Mismatches.{mismatch, mismatch_of, other_byte, range_mismatch, unless_mismatch}
use Rattle.policy_table.specs.declared.mismatches.Mismatch.{Mismatch}
use Rattle.policy_table.specs.declared.mismatches.Mismatch.TheVariants.{Kind, Key, Initiator, Extended, Low, High}
use Rattle.policy_table.specs.declared.mismatches.OtherByte.{OtherByte}
use Rattle.policy_table.specs.declared.rules.Rule.{Rule}

-- one test before others
test_first : (t : Bool) (reported : Mismatch) (rest : Option Mismatch) → is_none (option_or (unless_mismatch t reported) rest) ≡ (t && is_none rest)
test_first true reported rest = refl
test_first false reported rest = refl

byte_if : (t : Bool) (bytes : OtherByte) (made : OtherByte → Mismatch) (rest : Option Mismatch)
    → is_none (option_or (option_map made (if t then None else Some bytes)) rest) ≡ (t && is_none rest)
byte_if true bytes made rest = refl
byte_if false bytes made rest = refl

byte_first : (wanted : Option ℕ) (given : ℕ) (made : OtherByte → Mismatch) (rest : Option Mismatch)
    → is_none (option_or (option_map made (other_byte wanted given)) rest) ≡ (agrees wanted given && is_none rest)
byte_first None given made rest = refl
byte_first (Some wanted) given made rest = byte_if (given == wanted) (record { wanted = wanted; given = given }) made rest

alone : (t : Bool) (reported : Mismatch) → is_none (unless_mismatch t reported) ≡ t
alone true reported = refl
alone false reported = refl

-- five tests, nested and in a row
in_a_row : (a b c d e : Bool) → (a && (b && (c && (d && e)))) ≡ (a && b && c && d && e)
in_a_row false b c d e = refl
in_a_row true false c d e = refl
in_a_row true true false d e = refl
in_a_row true true true d e = refl

none_between : (low high : ℕ) (c : CommandValue) → is_none (range_mismatch low high c) ≡ lies_between low high c
none_between low high c =
    test_first (nat_le low (address_of c)) (Low low (address_of c)) (unless_mismatch (nat_le (last_address_of c) high) (High high (last_address_of c)))
    ∙ ap (λ (t : Bool). nat_le low (address_of c) && t) (alone (nat_le (last_address_of c) high) (High high (last_address_of c)))

none_of : (rule : Rule) (c : CommandValue)
    → is_none (mismatch_of rule c)
    ≡ (agrees_with_kind rule.kind (command_kind c) && agrees rule.key (key_of c) && agrees rule.initiator (initiator_of c) && agrees rule.extended (extended_of c) && lies_between rule.low rule.high c)
none_of rule c =
    let kind : Bool = agrees_with_kind rule.kind (command_kind c) in
    let key : Bool = agrees rule.key (key_of c) in
    let initiator : Bool = agrees rule.initiator (initiator_of c) in
    let extended : Bool = agrees rule.extended (extended_of c) in
    let range : Option Mismatch = range_mismatch rule.low rule.high c in
    let by_extended : Option Mismatch = option_or (option_map Extended (other_byte rule.extended (extended_of c))) range in
    let by_initiator : Option Mismatch = option_or (option_map Initiator (other_byte rule.initiator (initiator_of c))) by_extended in
    let by_key : Option Mismatch = option_or (option_map Key (other_byte rule.key (key_of c))) by_initiator in
    test_first kind (Kind rule.kind (command_kind c)) by_key
    ∙ ap (λ (t : Bool). kind && t) (byte_first rule.key (key_of c) Key by_initiator)
    ∙ ap (λ (t : Bool). kind && (key && t)) (byte_first rule.initiator (initiator_of c) Initiator by_extended)
    ∙ ap (λ (t : Bool). kind && (key && (initiator && t))) (byte_first rule.extended (extended_of c) Extended range)
    ∙ ap (λ (t : Bool). kind && (key && (initiator && (extended && t)))) (none_between rule.low rule.high c)
    ∙ in_a_row kind key initiator extended (lies_between rule.low rule.high c)

pub none_holds : (rule : Rule) (header : Header) → is_none (mismatch rule header) ≡ holds rule header
none_holds rule header = none_of rule (fields_of header)
