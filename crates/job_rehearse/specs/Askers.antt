-- Whose loads a program is asked about: initiators and keys.
use Rattle.std.specs.Prelude.{◌≡◌, ◌==◌, ◌&&◌, ◌||◌, ℕ, zero, suc, Bool, true, false, if◌then◌else◌, List, [], ◌∷◌, ◌++◌, drop, Option, Some, None, codes}
use Rattle.std.specs.List.{list_any}
use Rattle.hex.specs.Hex.{encode_upper}
use Rattle.policy_table.specs.Policies.{PolicyValue}
use Rattle.policy_table.specs.declared.port_rules.PortRule.{PortRule}
use Rattle.policy_table.specs.declared.rules.Rule.{Rule}
use Rattle.job_rehearse.specs.declared.askers.LoadInitiator.{LoadInitiator}
use Rattle.job_rehearse.specs.declared.askers.HeaderFieldValue.{HeaderFieldValue}
use Rattle.job_rehearse.specs.declared.askers.Field.{Field}
use Rattle.job_rehearse.specs.declared.askers.Field.TheVariants.{Initiator, Key}

-- what a rule wants of a field
abbrev pub wanted_field : Field → Rule → Option ℕ
wanted_field Initiator rule = rule.initiator
wanted_field Key rule = rule.key

-- the value is the one that is wanted
abbrev pub is_same_value : Option ℕ → (byte : ℕ) → Bool
is_same_value None byte = false
is_same_value (Some own) byte = own == byte

-- the rule names the value, at whatever port it is asked
abbrev pub is_wanted : Field → (byte : ℕ) → PortRule → Bool
is_wanted field byte own = is_same_value (wanted_field field own.rule) byte

-- some rule names the value
abbrev pub names : List PortRule → Field → (byte : ℕ) → Bool
names rules field byte = list_any (is_wanted field byte) rules

-- some rule names each value below that one
abbrev pub are_values_named : List PortRule → Field → (byte : ℕ) → Bool
are_values_named rules field zero = true
are_values_named rules field (suc byte) = are_values_named rules field byte && names rules field byte

-- a value that a rule names, or that is the least that none names, and means all of these
abbrev pub value_at : (byte : ℕ) → (is_named are_values_named : Bool) → List HeaderFieldValue
value_at byte is_named are_values_named = if is_named || are_values_named then record { byte = byte; is_named = is_named } ∷ [] else []

-- such values below a number, from the least on
abbrev pub values_below : List PortRule → Field → (count : ℕ) → List HeaderFieldValue
values_below rules field zero = []
values_below rules field (suc byte) =
    values_below rules field byte ++ value_at byte (names rules field byte) (are_values_named rules field byte)

-- the values of a field that some rule names, and the least that none names
unfoldable pub values_of : List PortRule → Field → List HeaderFieldValue
values_of rules field = values_below rules field 256

-- the values below a number, each for itself
abbrev pub each_below : (count : ℕ) → List HeaderFieldValue
each_below zero = []
each_below (suc byte) = each_below byte ++ value_at byte true true

-- each value of a byte
unfoldable pub each_value : List HeaderFieldValue
each_value = each_below 256

-- an initiator with each of some keys, after others
abbrev pub with_keys : (front : List LoadInitiator) → HeaderFieldValue → List HeaderFieldValue → List LoadInitiator
with_keys front initiator [] = front
with_keys front initiator (key ∷ keys) = with_keys (front ++ record { initiator = initiator; key = key } ∷ []) initiator keys

-- each of some initiators with each of some keys, after others
abbrev pub with_pairs : (front : List LoadInitiator) → (initiators keys : List HeaderFieldValue) → List LoadInitiator
with_pairs front [] keys = front
with_pairs front (initiator ∷ initiators) keys = with_pairs (with_keys front initiator keys) initiators keys

-- of a table: each initiator and each key that a rule names, and the least that none names
abbrev pub table_askers : List PortRule → List LoadInitiator
table_askers rules = with_pairs [] (values_of rules Initiator) (values_of rules Key)

-- a value that means only itself
abbrev pub just : (byte : ℕ) → HeaderFieldValue
just byte = record { byte = byte; is_named = true }

-- of a program that is of no table: each initiator with key 00, and initiator 67 (103) with each other key
abbrev pub every_asker : List LoadInitiator
every_asker = with_keys (with_pairs [] each_value (just 0 ∷ [])) (just 103) (drop 1 each_value)

-- whose loads the program of a policy is asked about: that of a table, if it is of one
abbrev pub askers_of : Option PolicyValue → List LoadInitiator
askers_of None = every_asker
askers_of (Some policy) = table_askers policy.rules

-- a value in two digits, or `*` if it means all that no rule names
abbrev pub value_text : HeaderFieldValue → List ℕ
value_text value = if value.is_named then encode_upper (value.byte ∷ []) else codes "*"

-- the words of an initiator and a key that are written so
abbrev pub asker_words : (initiator key : List ℕ) → List ℕ
asker_words initiator key = codes " initiator " ++ initiator ++ codes " key " ++ key

-- the words of an initiator and a key
abbrev pub asker_text : LoadInitiator → List ℕ
asker_text asker = asker_words (value_text asker.initiator) (value_text asker.key)
