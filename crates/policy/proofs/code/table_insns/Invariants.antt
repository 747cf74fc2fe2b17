use Rattle.std.proofs.Common.{◌≡◌, ◌++◌, drop}
use Rattle.policy.specs.Code.{rules_code, table_code}
use Rattle.policy.proofs.code.table_insns.Given as goal

-- after the instructions come those of the rules that are left
abbrev pub invariant-loop-own : goal.invariant-loop-own
invariant-loop-own l = l.insns.items ++ rules_code (drop l.own-index l.rules) ≡ table_code l.rules
