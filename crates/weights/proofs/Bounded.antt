-- The weight of a justified program by costs is never so large that it is cut, and what the classes weigh together.
use Rattle.std.proofs.Common.{◌≡◌, ℕ, zero, suc, ◌+◌, ◌*◌, ◌≤◌, List, [], ◌∷◌, Option, None, Some, refl, arith}
use Rattle.bpf.specs.declared.loops.Loop.{Loop}
use Rattle.bpf.specs.Program.{Program, IsProgram}
use Rattle.bpf.specs.Weight.{saturated_weight, times_at, weight_from, weight_of}
use Rattle.bpf_insn.specs.declared.insn.Insn.{Insn}
use Rattle.bpf_insn.specs.declared.insn.Insn.TheVariants.{Alu, Negate, MoveSigned, ByteSwap, Load, Store, Jump, Goto, Wide, LoadMap, LoadAddress, Call, Exit}
use Rattle.bpf_parts.specs.declared.operation.AluOp.{AluOp}
use Rattle.bpf_parts.specs.declared.operation.AluOp.TheVariants.{Add, Sub, Mul, Div, SignedDiv, Or, And, Lsh, Rsh, Mod, SignedMod, Xor, Mov, Arsh}
use Rattle.bver_form.specs.Costs.{weight_by, weight_by_from}
use Rattle.bver_form.specs.Form.{IsFormed}
use Rattle.weights.specs.Classes.{cost_by, cost_of_operation, costs}
use Rattle.weights.specs.declared.costs.Costs.{Costs}

-- ---- what each instruction costs

pub small_operation : (c : Costs) (m : ℕ) → c.division ≤ m → c.rest ≤ m → (op : AluOp) → cost_of_operation c op ≤ m
small_operation c m division rest Div = division
small_operation c m division rest SignedDiv = division
small_operation c m division rest Mod = division
small_operation c m division rest SignedMod = division
small_operation c m division rest Add = rest
small_operation c m division rest Sub = rest
small_operation c m division rest Mul = rest
small_operation c m division rest Or = rest
small_operation c m division rest And = rest
small_operation c m division rest Lsh = rest
small_operation c m division rest Rsh = rest
small_operation c m division rest Xor = rest
small_operation c m division rest Mov = rest
small_operation c m division rest Arsh = rest

pub small_cost : (c : Costs) (m : ℕ) → c.division ≤ m → c.call ≤ m → c.jump ≤ m → c.rest ≤ m → (insn : Insn) → cost_by c insn ≤ m
small_cost c m division call jump rest (Alu op width dst src) = small_operation c m division rest op
small_cost c m division call jump rest (Call callee number) = call
small_cost c m division call jump rest (Jump comparison offset) = jump
small_cost c m division call jump rest (Negate width dst) = rest
small_cost c m division call jump rest (MoveSigned extension dst src) = rest
small_cost c m division call jump rest (ByteSwap swap bits dst) = rest
small_cost c m division call jump rest (Load size dst place) = rest
small_cost c m division call jump rest (Store size place src) = rest
small_cost c m division call jump rest (Goto distance) = rest
small_cost c m division call jump rest (Wide dst value) = rest
small_cost c m division call jump rest (LoadMap dst index) = rest
small_cost c m division call jump rest (LoadAddress dst address) = rest
small_cost c m division call jump rest Exit = rest

-- ---- products

add_times : (a b m : ℕ) → (a + b) * m ≡ a * m + b * m
add_times zero b m = omega arith
add_times (suc a) b m = omega (arith, add_times a b m)

times_less : (a c m : ℕ) → c ≤ m → a * c ≤ a * m
times_less zero c m h = omega arith
times_less (suc a) c m h = omega (arith, times_less a c m h)

-- ---- the weight

module _ (cost : Insn → ℕ) (m : ℕ) (each : (insn : Insn) → cost insn ≤ m) (ls : List Loop) where
  -- if no instruction costs more than a number, they all cost at most the weight times that
  at_most : (i : ℕ) (xs : List (Option Insn)) → weight_by_from cost ls i xs ≤ weight_from ls i xs * m
  unfolding weight_by_from weight_from
  at_most i [] = omega arith
  at_most i (None ∷ xs) = omega (arith, at_most (i + 1) xs, add_times 0 (weight_from ls (i + 1) xs) m)
  at_most i (Some insn ∷ xs) = omega (arith, at_most (i + 1) xs, add_times (times_at ls i) (weight_from ls (i + 1) xs) m, times_less (times_at ls i) (cost insn) m (each insn))

-- so it is not cut at 2^64 - 1
pub is_exact : (c : Costs) (p : Program) → IsProgram p → IsFormed p → ((insn : Insn) → cost_by c insn ≤ 4294967295) → saturated_weight (weight_by (cost_by c) p) ≡ weight_by (cost_by c) p
is_exact c p limits formed each =
    omega (arith, at_most (cost_by c) 4294967295 each p.loops 0 p.slots, formed.within_budget, limits.budget.1)

-- ---- the classes together

one_operation : (op : AluOp) → cost_of_operation (costs 1 0 0 0) op + cost_of_operation (costs 0 1 0 0) op + cost_of_operation (costs 0 0 1 0) op + cost_of_operation (costs 0 0 0 1) op ≡ 1
one_operation Div = refl
one_operation SignedDiv = refl
one_operation Mod = refl
one_operation SignedMod = refl
one_operation Add = refl
one_operation Sub = refl
one_operation Mul = refl
one_operation Or = refl
one_operation And = refl
one_operation Lsh = refl
one_operation Rsh = refl
one_operation Xor = refl
one_operation Mov = refl
one_operation Arsh = refl

-- each instruction is of one class
one_class : (insn : Insn) → cost_by (costs 1 0 0 0) insn + cost_by (costs 0 1 0 0) insn + cost_by (costs 0 0 1 0) insn + cost_by (costs 0 0 0 1) insn ≡ 1
one_class (Alu op width dst src) = one_operation op
one_class (Call callee number) = refl
one_class (Jump comparison offset) = refl
one_class (Negate width dst) = refl
one_class (MoveSigned extension dst src) = refl
one_class (ByteSwap swap bits dst) = refl
one_class (Load size dst place) = refl
one_class (Store size place src) = refl
one_class (Goto distance) = refl
one_class (Wide dst value) = refl
one_class (LoadMap dst index) = refl
one_class (LoadAddress dst address) = refl
one_class Exit = refl

-- so often, of each class
shared : (t a b c d : ℕ) → a + b + c + d ≡ 1 → t * a + t * b + t * c + t * d ≡ t
shared zero a b c d h = omega arith
shared (suc t) a b c d h = omega (arith, shared t a b c d h)

together : (ls : List Loop) (i : ℕ) (xs : List (Option Insn)) → weight_by_from (cost_by (costs 1 0 0 0)) ls i xs + weight_by_from (cost_by (costs 0 1 0 0)) ls i xs + weight_by_from (cost_by (costs 0 0 1 0)) ls i xs + weight_by_from (cost_by (costs 0 0 0 1)) ls i xs ≡ weight_from ls i xs
unfolding weight_by_from weight_from
together ls i [] = refl
together ls i (None ∷ xs) = omega (arith, together ls (i + 1) xs)
together ls i (Some insn ∷ xs) = omega (arith, together ls (i + 1) xs, shared (times_at ls i) (cost_by (costs 1 0 0 0) insn) (cost_by (costs 0 1 0 0) insn) (cost_by (costs 0 0 1 0) insn) (cost_by (costs 0 0 0 1) insn) (one_class insn))

pub are_together : (p : Program) → weight_by (cost_by (costs 1 0 0 0)) p + weight_by (cost_by (costs 0 1 0 0)) p + weight_by (cost_by (costs 0 0 1 0)) p + weight_by (cost_by (costs 0 0 0 1)) p ≡ weight_of p
are_together p = together p.loops 0 p.slots
