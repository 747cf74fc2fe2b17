-- What a handle of a node holds, and what a call does to its node.
use Rattle.std.specs.Prelude.{◌≡◌, ◌⊎◌, ℕ, Option, None, Some}
use Rattle.scrub.specs.Guarded.{GuardedValue}
use Rattle.single_node.specs.Nodes.{SingleNodeValue}
use Rattle.single_node_c.specs.declared.codes.TheConstants.{OK, NO_MEMORY, NO_NODE}

-- What is in `live` of a handle that holds a node. It is not 1, so that memory that was never set to zeros hardly
-- passes for one.
abbrev pub mark : ℕ
mark = 937

-- ---- what a call does

-- The code of a call that takes memory. It is that of the first test that fails. If all hold, the call is done, or
-- memory was refused.
abbrev pub IsCallCode : (test : Option ℕ) → (code : ℕ) → Type 0
IsCallCode (Some fault) code = code ≡ fault
IsCallCode None code = (code ≡ OK) ⊎ (code ≡ NO_MEMORY)

-- The first test that fails of a call on the node of a handle and what is kept of it. The first is that there is one,
-- then come its own.
abbrev pub guarded_test : Option GuardedValue → (GuardedValue → Option ℕ) → Option ℕ
guarded_test None test = Some NO_NODE
guarded_test (Some guarded) test = test guarded

-- the same, if the tests are only those of the node
abbrev pub test_on : Option GuardedValue → (SingleNodeValue → Option ℕ) → Option ℕ
test_on None test = Some NO_NODE
test_on (Some guarded) test = test guarded.node

-- the code of a call on the node of a handle that takes no memory
abbrev pub code_on : Option GuardedValue → (SingleNodeValue → ℕ) → ℕ
code_on None code = NO_NODE
code_on (Some guarded) code = code guarded.node

-- what a call reports of the node of a handle, if it holds one
abbrev pub IfNode : Option GuardedValue → (SingleNodeValue → Type 0) → Type 0
IfNode None Reports = Unit {0}
IfNode (Some guarded) Reports = Reports guarded.node

-- the handle held a node and holds one, which are in that relation, with what is kept of its programs
abbrev pub BecomesGuarded : (GuardedValue → GuardedValue → Type 0) → (old new : Option GuardedValue) → Type 0
BecomesGuarded Relates None new = ⊥
BecomesGuarded Relates (Some before) None = ⊥
BecomesGuarded Relates (Some before) (Some after) = Relates before after

-- the nodes are in that relation, and what is kept of their programs is the same
abbrev pub AreNodesBeside : (SingleNodeValue → SingleNodeValue → Type 0) → (before after : GuardedValue) → Type 0
AreNodesBeside Relates before after = Relates before.node after.node × (after ≡ record before { node = after.node })

-- The handle held a node and holds one, which are in that relation. What is kept of its programs stays.
abbrev pub BecomesNode : (SingleNodeValue → SingleNodeValue → Type 0) → (old new : Option GuardedValue) → Type 0
BecomesNode Relates old new = BecomesGuarded (AreNodesBeside Relates) old new
