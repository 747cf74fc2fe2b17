-- Banks that are filled in turn, and programs that are published in turn.
use Rattle.std.proofs.Common.{◌≡◌, ◌<◌, ◌≤◌, ◌+◌, ◌∙◌, ℕ, zero, suc, Bool, true, false, List, [], ◌∷◌, ◌++◌, length, take, get_or, refl, sym, ap, subst, arith}
use Rattle.std.specs.Prelude.{All, slice_index_or}
use Rattle.std.proofs.lemmas.List.{length-append, take_more}
use Rattle.bver.specs.Justified.{AcceptedValue}
use Rattle.machine.specs.Sizes.{Maps}
use Rattle.node_parts.specs.Nodes.{first_programs}
use Rattle.node_parts.specs.declared.config.NodeConfig.{NodeConfig}
use Rattle.node_programs.specs.Histories.{entry, longer_history}
use Rattle.node_programs.specs.Published.{sizes_of}
use Rattle.node_programs.specs.declared.publishes.Publish.{Publish}
use Rattle.single_node.specs.Nodes.{SingleNodeValue}
use Rattle.job_config.specs.OwnNodes.{IsConfigOf, IsPublish, OwnNodeValue, plain_node}
use Rattle.job_nodes.specs.JobNode.{IsFreshJobNode, IsFreshOf, JobNodeValue, with_node_publish}
use Rattle.job_nodes.specs.Making.{BeginsLine, Fills, FillsOne, AreBanksFilled, IsNodeOf, with_publishes}

-- one bank more
pub fills_more : (contents : List (List ℕ)) (count : ℕ) (a b c : JobNodeValue) (bytes : List ℕ) → Fills contents count a b → FillsOne count bytes b c
    → bytes ≡ slice_index_or contents count [] → Fills contents (count + 1) a c
fills_more contents count a b c bytes all one is =
    let same : suc count ≡ count + 1 = omega arith in
    subst (λ (n : ℕ). Fills contents n a c) same (b, all, subst (λ (own : List ℕ). FillsOne count own b c) is one)

-- bytes at the beginning of a bank leave the programs
begin_programs : (covers : Bool) (number : ℕ) (bytes : List ℕ) (a b : JobNodeValue) → BeginsLine covers number bytes a b → b.programs ≡ a.programs
begin_programs true number bytes a b (journal, sets) = ap (λ (s : SingleNodeValue). s.programs) sets.set.set
begin_programs false number bytes a b same = ap (λ (s : JobNodeValue). s.programs) same

one_programs : (number : ℕ) (bytes : List ℕ) (a b : JobNodeValue) → FillsOne number bytes a b → b.programs ≡ a.programs
one_programs number [] a b same = ap (λ (s : JobNodeValue). s.programs) same
one_programs number (byte ∷ bytes) a b begins = begin_programs _ number (byte ∷ bytes) a b begins

fill_programs : (contents : List (List ℕ)) (count : ℕ) (a b : JobNodeValue) → Fills contents count a b → b.programs ≡ a.programs
fill_programs contents zero a b same = ap (λ (s : JobNodeValue). s.programs) same
fill_programs contents (suc count) a b (between, fills, one) =
    one_programs count (slice_index_or contents count []) between b one ∙ fill_programs contents count a between fills

-- a node whose banks were filled has the programs of a fresh one
filled_programs : (own : OwnNodeValue) (program : AcceptedValue) (node : JobNodeValue) → AreBanksFilled own program node → node.programs ≡ first_programs program
filled_programs own program node filled =
    fill_programs own.contents (length filled.fresh.banks) filled.fresh node filled.fills ∙ ap (λ (s : JobNodeValue). s.programs) filled.is_fresh

-- the programs of a configuration may be published at its node
pub filled_each : (own : OwnNodeValue) (program : AcceptedValue) (node : JobNodeValue) (publishes : List (ℕ × AcceptedValue)) → AreBanksFilled own program node
    → program.sizes ≡ own.sizes → publishes ≡ own.publishes → All (IsPublish own.sizes) own.publishes
    → All (IsPublish (sizes_of node.programs)) publishes
filled_each own program node publishes filled sizes is each =
    let same : own.sizes ≡ sizes_of node.programs = sym sizes ∙ ap sizes_of (sym (filled_programs own program node filled)) in
    subst (λ (l : List (ℕ × AcceptedValue)). All (IsPublish (sizes_of node.programs)) l) (sym is)
    (subst (λ (m : Maps). All (IsPublish m) own.publishes) same each)

-- and a generation is left for each
pub filled_few : (own : OwnNodeValue) (program : AcceptedValue) (node : JobNodeValue) (publishes : List (ℕ × AcceptedValue)) → AreBanksFilled own program node
    → publishes ≡ own.publishes → length own.publishes ≤ 4294967295 → length node.programs + length publishes ≤ 4294967296
filled_few own program node publishes filled is few =
    let one : length node.programs ≡ 1 = ap length (filled_programs own program node filled) in
    let count : length publishes ≡ length own.publishes = ap length is in
    omega (arith, one, count, few)

-- one publish more, after the others
pub publishes_after : (node : JobNodeValue) (publishes : List (ℕ × AcceptedValue)) (slot : ℕ) (program : AcceptedValue)
    → with_publishes node (publishes ++ (slot, program) ∷ []) ≡ with_node_publish (with_publishes node publishes) slot program
publishes_after node [] slot program = refl
publishes_after node (publish ∷ publishes) slot program = publishes_after (with_node_publish node publish.0 publish.1) publishes slot program

-- the publishes up to the next one
pub publish_next : (start : JobNodeValue) (publishes : List (ℕ × AcceptedValue)) (index : ℕ) (first d : ℕ × AcceptedValue) (now after : JobNodeValue) → index < length publishes
    → first ≡ get_or publishes index d → now ≡ with_publishes start (take index publishes) → after ≡ with_node_publish now first.0 first.1
    → after ≡ with_publishes start (take (index + 1) publishes)
publish_next start publishes index first d now after below is was done =
    done ∙ ap (λ (n : JobNodeValue). with_node_publish n first.0 first.1) was
    ∙ sym (publishes_after start (take index publishes) first.0 first.1)
    ∙ ap (λ (x : ℕ × AcceptedValue). with_publishes start (take index publishes ++ x ∷ [])) is
    ∙ ap (with_publishes start) (sym (take_more publishes index d below))

-- as many programs more
pub publishes_count : (node : JobNodeValue) (publishes : List (ℕ × AcceptedValue))
    → length (with_publishes node publishes).programs ≡ length node.programs + length publishes
publishes_count node [] = omega arith
publishes_count node (publish ∷ publishes) =
    let rest = publishes_count (with_node_publish node publish.0 publish.1) publishes in
    let one = length-append node.programs (entry publish.0 publish.1 ∷ []) in
    omega (arith, rest, one)

-- for the same maps
sizes_of_more : (programs : List Publish) (slot : ℕ) (program : AcceptedValue) → 0 < length programs → sizes_of (longer_history programs slot program) ≡ sizes_of programs
sizes_of_more [] slot program some = absurd (omega (arith, some))
sizes_of_more (first ∷ programs) slot program some = refl

pub publishes_sizes : (node : JobNodeValue) (publishes : List (ℕ × AcceptedValue)) → 0 < length node.programs
    → sizes_of (with_publishes node publishes).programs ≡ sizes_of node.programs
publishes_sizes node [] some = refl
publishes_sizes node (publish ∷ publishes) some =
    let one = length-append node.programs (entry publish.0 publish.1 ∷ []) in
    publishes_sizes (with_node_publish node publish.0 publish.1) publishes (omega (arith, one, some)) ∙ sizes_of_more node.programs publish.0 publish.1 some

-- a fresh node of that configuration is the node of the words
own_fresh : (ports : ℕ) (sizes : Maps) (config : NodeConfig) (program : AcceptedValue) (node : JobNodeValue)
    → IsConfigOf (plain_node ports sizes) config → IsFreshOf config program node → IsFreshJobNode ports program node
own_fresh ports sizes config program node is fresh = fresh ∙ rw (is.address, is.banks_are, is.ports_are) refl

-- one bank with no contents is as it was
one_unfilled : (count : ℕ) (a b : JobNodeValue) → count ≡ 1 → Fills ([] ∷ []) count a b → b ≡ a
one_unfilled zero a b is fills = fills
one_unfilled (suc zero) a b is fills = fills.2 ∙ fills.1
one_unfilled (suc (suc count)) a b is fills = absurd cc

-- the node of a configuration of which no file says anything
pub plain_fresh : (ports : ℕ) (own : OwnNodeValue) (program : AcceptedValue) (node : JobNodeValue) → own ≡ plain_node ports program.sizes
    → IsNodeOf own program node → IsFreshJobNode ports program node
plain_fresh ports own program node is made =
    let plain = subst (λ (o : OwnNodeValue). IsNodeOf o program node) is made in
    let fresh = own_fresh ports program.sizes plain.filled.config program plain.filled.fresh plain.filled.is_config plain.filled.is_fresh in
    let banks : length plain.filled.fresh.banks ≡ 1 = ap (λ (s : JobNodeValue). length s.banks) fresh in
    subst (λ (s : JobNodeValue). IsFreshJobNode ports program s) (sym (plain.published ∙ one_unfilled _ _ _ banks plain.filled.fills)) fresh
