-- A node of one thread before and after a packet.
use Rattle.std.proofs.Common.{◌≡◌, ◌<◌, ◌≤◌, ℕ, List, length, Some, set, refl, sym, ap, ◌∙◌, subst, arith, inl, inr}
use Rattle.std.specs.Prelude.{map, slice_get}
use Rattle.std.specs.List.{range_with_len}
use Rattle.std.proofs.lemmas.Bool.{cases_eq}
use Rattle.std.proofs.lemmas.List.{length-map, length-set}
use Rattle.std.proofs.lemmas.List.FromFn.{get_or-map-range_with_len, length-map-range_with_len}
use Rattle.std.proofs.lemmas.Option.{get_or_from_slice_get, slice_get_within}
use base.Stored.{gnil}
use Rattle.spw.specs.Cargo.{Cargo}
use Rattle.bank.specs.Records.{BankValue}
use Rattle.bver.specs.Justified.{AcceptedValue}
use Rattle.node_programs.specs.declared.publishes.Publish.{Publish}
use Rattle.node_parts.specs.declared.config.NodeConfig.{NodeConfig}
use Rattle.node_parts.specs.declared.served.Served.{Served}
use Rattle.node_parts.specs.declared.served.Served.TheVariants.{Stopped, Unread, Done, Window}
use Rattle.node_parts.specs.Nodes.{bank_of, first_pass, first_passes, first_programs, fresh_banks, windows_of}
use Rattle.node_parts.specs.Keeping.{AnsweredAreServed, LeavesAllPaired}
use Rattle.node_parts.specs.Pairs.{MadeArePaired}
use Rattle.node_parts.specs.Passes.{PassValue}
use Rattle.node_parts.specs.Served.{PartsValue, parts}
use Rattle.single_node.specs.Judging.{ServesAt}
use Rattle.single_node.specs.Nodes.{AreUnder, IsInformed, IsSingleNode, SingleNodeValue, single_node}
use Rattle.single_node.specs.Serving.{ServesReported}
use Rattle.single_node.specs.declared.served.ServedDetail.{ServedDetail}
use Rattle.node_parts.proofs.Loadings.{prefix_same}
use Rattle.single_node.proofs.Serving.{answered, by_last, cells, informed_grows, kept_or_longer, stays_informed, reported}
use Rattle.lemmas.proofs.Places.{at_written, at_other}

-- no bank comes or goes
same_count : (served : Served) (g v : ℕ) (p : Cargo) (words following : List (List ℕ)) (old new : PartsValue) (h after : PassValue) (reply : List ℕ) → ServesAt served g v p words following old new h after reply → length new.banks ≡ length old.banks
same_count (Stopped stop) g v p words following old new h after reply s = ap (λ (x : PartsValue). length x.banks) s.untouched.node
same_count Unread g v p words following old new h after reply s = absurd s
same_count (Done result) g v p words following old new h after reply s = ap (λ (x : PartsValue). length x.banks) s.ended.node ∙ length-set old.banks s.ended.number s.ended.following
same_count (Window status) g v p words following old new h after reply s = ap length s.ended.0

-- a packet at a port leaves a node of one thread
pub node_after : AnsweredAreServed → LeavesAllPaired → (served : Served) (g v : ℕ) (p : Cargo) (before : SingleNodeValue) (banks : List BankValue) (following : List (List ℕ)) (programs : List Publish) (place : ℕ) (h after : PassValue) (reply : List ℕ)
    → IsSingleNode before → slice_get before.passes place ≡ Some h → 0 < length before.programs → ServesAt served g v p before.words following (parts before.banks before.programs) (parts banks programs) h after reply
    → IsSingleNode (single_node banks following programs (set before.passes place after))
node_after law all served g v p before banks following programs place h after reply is at some s =
    let words = before.words in
    let old = parts before.banks before.programs in
    let new = parts banks programs in
    let paired = is.paired.each place h at in
    let informed = is.informed place h at in
    let grows = (kept_or_longer served g v p words following old new h after reply s).longer in
    let by = law served p old new h after reply (answered served g v p words following old new h after reply s) paired in
    record {
      paired = all served p old new h after reply by before.passes place is.paired at;
      informed = λ i x found. elim (cases_eq i place) [
        | inl here ↦ subst (λ (y : PassValue). IsInformed programs y) (sym (at_written before.passes place i h after x at here found)) (stays_informed served g v p words following old new h after reply some s informed)
        | inr apart ↦ informed_grows before.programs programs x some grows (is.informed i x (at_other before.passes place i after x apart found))
      ];
      few_ports = rw (length-set before.passes place after) is.few_ports;
      few_banks = rw (same_count served g v p words following old new h after reply s) is.few_banks;
    }

-- what a packet does at a port is what it does at the node
pub serves_of : (t : ServedDetail) (p : Cargo) (before : SingleNodeValue) (banks : List BankValue) (following : List (List ℕ)) (programs : List Publish) (port place : ℕ) (h after : PassValue) (reply : List ℕ)
    → place ≡ port → slice_get before.passes place ≡ Some h → ServesAt t.served t.generation t.verdict p before.words following (parts before.banks before.programs) (parts banks programs) h after reply
    → ServesReported t port p before (single_node banks following programs (set before.passes place after)) reply
serves_of t p before banks following programs port place h after reply same at s =
    let words = before.words in
    let old = parts before.banks before.programs in
    let new = parts banks programs in
    let g = t.generation in
    let v = t.verdict in
    record {
      serves = record {
        holder = h;
        left = after;
        own = subst (λ (k : ℕ). slice_get before.passes k ≡ Some h) same at;
        others = ap (λ (k : ℕ). set before.passes k after) same;
        answered = answered t.served g v p words following old new h after reply s;
        cells = cells t.served g v p words following old new h after reply s;
        by_last = by_last t.served g v p words following old new h after reply s;
        programs = kept_or_longer t.served g v p words following old new h after reply s;
      };
      reports = reported t.served g v p words following old new h after reply s;
    }

-- what is at a place of a list that is made by number
numbered_at : {A : Type 0} (f : ℕ → A) (count k : ℕ) (x : A) → slice_get (map f (range_with_len 0 count)) k ≡ Some x → x ≡ f k
numbered_at f count k x at =
    let below : k < count = rw (← length-map-range_with_len f 0 count) (slice_get_within (map f (range_with_len 0 count)) k x at) in
    sym (get_or_from_slice_get (map f (range_with_len 0 count)) k x x at) ∙ get_or-map-range_with_len f 0 count k k x below (omega arith)

-- a fresh node is one
pub fresh_node : MadeArePaired → (config : NodeConfig) (words : List (List ℕ)) (factory : AcceptedValue) → config.ports ≤ 32 → length config.banks.now ≤ 8
    → IsSingleNode (single_node (fresh_banks config) words (first_programs factory) (first_passes config factory gnil))
fresh_node law config words factory ports banks =
    let first = first_pass config.address config.banks.now factory gnil in
    record {
      paired = law config.address config.ports config.banks.now factory gnil;
      informed = λ k h at.
          let is : h ≡ first k = numbered_at first config.ports k h at in
          subst (λ (x : PassValue). IsInformed (first_programs factory) x) (sym is) (record { begins = prefix_same _ _ refl; sizes = refl });
      few_ports = rw (length-map-range_with_len first 0 config.ports) ports;
      few_banks = rw (length-map config.banks.now (bank_of config.ports)) banks;
    }

-- its ports serve under its windows
pub fresh_under : (config : NodeConfig) (factory : AcceptedValue) → AreUnder (windows_of config.address config.banks.now) (first_passes config factory gnil)
fresh_under config factory = λ k h at.
    ap (λ (x : PassValue). x.windows) (numbered_at (first_pass config.address config.banks.now factory gnil) config.ports k h at)
