use Rattle.std.proofs.Common.{◌≡◌, ◌≤◌, ◌∙◌, ℕ, List, [], length, refl, sym, ap, subst}
use Rattle.std.specs.Prelude.{nat_le}
use Rattle.std.specs.List.{list_all}
use Rattle.std.proofs.lemmas.List.{length-replicate}
use Rattle.std.proofs.lemmas.List.FromFn.{length-map-range_with_len}
use Rattle.bank.specs.Records.{BankValue}
use Rattle.node_programs.specs.declared.publishes.Publish.{Publish}
use Rattle.node_parts.specs.Passes.{PassValue}
use Rattle.single_node.specs.Nodes.{SingleNodeValue}
use Rattle.job_nodes.specs.JobNode.{job_node, rooms_of}
use Rattle.job_nodes.proofs.Banks.{fresh_rooms, some_port, within_limits}
use Rattle.job_nodes.proofs.node.JobNode.fresh.Goals as goal

-- nodes of the same parts
same_node : (b banks : List BankValue) (w words : List (List ℕ)) (p programs : List Publish) (h passes : List PassValue) (f held : List (List ℕ)) (r reply : List ℕ)
    → b ≡ banks → w ≡ words → p ≡ programs → h ≡ passes → f ≡ held → r ≡ reply → job_node b w p h f r ≡ job_node banks words programs passes held reply
same_node b banks w words p programs h passes f held r reply same_banks same_words same_programs same_passes same_held same_reply =
    rw (same_banks, same_words, same_programs, same_passes, same_held, same_reply) refl

pub returns : goal.returns
returns c =
    let fresh = c.in-Ok.ensures.fresh in
    same_node _ _ _ _ _ _ _ _ _ _ _ _ (ap (λ (n : SingleNodeValue). n.banks) fresh) (ap (λ (n : SingleNodeValue). n.words) fresh)
    (ap (λ (n : SingleNodeValue). n.programs) fresh) (ap (λ (n : SingleNodeValue). n.passes) fresh) c.in_ok-feeds.ensures c.new-3.ensures

pub invariant_of-result : goal.invariant_of-result
invariant_of-result c =
    let config = c.args.config.now in
    let fresh = c.in-Ok.ensures.fresh in
    let limits = within_limits config c.in-Ok.ensures.limits in
    let held = ap (λ (xs : List (List ℕ)). length xs) c.in_ok-feeds.ensures ∙ length-replicate config.ports [] in
    let passes = ap (λ (n : SingleNodeValue). length n.passes) fresh ∙ length-map-range_with_len _ 0 config.ports in
    record {
      some = subst (λ (n : ℕ). 1 ≤ n) (sym passes) (some_port config.ports limits.0);
      rooms = ap (λ (n : SingleNodeValue). list_all (λ room. nat_le 1 room) (rooms_of n.banks)) fresh ∙ fresh_rooms config limits.1;
      ports = held ∙ sym passes;
    }
