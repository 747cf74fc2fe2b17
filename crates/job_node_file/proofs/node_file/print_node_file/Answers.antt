use Rattle.std.proofs.Common.{◌≡◌, option_map, rules}
use Rattle.std.specs.Prelude.{string_bytes}
use Rattle.std.proofs.lemmas.Result.{err_from_is_err_and}
use Rattle.job_node_file.proofs.Unprinted.{no_quotas, no_text}
use Rattle.job_node_file.proofs.node_file.print_node_file.Goals as goal

pub returns-in_err-quotas-clause-stops : goal.returns-in_err-quotas-clause-stops
returns-in_err-quotas-clause-stops g c =
    let gone = err_from_is_err_and c.from_residual-in_err-quotas.result c.from_residual-in_err-quotas.ensures.1 in
    let named : option_map (λ n. n.now) c.as_deref.result ≡ option_map string_bytes c.args.words.now.table = search rules in
    let text_is : option_map (λ t. t.now) c.as_deref-2.result ≡ option_map string_bytes c.in_ok-table.table = search rules in
    rw (gone.1) (no_quotas _ c.args.words.now _ _ _ _ _ _ _ _ _ named c.in_ok-table.ensures.text c.as_str.ensures.value c.in_ok-node.ensures.node text_is _ _ gone.2 c.in_err-quotas.ensures.none)

pub returns-in_err-text-clause-stops : goal.returns-in_err-text-clause-stops
returns-in_err-text-clause-stops g c =
    let gone = err_from_is_err_and c.from_residual-in_err-text.result c.from_residual-in_err-text.ensures.1 in
    let named : option_map (λ n. n.now) c.as_deref.result ≡ option_map string_bytes c.args.words.now.table = search rules in
    let text_is : option_map (λ t. t.now) c.as_deref-2.result ≡ option_map string_bytes c.in_ok-table.table = search rules in
    rw (gone.1) (no_text _ c.args.words.now _ _ _ _ _ _ _ _ _ named c.in_ok-table.ensures.text c.as_str.ensures.value c.in_ok-node.ensures.node text_is _ _ gone.2 c.in_ok-quotas.ensures.quotas)
